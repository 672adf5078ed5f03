-- What is kept of stores as slots are added and filled, and what is told of it.
use Rattle.std.proofs.Common.{◌≡◌, ◌∙◌, ℕ, ◌<◌, ◌==◌, ◌&&◌, Bool, true, false, cond, List, [], ◌∷◌, ◌++◌, length, refl, sym, ap, subst, arith}
use Rattle.std.specs.Prelude.{bytes_eq, position, slice_get, slice_index_or, slice_set}
use Rattle.std.specs.List.{find}
use Rattle.std.proofs.lemmas.Bool.{eqb-true}
use Rattle.std.proofs.lemmas.List.Folds.{find_at, find-set, find_past}
use Rattle.std.proofs.lemmas.List.Quantifiers.{position-Some}
use Rattle.std.proofs.lemmas.Option.{slice_get_read}
use Rattle.std.proofs.lemmas.Slice.Eq.{bytes_eq-Decides}
use Rattle.std.proofs.lemmas.Bool.Decides.{nat_tests}
use Rattle.std.specs.declared.option.Option.{Option}
use Rattle.std.specs.declared.option.Option.TheVariants.{None, Some}
use Rattle.merge_types.specs.declared.identifiers.SiteId.{SiteId}
use Rattle.merge_ports.specs.Entries.{Map}
use Rattle.merge_ports.specs.Opened.{SameElsewhere}
use Rattle.merge_outside.specs.declared.slots.Slot.{Slot}
use Rattle.merge_outside.proofs.Places.{found-at}
use Rattle.merge_outside.specs.Slots.{is_slot, kept_by, kept_in, told_in, told_or, told_unkept, KeepsOthers}

-- a store in a file of which nothing is kept is not told
pub unkept_file : (path : List ℕ) → (path ≡ [] → ⊥) → told_unkept path ≡ None
unkept_file [] is_file = absurd (is_file refl)
unkept_file (byte ∷ path) is_file = refl

behind : {K : Type 0} (b : Bool) (slot : Slot K) (found new : Option (Slot K)) → kept_by new ≡ kept_by found → kept_by (cond b (Some slot) new) ≡ kept_by (cond b (Some slot) found)
behind true slot found new same = refl
behind false slot found new same = same

new_slot : {K : Type 0} (b : Bool) (slot : Slot K) → slot.kept ≡ None → kept_by (cond b (Some slot) None) ≡ None
new_slot true slot empty = empty
new_slot false slot empty = refl

-- an empty slot more changes nothing
pub kept-push : {K : Type 0} (slots : List (Slot K)) (new : Slot K) → new.kept ≡ None → (s : SiteId) (p : List ℕ) → kept_in (slots ++ new ∷ []) s p ≡ kept_in slots s p
kept-push [] new empty s p = new_slot (is_slot s p new) new empty
kept-push (slot ∷ slots) new empty s p =
    behind (is_slot s p slot) slot (find (is_slot s p) slots) (find (is_slot s p) (slots ++ new ∷ [])) (kept-push slots new empty s p)

-- what is told of other stores goes by what is kept of them
pub told-elsewhere : {K : Type 0} (told : K → Option Map) (old new : List (Slot K)) (site : SiteId) (path : List ℕ) → KeepsOthers site path old new → SameElsewhere site path (told_in told old) (told_in told new)
told-elsewhere told old new site path others s p apart = ap (told_or told (told_unkept p)) (others s p apart)

abbrev site_of : ℕ → SiteId
site_of n = record { 0 = n }

both_true : (a b : Bool) → (a && b) ≡ true → (a ≡ true) × (b ≡ true)
both_true true b e = (refl, e)
both_true false b e = absurd cc

-- a slot that is a store's has its site and path
slot_is : {K : Type 0} (site : SiteId) (path : List ℕ) (slot : Slot K) → is_slot site path slot ≡ true → (slot.site ≡ site) × (slot.path ≡ path)
slot_is site path slot is =
    let both = both_true (slot.site.0 == site.0) (bytes_eq slot.path path) is in
    (ap site_of (eqb-true slot.site.0 site.0 both.0), (bytes_eq-Decides slot.path path).0 both.1)

same_number : (n : ℕ) → (n == n) ≡ true
same_number n = grind (arith, nat_tests)

-- and one with its site and path is
pub own_slot : {K : Type 0} (site : SiteId) (path : List ℕ) (slot : Slot K) → slot.site ≡ site → slot.path ≡ path → is_slot site path slot ≡ true
own_slot site path slot same_site same_path = rw (same_site, same_path, same_number site.0) ((bytes_eq-Decides path path).1 refl)

other_slot : {K : Type 0} (site s : SiteId) (path p : List ℕ) (slot : Slot K) → is_slot site path slot ≡ true → ((s ≡ site) × (p ≡ path) → ⊥) → (b : Bool) → is_slot s p slot ≡ b → b ≡ false
other_slot site s path p slot is apart true e =
    let here = slot_is site path slot is in
    let there = slot_is s p slot e in
    absurd (apart (sym there.0 ∙ here.0, sym there.1 ∙ here.1))
other_slot site s path p slot is apart false e = refl

abbrev pub filled : {K : Type 0} → Slot K → Option K → Slot K
filled slot kept = record { site = slot.site; path = slot.path; kept = kept }

found_slot : {K : Type 0} (slots : List (Slot K)) (site : SiteId) (path : List ℕ) (i : ℕ) (slot : Slot K) → position (is_slot site path) slots ≡ Some i → slot ≡ slice_index_or slots i slot → is_slot site path slot ≡ true
found_slot slots site path i slot found at =
    ap (is_slot site path) at ∙ (position-Some (is_slot site path) slots i slot found).1

-- the slot of a store that was found holds what is kept
pub kept-before : {K : Type 0} (slots : List (Slot K)) (site : SiteId) (path : List ℕ) (i : ℕ) (slot : Slot K) → position (is_slot site path) slots ≡ Some i → slot ≡ slice_index_or slots i slot → slot.kept ≡ kept_in slots site path
kept-before slots site path i slot found at =
    let first = found-at (is_slot site path) slots i found in
    let read : slice_get slots i ≡ Some slot = slice_get_read slots (length slots) i slot refl (subst (λ (n : ℕ). n < length slots) (sym first.1) first.0) at in
    sym (ap kept_by (find_at (is_slot site path) slots ∙ ap (slice_get slots) (sym first.1) ∙ read))

-- and is filled by a write there
pub kept-after : {K : Type 0} (slots : List (Slot K)) (site : SiteId) (path : List ℕ) (i : ℕ) (slot : Slot K) (kept : Option K) → position (is_slot site path) slots ≡ Some i → slot ≡ slice_index_or slots i slot
    → kept_in (slice_set slots i (filled slot kept)) site path ≡ kept
kept-after slots site path i slot kept found at =
    let first = found-at (is_slot site path) slots i found in
    ap kept_by (find-set (is_slot site path) slots i (filled slot kept) first.1 (subst (λ (n : ℕ). n < length slots) (sym first.1) first.0) (found_slot slots site path i slot found at))

-- which changes no other store
pub kept-others : {K : Type 0} (slots : List (Slot K)) (site : SiteId) (path : List ℕ) (i : ℕ) (slot : Slot K) (kept : Option K) → position (is_slot site path) slots ≡ Some i → slot ≡ slice_index_or slots i slot
    → KeepsOthers site path slots (slice_set slots i (filled slot kept))
kept-others slots site path i slot kept found at s p apart =
    let other : is_slot s p slot ≡ false = other_slot site s path p slot (found_slot slots site path i slot found at) apart (is_slot s p slot) refl in
    ap kept_by (find_past (is_slot s p) slots i (filled slot kept) slot (sym (ap (is_slot s p) at) ∙ other) other)
