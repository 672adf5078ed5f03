-- What is held once ranges that were received stand in the place of what was held before.
use Rattle.std.proofs.Common.{◌≡◌, ◌∙◌, ℕ, ℤ, pos, ◌+ℤ◌, ◌-ℤ◌, ◌≤ℤ◌, negsuc, length, ◌<◌, ◌==◌, ◌&&◌, ◌||◌, nat_lt, nat_le, int_le, Bool, true, false, cond, List, [], ◌∷◌, ◌++◌, map, filter, Option, Some, None, is_some, refl, sym, ap, subst, arith}
use Rattle.std.specs.List.{AllByRecursion, list_all}
use Rattle.std.specs.List.Sorted.{IsStrictlySortedBy}
use Rattle.std.specs.Map.{keys_of}
use Rattle.std.specs.Option.{option_map, option_map_or}
use Rattle.std.specs.Ordering.{nat_cmp}
use Rattle.std.specs.declared.cmp.Ordering.TheVariants.{Less}
use Rattle.std.proofs.lemmas.Bool.{eqb-true}
use Rattle.std.proofs.lemmas.Bool.Decides.{nat_tests}
use Rattle.std.proofs.lemmas.Cmp.{ranked}
use Rattle.std.proofs.lemmas.Int.{ints}
use Rattle.merge_ident.specs.declared.grants.Range.{Range}
use Rattle.merge_ident.specs.Grants.{natural}
use Rattle.merge_ident.specs.Holders.{Holder, held_from, new_holder, range_of, unused}
use Rattle.merge_schema.specs.declared.publication.Identity.{Identity}
use Rattle.merge_schema.specs.declared.publication.Publication.{Publication}
use Rattle.merge_record.specs.declared.ranges.HeldRanges.{HeldRanges}
use Rattle.merge_keeper.specs.Entries.{held_ranges, next_held, was_received}
use Rattle.merge_keeper.specs.Given.{has_holder}
use Rattle.merge_keeper.specs.Start.{are_kept, has_values, holder_of, identity_at, is_next_in, with_held, with_value_at}
use Rattle.merge_keeper.specs.SubscriberRules.{held_with}
use Rattle.merge_keeper.proofs.Fronts.{and_first, and_second}

-- ---- a record's ranges are those of its holder

ranges_back : (ranges : List Range) (next : ℤ) → map range_of (held_from ranges next) ≡ ranges
ranges_back [] next = refl
ranges_back (first ∷ rest) next = ap (λ (l : List Range). first ∷ l) (unused_back rest)
  where
    unused_back : (rest : List Range) → map range_of (map unused rest) ≡ rest
    unused_back [] = refl
    unused_back (range ∷ rest) = ap (λ (l : List Range). range ∷ l) (unused_back rest)

from_zero : (d : ℤ) → pos 0 ≤ℤ d → pos (natural d) ≡ d
from_zero (pos n) h = refl
from_zero (negsuc n) h = absurd (omega (arith, ints, h))

natural_back : (begin next : ℤ) → int_le begin next ≡ true → begin +ℤ pos (natural (next -ℤ begin)) ≡ next
natural_back begin next h =
    let le : begin ≤ℤ next = grind (arith, ints, nat_tests, h) in
    let same : pos (natural (next -ℤ begin)) ≡ next -ℤ begin = from_zero (next -ℤ begin) (omega (arith, ints, le)) in
    omega (arith, ints, same)

next_back : (ranges : List Range) (next : ℤ) → is_next_in ranges next ≡ true → next_held (held_from ranges next) ≡ next
next_back [] next h = grind (arith, ints, nat_tests, h)
next_back (first ∷ rest) next h = natural_back first.begin next (and_first (int_le first.begin next) (int_le next first.end) h)

pub held_back : (identity : Identity) (held : HeldRanges) → are_kept held.ranges held.next ≡ true → held_ranges (holder_of identity held) ≡ held
unfolding are_kept
held_back identity held h =
    ap (λ (ranges : List Range). record held { ranges = ranges; next = next_held (held_from held.ranges held.next) }) (ranges_back held.ranges held.next)
    ∙ ap (λ (next : ℤ). record held { next = next }) (next_back held.ranges held.next (and_second (nat_le (length held.ranges) 2 && list_all has_values held.ranges) (is_next_in held.ranges held.next) h))

-- ---- the ranges of records, one after the other

abbrev pub held_after : Publication → List (ℕ × Holder) → List (ℕ × HeldRanges) → List (ℕ × Holder)
held_after publication held [] = held
held_after publication held (x ∷ xs) = held_after publication (with_held publication held x.0 x.1) xs

pub after_one_more : (publication : Publication) (held : List (ℕ × Holder)) (xs : List (ℕ × HeldRanges)) (x : ℕ × HeldRanges) → with_held publication (held_after publication held xs) x.0 x.1 ≡ held_after publication held (xs ++ x ∷ [])
after_one_more publication held [] x = refl
after_one_more publication held (y ∷ ys) x = after_one_more publication (with_held publication held y.0 y.1) ys x

-- what an article's holder is with the ranges of a record
abbrev pub holder_with : Option Identity → HeldRanges → Holder
holder_with None held = new_holder 0
holder_with (Some identity) held = holder_of identity held

abbrev pub holder_pair : Publication → ℕ × HeldRanges → ℕ × Holder
holder_pair publication x = (x.0, holder_with (identity_at publication x.0) x.1)

-- of a record whose article has an identity column, that some range was received, and where the next value is
pub record IsReceived (publication : Publication) (x : ℕ × HeldRanges) : Type 0 where
  pub identity : is_some (identity_at publication x.0) ≡ true
  pub kept : are_kept x.1.ranges x.1.next ≡ true
  pub have : nat_lt 0 x.1.have ≡ true

pub record Restored (publication : Publication) (x : ℕ × HeldRanges) : Type 0 where
  pub ranges : held_ranges (holder_pair publication x).1 ≡ x.1
  pub received : was_received (holder_pair publication x) ≡ true
  pub same : option_map (λ identity. holder_of identity x.1) (identity_at publication x.0) ≡ Some (holder_pair publication x).1
  pub put : (held : List (ℕ × Holder)) → with_held publication held x.0 x.1 ≡ with_value_at held x.0 (holder_pair publication x).1

-- the holder of a record that was received
restored_by : (publication : Publication) (x : ℕ × HeldRanges) → IsReceived publication x → (o : Option Identity) → identity_at publication x.0 ≡ o → is_some o ≡ true → Restored publication x
restored_by publication x r None e h = absurd cc
restored_by publication x r (Some identity) e h = record {
  ranges = ap (λ (o : Option Identity). held_ranges (holder_with o x.1)) e ∙ held_back identity x.1 r.kept;
  received = ap (λ (o : Option Identity). nat_lt 0 (holder_with o x.1).have) e ∙ r.have;
  same = ap (λ (o : Option Identity). option_map (λ identity. holder_of identity x.1) o) e ∙ ap (λ (o : Option Identity). (let h : Option Holder = Some (holder_with o x.1) in h)) (sym e);
  put = λ held. ap (λ (o : Option Identity). option_map_or (λ identity. with_value_at held x.0 (holder_of identity x.1)) o held) e ∙ ap (λ (o : Option Identity). with_value_at held x.0 (holder_with o x.1)) (sym e);
}

pub restored : (publication : Publication) (x : ℕ × HeldRanges) → IsReceived publication x → Restored publication x
restored publication x r = restored_by publication x r (identity_at publication x.0) refl r.identity

pub held_put : (publication : Publication) (held : List (ℕ × Holder)) (xs : List (ℕ × HeldRanges)) → AllByRecursion (IsReceived publication) xs → held_after publication held xs ≡ held_with held (map (holder_pair publication) xs)
held_put publication held [] r = refl
held_put publication held (x ∷ xs) r =
    ap (λ (now : List (ℕ × Holder)). held_after publication now xs) ((restored publication x r.0).put held)
    ∙ held_put publication (with_value_at held x.0 (holder_pair publication x).1) xs r.1

-- ---- what was received is what is in the place of others

abbrev AreOver : ℕ → List (ℕ × Holder) → Type 0
AreOver n ps = AllByRecursion (λ p. n < p.0) ps

abbrev Rise : List (ℕ × Holder) → Type 0
Rise [] = Unit {0}
Rise (p ∷ ps) = AreOver p.0 ps × Rise ps

over_step : (a b : ℕ) → nat_cmp a b ≡ Less → a < b
over_step a b e = ranked a b Less (sym e)

over_keys : (n : ℕ) (ps : List (ℕ × Holder)) → AllByRecursion (λ k. nat_cmp n k ≡ Less) (keys_of ps) → AreOver n ps
over_keys n [] h = tt
over_keys n (p ∷ ps) h = (over_step n p.0 h.0, over_keys n ps h.1)

rise_of : (ps : List (ℕ × Holder)) → IsStrictlySortedBy nat_cmp (keys_of ps) → Rise ps
unfolding IsStrictlySortedBy
rise_of [] h = tt
rise_of (p ∷ ps) h = (over_keys p.0 ps h.0, rise_of ps h.1)

apart : (a b : ℕ) → a < b → (a == b) ≡ false
apart a b h = grind (arith, nat_tests, h)

apart_too : (a b : ℕ) → a < b → (b == a) ≡ false
apart_too a b h = grind (arith, nat_tests, h)

-- a value at a number that is not there changes nothing
none_replaced : (n : ℕ) (v : Holder) (ps : List (ℕ × Holder)) → AreOver n ps → with_value_at ps n v ≡ ps
none_replaced n v [] h = refl
none_replaced n v (p ∷ ps) h =
    ap (λ (b : Bool). (let l : List (ℕ × Holder) = cond b (n, v) p ∷ with_value_at ps n v in l)) (apart_too n p.0 h.0)
    ∙ ap (λ (l : List (ℕ × Holder)). p ∷ l) (none_replaced n v ps h.1)

-- values behind the first one leave it
first_stays : (p : ℕ × Holder) (held ps : List (ℕ × Holder)) → AreOver p.0 ps → held_with (p ∷ held) ps ≡ p ∷ held_with held ps
first_stays p held [] h = refl
first_stays p held (q ∷ ps) h =
    ap (λ (b : Bool). held_with (cond b (q.0, q.1) p ∷ with_value_at held q.0 q.1) ps) (apart p.0 q.0 h.0)
    ∙ first_stays p (with_value_at held q.0 q.1) ps h.1

-- the one at the number of the first one takes its place
first_replaced : (p q : ℕ × Holder) (held ps : List (ℕ × Holder)) → p.0 ≡ q.0 → AreOver p.0 held → AreOver p.0 ps → held_with (p ∷ held) (q ∷ ps) ≡ q ∷ held_with held ps
first_replaced p q held ps same over later =
    let here : (p.0 == q.0) ≡ true = grind (arith, nat_tests, same) in
    ap (λ (b : Bool). held_with (cond b (q.0, q.1) p ∷ with_value_at held q.0 q.1) ps) here
    ∙ ap (λ (l : List (ℕ × Holder)). held_with (q ∷ l) ps) (none_replaced q.0 q.1 held (subst (λ (n : ℕ). AreOver n held) same over))
    ∙ first_stays q held ps (subst (λ (n : ℕ). AreOver n ps) same later)

pub none_left : (held : List (ℕ × Holder)) → AllByRecursion (λ p. p.1.have ≡ 0) held → filter was_received held ≡ []
none_left [] h = refl
none_left (p ∷ held) h = rw h.0 (none_left held h.1)

abbrev AreThere : List (ℕ × Holder) → List (ℕ × Holder) → Type 0
AreThere held ps = AllByRecursion (λ p. has_holder held p.0 ≡ true) ps

later_there : (n : ℕ) (p : ℕ × Holder) (held ps : List (ℕ × Holder)) → p.0 ≡ n → AreOver n ps → AreThere (p ∷ held) ps → AreThere held ps
later_there n p held [] same over there = tt
later_there n p held (q ∷ ps) same over there =
    let differs : (p.0 == q.0) ≡ false = grind (arith, nat_tests, same, over.0) in
    (sym (ap (λ (b : Bool). b || has_holder held q.0) differs) ∙ there.0, later_there n p held ps same over.1 there.1)

all_later : (n m : ℕ) (ps : List (ℕ × Holder)) → n < m → AreOver m ps → AreOver n ps
all_later n m [] lt h = tt
all_later n m (p ∷ ps) lt h = (omega (arith, lt, h.0), all_later n m ps lt h.1)

-- a number that is there and not the first one's is above it
later_by_place : (n m : ℕ) (p : ℕ × Holder) (there : Bool) → n < p.0 → (there ≡ true → n < m) → (b : Bool) → (p.0 == m) ≡ b → (b || there) ≡ true → n < m
later_by_place n m p there over rest true e h = let same : p.0 ≡ m = eqb-true p.0 m e in omega (arith, same, over)
later_by_place n m p there over rest false e h = rest h

found_later : (n : ℕ) (held : List (ℕ × Holder)) (m : ℕ) → AreOver n held → has_holder held m ≡ true → n < m
found_later n [] m over there = absurd (no there)
  where
    no : false ≡ true → ⊥
    no e = cc
found_later n (p ∷ held) m over there = later_by_place n m p (has_holder held m) over.0 (found_later n held m over.1) (p.0 == m) refl there

drop_first : (p : ℕ × Holder) (l : List (ℕ × Holder)) → p.1.have ≡ 0 → filter was_received (p ∷ l) ≡ filter was_received l
drop_first p l none = rw none refl

keep_first : (p : ℕ × Holder) (l : List (ℕ × Holder)) → was_received p ≡ true → filter was_received (p ∷ l) ≡ p ∷ filter was_received l
keep_first p l received = rw received refl

module _ (p q : ℕ × Holder) (held ps : List (ℕ × Holder)) (rise : Rise (p ∷ held)) (none : AllByRecursion (λ p. p.1.have ≡ 0) (p ∷ held)) (up : Rise (q ∷ ps)) (got : AllByRecursion (λ p. was_received p ≡ true) (q ∷ ps)) (there : AreThere (p ∷ held) (q ∷ ps)) where
  received_step : (AreThere held ps → filter was_received (held_with held ps) ≡ ps) → (AreThere held (q ∷ ps) → filter was_received (held_with held (q ∷ ps)) ≡ q ∷ ps) → (b : Bool) → (p.0 == q.0) ≡ b → filter was_received (held_with (p ∷ held) (q ∷ ps)) ≡ q ∷ ps
  received_step same later true e =
      let is : p.0 ≡ q.0 = eqb-true p.0 q.0 e in
      let over : AreOver p.0 ps = subst (λ (n : ℕ). AreOver n ps) (sym is) up.0 in
      ap (filter was_received) (first_replaced p q held ps is rise.0 over)
      ∙ keep_first q (held_with held ps) got.0
      ∙ ap (λ (l : List (ℕ × Holder)). q ∷ l) (same (later_there p.0 p held ps refl over there.1))
  received_step same later false e =
      let first : has_holder held q.0 ≡ true = sym (ap (λ (b : Bool). b || has_holder held q.0) e) ∙ there.0 in
      let over : p.0 < q.0 = found_later p.0 held q.0 rise.0 first in
      let all : AreOver p.0 (q ∷ ps) = (over, all_later p.0 q.0 ps over up.0) in
      ap (filter was_received) (first_stays p held (q ∷ ps) all)
      ∙ drop_first p (held_with held (q ∷ ps)) none.0
      ∙ later (later_there p.0 p held (q ∷ ps) refl all there)

received_is : (held ps : List (ℕ × Holder)) → Rise held → AllByRecursion (λ p. p.1.have ≡ 0) held → Rise ps → AllByRecursion (λ p. was_received p ≡ true) ps → AreThere held ps → filter was_received (held_with held ps) ≡ ps
received_is [] [] rise none up got there = refl
received_is [] (q ∷ ps) rise none up got there = absurd (no there.0)
  where
    no : false ≡ true → ⊥
    no e = cc
received_is (p ∷ held) [] rise none up got there = none_left (p ∷ held) none
received_is (p ∷ held) (q ∷ ps) rise none up got there =
    received_step p q held ps rise none up got there (received_is held ps rise.1 none.1 up.1 got.1) (received_is held (q ∷ ps) rise.1 none.1 up got) (p.0 == q.0) refl

-- what was received of all that is held is what was put there
pub received_back : (held ps : List (ℕ × Holder)) → IsStrictlySortedBy nat_cmp (keys_of held) → AllByRecursion (λ p. p.1.have ≡ 0) held → IsStrictlySortedBy nat_cmp (keys_of ps) → AllByRecursion (λ p. was_received p ≡ true) ps
    → AllByRecursion (λ p. has_holder held p.0 ≡ true) ps → filter was_received (held_with held ps) ≡ ps
received_back held ps rise none up got there = received_is held ps (rise_of held rise) none (rise_of ps up) got there

-- the articles stay
key_step : (p : ℕ × Holder) (n : ℕ) (v : Holder) (b : Bool) → (p.0 == n) ≡ b → (let x : ℕ × Holder = cond b (n, v) p in x).0 ≡ p.0
key_step p n v true e = sym (eqb-true p.0 n e)
key_step p n v false e = refl

keys_stay : (n : ℕ) (v : Holder) (held : List (ℕ × Holder)) → keys_of (with_value_at held n v) ≡ keys_of held
keys_stay n v [] = refl
keys_stay n v (p ∷ held) =
    ap (λ (k : ℕ). k ∷ keys_of (with_value_at held n v)) (key_step p n v (p.0 == n) refl) ∙ ap (λ (l : List ℕ). p.0 ∷ l) (keys_stay n v held)

pub held_keys : (held ps : List (ℕ × Holder)) → keys_of (held_with held ps) ≡ keys_of held
held_keys held [] = refl
held_keys held (p ∷ ps) = held_keys (with_value_at held p.0 p.1) ps ∙ keys_stay p.0 p.1 held
