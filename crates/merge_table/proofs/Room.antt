-- Which keys have a slot, as slots are made.
use Rattle.std.proofs.Common.{◌≡◌, Bool, true, false, ◌||◌, List, [], ◌∷◌, refl, sym, ap, ◌∙◌}
use Rattle.std.specs.declared.cmp.Ordering.{Ordering}
use Rattle.std.specs.declared.cmp.Ordering.TheVariants.{Less, Equal, Greater}
use Rattle.std.specs.Cmp.{IsTotalOrder}
use Rattle.std.specs.List.{AllByRecursion}
use Rattle.std.specs.List.Sorted.{IsStrictlySortedBy}
use Rattle.std.specs.Ordering.{is_eq, ordering_reverse}
use Rattle.std.specs.BTreeMap.{is_at}
use Rattle.std.specs.BTreeSet.{insert_key}
use Rattle.std.proofs.lemmas.Cmp.{tied_itself}
use Rattle.std.proofs.lemmas.Map.Keys.{sorted_head, sorted_tail}
use Rattle.merge_table.specs.Contents.{has_room}

-- every key of the list is above k
abbrev pub AreAbove : {K : Type 0} → (K → K → Ordering) → K → List K → Type 0
AreAbove cmp k keys = AllByRecursion (λ y. cmp k y ≡ Less) keys

above_equal : {K : Type 0} (cmp : K → K → Ordering) → IsTotalOrder cmp → (k a : K) (keys : List K) → cmp k a ≡ Equal → AreAbove cmp a keys → AreAbove cmp k keys
above_equal cmp o k a [] e h = tt
above_equal cmp o k a (y ∷ keys) e h = (o.congr k a y e ∙ h.0, above_equal cmp o k a keys e h.1)

above_less : {K : Type 0} (cmp : K → K → Ordering) → IsTotalOrder cmp → (k a : K) (keys : List K) → cmp k a ≡ Less → AreAbove cmp a keys → AreAbove cmp k keys
above_less cmp o k a [] e h = tt
above_less cmp o k a (y ∷ keys) e h = (o.trans k a y e h.0, above_less cmp o k a keys e h.1)

-- a key below the first is below all
pub all_above : {K : Type 0} (cmp : K → K → Ordering) → IsTotalOrder cmp → (k a : K) (keys : List K) → IsStrictlySortedBy cmp (a ∷ keys) → cmp k a ≡ Less → AreAbove cmp k (a ∷ keys)
all_above cmp o k a keys s e = (e, above_less cmp o k a keys e (sorted_head cmp a keys s))

-- a key equal to the first is below the others
pub rest_above : {K : Type 0} (cmp : K → K → Ordering) → IsTotalOrder cmp → (k a : K) (keys : List K) → IsStrictlySortedBy cmp (a ∷ keys) → cmp k a ≡ Equal → AreAbove cmp k keys
rest_above cmp o k a keys s e = above_equal cmp o k a keys e (sorted_head cmp a keys s)

pub no_room_above : {K : Type 0} (cmp : K → K → Ordering) (k : K) (keys : List K) → AreAbove cmp k keys → has_room cmp keys k ≡ false
no_room_above cmp k [] h = refl
no_room_above cmp k (y ∷ keys) h = rw h.0 (no_room_above cmp k keys h.1)

-- a key with a slot is not below the first
pub room_not_below : {K : Type 0} (cmp : K → K → Ordering) → IsTotalOrder cmp → (k a : K) (keys : List K) → IsStrictlySortedBy cmp (a ∷ keys) → has_room cmp (a ∷ keys) k ≡ true → cmp k a ≡ Less → true ≡ false
room_not_below cmp o k a keys s p e = sym p ∙ no_room_above cmp k (a ∷ keys) (all_above cmp o k a keys s e)

held_step : {K : Type 0} (cmp : K → K → Ordering) → IsTotalOrder cmp → (k a : K) (keys : List K) → IsStrictlySortedBy cmp (a ∷ keys)
    → (has_room cmp keys k ≡ true → insert_key cmp keys k ≡ keys)
    → has_room cmp (a ∷ keys) k ≡ true
    → (r : Ordering) → cmp k a ≡ r → insert_key cmp (a ∷ keys) k ≡ a ∷ keys
held_step cmp o k a keys s ih p Less e = let q : true ≡ false = room_not_below cmp o k a keys s p e in absurd cc
held_step cmp o k a keys s ih p Equal e = rw e refl
held_step cmp o k a keys s ih p Greater e = rw e (ap (λ l. a ∷ l) (ih (rw e at p)))

-- room for a key that has it is no more room
pub insert_key-held : {K : Type 0} (cmp : K → K → Ordering) → IsTotalOrder cmp → (k : K) (keys : List K) → IsStrictlySortedBy cmp keys → has_room cmp keys k ≡ true → insert_key cmp keys k ≡ keys
insert_key-held cmp o k [] s p = absurd cc
insert_key-held cmp o k (a ∷ keys) s p = held_step cmp o k a keys s (insert_key-held cmp o k keys (sorted_tail cmp a keys s)) p (cmp k a) refl

-- the comparison with either of two equal keys is one
pub cmp_tied : {K : Type 0} (cmp : K → K → Ordering) → IsTotalOrder cmp → (q k a : K) → cmp k a ≡ Equal → cmp q a ≡ cmp q k
cmp_tied cmp o q k a e = o.antisymm q a ∙ ap ordering_reverse (sym (o.congr k a q e)) ∙ sym (o.antisymm q k)

or_again : (b c : Bool) → (b || c) ≡ (b || (b || c))
or_again true c = refl
or_again false c = refl

or_turned : (a b c : Bool) → (a || (b || c)) ≡ (b || (a || c))
or_turned true true c = refl
or_turned true false c = refl
or_turned false b c = refl

room_step : {K : Type 0} (cmp : K → K → Ordering) → IsTotalOrder cmp → (k q a : K) (keys : List K)
    → has_room cmp (insert_key cmp keys k) q ≡ (is_at (cmp q) k || has_room cmp keys q)
    → (r : Ordering) → cmp k a ≡ r
    → has_room cmp (insert_key cmp (a ∷ keys) k) q ≡ (is_at (cmp q) k || has_room cmp (a ∷ keys) q)
room_step cmp o k q a keys ih Less e = rw e refl
room_step cmp o k q a keys ih Equal e = rw (e, cmp_tied cmp o q k a e) (or_again (is_at (cmp q) k) (has_room cmp keys q))
room_step cmp o k q a keys ih Greater e = rw (e, ih) (or_turned (is_at (cmp q) a) (is_at (cmp q) k) (has_room cmp keys q))

-- after room is made for k, q has room if it had it or is equal to k
pub has_room-insert_key : {K : Type 0} (cmp : K → K → Ordering) → IsTotalOrder cmp → (k q : K) (keys : List K) → has_room cmp (insert_key cmp keys k) q ≡ (is_at (cmp q) k || has_room cmp keys q)
has_room-insert_key cmp o k q [] = refl
has_room-insert_key cmp o k q (a ∷ keys) = room_step cmp o k q a keys (has_room-insert_key cmp o k q keys) (cmp k a) refl

pub has_room-made : {K : Type 0} (cmp : K → K → Ordering) → IsTotalOrder cmp → (k : K) (keys : List K) → has_room cmp (insert_key cmp keys k) k ≡ true
has_room-made cmp o k keys = has_room-insert_key cmp o k k keys ∙ ap (λ r. is_eq r || has_room cmp keys k) (tied_itself o k)

pub or_right : (a b : Bool) → b ≡ true → (a || b) ≡ true
or_right true b h = refl
or_right false b h = h

pub has_room-kept : {K : Type 0} (cmp : K → K → Ordering) → IsTotalOrder cmp → (k q : K) (keys : List K) → has_room cmp keys q ≡ true → has_room cmp (insert_key cmp keys k) q ≡ true
has_room-kept cmp o k q keys h = has_room-insert_key cmp o k q keys ∙ or_right _ _ h
