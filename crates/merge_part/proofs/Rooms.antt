-- How many slots there are once room is made for changes.
use Rattle.std.proofs.Common.{◌≡◌, ◌≤◌, ◌+◌, ℕ, List, [], ◌∷◌, length, arith}
use Rattle.std.specs.declared.cmp.Ordering.{Ordering}
use Rattle.std.specs.declared.cmp.Ordering.TheVariants.{Less, Equal, Greater}
use Rattle.std.specs.Ordering.{match_ordering}
use Rattle.std.specs.BTreeSet.{insert_key}
use Rattle.merge_table.specs.declared.edit.Edit.{Edit}
use Rattle.merge_table.specs.declared.edit.Edit.TheVariants.{Put, Take}
use Rattle.merge_table.specs.Edits.{slots_for, slots_for_all}

key_more : {K : Type 0} (cmp : K → K → Ordering) (k x : K) (keys : List K) → length (insert_key cmp keys k) ≤ length keys + 1
    → (r : Ordering) → length (match_ordering r (k ∷ x ∷ keys) (x ∷ keys) (x ∷ insert_key cmp keys k)) ≤ length (x ∷ keys) + 1
key_more cmp k x keys rest Less = let fits : length (k ∷ x ∷ keys) ≤ length (x ∷ keys) + 1 = omega arith in fits
key_more cmp k x keys rest Equal = let fits : length (x ∷ keys) ≤ length (x ∷ keys) + 1 = omega arith in fits
key_more cmp k x keys rest Greater = let fits : length (x ∷ insert_key cmp keys k) ≤ length (x ∷ keys) + 1 = omega (arith, rest) in fits

one_more : {K : Type 0} (cmp : K → K → Ordering) (k : K) (keys : List K) → length (insert_key cmp keys k) ≤ length keys + 1
one_more cmp k [] = omega arith
one_more cmp k (x ∷ keys) = key_more cmp k x keys (one_more cmp k keys) (cmp k x)

slots_more : {K V : Type 0} (cmp : K → K → Ordering) (slots : List K) (edit : Edit K V) → length (slots_for cmp slots edit) ≤ length slots + 1
slots_more cmp slots (Put key row) = one_more cmp key slots
slots_more cmp slots (Take key) = let fits : length slots ≤ length slots + 1 = omega arith in fits

-- each change makes one slot at most
pub few_slots : {K V : Type 0} (cmp : K → K → Ordering) (slots : List K) (edits : List (Edit K V)) → length (slots_for_all cmp slots edits) ≤ length slots + length edits
few_slots cmp slots [] = let fits : length slots ≤ length slots + 0 = omega arith in fits
few_slots cmp slots (edit ∷ edits) =
    let fits : length (slots_for_all cmp (slots_for cmp slots edit) edits) ≤ length slots + length (edit ∷ edits) = omega (arith, slots_more cmp slots edit, few_slots cmp (slots_for cmp slots edit) edits) in
    fits

pub room_after : {K V : Type 0} (cmp : K → K → Ordering) (slots slots' : List K) (edits : List (Edit K V)) (most : ℕ) → slots' ≡ slots_for_all cmp slots edits → length slots ≤ most → length slots' ≤ most + length edits
room_after cmp slots slots' edits most is few = rw is (omega (arith, few_slots cmp slots edits, few))

-- no less is allowed with a plan
pub room_still : {X : Type 0} (slots most : ℕ) (plan : List X) → slots ≤ most → slots ≤ most + length plan
room_still slots most plan few = omega (arith, few)
