-- What a list becomes where edits, one after another, write over its places.
use Rattle.std.proofs.Common.{◌≡◌, ℕ, zero, suc, ◌+◌, ◌<◌, List, [], ◌∷◌, length, get_or, set, take, map, Option, Some, None, if◌then◌else◌, refl, sym, ap, ◌∙◌, arith}
use Rattle.std.specs.Prelude.{All, ◌==◌}
use Rattle.std.specs.List.{enumerate_from}
use Rattle.std.proofs.lemmas.List.{same_lists, get_or-map, get_or-set_same, get_or-set_other, length-set, length-map}
use Rattle.std.proofs.lemmas.Grind.{common_steps}
use Rattle.std.proofs.lemmas.List.Elements.{All-head, All-tail}
use Rattle.std.proofs.lemmas.List.FromFn.{length-enumerate_from, get_or-enumerate_from}
use Rattle.std.proofs.lemmas.Bool.Decides.{nat_tests}
use Rattle.merge_types.specs.declared.Value.{Value}
use Rattle.merge_types.specs.declared.Setting.{Setting}
use Rattle.merge_units.specs.declared.version.Cell.{Cell}
use Rattle.merge_units.specs.Length.{value_count}
use Rattle.merge_units.specs.Changes.{set_value, ColumnsAscend}

-- one more edit sets its column, which none before it sets
set_value_more : (edits : List Setting) → ColumnsAscend edits → (i : ℕ) (e : Setting) → i < length edits → e ≡ get_or edits i e → (k : ℕ)
    → set_value (take (suc i) edits) k ≡ (if e.column == k then Some e.value else set_value (take i edits) k)
set_value_more [] ascends i e lt at k = absurd (omega arith)
set_value_more (x ∷ xs) ascends zero e lt at k = grind (arith, nat_tests)
set_value_more (x ∷ xs) ascends (suc i) e lt at k =
    let later = set_value_more xs (λ m n d below in_range. ascends (suc m) (suc n) d (omega arith) (omega arith)) i e (omega arith) at k in
    let above : x.column < e.column = rw at (ascends zero (suc i) e (omega arith) (omega arith)) in
    grind (arith, nat_tests)

module _ {X : Type 0} (put : Option Value → X → X) (xs : List X) where
  -- each place with what the edits set there
  abbrev pub written : List Setting → List X
  written edits = map (λ (place : ℕ × X). put (set_value edits place.0) place.1) (enumerate_from 0 xs)

  length-written : (edits : List Setting) → length (written edits) ≡ length xs
  length-written edits = length-map (enumerate_from 0 xs) (λ (place : ℕ × X). put (set_value edits place.0) place.1) ∙ length-enumerate_from 0 xs

  get_or-written : (edits : List Setting) (k : ℕ) (d : X) → k < length xs → get_or (written edits) k d ≡ put (set_value edits k) (get_or xs k d)
  get_or-written edits k d lt =
      let place : get_or (enumerate_from 0 xs) k (0, d) ≡ (k, get_or xs k d) = grind (arith, get_or-enumerate_from 0 xs k (0, d) lt) in
      get_or-map (λ (place : ℕ × X). put (set_value edits place.0) place.1) (enumerate_from 0 xs) k (0, d) d (rw length-enumerate_from lt)
      ∙ ap (λ (place : ℕ × X). put (set_value edits place.0) place.1) place

  module _ (edits : List Setting) (ascends : ColumnsAscend edits) (i : ℕ) (e : Setting) (lt : i < length edits) (at : e ≡ get_or edits i e) (in_range : e.column < length xs) (made : X) (makes : (x : X) → put (Some e.value) x ≡ made) where
    at_place : (k : ℕ) (d : X) → k < length xs → get_or (set (written (take i edits)) e.column made) k d ≡ get_or (written (take (suc i) edits)) k d
    at_place k d below =
        let before = get_or-written (take i edits) k d below in
        let after = get_or-written (take (suc i) edits) k d below in
        let more = set_value_more edits ascends i e lt at k in
        grind (arith, nat_tests, length-written (take i edits), get_or-set_same (written (take i edits)) e.column made d, get_or-set_other (written (take i edits)) e.column k made d, makes (get_or xs k d))

    pub written_more : set (written (take i edits)) e.column made ≡ written (take (suc i) edits)
    written_more = same_lists _ _
        (length-set (written (take i edits)) e.column made ∙ length-written (take i edits) ∙ sym (length-written (take (suc i) edits)))
        (λ k d below. at_place k d (rw (length-set, length-written (take i edits)) at below))

-- with no edit each place stays
unwritten_from : {X : Type 0} (put : Option Value → X → X) → ((x : X) → put None x ≡ x) → (n : ℕ) (xs : List X) → xs ≡ map (λ (place : ℕ × X). put None place.1) (enumerate_from n xs)
unwritten_from put keeps n [] = refl
unwritten_from put keeps n (x ∷ xs) =
    let rest = unwritten_from put keeps (n + 1) xs in
    let first = keeps x in
    cc

pub unwritten : {X : Type 0} (put : Option Value → X → X) → ((x : X) → put None x ≡ x) → (xs : List X) → xs ≡ written put xs []
unwritten put keeps xs = unwritten_from put keeps 0 xs

-- where each cell has one value, there are as many values as cells
pub one_value_each : (cells : List Cell) → All (λ (cell : Cell). length cell.values ≡ 1) cells → value_count cells ≡ length cells
one_value_each [] each = refl
one_value_each (x ∷ xs) each =
    let rest = one_value_each xs (All-tail (λ (cell : Cell). length cell.values ≡ 1) x xs each) in
    let first = All-head (λ (cell : Cell). length cell.values ≡ 1) x xs each in
    grind (arith, common_steps)

-- the column of an edit
pub column_below : (edits : List Setting) (count : ℕ) → All (λ (edit : Setting). edit.column < count) edits → (i : ℕ) (e : Setting) → i < length edits → e ≡ get_or edits i e → e.column < count
column_below edits count each i e lt at = rw at (each i e lt)
