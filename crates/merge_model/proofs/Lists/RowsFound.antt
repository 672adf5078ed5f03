-- In rows that ascend each is found by its key.
use Rattle.std.specs.List.{AllByRecursion}
use Rattle.std.specs.List.Sorted.{IsStrictlySortedBy}
use Rattle.std.specs.Map.{keys_of}
use Rattle.std.specs.BTreeMap.{is_at}
use Rattle.std.specs.Prelude.{Bool, List, Option, Some, [], cond, false, refl, true, ◌≡◌, ◌∷◌}
use Rattle.std.specs.declared.cmp.Ordering.TheVariants.{Less}
use Rattle.std.proofs.Common.{ap, arith, sym, ◌∙◌}
use Rattle.merge_types.specs.RowKeys.{key_cmp}
use Rattle.merge_types.specs.declared.row_key.RowKey.{RowKey as Key}
use Rattle.merge_table.proofs.Room.{AreAbove}
use Rattle.merge_model.specs.Tables.Keys.{row_at}
use Rattle.merge_model.proofs.Lists.KeyLookUps.{key-itself, key-test, keys-exact}

module _ {R : Type 0} where
  abbrev pub Found : List (Key × R) → Key × R → Type 0
  Found rows row = row_at rows row.0 ≡ Some row.1

  first-found : (row : Key × R) (rows : List (Key × R)) → Found (row ∷ rows) row
  first-found row rows = ap (λ (b : Bool). (let found : Option R = cond b (Some row.1) (row_at rows row.0) in found)) (key-test row.0 row.0 ∙ key-itself row.0)

  -- one that stands above another is not taken for it
  behind-by : (row other : Key × R) (rows : List (Key × R)) (b : Bool) → is_at (key_cmp other.0) row.0 ≡ b → key_cmp row.0 other.0 ≡ Less → Found rows other → Found (row ∷ rows) other
  behind-by row other rows true is above found = absurd (
      let same : other.0 ≡ row.0 = keys-exact other.0 row.0 is in
      let itself : is_at (key_cmp row.0) row.0 ≡ true = key-test row.0 row.0 ∙ key-itself row.0 in
      let less : key_cmp row.0 row.0 ≡ Less = ap (λ (k : Key). key_cmp row.0 k) (sym same) ∙ above in
      grind (arith, itself, less))
  behind-by row other rows false is above found = ap (λ (b : Bool). (let found : Option R = cond b (Some row.1) (row_at rows other.0) in found)) is ∙ found

  rest-found : (row : Key × R) (all rest : List (Key × R)) → AreAbove key_cmp row.0 (keys_of rest) → AllByRecursion (Found all) rest → AllByRecursion (Found (row ∷ all)) rest
  rest-found row all [] above found = tt
  rest-found row all (other ∷ rest) above found = (behind-by row other all (is_at (key_cmp other.0) row.0) refl above.0 found.0, rest-found row all rest above.1 found.1)

  pub each-found : (rows : List (Key × R)) → IsStrictlySortedBy key_cmp (keys_of rows) → AllByRecursion (Found rows) rows
  unfolding IsStrictlySortedBy
  each-found [] sorted = tt
  each-found (row ∷ rows) sorted = (first-found row rows, rest-found row rows rows sorted.0 (each-found rows sorted.1))
