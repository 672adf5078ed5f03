-- The column that the article names gets the sum of both values.
use Rattle.std.specs.Prelude.{ℕ, ℤ, ◌+ℤ◌, Bool, List, map, Option, Some, None, unwrap_or, slice_set, if◌then◌else◌, ◌==◌}
use Rattle.std.specs.List.{list_any}
use Rattle.merge_types.specs.declared.Value.{Value}
use Rattle.merge_types.specs.declared.Value.TheVariants.{Null, Int}
use Rattle.merge_resolve.specs.declared.case.CaseKind.{CaseKind}
use Rattle.merge_resolve.specs.declared.case.ConflictCase.{ConflictCase}
use Rattle.merge_resolve.specs.Counted.{is_by_row}
use Rattle.merge_units.specs.declared.version.Cell.{Cell}
use Rattle.merge_units.specs.declared.result.Decision.{Decision}
use Rattle.merge_units.specs.declared.result.Decision.TheVariants.{Custom}
use Rattle.merge_units.specs.Version.{cells_of}
use Rattle.merge_units.specs.Results.{winner_body}
use Rattle.merge_resolve.specs.Columns.{value_in, body_value, first_values}
use Rattle.merge_resolve.specs.Rules.{by_priority}
use Rattle.merge_resolve.specs.Extremes.{answer_on_both}
pub use Rattle.merge_resolve.specs.ValueTypes.{is_i64}

abbrev pub int_sum : ℤ → ℤ → Option Value
int_sum our their = if is_i64 (our +ℤ their) then Some (Int (our +ℤ their)) else None

-- a Null counts as absent, and two Nulls give Null. Nothing else but numbers has a sum
abbrev pub sum_of : Value → Value → Option Value
sum_of Null Null = Some Null
sum_of (Int our) Null = Some (Int our)
sum_of Null (Int their) = Some (Int their)
sum_of (Int our) (Int their) = int_sum our their
sum_of _ _ = None

-- the cell that has a column: with row tracking the only one
abbrev pub cell_of : CaseKind → ℕ → ℕ
cell_of kind column = if is_by_row kind then 0 else column

-- whether the column is in a conflicting cell
abbrev pub is_in_conflict : CaseKind → List ℕ → ℕ → Bool
is_in_conflict kind cells column = list_any (λ place. place == cell_of kind column) cells

-- the value that the column at a place gets: the sum, or that of the side that wins by priority
abbrev pub column_after : CaseKind → List Cell → ℕ → Value → ℕ → Value
column_after kind winner column sum place = if place == column then sum else unwrap_or (value_in kind winner place) Null

-- the values of the conflicting cells: with row tracking of all columns, else of the conflicting columns in order
abbrev pub with_sum : ConflictCase → List Cell → ℕ → Value → List Value
with_sum case winner column sum =
    if is_by_row case.kind then slice_set (first_values winner) column sum else map (column_after case.kind winner column sum) case.cells

-- the decision where there is a sum: as the priority does where its column is in no conflicting cell
abbrev pub sum_decision : ConflictCase → ℕ → Value → Decision
sum_decision case column sum =
    if is_in_conflict case.kind case.cells column
    then Custom (with_sum case (cells_of (winner_body (by_priority case) case.publisher case.incoming)) column sum)
    else by_priority case

abbrev pub summed_or_priority : ConflictCase → Option ℕ → Option Value → Decision
summed_or_priority case (Some column) (Some sum) = sum_decision case column sum
summed_or_priority case _ _ = by_priority case

-- what the rule decides
abbrev pub additive_decision : ConflictCase → Decision
additive_decision case =
    summed_or_priority case case.column (answer_on_both sum_of (body_value case.kind case.publisher case.column) (body_value case.kind case.incoming case.column))
