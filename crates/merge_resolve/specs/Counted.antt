-- What a decision counts as.
use Rattle.std.specs.Prelude.{ℕ, int_le, nat_le, ◌+◌, ◌==◌, ◌&&◌, Bool, true, false, if◌then◌else◌, List, [], ◌∷◌, length, slice_get, slice_set, Option, Some, None}
use Rattle.merge_types.specs.Fitting.{fits_column}
use Rattle.merge_types.specs.Limits.{row_limit}
use Rattle.merge_types.specs.declared.ColumnType.{ColumnType}
use Rattle.merge_types.specs.declared.ColumnType.TheVariants as column
use Rattle.merge_types.specs.declared.Value.{Value}
use Rattle.merge_types.specs.declared.Value.TheVariants.{Null, Int, Bit, Text, Day, Guid, Bytes}
use Rattle.merge_units.specs.declared.version.Cell.{Cell}
use Rattle.merge_units.specs.declared.version.Body.{Body}
use Rattle.merge_units.specs.declared.version.Body.TheVariants.{Live, Dead}
use Rattle.merge_units.specs.declared.case.Side.{Side}
use Rattle.merge_units.specs.declared.case.Side.TheVariants as side
use Rattle.merge_units.specs.declared.result.Decision.{Decision}
use Rattle.merge_units.specs.declared.result.Decision.TheVariants.{KeepPublisher, TakeSubscriber, Custom}
use Rattle.merge_types.specs.Length.{row_length}
use Rattle.merge_resolve.specs.declared.case.CaseKind.{CaseKind}
use Rattle.merge_resolve.specs.declared.case.CaseKind.TheVariants as kind
use Rattle.merge_resolve.specs.declared.case.ConflictCase.{ConflictCase}
use Rattle.merge_resolve.specs.Columns.{body_value}
use Rattle.merge_resolve.specs.ValueTypes.{are_typed}

-- whether the column at a place may have a value
abbrev pub fits_some : Option ColumnType → Value → Bool
fits_some None value = false
fits_some (Some ty) value = fits_column ty value

abbrev pub fits_place : List ColumnType → ℕ → Value → Bool
fits_place types place value = fits_some (slice_get types place) value

-- there is one value for each, and it fits
abbrev pub fit_all : {A : Type 0} → (A → Value → Bool) → List A → List Value → Bool
fit_all fits [] [] = true
fit_all fits (x ∷ xs) (value ∷ values) = fits x value && fit_all fits xs values
fit_all fits _ _ = false

-- whether a list has a value for each column
abbrev pub is_by_row : CaseKind → Bool
is_by_row kind.ByRow = true
is_by_row _ = false

-- with row tracking there is one value for each column, else one for each conflicting cell in order
abbrev pub fit_columns : CaseKind → List ColumnType → List ℕ → List Value → Bool
fit_columns kind types cells values = if is_by_row kind then fit_all fits_column types values else fit_all (fits_place types) cells values

-- the identity column keeps its value
abbrev pub own_placed : ℕ → Value → List ℕ → List Value → List Value
own_placed identity own [] values = []
own_placed identity own (place ∷ places) [] = []
own_placed identity own (place ∷ places) (value ∷ values) = (if place == identity then own else value) ∷ own_placed identity own places values

abbrev pub with_own_value : CaseKind → List ℕ → ℕ → Value → List Value → List Value
with_own_value kind cells identity own values = if is_by_row kind then slice_set values identity own else own_placed identity own cells values

abbrev pub with_own : ConflictCase → Option ℕ → Option Value → List Value → List Value
with_own case (Some identity) (Some own) values = with_own_value case.kind case.cells identity own values
with_own case _ _ values = values

-- the bytes of the cells that do not conflict
abbrev pub side_length : Side → Cell → Cell → ℕ
side_length side.Both ours theirs = 0
side_length side.Incoming ours theirs = row_length theirs.values
side_length _ ours theirs = row_length ours.values

abbrev pub kept_length : List Side → List Cell → List Cell → ℕ
kept_length [] ours theirs = 0
kept_length (s ∷ sides) [] theirs = 0
kept_length (s ∷ sides) (p ∷ ours) [] = 0
kept_length (s ∷ sides) (p ∷ ours) (i ∷ theirs) = side_length s p i + kept_length sides ours theirs

-- each cell has its side, and the row that the values give is within its limit
abbrev pub is_short_row : List Side → List Cell → List Cell → List Value → Bool
is_short_row sides ours theirs values =
    length sides == length ours && length sides == length theirs && nat_le (row_length values + kept_length sides ours theirs) row_limit

-- and the values are of their types, as each value that a resolver gives is
abbrev pub is_within : List Side → List Cell → List Cell → List Value → Bool
is_within sides ours theirs values = are_typed values && is_short_row sides ours theirs values

abbrev pub within_or_kept : Bool → List Value → Decision
within_or_kept true values = Custom values
within_or_kept false values = KeepPublisher

-- a list that fits counts as one with the identity column's own value. One that does not fit, has a value that is none of its type, or gives
-- too long a row, and each list where one of the bodies is a delete, counts as keeping the publisher's version
abbrev pub counted_list : List ColumnType → Option ℕ → List Side → ConflictCase → Body → Body → List Value → Decision
counted_list types identity sides case (Live ours) (Live theirs) values =
    if fit_columns case.kind types case.cells values
    then (let kept = with_own case identity (body_value case.kind case.publisher identity) values in within_or_kept (is_within sides ours theirs kept) kept)
    else KeepPublisher
counted_list types identity sides case _ _ values = KeepPublisher

abbrev pub counted_decision : List ColumnType → Option ℕ → List Side → ConflictCase → Decision → Decision
counted_decision types identity sides case KeepPublisher = KeepPublisher
counted_decision types identity sides case TakeSubscriber = TakeSubscriber
counted_decision types identity sides case (Custom values) = counted_list types identity sides case case.publisher case.incoming values

-- whether a decision brings values
abbrev pub is_custom : Decision → Bool
is_custom (Custom values) = true
is_custom decision = false
