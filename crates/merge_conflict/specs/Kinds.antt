-- The numbers of the kinds of conflicts, for texts and records.
use Rattle.std.specs.Prelude.{◌≡◌, ◌==◌, if◌then◌else◌, ℕ, Option, Some, None}
use Rattle.merge_conflict.specs.declared.kind.ConflictKind.{ConflictKind}
use Rattle.merge_conflict.specs.declared.kind.ConflictKind.TheVariants as kind

abbrev pub number_of_kind : ConflictKind → ℕ
number_of_kind kind.Discarded = 0
number_of_kind kind.RowUpdate = 1
number_of_kind kind.ColumnUpdate = 2
number_of_kind kind.DeleteWins = 3
number_of_kind kind.UpdateWins = 4

abbrev pub kind_of_number : ℕ → Option ConflictKind
kind_of_number number =
    if number == 0 then Some kind.Discarded
    else (if number == 1 then Some kind.RowUpdate
    else (if number == 2 then Some kind.ColumnUpdate
    else (if number == 3 then Some kind.DeleteWins
    else (if number == 4 then Some kind.UpdateWins else None))))

-- a kind is read from its number
abbrev pub KindIsRead : Type 0
KindIsRead = (kind : ConflictKind) → kind_of_number (number_of_kind kind) ≡ Some kind
