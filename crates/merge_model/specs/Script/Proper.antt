-- Answers whose days are all days of the calendar, so that each can be printed.
use Rattle.std.specs.Prelude.{List, All}
use Rattle.merge_types.specs.Literal.{IsProper}
use Rattle.merge_types.specs.declared.values.Value.{Value}
use Rattle.merge_units.specs.declared.version.Cell.{Cell}
use Rattle.merge_units.specs.declared.version.Body.{Body}
use Rattle.merge_units.specs.declared.version.Body.TheVariants.{Live, Dead}
use Rattle.merge_conflict.specs.declared.row.ConflictRow.{ConflictRow}
use Rattle.merge_model.specs.declared.answer.Answer.{Answer}
use Rattle.merge_model.specs.declared.answer.Answer.TheVariants.{Conflicts, Rows}
use Rattle.merge_model.specs.declared.answer.ShownRow.{ShownRow}

abbrev pub AreProper : List Value → Type 0
AreProper values = All IsProper values

abbrev pub IsProperBody : Body → Type 0
IsProperBody (Live cells) = All (λ (cell : Cell). AreProper cell.values) cells
IsProperBody (Dead top) = Unit {0}

-- each value that an answer shows may stand in a row
abbrev pub IsProperAnswer : Answer → Type 0
IsProperAnswer (Rows rows) = All (λ (row : ShownRow). AreProper row.values) rows
IsProperAnswer (Conflicts rows) = All (λ (row : ConflictRow). IsProperBody row.losing.body) rows
IsProperAnswer answer = Unit {0}
