-- Rows and conflicts whose values can all be printed.
use Rattle.std.specs.Prelude.{All, List}
use Rattle.merge_types.specs.declared.row_key.RowKey.{RowKey}
use Rattle.merge_units.specs.declared.version.Version.{Version}
use Rattle.merge_conflict.specs.declared.row.ConflictRow.{ConflictRow}
use Rattle.merge_model.specs.Script.Proper.{IsProperBody}

-- rows that have versions
abbrev pub ArePrintable : {R : Type 0} → (R → Version) → List (RowKey × R) → Type 0
ArePrintable {R} version rows = All (λ (row : RowKey × R). IsProperBody (version row.1).body) rows

-- what conflicts lost
abbrev pub AreLostPrintable : List ConflictRow → Type 0
AreLostPrintable rows = All (λ (row : ConflictRow). IsProperBody row.losing.body) rows
