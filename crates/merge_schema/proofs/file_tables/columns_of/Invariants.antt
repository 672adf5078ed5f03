use Rattle.std.proofs.Common.{◌≡◌, All, length, drop, map, true, None}
use Rattle.toml.specs.View.{view}
use Rattle.merge_script.specs.Names.{is_name_text}
use Rattle.merge_types.specs.declared.values.Column.{Column}
use Rattle.merge_schema.specs.FileTables.{columns_from}
use Rattle.merge_schema.specs.Valid.{HasValidIdentity}
use Rattle.merge_schema.proofs.Each.{with_columns}
use Rattle.merge_schema.proofs.file_tables.columns_of.Given as goal

abbrev pub invariant-loop-value : goal.invariant-loop-value
invariant-loop-value l = record {
  counted : l.place ≡ l.value-index;
  long : length l.columns ≡ l.value-index;
  named : All (λ (column : Column). is_name_text column.name ≡ true) l.columns;
  valid : HasValidIdentity l.columns l.identity;
  so_far : with_columns l.columns (columns_from l.place l.identity (map view (drop l.value-index l.values))) ≡ columns_from 0 None (map view l.values);
}
