use Rattle.std.proofs.Common.{◌≡◌, length, drop, map, codes}
use Rattle.toml.specs.View.{view}
use Rattle.merge_schema.specs.FileTables.{each_table, join_of}
use Rattle.merge_schema.proofs.Each.{with_front}
use Rattle.merge_schema.proofs.file_tables.joins_of.Given as goal

abbrev pub invariant-loop-value : goal.invariant-loop-value
invariant-loop-value l = record {
  long : length l.joins ≡ l.value-index;
  so_far : with_front l.joins (each_table (codes "join") join_of (map view (drop l.value-index l.values))) ≡ each_table (codes "join") join_of (map view l.values);
}
