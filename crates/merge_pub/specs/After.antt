-- The tables after a step's changes.
use Rattle.std.specs.Prelude.{◌++◌}
use Rattle.std.specs.Ordering.{nat_cmp}
use Rattle.merge_types.specs.RowKeys.{key_cmp}
use Rattle.merge_table.specs.Edits.{rows_after_all}
use Rattle.merge_gens.specs.Moves.{row_site_cmp}
use Rattle.merge_gens.specs.Plan.{book_after_plan}
use Rattle.merge_ident.specs.Answers.{grants_with_all}
use Rattle.merge_model.specs.Tables.{PublisherTables}
use Rattle.merge_steps.specs.declared.changes.Changes.{Changes}

abbrev pub after : Changes → PublisherTables → PublisherTables
after c p = record {
  changes = c.changes;
  gens = book_after_plan p.gens c.gens;
  conflict_count = c.conflict_count;
  latest = c.latest;
  rows = rows_after_all key_cmp p.rows c.rows;
  mappings = rows_after_all row_site_cmp p.mappings c.mappings;
  conflicts = p.conflicts ++ c.conflicts.rows;
  grants = grants_with_all p.grants c.grants;
  held = rows_after_all nat_cmp p.held c.held;
  sites = rows_after_all nat_cmp p.sites c.sites;
}
