-- A step's changes, and the tables that they make.
use Rattle.std.specs.Prelude.{◌≡◌, ◌++◌}
use Rattle.std.specs.Ordering.{nat_cmp}
use Rattle.merge_table.specs.Edits.{rows_after_all}
use Rattle.merge_ident.specs.Answers.{grants_with_all}
use Rattle.merge_schema.specs.declared.publication.Publication.{Publication}
use Rattle.merge_model.specs.Publisher.Entries.{Changing, changed_by}
use Rattle.merge_model.specs.Judge.{PublisherJudge}
use Rattle.merge_model.specs.Tables.{PublisherTables}
use Rattle.merge_steps.specs.declared.changes.Besides.{Besides}
use Rattle.merge_steps.specs.declared.changes.Changes.{Changes}
use Rattle.merge_pub.specs.After.{after}
use Rattle.merge_steps.specs.Step.{SeesLeft}

-- the tables after what a step changes but for rows, mappings and generations
abbrev pub with_besides : Besides → PublisherTables → PublisherTables
with_besides b p = record p {
  changes = b.changes;
  conflict_count = b.conflict_count;
  latest = b.latest;
  conflicts = p.conflicts ++ b.conflicts.rows;
  grants = grants_with_all p.grants b.grants;
  held = rows_after_all nat_cmp p.held b.held;
  sites = rows_after_all nat_cmp p.sites b.sites;
}

-- the changes make what the step does
unfoldable pub IsMade : Publication → Changing → PublisherTables → Besides → Changes → Type 0
IsMade publication changing p besides c = (judge : PublisherJudge) → SeesLeft judge p.mappings → changed_by publication judge changing (with_besides besides p) ≡ after c p
