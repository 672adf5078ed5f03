use Rattle.std.specs.Prelude.{◌++◌, option_copied}
use Rattle.std.specs.Map.{keys_of}
use Rattle.merge_part.specs.Draft.{rows_in, marks_in}
use Rattle.merge_part.specs.Waiting.{AreReached, KeepsWaiting, ReachedByRow}
use Rattle.merge_part.proofs.waiting.wait_by_row.Given as goal

abbrev pub invariant-loop-number : goal.invariant-loop-number
invariant-loop-number l = record {
  values : AreReached l.children.links.now (l.children.held.now.set ++ l.children.come.now.set) (keys_of l.waiting.values.rows) (keys_of l.waiting.rows.rows);
  kept : KeepsWaiting (keys_of l.fn.waiting.rows.rows) (keys_of l.waiting.rows.rows);
  reached : ReachedByRow l.children.links.now l.number (rows_in l.others.kept.now.held.rows.rows l.others.rows.now) (marks_in l.others.kept.now.held.marks.rows l.others.marks.now.rows) l.others.key l.others.sites (l.children.held.now.set ++ l.children.come.now.set) (option_copied l.old) (option_copied l.new) (keys_of l.waiting.rows.rows);
}
