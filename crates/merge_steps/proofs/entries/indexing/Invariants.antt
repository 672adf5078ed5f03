use Rattle.std.proofs.Common.{◌≡◌, ◌++◌, drop}
use Rattle.std.specs.List.{zip}
use Rattle.merge_steps.specs.Working as work
use Rattle.merge_steps.proofs.entries.indexing.Given as goal

abbrev pub invariant-loop-number : goal.invariant-loop-number
invariant-loop-number l = l.edits.items ++ work.all_indexing l.rows.rows (zip (drop l.number l.versions) (drop l.number l.generations)) ≡ work.all_indexing l.rows.rows (zip l.versions l.generations)
