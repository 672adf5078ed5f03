use Rattle.std.proofs.Common.{◌≡◌, ◌++◌, drop, map}
use Rattle.std.specs.List.{zip}
use Rattle.merge_steps.specs.Rows as row
use Rattle.merge_steps.proofs.edits.put_edits.Given as goal

abbrev pub invariant-loop-number : goal.invariant-loop-number
invariant-loop-number l = l.edits.items ++ map row.put_edit (zip (drop l.number l.told) (drop l.number l.generations)) ≡ map row.put_edit (zip l.told l.generations)
