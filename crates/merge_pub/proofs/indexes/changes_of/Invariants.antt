use Rattle.std.proofs.Common.{◌≡◌, take, map}
use Rattle.merge_pub.specs.Restoring.{versions_of}
use Rattle.merge_steps.specs.Working.{row_change}
use Rattle.merge_pub.proofs.indexes.changes_of.Given as goal

abbrev pub invariant-loop-key : goal.invariant-loop-key
invariant-loop-key l = l.changes ≡ map row_change (versions_of (take l.key-index l.rows))
