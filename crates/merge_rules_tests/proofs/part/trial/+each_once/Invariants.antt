-- The list gets shorter.
use Rattle.std.proofs.Common.{length}
use Rattle.merge_rules_tests.proofs.part.trial.+each_once.Given as goal

abbrev pub decreases-each_once : goal.decreases-each_once
decreases-each_once l = length l.changes.now
