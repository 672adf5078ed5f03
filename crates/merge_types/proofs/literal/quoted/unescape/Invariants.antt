use Rattle.std.proofs.Common.{length}
use Rattle.merge_types.proofs.Spelling.{Remains}
use Rattle.merge_types.proofs.literal.quoted.unescape.Given as goal

abbrev pub invariant-loop-rest : goal.invariant-loop-rest
invariant-loop-rest l = Remains l.inner l.bytes.items l.rest

abbrev pub decreases-loop-rest : goal.decreases-loop-rest
decreases-loop-rest l = length l.rest
