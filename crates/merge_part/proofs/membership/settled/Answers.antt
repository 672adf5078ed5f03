use Rattle.std.proofs.Common.{sym}
use Rattle.merge_part.proofs.Taken.{children_indexed, parents_indexed}
use Rattle.merge_part.proofs.membership.settled.Goals as goal

pub settle-requires-clause-children : goal.settle-requires-clause-children
settle-requires-clause-children c = children_indexed _ _ _ _ c.requires.drafted

pub settle-requires-clause-parents : goal.settle-requires-clause-parents
settle-requires-clause-parents c = parents_indexed _ _ _ _ c.requires.drafted

pub settle-requires-clause-met : goal.settle-requires-clause-met
settle-requires-clause-met c = rw c.requires.marks c.requires.met
