use Rattle.std.proofs.Common.{◌≡◌, ◌++◌}
use Rattle.merge_gens.specs.Book.{closings_between}
use Rattle.merge_gens.proofs.closings.add_closings.Given as goal

abbrev pub invariant-loop-closed : goal.invariant-loop-closed
invariant-loop-closed l = l.closings.items ≡ l.initial.closings.items ++ closings_between l.from l.closed l.moment
