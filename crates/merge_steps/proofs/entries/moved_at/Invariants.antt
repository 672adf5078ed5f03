use Rattle.std.proofs.Common.{◌≡◌, take}
use Rattle.merge_steps.specs.Working as work
use Rattle.merge_steps.proofs.entries.moved_at.Given as goal

abbrev pub invariant-loop-one : goal.invariant-loop-one
invariant-loop-one l = l.keys ≡ work.moved_at l.site (take l.one-index l.moves)
