use Rattle.std.proofs.Common.{◌≡◌, map, take}
use Rattle.merge_keeper.specs.Start.{replaced_at}
use Rattle.merge_keeper.proofs.start.replaced.Given as goal

abbrev pub invariant-loop-place : goal.invariant-loop-place
invariant-loop-place l = l.all.items ≡ map (replaced_at l.article l.ranges) (take l.place-index l.held)
