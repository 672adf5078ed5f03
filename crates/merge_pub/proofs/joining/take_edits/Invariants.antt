use Rattle.std.specs.Prelude.{◌≡◌, map, take}
use Rattle.merge_pub.specs.Forgetting.{take_at}
use Rattle.merge_pub.proofs.joining.take_edits.Given as goal

abbrev pub invariant-loop-key : goal.invariant-loop-key
invariant-loop-key l = l.edits ≡ map (take_at l.site) (take l.key-index l.keys)
