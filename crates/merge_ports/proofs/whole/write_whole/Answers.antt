use Rattle.std.proofs.Common.{◌∙◌, arith}
use Rattle.merge_ports.proofs.Known.{Appends-take}
use Rattle.merge_ports.proofs.whole.write_whole.Goals as goal

pub loop-at-preserved : goal.loop-at-preserved
loop-at-preserved g c = (
  omega (arith, c.in_ok-at.ensures.bound),
  Appends-take _ (g.S.Sink.written c.loop-at.sink) _ _ _ _ c.loop-at.invariant.1 c.in_ok-at.ensures.bytes,
  c.in_ok-at.ensures.cause.kept ∙ c.loop-at.invariant.2,
)
