-- What a call took before the reading ended comes behind what the calls before took.
use Rattle.merge_ports.proofs.Known.{Consumes-append}
use Rattle.merge_wire.proofs.body.read_body.Goals as goal

pub returns-in_err-body-clause-front : goal.returns-in_err-body-clause-front
returns-in_err-body-clause-front g c = (
  _,
  Consumes-append _ (g.S.Source.left c.pieces.source) _ _ _ c.pieces.invariant.taken c.in_ok-taken.ensures.bytes.0,
)
