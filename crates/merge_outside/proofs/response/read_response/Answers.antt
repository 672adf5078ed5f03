-- What was taken before memory ran out comes behind what was taken before.
use Rattle.merge_ports.proofs.Known.{Consumes-append}
use Rattle.merge_outside.proofs.response.read_response.Goals as goal

pub returns-in_err-extend-clause-taken : goal.returns-in_err-extend-clause-taken
returns-in_err-extend-clause-taken g c = (
  _,
  Consumes-append _ (g.S.Source.left c.pieces.source) _ _ _ c.pieces.invariant.0 c.in-Ok.ensures.bytes.0,
)
