-- The store that a publisher serves from may cross threads.
use denote.Param.Send.{sendable}
use Rattle.std.proofs.Crossing as std
use Rattle.merge_outside.proofs.Crosses.{real_field_send}
use Rattle.replmerge.proofs.main.Goals as goal

pub program-requires-send-E-Keep : goal.program-requires-send-E-Keep
program-requires-send-E-Keep c κs = search (real_field_send, std.crosses, sendable) depth 60 fits 20000
