-- A seat may cross threads.
use denote.Exit.{yes}
use denote.Param.Send.{arg_send, param_send}
use Rattle.merge_serve.proofs.Crosses.{seat_send}
use Rattle.merge_sites_tests.proofs.desk.all.Goals as goal

pub for_each_mut-requires-send-T : goal.for_each_mut-requires-send-T
for_each_mut-requires-send-T g c κs within = param_send _ _ (arg_send _ yes _ (seat_send g.row.L g.row.M g.L.Ledger g.M.Ledger))
