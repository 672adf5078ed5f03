-- A publisher at a store crosses to the workers.
use denote.Exit.{yes}
use denote.Param.Send.{arg_send, param_send, sendable}
use denote.Param.Object.{Vt, ghosts_of}
use Rattle.merge_service.proofs.Crosses.{site_send}
use Rattle.merge_sites_tests.specs.contracts.serve.serve_stored.dyn-1 as handed
use Rattle.merge_sites_tests.proofs.serve.serve_stored.Goals as goal

pub serve_day-requires-send-P : goal.serve_day-requires-send-P
serve_day-requires-send-P g c κs within =
    let slots = handed.slots g.row.R g.row.K g.row.G in
    param_send _ _ (arg_send _ yes _ (site_send _ (Vt slots g.dyn-1.0) _ (ghosts_of slots g.dyn-1.0 g.dyn-1.1) c.type_bounds.send-K g.dyn-1.2 (search sendable)))
