-- How a session at a store stops by what stopped a part of it.
use Rattle.std.specs.Prelude.{Err, List, Ok, Result, [], codes, ℕ, ◌∷◌}
use Rattle.std.specs.Fmt.{decimal}
use Rattle.merge_batch.specs.declared.refusal.Refusal.{Refusal}
use Rattle.merge_batch.specs.declared.refusal.Refusal.TheVariants as refusal
use Rattle.merge_ports.specs.declared.outside.OpenFault.{OpenFault}
use Rattle.merge_ports.specs.declared.outside.OpenFault.TheVariants as opening
use Rattle.merge_model.specs.Script.Text.{line}
use Rattle.merge_agent.specs.declared.fault.Done.{Done}
use Rattle.merge_agent.specs.declared.fault.SessionFault.{SessionFault}
use Rattle.merge_agent.specs.declared.fault.SessionFault.TheVariants as session
use Rattle.merge_sync.specs.declared.stop.Stop.{Stop}
use Rattle.merge_sync.specs.declared.stop.Stop.TheVariants.{BadReply, Damaged, Expired, LinkFault, NoMemory, Refused, StoreFault, UnknownSite}

-- the store is not opened
abbrev pub stop_of_opening : OpenFault → Stop
stop_of_opening opening.Failed = StoreFault
stop_of_opening opening.NoMemory = NoMemory

-- the site does not start for its number, for its store, or for want of memory
abbrev pub stop_of_start : Refusal → Stop
stop_of_start (refusal.UnknownSite site) = UnknownSite
stop_of_start refusal.StoreFault = StoreFault
stop_of_start (refusal.Damaged table key) = Damaged table key
stop_of_start other = NoMemory

-- the session is not done
abbrev pub stop_of_fault : SessionFault → Stop
stop_of_fault session.LinkFault = LinkFault
stop_of_fault session.StoreFault = StoreFault
stop_of_fault (session.Expired last_sync now) = Expired last_sync now
stop_of_fault (session.BadReply place) = BadReply place
stop_of_fault (session.Refused number) = Refused number
stop_of_fault session.NoMemory = NoMemory

-- what came of a session
abbrev pub met_by : Result Done SessionFault → Result Done Stop
met_by (Ok done) = Ok done
met_by (Err fault) = Err (stop_of_fault fault)

-- the line of a session that was done
abbrev pub done_text : Done → List ℕ
done_text done = line (codes "done" ∷ decimal done.uploads ∷ decimal done.downloads ∷ decimal done.watermark ∷ [])
