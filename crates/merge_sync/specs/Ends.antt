-- How a session at a store ends, and what is written of it.
use Rattle.std.specs.Prelude.{Err, List, Ok, Option, Result, false, ℕ, ◌≡◌, ◌⊎◌}
use Rattle.std.specs.Io.KnownBytes.{Appends}
use Rattle.merge_types.specs.declared.identifiers.SiteId.{SiteId}
use Rattle.merge_schema.specs.Places.{is_subscription}
use Rattle.merge_schema.specs.declared.publication.Publication.{Publication}
use Rattle.merge_batch.specs.declared.refusal.Refusal.TheVariants as refusal
use Rattle.merge_ports.specs.Faults.{Rose}
use Rattle.merge_ports.specs.Parts.{AppendsFront}
use Rattle.merge_agent.specs.declared.fault.Done.{Done}
use Rattle.merge_agent.specs.declared.fault.SessionFault.TheVariants as session
use Rattle.merge_sync.specs.Stops.{done_text}
use Rattle.merge_sync.specs.Stores.{Around, IsDamagedAs, LinkCarriesNothing, NoSessionIsHeld, SessionIsHeld}
use Rattle.merge_sync.specs.declared.stop.Stop.{Stop}
use Rattle.merge_sync.specs.declared.stop.Stop.TheVariants.{BadReply, Damaged, Expired, LinkFault, NoMemory, Refused, StoreFault, UnknownSite, WriteFault}

-- why a session was not done
abbrev pub SessionStops : (address : List ℕ) → Publication → SiteId → Around → Stop → Type 0
SessionStops address publication site around UnknownSite = (is_subscription publication site.0 ≡ false) × LinkCarriesNothing address around
SessionStops address publication site around StoreFault = Rose around.stores around.stores_after × (LinkCarriesNothing address around ⊎ SessionIsHeld address publication site around (Err session.StoreFault))
SessionStops address publication site around (Damaged table key) = IsDamagedAs publication site around.stored (refusal.Damaged table key) × LinkCarriesNothing address around
SessionStops address publication site around LinkFault = Rose around.links around.links_after × SessionIsHeld address publication site around (Err session.LinkFault)
SessionStops address publication site around (Expired last_sync now) = SessionIsHeld address publication site around (Err (session.Expired last_sync now))
SessionStops address publication site around (BadReply place) = SessionIsHeld address publication site around (Err (session.BadReply place))
SessionStops address publication site around (Refused number) = SessionIsHeld address publication site around (Err (session.Refused number))
SessionStops address publication site around WriteFault = ⊥
SessionStops address publication site around NoMemory = NoSessionIsHeld address around ⊎ SessionIsHeld address publication site around (Err session.NoMemory)

-- a session was done, or it was not
abbrev pub Meets : (address : List ℕ) → Publication → SiteId → Around → Result Done Stop → Type 0
Meets address publication site around (Ok done) = SessionIsHeld address publication site around (Ok done)
Meets address publication site around (Err stop) = SessionStops address publication site around stop

-- A session was done and its line was written whole, or to a front of it, since a write failed, or not at all, since memory was
-- wanting. Or it was not done, and nothing was written.
abbrev pub Ends : (address : List ℕ) → Publication → SiteId → Around → (was written : Option (List ℕ)) → (writes refused : ℕ) → Result Unit Stop → Type 0
Ends address publication site around was written writes refused (Ok told) =
    (done : Done) × SessionIsHeld address publication site around (Ok done) × Appends was written (done_text done)
Ends address publication site around was written writes refused (Err WriteFault) =
    ((done : Done) × SessionIsHeld address publication site around (Ok done) × AppendsFront was written (done_text done)) × Rose writes refused
Ends address publication site around was written writes refused (Err NoMemory) =
    (written ≡ was) × (SessionStops address publication site around NoMemory ⊎ ((done : Done) × SessionIsHeld address publication site around (Ok done)))
Ends address publication site around was written writes refused (Err stop) = (written ≡ was) × SessionStops address publication site around stop
