-- How a session and its line end together.
use Rattle.std.proofs.Common.{Err, List, Ok, Option, Result, inl, inr, ℕ, ◌≡◌}
use Rattle.merge_types.specs.declared.identifiers.SiteId.{SiteId}
use Rattle.merge_schema.specs.declared.publication.Publication.{Publication}
use Rattle.merge_agent.specs.declared.fault.Done.{Done}
use Rattle.merge_sync.specs.Ends.{Ends, SessionStops}
use Rattle.merge_sync.specs.Stops.{done_text}
use Rattle.merge_sync.specs.Stores.{Around, SessionIsHeld}
use Rattle.merge_sync.specs.Written.{IsUnwritten}
use Rattle.merge_sync.specs.declared.stop.Stop.{Stop}
use Rattle.merge_sync.specs.declared.stop.Stop.TheVariants as stop

module _ (address : List ℕ) (publication : Publication) (site : SiteId) (around : Around) (was written : Option (List ℕ)) (writes refused : ℕ) where
  abbrev EndsSo : Result Unit Stop → Type 0
  EndsSo r = Ends address publication site around was written writes refused r

  -- it was not done, and nothing was written
  pub not-done : (s : Stop) → SessionStops address publication site around s → written ≡ was → EndsSo (Err s)
  not-done stop.WriteFault p silent = absurd p
  not-done stop.NoMemory p silent = (silent, inl p)
  not-done stop.UnknownSite p silent = (silent, p)
  not-done stop.StoreFault p silent = (silent, p)
  not-done (stop.Damaged table key) p silent = (silent, p)
  not-done stop.LinkFault p silent = (silent, p)
  not-done (stop.Expired last_sync now) p silent = (silent, p)
  not-done (stop.BadReply place) p silent = (silent, p)
  not-done (stop.Refused number) p silent = (silent, p)

  -- it was done, and its line was not written whole
  pub not-written : (done : Done) → SessionIsHeld address publication site around (Ok done) → (s : Stop) → IsUnwritten s (done_text done) was written writes refused → EndsSo (Err s)
  not-written done held stop.WriteFault p = ((done, held, p.0), p.1)
  not-written done held stop.NoMemory p = (p, inr (done, held))
  not-written done held stop.UnknownSite p = absurd p
  not-written done held stop.StoreFault p = absurd p
  not-written done held (stop.Damaged table key) p = absurd p
  not-written done held stop.LinkFault p = absurd p
  not-written done held (stop.Expired last_sync now) p = absurd p
  not-written done held (stop.BadReply place) p = absurd p
  not-written done held (stop.Refused number) p = absurd p
