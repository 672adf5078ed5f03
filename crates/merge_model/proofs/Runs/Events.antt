-- What every step keeps, every list of events keeps.
use Rattle.std.specs.Prelude.{◌≡◌, ℕ, List, [], ◌∷◌, Bool, true, false, Result, Ok, Err, refl, if◌then◌else◌, IfOk}
use Rattle.std.proofs.Common.{arith, subst, sym}
use Rattle.merge_types.specs.declared.identifiers.SiteId.{SiteId}
use Rattle.merge_types.specs.declared.identifiers.Moment.{Moment}
use Rattle.merge_types.specs.declared.changes.Change.{Change}
use Rattle.merge_units.specs.declared.result.Decision.{Decision}
use Rattle.merge_batch.specs.declared.refusal.Refusal.TheVariants.{UnknownSite, UnknownName}
use Rattle.merge_batch.specs.declared.request.Upload.{Upload}
use Rattle.merge_schema.specs.declared.publication.Publication.{Publication}
use Rattle.merge_model.specs.declared.event.Event.{Event}
use Rattle.merge_model.specs.declared.event.Event.TheVariants as event
use Rattle.merge_model.specs.Tables.{PublisherTables}
use Rattle.merge_model.specs.Judge.{PublisherJudge}
use Rattle.merge_model.specs.declared.answer.Answer.{Answer}
use Rattle.merge_model.specs.declared.answer.Answer.TheVariants.{Refused}
use Rattle.merge_model.specs.Publisher.{at_moment}
use Rattle.merge_model.specs.Publisher.PublisherUpload.{upload, brings_news}
use Rattle.merge_model.specs.World.Steps.{Action, Pass, Make, CloseAt, Send, Deliver, MakeAnew, Forget, Look, SendJoin, SendUpload, SendRanges, SendDownload}
use Rattle.merge_model.specs.World.Session.{Stepping}
use Rattle.merge_model.specs.World.Naming.{insert_by, update_by, delete_by}
use Rattle.merge_model.specs.World.Events.{is_site, answered_look, where_site, where_subscriber, answered_action, answered_change, answered_sync, happens, after}
use Rattle.merge_schema.specs.Places.{is_subscription}
use Rattle.merge_model.specs.Laws.{is_report}
use Rattle.merge_model.proofs.Runs.Kept.{session-keeps}
use Rattle.merge_model.proofs.Runs.Reports.{looking-leaves, report-looks}

module _ {W : Type 0} (publication : Publication) (stepping : Stepping W) (P : W → Type 0) (of_act : (w : W) (action : Action) → P w → P (stepping.act w action).0) where
  if-keeps : (b : Bool) (x y : W × Answer) → P x.0 → P y.0 → P (if b then x else y).0
  if-keeps true x y first second = first
  if-keeps false x y first second = second

  looking-keeps : (w : W) (answer : W → Answer) → P w → P (answered_look publication stepping answer w).0
  looking-keeps w answer h = subst (λ (v : W). P v) (sym (looking-leaves publication stepping answer w)) (of_act w Look h)

  site-keeps : (site : SiteId) (w : W) (next : W → W × Answer) → P (next w).0 → P w → P (where_site publication stepping site w next).0
  site-keeps site w next keeps h = if-keeps (is_site publication site) (next w) (answered_look publication stepping (λ (v : W). Refused (UnknownSite site)) w) keeps (looking-keeps w (λ (v : W). Refused (UnknownSite site)) h)

  subscriber-keeps : (site : SiteId) (w : W) (next : W → W × Answer) → P (next w).0 → P w → P (where_subscriber publication stepping site w next).0
  subscriber-keeps site w next keeps h = if-keeps (is_subscription publication site.0) (next w) (answered_look publication stepping (λ (v : W). Refused (UnknownSite site)) w) keeps (looking-keeps w (λ (v : W). Refused (UnknownSite site)) h)

  changing-keeps : (site : SiteId) (w : W) (named : Result Change (List ℕ)) → P w → P (answered_change publication stepping site w named).0
  changing-keeps site w (Err name) h = looking-keeps w (λ (v : W). Refused (UnknownName name)) h
  changing-keeps site w (Ok change) h = of_act w (Make site change) h

  report-keeps : (w : W) (e : Event) → is_report e ≡ true → P w → P (happens publication stepping w e).0
  report-keeps w e is h = subst (λ (v : W). P v) (sym (report-looks publication stepping w e is)) (of_act w Look h)

  pub event-keeps : (w : W) (e : Event) → P w → P (happens publication stepping w e).0
  event-keeps w (event.Wait seconds) h = of_act w (Pass seconds) h
  event-keeps w (event.Insert site article values) h = site-keeps site w (λ (v : W). answered_change publication stepping site v (insert_by publication article values)) (changing-keeps site w (insert_by publication article values) h) h
  event-keeps w (event.Update site article row values) h = site-keeps site w (λ (v : W). answered_change publication stepping site v (update_by publication article row values)) (changing-keeps site w (update_by publication article row values) h) h
  event-keeps w (event.Delete site article row) h = site-keeps site w (λ (v : W). answered_change publication stepping site v (delete_by publication article row)) (changing-keeps site w (delete_by publication article row) h) h
  event-keeps w (event.Close site) h = site-keeps site w (answered_action publication stepping 0 (CloseAt site)) (of_act w (CloseAt site) h) h
  event-keeps w (event.Sync site) h = subscriber-keeps site w (answered_sync publication stepping site) (session-keeps stepping P of_act site w h) h
  event-keeps w (event.SendJoin site) h = subscriber-keeps site w (answered_action publication stepping 0 (Send site SendJoin)) (of_act w (Send site SendJoin) h) h
  event-keeps w (event.SendUpload site) h = subscriber-keeps site w (answered_action publication stepping 0 (Send site SendUpload)) (of_act w (Send site SendUpload) h) h
  event-keeps w (event.SendRanges site) h = subscriber-keeps site w (answered_action publication stepping 0 (Send site SendRanges)) (of_act w (Send site SendRanges) h) h
  event-keeps w (event.SendDownload site) h = subscriber-keeps site w (answered_action publication stepping 0 (Send site SendDownload)) (of_act w (Send site SendDownload) h) h
  event-keeps w (event.Deliver number) h = of_act w (Deliver number) h
  event-keeps w (event.Reinit site) h = subscriber-keeps site w (answered_action publication stepping 0 (MakeAnew site)) (of_act w (MakeAnew site) h) h
  event-keeps w event.Purge h = of_act w Forget h
  event-keeps w (event.Restart site) h = report-keeps w (event.Restart site) refl h
  event-keeps w (event.Show site article) h = report-keeps w (event.Show site article) refl h
  event-keeps w (event.Partition site) h = report-keeps w (event.Partition site) refl h
  event-keeps w (event.Conflicts site) h = report-keeps w (event.Conflicts site) refl h
  event-keeps w (event.Ranges site) h = report-keeps w (event.Ranges site) refl h
  event-keeps w (event.Generations site) h = report-keeps w (event.Generations site) refl h
  event-keeps w (event.Count site) h = report-keeps w (event.Count site) refl h

  pub events-keep : (events : List Event) (w : W) → P w → P (after publication stepping w events)
  events-keep [] w h = h
  events-keep (e ∷ events) w h = events-keep events (happens publication stepping w e).0 (event-keeps w e h)

-- an upload that brings nothing changes the moment alone
pub answered_upload : (publication : Publication) (judge : PublisherJudge) (now : Moment) (m : Upload) (decisions : List Decision) (p : PublisherTables)
    → brings_news judge m ≡ false → IfOk (upload publication judge now m decisions p) (λ done. done.0 ≡ at_moment now p)
answered_upload publication judge now m decisions p none = grind (arith)
