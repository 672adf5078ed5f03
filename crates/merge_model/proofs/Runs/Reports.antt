-- Reports change nothing, and a refusal notes nothing.
use Rattle.std.specs.Prelude.{◌≡◌, ℕ, List, Bool, true, false, Result, Ok, Err, refl, if◌then◌else◌}
use Rattle.std.proofs.Common.{arith, subst, sym}
use Rattle.merge_types.specs.declared.identifiers.SiteId.{SiteId}
use Rattle.merge_batch.specs.declared.refusal.Refusal.{Refusal}
use Rattle.merge_batch.specs.declared.refusal.Refusal.TheVariants.{UnknownSite, UnknownName}
use Rattle.merge_schema.specs.declared.publication.Publication.{Publication}
use Rattle.merge_model.specs.declared.event.Event.{Event}
use Rattle.merge_model.specs.declared.event.Event.TheVariants as event
use Rattle.merge_model.specs.Tables.{PublisherTables, SubscriberTables}
use Rattle.merge_model.specs.declared.answer.Answer.{Answer}
use Rattle.merge_model.specs.declared.answer.Answer.TheVariants.{Conflicts, Counts, Fine, Grants, Held, Refused, Rows}
use Rattle.merge_model.specs.Publisher.Entries.{live_rows}
use Rattle.merge_model.specs.World.Reports.{counts_of, held_report, partition_report, publisher_generations, shown_rows, subscriber_live_rows, subscriber_generations}
use Rattle.merge_model.specs.World.{World, Judges, Saying}
use Rattle.merge_model.specs.World.Steps.{Action, Look, step_by}
use Rattle.merge_model.specs.declared.outcome.Outcome.{Outcome}
use Rattle.merge_model.specs.declared.outcome.Outcome.TheVariants.{Refuses}
use Rattle.merge_model.specs.World.Session.{Stepping}
use Rattle.merge_model.specs.World.Events.{is_site, answered_unless_refused, answered_look, report_of_site, where_site, where_subscriber, answered_report, answered_show, happens}
use Rattle.merge_schema.specs.Places.{is_subscription}
use Rattle.merge_model.specs.World.Naming.{article_by}
use Rattle.merge_model.specs.Judge.ByHistory.{by_history}
use Rattle.merge_model.specs.History.Model.{Model, model_step, after_step}
use Rattle.merge_model.specs.Laws.{is_report}
use Rattle.merge_model.proofs.Runs.Refused.{step_by-leaves}

module _ {W : Type 0} (publication : Publication) (stepping : Stepping W) where
  -- what an event leaves that only looks
  abbrev behind : W → W
  behind w = (stepping.act w Look).0

  looked-leaves : (answer : W → Answer) (done : W × Outcome) → (answered_unless_refused publication stepping answer done).0 ≡ done.0
  looked-leaves answer (w, Refuses refusal) = refl
  looked-leaves answer (w, outcome) = refl

  pub looking-leaves : (answer : W → Answer) (w : W) → (answered_look publication stepping answer w).0 ≡ behind w
  looking-leaves answer w = looked-leaves answer (stepping.act w Look)

  if-leaves : (w : W) (b : Bool) (x y : W × Answer) → x.0 ≡ behind w → y.0 ≡ behind w → (if b then x else y).0 ≡ behind w
  if-leaves w true x y first second = first
  if-leaves w false x y first second = second

  site-leaves : (site : SiteId) (w : W) (next : W → W × Answer) → (next w).0 ≡ behind w → (where_site publication stepping site w next).0 ≡ behind w
  site-leaves site w next leaves = if-leaves w (is_site publication site) (next w) (answered_look publication stepping (λ (v : W). Refused (UnknownSite site)) w) leaves (looking-leaves (λ (v : W). Refused (UnknownSite site)) w)

  subscriber-leaves : (site : SiteId) (w : W) (next : W → W × Answer) → (next w).0 ≡ behind w → (where_subscriber publication stepping site w next).0 ≡ behind w
  subscriber-leaves site w next leaves = if-leaves w (is_subscription publication site.0) (next w) (answered_look publication stepping (λ (v : W). Refused (UnknownSite site)) w) leaves (looking-leaves (λ (v : W). Refused (UnknownSite site)) w)

  reporting-leaves : (site : SiteId) (of_publisher : PublisherTables → Answer) (of_subscriber : SubscriberTables → Answer) (w : W) → (answered_report publication stepping site of_publisher of_subscriber w).0 ≡ behind w
  reporting-leaves site of_publisher of_subscriber w = looking-leaves (report_of_site publication stepping site of_publisher of_subscriber) w

  showing-leaves : (site : SiteId) (w : W) (named : Result ℕ (List ℕ)) → (answered_show publication stepping site w named).0 ≡ behind w
  showing-leaves site w (Err name) = looking-leaves (λ (v : W). Refused (UnknownName name)) w
  showing-leaves site w (Ok article) = looking-leaves (report_of_site publication stepping site (λ (p : PublisherTables). Rows (shown_rows article (live_rows p.rows))) (λ (s : SubscriberTables). Rows (shown_rows article (subscriber_live_rows s)))) w

  -- a report looks, and does nothing else
  pub report-looks : (w : W) (e : Event) → is_report e ≡ true → (happens publication stepping w e).0 ≡ (stepping.act w Look).0
  report-looks w (event.Restart site) is = site-leaves site w (answered_look publication stepping (λ (v : W). Fine)) (looking-leaves (λ (v : W). Fine) w)
  report-looks w (event.Show site article) is = site-leaves site w (λ (v : W). answered_show publication stepping site v (article_by publication article)) (showing-leaves site w (article_by publication article))
  report-looks w (event.Partition site) is = subscriber-leaves site w (answered_look publication stepping (λ (v : W). partition_report publication site (stepping.look v).publisher)) (looking-leaves (λ (v : W). partition_report publication site (stepping.look v).publisher) w)
  report-looks w (event.Conflicts site) is = site-leaves site w (answered_report publication stepping site (λ (p : PublisherTables). Conflicts p.conflicts) (λ (s : SubscriberTables). Conflicts s.conflicts)) (reporting-leaves site (λ (p : PublisherTables). Conflicts p.conflicts) (λ (s : SubscriberTables). Conflicts s.conflicts) w)
  report-looks w (event.Ranges site) is = site-leaves site w (answered_report publication stepping site (λ (p : PublisherTables). Grants p.grants) (λ (s : SubscriberTables). Held (held_report s))) (reporting-leaves site (λ (p : PublisherTables). Grants p.grants) (λ (s : SubscriberTables). Held (held_report s)) w)
  report-looks w (event.Generations site) is = site-leaves site w (answered_report publication stepping site (publisher_generations publication) subscriber_generations) (reporting-leaves site (publisher_generations publication) subscriber_generations w)
  report-looks w (event.Count site) is = site-leaves site w (answered_report publication stepping site (λ (p : PublisherTables). Counts (counts_of publication (live_rows p.rows))) (λ (s : SubscriberTables). Counts (counts_of publication (subscriber_live_rows s))))
      (reporting-leaves site (λ (p : PublisherTables). Counts (counts_of publication (live_rows p.rows))) (λ (s : SubscriberTables). Counts (counts_of publication (subscriber_live_rows s))) w)
  report-looks w other is = absurd (grind (arith))

abbrev with_world : Model → World → Model
with_world m w = record { world = w; history = m.history }

same_world : (m : Model) (w : World) → w ≡ m.world → with_world m w ≡ m
same_world m w f = subst (λ (v : World). with_world m v ≡ m) (sym f) refl

after_step-leaves : (publication : Publication) (says : Saying) (m : Model) (judges : Judges) (action : Action) (done : World × Outcome) (refusal : Refusal)
    → done.1 ≡ Refuses refusal → done.0 ≡ m.world → (after_step publication says m judges action done).0 ≡ m
after_step-leaves publication says m judges action (w, Refuses why) refusal e f = same_world m w f
after_step-leaves publication says m judges action (w, outcome) refusal e f = absurd (grind (arith))

after_step-same : (publication : Publication) (says : Saying) (m : Model) (judges : Judges) (action : Action) (done : World × Outcome) → (after_step publication says m judges action done).1 ≡ done.1
after_step-same publication says m judges action done = refl

pub model_step-leaves : (publication : Publication) (says : Saying) (m : Model) (action : Action) (refusal : Refusal)
    → (model_step publication says m action).1 ≡ Refuses refusal → (model_step publication says m action).0 ≡ m
model_step-leaves publication says m action refusal e = after_step-leaves publication says m (by_history m.history) action (step_by publication says (by_history m.history) m.world action) refusal e
    (step_by-leaves publication says (by_history m.history) m.world action refusal e)
