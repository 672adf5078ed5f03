-- What events answer can be printed, but for what reports show of rows and conflicts.
use Rattle.std.proofs.Common.{◌≡◌, ◌==◌, ◌++◌, Bool, true, false, List, [], ℕ, Option, Some, None, Result, Ok, Err, refl, ap, subst, append-nil, if◌then◌else◌}
use Rattle.std.specs.Prelude.{IfOk}
use Rattle.merge_types.specs.declared.changes.Change.{Change}
use Rattle.merge_types.specs.declared.identifiers.SiteId.{SiteId}
use Rattle.merge_schema.specs.declared.publication.Publication.{Publication}
use Rattle.merge_schema.specs.Places.{is_subscription}
use Rattle.merge_batch.specs.declared.refusal.Refusal.{Refusal}
use Rattle.merge_batch.specs.declared.refusal.Refusal.TheVariants as refusal
use Rattle.merge_batch.specs.declared.refusal.Refusal.TheVariants.{UnknownName, UnknownSite}
use Rattle.merge_model.specs.Tables.Changes.{is_insert}
use Rattle.merge_model.specs.World.Events.{answered_action, answered_by, answered_change, answered_look, answered_report, answered_unless_refused, change_answer, happens, is_site, outcome_answer, refused_change, report_of_site, session_answer, taken_answer, where_site, where_subscriber}
use Rattle.merge_model.specs.Failing.{Faulty, faulty}
use Rattle.merge_model.specs.Failing.Reach.{stepping}
use Rattle.merge_model.specs.Publisher.Entries.{live_rows}
use Rattle.merge_model.specs.World.Reports.{counts_of, held_report, partition_report, publisher_generations, subscriber_live_rows, subscriber_generations}
use Rattle.merge_model.specs.World.Session.{Session, session}
use Rattle.merge_model.specs.World.Steps.{Look}
use Rattle.merge_model.specs.Tables.{PublisherTables, SubscriberTables}
use Rattle.merge_model.specs.World.{Saying, World, subscriber_at}
use Rattle.merge_model.specs.declared.answer.Answer.{Answer}
use Rattle.merge_model.specs.declared.answer.Answer.TheVariants.{Counts, Fine, Grants, Held, Refused}
use Rattle.merge_model.specs.declared.event.Event.{Event}
use Rattle.merge_model.specs.declared.event.Event.TheVariants as event
use Rattle.merge_model.specs.declared.outcome.Outcome.{Outcome}
use Rattle.merge_model.specs.declared.outcome.Outcome.TheVariants.{Closes, Discards, Forgot, Made, NoLetter, NoPost, Passed, Posted, Refuses, Took}
use Rattle.merge_model.specs.declared.outcome.Taken.TheVariants.{Acted, Missed}
use Rattle.merge_model.specs.Script.Proper.{IsProperAnswer}
use Rattle.merge_world.specs.Happenings.{Comes, Happened, Proceeds}
use Rattle.merge_world.specs.Views.{HandedView, SitesView}

-- the events whose answers show values
abbrev pub shows_values : Event → Bool
shows_values (event.Show site article) = true
shows_values (event.Conflicts site) = true
shows_values e = false

either : (b : Bool) (x y : Faulty World × Answer) → IsProperAnswer x.1 → IsProperAnswer y.1 → IsProperAnswer (if b then x else y).1
either true x y p q = p
either false x y p q = q

outcome-proper : (number : ℕ) (outcome : Outcome) → IsProperAnswer (outcome_answer number outcome)
outcome-proper number Passed = tt
outcome-proper number (Made row) = tt
outcome-proper number (Closes generation) = tt
outcome-proper number (Posted posted) = tt
outcome-proper number NoPost = tt
outcome-proper number (Took Acted) = tt
outcome-proper number (Took (Missed seq outstanding)) = tt
outcome-proper number NoLetter = tt
outcome-proper number (Discards rows) = tt
outcome-proper number (Forgot forgotten) = tt
outcome-proper number (Refuses why) = tt

refused-proper : (change : Change) (why : Refusal) → IsProperAnswer (refused_change change why)
refused-proper change (refusal.UnknownSite site) = tt
refused-proper change (refusal.Expired last now) = tt
refused-proper change (refusal.Stale seq joined) = tt
refused-proper change (refusal.Gap from received) = tt
refused-proper change (refusal.BadBatch item rule) = tt
refused-proper change (refusal.WrongWatermark from last) = tt
refused-proper change refusal.StoreFault = tt
refused-proper change refusal.NoRow = tt
refused-proper change (refusal.WrongType column) = tt
refused-proper change (refusal.RowTooLong length) = tt
refused-proper change (refusal.IdentityUsedUp end) = tt
refused-proper change (refusal.TooManyRows count) = tt
refused-proper change (refusal.IdentityColumn column) = tt
refused-proper change (refusal.Damaged table key) = tt
refused-proper change refusal.Joining = tt
refused-proper change (refusal.CounterEnd value) = tt
refused-proper change refusal.NotJoined = tt
refused-proper change (refusal.UnknownName name) = tt
refused-proper change refusal.NoMemory = tt

made-proper : (insert : Bool) (a b : Answer) → IsProperAnswer a → IsProperAnswer b → IsProperAnswer (if insert then a else b)
made-proper true a b p q = p
made-proper false a b p q = q

change-proper : (change : Change) (outcome : Outcome) → IsProperAnswer (change_answer change outcome)
change-proper change Passed = tt
change-proper change (Made row) = made-proper (is_insert change) _ _ tt tt
change-proper change (Closes generation) = tt
change-proper change (Posted posted) = tt
change-proper change NoPost = tt
change-proper change (Took taken) = tt
change-proper change NoLetter = tt
change-proper change (Discards rows) = tt
change-proper change (Forgot forgotten) = tt
change-proper change (Refuses why) = refused-proper change why

module _ (p : Publication) (says : Saying) where
  looked-proper : (answer : Faulty World → Answer) (w : Faulty World) (outcome : Outcome) → IsProperAnswer (answer w) → IsProperAnswer (answered_unless_refused p (stepping p says) answer (w, outcome)).1
  looked-proper answer w Passed proper = proper
  looked-proper answer w (Made row) proper = proper
  looked-proper answer w (Closes generation) proper = proper
  looked-proper answer w (Posted posted) proper = proper
  looked-proper answer w NoPost proper = proper
  looked-proper answer w (Took taken) proper = proper
  looked-proper answer w NoLetter proper = proper
  looked-proper answer w (Discards rows) proper = proper
  looked-proper answer w (Forgot forgotten) proper = proper
  looked-proper answer w (Refuses why) proper = tt

  looking-proper : (answer : Faulty World → Answer) (f : Faulty World) → ((w : Faulty World) → IsProperAnswer (answer w)) → IsProperAnswer (answered_look p (stepping p says) answer f).1
  looking-proper answer f proper = by ((stepping p says).act f Look)
    where
      by : (done : Faulty World × Outcome) → IsProperAnswer (answered_unless_refused p (stepping p says) answer done).1
      by (w, outcome) = looked-proper answer w outcome (proper w)

  refusing : (why : Refusal) (f : Faulty World) → IsProperAnswer (answered_look p (stepping p says) (λ (v : Faulty World). Refused why) f).1
  refusing why f = looking-proper (λ (v : Faulty World). Refused why) f (λ w. tt)

  changing-proper : (site : SiteId) (f : Faulty World) (named : Result Change (List ℕ)) → IsProperAnswer (answered_change p (stepping p says) site f named).1
  changing-proper site f (Err name) = refusing (UnknownName name) f
  changing-proper site f (Ok change) = change-proper change _

  session-proper : (site : SiteId) (s : Session (Faulty World)) → IsProperAnswer (session_answer p (stepping p says) site s)
  session-proper site s = by s.stop refl
    where
      by : (stop : Option Refusal) → s.stop ≡ stop → IsProperAnswer (session_answer p (stepping p says) site s)
      by None e = rw e tt
      by (Some why) e = rw e tt

  reported-proper : (site : SiteId) (of_publisher : PublisherTables → Answer) (of_subscriber : SubscriberTables → Answer) → ((t : PublisherTables) → IsProperAnswer (of_publisher t)) → ((t : SubscriberTables) → IsProperAnswer (of_subscriber t))
      → (w : Faulty World) → IsProperAnswer (report_of_site p (stepping p says) site of_publisher of_subscriber w)
  reported-proper site of_publisher of_subscriber one other w = made-proper (site.0 == 0) _ _ (one _) (by (subscriber_at w.world site))
    where
      by : (s : Option SubscriberTables) → IsProperAnswer (elim s [ None ↦ Refused (UnknownSite site) | Some t ↦ of_subscriber t ])
      by None = tt
      by (Some t) = other t

  report-proper : (site : SiteId) (of_publisher : PublisherTables → Answer) (of_subscriber : SubscriberTables → Answer) (f : Faulty World) → ((t : PublisherTables) → IsProperAnswer (of_publisher t)) → ((t : SubscriberTables) → IsProperAnswer (of_subscriber t))
      → IsProperAnswer (answered_report p (stepping p says) site of_publisher of_subscriber f).1
  report-proper site of_publisher of_subscriber f one other = looking-proper (report_of_site p (stepping p says) site of_publisher of_subscriber) f (reported-proper site of_publisher of_subscriber one other)

  answer-proper : (e : Event) → shows_values e ≡ false → (f : Faulty World) → IsProperAnswer (happens p (stepping p says) f e).1
  answer-proper (event.Wait seconds) plain f = tt
  answer-proper (event.Insert site article values) plain f = either (is_site p site) _ _ (changing-proper site f _) (refusing (UnknownSite site) f)
  answer-proper (event.Update site article row values) plain f = either (is_site p site) _ _ (changing-proper site f _) (refusing (UnknownSite site) f)
  answer-proper (event.Delete site article row) plain f = either (is_site p site) _ _ (changing-proper site f _) (refusing (UnknownSite site) f)
  answer-proper (event.Close site) plain f = either (is_site p site) _ _ (outcome-proper 0 _) (refusing (UnknownSite site) f)
  answer-proper (event.Sync site) plain f = either (is_subscription p site.0) _ _ (session-proper site (session (stepping p says) site f)) (refusing (UnknownSite site) f)
  answer-proper (event.SendJoin site) plain f = either (is_subscription p site.0) _ _ (outcome-proper 0 _) (refusing (UnknownSite site) f)
  answer-proper (event.SendUpload site) plain f = either (is_subscription p site.0) _ _ (outcome-proper 0 _) (refusing (UnknownSite site) f)
  answer-proper (event.SendRanges site) plain f = either (is_subscription p site.0) _ _ (outcome-proper 0 _) (refusing (UnknownSite site) f)
  answer-proper (event.SendDownload site) plain f = either (is_subscription p site.0) _ _ (outcome-proper 0 _) (refusing (UnknownSite site) f)
  answer-proper (event.Deliver number) plain f = outcome-proper number _
  answer-proper (event.Reinit site) plain f = either (is_subscription p site.0) _ _ (outcome-proper 0 _) (refusing (UnknownSite site) f)
  answer-proper event.Purge plain f = outcome-proper 0 _
  answer-proper (event.Restart site) plain f = either (is_site p site) _ _ (looking-proper (λ (v : Faulty World). Fine) f (λ w. tt)) (refusing (UnknownSite site) f)
  answer-proper (event.Show site article) plain f = absurd cc
  answer-proper (event.Partition site) plain f = either (is_subscription p site.0) _ _ (looking-proper (λ (v : Faulty World). partition_report p site v.world.publisher) f (λ w. tt)) (refusing (UnknownSite site) f)
  answer-proper (event.Conflicts site) plain f = absurd cc
  answer-proper (event.Ranges site) plain f = either (is_site p site) _ _ (report-proper site (λ (t : PublisherTables). Grants t.grants) (λ (t : SubscriberTables). Held (held_report t)) f (λ t. tt) (λ t. tt)) (refusing (UnknownSite site) f)
  answer-proper (event.Generations site) plain f = either (is_site p site) _ _ (report-proper site (publisher_generations p) (subscriber_generations) f (λ t. tt) (λ t. tt)) (refusing (UnknownSite site) f)
  answer-proper (event.Count site) plain f = either (is_site p site) _ _ (report-proper site (λ (t : PublisherTables). Counts (counts_of p (live_rows t.rows))) (λ (t : SubscriberTables). Counts (counts_of p (subscriber_live_rows t))) f (λ t. tt) (λ t. tt)) (refusing (UnknownSite site) f)

  comes-proper : (e : Event) → shows_values e ≡ false → (w v : World) (answer : Answer) (a b : ℕ) → Comes p says w e v answer a b → IsProperAnswer answer
  unfolding Comes
  comes-proper e plain w v answer a b comes = subst (λ (done : Faulty World × Answer). IsProperAnswer done.1) (comes.goes []) (answer-proper e plain (faulty w (comes.slips ++ [])))

pub shows-nothing : (e : Event) → shows_values e ≡ false → (u v : SitesView) (g h : HandedView) (answer : Answer) → Happened e u v g h answer → IsProperAnswer answer
shows-nothing e plain u v g h answer happened = comes-proper u.publication g.says e plain _ _ answer _ _ happened.comes

pub proceeds-printable : (e : Event) → shows_values e ≡ false → (u v : SitesView) (g h : HandedView) (result : Result Answer Refusal) → Proceeds e u v g h result → IfOk result IsProperAnswer
proceeds-printable e plain u v g h (Ok answer) happened = shows-nothing e plain u v g h answer happened
proceeds-printable e plain u v g h (Err why) ends = tt

-- resolvers that say nothing
pub nobody : HandedView
nobody = record { says = λ place count asked. None; tallies = [] }
