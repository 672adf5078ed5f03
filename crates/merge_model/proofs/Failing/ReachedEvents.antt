-- From actions to events, and from events to lists of them.
use Rattle.std.proofs.Common.{◌≡◌, ◌++◌, ◌∷◌, [], ℕ, true, List, Option, Ok, ◌+◌, arith, refl, ap}
use Rattle.merge_types.specs.declared.changes.Change.{Change}
use Rattle.merge_types.specs.declared.identifiers.SiteId.{SiteId}
use Rattle.merge_batch.specs.declared.refusal.Refusal.{Refusal}
use Rattle.merge_schema.specs.declared.publication.Publication.{Publication}
use Rattle.merge_schema.specs.Places.{is_subscription}
use Rattle.merge_model.specs.declared.answer.Answer.{Answer}
use Rattle.merge_model.specs.declared.answer.Answer.TheVariants.{Counts, Now, Refused}
use Rattle.merge_model.specs.Publisher.Entries.{live_rows}
use Rattle.merge_model.specs.World.Reports.{counts_of, subscriber_live_rows}
use Rattle.merge_model.specs.Tables.{PublisherTables, SubscriberTables}
use Rattle.merge_model.specs.World.Events.{answered_by, answered_unless_refused, change_answer, happens, is_site, outcome_answer, report_of_site, session_answer}
use Rattle.merge_model.specs.Failing.{Faulty, faulty}
use Rattle.merge_model.specs.World.Naming.{insert_by}
use Rattle.merge_model.specs.World.Session.{Session, session}
use Rattle.merge_model.specs.World.Steps.{Deliver, Look, Make}
use Rattle.merge_model.specs.declared.outcome.Outcome.{Outcome}
use Rattle.merge_model.specs.declared.outcome.Outcome.TheVariants.{Passed, Refuses}
use Rattle.merge_model.specs.World.{Saying, World}
use Rattle.merge_model.specs.declared.event.Event.{Event}
use Rattle.merge_model.specs.declared.event.NamedValue.{NamedValue}
use Rattle.merge_model.specs.declared.event.Event.TheVariants as event
use Rattle.merge_model.specs.Failing.Reach.{Acts, Happens, at, run, stepping, with_outcome}
use Rattle.merge_model.specs.Failing.Reach.{Reaches}
use Rattle.merge_model.proofs.Failing.Reached.{same-start, stays, then, under}

module _ (p : Publication) (says : Saying) where
  pub delivering : (number : ℕ) (w v : World) (outcome : Outcome) (a b : ℕ) → Acts p says (Deliver number) w v outcome a b → Happens p says w (event.Deliver number) v (outcome_answer number outcome) a b
  unfolding Acts
  delivering number w v outcome a b r = under (answered_by p (stepping p says) (outcome_answer number)) (λ l. (stepping p says).act (faulty w l) (Deliver number)) (with_outcome p says v outcome) a b r

  -- an insert whose site and names there are
  pub inserting : (site : SiteId) (article : List ℕ) (values : List NamedValue) (change : Change) (w v : World) (outcome : Outcome) (a b : ℕ) → is_site p site ≡ true → insert_by p article values ≡ Ok change
      → Acts p says (Make site change) w v outcome a b → Happens p says w (event.Insert site article values) v (change_answer change outcome) a b
  unfolding Acts
  inserting site article values change w v outcome a b is named r = same-start (λ l. happens p (stepping p says) (faulty w l) (event.Insert site article values)) (λ l. answered_by p (stepping p says) (change_answer change) ((stepping p says).act (faulty w l) (Make site change))) (λ l. (faulty v l, change_answer change outcome)) a b
      (λ l. rw (is, named) refl)
      (under (answered_by p (stepping p says) (change_answer change)) (λ l. (stepping p says).act (faulty w l) (Make site change)) (with_outcome p says v outcome) a b r)

  -- a session
  pub synced : (site : SiteId) (w v : World) (x y : ℕ) (stop : Option Refusal) (a b : ℕ) → is_subscription p site.0 ≡ true → Reaches (λ l. session (stepping p says) site (faulty w l)) (at p says v x y stop) a b
      → Happens p says w (event.Sync site) v (session_answer p (stepping p says) site (at p says v x y stop [])) a b
  synced site w v x y stop a b is r = same-start (λ l. happens p (stepping p says) (faulty w l) (event.Sync site)) (λ l. told (session (stepping p says) site (faulty w l))) (λ l. (faulty v l, session_answer p (stepping p says) site (at p says v x y stop []))) a b
      (λ l. rw is refl)
      (under told (λ l. session (stepping p says) site (faulty w l)) (at p says v x y stop) a b r)
    where
      told : Session (Faulty World) → Faulty World × Answer
      told s = (s.world, session_answer p (stepping p says) site s)

  abbrev add : List Answer × Faulty World → Event → List Answer × Faulty World
  add ran e = let done = happens p (stepping p says) ran.1 e in (ran.0 ++ done.1 ∷ [], done.0)

  run-more : (f : Faulty World) (events : List Event) (e : Event) → run p says f (events ++ e ∷ []) ≡ add (run p says f events) e
  run-more f [] e = refl
  run-more f (first ∷ events) e = ap (λ (ran : List Answer × Faulty World). ((happens p (stepping p says) f first).1 ∷ ran.0, ran.1)) (run-more (happens p (stepping p says) f first).0 events e)

  -- the loop over the lines of a script: what was answered so far, and one event more
  pub run-on : (events : List Event) (e : Event) (first w v : World) (said : List Answer) (answer : Answer) (a b c : ℕ) → Reaches (λ l. run p says (faulty first l) events) (λ l. (said, faulty w l)) a b → Happens p says w e v answer b c
      → Reaches (λ l. run p says (faulty first l) (events ++ e ∷ [])) (λ l. (said ++ answer ∷ [], faulty v l)) a c
  run-on events e first w v said answer a b c so_far more = same-start (λ l. run p says (faulty first l) (events ++ e ∷ [])) (λ l. add (run p says (faulty first l) events) e) (λ l. (said ++ answer ∷ [], faulty v l)) a c
      (λ l. run-more (faulty first l) events e)
      (then (λ l. add (run p says (faulty first l) events) e) (λ l. add (said, faulty w l) e) (λ l. (said ++ answer ∷ [], faulty v l)) a b c
      (under (λ (ran : List Answer × Faulty World). add ran e) (λ l. run p says (faulty first l) events) (λ l. (said, faulty w l)) a b so_far)
      (under (λ (done : Faulty World × Answer). (said ++ done.1 ∷ [], done.0)) (λ l. happens p (stepping p says) (faulty w l) e) (λ l. (faulty v l, answer)) b c more))

-- a report: it looks, or memory is wanting
module _ (p : Publication) (says : Saying) where
  pub counting : (site : SiteId) (w : World) (a b : ℕ) → is_site p site ≡ true → Acts p says Look w w Passed a b
      → Happens p says w (event.Count site) w (report_of_site p (stepping p says) site (λ (t : PublisherTables). Counts (counts_of p (live_rows t.rows))) (λ (t : SubscriberTables). Counts (counts_of p (subscriber_live_rows t))) (faulty w [])) a b
  unfolding Acts
  counting site w a b is r = let answer : Faulty World → Answer = report_of_site p (stepping p says) site (λ (t : PublisherTables). Counts (counts_of p (live_rows t.rows))) (λ (t : SubscriberTables). Counts (counts_of p (subscriber_live_rows t))) in
      same-start (λ l. happens p (stepping p says) (faulty w l) (event.Count site)) (λ l. answered_unless_refused p (stepping p says) answer ((stepping p says).act (faulty w l) Look)) (λ l. (faulty w l, answer (faulty w []))) a b
      (λ l. rw is refl)
      (under (answered_unless_refused p (stepping p says) answer) (λ l. (stepping p says).act (faulty w l) Look) (with_outcome p says w Passed) a b r)

  pub counting-fails : (site : SiteId) (w : World) (why : Refusal) (a b : ℕ) → is_site p site ≡ true → Acts p says Look w w (Refuses why) a b → Happens p says w (event.Count site) w (Refused why) a b
  unfolding Acts
  counting-fails site w why a b is r = let answer : Faulty World → Answer = report_of_site p (stepping p says) site (λ (t : PublisherTables). Counts (counts_of p (live_rows t.rows))) (λ (t : SubscriberTables). Counts (counts_of p (subscriber_live_rows t))) in
      same-start (λ l. happens p (stepping p says) (faulty w l) (event.Count site)) (λ l. answered_unless_refused p (stepping p says) answer ((stepping p says).act (faulty w l) Look)) (λ l. (faulty w l, Refused why)) a b
      (λ l. rw is refl)
      (under (answered_unless_refused p (stepping p says) answer) (λ l. (stepping p says).act (faulty w l) Look) (with_outcome p says w (Refuses why)) a b r)

  pub waiting : (seconds : ℕ) (w : World) (a : ℕ) → Happens p says w (event.Wait seconds) (record w { moment = record { 0 = w.moment.0 + seconds } }) (Now (w.moment.0 + seconds)) a a
  waiting seconds w a = stays (λ l. (faulty (record w { moment = record { 0 = w.moment.0 + seconds } }) l, Now (w.moment.0 + seconds))) a a (omega arith)
