-- The events of a script, and what is answered to them.
use Rattle.std.specs.Prelude.{Bool, Err, List, None, Ok, Result, Some, [], if◌then◌else◌, option_map, unwrap_or, ℕ, ◌==◌, ◌||◌, ◌∷◌}
use Rattle.merge_types.specs.declared.changes.Change.{Change}
use Rattle.merge_types.specs.declared.identifiers.SiteId.{SiteId}
use Rattle.merge_schema.specs.declared.publication.Publication.{Publication}
use Rattle.merge_schema.specs.Places.{is_subscription}
use Rattle.merge_batch.specs.declared.refusal.Refusal.{Refusal}
use Rattle.merge_batch.specs.declared.refusal.Refusal.TheVariants.{NoMemory, UnknownName, UnknownSite}
use Rattle.merge_model.specs.declared.answer.Answer.{Answer}
use Rattle.merge_model.specs.declared.answer.Answer.TheVariants.{Applied, ClosedAt, Conflicts, Counts, Discarded, Done, Fine, Grants, Held, Ignored, NoMessage, Nothing, Now, Purged, Refused, RefusedIn, RowMade, Rows, Sent, Stopped}
use Rattle.merge_model.specs.Tables.Changes.{article_of, is_insert}
use Rattle.merge_model.specs.Publisher.Entries.{live_rows}
use Rattle.merge_model.specs.World.Naming.{article_by, delete_by, insert_by, update_by}
use Rattle.merge_model.specs.World.Reports.{counts_of, held_report, partition_report, publisher_generations, shown_rows, subscriber_live_rows, subscriber_generations}
use Rattle.merge_model.specs.World.Session.{Session, Stepping, session}
use Rattle.merge_model.specs.World.Steps.{Action, CloseAt, Deliver, Forget, Look, Make, MakeAnew, Pass, Send, SendDownload, SendJoin, SendRanges, SendUpload, step}
use Rattle.merge_model.specs.declared.outcome.Outcome.TheVariants.{Closes, Discards, Forgot, Made, NoLetter, NoPost, Passed, Posted, Refuses, Took}
use Rattle.merge_model.specs.declared.outcome.Outcome.{Outcome}
use Rattle.merge_model.specs.Tables.{PublisherTables, SubscriberTables}
use Rattle.merge_model.specs.declared.outcome.Taken.TheVariants.{Acted, Missed}
use Rattle.merge_model.specs.declared.outcome.Taken.{Taken}
use Rattle.merge_model.specs.World.{Saying, World, empty_world, subscriber_at}
use Rattle.merge_model.specs.declared.event.Event.{Event}
use Rattle.merge_model.specs.declared.event.Event.TheVariants as event

-- a site of the publication: the publisher or a subscriber
abbrev pub is_site : Publication → SiteId → Bool
is_site publication site = (site.0 == 0) || is_subscription publication site.0

-- want of memory has one answer, whether it comes before the names of an event are known or behind
abbrev pub refused_change : Change → Refusal → Answer
refused_change change NoMemory = Refused NoMemory
refused_change change refusal = RefusedIn (article_of change) refusal

-- what an outcome is answered
abbrev pub change_answer : Change → Outcome → Answer
change_answer change (Made row) = if is_insert change then RowMade row else Fine
change_answer change (Refuses refusal) = refused_change change refusal
change_answer change outcome = Fine

abbrev pub taken_answer : Taken → Answer
taken_answer Acted = Applied
taken_answer (Missed seq outstanding) = Ignored seq outstanding

-- the number of a message that was delivered, and what came of a step
abbrev pub outcome_answer : ℕ → Outcome → Answer
outcome_answer number Passed = Fine
outcome_answer number (Made row) = RowMade row
outcome_answer number (Closes generation) = ClosedAt generation
outcome_answer number (Posted posted) = Sent posted
outcome_answer number NoPost = Nothing
outcome_answer number (Took taken) = taken_answer taken
outcome_answer number NoLetter = NoMessage number
outcome_answer number (Discards rows) = Discarded rows
outcome_answer number (Forgot forgotten) = Purged forgotten.tombstones forgotten.mappings forgotten.generations
outcome_answer number (Refuses refusal) = Refused refusal

module _ {W : Type 0} (publication : Publication) (stepping : Stepping W) where
  abbrev pub answered_by : (Outcome → Answer) → W × Outcome → W × Answer
  answered_by answer (w, outcome) = (w, answer outcome)

  abbrev pub answered_action : ℕ → Action → W → W × Answer
  answered_action number action w = answered_by (outcome_answer number) (stepping.act w action)

  -- an event that looks and changes nothing: only memory can be wanting
  abbrev pub answered_unless_refused : (W → Answer) → W × Outcome → W × Answer
  answered_unless_refused answer (w, Refuses refusal) = (w, Refused refusal)
  answered_unless_refused answer (w, outcome) = (w, answer w)

  abbrev pub answered_look : (W → Answer) → W → W × Answer
  answered_look answer w = answered_unless_refused answer (stepping.act w Look)

  -- an event of a site that there must be
  abbrev pub where_site : SiteId → W → (W → W × Answer) → W × Answer
  where_site site w next = if is_site publication site then next w else answered_look (λ (v : W). Refused (UnknownSite site)) w

  -- and that is no publisher
  abbrev pub where_subscriber : SiteId → W → (W → W × Answer) → W × Answer
  where_subscriber site w next = if is_subscription publication site.0 then next w else answered_look (λ (v : W). Refused (UnknownSite site)) w

  -- local changes: names become places
  abbrev pub answered_change : SiteId → W → Result Change (List ℕ) → W × Answer
  answered_change site w (Err name) = answered_look (λ (v : W). Refused (UnknownName name)) w
  answered_change site w (Ok change) = answered_by (change_answer change) (stepping.act w (Make site change))

  -- sessions
  abbrev pub watermark_in : SiteId → W → ℕ
  watermark_in site w = unwrap_or (option_map (λ (s : SubscriberTables). s.watermark) (subscriber_at (stepping.look w) site)) 0

  abbrev pub session_answer : SiteId → Session W → Answer
  session_answer site s = elim s.stop [
    | None ↦ Done s.uploads s.downloads (watermark_in site s.world)
    | Some refusal ↦ Stopped s.uploads s.downloads refusal
  ]

  abbrev pub answered_sync : SiteId → W → W × Answer
  answered_sync site w = let done = session stepping site w in (done.world, session_answer site done)

  -- reports: of the publisher's tables, or of a subscriber's
  abbrev pub report_of_site : SiteId → (PublisherTables → Answer) → (SubscriberTables → Answer) → W → Answer
  report_of_site site of_publisher of_subscriber w =
      if site.0 == 0 then of_publisher (stepping.look w).publisher
      else elim (subscriber_at (stepping.look w) site) [
        | None ↦ Refused (UnknownSite site)
        | Some s ↦ of_subscriber s
      ]

  abbrev pub answered_report : SiteId → (PublisherTables → Answer) → (SubscriberTables → Answer) → W → W × Answer
  answered_report site of_publisher of_subscriber w = answered_look (report_of_site site of_publisher of_subscriber) w

  abbrev pub answered_show : SiteId → W → Result ℕ (List ℕ) → W × Answer
  answered_show site w (Err name) = answered_look (λ (v : W). Refused (UnknownName name)) w
  answered_show site w (Ok article) = answered_report site
      (λ (p : PublisherTables). Rows (shown_rows article (live_rows p.rows)))
      (λ (s : SubscriberTables). Rows (shown_rows article (subscriber_live_rows s))) w

  -- what an event does, and what is answered
  abbrev pub happens : W → Event → W × Answer
  happens w (event.Wait seconds) = let after = (stepping.act w (Pass seconds)).0 in (after, Now (stepping.look after).moment.0)
  happens w (event.Insert site article values) = where_site site w (λ (v : W). answered_change site v (insert_by publication article values))
  happens w (event.Update site article row values) = where_site site w (λ (v : W). answered_change site v (update_by publication article row values))
  happens w (event.Delete site article row) = where_site site w (λ (v : W). answered_change site v (delete_by publication article row))
  happens w (event.Close site) = where_site site w (answered_action 0 (CloseAt site))
  happens w (event.Sync site) = where_subscriber site w (answered_sync site)
  happens w (event.SendJoin site) = where_subscriber site w (answered_action 0 (Send site SendJoin))
  happens w (event.SendUpload site) = where_subscriber site w (answered_action 0 (Send site SendUpload))
  happens w (event.SendRanges site) = where_subscriber site w (answered_action 0 (Send site SendRanges))
  happens w (event.SendDownload site) = where_subscriber site w (answered_action 0 (Send site SendDownload))
  happens w (event.Deliver number) = answered_action number (Deliver number) w
  happens w (event.Reinit site) = where_subscriber site w (answered_action 0 (MakeAnew site))
  happens w event.Purge = answered_action 0 Forget w
  happens w (event.Restart site) = where_site site w (answered_look (λ (v : W). Fine))
  happens w (event.Show site article) = where_site site w (λ (v : W). answered_show site v (article_by publication article))
  happens w (event.Partition site) = where_subscriber site w (answered_look (λ (v : W). partition_report publication site (stepping.look v).publisher))
  happens w (event.Conflicts site) = where_site site w (answered_report site
      (λ (p : PublisherTables). Conflicts p.conflicts)
      (λ (s : SubscriberTables). Conflicts s.conflicts))
  happens w (event.Ranges site) = where_site site w (answered_report site
      (λ (p : PublisherTables). Grants p.grants)
      (λ (s : SubscriberTables). Held (held_report s)))
  happens w (event.Generations site) = where_site site w (answered_report site (publisher_generations publication) subscriber_generations)
  happens w (event.Count site) = where_site site w (answered_report site
      (λ (p : PublisherTables). Counts (counts_of publication (live_rows p.rows)))
      (λ (s : SubscriberTables). Counts (counts_of publication (subscriber_live_rows s))))

  -- the answers to events, one after the other
  abbrev pub answers : W → List Event → List Answer
  answers w [] = []
  answers w (event ∷ events) = let done = happens w event in done.1 ∷ answers done.0 events

  -- the world behind them
  abbrev pub after : W → List Event → W
  after w [] = w
  after w (event ∷ events) = after (happens w event).0 events

-- the machine: worlds of tables, which decide by these
abbrev pub machine : Publication → Saying → Stepping World
machine publication says = record {
  act = step publication says;
  look = λ (w : World). w;
  retally = λ (tallies : List ℕ) (w : World). record w { tallies = tallies };
}

-- what the machine answers to the events of a script
abbrev pub machine_answers : Publication → Saying → List ℕ → List Event → List Answer
machine_answers publication says tallies events = answers publication (machine publication says) (empty_world publication tallies) events
