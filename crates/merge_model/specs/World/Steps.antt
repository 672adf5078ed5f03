-- The steps of the world: a step is one event at one site.
use Rattle.std.specs.List.{zip}
use Rattle.std.specs.Prelude.{Err, List, None, Ok, Option, Result, Some, [], if◌then◌else◌, length, map, unwrap_or, ℕ, ◌++◌, ◌+◌, ◌==◌, ◌∷◌}
use Rattle.merge_types.specs.declared.changes.Change.{Change}
use Rattle.merge_types.specs.declared.identifiers.Moment.{Moment}
use Rattle.merge_types.specs.declared.identifiers.RowId.{RowId}
use Rattle.merge_types.specs.declared.identifiers.SiteId.{SiteId}
use Rattle.merge_units.specs.declared.result.Decision.{Decision}
use Rattle.merge_units.specs.declared.result.Decision.TheVariants.{KeepPublisher}
use Rattle.merge_resolve.specs.Asked.{decisions_of, tallies_after}
use Rattle.merge_schema.specs.declared.publication.Publication.{Publication}
use Rattle.merge_batch.specs.declared.refusal.Refusal.{Refusal}
use Rattle.merge_batch.specs.declared.refusal.Refusal.TheVariants.{UnknownSite}
use Rattle.merge_batch.specs.declared.reply.Downloaded.{Downloaded}
use Rattle.merge_batch.specs.declared.reply.Joined.{Joined}
use Rattle.merge_batch.specs.declared.reply.Ranged.{Ranged}
use Rattle.merge_batch.specs.declared.reply.Reply.{Reply}
use Rattle.merge_batch.specs.declared.reply.Uploaded.{Uploaded}
use Rattle.merge_batch.specs.declared.request.Download.{Download}
use Rattle.merge_batch.specs.declared.request.Join.{Join}
use Rattle.merge_batch.specs.declared.request.RangeAsk.{RangeAsk}
use Rattle.merge_batch.specs.declared.request.Request.{Request}
use Rattle.merge_batch.specs.declared.request.Upload.{Upload}
use Rattle.merge_model.specs.Publisher.Acts.{questions_of}
use Rattle.merge_resolve.specs.Questions.{decision_for_question, question_of as asked_of}
use Rattle.merge_resolve.specs.declared.asking.Question.{Question}
use Rattle.merge_model.specs.Judge.{PublisherJudge}
use Rattle.merge_model.specs.Publisher.{at_moment, close_generation}
use Rattle.merge_model.specs.Publisher.PublisherDownload.{download}
use Rattle.merge_model.specs.Publisher.PublisherJoin.{join}
use Rattle.merge_model.specs.Publisher.PublisherLocal.{local}
use Rattle.merge_model.specs.Publisher.PublisherPurge.{purge}
use Rattle.merge_model.specs.Publisher.PublisherRanges.{ranges}
use Rattle.merge_model.specs.Publisher.PublisherUpload.{upload}
use Rattle.merge_model.specs.Subscriber.Reinit.{reinitialise}
use Rattle.merge_model.specs.Subscriber.Sending.{make_ask, make_join, make_ranges, make_upload}
use Rattle.merge_model.specs.Subscriber.{close_subscriber_generation, subscriber_local}
use Rattle.merge_model.specs.Tables.{PublisherTables, SubscriberTables}
use Rattle.merge_model.specs.Subscriber.Taking.{take_reply}
use Rattle.merge_model.specs.declared.outcome.Taken.{Taken}
use Rattle.merge_model.specs.World.{Judges, Saying, World, by_tables, letter_at, subscriber_at, with_publisher, with_subscriber}
use Rattle.merge_model.specs.declared.letter.Message.TheVariants.{Asks, Replies}
use Rattle.merge_model.specs.declared.letter.Letter.{Letter}
use Rattle.merge_model.specs.declared.letter.Message.{Message}
use Rattle.merge_model.specs.declared.outcome.Outcome.{Outcome}
use Rattle.merge_model.specs.declared.outcome.Outcome.TheVariants.{Closes, Discards, Forgot, Made, NoLetter, NoPost, Passed, Posted, Refuses, Took}
use Rattle.merge_batch.specs.declared.reply.Reply.TheVariants as reply
use Rattle.merge_batch.specs.declared.request.Request.TheVariants as request

-- the messages that a subscriber can be told to make
pub data Sending : Type 0 where
  SendJoin : Sending
  SendUpload : Sending
  SendRanges : Sending
  SendDownload : Sending

pub data Action : Type 0 where
  -- the moment moves by so many seconds
  Pass : (seconds : ℕ) → Action
  -- a local change; site 0 is the publisher
  Make : SiteId → Change → Action
  -- the open generation closes
  CloseAt : SiteId → Action
  Send : SiteId → Sending → Action
  -- the message of the pool with this number comes to where it goes
  Deliver : ℕ → Action
  MakeAnew : SiteId → Action
  Forget : Action
  -- a report, a restart, or an event that is refused for a name: it looks and changes nothing
  Look : Action

-- a message more
abbrev pub post : SiteId → Message → World → World × Outcome
post site message w = (record w { pool = w.pool ++ record { site = site; message = message } ∷ [] }, Posted (length w.pool + 1))

-- a step of a subscriber that there must be
abbrev pub at_subscriber : SiteId → World → (SubscriberTables → World × Outcome) → World × Outcome
at_subscriber site w act = elim (subscriber_at w site) [
  | None ↦ (w, Refuses (UnknownSite site))
  | Some s ↦ act s
]

-- a refusal leaves the world as it was
abbrev pub unless_refused : {A : Type 0} → World → Result A Refusal → (A → World × Outcome) → World × Outcome
unless_refused w (Err refusal) act = (w, Refuses refusal)
unless_refused w (Ok done) act = act done

-- Local changes and closing.

abbrev pub make_at_publisher : Publication → Judges → Change → World → World × Outcome
make_at_publisher publication judges change w = unless_refused w (local publication (judges.publisher 0) w.moment change w.publisher)
    (λ (done : PublisherTables × RowId). (with_publisher done.0 w, Made done.1))

abbrev pub make_at_subscriber : Publication → Change → World → SubscriberTables → World × Outcome
make_at_subscriber publication change w s = unless_refused w (subscriber_local publication w.moment change s)
    (λ (done : SubscriberTables × RowId). (with_subscriber done.0 w, Made done.1))

abbrev pub make_at : Publication → Judges → SiteId → Change → World → World × Outcome
make_at publication judges site change w =
    if site.0 == 0 then make_at_publisher publication judges change w
    else at_subscriber site w (make_at_subscriber publication change w)

abbrev pub close_publisher : World → World × Outcome
close_publisher w = unless_refused w (close_generation w.moment w.publisher)
    (λ (done : PublisherTables × ℕ). (with_publisher done.0 w, Closes done.1))

abbrev pub close_subscriber : World → SubscriberTables → World × Outcome
close_subscriber w s = unless_refused w (close_subscriber_generation w.moment s)
    (λ (done : SubscriberTables × ℕ). (with_subscriber done.0 w, Closes done.1))

abbrev pub close_at : SiteId → World → World × Outcome
close_at site w = if site.0 == 0 then close_publisher w else at_subscriber site w (close_subscriber w)

-- Messages.

abbrev pub post_if_made : {A : Type 0} → SiteId → (A → Request) → World → Option (SubscriberTables × A) → World × Outcome
post_if_made site message w None = (w, NoPost)
post_if_made site message w (Some made) = post site (Asks (message made.1)) (with_subscriber made.0 w)

abbrev pub send_from : Judges → Sending → World → SubscriberTables → World × Outcome
send_from judges SendJoin w s = unless_refused w (make_join s) (post_if_made s.site (λ (m : Join). request.Join m) w)
send_from judges SendUpload w s = unless_refused w (make_upload (judges.subscriber s.site s) w.moment s) (post_if_made s.site (λ (m : Upload). request.Upload m) w)
send_from judges SendRanges w s = unless_refused w (make_ranges s) (post_if_made s.site (λ (m : RangeAsk). request.Ranges m) w)
send_from judges SendDownload w s = unless_refused w (make_ask s)
    (λ (made : SubscriberTables × Download). post s.site (Asks (request.Download made.1)) (with_subscriber made.0 w))

abbrev pub send : Judges → SiteId → Sending → World → World × Outcome
send judges site sending w = at_subscriber site w (send_from judges sending w)

-- The questions of an upload that is not refused are asked one after the other.

abbrev pub kept_decision : Question × Option Decision → Decision
kept_decision pair = decision_for_question pair.0 (unwrap_or pair.1 KeepPublisher)

-- what the decisions on questions count as
abbrev pub kept_decisions : Saying → List ℕ → List Question → List Decision
kept_decisions says tallies questions = map kept_decision (zip questions (decisions_of says tallies (map asked_of questions)))

abbrev pub upload_questions : Publication → PublisherJudge → Moment → Upload → PublisherTables → List Question
upload_questions publication judge now m p = questions_of publication judge m (at_moment now p)

abbrev pub after_upload : Publication → Saying → PublisherJudge → SiteId → Upload → World → Result (PublisherTables × Uploaded) Refusal → World × Outcome
after_upload publication says judge site m w done = unless_refused w done
    (λ (made : PublisherTables × Uploaded). post site (Replies (reply.Uploaded made.1)) (record w {
      publisher = made.0;
      tallies = tallies_after w.tallies (map asked_of (upload_questions publication judge w.moment m w.publisher));
    }))

abbrev pub deliver_upload : Publication → Saying → PublisherJudge → SiteId → Upload → World → World × Outcome
deliver_upload publication says judge site m w = after_upload publication says judge site m w
    (upload publication judge w.moment m (kept_decisions says w.tallies (upload_questions publication judge w.moment m w.publisher)) w.publisher)

abbrev pub post_reply : {A : Type 0} → SiteId → (A → Reply) → World → Result (PublisherTables × A) Refusal → World × Outcome
post_reply {A = A} site message w done = unless_refused w done
    (λ (made : PublisherTables × A). post site (Replies (message made.1)) (with_publisher made.0 w))

abbrev pub deliver_request : Publication → Saying → PublisherJudge → SiteId → Request → World → World × Outcome
deliver_request publication says judge site (request.Join m) w = post_reply site (λ (made : Joined). reply.Joined made) w (join publication w.moment m w.publisher)
deliver_request publication says judge site (request.Upload m) w = deliver_upload publication says judge site m w
deliver_request publication says judge site (request.Ranges m) w = post_reply site (λ (made : Ranged). reply.Ranged made) w (ranges publication judge w.moment m w.publisher)
deliver_request publication says judge site (request.Download m) w = post_reply site (λ (made : Downloaded). reply.Downloaded made) w (download publication judge w.moment m w.publisher)

abbrev pub deliver_reply : Publication → Judges → Reply → World → SubscriberTables → World × Outcome
deliver_reply publication judges m w s = unless_refused w (take_reply publication (judges.subscriber s.site s) w.moment m s)
    (λ (done : SubscriberTables × Taken). (with_subscriber done.0 w, Took done.1))

abbrev pub deliver_letter : Publication → Saying → Judges → ℕ → World → Letter → World × Outcome
deliver_letter publication says judges number w letter = elim letter.message [
  | Asks m ↦ deliver_request publication says (judges.publisher number) letter.site m w
  | Replies m ↦ at_subscriber letter.site w (deliver_reply publication judges m w)
]

abbrev pub deliver : Publication → Saying → Judges → ℕ → World → World × Outcome
deliver publication says judges number w = elim (letter_at w number) [
  | None ↦ (w, NoLetter)
  | Some letter ↦ deliver_letter publication says judges number w letter
]

-- Making anew, and forgetting.

abbrev pub make_anew : Judges → World → SubscriberTables → World × Outcome
make_anew judges w s = unless_refused w (reinitialise (judges.subscriber s.site s) w.moment s)
    (λ (done : SubscriberTables × ℕ). (with_subscriber done.0 w, Discards done.1))

abbrev pub forget : Publication → World → World × Outcome
forget publication w = let done = purge publication w.moment w.publisher in (with_publisher done.0 w, Forgot done.1)

abbrev pub pass : ℕ → World → World × Outcome
pass seconds w = (record w { moment = record { 0 = w.moment.0 + seconds } }, Passed)

-- One step, by what the sites decide by.
abbrev pub step_by : Publication → Saying → Judges → World → Action → World × Outcome
step_by publication says judges w (Pass seconds) = pass seconds w
step_by publication says judges w (Make site change) = make_at publication judges site change w
step_by publication says judges w (CloseAt site) = close_at site w
step_by publication says judges w (Send site sending) = send judges site sending w
step_by publication says judges w (Deliver number) = deliver publication says judges number w
step_by publication says judges w (MakeAnew site) = at_subscriber site w (make_anew judges w)
step_by publication says judges w Forget = forget publication w
step_by publication says judges w Look = (w, Passed)

-- the machine's step decides by the tables
abbrev pub step : Publication → Saying → World → Action → World × Outcome
step publication says w action = step_by publication says (by_tables w) w action
