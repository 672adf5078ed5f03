-- A session that its link cuts, or something else, is a part of the model's session.
use Rattle.std.specs.Prelude.{List, Some, ℕ, ◌≡◌}
use Rattle.merge_types.specs.declared.identifiers.SiteId.{SiteId}
use Rattle.merge_schema.specs.declared.publication.Publication.{Publication}
use Rattle.merge_batch.specs.declared.request.Request.{Request}
use Rattle.merge_model.specs.Tables.{SubscriberTables}
use Rattle.merge_model.specs.World.Events.{machine}
use Rattle.merge_model.specs.World.Session.{session}
use Rattle.merge_model.specs.World.Steps.{Deliver, Send}
use Rattle.merge_model.specs.World.{Saying, World, letter_at, subscriber_at}
use Rattle.merge_model.specs.declared.letter.Message.TheVariants.{Asks}
use Rattle.merge_model.specs.declared.outcome.Outcome.TheVariants.{Posted}
use Rattle.merge_agent.specs.Sessions.{IsUnderWay, Session, Step, sending_in}
use Rattle.merge_agent.specs.Turns.{Breaks, IsMade, Unanswered}
use Rattle.merge_agent.specs.declared.fault.SessionFault.{SessionFault}
use Rattle.merge_synced.specs.Answering.{Serving, behind, serving_in}
use Rattle.merge_synced.specs.Courses.{Course, left_of, session_with_counts, stage_of}
use Rattle.merge_synced.specs.Synced.{Met}

-- the site has these tables in the world, and the publisher stands so
pub record Stands (site : SiteId) (t : SubscriberTables) (p : Serving) (v : World) : Type 0 where
  pub tables : subscriber_at v site ≡ Some t
  pub serving : serving_in v ≡ p

-- The model's session of the site passes this world, at the stage of the agent's session and with its tables and counts: from there on
-- it ends where it does as a whole.
pub record PassesBy (publication : Publication) (says : Saying) (site : SiteId) (w : World) (last : Session) (p : Serving) (v : World) : Type 0 where
  pub course : Course
  pub stage : last.stage ≡ stage_of course
  pub stands : Stands site last.tables p v
  pub moment : v.moment ≡ w.moment
  pub same : session (machine publication says) site w ≡ left_of publication says site course (session_with_counts v last.uploads last.downloads)

-- Whatever ends a session, the model's passes where its steps led.
abbrev pub StepsAreAPart : Publication → Saying → World → Type 0
StepsAreAPart publication says w = (address : List ℕ) (s : SubscriberTables) (steps : List Step) (last : Session) (p : Serving)
    → Met publication says w address s steps last p → (v : World) × PassesBy publication says s.site w last p v

-- The model's session passes there, and sends this request next, with which the site has these tables. Where the publisher did not get
-- it, it stands as before; and where it did and its reply was lost, it stands as behind the request.
pub record IsCut (publication : Publication) (says : Saying) (site : SiteId) (w : World) (last : Session) (p : Serving) (t : SubscriberTables) (request : Request) : Type 0 where
  pub before : World
  pub passes : PassesBy publication says site w last p before
  pub sent : World
  pub number : ℕ
  pub sends : (machine publication says).act before (Send site (sending_in last.stage)) ≡ (sent, Posted number)
  pub letter : letter_at sent number ≡ Some (record { site = site; message = Asks request })
  pub untaken : Stands site t p sent
  pub taken : Stands site t (behind publication says w.moment request p) ((machine publication says).act sent (Deliver number)).0

-- Where no response came to a message that the site made, the model's session is cut at that message.
abbrev pub CutIsAPart : Publication → Saying → World → Type 0
CutIsAPart publication says w = (address : List ℕ) (s t : SubscriberTables) (steps : List Step) (last : Session) (p : Serving) (why : SessionFault)
    → Met publication says w address s steps last p → IsUnderWay last.stage → Breaks publication address (sending_in last.stage) last.tables t (Unanswered w.moment) why
    → (request : Request) × IsMade (sending_in last.stage) w.moment last.tables t request × IsCut publication says s.site w last p t request
