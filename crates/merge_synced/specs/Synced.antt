-- A session over a link that meets the model's publisher is the model's session.
use Rattle.std.specs.Prelude.{All, Err, List, None, Ok, Option, Some, flat_map, length, ℕ, ◌⊎◌, ◌≡◌, ◌≤◌}
use Rattle.serde_json.specs.Written.{compact_text}
use Rattle.merge_types.specs.declared.identifiers.Moment.{Moment}
use Rattle.merge_types.specs.declared.identifiers.SiteId.{SiteId}
use Rattle.merge_schema.specs.Valid.{IsValid}
use Rattle.merge_schema.specs.declared.publication.Publication.{Publication}
use Rattle.merge_batch.specs.Heads.{answered_kind, kind_of}
use Rattle.merge_batch.specs.declared.refusal.Refusal.{Refusal}
use Rattle.merge_batch.specs.declared.reply.Reply.{Reply}
use Rattle.merge_batch.specs.declared.request.Request.{Request}
use Rattle.merge_json.specs.Messages.{IsAnswered, IsSent}
use Rattle.merge_json.specs.Requests.{path_of}
use Rattle.merge_json.specs.WrittenRequests.{request_data}
use Rattle.merge_wire.specs.Fields.{body_limit}
use Rattle.merge_wire.specs.Written.{IsVisible, message_text}
use Rattle.merge_model.specs.Failing.{Slips}
use Rattle.merge_model.specs.Failing.Runs.{world_behind_actions}
use Rattle.merge_model.specs.Judge.ByNumbers.{by_rows}
use Rattle.merge_model.specs.Subscriber.Taking.{take_reply}
use Rattle.merge_model.specs.Tables.{PublisherTables, SubscriberTables}
use Rattle.merge_model.specs.World.Events.{machine}
use Rattle.merge_model.specs.World.Session.{Session as ModelSession, session}
use Rattle.merge_model.specs.World.Steps.{Action}
use Rattle.merge_model.specs.World.{Saying, World, subscriber_at}
use Rattle.merge_model.specs.declared.outcome.Taken.TheVariants.{Acted}
use Rattle.merge_agent.specs.Faults.{fault_of}
use Rattle.merge_agent.specs.Sessions.{Follows, IsUnderWay, Over, Session, Step, at, exchanges_of, moments_of, sending_in, session_at_start, session_behind_reply}
use Rattle.merge_agent.specs.Texts.{request_text}
use Rattle.merge_agent.specs.Turns.{Breaks, HasMessage, Turn, Unmade, Untaken, taken_by}
use Rattle.merge_agent.specs.declared.answer.Told.TheVariants.{Replied}
use Rattle.merge_agent.specs.declared.fault.SessionFault.{SessionFault}
use Rattle.merge_agent.specs.declared.fault.SessionFault.TheVariants as fault
use Rattle.merge_desk.specs.Replay.{reply_of_refusal as told_as}
use Rattle.merge_serve.specs.Answers.{response_of}
use Rattle.merge_serve.specs.declared.answer.Answer.TheVariants as answer
use Rattle.merge_synced.specs.Answering.{Answers, AreRead, AreTold, Serving, behind, made_of, serving_in}

-- These steps of a session of the site, all at the moment of the world, met the world's publisher behind the link.
pub record Met (publication : Publication) (says : Saying) (w : World) (address : List ℕ) (s : SubscriberTables) (steps : List Step) (last : Session) (p : Serving) : Type 0 where
  pub here : subscriber_at w s.site ≡ Some s
  pub follows : Follows publication address steps (session_at_start s) last
  pub now : All (λ (moment : Moment). moment ≡ w.moment) (flat_map moments_of steps)
  -- the address can be written
  pub visible : IsVisible address
  pub answers : Answers publication says w.moment (flat_map exchanges_of steps) (serving_in w) p

-- how the model's session stands at its end
pub record StandsAs (site : SiteId) (t : SubscriberTables) (uploads downloads : ℕ) (stop : Option Refusal) (p : Serving) (done : ModelSession World) : Type 0 where
  pub stopped : done.stop ≡ stop
  pub uploaded : done.uploads ≡ uploads
  pub downloaded : done.downloads ≡ downloads
  pub tables : subscriber_at done.world site ≡ Some t
  pub serving : serving_in done.world ≡ p

-- Where the steps led to the end, the model's session ends with nothing refused, with as many uploads and downloads, and with the
-- same tables at both sites.
abbrev pub DoneIsTheModels : Publication → Saying → World → Type 0
DoneIsTheModels publication says w = (address : List ℕ) (s t : SubscriberTables) (steps : List Step) (uploads downloads : ℕ) (p : Serving)
    → Met publication says w address s steps (at Over t uploads downloads) p → StandsAs s.site t uploads downloads None p (session (machine publication says) s.site w)

-- The turn behind these steps met a refusal of the publisher.
pub record IsRefused (publication : Publication) (says : Saying) (w : World) (address : List ℕ) (last : Session) (p : Serving) (t : SubscriberTables) (turn : Turn) (refusal : Refusal) (why : SessionFault) : Type 0 where
  pub under_way : IsUnderWay last.stage
  pub breaks : Breaks publication address (sending_in last.stage) last.tables t (Untaken w.moment turn) why
  pub request : Request
  pub read : AreRead turn.carried.request request
  pub refused : made_of publication says w.moment request p ≡ Err refusal
  pub told : AreTold turn.carried.response (told_as refusal)

-- Where the publisher refused, the model's session stops with that refusal, with the same counts and tables. The fault of the session
-- is what the refusal is told as, but for want of memory.
abbrev pub RefusedIsTheModels : Publication → Saying → World → Type 0
RefusedIsTheModels publication says w = (address : List ℕ) (s t : SubscriberTables) (steps : List Step) (last : Session) (p : Serving) (turn : Turn) (refusal : Refusal) (why : SessionFault)
    → Met publication says w address s steps last p → IsRefused publication says w address last p t turn refusal why
    → StandsAs s.site t last.uploads last.downloads (Some refusal) p (session (machine publication says) s.site w)
    × ((why ≡ fault.NoMemory) ⊎ (taken_by publication turn.now (Replied (told_as refusal)) t ≡ Err why))

-- The site itself refused. The fault of the session tells that refusal, and the model's session stops with it, with these counts and
-- tables.
pub record SiteStops (publication : Publication) (says : Saying) (w : World) (site : SiteId) (t : SubscriberTables) (uploads downloads : ℕ) (p : Serving) (why : SessionFault) : Type 0 where
  pub refusal : Refusal
  pub fault : fault_of refusal ≡ why
  pub stands : StandsAs site t uploads downloads (Some refusal) p (session (machine publication says) site w)

-- Where the site did not make its next message, it refused to; or memory was wanting, or its store failed as there was one to make.
abbrev pub UnmadeIsTheModels : Publication → Saying → World → Type 0
UnmadeIsTheModels publication says w = (address : List ℕ) (s t : SubscriberTables) (steps : List Step) (last : Session) (p : Serving) (why : SessionFault)
    → Met publication says w address s steps last p → IsUnderWay last.stage → Breaks publication address (sending_in last.stage) last.tables t (Unmade w.moment) why
    → SiteStops publication says w s.site t last.uploads last.downloads p why ⊎ ((why ≡ fault.NoMemory) ⊎ (why ≡ fault.StoreFault) × HasMessage (sending_in last.stage) w.moment last.tables)

-- The publisher answered in the turn behind these steps, and the site did not take it.
pub record IsUntaken (publication : Publication) (says : Saying) (w : World) (address : List ℕ) (last : Session) (p : Serving) (t : SubscriberTables) (turn : Turn) (r : Reply) (why : SessionFault) : Type 0 where
  pub under_way : IsUnderWay last.stage
  pub breaks : Breaks publication address (sending_in last.stage) last.tables t (Untaken w.moment turn) why
  pub now : turn.now ≡ w.moment
  pub request : Request
  pub read : AreRead turn.carried.request request
  pub after : PublisherTables
  pub made : made_of publication says w.moment request p ≡ Ok (after, r)
  pub told : AreTold turn.carried.response r

-- the reply acts
abbrev pub WouldAct : Publication → Moment → Reply → SubscriberTables → Type 0
WouldAct publication now r t = (new : SubscriberTables) × (take_reply publication (by_rows t) now r t ≡ Ok (new, Acted))

-- Then it refused the reply; or memory was wanting, or its store failed as the reply would have acted. The model's session counts an
-- answer before it comes to the site, and so with a reply that is refused.
abbrev pub UntakenIsTheModels : Publication → Saying → World → Type 0
UntakenIsTheModels publication says w = (address : List ℕ) (s t : SubscriberTables) (steps : List Step) (last : Session) (p : Serving) (turn : Turn) (r : Reply) (why : SessionFault)
    → Met publication says w address s steps last p → (u : IsUntaken publication says w address last p t turn r why)
    → SiteStops publication says w s.site t (session_behind_reply last t r last.stage).uploads (session_behind_reply last t r last.stage).downloads (behind publication says w.moment u.request p) why
    ⊎ ((why ≡ fault.NoMemory) ⊎ (why ≡ fault.StoreFault) × WouldAct publication w.moment r t)

-- in every world behind actions, whatever steps fail in it, of a publication that a file can say
abbrev pub OfEveryValidWorld : (Publication → Saying → World → Type 0) → Type 0
OfEveryValidWorld Holds = (resolvers : ℕ) (publication : Publication) → IsValid resolvers publication → (says : Saying) (tallies : List ℕ) (slips : Slips) (actions : List Action)
    → Holds publication says (world_behind_actions publication says tallies slips actions)

-- The bytes that both sides write are such: a request or a reply of which the body tells it and is no longer than bodies may be.
abbrev pub RequestsAreRead : Type 0
RequestsAreRead = (address : List ℕ) (r : Request) → IsVisible address → (let body = compact_text (request_data r) in IsSent (path_of (kind_of r)) body r → length body ≤ body_limit → AreRead (request_text address r) r)

abbrev pub RepliesAreTold : Type 0
RepliesAreTold = (r : Reply) (body : List ℕ) → IsAnswered (answered_kind r) body r → length body ≤ body_limit → AreTold (message_text (response_of (answer.Told r body))) r
