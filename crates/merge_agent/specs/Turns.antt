-- One turn of a session: a message is made, the link carries it, and the subscriber takes what is told.
use Rattle.std.specs.Prelude.{◌≡◌, ◌≤◌, ◌<◌, ◌⊎◌, ◌+◌, ℕ, List, [], ◌∷◌, Result, Ok, Err, Option, None, Some}
use Rattle.merge_types.specs.declared.identifiers.Moment.{Moment}
use Rattle.merge_types.specs.Limits.{counter_limit}
use Rattle.merge_schema.specs.declared.publication.Publication.{Publication}
use Rattle.merge_batch.specs.Heads.{kind_of}
use Rattle.merge_batch.specs.declared.refusal.Refusal.{Refusal}
use Rattle.merge_batch.specs.declared.reply.Reply.{Reply}
use Rattle.merge_batch.specs.declared.reply.Reply.TheVariants as reply
use Rattle.merge_batch.specs.declared.request.Request.{Request}
use Rattle.merge_model.specs.Judge.ByNumbers.{by_rows}
use Rattle.merge_model.specs.World.Steps.{Sending}
use Rattle.merge_model.specs.Tables.{SubscriberTables}
use Rattle.merge_model.specs.Subscriber.Taking.{take_reply}
use Rattle.merge_model.specs.declared.outcome.Taken.{Taken}
use Rattle.merge_model.specs.declared.outcome.Taken.TheVariants.{Acted, Missed}
use Rattle.merge_world.specs.Messages.{request_of_sending}
use Rattle.merge_world.specs.Views.{SubscriberView}
use Rattle.merge_ports.specs.Faults.{Rose}
use Rattle.merge_link.specs.declared.link.Exchange.{Exchange}
use Rattle.merge_agent.specs.Answers.{Tells}
use Rattle.merge_agent.specs.Faults.{fault_of, refused_as, with_fault}
use Rattle.merge_agent.specs.Meetings.{Meeting, Passes}
use Rattle.merge_agent.specs.Texts.{IsReadable, request_text}
use Rattle.merge_agent.specs.declared.answer.Told.{Told}
use Rattle.merge_agent.specs.declared.answer.Told.TheVariants.{Replied, Spoiled, Declined}
use Rattle.merge_agent.specs.declared.fault.SessionFault.{SessionFault}
use Rattle.merge_agent.specs.declared.fault.SessionFault.TheVariants as fault

-- What the subscriber takes. A link gives one response to a request, so a reply that answers another message does not fit.

abbrev pub taken_as : Reply → Result (SubscriberTables × Taken) Refusal → Result (SubscriberTables × Reply) SessionFault
taken_as m (Ok (s, Acted)) = Ok (s, m)
taken_as m (Ok (s, Missed seq outstanding)) = Err (fault.BadReply 0)
taken_as m (Err why) = Err (fault_of why)

abbrev pub reply_taken : Publication → Moment → Reply → SubscriberTables → Result (SubscriberTables × Reply) SessionFault
reply_taken publication now (reply.Refused number values) s = Err (refused_as number values)
reply_taken publication now m s = taken_as m (take_reply publication (by_rows s) now m s)

abbrev pub taken_by : Publication → Moment → Told → SubscriberTables → Result (SubscriberTables × Reply) SessionFault
taken_by publication now (Replied m) s = reply_taken publication now m s
taken_by publication now (Spoiled place) s = Err (fault.BadReply place)
taken_by publication now (Declined number) s = Err (fault.Refused number)

-- A step of the site was made. Or it failed and no table changed: the definition refuses it, memory was wanting, or the
-- store failed, which is counted and comes only where the definition makes the step. Nothing else is counted.
abbrev pub StepEnds : {A : Type 0} → Result (SubscriberTables × A) SessionFault → SubscriberTables → SubscriberTables → ℕ → ℕ → Result A SessionFault → Type 0
StepEnds by old new before after (Ok x) = (by ≡ Ok (new, x)) × (after ≡ before)
StepEnds {A} by old new before after (Err why) = (new ≡ old) × ((by ≡ Err why) × (after ≡ before) ⊎ ((why ≡ fault.NoMemory) × (after ≡ before) ⊎ (why ≡ fault.StoreFault) × ((done : SubscriberTables × A) × (by ≡ Ok done)) × (before + 1 ≤ after)))

-- an exchange of the link, and the moment behind it
pub record Turn : Type 0 where
  pub carried : Exchange
  pub now : Moment

-- such a message was made, and the tables have it
abbrev pub IsMade : Sending → Moment → SubscriberTables → SubscriberTables → Request → Type 0
IsMade sending made old sent request = request_of_sending sending made old ≡ Ok (Some (sent, request))

-- there is a message to make
abbrev pub HasMessage : Sending → Moment → SubscriberTables → Type 0
HasMessage sending made old = (sent : SubscriberTables) × (request : Request) × IsMade sending made old sent request

-- What a site did that was told to make a message. Its store fails only where there is one to make, which is counted, and
-- nothing else is.
abbrev pub Makes : Sending → Moment → SubscriberView → SubscriberView → Result (Option Request) SessionFault → Type 0
Makes sending made old new (Ok None) = (request_of_sending sending made old.tables ≡ Ok None) × (new.tables ≡ old.tables) × (new.faults ≡ old.faults)
Makes sending made old new (Ok (Some request)) = IsMade sending made old.tables new.tables request × (new.faults ≡ old.faults)
Makes sending made old new (Err why) = (new.tables ≡ old.tables) × ((with_fault (request_of_sending sending made old.tables) ≡ Err why) × (new.faults ≡ old.faults) ⊎ ((why ≡ fault.NoMemory) × (new.faults ≡ old.faults) ⊎ (why ≡ fault.StoreFault) × HasMessage sending made old.tables × (old.faults + 1 ≤ new.faults)))

-- the message was made so that it is read again, the link carried it, and the response tells this
pub record Meets (address : List ℕ) (sending : Sending) (made : Moment) (turn : Turn) (old sent : SubscriberTables) (told : Told) : Type 0 where
  pub request : Request
  pub is_made : IsMade sending made old sent request
  pub text : turn.carried.request ≡ request_text address request
  pub readable : IsReadable request
  pub tells : Tells (kind_of request) turn.carried.response told

-- and the subscriber took it
pub record Takes (publication : Publication) (address : List ℕ) (sending : Sending) (made : Moment) (turn : Turn) (old new : SubscriberTables) (m : Reply) : Type 0 where
  pub sent : SubscriberTables
  pub told : Told
  pub meets : Meets address sending made turn old sent told
  pub taken : taken_by publication turn.now told sent ≡ Ok (new, m)

-- Where a turn that ended a session broke off: no message was made; it was made and no response came; or a response came
-- that was not taken. It has the moments that the clock gave.
pub data Break : Type 0 where
  Unmade : Moment → Break
  Unanswered : Moment → Break
  Untaken : Moment → Turn → Break

abbrev pub exchanges_in : Break → List Exchange
exchanges_in (Unmade made) = []
exchanges_in (Unanswered made) = []
exchanges_in (Untaken made turn) = turn.carried ∷ []

abbrev pub moments_in : Break → List Moment
moments_in (Unmade made) = made ∷ []
moments_in (Unanswered made) = made ∷ []
moments_in (Untaken made turn) = made ∷ turn.now ∷ []

-- What the site did not take: it refused it, or its store failed where it would take it.
abbrev pub IsLeft : Result (SubscriberTables × Reply) SessionFault → SessionFault → Type 0
IsLeft by why = (by ≡ Err why) ⊎ ((why ≡ fault.StoreFault) × ((done : SubscriberTables × Reply) × (by ≡ Ok done)))

-- the request was made and the link carried it, and then memory was wanting, or the site did not take what the response tells
pub record Untakes (publication : Publication) (address : List ℕ) (sending : Sending) (made : Moment) (turn : Turn) (old new : SubscriberTables) (why : SessionFault) : Type 0 where
  pub request : Request
  pub is_made : IsMade sending made old new request
  pub text : turn.carried.request ≡ request_text address request
  pub readable : IsReadable request
  pub by : (why ≡ fault.NoMemory) ⊎ ((told : Told) × Tells (kind_of request) turn.carried.response told × IsLeft (taken_by publication turn.now told new) why)

-- what a fault leaves, and how it comes
abbrev pub Breaks : Publication → List ℕ → Sending → SubscriberTables → SubscriberTables → Break → SessionFault → Type 0
Breaks publication address sending old new (Unmade made) why = (new ≡ old) × ((with_fault (request_of_sending sending made old) ≡ Err why) ⊎ ((why ≡ fault.NoMemory) ⊎ (why ≡ fault.StoreFault) × HasMessage sending made old))
Breaks publication address sending old new (Unanswered made) why = ((request : Request) × IsMade sending made old new request) × ((why ≡ fault.NoMemory) ⊎ (why ≡ fault.LinkFault))
Breaks publication address sending old new (Untaken made turn) why = Untakes publication address sending made turn old new why

-- the counts rose of what failed
pub record HasCauses (old new : Meeting) (why : SessionFault) : Type 0 where
  pub store : why ≡ fault.StoreFault → old.faults + 1 ≤ new.faults
  pub link : why ≡ fault.LinkFault → Rose old.links new.links

-- a turn that went through
pub record Turns (address : List ℕ) (sending : Sending) (old new : Meeting) (m : Reply) : Type 0 where
  pub made : Moment
  pub turn : Turn
  pub takes : Takes old.publication address sending made turn old.tables new.tables m
  pub passes : Passes (turn.carried ∷ []) (made ∷ turn.now ∷ []) old new

-- one for which there was no message to make
pub record Skips (sending : Sending) (old new : Meeting) : Type 0 where
  pub made : Moment
  pub none : request_of_sending sending made old.tables ≡ Ok None
  pub same : new.tables ≡ old.tables
  pub passes : Passes [] (made ∷ []) old new

-- one that broke off
pub record Broke (address : List ℕ) (sending : Sending) (old new : Meeting) (why : SessionFault) : Type 0 where
  pub at : Break
  pub breaks : Breaks old.publication address sending old.tables new.tables at why
  pub passes : Passes (exchanges_in at) (moments_in at) old new
  pub causes : HasCauses old new why

abbrev pub Exchanges : List ℕ → Sending → Meeting → Meeting → Result (Option Reply) SessionFault → Type 0
Exchanges address sending old new (Ok None) = Skips sending old new
Exchanges address sending old new (Ok (Some m)) = Turns address sending old new m
Exchanges address sending old new (Err why) = Broke address sending old new why

-- a message that is made takes a number, and none is made where the number stands at the limit
abbrev pub Advances : SubscriberTables → SubscriberTables → Result (Option Reply) SessionFault → Type 0
Advances old new (Ok (Some m)) = (old.seq < counter_limit) × (old.seq + 1 ≤ new.seq)
Advances old new result = Unit {0}
