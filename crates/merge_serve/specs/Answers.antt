-- What a connection is answered with, and what becomes of the seat.
use Rattle.std.specs.Prelude.{Bool, List, [], length, ℕ, ◌+◌, ◌++◌, ◌∷◌, ◌≡◌, ◌≤◌, ◌⊎◌, if◌then◌else◌}
use Rattle.serde_json.specs.Written.{compact_text}
use Rattle.merge_types.specs.declared.identifiers.Moment.{Moment}
use Rattle.merge_batch.specs.declared.reply.Reply.{Reply}
use Rattle.merge_batch.specs.declared.request.Request.{Request}
use Rattle.merge_json.specs.WrittenReplies.{reply_data}
use Rattle.merge_wire.specs.declared.message.Message.{Message}
use Rattle.merge_desk.specs.Marks.{is_refused, mark_on}
use Rattle.merge_desk.specs.Views.{SeatView}
use Rattle.merge_serve.specs.declared.answer.Answer.{Answer}
use Rattle.merge_serve.specs.declared.answer.Answer.TheVariants as answer
use Rattle.merge_serve.specs.declared.answer.Bare.{Bare}
use Rattle.merge_serve.specs.declared.answer.Bare.TheVariants as bare

abbrev pub bare_status : Bare → ℕ
bare_status bare.BadRequest = 400
bare_status bare.NotFound = 404
bare_status bare.MethodNotAllowed = 405
bare_status bare.TooLong = 413
bare_status bare.StoreFault = 500
bare_status bare.NoMemory = 507

-- a reply that is a refusal has a status of its own
abbrev pub reply_status : Reply → ℕ
reply_status reply = if is_refused reply then 409 else 200

abbrev pub status_of : Answer → ℕ
status_of (answer.Told reply body) = reply_status reply
status_of (answer.Bare why) = bare_status why

-- only a reply has a body
abbrev pub body_of : Answer → List ℕ
body_of (answer.Told reply body) = body
body_of (answer.Bare why) = []

abbrev pub response_of : Answer → Message
response_of a = record { method = []; path = []; host = []; status = status_of a; body = body_of a }

-- the desk answered a request of the seat at this moment with this reply, and told it so
pub record IsCalled (now : Moment) (r : Request) (reply : Reply) (s t : SeatView) : Type 0 where
  pub place : ℕ
  pub told : t.told ≡ s.told ++ mark_on place now r reply ∷ []
  pub known : length t.told ≤ place
  pub calls : t.calls ≡ s.calls + 1
  pub faults : t.faults ≡ s.faults

-- the desk met a fault of its store in a call of the seat
pub record IsFaulted (s t : SeatView) : Type 0 where
  pub told : t.told ≡ s.told
  pub calls : t.calls ≡ s.calls
  pub faults : t.faults ≡ s.faults + 1

-- the answer tells a reply, or memory was wanting for its body
abbrev pub Tells : Reply → Answer → Type 0
Tells reply (answer.Told same body) = (same ≡ reply) × (body ≡ compact_text (reply_data reply))
Tells reply (answer.Bare bare.NoMemory) = Unit {0}
Tells reply (answer.Bare _) = ⊥

-- A request was brought to the desk from a seat at this moment, and is answered so. Memory may be wanting before the desk answers, and behind.
abbrev pub IsReplied : Moment → Request → SeatView → SeatView → Answer → Type 0
IsReplied now r s t (answer.Told reply body) = IsCalled now r reply s t × (body ≡ compact_text (reply_data reply))
IsReplied now r s t (answer.Bare bare.StoreFault) = IsFaulted s t
IsReplied now r s t (answer.Bare bare.NoMemory) = (t ≡ s) ⊎ ((reply : Reply) × IsCalled now r reply s t)
IsReplied now r s t (answer.Bare _) = ⊥
