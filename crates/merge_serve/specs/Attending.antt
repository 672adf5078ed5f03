-- One connection is served.
use Rattle.std.specs.Prelude.{List, Option, ℕ, ◌≡◌, ◌⊎◌}
use Rattle.std.specs.Io.KnownBytes.{Appends}
use Rattle.merge_types.specs.declared.identifiers.Moment.{Moment}
use Rattle.merge_batch.specs.declared.request.Request.{Request}
use Rattle.merge_ports.specs.Faults.{Rose}
use Rattle.merge_ports.specs.Parts.{AppendsFront}
use Rattle.merge_wire.specs.Written.{message_text}
use Rattle.merge_desk.specs.Views.{SeatView}
use Rattle.merge_serve.specs.Answers.{IsReplied, response_of, status_of}
use Rattle.merge_serve.specs.Asking.{Asks, IsDeclined}
use Rattle.merge_serve.specs.declared.answer.Answer.{Answer}
use Rattle.merge_serve.specs.declared.answer.Answer.TheVariants as answer
use Rattle.merge_serve.specs.declared.answer.Bare.{Bare}
use Rattle.merge_serve.specs.declared.attending.Attended.{Attended}
use Rattle.merge_serve.specs.declared.attending.Attended.TheVariants as attended

-- A state of a connection: the bytes that are left to read and those that were written, where it tells them, and how often a read
-- and a write of it failed.
pub record Traffic : Type 0 where
  pub left : Option (List ℕ)
  pub written : Option (List ℕ)
  pub read_faults : ℕ
  pub write_faults : ℕ

abbrev pub traffic : Option (List ℕ) → Option (List ℕ) → ℕ → ℕ → Traffic
traffic left written read_faults write_faults = record { left = left; written = written; read_faults = read_faults; write_faults = write_faults }

-- A request came and was answered so from the seat at this moment, or something else came, and the seat is as before.
abbrev pub IsDue : Moment → Option (List ℕ) → Option (List ℕ) → ℕ → ℕ → SeatView → SeatView → Answer → Type 0
IsDue now old new before after s t given =
    ((r : Request) × Asks old new r × IsReplied now r s t given)
    ⊎ ((why : Bare) × (given ≡ answer.Bare why) × IsDeclined old new before after why × (t ≡ s))

-- from one such state to another a connection was due this answer
abbrev pub IsDueThen : Moment → Traffic → Traffic → SeatView → SeatView → Answer → Type 0
IsDueThen now a b s t answer = IsDue now a.left b.left a.read_faults b.read_faults s t answer

-- and its whole response was written
abbrev pub Answers : Moment → Traffic → Traffic → SeatView → SeatView → Answer → Type 0
Answers now a b s t answer = IsDueThen now a b s t answer × Appends a.written b.written (message_text (response_of answer))

-- How a response was written: whole, or up to where a write failed.
abbrev pub Responds : Option (List ℕ) → Option (List ℕ) → ℕ → ℕ → Answer → Attended → Type 0
Responds old new before after answer (attended.Answered status) = (status ≡ status_of answer) × Appends old new (message_text (response_of answer))
Responds old new before after answer attended.ReadFault = ⊥
Responds old new before after answer attended.WriteFault = Rose before after × AppendsFront old new (message_text (response_of answer))

-- How a connection was served at a moment: it was answered, as far as its writes went, or a read failed and nothing was written.
abbrev pub IsAttended : Moment → Traffic → Traffic → SeatView → SeatView → Attended → Type 0
IsAttended now a b s t attended.ReadFault = Rose a.read_faults b.read_faults × (b.written ≡ a.written) × (t ≡ s)
IsAttended now a b s t done = (answer : Answer) × IsDueThen now a b s t answer × Responds a.written b.written a.write_faults b.write_faults answer done
