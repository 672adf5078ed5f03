-- What the desk answers, and what becomes of the seat.
use Rattle.std.proofs.Common.{◌≡◌, ◌≤◌, ◌+◌, ◌++◌, ◌∷◌, ◌∙◌, [], Bool, List, ℕ, ap, arith, inl, inr, length, refl, sym, true, false, append-nil}
use Rattle.serde_json.specs.Written.{compact_text}
use Rattle.merge_types.specs.declared.identifiers.Moment.{Moment}
use Rattle.merge_batch.specs.declared.reply.Reply.{Reply}
use Rattle.merge_batch.specs.declared.request.Request.{Request}
use Rattle.merge_json.specs.WrittenReplies.{reply_data}
use Rattle.merge_wire.specs.Written.{IsWritable, is_status}
use Rattle.merge_desk.specs.Marks.{is_refused, mark_on}
use Rattle.merge_desk.specs.Views.{SeatView}
use Rattle.merge_desk.specs.declared.mark.Mark.{Mark}
use Rattle.merge_serve.specs.Answers.{IsCalled, IsReplied, Tells, reply_status, response_of}
use Rattle.merge_serve.specs.Attending.{IsAttended, IsDueThen, Responds, Traffic}
use Rattle.merge_serve.specs.Closing.{IsLater}
use Rattle.merge_serve.specs.declared.answer.Answer.{Answer}
use Rattle.merge_serve.specs.declared.answer.Answer.TheVariants as answer
use Rattle.merge_serve.specs.declared.answer.Bare.TheVariants as bare
use Rattle.merge_serve.specs.declared.attending.Attended.{Attended}
use Rattle.merge_serve.specs.declared.attending.Attended.TheVariants as attended

pub called_by : (now : Moment) (r : Request) (reply : Reply) (s t : SeatView) (mark : Mark) (place : ℕ) → t.told ≡ s.told ++ mark ∷ [] → mark ≡ mark_on place now r reply → length t.told ≤ place
    → t.calls ≡ s.calls + 1 → t.faults ≡ s.faults → IsCalled now r reply s t
called_by now r reply s t mark place told is known calls faults = record {
  place = place;
  told = told ∙ ap (λ m. s.told ++ m ∷ []) is;
  known = known;
  calls = calls;
  faults = faults;
}

pub replied_by : (now : Moment) (r : Request) (reply : Reply) (s t : SeatView) (a : Answer) → IsCalled now r reply s t → Tells reply a → IsReplied now r s t a
replied_by now r reply s t (answer.Told same body) called (is, text) = rw is (called, text)
replied_by now r reply s t (answer.Bare bare.NoMemory) called tells = inr (reply, called)
replied_by now r reply s t (answer.Bare bare.BadRequest) called tells = absurd tells
replied_by now r reply s t (answer.Bare bare.NotFound) called tells = absurd tells
replied_by now r reply s t (answer.Bare bare.MethodNotAllowed) called tells = absurd tells
replied_by now r reply s t (answer.Bare bare.TooLong) called tells = absurd tells
replied_by now r reply s t (answer.Bare bare.StoreFault) called tells = absurd tells

pub later_called : (s t : SeatView) (mark : Mark) → t.number ≡ s.number → t.call_parts ≡ s.call_parts → t.fault_parts ≡ s.fault_parts
    → t.told ≡ s.told ++ mark ∷ [] → t.calls ≡ s.calls + 1 → t.faults ≡ s.faults → IsLater s t
later_called s t mark number call_parts fault_parts told calls faults = record {
  number = number;
  call_parts = call_parts;
  fault_parts = fault_parts;
  more = mark ∷ [];
  told = told;
  calls = omega (arith, calls);
  faults = omega (arith, faults);
}

pub later_faulted : (s t : SeatView) → t.number ≡ s.number → t.call_parts ≡ s.call_parts → t.fault_parts ≡ s.fault_parts
    → t.told ≡ s.told → t.calls ≡ s.calls → t.faults ≡ s.faults + 1 → IsLater s t
later_faulted s t number call_parts fault_parts told calls faults = record {
  number = number;
  call_parts = call_parts;
  fault_parts = fault_parts;
  more = [];
  told = told ∙ sym (append-nil s.told);
  calls = omega (arith, calls);
  faults = omega (arith, faults);
}

pub later_same : (s t : SeatView) → t ≡ s → IsLater s t
later_same s t e = rw e (record {
  number = refl;
  call_parts = refl;
  fault_parts = refl;
  more = [];
  told = sym (append-nil s.told);
  calls = omega arith;
  faults = omega arith;
})

reply_writable : (reply : Reply) (refused : Bool) → is_refused reply ≡ refused → is_status (reply_status reply) ≡ true
reply_writable reply true e = rw e refl
reply_writable reply false e = rw e refl

pub writable : (a : Answer) → IsWritable (response_of a)
writable (answer.Told reply body) = inr (record { status = reply_writable reply (is_refused reply) refl; method = refl; path = refl; host = refl })
writable (answer.Bare bare.BadRequest) = inr (record { status = refl; method = refl; path = refl; host = refl })
writable (answer.Bare bare.NotFound) = inr (record { status = refl; method = refl; path = refl; host = refl })
writable (answer.Bare bare.MethodNotAllowed) = inr (record { status = refl; method = refl; path = refl; host = refl })
writable (answer.Bare bare.TooLong) = inr (record { status = refl; method = refl; path = refl; host = refl })
writable (answer.Bare bare.StoreFault) = inr (record { status = refl; method = refl; path = refl; host = refl })
writable (answer.Bare bare.NoMemory) = inr (record { status = refl; method = refl; path = refl; host = refl })

pub attended_by : (now : Moment) (a b : Traffic) (s t : SeatView) (answer : Answer) (done : Attended) → IsDueThen now a b s t answer → Responds a.written b.written a.write_faults b.write_faults answer done → IsAttended now a b s t done
attended_by now a b s t answer (attended.Answered status) due responds = (answer, due, responds)
attended_by now a b s t answer attended.WriteFault due responds = (answer, due, responds)
attended_by now a b s t answer attended.ReadFault due responds = absurd responds
