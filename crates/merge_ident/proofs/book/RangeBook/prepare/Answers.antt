use Rattle.std.proofs.Common.{◌≡◌, arith}
use Rattle.merge_ident.specs.Answers.{answer_of}
use Rattle.merge_ident.proofs.Plans.{answer_follows, room_for_le}
use Rattle.merge_ident.proofs.book.RangeBook.prepare.Goals as goal

pub answer-answer-requires-clause-numbered : goal.answer-answer-requires-clause-numbered
answer-answer-requires-clause-numbered c = rw c.deref.ensures.value c.self.invariant.grants_fit.numbered

pub returns-in_ok-reserve-clause-ready : goal.returns-in_ok-reserve-clause-ready
returns-in_ok-reserve-clause-ready c =
    let answered : c.answer-answer.result ≡ answer_of c.self.inside.rules c.self.inside.grants.items c.args.ask = rw (c.as_slice.ensures, c.deref.ensures.value) at c.answer-answer.ensures in
    let one = room_for_le (record { ask = c.args.ask; answer = c.answer-answer.result }) in
    record {
      room = omega (arith, one, c.in_ok-reserve.ensures.ok);
      follows = (rw (answered, c.reserve.ensures.items) (answer_follows c.self.inside.rules c.self.inside.grants.items c.args.ask c.self.invariant), tt);
    }
