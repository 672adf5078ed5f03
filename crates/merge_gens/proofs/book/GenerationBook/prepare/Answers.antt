use Rattle.std.proofs.Common.{sym, subst, arith}
use Rattle.std.proofs.lemmas.Grind.{common_steps}
use Rattle.merge_gens.specs.Book.{Book, IsSound}
use Rattle.merge_gens.proofs.Plans.{settled_is, sound_changed}
use Rattle.merge_gens.proofs.book.GenerationBook.prepare.Goals as goal

pub returns-clause-plan : goal.returns-clause-plan
returns-clause-plan c =
    rw (← c.self.view_is) (settled_is (record { filling = c.self.inside.filling; closings = c.self.inside.closings.items }) c.in_ok-answers.plan c.args.changes.now c.in_ok-answers.ensures.plan)

pub returns-clause-ready : goal.returns-clause-ready
returns-clause-ready c =
    let book : Book = record { filling = c.self.inside.filling; closings = c.self.inside.closings.items } in
    record {
      current = c.in_ok-answers.ensures.before;
      room = grind (arith, common_steps, c.in_ok-reserve.ensures.ok, c.len.ensures);
      sound = rw c.in_ok-reserve.ensures.items (subst IsSound (sym (settled_is book c.in_ok-answers.plan c.args.changes.now c.in_ok-answers.ensures.plan)) (sound_changed book c.args.changes.now c.self.invariant));
    }
