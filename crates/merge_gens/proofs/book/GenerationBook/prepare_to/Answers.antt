use Rattle.std.proofs.Common.{refl, arith}
use Rattle.std.proofs.lemmas.Grind.{common_steps}
use Rattle.merge_gens.proofs.ClosedGenerations.{sound_moved}
use Rattle.merge_gens.proofs.book.GenerationBook.prepare_to.Goals as goal

pub returns-clause-ready : goal.returns-clause-ready
returns-clause-ready c = record {
  current = refl;
  room = grind (arith, common_steps, c.in_ok-reserve.ensures.ok, c.len.ensures, c.new.ensures);
  sound = rw (c.in_ok-reserve.ensures.items, c.new.ensures, c.in_ok-add_closings.ensures.items, c.new-closings.ensures.items)
      (sound_moved (record { filling = c.self.inside.filling; closings = c.self.inside.closings.items }) c.args.filling c.args.moment c.self.invariant c.requires.unfilled (rw (← c.self.view_is) at c.requires.onward));
}
