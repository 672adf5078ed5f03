-- The keepers that are not given back yet, and what is told of the stores of the others.
use Rattle.std.proofs.Common.{map}
use Rattle.std.specs.Vec.Iter.{into_iter_items, into_iter_len}
use Rattle.merge_world.specs.Views.{site_of}
use Rattle.merge_program.specs.GivenBack.{AscendAbove}
use Rattle.merge_program.proofs.GivenBack.{Back}
use Rattle.merge_program.proofs.Rooms.{GivingBack}
use Rattle.merge_program.proofs.stores.give_back.Given as goal

abbrev pub invariant-loop-subscriber : goal.invariant-loop-subscriber
invariant-loop-subscriber g l = record {
  giving : GivingBack (g.E.Outside.HasRoom l.outside) l.path l.fn.publisher.faults l.fn.subscribers.items (into_iter_items l.subscriber-iterator) (into_iter_len l.subscriber-iterator)
      (g.E.Outside.counts l.fn.outside).stores (g.E.Outside.counts l.outside).stores (g.E.Outside.told l.fn.outside) (g.E.Outside.told l.outside);
  told : AscendAbove 0 (map site_of l.fn.subscribers.items) → Back (g.E.Outside.told l.outside) l.path l.fn.publisher.told l.fn.subscribers.items (into_iter_items l.subscriber-iterator);
}
