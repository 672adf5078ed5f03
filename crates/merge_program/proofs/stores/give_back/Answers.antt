-- The keepers that are not given back yet, and the faults of the others.
use Rattle.std.proofs.Common.{arith, length, rules, sym, ◌+◌, ◌∙◌, ◌≡◌}
use Rattle.std.specs.Prelude.{vec_len}
use Rattle.std.specs.Vec.Iter.{into_iter_items, into_iter_len}
use Rattle.merge_program.proofs.GivenBack.{all-back, begins-back, more-back}
use Rattle.merge_program.proofs.Rooms.{all-given, begins-giving, gives-back}
use Rattle.merge_program.proofs.stores.give_back.Goals as goal

pub loop-subscriber-init : goal.loop-subscriber-init
loop-subscriber-init g c =
    let same : into_iter_items c.into_iter-subscriber-iterator.result ≡ c.args.subscribers.items = search rules in
    let left : into_iter_len c.into_iter-subscriber-iterator.result ≡ vec_len c.args.subscribers = search rules in
    let many : vec_len c.args.subscribers ≡ length c.args.subscribers.items = search rules in
    record {
      giving = begins-giving (λ s p. g.E.Outside.HasRoom c.args.outside.now s p) (g.E.Outside.HasRoom c.keeper_back.new.self) _ c.keeper_back.ensures.still _ _ _ same _ (left ∙ many) _ _ _ c.keeper_back.ensures.counts c.into_keeper.ensures.faults c.requires.rooms
          (g.E.Outside.told c.args.outside.now) (g.E.Outside.told c.keeper_back.new.self) (λ s p other. c.keeper_back.ensures.others s p (λ both. other both.1));
      told = begins-back (g.E.Outside.told c.keeper_back.new.self) c.args.path.now c.args.publisher.told c.args.subscribers.items (into_iter_items c.into_iter-subscriber-iterator.result) same (c.keeper_back.ensures.map ∙ c.into_keeper.ensures.told);
    }

pub loop-subscriber-preserved : goal.loop-subscriber-preserved
loop-subscriber-preserved g c =
    let step = rw c.in-Some.is at c.next.ensures.steps in
    let fewer = step.1 in
    let less : into_iter_len c.loop-subscriber.subscriber-iterator ≡ into_iter_len c.next.new.self + 1 = omega (arith, fewer) in
    record {
      giving = gives-back (g.E.Outside.HasRoom c.loop-subscriber.outside) (g.E.Outside.HasRoom c.keeper_back-in-loop-subscriber.new.self) _ c.keeper_back-in-loop-subscriber.ensures.still _ _ _ _ c.in-Some.subscriber step.0 _ _ _ _ c.keeper_back-in-loop-subscriber.ensures.counts c.into_keeper-in-loop-subscriber.ensures.faults _ _ less
          _ (g.E.Outside.told c.loop-subscriber.outside) (g.E.Outside.told c.keeper_back-in-loop-subscriber.new.self) (λ s p other. c.keeper_back-in-loop-subscriber.ensures.others s p (λ both. other both.1)) c.loop-subscriber.invariant.giving;
      told = λ ascend. more-back (g.E.Outside.told c.loop-subscriber.outside) (g.E.Outside.told c.keeper_back-in-loop-subscriber.new.self) c.args.path.now c.args.publisher.told c.args.subscribers.items _ _ c.in-Some.subscriber step.0 c.site-site.result c.site-site.ensures
          (c.keeper_back-in-loop-subscriber.ensures.map ∙ c.into_keeper-in-loop-subscriber.ensures.told) c.keeper_back-in-loop-subscriber.ensures.others (c.loop-subscriber.invariant.told ascend);
    }

pub returns-clause-rose : goal.returns-clause-rose
returns-clause-rose g c =
    let none = rw c.in-None.is at c.next.ensures.steps in
    all-given (g.E.Outside.HasRoom c.loop-subscriber.outside) _ _ _ _ _ none.0 _ _ _ _ c.loop-subscriber.invariant.giving

pub returns-clause-others : goal.returns-clause-others
returns-clause-others g c = c.loop-subscriber.invariant.giving.others

pub returns-clause-told : goal.returns-clause-told
returns-clause-told g c =
    let none = rw c.in-None.is at c.next.ensures.steps in
    let left : length (into_iter_items c.loop-subscriber.subscriber-iterator) ≡ 0 = sym c.loop-subscriber.invariant.giving.counted ∙ none.0 in
    λ ascend. all-back (g.E.Outside.told c.loop-subscriber.outside) c.args.path.now c.args.publisher c.args.subscribers.items _ left (c.loop-subscriber.invariant.told ascend)
