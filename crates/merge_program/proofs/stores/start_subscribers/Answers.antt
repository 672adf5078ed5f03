-- One subscriber more is started, at the next site.
use Rattle.std.proofs.Common.{refl, ◌∙◌}
use Rattle.std.proofs.lemmas.Result.{err_from_is_err_and}
use Rattle.merge_schema.specs.Places.{is_subscription}
use Rattle.merge_program.proofs.Rooms.{more-rooms, more-started}
use Rattle.merge_program.proofs.Starts.{all-fresh, all-started, next-unstarted, no-rooms, none-fresh, none-started, one-started, unstarted-wants}
use Rattle.merge_program.proofs.stores.start_subscribers.Goals as goal

pub loop-subscription-init : goal.loop-subscription-init
loop-subscription-init g c =
    let rows = c.into_iter-subscription-iterator.ensures.into_iter_gives ∙ (c.iter-subscription-items.ensures.rows ∙ c.in_ok-subscriptions.ensures) in
    record {
      fresh = none-fresh c.args.publication.now c.args.path.now _ c.requires.none _ rows;
      starting = none-started c.args.publication.now c.args.path.now (g.E.Outside.told c.args.outside.now) _ c.requires.none _ rows;
      rooms = no-rooms c.args.publication.now c.args.path.now (g.E.Outside.HasRoom c.args.outside.now) _ c.requires.none;
      still = λ s p room. room;
      kept = refl;
      others = λ s p other. refl;
    }

pub loop-subscription-preserved : goal.loop-subscription-preserved
loop-subscription-preserved g c =
    let i = c.loop-subscription.invariant in
    let made = c.in_ok-subscriber.ensures in
    let step = rw c.in-Some.is at c.next.ensures.steps in
    record {
      fresh = more-started _ _ _ _ _ (c.in-Some.field-0-0.now, c.in-Some.subscription.now) c.in_ok-make_room.ensures.items c.put.ensures made.fresh _ _ step i.fresh;
      starting = one-started c.args.publication.now c.args.path.now (g.E.Outside.told c.args.outside.now) (g.E.Outside.told c.loop-subscription.outside) (g.E.Outside.told c.start_subscriber.new.outside) (c.in-Some.field-0-0.now, c.in-Some.subscription.now) made.others
          _ _ _ _ c.in_ok-make_room.ensures.items c.put.ensures made.fresh _ _ step made.empty i.starting;
      rooms = more-rooms _ _ _ _ _ (c.in-Some.field-0-0.now, c.in-Some.subscription.now) c.in_ok-make_room.ensures.items c.put.ensures made.fresh
          (g.E.Outside.HasRoom c.loop-subscription.outside) (g.E.Outside.HasRoom c.start_subscriber.new.outside) _ made.still made.room i.rooms;
      still = λ s p room. made.still s p (i.still s p room);
      kept = made.kept ∙ i.kept;
      others = λ s p other. made.others s p (λ both. other both.1) ∙ i.others s p other;
    }

pub returns-in_err-subscriptions-clause-ends : goal.returns-in_err-subscriptions-clause-ends
returns-in_err-subscriptions-clause-ends g c =
    let p = err_from_is_err_and c.from_residual.result c.from_residual.ensures.1 in
    rw (p.1, p.2) (unstarted-wants (λ s. is_subscription c.args.publication.now s.0) (λ s. g.E.Outside.told c.args.outside.now s c.args.path.now) _ _ refl)

pub returns-in_err-make_room-clause-ends : goal.returns-in_err-make_room-clause-ends
returns-in_err-make_room-clause-ends g c =
    let p = err_from_is_err_and c.from_residual-in_err-make_room.result c.from_residual-in_err-make_room.ensures.1 in
    rw (p.1, p.2) (unstarted-wants (λ s. is_subscription c.args.publication.now s.0) (λ s. g.E.Outside.told c.args.outside.now s c.args.path.now) _ _ c.loop-subscription.invariant.kept)

pub returns-in_err-subscriber-clause-ends : goal.returns-in_err-subscriber-clause-ends
returns-in_err-subscriber-clause-ends g c =
    let p = err_from_is_err_and c.from_residual-in_err-subscriber.result c.from_residual-in_err-subscriber.ensures.1 in
    let step = rw c.in-Some.is at c.next.ensures.steps in
    rw (p.1, p.2) (next-unstarted c.args.publication.now c.args.path.now (g.E.Outside.told c.args.outside.now) (g.E.Outside.told c.loop-subscription.outside) _ (c.in-Some.field-0-0.now, c.in-Some.subscription.now) _ _ step c.loop-subscription.invariant.starting _ _ _ c.loop-subscription.invariant.kept _ c.in_err-subscriber.ensures.ends)

pub returns-clause-fresh : goal.returns-clause-fresh
returns-clause-fresh g c =
    let none = rw c.in-None.is at c.next.ensures.steps in
    all-fresh c.args.publication.now c.args.path.now _ _ none.0 c.loop-subscription.invariant.fresh

pub returns-clause-empty : goal.returns-clause-empty
returns-clause-empty g c =
    let none = rw c.in-None.is at c.next.ensures.steps in
    all-started c.args.publication.now c.args.path.now (g.E.Outside.told c.args.outside.now) (g.E.Outside.told c.loop-subscription.outside) _ _ none.0 c.loop-subscription.invariant.fresh c.loop-subscription.invariant.starting

pub returns-in_err-subscriptions-clause-others : goal.returns-in_err-subscriptions-clause-others
returns-in_err-subscriptions-clause-others g c = λ s p other. refl

pub returns-in_err-make_room-clause-others : goal.returns-in_err-make_room-clause-others
returns-in_err-make_room-clause-others g c = c.loop-subscription.invariant.others

pub returns-in_err-subscriber-clause-others : goal.returns-in_err-subscriber-clause-others
returns-in_err-subscriber-clause-others g c = λ s p other. c.in_err-subscriber.ensures.others s p (λ both. other both.1) ∙ c.loop-subscription.invariant.others s p other

pub returns-clause-others : goal.returns-clause-others
returns-clause-others g c = c.loop-subscription.invariant.others
