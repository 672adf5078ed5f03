-- What happened so far, and what is left of the script.
use Rattle.std.proofs.Common.{map}
use Rattle.merge_world.specs.Views.{handed_view, sites_view}
use Rattle.merge_make.specs.Rest.{rest}
use Rattle.merge_make.proofs.SoFar.{SoFar}
use Rattle.merge_make.proofs.run.play_script.Given as goal

abbrev pub invariant-loop-step : goal.invariant-loop-step
invariant-loop-step g l =
    (goal.iterator-loop-step g).can_next l.step-iterator
    × (goal.iterator-loop-step g).is_finite l.step-iterator
    × SoFar l.customers (rest l.step-iterator)
    (sites_view (g.P.PublisherSite.view l.initial.sites.publisher) (map g.S.SubscriberSite.view l.initial.sites.subscribers.items) l.initial.sites.pool.items l.initial.sites.moment)
    (sites_view (g.P.PublisherSite.view l.sites.publisher) (map g.S.SubscriberSite.view l.sites.subscribers.items) l.sites.pool.items l.sites.moment)
    (handed_view (λ r. (goal.Resolver-dyn g (r.vtable, r.value)).says r.value) (λ r. (goal.Resolver-dyn g (r.vtable, r.value)).tally_of r.value) l.initial.resolvers.items)
    (handed_view (λ r. (goal.Resolver-dyn g (r.vtable, r.value)).says r.value) (λ r. (goal.Resolver-dyn g (r.vtable, r.value)).tally_of r.value) l.resolvers.items)
    l.tally
