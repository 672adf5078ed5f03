use Rattle.std.proofs.Common.{ℕ, ◌≤◌, ◌+◌, ◌-◌, map}
use Rattle.merge_world.specs.Sessions.{Downloads, Stands}
use Rattle.merge_world.specs.Views.{handed_view, sites_view}
use Rattle.merge_world.proofs.world.Sites.downloading.Given as goal

-- what is left to do from here is what was left to do from the start
abbrev pub invariant-loop-at : goal.invariant-loop-at
invariant-loop-at g l = record {
  counted : l.count ≤ l.at;
  stands : (x y : ℕ) → Stands l.site (Downloads l.most l.target) (Downloads (l.most - l.at) l.target) (sites_view (g.P.PublisherSite.view l.fn.self.publisher) (map g.S.SubscriberSite.view l.fn.self.subscribers.items) l.fn.self.pool.items l.fn.self.moment) (sites_view (g.P.PublisherSite.view l.self.publisher) (map g.S.SubscriberSite.view l.self.subscribers.items) l.self.pool.items l.self.moment)
      (handed_view (λ r. (goal.Resolver-dyn g (r.vtable, r.value)).says r.value) (λ r. (goal.Resolver-dyn g (r.vtable, r.value)).tally_of r.value) l.fn.resolvers.items) (handed_view (λ r. (goal.Resolver-dyn g (r.vtable, r.value)).says r.value) (λ r. (goal.Resolver-dyn g (r.vtable, r.value)).tally_of r.value) l.resolvers.items) x y x (y + l.count);
}
