use Rattle.std.proofs.Common.{◌≤◌, ◌-◌, map}
use Rattle.merge_world.specs.Sessions.{Stands, Uploads}
use Rattle.merge_world.specs.Views.{handed_view, sites_view}
use Rattle.merge_world.proofs.world.Sites.uploading.Given as goal

-- what is left to do from here is what was left to do from the start
abbrev pub invariant-loop-at : goal.invariant-loop-at
invariant-loop-at g l = record {
  counted : l.count ≤ l.at;
  stands : Stands l.site (Uploads l.most) (Uploads (l.most - l.at)) (sites_view (g.P.PublisherSite.view l.fn.self.publisher) (map g.S.SubscriberSite.view l.fn.self.subscribers.items) l.fn.self.pool.items l.fn.self.moment) (sites_view (g.P.PublisherSite.view l.self.publisher) (map g.S.SubscriberSite.view l.self.subscribers.items) l.self.pool.items l.self.moment)
      (handed_view (λ r. (goal.Resolver-dyn g (r.vtable, r.value)).says r.value) (λ r. (goal.Resolver-dyn g (r.vtable, r.value)).tally_of r.value) l.fn.resolvers.items) (handed_view (λ r. (goal.Resolver-dyn g (r.vtable, r.value)).says r.value) (λ r. (goal.Resolver-dyn g (r.vtable, r.value)).tally_of r.value) l.resolvers.items) 0 0 l.count 0;
}
