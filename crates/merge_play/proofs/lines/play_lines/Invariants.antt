-- The lines up to the rest are answered, and the moment has gone by as much as they may have moved it.
use Rattle.std.proofs.Common.{◌≤◌, ◌+◌, ◌*◌, ◌^◌, length, map}
use Rattle.merge_script.specs.Lines.{lines_of}
use Rattle.merge_world.specs.Views.{handed_view, sites_view}
use Rattle.merge_play.proofs.SoFar.{SoFar}
use Rattle.merge_play.proofs.lines.play_lines.Given as goal

abbrev pub invariant-loop-rest : goal.invariant-loop-rest
invariant-loop-rest g l = record {
  so_far : SoFar (lines_of l.script) (lines_of l.rest) l.number
      (sites_view (g.P.PublisherSite.view l.initial.sites.publisher) (map g.S.SubscriberSite.view l.initial.sites.subscribers.items) l.initial.sites.pool.items l.initial.sites.moment)
      (sites_view (g.P.PublisherSite.view l.sites.publisher) (map g.S.SubscriberSite.view l.sites.subscribers.items) l.sites.pool.items l.sites.moment)
      (handed_view (λ r. (goal.Resolver-dyn g (r.vtable, r.value)).says r.value) (λ r. (goal.Resolver-dyn g (r.vtable, r.value)).tally_of r.value) l.initial.resolvers.items)
      (handed_view (λ r. (goal.Resolver-dyn g (r.vtable, r.value)).says r.value) (λ r. (goal.Resolver-dyn g (r.vtable, r.value)).tally_of r.value) l.resolvers.items) (g.O.Sink.written l.initial.output) (g.O.Sink.written l.output);
  counted : l.number + length l.rest ≤ length l.script + 1;
  early : l.sites.moment.0 + 2 ^ 32 * length l.rest ≤ l.initial.sites.moment.0 + 2 ^ 32 * length l.script;
  later : ((sites_view (g.P.PublisherSite.view l.initial.sites.publisher) (map g.S.SubscriberSite.view l.initial.sites.subscribers.items) l.initial.sites.pool.items l.initial.sites.moment)).faults ≤ ((sites_view (g.P.PublisherSite.view l.sites.publisher) (map g.S.SubscriberSite.view l.sites.subscribers.items) l.sites.pool.items l.sites.moment)).faults;
  writes : g.O.Sink.count l.initial.output ≤ g.O.Sink.count l.output;
}

abbrev pub decreases-loop-rest : goal.decreases-loop-rest
decreases-loop-rest g l = length l.rest
