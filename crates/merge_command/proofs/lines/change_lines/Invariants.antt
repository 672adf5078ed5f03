-- The lines up to the rest are answered.
use Rattle.std.proofs.Common.{◌≤◌, ◌+◌, length, map}
use Rattle.merge_script.specs.Lines.{lines_of}
use Rattle.merge_world.specs.Views.{sites_view}
use Rattle.merge_command.proofs.SoFar.{SoFar}
use Rattle.merge_command.proofs.lines.change_lines.Given as goal

abbrev pub invariant-loop-rest : goal.invariant-loop-rest
invariant-loop-rest g l = record {
  so_far : SoFar l.here (lines_of l.script) (lines_of l.rest) l.number
      (sites_view (g.P.PublisherSite.view l.initial.sites.publisher) (map g.S.SubscriberSite.view l.initial.sites.subscribers.items) l.initial.sites.pool.items l.initial.sites.moment)
      (sites_view (g.P.PublisherSite.view l.sites.publisher) (map g.S.SubscriberSite.view l.sites.subscribers.items) l.sites.pool.items l.sites.moment)
      (g.C.Clock.told l.initial.clock) (g.C.Clock.told l.clock) (g.O.Sink.written l.initial.output) (g.O.Sink.written l.output);
  counted : l.number + length l.rest ≤ length l.script + 1;
  writes : g.O.Sink.count l.initial.output ≤ g.O.Sink.count l.output;
}

abbrev pub decreases-loop-rest : goal.decreases-loop-rest
decreases-loop-rest g l = length l.rest
