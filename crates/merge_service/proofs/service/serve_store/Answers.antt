-- The publisher starts, or it does not.
use Rattle.std.proofs.Common.{List, Option, ap, inl, inr, refl, ℕ, ◌∙◌}
use Rattle.merge_types.specs.declared.identifiers.SiteId.{SiteId}
use Rattle.merge_ports.specs.Entries.{Map}
use Rattle.merge_ports.specs.declared.outside.Counts.{Counts}
use Rattle.merge_service.proofs.Endings.{done-so, not-started-so, read-so}
use Rattle.merge_service.specs.Stores.{Around}
use Rattle.merge_service.proofs.service.serve_store.Goals as goal

pub returns-in-Ok-clause-ends : goal.returns-in-Ok-clause-ends
returns-in-Ok-clause-ends g c = c.serve_kept.ensures.ends c.args.publication.now _ _ c.in-Ok.ensures.publication (read-so c.args.publication.now _ _ _ _ _ c.clock-clock.ensures.stores c.in-Ok.ensures.tables)

pub returns-in-Ok-clause-asked : goal.returns-in-Ok-clause-asked
returns-in-Ok-clause-asked g c = inl c.serve_kept.ensures.asked

pub returns-in-Ok-clause-reached : goal.returns-in-Ok-clause-reached
returns-in-Ok-clause-reached g c = done-so c.serve_kept.result c.serve_kept.ensures.asked

pub returns-in-Err-clause-asked : goal.returns-in-Err-clause-asked
returns-in-Err-clause-asked g c = inr refl

pub returns-in-Err-clause-ends : goal.returns-in-Err-clause-ends
returns-in-Err-clause-ends g c =
    let around : Around = record {
      stored = g.E.Outside.told c.args.outside.now c.args.site c.args.store.now;
      kept = g.E.Outside.told c.start.new.outside c.args.site c.args.store.now;
      handed = g.T.Doors.handed c.args.doors.now;
      stores = (g.E.Outside.counts c.args.outside.now).stores;
      stores_after = (g.E.Outside.counts c.start.new.outside).stores;
      doors = g.T.Doors.count c.args.doors.now;
      doors_after = g.T.Doors.count c.args.doors.now;
    } in
    not-started-so c.args.publication.now _ c.args.hours.workers c.args.hours.requests around _ _ (g.O.Sink.count c.args.output.now) (g.O.Sink.count c.args.output.now) _ _ (ap (λ (f : SiteId → List ℕ → Option Map). f c.args.site c.args.store.now) c.clock-clock.ensures.stores)
    _ (ap (λ (k : Counts). k.stores) c.clock-clock.ensures.counts) c.in-Err.ensures.stop c.in-Err.ensures.same refl refl

pub returns-in-Ok-clause-others : goal.returns-in-Ok-clause-others
returns-in-Ok-clause-others g c = λ s p other.
    c.serve_kept.ensures.others s p other ∙ (c.in-Ok.ensures.others s p other ∙ ap (λ (f : SiteId → List ℕ → Option Map). f s p) c.clock-clock.ensures.stores)

pub returns-in-Err-clause-others : goal.returns-in-Err-clause-others
returns-in-Err-clause-others g c = λ s p other. c.in-Err.ensures.others s p other ∙ ap (λ (f : SiteId → List ℕ → Option Map). f s p) c.clock-clock.ensures.stores
