-- A session and its line.
use Rattle.std.proofs.Common.{refl}
use Rattle.std.proofs.lemmas.Result.{err_from_is_err_and}
use Rattle.merge_sync.proofs.Endings.{not-done, not-written}
use Rattle.merge_sync.specs.Stores.{Around}
use Rattle.merge_sync.proofs.syncing.sync.Goals as goal

pub returns-in_err-done-clause-ends : goal.returns-in_err-done-clause-ends
returns-in_err-done-clause-ends g c =
    let p = err_from_is_err_and c.from_residual.result c.from_residual.ensures.1 in
    let around : Around = record {
      stored = g.E.Outside.told c.args.outside.now c.args.site c.args.store.now;
      responses = (g.E.CommandOutside.offers c.args.outside.now).responses;
      moments = (g.E.CommandOutside.offers c.args.outside.now).moments;
      was_carried = (g.E.CommandOutside.offers c.args.outside.now).exchanges;
      was_peer = (g.E.CommandOutside.offers c.args.outside.now).peer;
      stores = (g.E.Outside.counts c.args.outside.now).stores;
      links = (g.E.Outside.counts c.args.outside.now).links;
      kept = g.E.Outside.told c.meet.new.outside c.args.site c.args.store.now;
      carried = (g.E.CommandOutside.offers c.meet.new.outside).exchanges;
      peer = (g.E.CommandOutside.offers c.meet.new.outside).peer;
      stores_after = (g.E.Outside.counts c.meet.new.outside).stores;
      links_after = (g.E.Outside.counts c.meet.new.outside).links;
    } in
    rw (p.1, p.2) (not-done c.args.address.now c.args.publication.now c.args.site around _ _ (g.O.Sink.count c.args.output.now) (g.O.Sink.count c.args.output.now) _ c.in_err-done.ensures.meets refl)

pub returns-in_err-write_done-clause-ends : goal.returns-in_err-write_done-clause-ends
returns-in_err-write_done-clause-ends g c =
    let p = err_from_is_err_and c.from_residual-in_err-write_done.result c.from_residual-in_err-write_done.ensures.1 in
    rw (p.1, p.2) (not-written _ _ _ _ _ _ _ _ _ c.in_ok-done.ensures.meets _ c.in_err-write_done.ensures.err)

pub returns-in_err-done-clause-others : goal.returns-in_err-done-clause-others
returns-in_err-done-clause-others g c = c.in_err-done.ensures.others

pub returns-in_err-write_done-clause-others : goal.returns-in_err-write_done-clause-others
returns-in_err-write_done-clause-others g c = c.in_ok-done.ensures.others

pub returns-clause-others : goal.returns-clause-others
returns-clause-others g c = c.in_ok-done.ensures.others
