-- A session is held at a store, or it is not.
use Rattle.std.proofs.Common.{List, Option, ap, inl, refl, sym, ℕ, ◌∙◌}
use Rattle.std.proofs.lemmas.Result.{err_from_is_err_and}
use Rattle.merge_types.specs.declared.identifiers.SiteId.{SiteId}
use Rattle.merge_ports.specs.Entries.{Map}
use Rattle.merge_ports.specs.declared.outside.Counts.{Counts}
use Rattle.merge_outside.specs.Offers.{Offers}
use Rattle.merge_sync.proofs.Holding.{held, links-counted, meets, stores-counted, undone-so}
use Rattle.merge_sync.proofs.meeting.meet.Goals as goal

pub returns-in_err-own-clause-meets : goal.returns-in_err-own-clause-meets
returns-in_err-own-clause-meets g c =
    let p = err_from_is_err_and c.from_residual.result c.from_residual.ensures.1 in
    rw (p.1, p.2) (inl (inl (refl, record { uncarried = refl; unreached = refl })))

pub returns-in_err-link-clause-meets : goal.returns-in_err-link-clause-meets
returns-in_err-link-clause-meets g c =
    let p = err_from_is_err_and c.from_residual-in_err-link.result c.from_residual-in_err-link.ensures.1 in
    let l = c.in_err-link.ensures in
    rw (p.1, p.2) (inl (inl (
      ap (λ (f : SiteId → List ℕ → Option Map). f c.args.site c.args.store.now) (l.stores ∙ c.clock-clock.ensures.stores),
      record {
        uncarried = ap (λ (o : Offers). o.exchanges) (l.err ∙ c.clock-clock.ensures.others);
        unreached = ap (λ (o : Offers). o.peer) (l.err ∙ c.clock-clock.ensures.others);
      },
    )))

pub returns-in-Err-clause-meets : goal.returns-in-Err-clause-meets
returns-in-Err-clause-meets g c =
    let l = c.in_ok-link.ensures in
    let e = c.in-Err.ensures in
    let back = c.link_back.ensures in
    undone-so _ _ _ _ _ c.in_ok-own.ensures _ _ (ap (λ (f : SiteId → List ℕ → Option Map). f c.args.site c.args.store.now) (l.stores ∙ c.clock-clock.ensures.stores))
    _ _ (ap (λ (k : Counts). k.stores) (l.counts ∙ c.clock-clock.ensures.counts)) (sym (ap (λ (k : Counts). k.stores) back.counts)) e.stop
    (ap (λ (f : SiteId → List ℕ → Option Map). f c.args.site c.args.store.now) back.stores ∙ e.same) _ (ap (λ (o : Offers). o.exchanges) back.exchanges) l.unasked (ap (λ (o : Offers). o.peer) back.exchanges ∙ l.peer)

pub returns-clause-meets : goal.returns-clause-meets
returns-clause-meets g c =
    let l = c.in_ok-link.ensures in
    let s = c.in-Ok.ensures in
    let given = c.keeper_back.ensures in
    let back = c.link_back-2.ensures in
    let counts = l.counts ∙ c.clock-clock.ensures.counts in
    meets _ _ _ _ _ _ c.ending_of.ensures (held _ _ _ _ _ c.in_ok-own.ensures c.in-Ok.subscriber c.session-met.new.site _ _ _ _ _ _ _ _ _
    (ap (λ (f : SiteId → List ℕ → Option Map). f c.args.site c.args.store.now) (l.stores ∙ c.clock-clock.ensures.stores))
    s.subscribes s.tables s.site s.publication s.faults (l.coming ∙ ap (λ (o : Offers). o.responses) c.clock-clock.ensures.others) l.unasked l.fresh c.clock-clock.ensures.moments
    _ c.session-met.ensures.syncs _ (ap (λ (f : SiteId → List ℕ → Option Map). f c.args.site c.args.store.now) back.stores ∙ given.map) c.into_keeper.ensures.kept.kept
    (ap (λ (o : Offers). o.exchanges) back.exchanges) (ap (λ (o : Offers). o.peer) back.exchanges ∙ c.session-met.ensures.peer ∙ l.peer)
    (stores-counted (g.E.Outside.counts c.args.outside.now) _ _ _ _ back.counts _ _ given.counts c.into_keeper.ensures.faults (s.stores ∙ ap (λ (k : Counts). k.stores) counts))
    (links-counted (g.E.Outside.counts c.args.outside.now) _ _ _ _ back.counts _ given.counts (s.links ∙ ap (λ (k : Counts). k.links) counts)))

-- No other store is changed: the clock and the link change none, and the keeper is that of the store.

pub returns-in_err-own-clause-others : goal.returns-in_err-own-clause-others
returns-in_err-own-clause-others g c = λ s p other. refl

pub returns-in_err-link-clause-others : goal.returns-in_err-link-clause-others
returns-in_err-link-clause-others g c = λ s p other. ap (λ (f : SiteId → List ℕ → Option Map). f s p) (c.in_err-link.ensures.stores ∙ c.clock-clock.ensures.stores)

pub returns-in-Err-clause-others : goal.returns-in-Err-clause-others
returns-in-Err-clause-others g c = λ s p other.
    ap (λ (f : SiteId → List ℕ → Option Map). f s p) c.link_back.ensures.stores
    ∙ (c.in-Err.ensures.others s p other ∙ ap (λ (f : SiteId → List ℕ → Option Map). f s p) (c.in_ok-link.ensures.stores ∙ c.clock-clock.ensures.stores))

pub returns-clause-others : goal.returns-clause-others
returns-clause-others g c = λ s p other.
    ap (λ (f : SiteId → List ℕ → Option Map). f s p) c.link_back-2.ensures.stores
    ∙ (c.keeper_back.ensures.others s p other
    ∙ (c.in-Ok.ensures.others s p other ∙ ap (λ (f : SiteId → List ℕ → Option Map). f s p) (c.in_ok-link.ensures.stores ∙ c.clock-clock.ensures.stores)))
