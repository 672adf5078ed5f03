use Rattle.std.proofs.Common.{◌≡◌, ◌∙◌, ap, arith, rules, subst, sym}
use Rattle.merge_model.specs.Tables.{PublisherTables}
use Rattle.merge_pub.specs.Held.{publication_of, tables_of}
use Rattle.merge_steps.specs.declared.changes.Besides.{Besides}
use Rattle.merge_pub.proofs.Costs.{versions-cost}
use Rattle.merge_pub.proofs.UploadKept.{acted-made, besides_with, fits-at, keeps-at, kept-acted, made-at, rising-on, subscribes-at}
use Rattle.merge_pub.proofs.publisher.Publisher.draft_acted.Goals as goal

pub prepare_lost-requires : goal.prepare_lost-requires
prepare_lost-requires g c = rising-on (publication_of c.args.self.now) (tables_of c.args.self.now) c.args.acting c.keeps_rules.ensures.rules c.requires.acted

pub draft_versions-requires : goal.draft_versions-requires
draft_versions-requires g c =
    let there = c.in_ok-plan.ensures in
    let besides = c.besides_of-besides in
    record {
      rows = fits-at (publication_of c.prepare_lost.new.self) (publication_of c.args.self.now) besides.result.changes c.args.acting.changes _ c.args.acting.versions there.publication (ap (λ (b : Besides). b.changes) besides.ensures) c.into_vec.ensures c.requires.acted.fits;
      once = rw c.into_vec.ensures c.requires.acted.once;
      subscribes = subscribes-at (publication_of c.prepare_lost.new.self) (publication_of c.args.self.now) _ c.args.upload.now.site.0 there.publication c.requires.subscribes;
      low = omega (arith, ap (λ (p : PublisherTables). p.gens.filling.last_closed) there.same, c.requires.low);
      few = rw c.into_vec.ensures c.requires.acted.few;
      keeps = keeps-at (publication_of c.prepare_lost.new.self) (publication_of c.args.self.now) besides.result (besides_with c.args.arrival c.args.acting c.in_ok-sites.sites c.in_ok-plan.plan) (tables_of c.prepare_lost.new.self) (tables_of c.args.self.now)
          there.publication besides.ensures there.same
          (kept-acted (publication_of c.args.self.now) (tables_of c.args.self.now) c.args.arrival c.args.acting c.in_ok-sites.sites c.in_ok-plan.plan there.plan c.keeps_rules.ensures.rules c.requires.acted);
      conflicts = rw besides.ensures there.ready;
      grants = rw besides.ensures (search rules);
    }

pub returns-clause-made : goal.returns-clause-made
returns-clause-made g c =
    let there = c.in_ok-plan.ensures in
    let besides = c.besides_of-besides in
    acted-made (publication_of c.args.self.now) (tables_of c.args.self.now) c.args.upload.now c.args.arrival c.args.acting c.in_ok-sites.sites c.in_ok-plan.plan _ there.plan (rw c.held_sites.ensures at c.in_ok-sites.ensures.after)
    (made-at (publication_of c.prepare_lost.new.self) (publication_of c.args.self.now) besides.result (besides_with c.args.arrival c.args.acting c.in_ok-sites.sites c.in_ok-plan.plan) (tables_of c.prepare_lost.new.self) (tables_of c.args.self.now)
    _ c.args.acting.versions _ c.args.acting.acted c.args.upload.now.site.0 _ there.publication besides.ensures there.same c.into_vec.ensures c.as_slice.ensures c.in_ok-draft.ensures.made)

pub returns-clause-cost : goal.returns-clause-cost
returns-clause-cost g c = versions-cost (publication_of c.prepare_lost.new.self) (publication_of c.args.self.now) c.in_ok-plan.ensures.publication _ c.args.acting.versions c.into_vec.ensures _ _ c.draft_versions.ensures.cost

pub returns-in_err-draft-clause-cost : goal.returns-in_err-draft-clause-cost
returns-in_err-draft-clause-cost g c = versions-cost (publication_of c.prepare_lost.new.self) (publication_of c.args.self.now) c.in_ok-plan.ensures.publication _ c.args.acting.versions c.into_vec.ensures _ _ c.draft_versions.ensures.cost
