use Rattle.std.proofs.Common.{◌≡◌, ◌∙◌, refl, sym, subst, arith, map}
use Rattle.merge_resolve.specs.Asked.{says_at}
use Rattle.merge_batch.specs.declared.request.UploadItem.{UploadItem}
use Rattle.merge_steps.specs.Fits.{ItemFits}
use Rattle.merge_steps.proofs.Passing.{asked-all, asked-next, asked-within, item-raised, keeps-then, pass-all, pass-next, pass-none, rows-raised}
use Rattle.merge_steps.proofs.acting.act_on_all.Goals as goal

pub act_if_due-requires : goal.act_if_due-requires
act_if_due-requires g c =
    let kept = c.loop-item.invariant in
    let i = c.loop-item.item-index in
    let item = c.item-item.result in
    record {
      valid = c.requires.valid;
      rows = rows-raised c.args.publication.now c.args.acting.now.changes c.loop-item.acting.changes c.args.rows.now.rows kept.rises c.requires.rows;
      item = item-raised c.args.publication.now c.args.acting.now.changes c.loop-item.acting.changes item kept.rises
          (subst (λ (x : UploadItem). ItemFits c.args.publication.now c.args.acting.now.changes x) (sym c.item-item.is) (c.requires.items i item c.loop-item-test.true));
      changes = omega (arith, kept.changes, c.loop-item-test.true, c.requires.few, c.requires.changes);
      conflicts = omega (arith, kept.conflicts, c.loop-item-test.true, c.requires.few, c.requires.conflicts);
    }

pub loop-item-preserved : goal.loop-item-preserved
loop-item-preserved g c =
    let step = c.in_ok-act_if_due.ensures in
    let kept = c.loop-item.invariant in
    let i = c.loop-item.item-index in
    let item = c.item-item.result in
    record {
      steady = λ k n q. step.steady k n q ∙ kept.steady k n q;
      passed = pass-next c.args.publication.now c.args.rows.now.rows c.args.arrival (says_at (λ r. (goal.Resolver-dyn g (r.vtable, r.value)).says r.value) c.args.resolvers.now.items) (says_at (λ r. (goal.Resolver-dyn g (r.vtable, r.value)).says r.value) c.loop-item.resolvers.items) (map (λ r. (goal.Resolver-dyn g (r.vtable, r.value)).tally_of r.value) c.args.resolvers.now.items) (map (λ r. (goal.Resolver-dyn g (r.vtable, r.value)).tally_of r.value) c.loop-item.resolvers.items) (map (λ r. (goal.Resolver-dyn g (r.vtable, r.value)).tally_of r.value) c.act_if_due.new.resolvers.items) c.args.acting.now c.loop-item.acting c.act_if_due.new.acting c.args.items.now i item c.loop-item-test.true c.item-item.is kept.steady kept.passed step.passed;
      asked = asked-next c.args.publication.now c.args.rows.now.rows c.args.arrival (says_at (λ r. (goal.Resolver-dyn g (r.vtable, r.value)).says r.value) c.loop-item.resolvers.items) (map (λ r. (goal.Resolver-dyn g (r.vtable, r.value)).tally_of r.value) c.args.resolvers.now.items) (map (λ r. (goal.Resolver-dyn g (r.vtable, r.value)).tally_of r.value) c.loop-item.resolvers.items) (map (λ r. (goal.Resolver-dyn g (r.vtable, r.value)).tally_of r.value) c.act_if_due.new.resolvers.items) c.loop-item.acting c.act_if_due.new.acting c.args.items.now i item c.loop-item-test.true c.item-item.is kept.asked step.passed;
      rises = omega (arith, kept.rises, step.grows.changes);
      changes = omega (arith, kept.changes, step.grows.one);
      conflicts = omega (arith, kept.conflicts, step.grows.two);
      fits = keeps-then c.args.publication.now c.args.acting.now c.loop-item.acting c.act_if_due.new.acting kept.fits step.fits;
    }

pub returns-in_err-act_if_due-clause-asked : goal.returns-in_err-act_if_due-clause-asked
returns-in_err-act_if_due-clause-asked g c =
    asked-within c.args.publication.now c.args.rows.now.rows c.args.arrival (map (λ r. (goal.Resolver-dyn g (r.vtable, r.value)).tally_of r.value) c.args.resolvers.now.items) (map (λ r. (goal.Resolver-dyn g (r.vtable, r.value)).tally_of r.value) c.loop-item.resolvers.items) (map (λ r. (goal.Resolver-dyn g (r.vtable, r.value)).tally_of r.value) c.act_if_due.new.resolvers.items) c.args.items.now c.loop-item.item-index c.item-item.result c.loop-item-test.true c.item-item.is c.loop-item.invariant.asked c.act_if_due.ensures.asked

pub returns-in_err-act_if_due-clause-steady : goal.returns-in_err-act_if_due-clause-steady
returns-in_err-act_if_due-clause-steady g c = λ k n q. c.act_if_due.ensures.steady k n q ∙ c.loop-item.invariant.steady k n q

pub loop-item-init : goal.loop-item-init
loop-item-init g c = record {
  steady = λ k n q. refl;
  passed = pass-none c.args.publication.now c.args.rows.now.rows c.args.arrival (says_at (λ r. (goal.Resolver-dyn g (r.vtable, r.value)).says r.value) c.args.resolvers.now.items) (map (λ r. (goal.Resolver-dyn g (r.vtable, r.value)).tally_of r.value) c.args.resolvers.now.items) c.args.acting.now c.args.items.now;
  asked = refl;
  rises = omega arith;
  changes = omega arith;
  conflicts = omega arith;
  fits = λ all. all;
}

pub returns-clause-passed : goal.returns-clause-passed
returns-clause-passed g c = pass-all c.args.publication.now c.args.rows.now.rows c.args.arrival (says_at (λ r. (goal.Resolver-dyn g (r.vtable, r.value)).says r.value) c.args.resolvers.now.items) (map (λ r. (goal.Resolver-dyn g (r.vtable, r.value)).tally_of r.value) c.args.resolvers.now.items) (map (λ r. (goal.Resolver-dyn g (r.vtable, r.value)).tally_of r.value) c.loop-item.resolvers.items) c.args.acting.now c.loop-item.acting c.args.items.now c.loop-item.item-index c.loop-item-test.false c.loop-item.invariant.passed

pub returns-clause-asked : goal.returns-clause-asked
returns-clause-asked g c = asked-all c.args.publication.now c.args.rows.now.rows c.args.arrival (map (λ r. (goal.Resolver-dyn g (r.vtable, r.value)).tally_of r.value) c.args.resolvers.now.items) (map (λ r. (goal.Resolver-dyn g (r.vtable, r.value)).tally_of r.value) c.loop-item.resolvers.items) c.args.items.now c.loop-item.item-index c.loop-item-test.false c.loop-item.invariant.asked
