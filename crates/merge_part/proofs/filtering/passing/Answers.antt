use Rattle.std.proofs.Common.{◌||◌, ◌&&◌, length, refl, sym, ap, ◌∙◌, arith}
use Rattle.std.specs.Prelude.{◌==◌}
use Rattle.std.proofs.lemmas.Option.{slice_get_read}
use Rattle.merge_schema.specs.Partition.{is_true}
use Rattle.merge_part.specs.Filtering.{true_for}
use Rattle.merge_part.proofs.Passing.{passing_next, passing_all}
use Rattle.merge_part.proofs.filtering.passing.Goals as goal

pub loop-place-preserved : goal.loop-place-preserved
loop-place-preserved g c = record {
  sites = λ other.
      c.with_if_true-sites.ensures other
      ∙ ap (λ b. (other == c.loop-place.place && is_true c.eval-truth.result) || b) (c.loop-place.invariant.sites other)
      ∙ passing_next c.args.filter.now c.args.subscriptions.now c.args.values.now c.loop-place.place other (is_true c.eval-truth.result)
      (ap (true_for c.args.filter.now c.args.values.now) (slice_get_read c.args.subscriptions.now (length c.args.subscriptions.now) c.loop-place.place c.index-subscriptions-place.result refl c.loop-place-test.true c.index-subscriptions-place.is)
      ∙ ap is_true (sym c.eval-truth.ensures.value));
  cost = omega (arith, c.eval-truth.ensures.cost, c.loop-place.invariant.cost);
}

pub returns-clause-sites : goal.returns-clause-sites
returns-clause-sites g c = λ place. c.loop-place.invariant.sites place ∙ passing_all c.args.filter.now c.args.subscriptions.now c.args.values.now c.loop-place.place place c.loop-place-test.false
