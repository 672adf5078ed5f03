use Rattle.merge_laws.specs.Laws.Effects.{NewsIsUnmet, NumbersTakeEffect}
use Rattle.merge_laws.proofs.ActsOnce.EffectsOnce.{acting-take-effect, news-is-unmet, none-twice, numbers-take-effect, runs-are-steps}
use Rattle.merge_laws.proofs.Runs.OfActions.{of-runs}
use Rattle.merge_laws.proofs.effects.no_generation_takes_effect_twice.Goals as goal

pub returns : goal.returns
returns c = record {
  once = none-twice;
  acting = acting-take-effect;
  numbers = of-runs (λ publication says m. NumbersTakeEffect m) numbers-take-effect;
  news = of-runs (λ publication says m. NewsIsUnmet m) news-is-unmet;
  runs = runs-are-steps;
}
