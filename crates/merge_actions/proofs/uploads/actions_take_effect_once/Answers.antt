use Rattle.merge_laws.proofs.ActsOnce.ActsOnceTaken.{done-stays-by-actions, letters-stay-by-actions, taken-have-acted, taken-only-answer-by-actions}
use Rattle.merge_laws.proofs.ActsOnce.EffectsOnce.{news-is-unmet, numbers-take-effect}
use Rattle.merge_laws.proofs.Runs.LawsOfActions.{acts-once}
use Rattle.merge_actions.proofs.uploads.actions_take_effect_once.Goals as goal

pub returns : goal.returns
returns c = record {
  taken = taken-have-acted;
  stay = done-stays-by-actions;
  letters = letters-stay-by-actions;
  again = taken-only-answer-by-actions;
  once = acts-once;
  numbers = numbers-take-effect;
  news = news-is-unmet;
}
