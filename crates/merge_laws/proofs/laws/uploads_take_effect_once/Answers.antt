use Rattle.merge_laws.specs.Laws.ActsOnce.{DoneStays, LettersStay, TakenHaveActed, TakenOnlyAnswer}
use Rattle.merge_laws.proofs.ActsOnce.ActsOnceItems.{acted-items-do-nothing}
use Rattle.merge_laws.proofs.ActsOnce.ActsOnceSteps.{acted-rows-stay, acted-uploads-only-answer}
use Rattle.merge_laws.proofs.ActsOnce.ActsOnceTaken.{done-stays, letters-stay, taken-have-acted, taken-only-answer}
use Rattle.merge_laws.proofs.Runs.OfActions.{of-runs}
use Rattle.merge_laws.proofs.laws.uploads_take_effect_once.Goals as goal

pub returns : goal.returns
returns c = record {
  rows = acted-rows-stay;
  items = acted-items-do-nothing;
  answered = acted-uploads-only-answer;
  taken = of-runs TakenHaveActed taken-have-acted;
  stay = of-runs DoneStays done-stays;
  letters = of-runs LettersStay letters-stay;
  again = of-runs TakenOnlyAnswer taken-only-answer;
}
