use Rattle.merge_laws.specs.Laws.LastLines.{ChangedIsLastChange, LeftByLine, MappingIsLastLine, TouchedInsideByLine, TouchedOutsideByLine}
use Rattle.merge_laws.proofs.Runs.LawsOfActions.{changes-told, inside-by-line, left-by-line, mappings-told, outside-by-line}
use Rattle.merge_laws.proofs.Runs.OfActions.{of-runs}
use Rattle.merge_laws.proofs.laws.mappings_are_the_last_lines.Goals as goal

pub returns : goal.returns
returns c = record {
  mappings = of-runs (λ publication says m. MappingIsLastLine m) mappings-told;
  changes = of-runs (λ publication says m. ChangedIsLastChange m) changes-told;
  has_left = of-runs (λ publication says m. LeftByLine m) left-by-line;
  touch_inside = of-runs (λ publication says m. TouchedInsideByLine m) inside-by-line;
  touch_outside = of-runs (λ publication says m. TouchedOutsideByLine m) outside-by-line;
}
