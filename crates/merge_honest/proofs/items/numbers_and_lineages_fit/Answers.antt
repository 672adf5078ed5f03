use Rattle.merge_honest.proofs.NumberRules.{no-lineage-misfits, no-number-too-great}
use Rattle.merge_honest.proofs.items.numbers_and_lineages_fit.Goals as goal

pub returns : goal.returns
returns c = record {
  numbers = no-number-too-great;
  lineages = no-lineage-misfits;
}
