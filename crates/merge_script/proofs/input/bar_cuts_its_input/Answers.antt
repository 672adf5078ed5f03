use Rattle.merge_script.proofs.Cuts.{IsCut-input}
use Rattle.merge_script.proofs.input.bar_cuts_its_input.Goals as goal

pub returns : goal.returns
returns c = IsCut-input
