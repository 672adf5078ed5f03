use Rattle.merge_resolve.proofs.Tallies.{counts_its_questions}
use Rattle.merge_resolve.proofs.laws.asking_law.Goals as goal

pub returns : goal.returns
returns c = counts_its_questions
