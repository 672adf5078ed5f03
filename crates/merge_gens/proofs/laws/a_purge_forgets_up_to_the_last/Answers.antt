use Rattle.merge_gens.proofs.Moments.{purge_forgets}
use Rattle.merge_gens.proofs.laws.a_purge_forgets_up_to_the_last.Goals as goal

pub returns : goal.returns
returns c = purge_forgets
