-- A keeper that is given back is that of the store.
use Rattle.std.proofs.Common.{◌∙◌}
use Rattle.merge_program.proofs.alone.start_publisher.Goals as goal

pub returns-in-Err-start-clause-others : goal.returns-in-Err-start-clause-others
returns-in-Err-start-clause-others g c = λ s p other. c.keeper_back.ensures.others s p other ∙ c.in-Ok.ensures.others s p other
