use Rattle.merge_command.proofs.Idle.{called-not}
use Rattle.merge_command.proofs.elsewhere.ElsewherePublisherSite.purge.Goals as goal

pub returns-clause-called : goal.returns-clause-called
returns-clause-called c = called-not _ _ _ _
