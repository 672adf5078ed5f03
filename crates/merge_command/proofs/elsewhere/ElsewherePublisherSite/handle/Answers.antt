use Rattle.merge_command.proofs.Idle.{called-not, counted-not}
use Rattle.merge_command.proofs.elsewhere.ElsewherePublisherSite.handle.Goals as goal

pub returns-clause-called : goal.returns-clause-called
returns-clause-called g c = called-not _ _ _ _

pub returns-clause-counted : goal.returns-clause-counted
returns-clause-counted g c = counted-not _ _ _
