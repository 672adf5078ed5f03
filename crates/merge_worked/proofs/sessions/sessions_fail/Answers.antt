use Rattle.std.specs.Prelude.{refl}
use Rattle.merge_model.specs.Script.Play.{opened_play}
use Rattle.merge_worked.proofs.Valid.{sessions-valid}
use Rattle.merge_worked.proofs.sessions.sessions_fail.Goals as goal

pub returns-clause-valid : goal.returns-clause-valid
returns-clause-valid c = sessions-valid

pub returns-clause-machine : goal.returns-clause-machine
unfolding opened_play
returns-clause-machine c = refl

pub returns-clause-model : goal.returns-clause-model
unfolding opened_play
returns-clause-model c = refl

pub returns-clause-asked : goal.returns-clause-asked
unfolding opened_play
returns-clause-asked c = refl
