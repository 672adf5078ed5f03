use Rattle.std.specs.Prelude.{refl}
use Rattle.merge_model.specs.Script.Play.{opened_play}
use Rattle.merge_worked.proofs.rows.made_anew.Goals as goal

pub returns-clause-machine : goal.returns-clause-machine
unfolding opened_play
returns-clause-machine c = refl

pub returns-clause-model : goal.returns-clause-model
unfolding opened_play
returns-clause-model c = refl
