use Rattle.std.specs.Prelude.{refl}
use Rattle.merge_model.specs.Script.Play.{opened_play}
use Rattle.merge_worked.proofs.rows.many_generations.Goals as goal

pub returns : goal.returns
unfolding opened_play
returns c = refl
