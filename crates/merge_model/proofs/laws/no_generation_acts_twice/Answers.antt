use Rattle.merge_model.proofs.Publishers.DoneOnce.{none_acts_twice, acting_are_new}
use Rattle.merge_model.proofs.laws.no_generation_acts_twice.Goals as goal

pub returns : goal.returns
returns c = record { once = none_acts_twice; new = acting_are_new }
