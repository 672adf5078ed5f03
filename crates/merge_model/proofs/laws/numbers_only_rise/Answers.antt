use Rattle.merge_model.proofs.Publishers.Rising.{step-rises}
use Rattle.merge_model.proofs.Subscribers.{subscriber_numbers_rise}
use Rattle.merge_model.proofs.laws.numbers_only_rise.Goals as goal

pub returns : goal.returns
returns c = record { publisher = step-rises; subscriber = subscriber_numbers_rise }
