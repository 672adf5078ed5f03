use Rattle.merge_model.proofs.Runs.{publisher_stays_sorted, subscribers_stay_sorted}
use Rattle.merge_model.proofs.laws.lists_stay_sorted.Goals as goal

pub returns : goal.returns
returns c = record { publisher = publisher_stays_sorted; subscribers = subscribers_stay_sorted }
