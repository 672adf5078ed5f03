use Rattle.merge_synced.proofs.Synced.{cut-is, steps-are}
use Rattle.merge_synced.proofs.cut_sessions_are_parts_of_the_models.Goals as goal

pub returns : goal.returns
returns c = record { steps = steps-are; cut = cut-is }
