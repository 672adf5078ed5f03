use Rattle.merge_synced.proofs.Synced.{done-is}
use Rattle.merge_synced.proofs.done_sessions_are_the_models.Goals as goal

pub returns : goal.returns
returns c = done-is
