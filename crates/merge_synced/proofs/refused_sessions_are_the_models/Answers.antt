use Rattle.merge_synced.proofs.Synced.{refused-is}
use Rattle.merge_synced.proofs.refused_sessions_are_the_models.Goals as goal

pub returns : goal.returns
returns c = refused-is
