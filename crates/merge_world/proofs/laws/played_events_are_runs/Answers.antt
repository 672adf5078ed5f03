use Rattle.merge_world.proofs.Playings.{played-runs}
use Rattle.merge_world.proofs.laws.played_events_are_runs.Goals as goal

pub returns : goal.returns
returns c = played-runs
