use Rattle.merge_synced.proofs.Synced.{unmade-is, untaken-is}
use Rattle.merge_synced.proofs.sessions_that_sites_break_off_are_the_models.Goals as goal

pub returns : goal.returns
returns c = record { unmade = unmade-is; untaken = untaken-is }
