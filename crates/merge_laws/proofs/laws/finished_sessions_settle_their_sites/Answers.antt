use Rattle.merge_laws.proofs.Sessions.SessionLaw.{sessions-settle}
use Rattle.merge_laws.proofs.laws.finished_sessions_settle_their_sites.Goals as goal

pub returns : goal.returns
returns c publication says tallies slips events = sessions-settle publication says tallies slips events
