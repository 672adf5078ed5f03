use Rattle.merge_honest.proofs.RepliesTaken.{no-reply-refused}
use Rattle.merge_honest.proofs.SessionsFinish.{sessions-finish}
use Rattle.merge_honest.proofs.sessions.sessions_finish.Goals as goal

pub returns : goal.returns
returns c = sessions-finish (record { taken = c.honest_requests_are_taken.ensures; replies = no-reply-refused })
