use Rattle.merge_honest.proofs.FailingSessions.{failing-finish, failing-settle}
use Rattle.merge_honest.proofs.sessions.sessions_in_which_steps_fail_finish.Goals as goal

pub returns : goal.returns
returns c = record {
  ends = failing-finish c.sessions_finish.ensures;
  settled = failing-settle;
}
