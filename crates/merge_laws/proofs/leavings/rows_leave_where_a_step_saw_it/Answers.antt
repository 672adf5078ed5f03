use Rattle.merge_laws.proofs.LastLines.LeavingsSeen.{leavings-seen}
use Rattle.merge_laws.proofs.leavings.rows_leave_where_a_step_saw_it.Goals as goal

pub returns : goal.returns
returns c resolvers publication valid judge changing p = leavings-seen resolvers publication valid judge changing p
