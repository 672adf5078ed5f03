use Rattle.merge_honest.proofs.RemovedRows.{removals-fit}
use Rattle.merge_honest.proofs.replies.rows_that_are_removed_fit.Goals as goal

pub returns : goal.returns
returns c resolvers publication valid says tallies slips events = removals-fit resolvers publication valid says tallies slips events
