use Rattle.merge_honest.proofs.PutRows.{puts-fit}
use Rattle.merge_honest.proofs.replies.rows_that_are_put_fit.Goals as goal

pub returns : goal.returns
returns c resolvers publication valid says tallies slips events = puts-fit resolvers publication valid says tallies slips events
