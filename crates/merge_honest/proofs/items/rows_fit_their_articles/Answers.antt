use Rattle.merge_honest.proofs.RowRules.{no-row-misfits}
use Rattle.merge_honest.proofs.items.rows_fit_their_articles.Goals as goal

pub returns : goal.returns
returns c resolvers publication valid says tallies slips events = no-row-misfits resolvers publication valid says tallies slips events
