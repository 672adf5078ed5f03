use Rattle.merge_honest.proofs.Valued.{inserts-took, rows-valued}
use Rattle.merge_honest.proofs.items.inserts_take_values.Goals as goal

pub returns : goal.returns
returns c = record { took = inserts-took; rows = rows-valued }
