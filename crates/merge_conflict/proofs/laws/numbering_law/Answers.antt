use Rattle.merge_conflict.proofs.RisingRows.{go_on_above}
use Rattle.merge_conflict.proofs.laws.numbering_law.Goals as goal

pub returns : goal.returns
returns c = go_on_above
