use Rattle.merge_model.proofs.Script.ReadRows.{row_read-is}
use Rattle.merge_reading.proofs.word.row.Goals as goal

pub returns : goal.returns
returns c = row_read-is _ _ c.read.ensures.some c.read.ensures.none
