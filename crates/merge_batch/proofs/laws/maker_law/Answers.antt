use Rattle.merge_batch.proofs.Makers.{maker_of-made, made-maker_of}
use Rattle.merge_batch.proofs.laws.maker_law.Goals as goal

pub returns : goal.returns
returns c row dot = (made-maker_of row dot, maker_of-made row dot.site.0 dot.number)
