use Rattle.std.proofs.Common.{arith}
use Rattle.merge_batch.proofs.Ascending.{sites_ascend-ascending}
use Rattle.merge_batch.proofs.lineage.is_well_formed.Goals as goal

pub returns : goal.returns
returns c = grind (arith, c.dots.ensures.all, c.pairs_fit.ensures, sites_ascend-ascending c.args.lineage.now c.dots.ensures.ascending)
