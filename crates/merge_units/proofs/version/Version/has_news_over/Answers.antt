use Rattle.std.proofs.Common.{arith}
use Rattle.std.proofs.lemmas.Grind.{common_steps}
use Rattle.merge_lineage.specs.Lineage.{knows}
use Rattle.merge_units.specs.declared.version.Cell.{Cell}
use Rattle.merge_units.specs.Version.{is_new}
use Rattle.merge_units.proofs.Pairs.{any_map}
use Rattle.merge_units.proofs.version.Version.has_news_over.Goals as goal

-- the tops of a live body are those of its cells
pub returns-in-Live : goal.returns-in-Live
returns-in-Live c =
    let tops = any_map (is_new (knows c.args.other.now.lineage)) (λ (cell : Cell). cell.top) c.in-Live.cells in
    grind (arith, common_steps, tops)
