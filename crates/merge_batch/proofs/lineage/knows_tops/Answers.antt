use Rattle.std.proofs.Common.{not, ap, sym, ◌∙◌}
use Rattle.merge_lineage.specs.Lineage.{knows}
use Rattle.merge_units.specs.declared.version.Cell.{Cell}
use Rattle.merge_units.specs.Version.{is_new}
use Rattle.merge_units.proofs.Pairs.{any_map}
use Rattle.merge_batch.proofs.lineage.knows_tops.Goals as goal

-- the tops of live cells
pub returns : goal.returns
returns c = ap not (c.any_new.ensures ∙ sym (any_map (is_new (knows c.args.lineage.now)) (λ (cell : Cell). cell.top) c.args.cells.now))
