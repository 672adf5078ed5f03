use Rattle.std.proofs.Common.{◌≡◌, drop}
use Rattle.merge_lineage.specs.Lineage.{ascending_behind}
use Rattle.merge_lineage.proofs.lineage.ascend_behind.Given as goal

-- all ascend just when those that are left do
abbrev pub invariant-loop-dot : goal.invariant-loop-dot
invariant-loop-dot l = ascending_behind l.last (drop l.dot-index l.dots) ≡ ascending_behind l.fn.site.0 l.dots
