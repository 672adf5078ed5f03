use Rattle.std.specs.Prelude.{drop}
use Rattle.std.specs.List.{AllByRecursion}
use Rattle.merge_site.proofs.short.are_short.Given as goal

-- all have a record where those that are left do
abbrev pub invariant-loop-item : goal.invariant-loop-item
invariant-loop-item g l = AllByRecursion g.T.Storable.IsShort (drop l.item-index l.items) → AllByRecursion g.T.Storable.IsShort l.items
