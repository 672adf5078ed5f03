use Rattle.std.specs.Prelude.{◌≡◌, ◌++◌, drop, map}
use Rattle.merge_site.specs.Lists.{conflict_put}
use Rattle.merge_site.proofs.lists.conflict_changes.Given as goal

abbrev pub invariant-loop-row : goal.invariant-loop-row
invariant-loop-row l = l.edits ++ map conflict_put (drop l.row-index l.rows) ≡ map conflict_put l.rows
