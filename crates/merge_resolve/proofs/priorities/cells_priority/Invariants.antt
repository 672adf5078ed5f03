use Rattle.std.proofs.Common.{◌≡◌, ℕ, max, drop}
use Rattle.std.specs.List.{fold}
use Rattle.merge_types.specs.declared.identifiers.Dot.{Dot}
use Rattle.merge_lineage.specs.Lineage.{knows}
use Rattle.merge_units.specs.declared.version.Body.TheVariants.{Live}
use Rattle.merge_units.specs.Version.{new_tops}
use Rattle.merge_resolve.specs.Priorities.{top_priority, greatest_priority}
use Rattle.merge_resolve.proofs.priorities.cells_priority.Given as goal

-- the greatest so far and those of what is left give that of all
abbrev pub invariant-loop-cell : goal.invariant-loop-cell
invariant-loop-cell l =
    fold (λ (most : ℕ) (top : Dot). max most (top_priority l.publication top)) l.most (new_tops (knows l.known) (Live (drop l.cell-index l.cells)))
    ≡ greatest_priority l.publication (new_tops (knows l.known) (Live l.cells))
