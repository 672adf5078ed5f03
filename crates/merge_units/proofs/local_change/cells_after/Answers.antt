use Rattle.std.proofs.Common.{ℕ, subst}
use Rattle.merge_types.specs.declared.Tracking.{Tracking}
use Rattle.merge_units.specs.Version.{FitsTracking}
use Rattle.merge_units.specs.Changes.{AscendBelow}
use Rattle.merge_units.proofs.Places.{one_value_each}
use Rattle.merge_units.proofs.local_change.cells_after.Goals as goal

-- there are as many columns as values
pub columns_after-requires : goal.columns_after-requires
columns_after-requires c =
    let each = subst (λ (tracking : Tracking). FitsTracking tracking c.args.cells.now) c.in-ByColumn.is c.requires.tracking in
    subst (λ (count : ℕ). AscendBelow count c.args.edits.now) (one_value_each c.args.cells.now each) c.requires.places
