use Rattle.std.proofs.Common.{sym, subst}
use Rattle.merge_types.specs.declared.Tracking.{Tracking}
use Rattle.merge_units.specs.Version.{FitsTracking}
use Rattle.merge_units.proofs.Places.{one_value_each}
use Rattle.merge_units.proofs.conditions.column_count.Goals as goal

-- there are as many values as cells
pub returns-in-ByColumn : goal.returns-in-ByColumn
returns-in-ByColumn c = sym (one_value_each c.args.cells.now (subst (λ (tracking : Tracking). FitsTracking tracking c.args.cells.now) c.in-ByColumn.is c.requires))
