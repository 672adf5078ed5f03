use Rattle.merge_units.proofs.Merged.{cells_by_side, decided_values_stand}
use Rattle.merge_units.proofs.Limit.{rows_stay_in_limit}
use Rattle.merge_units.proofs.laws.result_laws.Goals as goal

pub returns : goal.returns
returns c = record {
  cells = cells_by_side;
  decided = decided_values_stand;
  limit = rows_stay_in_limit;
}
