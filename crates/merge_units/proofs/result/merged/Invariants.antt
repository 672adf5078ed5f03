use Rattle.std.proofs.Common.{◌≡◌, ◌++◌, drop, length}
use Rattle.merge_units.specs.Results.{result_cells, decided, taken_count}
use Rattle.merge_units.proofs.result.merged.Given as goal

-- the cells so far, and what is left to give
abbrev pub invariant-loop-at : goal.invariant-loop-at
invariant-loop-at l = record {
  cells : l.cells.items ++ result_cells l.dot l.decision l.rest (drop l.at l.sides) (drop l.at l.ours) (drop l.at l.theirs) ≡ result_cells l.dot l.decision (decided l.decision) l.sides l.ours l.theirs;
  values : length l.rest ≡ taken_count l.decision (drop l.at l.sides) (drop l.at l.ours);
}
