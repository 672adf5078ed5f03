use Rattle.std.proofs.Common.{◌≡◌, ◌++◌}
use Rattle.merge_steps.proofs.entries.listing_of.Given as goal

abbrev pub invariant-loop-place : goal.invariant-loop-place
invariant-loop-place l = l.entries ++ l.place-iterator ≡ l.table.rows
