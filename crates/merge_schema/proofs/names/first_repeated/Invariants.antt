use Rattle.std.proofs.Common.{◌≡◌, take, drop}
use Rattle.merge_schema.specs.Lookups.{repeated_behind, first_repeated}
use Rattle.merge_schema.proofs.names.first_repeated.Given as goal

abbrev pub invariant-loop-place : goal.invariant-loop-place
invariant-loop-place l = repeated_behind (take l.place l.names) (drop l.place l.names) ≡ first_repeated l.names
