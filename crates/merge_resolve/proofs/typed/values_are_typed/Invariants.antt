use Rattle.std.proofs.Common.{◌≡◌, drop}
use Rattle.merge_resolve.specs.ValueTypes.{are_typed}
use Rattle.merge_resolve.proofs.typed.values_are_typed.Given as goal

-- all are typed just when those that are left are
abbrev pub invariant-loop-at : goal.invariant-loop-at
invariant-loop-at l = are_typed (drop l.at l.values) ≡ are_typed l.values
