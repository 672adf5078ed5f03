use Rattle.std.proofs.Common.{◌≡◌, ◌++◌}
use Rattle.merge_keeper.specs.Grants.{grants_in}
use Rattle.merge_keeper.proofs.grants.GrantsSoFar.list.Given as goal

abbrev pub invariant-loop-grant : goal.invariant-loop-grant
invariant-loop-grant l = l.grants ++ l.grant-iterator ≡ grants_in l.self
