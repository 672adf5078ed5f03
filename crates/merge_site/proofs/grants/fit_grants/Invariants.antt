use Rattle.std.specs.Prelude.{drop}
use Rattle.std.specs.List.{AllByRecursion}
use Rattle.merge_keeper.specs.Stored.{HasGrantKey}
use Rattle.merge_site.proofs.grants.fit_grants.Given as goal

-- all fit where those that are left do
abbrev pub invariant-loop-grant : goal.invariant-loop-grant
invariant-loop-grant l = AllByRecursion HasGrantKey (drop l.grant-index l.grants) → AllByRecursion HasGrantKey l.grants
