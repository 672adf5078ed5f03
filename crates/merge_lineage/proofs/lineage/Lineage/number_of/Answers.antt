use Rattle.std.proofs.Common.{subst, arith}
use Rattle.std.proofs.lemmas.List.{get_or_default}
use Rattle.std.proofs.lemmas.Bool.Decides.{nat_tests}
use Rattle.merge_lineage.specs.Lineage.{no_dot, IsAscending}
use Rattle.merge_lineage.proofs.Place.{number-at_place, number-in_gap}
use Rattle.merge_lineage.proofs.lineage.Lineage.number_of.Goals as goal

-- the site is at its place, and the dot there is the one that was read
pub returns-in-Ok : goal.returns-in-Ok
returns-in-Ok c =
    let number = number-at_place _ (subst IsAscending c.self.view_is c.self.invariant) _ _ c.in-Ok.ensures.found in
    let read = get_or_default _ _ c.index.result.now no_dot c.in-Ok.ensures.found.in_range in
    grind (arith, nat_tests, c.self.view_is)

-- the site is not there
pub returns-in-Err : goal.returns-in-Err
returns-in-Err c =
    let number = number-in_gap _ _ _ c.in-Err.ensures.absent in
    grind (arith, nat_tests)
