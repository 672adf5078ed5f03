use Rattle.std.proofs.Common.{◌≡◌, Bool, IsTrue, ◌↔◌, subst, arith}
use Rattle.std.proofs.lemmas.Grind.{common_steps}
use Rattle.merge_lineage.specs.Lineage.{IsAscending, ascending}
use Rattle.merge_lineage.proofs.Ascending.{ascending_is_tested}
use Rattle.merge_lineage.proofs.lineage.are_ascending.Goals as goal

-- the answer is the test, and the test says whether they ascend
pub returns-in-Some-clause-ascending : goal.returns-in-Some-clause-ascending
returns-in-Some-clause-ascending c =
    let tested : ascending c.args.dots.now ≡ c.ascend_behind.result = grind (arith, common_steps) in
    subst (λ (answer : Bool). IsTrue answer ↔ IsAscending c.args.dots.now) tested (ascending_is_tested c.args.dots.now)
