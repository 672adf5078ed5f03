use Rattle.std.proofs.Common.{◌≡◌, ◌<◌, ◌++◌, [], drop}
use Rattle.merge_types.specs.Limits.{entry_limit}
use Rattle.merge_gens.specs.Plan.{answers_of, book_after_all, AreAllowed}
use Rattle.merge_gens.proofs.plan.GenerationPlan.of_changes.Given as goal

abbrev pub invariant-loop-change : goal.invariant-loop-change
invariant-loop-change l = record {
  unfilled : l.reached.filled < entry_limit;
  allowed : AreAllowed l.reached (drop l.change-index l.changes);
  answers : l.answers ++ answers_of l.reached (drop l.change-index l.changes) ≡ answers_of l.fn.filling l.changes;
  plan : book_after_all (record { filling = l.reached; closings = l.closings.items }) (drop l.change-index l.changes) ≡ book_after_all (record { filling = l.fn.filling; closings = [] }) l.changes;
}
