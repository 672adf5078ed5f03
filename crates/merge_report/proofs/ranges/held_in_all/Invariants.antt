-- The ranges of the articles so far, two at most of each.
use Rattle.std.proofs.Common.{◌≡◌, ◌≤◌, ◌*◌, take, sum_by}
use Rattle.merge_model.specs.Script.Text.{held_count}
use Rattle.merge_report.proofs.ranges.held_in_all.Given as goal

abbrev pub invariant-loop-holder : goal.invariant-loop-holder
invariant-loop-holder l = record {
  count : l.count ≡ sum_by held_count (take l.holder-index l.holders);
  bound : l.count ≤ 2 * l.holder-index;
}
