use Rattle.std.proofs.Common.{◌≡◌, ◌++◌}
use Rattle.merge_part.specs.Draft.{mark_edits}
use Rattle.merge_part.proofs.membership.mark_edits.Given as goal

abbrev pub invariant-loop-key : goal.invariant-loop-key
invariant-loop-key l = l.edits.items ++ mark_edits l.key-iterator ≡ mark_edits l.drafted.rows
