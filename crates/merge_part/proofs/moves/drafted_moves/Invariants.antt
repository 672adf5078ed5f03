use Rattle.std.proofs.Common.{◌≡◌, ◌++◌}
use Rattle.merge_part.specs.Draft.{marks_of}
use Rattle.merge_part.specs.Moves.{all_moves}
use Rattle.merge_part.proofs.moves.drafted_moves.Given as goal

abbrev pub invariant-loop-key : goal.invariant-loop-key
invariant-loop-key l = l.moves.items ++ all_moves l.subscriptions (marks_of l.held.marks.rows) l.key-iterator ≡ all_moves l.subscriptions (marks_of l.held.marks.rows) l.drafted.rows
