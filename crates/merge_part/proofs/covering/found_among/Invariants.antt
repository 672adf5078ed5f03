use Rattle.std.proofs.Common.{◌≡◌, ℕ, true}
use Rattle.merge_part.specs.Covering.{AnotherGives}
use Rattle.merge_part.specs.Draft.{rows_in, marks_in}
use Rattle.merge_part.specs.Sites.{has_site}
use Rattle.merge_part.proofs.covering.found_among.Given as goal

abbrev pub invariant-loop-entry : goal.invariant-loop-entry
invariant-loop-entry l =
    (place : ℕ) → has_site l.found place ≡ true
    → AnotherGives (rows_in l.others.kept.now.held.rows.rows l.others.rows.now) (marks_in l.others.kept.now.held.marks.rows l.others.marks.now.rows) l.others.key l.link l.value place
