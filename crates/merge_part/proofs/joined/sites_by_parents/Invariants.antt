use Rattle.std.proofs.Common.{◌≡◌, ◌||◌, ℕ}
use Rattle.std.specs.List.{list_any}
use Rattle.std.specs.Map.{keys_of}
use Rattle.merge_join.specs.declared.entry.JoinEntry.{JoinEntry}
use Rattle.merge_part.specs.Draft.{rows_in, marks_in}
use Rattle.merge_part.specs.Rule.{row_gives}
use Rattle.merge_part.specs.Sites.{has_site}
use Rattle.merge_part.proofs.joined.sites_by_parents.Given as goal

abbrev pub invariant-loop-entry : goal.invariant-loop-entry
invariant-loop-entry l =
    (place : ℕ) → (has_site l.found place || list_any (λ (entry : JoinEntry). row_gives (rows_in l.kept.held.rows.rows l.draft.rows) (marks_in l.kept.held.marks.rows l.draft.marks.rows) l.value l.link place entry.child) (keys_of l.entry-iterator))
    ≡ list_any (λ (entry : JoinEntry). row_gives (rows_in l.kept.held.rows.rows l.draft.rows) (marks_in l.kept.held.marks.rows l.draft.marks.rows) l.value l.link place entry.child) (keys_of l.fn.entries)
