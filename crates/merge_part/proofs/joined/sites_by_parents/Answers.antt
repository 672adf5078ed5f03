use Rattle.std.proofs.Common.{ℕ, Bool, sym, ◌∙◌}
use Rattle.std.specs.List.{list_any}
use Rattle.std.specs.Map.{keys_of}
use Rattle.merge_types.specs.declared.identifiers.RowId.{RowId}
use Rattle.merge_join.specs.declared.entry.JoinEntry.{JoinEntry}
use Rattle.merge_part.specs.Draft.{rows_in, marks_in}
use Rattle.merge_part.specs.Rule.{row_gives}
use Rattle.merge_part.specs.Sites.{has_site}
use Rattle.merge_part.proofs.Found.{or_end}
use Rattle.merge_part.proofs.Walks.{or_assoc}
use Rattle.merge_part.proofs.joined.sites_by_parents.Goals as goal

pub loop-entry-preserved : goal.loop-entry-preserved
loop-entry-preserved c = λ place.
    let test : RowId → Bool = row_gives (rows_in c.args.kept.now.held.rows.rows c.args.draft.now.rows) (marks_in c.args.kept.now.held.marks.rows c.args.draft.now.marks.rows) c.args.value.now c.args.link.now place in
    rw (c.union-found.ensures place, c.given_by-sites.ensures place)
    (or_assoc (has_site c.loop-entry.found place) (test c.in-Some.entry.now.child) (list_any (λ (entry : JoinEntry). test entry.child) (keys_of c.next.new.self)) ∙ (rw c.in-Some.ensures.steps at (c.loop-entry.invariant place)))

pub returns : goal.returns
returns c = λ place. sym (or_end _) ∙ (rw c.in-None.ensures.steps.0 at (c.loop-entry.invariant place))
