use Rattle.std.proofs.Common.{◌≡◌, ◌||◌, ℕ, Bool, true, sym, ap, ◌∙◌}
use Rattle.std.specs.Map.{keys_of}
use Rattle.std.specs.List.{list_any}
use Rattle.merge_types.specs.declared.identifiers.RowId.{RowId}
use Rattle.merge_join.specs.declared.entry.JoinEntry.{JoinEntry}
use Rattle.merge_part.specs.Draft.{rows_in, marks_in}
use Rattle.merge_part.specs.Rule.{row_gives}
use Rattle.merge_part.proofs.Found.{gives_either, given_by_either}
use Rattle.merge_part.proofs.Reasons.{both, joined_is}
use Rattle.merge_part.proofs.joined.sites_by_value.Goals as goal

pub returns : goal.returns
returns c = record {
  given = λ place h.
      gives_either (row_gives (rows_in c.args.kept.now.held.rows.rows c.args.draft.now.rows) (marks_in c.args.kept.now.held.marks.rows c.args.draft.now.marks.rows) c.args.value.now c.args.link.now place) (keys_of c.in_ok-held.held) (keys_of c.in_ok-come.come)
      (rw (c.union.ensures place, c.sites_by_parents-by_held.ensures place, c.sites_by_parents.ensures place) at h);
  all = λ place row entry gives.
      rw (c.union.ensures place, c.sites_by_parents-by_held.ensures place, c.sites_by_parents.ensures place, c.in_ok-held.ensures, c.in_ok-come.ensures)
      (given_by_either (row_gives (rows_in c.args.kept.now.held.rows.rows c.args.draft.now.rows) (marks_in c.args.kept.now.held.marks.rows c.args.draft.now.marks.rows) c.args.value.now c.args.link.now place)
      c.args.kept.now.index.parents.set c.args.draft.now.index.parents.come.set c.args.number c.args.value.now row entry (joined_is c.args.value.now c.args.link.now _ (both _ _ gives).0).3 gives);
}
