use Rattle.merge_part.specs.Draft.{rows_in, marks_in}
use Rattle.merge_part.specs.Index.{parents_found}
use Rattle.merge_part.specs.Settling.{AreKnown}
use Rattle.merge_part.proofs.Reasons.{Reaching}
use Rattle.merge_part.proofs.joined.sites_of.Given as goal

abbrev pub invariant-loop-number : goal.invariant-loop-number
invariant-loop-number l = record {
  reaching : Reaching l.kept.rules.links (rows_in l.kept.held.rows.rows l.draft.rows) (marks_in l.kept.held.marks.rows l.draft.marks.rows) l.key l.content l.found l.number;
  known : AreKnown l.kept.rules.links (parents_found l.kept.index l.draft.index) (rows_in l.kept.held.rows.rows l.draft.rows) (marks_in l.kept.held.marks.rows l.draft.marks.rows) l.key.article l.memo.rows;
}
