use Rattle.std.proofs.Common.{◌≡◌, drop}
use Rattle.merge_part.specs.Draft.{rows_in, marks_in}
use Rattle.std.specs.Map.{keys_of}
use Rattle.merge_part.specs.Index.{children_found}
use Rattle.merge_part.specs.Waiting.{AreReached}
use Rattle.merge_part.specs.Settling.{AllMeet, pends}
use Rattle.merge_part.proofs.settling.settle.Given as goal

abbrev pub invariant-loop-article : goal.invariant-loop-article
invariant-loop-article l = record {
  rows : l.draft.rows ≡ l.fn.draft.rows;
  index : l.draft.index ≡ l.fn.draft.index;
  reached : AreReached l.kept.rules.links (children_found l.kept.index l.fn.draft.index) (keys_of l.draft.waiting.values.rows) (keys_of l.draft.waiting.rows.rows);
  met : AllMeet l.kept.rules.links (rows_in l.kept.held.rows.rows l.fn.draft.rows) (marks_in l.kept.held.marks.rows l.draft.marks.rows) (pends (drop l.article-index l.kept.rules.order) (keys_of l.draft.waiting.rows.rows));
}
