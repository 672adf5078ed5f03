use Rattle.std.proofs.Common.{◌≡◌, ℕ, List, ◌∷◌, drop}
use Rattle.merge_part.specs.Draft.{rows_in, marks_in}
use Rattle.std.specs.Map.{keys_of}
use Rattle.merge_part.specs.Index.{children_found, parents_found}
use Rattle.merge_part.specs.Waiting.{waits, AreReached}
use Rattle.merge_part.specs.Settling.{AreKnown, AllMeet, pends, ChildrenCome}
use Rattle.merge_part.proofs.Settled.{pends_within}
use Rattle.merge_part.proofs.settling.settle_article.Given as goal

abbrev pub invariant-loop-key : goal.invariant-loop-key
invariant-loop-key l = record {
  rows : l.draft.rows ≡ l.fn.draft.rows;
  index : l.draft.index ≡ l.fn.draft.index;
  reached : AreReached l.kept.rules.links (children_found l.kept.index l.fn.draft.index) (keys_of l.draft.waiting.values.rows) (keys_of l.draft.waiting.rows.rows);
  known : AreKnown l.kept.rules.links (parents_found l.kept.index l.fn.draft.index) (rows_in l.kept.held.rows.rows l.fn.draft.rows) (marks_in l.kept.held.marks.rows l.draft.marks.rows) l.article l.memo.rows;
  quiet : AllMeet l.kept.rules.links (rows_in l.kept.held.rows.rows l.fn.draft.rows) (marks_in l.kept.held.marks.rows l.draft.marks.rows) (waits (keys_of l.draft.waiting.rows.rows));
  met : (articles : List ℕ) → ChildrenCome l.kept.rules.links l.article articles
      → AllMeet l.kept.rules.links (rows_in l.kept.held.rows.rows l.fn.draft.rows) (marks_in l.kept.held.marks.rows l.fn.draft.marks.rows) (pends (l.article ∷ articles) (keys_of l.fn.draft.waiting.rows.rows))
      → AllMeet l.kept.rules.links (rows_in l.kept.held.rows.rows l.fn.draft.rows) (marks_in l.kept.held.marks.rows l.draft.marks.rows) (pends_within (drop l.key-index l.key-items) articles (keys_of l.draft.waiting.rows.rows));
}
