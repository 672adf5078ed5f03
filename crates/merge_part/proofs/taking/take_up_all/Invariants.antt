use Rattle.std.proofs.Common.{◌≡◌, ◌≤◌, ◌+◌, ◌*◌, [], drop, length}
use Rattle.merge_table.specs.Edits.{rows_after_all}
use Rattle.merge_types.specs.RowKeys.{key_cmp}
use Rattle.merge_part.specs.Draft.{rows_in, marks_of}
use Rattle.std.specs.Map.{keys_of}
use Rattle.merge_part.specs.Waiting.{AreReached}
use Rattle.merge_part.specs.Index.{AreDrafted, children_found}
use Rattle.merge_part.specs.Live.{live_of, live_after_all}
use Rattle.merge_part.specs.Rules.{AreFiltered}
use Rattle.merge_part.specs.Settling.{AllMeet, pends}
use Rattle.merge_part.specs.Taking.{living}
use Rattle.merge_part.proofs.taking.take_up_all.Given as goal

abbrev pub invariant-loop-change : goal.invariant-loop-change
invariant-loop-change g l = record {
  reached : AreReached l.kept.rules.links (children_found l.kept.index l.draft.index) (keys_of l.draft.waiting.values.rows) (keys_of l.draft.waiting.rows.rows);
  marks : l.draft.marks.rows ≡ [];
  live : live_after_all (live_of (rows_after_all key_cmp l.kept.held.rows.rows l.draft.rows)) (drop l.change-index l.changes) ≡ live_after_all (live_of l.kept.held.rows.rows) l.changes;
  filtered : AreFiltered l.publication (rows_in l.kept.held.rows.rows l.draft.rows);
  drafted : AreDrafted l.kept.rules.links l.kept.index l.draft.index (rows_in l.kept.held.rows.rows l.draft.rows);
  met : AllMeet l.kept.rules.links (rows_in l.kept.held.rows.rows l.draft.rows) (marks_of l.kept.held.marks.rows) (pends l.kept.rules.order (keys_of l.draft.waiting.rows.rows));
  cost : l.steps + length l.publication.subscriptions * living (drop l.change-index l.changes) ≤ l.fn.steps + length l.publication.subscriptions * living l.changes;
}
