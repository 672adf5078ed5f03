use Rattle.std.proofs.Common.{◌≡◌, ◌∷◌, ◌+◌, refl, sym, ap, ◌∙◌, subst, drop, drop-cons, add-one, get_or}
use Rattle.merge_types.specs.declared.row_key.RowKey.{RowKey}
use Rattle.std.specs.Map.{keys_of}
use Rattle.merge_part.specs.Draft.{rows_in, marks_in}
use Rattle.merge_part.specs.Settling.{ChildrenCome}
use Rattle.merge_part.proofs.Values.{none_known}
use Rattle.merge_part.proofs.Settled.{batch_begins, row_settled, quiet_settled}
use Rattle.merge_part.specs.Index.{children_found}
use Rattle.merge_part.proofs.settling.settle_article.Goals as goal

pub loop-key-init : goal.loop-key-init
loop-key-init c = record {
  rows = refl;
  index = refl;
  reached = c.requires.reached;
  known = rw c.new-memo.ensures.rows (none_known _ _ _ _ c.args.article);
  quiet = c.requires.met;
  met = λ articles come all. rw (c.deref-key-items.ensures.value, c.in_ok-batch.ensures.batch) (batch_begins _ _ _ c.args.article articles (keys_of c.args.draft.now.waiting.rows.rows) all);
}

pub loop-key-preserved : goal.loop-key-preserved
loop-key-preserved c =
    let same : c.loop-key.draft.rows ≡ c.args.draft.now.rows = c.loop-key.invariant.rows in
    let same_index : c.loop-key.draft.index ≡ c.args.draft.now.index = c.loop-key.invariant.index in
    let key : RowKey = get_or c.deref-key-items.result.now c.loop-key.key-index (record { article = 0; row = record { 0 = 0 } }) in
    let of_article : key.article ≡ c.args.article = (rw (sym c.deref-key-items.ensures.value) at c.in_ok-batch.ensures.of_article) c.loop-key.key-index (record { article = 0; row = record { 0 = 0 } }) c.loop-key-test.true in
    let split : drop c.loop-key.key-index c.deref-key-items.result.now ≡ key ∷ drop (c.loop-key.key-index + 1) c.deref-key-items.result.now
    = drop-cons c.deref-key-items.result.now c.loop-key.key-index (record { article = 0; row = record { 0 = 0 } }) c.loop-key-test.true ∙ ap (λ n. key ∷ drop n c.deref-key-items.result.now) (sym (add-one c.loop-key.key-index)) in
    record {
      rows = c.in_ok-settle_row.ensures.rows ∙ same;
      index = c.in_ok-settle_row.ensures.index ∙ same_index;
      reached = rw same_index at c.in_ok-settle_row.ensures.reached;
      known = rw (same, same_index, of_article) at c.in_ok-settle_row.ensures.known;
      quiet =
          quiet_settled c.args.kept.now.rules.links (children_found c.args.kept.now.index c.args.draft.now.index) (rows_in c.args.kept.now.held.rows.rows c.args.draft.now.rows) c.requires.children c.requires.apart key
          (marks_in c.args.kept.now.held.marks.rows c.loop-key.draft.marks.rows) (marks_in c.args.kept.now.held.marks.rows c.settle_row.new.draft.marks.rows)
          (keys_of c.loop-key.draft.waiting.rows.rows) (keys_of c.settle_row.new.draft.waiting.rows.rows) c.in_ok-settle_row.ensures.kept (rw (same, same_index) at c.in_ok-settle_row.ensures.ok) c.loop-key.invariant.quiet;
      met = λ articles come all.
          row_settled c.args.kept.now.rules.links (children_found c.args.kept.now.index c.args.draft.now.index) (rows_in c.args.kept.now.held.rows.rows c.args.draft.now.rows) c.requires.children c.requires.apart key
          (marks_in c.args.kept.now.held.marks.rows c.loop-key.draft.marks.rows) (marks_in c.args.kept.now.held.marks.rows c.settle_row.new.draft.marks.rows)
          (drop (c.loop-key.key-index + 1) c.deref-key-items.result.now) articles (keys_of c.loop-key.draft.waiting.rows.rows) (keys_of c.settle_row.new.draft.waiting.rows.rows)
          (subst (λ a. ChildrenCome c.args.kept.now.rules.links a articles) (sym of_article) come)
          c.in_ok-settle_row.ensures.kept
          (rw (same, same_index) at c.in_ok-settle_row.ensures.ok)
          (rw split at (c.loop-key.invariant.met articles come all));
    }

pub settle_row-requires-clause-met : goal.settle_row-requires-clause-met
settle_row-requires-clause-met c = rw c.loop-key.invariant.rows c.loop-key.invariant.quiet
