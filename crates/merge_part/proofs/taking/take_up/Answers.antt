use Rattle.std.proofs.Common.{length, ap, sym, ◌∙◌}
use Rattle.merge_types.specs.declared.row_key.RowKey.{RowKey}
use Rattle.std.specs.Map.{keys_of}
use Rattle.merge_part.specs.Draft.{rows_in, marks_in}
use Rattle.merge_part.specs.Entering.{IsEntered}
use Rattle.merge_part.specs.Index.{children_found}
use Rattle.merge_part.specs.Settling.{is_among}
use Rattle.merge_part.proofs.Found.{waits_on, waits_last}
use Rattle.merge_part.proofs.Values.{reached_on, reached_entered}
use Rattle.merge_part.proofs.Taken.{changed_to, drafted_after, still_indexed, met_after}
use Rattle.merge_part.proofs.taking.take_up.Goals as goal

pub returns-clause-drafted : goal.returns-clause-drafted
returns-clause-drafted g c =
    rw c.in_ok-push.ensures.ok
    (drafted_after c.args.kept.now.rules.links c.args.kept.now.index c.args.draft.now.index c.enter_row.new.draft c.key-key.result _ c.in_ok-content.content (rows_in c.args.kept.now.held.rows.rows c.args.draft.now.rows) _
    c.requires.children c.requires.parents (sym c.get-old.ensures)
    (changed_to c.args.kept.now.held.rows.rows c.is_ordered.ensures.rows c.args.draft.now.rows c.key-key.result c.in_ok-content.content) c.requires.drafted
    (rw (c.as_slice-links.ensures, c.as_ref.ensures.value) at c.in_ok-enter_row.ensures.child) (rw (c.as_slice-links.ensures, c.as_ref.ensures.value) at c.in_ok-enter_row.ensures.parent))

pub returns-clause-met : goal.returns-clause-met
returns-clause-met g c = λ within among all.
    rw c.in_ok-push.ensures.ok
    (met_after c.args.kept.now.rules.links c.key-key.result c.in_ok-content.content (rows_in c.args.kept.now.held.rows.rows c.args.draft.now.rows) _
    (changed_to c.args.kept.now.held.rows.rows c.is_ordered.ensures.rows c.args.draft.now.rows c.key-key.result c.in_ok-content.content)
    (children_found c.args.kept.now.index c.enter_row.new.draft)
    (still_indexed c.args.kept.now.rules.links c.args.kept.now.index c.args.draft.now.index c.enter_row.new.draft (rows_in c.args.kept.now.held.rows.rows c.args.draft.now.rows) c.requires.drafted c.in_ok-enter_row.ensures.child.stay)
    c.args.kept.now.rules.order within (ap (λ (k : RowKey). is_among c.args.kept.now.rules.order k.article) c.key-key.ensures ∙ among)
    (keys_of c.args.draft.now.waiting.rows.rows) (keys_of c.wait_by_row.new.waiting.rows.rows) (λ k h. c.wait_by_row.ensures.kept k (rw c.in_ok-insert.ensures.rows (waits_on _ c.key-key.result k h))) (c.wait_by_row.ensures.kept c.key-key.result (rw c.in_ok-insert.ensures.rows (waits_last _ c.key-key.result)))
    (marks_in c.args.kept.now.held.marks.rows c.args.draft.now.marks.rows) (rw (c.as_slice-links.ensures, c.get-old.ensures, c.as_ref-2.ensures.value, c.marks_at.ensures) at c.in_ok-wait_by_row.ensures.ok) all)

pub wait_by_row-requires : goal.wait_by_row-requires
wait_by_row-requires g c = record {
  reached = rw c.as_slice-links.ensures
      (reached_entered c.args.kept.now.rules.links c.args.kept.now.index.children.set _ c.args.draft.now.index.children c.enter_row.new.draft.children c.key-key.result _ _ (keys_of c.insert.new.self.rows) (rw c.as_slice-links.ensures at c.in_ok-enter_row.ensures.child)
      (rw c.in_ok-insert.ensures.rows (waits_last _ c.key-key.result))
      (reached_on _ _ _ (keys_of c.args.draft.now.waiting.rows.rows) (keys_of c.insert.new.self.rows) (λ k h. rw c.in_ok-insert.ensures.rows (waits_on _ c.key-key.result k h)) c.requires.reached));
}

pub returns-clause-reached : goal.returns-clause-reached
returns-clause-reached g c = rw c.as_slice-links.ensures at c.in_ok-wait_by_row.ensures.reached
