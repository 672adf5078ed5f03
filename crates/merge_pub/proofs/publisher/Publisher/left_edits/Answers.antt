use Rattle.merge_pub.proofs.JoinForgets.{left-held, left-places}
use Rattle.merge_pub.proofs.publisher.Publisher.left_edits.Goals as goal

pub returns-clause-left : goal.returns-clause-left
returns-clause-left c =
    left-held _ _ c.self.view_is c.args.site _ _ _ _ _ c.self.invariant.moved c.is_ordered.ensures.rows c.new-keys.ensures.items c.in_ok-add_moved.ensures c.sort_rows.ensures.same
    (rw c.deref.ensures.value at c.in_ok-left.ensures) (rw c.deref-2.ensures.value at c.in_ok-edits.ensures)

pub returns-clause-apart : goal.returns-clause-apart
returns-clause-apart c = left-places c.args.site.0 _ _ _ _ c.sort_rows.ensures.ascending (rw c.deref.ensures.value at c.in_ok-left.ensures) (rw c.deref-2.ensures.value at c.in_ok-edits.ensures)
