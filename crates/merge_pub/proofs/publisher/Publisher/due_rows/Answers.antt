use Rattle.merge_pub.proofs.Looking.{due-touched}
use Rattle.merge_pub.proofs.publisher.Publisher.due_rows.Goals as goal

pub returns : goal.returns
returns c =
    due-touched _ _ c.self.view_is c.args.site c.args.from c.args.to _ _ _ _ c.self.invariant.indexed c.self.invariant.moved c.is_ordered.ensures.rows c.new-keys.ensures.items c.in_ok-between.ensures.rows
    c.in_ok-add_moved.ensures c.sort_rows.ensures.ascending c.sort_rows.ensures.same
