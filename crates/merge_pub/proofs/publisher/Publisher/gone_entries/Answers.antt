use Rattle.merge_pub.proofs.OldRows.{held-gone}
use Rattle.merge_pub.proofs.publisher.Publisher.gone_entries.Goals as goal

pub returns : goal.returns
returns c =
    held-gone _ _ c.self.view_is c.args.cutoff _ _ _ c.is_ordered.ensures.rows c.old_span.ensures.within c.in_ok-keys.ensures.ascending c.in_ok-keys.ensures.all (rw c.deref.ensures.value at c.in_ok-gone.ensures)
