use Rattle.merge_pub.proofs.OldMappings.{held-taken}
use Rattle.merge_pub.proofs.publisher.Publisher.old_mappings.Goals as goal

pub returns : goal.returns
returns c =
    held-taken _ _ c.self.view_is c.args.cutoff _ _ _ c.is_ordered.ensures.rows c.old_span.ensures.within c.in_ok-places.ensures.ascending c.in_ok-places.ensures.all (rw c.deref.ensures.value at c.in_ok-edits.ensures)
