use Rattle.merge_pub.proofs.DraftFits.{leaves-join}
use Rattle.merge_pub.proofs.publisher.Publisher.draft_joined.Goals as goal

pub draft_forgetting-requires : goal.draft_forgetting-requires
draft_forgetting-requires c = leaves-join _ _ c.self.view_is c.self.invariant _ c.empty.ensures c.empty-2.ensures c.in_ok-mappings.ensures.apart
