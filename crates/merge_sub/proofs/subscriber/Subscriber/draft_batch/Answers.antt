use Rattle.std.specs.Prelude.{refl}
use Rattle.std.proofs.Common.{rules}
use Rattle.merge_sub.proofs.Ready.{still-ready}
use Rattle.merge_sub.proofs.Opened.{closing-goes-on}
use Rattle.merge_sub.proofs.Uploading.{upload-sent}
use Rattle.merge_sub.proofs.subscriber.Subscriber.draft_batch.Goals as goal

pub returns-clause-made : goal.returns-clause-made
returns-clause-made c =
    upload-sent _ _ c.self.view_is c.args.now c.still.result c.in_ok-last.gens c.in_ok-last.last c.in_ok-to.to c.in_ok-to.keys.items c.in_ok-items.items c.through-through.result
    c.in_ok-last.ensures.last c.in_ok-to.ensures.end c.in_ok-to.ensures.rows (search rules) (search rules) (search rules) c.in_ok-last.ensures.plan

pub returns-clause-ready : goal.returns-clause-ready
returns-clause-ready c = still-ready _ _ (search rules) _ _ _ c.still.ensures.changes c.still.ensures.index refl refl refl (closing-goes-on _ _ c.self.view_is _ c.in_ok-last.gens c.requires.closed c.in_ok-last.ensures.plan) c.in_ok-last.ensures.ready c.rows.ensures.rising c.self.invariant
