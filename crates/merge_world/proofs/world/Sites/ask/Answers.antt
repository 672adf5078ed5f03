use Rattle.merge_world.specs.Messages.{sending_of}
use Rattle.merge_world.proofs.Sessions.{reports-after, reports-other, still-ordered}
use Rattle.merge_world.proofs.world.Sites.ask.Goals as goal

pub deliver-requires : goal.deliver-requires
deliver-requires g c = still-ordered _ _ c.send.ensures.stays c.requires

pub returns-in-Posted : goal.returns-in-Posted
returns-in-Posted g c = reports-after c.args.site (sending_of c.args.sending) _ _ _ _ _ c.in-Posted.number _ (rw c.in-Posted.is at c.send.ensures) c.deliver.ensures

pub returns-in_default : goal.returns-in_default
returns-in_default g c = reports-other c.args.site (sending_of c.args.sending) _ _ _ _ c.in_default.not-Posted c.send.ensures
