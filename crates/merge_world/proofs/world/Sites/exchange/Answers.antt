use Rattle.merge_world.specs.Messages.{sending_of}
use Rattle.merge_world.proofs.Sessions.{meets-past, meets-refused, meets-stray, meets-taken, meets-unmade, still-ordered}
use Rattle.merge_world.proofs.world.Sites.exchange.Goals as goal

pub deliver-requires : goal.deliver-requires
deliver-requires g c = still-ordered _ _ c.ask.ensures.keeps.stays c.requires

pub returns-in-Took : goal.returns-in-Took
returns-in-Took g c = meets-taken c.args.site (sending_of c.args.sending) _ _ _ _ _ _ c.in-Posted.number _ c.brings_generations-brings.ensures (rw c.in-Posted.is at c.ask.ensures) _ (rw c.in-Took.is at c.deliver.ensures)

pub returns-in-Refuses-deliver : goal.returns-in-Refuses-deliver
returns-in-Refuses-deliver g c = meets-refused c.args.site (sending_of c.args.sending) _ _ _ _ _ _ c.in-Posted.number _ c.brings_generations-brings.ensures (rw c.in-Posted.is at c.ask.ensures) _ (rw c.in-Refuses-deliver.is at c.deliver.ensures)

pub returns-in_default-deliver : goal.returns-in_default-deliver
returns-in_default-deliver g c = meets-stray c.args.site (sending_of c.args.sending) _ _ _ _ _ _ c.in-Posted.number _ c.brings_generations-brings.ensures (rw c.in-Posted.is at c.ask.ensures) _ c.in_default-deliver.not-Took c.in_default-deliver.not-Refuses c.deliver.ensures

pub returns-in-Refuses : goal.returns-in-Refuses
returns-in-Refuses g c = meets-unmade c.args.site (sending_of c.args.sending) _ _ _ _ _ (rw c.in-Refuses.is at c.ask.ensures)

pub returns-in_default : goal.returns-in_default
returns-in_default g c = meets-past c.args.site (sending_of c.args.sending) _ _ _ _ _ c.in_default.not-Posted c.in_default.not-Refuses c.ask.ensures
