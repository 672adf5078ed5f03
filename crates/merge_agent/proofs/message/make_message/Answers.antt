-- What is made of rows that can be printed can be written.
use Rattle.merge_world.specs.Messages.{sending_of}
use Rattle.merge_agent.proofs.Exchanging.{made-writable}
use Rattle.merge_agent.proofs.message.make_message.Goals as goal

pub returns-clause-sendable : goal.returns-clause-sendable
returns-clause-sendable g c =
    made-writable (sending_of c.args.sending) c.args.now (g.S.SubscriberSite.view c.args.site.now) (g.S.SubscriberSite.view c.request_of.new.subscriber) c.in_ok-made.made c.rows_are_printable.ensures c.in_ok-made.ensures.called
