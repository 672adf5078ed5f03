use Rattle.merge_pub.specs.Held.{publication_of, tables_of}
use Rattle.merge_pub.proofs.Replies.{replied}
use Rattle.merge_pub.proofs.publisher.Publisher.reply.Goals as goal

pub returns : goal.returns
returns c = λ took. replied (publication_of c.args.self.now) (tables_of c.args.self.now) c.args.m.now c.last_after_closing-last.result c.args.received _ _ c.last_after_closing-last.ensures.last took c.in_ok-to.ensures c.in_ok-items.ensures
