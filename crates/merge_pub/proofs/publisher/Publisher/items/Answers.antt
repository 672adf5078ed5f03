use Rattle.merge_pub.specs.Held.{publication_of, tables_of}
use Rattle.merge_pub.proofs.BatchCounts.{items-all}
use Rattle.merge_pub.proofs.publisher.Publisher.items.Goals as goal

pub returns : goal.returns
returns c = items-all (publication_of c.args.self.now) (tables_of c.args.self.now) c.args.site c.args.from c.args.to _ _ c.in_ok-keys.ensures (rw c.deref.ensures.value at c.in_ok-items.ensures)
