use Rattle.merge_pub.specs.Held.{publication_of, tables_of}
use Rattle.std.proofs.Common.{arith}
use Rattle.merge_pub.proofs.BatchCounts.{reach-end, reach-start, reach-step, reach-stop}
use Rattle.merge_pub.proofs.publisher.Publisher.batch_end.Goals as goal

pub loop-to-init : goal.loop-to-init
loop-to-init c = reach-start (publication_of c.args.self.now) (tables_of c.args.self.now) c.args.site c.args.from c.args.last _ c.requires.order c.end_of-end.ensures.end

pub returns-then-more-count : goal.returns-then-more-count
returns-then-more-count c = reach-stop (publication_of c.args.self.now) (tables_of c.args.self.now) c.args.site c.args.from c.args.last c.loop-to.to c.end_of-end.result c.loop-to.count _ (omega arith) (omega arith) c.in_ok-more.ensures c.if-more-count.true c.loop-to.invariant

pub loop-to-preserved : goal.loop-to-preserved
loop-to-preserved c = reach-step (publication_of c.args.self.now) (tables_of c.args.self.now) c.args.site c.args.from c.args.last c.loop-to.to c.end_of-end.result c.loop-to.count _ (omega arith) (omega arith) c.in_ok-more.ensures c.if-more-count.false c.loop-to.invariant

pub returns : goal.returns
returns c = reach-end (publication_of c.args.self.now) (tables_of c.args.self.now) c.args.site c.args.from c.args.last c.loop-to.to c.end_of-end.result _ (omega arith) (omega arith) c.loop-to.invariant
