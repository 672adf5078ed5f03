use Rattle.merge_pub.specs.Held.{publication_of, tables_of}
use Rattle.merge_pub.proofs.RangeChecks.{checked-others, checked-ruled}
use Rattle.merge_pub.proofs.publisher.Publisher.check_ranges.Goals as goal

pub returns-clause-ruled : goal.returns-clause-ruled
returns-clause-ruled c = checked-ruled (publication_of c.args.self.now) _ c.args.m.now _ (rw c.publication.ensures at c.ranges_fault-broken.ensures) c.in_ok-check_rules.ensures

pub returns-clause-others : goal.returns-clause-others
returns-clause-others c = checked-others (publication_of c.args.self.now) c.args.m.now.site c.args.m.now.seq c.args.now (tables_of c.args.self.now) c.in_ok-check_site.ensures.refusal
