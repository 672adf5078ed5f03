use Rattle.merge_pub.specs.Held.{tables_of}
use Rattle.merge_pub.proofs.OldRows.{sorted-changed}
use Rattle.merge_pub.proofs.publisher.Publisher.sorted_within.Goals as goal

pub returns-clause-all : goal.returns-clause-all
returns-clause-all c = sorted-changed (tables_of c.args.self.now).rows c.args.span _ _ c.in_ok-keys.ensures c.sort_rows.ensures.same
