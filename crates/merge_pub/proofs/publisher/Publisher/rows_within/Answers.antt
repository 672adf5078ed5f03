use Rattle.std.proofs.Common.{◌-◌, arith}
use Rattle.merge_pub.specs.Held.{tables_of}
use Rattle.merge_pub.proofs.OldRows.{all-changed, between-changed}
use Rattle.merge_pub.proofs.publisher.Publisher.rows_within.Goals as goal

pub returns-then-span-eq0 : goal.returns-then-span-eq0
returns-then-span-eq0 c = all-changed (tables_of c.args.self.now).rows c.args.span _ c.in_ok-keys.ensures

pub returns : goal.returns
returns c = between-changed _ _ c.self.view_is c.self.invariant.indexed c.args.span (c.args.span.first - 1) _ _ (omega arith) c.new-keys.ensures.items c.in_ok-between.ensures.rows
