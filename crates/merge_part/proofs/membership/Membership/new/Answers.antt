use Rattle.merge_part.proofs.Begun.{begun_rules, begun_kept, few_articles}
use Rattle.merge_part.proofs.membership.Membership.new.Goals as goal

pub evaluation_order-requires : goal.evaluation_order-requires
evaluation_order-requires c = few_articles c.requires.0 c.args.publication.now c.requires.1

pub invariant_of-result : goal.invariant_of-result
invariant_of-result c = record {
  rules = rw c.in_ok-copy.ensures (begun_rules c.requires.0 c.args.publication.now c.in_ok-links.links c.in_ok-order.order c.requires.1 (c.in_ok-order.ensures.parents_first _ c.requires.1.in_order) c.in_ok-links.ensures);
  kept = rw (c.new.ensures.set, c.new-2.ensures.set, c.new-3.ensures.rows, c.new-4.ensures.rows) (begun_kept _ _);
}
