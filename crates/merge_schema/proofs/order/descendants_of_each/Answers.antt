use Rattle.std.proofs.Common.{length}
use Rattle.merge_schema.specs.Ancestors.{descendants_within}
use Rattle.merge_schema.proofs.Ranks.{one_more_marked}
use Rattle.merge_schema.proofs.order.descendants_of_each.Goals as goal

pub loop-place-preserved : goal.loop-place-preserved
loop-place-preserved c = one_more_marked (descendants_within (length c.args.articles.now) c.args.articles.now) c.loop-place.marked.items c.push.new.self.items c.loop-place.place c.in_ok-descendants.field-0
    c.loop-place.invariant c.in_ok-descendants.ensures c.in_ok-push.ensures.items
