use Rattle.std.proofs.Common.{rules}
use Rattle.merge_sub.proofs.Begun.{begun-sound}
use Rattle.merge_sub.proofs.subscriber.Subscriber.new.Goals as goal

pub invariant_of-result : goal.invariant_of-result
invariant_of-result c = begun-sound _ c.args.site c.requires _ (search rules) _ c.new-4.ensures.entries
