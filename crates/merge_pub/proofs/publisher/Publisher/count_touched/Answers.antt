use Rattle.merge_pub.specs.Held.{publication_of, tables_of}
use Rattle.std.proofs.Common.{◌+◌, ◌∙◌}
use Rattle.merge_pub.proofs.BatchCounts.{touched-count}
use Rattle.merge_pub.proofs.publisher.Publisher.count_touched.Goals as goal

pub returns : goal.returns
returns c = c.count_among.ensures.count ∙ (rw c.deref.ensures.value (touched-count (publication_of c.args.self.now) (tables_of c.args.self.now) c.args.site c.args.before (c.args.before + 1) _ c.in_ok-keys.ensures))
