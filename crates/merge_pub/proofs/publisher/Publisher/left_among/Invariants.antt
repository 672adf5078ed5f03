use Rattle.std.specs.Prelude.{◌≡◌, filter, take}
use Rattle.merge_pub.specs.Forgetting.{is_left_at}
use Rattle.merge_pub.specs.Held.{tables_of}
use Rattle.merge_pub.proofs.publisher.Publisher.left_among.Given as goal

abbrev pub invariant-loop-key : goal.invariant-loop-key
invariant-loop-key l = l.left.items ≡ filter (is_left_at (tables_of l.self).mappings l.site) (take l.key-index l.keys)
