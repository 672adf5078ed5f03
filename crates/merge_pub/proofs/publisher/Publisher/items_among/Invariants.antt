use Rattle.std.specs.Prelude.{◌≡◌, filter_map, take}
use Rattle.merge_pub.specs.Held.{publication_of, tables_of}
use Rattle.merge_pub.specs.Touches.{item_between}
use Rattle.merge_pub.proofs.publisher.Publisher.items_among.Given as goal

abbrev pub invariant-loop-key : goal.invariant-loop-key
invariant-loop-key l = l.items ≡ filter_map (item_between (publication_of l.self) (tables_of l.self) l.site l.from l.to) (take l.key-index l.keys)
