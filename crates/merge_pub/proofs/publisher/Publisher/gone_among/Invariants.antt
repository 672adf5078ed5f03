use Rattle.std.specs.Prelude.{◌≡◌, filter_map, take}
use Rattle.merge_pub.specs.Held.{tables_of}
use Rattle.merge_steps.specs.Purging.{gone_at}
use Rattle.merge_pub.proofs.publisher.Publisher.gone_among.Given as goal

abbrev pub invariant-loop-key : goal.invariant-loop-key
invariant-loop-key l = l.gone ≡ filter_map (gone_at l.staying.gens.now.book.closings l.staying.cutoff (tables_of l.self).rows) (take l.key-index l.keys)
