use Rattle.std.specs.Prelude.{◌≡◌, filter_map, take}
use Rattle.merge_pub.specs.Held.{tables_of}
use Rattle.merge_steps.specs.Purging.{taken_at}
use Rattle.merge_pub.proofs.publisher.Publisher.taken_among.Given as goal

abbrev pub invariant-loop-place : goal.invariant-loop-place
invariant-loop-place l = l.edits ≡ filter_map (taken_at l.staying.gens.now.book.closings l.staying.cutoff (tables_of l.self).mappings) (take l.place-index l.places)
