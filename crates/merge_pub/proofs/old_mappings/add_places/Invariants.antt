use Rattle.std.specs.Prelude.{◌≡◌, ◌++◌, map, take}
use Rattle.merge_pub.specs.Forgetting.{place_at}
use Rattle.merge_pub.proofs.old_mappings.add_places.Given as goal

abbrev pub invariant-loop-key : goal.invariant-loop-key
invariant-loop-key l = l.places.items ≡ l.initial.places.items ++ map (place_at l.site) (take l.key-index l.key-items)
