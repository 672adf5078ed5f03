use Rattle.std.specs.Prelude.{◌≡◌, [], drop}
use Rattle.merge_model.specs.World.Naming.{values_at_places}
use Rattle.merge_world.proofs.naming.placed.Given as goal

abbrev pub invariant-loop-named : goal.invariant-loop-named
invariant-loop-named l = values_at_places l.columns [] l.values ≡ values_at_places l.columns l.places.rows (drop l.named-index l.values)
