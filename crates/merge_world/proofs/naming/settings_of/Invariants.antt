use Rattle.std.specs.Prelude.{◌≡◌, ◌++◌, map}
use Rattle.merge_model.specs.World.Naming.{setting_of}
use Rattle.merge_world.proofs.naming.settings_of.Given as goal

abbrev pub invariant-loop-column : goal.invariant-loop-column
invariant-loop-column l = l.settings ++ map setting_of l.column-iterator ≡ map setting_of l.places.rows
