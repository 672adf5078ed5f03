use Rattle.std.specs.List.{flat_map}
use Rattle.std.specs.Prelude.{◌≡◌, ◌++◌}
use Rattle.merge_world.proofs.Rowwise.{part}
use Rattle.merge_world.proofs.rows.shown.Given as goal

abbrev pub invariant-loop-key : goal.invariant-loop-key
invariant-loop-key g l = l.shown ++ flat_map (part l.article g.R.Versioned.version_of) l.key-iterator ≡ flat_map (part l.article g.R.Versioned.version_of) l.rows.rows
