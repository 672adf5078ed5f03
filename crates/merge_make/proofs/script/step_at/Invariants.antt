-- The parts from here on have at the place that is left what the script has at the whole place.
use Rattle.std.proofs.Common.{drop, ◌≡◌}
use Rattle.std.specs.List.{flat_map, slice_get}
use Rattle.merge_make.specs.Script.{events_in, parts, script}
use Rattle.merge_make.proofs.script.step_at.Given as goal

abbrev pub invariant-loop-part : goal.invariant-loop-part
invariant-loop-part l = slice_get (script l.customers) l.place ≡ slice_get (flat_map (events_in l.customers) (drop l.part-index parts)) l.left
