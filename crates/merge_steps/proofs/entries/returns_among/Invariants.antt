use Rattle.std.proofs.Common.{◌≡◌, take}
use Rattle.merge_steps.specs.Working as work
use Rattle.merge_steps.proofs.entries.returns_among.Given as goal

abbrev pub invariant-loop-one : goal.invariant-loop-one
invariant-loop-one l = l.places ≡ work.returns l.mappings.rows l.changed.slots (take l.one-index l.moves)
