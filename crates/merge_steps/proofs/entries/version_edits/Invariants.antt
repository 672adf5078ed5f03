use Rattle.std.proofs.Common.{◌≡◌, ◌++◌, ◌+◌, drop, length}
use Rattle.std.specs.Vec.Iter.{into_iter_items}
use Rattle.merge_steps.specs.Working as work
use Rattle.merge_steps.proofs.entries.version_edits.Given as goal

abbrev pub invariant-loop-key : goal.invariant-loop-key
invariant-loop-key l = (l.edits ++ work.version_edits (into_iter_items l.key-iterator) (drop l.number l.generations) ≡ work.version_edits l.fn.versions.items l.generations) × (l.number + length (into_iter_items l.key-iterator) ≡ length l.generations)
