use Rattle.std.proofs.Common.{◌≡◌, take}
use Rattle.merge_steps.specs.Working as work
use Rattle.merge_steps.proofs.entries.keys_in.Given as goal

abbrev pub invariant-loop-one : goal.invariant-loop-one
invariant-loop-one l = l.keys ≡ work.keys_in (take l.one-index l.versions)
