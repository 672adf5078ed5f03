use Rattle.std.proofs.Common.{take}
use Rattle.merge_steps.specs.Working as work
use Rattle.merge_steps.proofs.entries.key_table.Given as goal

abbrev pub invariant-loop-key : goal.invariant-loop-key
invariant-loop-key l = work.HaveSame l.table.slots (take l.key-index l.keys)
