use Rattle.std.proofs.Common.{◌≡◌, take}
use Rattle.merge_part.specs.Live.{live_rows as listed}
use Rattle.merge_part.specs.View.{live_in}
use Rattle.merge_steps.specs.Working as work
use Rattle.merge_steps.proofs.entries.found_outs.Given as goal

abbrev pub invariant-loop-key : goal.invariant-loop-key
invariant-loop-key l = l.outs ≡ work.outs_by l.membership.publication l.site (listed (live_in l.membership)) l.moved.slots (take l.key-index l.acted)
