use Rattle.std.proofs.Common.{◌≡◌}
use Rattle.merge_keeper.specs.SubscriberStart.{first_missing}
use Rattle.merge_keeper.proofs.subscriber_start.first_missing.Given as goal

abbrev pub invariant-loop-key : goal.invariant-loop-key
invariant-loop-key l = first_missing l.last l.next l.key-iterator ≡ first_missing l.last l.from l.initial.key-iterator
