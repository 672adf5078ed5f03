-- The priority of the sites decides.
use Rattle.std.specs.Prelude.{Bool, true, false, Option, Some, None, nat_lt}
use Rattle.merge_resolve.specs.declared.case.ConflictCase.{ConflictCase}
use Rattle.merge_units.specs.declared.result.Decision.{Decision}
use Rattle.merge_units.specs.declared.result.Decision.TheVariants.{KeepPublisher, TakeSubscriber}

-- the subscriber's version where it is the better one
abbrev pub take_if : Bool → Decision
take_if true = TakeSubscriber
take_if false = KeepPublisher

-- the subscriber's exactly where the incoming priority is greater
abbrev pub by_priority : ConflictCase → Decision
by_priority case = take_if (nat_lt case.publisher_priority case.incoming_priority)

-- what a rule decides that falls back on the priority
abbrev pub or_priority : ConflictCase → Option Decision → Decision
or_priority case None = by_priority case
or_priority case (Some decision) = decision
