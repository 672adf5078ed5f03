-- The side with the greater value wins, or the one with the smaller.
use Rattle.std.specs.Prelude.{ℤ, int_lt, Bool, Option, Some, None}
use Rattle.merge_types.specs.declared.Value.{Value}
use Rattle.merge_types.specs.declared.Value.TheVariants.{Null, Int, Day}
use Rattle.merge_resolve.specs.declared.case.ConflictCase.{ConflictCase}
use Rattle.merge_units.specs.declared.result.Decision.{Decision}
use Rattle.merge_units.specs.declared.result.Decision.TheVariants.{KeepPublisher, TakeSubscriber}
use Rattle.merge_resolve.specs.declared.extremes.Extreme.{Extreme}
use Rattle.merge_resolve.specs.declared.extremes.Extreme.TheVariants.{Greatest, Least}
use Rattle.merge_resolve.specs.Columns.{body_value}
use Rattle.merge_resolve.specs.Rules.{take_if, or_priority}

-- whether their number is the better one
abbrev pub beats : Extreme → ℤ → ℤ → Bool
beats Greatest our their = int_lt our their
beats Least our their = int_lt their our

-- a Null loses to every other value, and a tie keeps the publisher's. Two numbers or two days are compared, and nothing else
abbrev pub decision_by_extreme : Extreme → Value → Value → Option Decision
decision_by_extreme extreme Null Null = Some KeepPublisher
decision_by_extreme extreme Null (Int their) = Some TakeSubscriber
decision_by_extreme extreme Null (Day their) = Some TakeSubscriber
decision_by_extreme extreme (Int our) Null = Some KeepPublisher
decision_by_extreme extreme (Day our) Null = Some KeepPublisher
decision_by_extreme extreme (Int our) (Int their) = Some (take_if (beats extreme our their))
decision_by_extreme extreme (Day our) (Day their) = Some (take_if (beats extreme our their))
decision_by_extreme extreme _ _ = None

-- what a rule says of the two values, where both bodies have the column
abbrev pub answer_on_both : {A : Type 0} → (Value → Value → Option A) → Option Value → Option Value → Option A
answer_on_both rule (Some ours) (Some theirs) = rule ours theirs
answer_on_both rule _ _ = None

-- what the rule decides: as the priority does where no column is compared
abbrev pub extreme_decision : Extreme → ConflictCase → Decision
extreme_decision extreme case =
    or_priority case (answer_on_both (decision_by_extreme extreme) (body_value case.kind case.publisher case.column) (body_value case.kind case.incoming case.column))
