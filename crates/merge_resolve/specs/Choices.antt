-- The rules that an article may choose, and what each decides, however often it was asked.
use Rattle.std.specs.Prelude.{◌==◌, if◌then◌else◌, ℕ, Option, Some, None}
use Rattle.merge_units.specs.declared.result.Decision.{Decision}
use Rattle.merge_units.specs.declared.result.Decision.TheVariants.{TakeSubscriber}
use Rattle.merge_resolve.specs.declared.case.ConflictCase.{ConflictCase}
use Rattle.merge_resolve.specs.declared.choice.ResolverChoice.{ResolverChoice}
use Rattle.merge_resolve.specs.declared.choice.ResolverChoice.TheVariants as choice
use Rattle.merge_resolve.specs.declared.extremes.Extreme.TheVariants as extreme
use Rattle.merge_resolve.specs.Rules.{by_priority}
use Rattle.merge_resolve.specs.Extremes.{extreme_decision}
use Rattle.merge_resolve.specs.Sums.{additive_decision}

abbrev pub place_of : ResolverChoice → ℕ
place_of choice.Priority = 0
place_of choice.Maximum = 1
place_of choice.Minimum = 2
place_of choice.Additive = 3
place_of choice.SubscriberWins = 4

abbrev pub choice_at : ℕ → Option ResolverChoice
choice_at place =
    if place == 0 then Some choice.Priority
    else (if place == 1 then Some choice.Maximum
    else (if place == 2 then Some choice.Minimum
    else (if place == 3 then Some choice.Additive
    else (if place == 4 then Some choice.SubscriberWins else None))))

abbrev pub rule_of : ResolverChoice → ConflictCase → Decision
rule_of choice.Priority case = by_priority case
rule_of choice.Maximum case = extreme_decision extreme.Greatest case
rule_of choice.Minimum case = extreme_decision extreme.Least case
rule_of choice.Additive case = additive_decision case
rule_of choice.SubscriberWins case = TakeSubscriber
