-- The five resolvers that the program hands in, by their places.
use Rattle.std.specs.Prelude.{Option, option_map, ℕ}
use Rattle.merge_units.specs.declared.result.Decision.{Decision}
use Rattle.merge_resolve.specs.Choices.{choice_at, rule_of}
use Rattle.merge_resolve.specs.declared.case.ConflictCase.{ConflictCase}
use Rattle.merge_model.specs.World.{Saying}

abbrev pub rule_at : ℕ → Option (ConflictCase → Decision)
rule_at place = option_map rule_of (choice_at place)

-- each says what its rule says, however often it was asked
abbrev pub rules_say : Saying
rules_say place tally case = option_map (λ (rule : ConflictCase → Decision). rule case) (rule_at place)
