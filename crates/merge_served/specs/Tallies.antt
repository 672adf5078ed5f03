-- Resolvers whose decisions do not depend on how often they were asked.
use Rattle.std.specs.Prelude.{List, ℕ, ◌≡◌}
use Rattle.merge_types.specs.declared.identifiers.Moment.{Moment}
use Rattle.merge_units.specs.declared.result.Decision.{Decision}
use Rattle.merge_resolve.specs.Choices.{rule_of}
use Rattle.merge_resolve.specs.declared.case.ConflictCase.{ConflictCase}
use Rattle.merge_resolve.specs.declared.choice.ResolverChoice.{ResolverChoice}
use Rattle.merge_schema.specs.declared.publication.Publication.{Publication}
use Rattle.merge_batch.specs.declared.request.Request.{Request}
use Rattle.merge_model.specs.Tables.{PublisherTables}
use Rattle.merge_model.specs.World.{Saying}
use Rattle.merge_desk.specs.Replay.{entry_decisions}

-- what a resolver says of a case is the same, however often it was asked
abbrev pub SaysTheSameAtAnyTally : Saying → Type 0
SaysTheSameAtAnyTally says = (place tally other : ℕ) (case : ConflictCase) → says place tally case ≡ says place other case

-- what one resolver says is what a rule says that comes with the product
abbrev pub SaysItsRule : (ℕ → ConflictCase → Decision) → Type 0
SaysItsRule says = (choice : ResolverChoice) × ((tally : ℕ) (case : ConflictCase) → says tally case ≡ rule_of choice case)

-- The decisions on a request's conflicts are then the same, whatever the tallies are.
abbrev pub DecisionsAreTheSameAtAnyTallies : Type 0
DecisionsAreTheSameAtAnyTallies = (publication : Publication) (says : Saying) → SaysTheSameAtAnyTally says → (tallies others : List ℕ) (now : Moment) (m : Request) (p : PublisherTables)
    → entry_decisions publication says tallies now m p ≡ entry_decisions publication says others now m p
