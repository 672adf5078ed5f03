-- The greatest identity values of a valid publication have 64 bits.
use Rattle.std.specs.Prelude.{ℕ}
use Rattle.std.proofs.lemmas.List.Elements.{recursion_from_All}
use Rattle.merge_schema.specs.Valid.{IsValid}
use Rattle.merge_schema.specs.declared.publication.Publication.{Publication}
use Rattle.merge_model.specs.Tables.Publications.{rules_of}
use Rattle.merge_laws.proofs.Runs.ValidRules.{all-rules}
use Rattle.merge_typed.specs.Outside.{PublicationIsTyped, RuleIsTyped}
use Rattle.merge_typed.proofs.ValidRanges.{ranges-typed}

pub valid-typed : (resolvers : ℕ) (publication : Publication) → IsValid resolvers publication → PublicationIsTyped publication
valid-typed resolvers publication valid = recursion_from_All RuleIsTyped (rules_of publication) (all-rules RuleIsTyped ranges-typed resolvers publication valid)
