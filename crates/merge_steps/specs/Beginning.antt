-- Rules and ranges of one article more.
use Rattle.std.specs.Prelude.{ℕ, List, [], ◌∷◌, ◌++◌, Option, Some, None}
use Rattle.merge_ident.specs.Holders.{Holder, new_holder}
use Rattle.merge_ident.specs.declared.grants.Rule.{Rule}
use Rattle.merge_schema.specs.declared.publication.Identity.{Identity}
use Rattle.merge_model.specs.Tables.Keys.{put_number}
use Rattle.merge_model.specs.Tables.Publications.{rule_of}

abbrev pub with_rule : List Rule → ℕ → Option Identity → List Rule
with_rule rules place None = rules
with_rule rules place (Some identity) = rules ++ rule_of (place, identity) ∷ []

abbrev pub with_holder : List (ℕ × Holder) → ℕ → Option Identity → List (ℕ × Holder)
with_holder held place None = held
with_holder held place (Some identity) = put_number held place (new_holder identity.threshold)
