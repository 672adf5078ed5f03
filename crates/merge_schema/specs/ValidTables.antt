-- What holds of the tables of a file, before the names in them are looked up.
use Rattle.std.specs.Prelude.{◌≡◌, ◌<◌, ◌≤◌, ◌⊎◌, ℕ, true, length, All, Option, Some, None, IsSome}
use Rattle.merge_types.specs.declared.values.Column.{Column}
use Rattle.merge_types.specs.declared.values.ColumnType.TheVariants as types
use Rattle.merge_script.specs.Names.{is_name_text}
use Rattle.merge_schema.specs.declared.draft.ArticleDraft.{ArticleDraft}
use Rattle.merge_schema.specs.declared.draft.Draft.{Draft}
use Rattle.merge_schema.specs.declared.publication.Identity.{Identity}
use Rattle.merge_schema.specs.declared.publication.Subscription.{Subscription}
use Rattle.merge_schema.specs.FileTables.{needs_column}
use Rattle.merge_schema.specs.Valid.{IsWithin, HasValidRanges, HasValidIdentity, IsValidSubscription}

-- an identity that a table brings
abbrev pub IsNewIdentity : ℕ → Option Identity → Type 0
IsNewIdentity place None = ⊥
IsNewIdentity place (Some identity) = (identity.column ≡ place) × HasValidRanges identity

-- a column leaves the identity as it was, or is of type int and brings one
abbrev pub IsColumnIdentity : ℕ → Column → Option Identity → Option Identity → Type 0
IsColumnIdentity place column so_far identity = (identity ≡ so_far) ⊎ ((column.ty ≡ types.Int) × IsNewIdentity place identity)

pub record IsValidDraft (resolvers : ℕ) (draft : ArticleDraft) : Type 0 where
  pub named : is_name_text draft.name ≡ true
  pub some_columns : IsWithin 1 64 (length draft.columns)
  pub named_columns : All (λ (column : Column). is_name_text column.name ≡ true) draft.columns
  pub few_joins : length draft.joins ≤ 8
  pub valid_resolver : draft.resolver < resolvers
  pub has_decider : needs_column draft.resolver ≡ true → IsSome draft.resolver_column
  pub valid_identity : HasValidIdentity draft.columns draft.identity

pub record HasValidTables (resolvers : ℕ) (draft : Draft) : Type 0 where
  pub named : is_name_text draft.name ≡ true
  pub valid_retention : IsWithin 1 3650 draft.retention_days
  pub valid_conflict_retention : IsWithin 1 3650 draft.conflict_retention_days
  pub some_articles : IsWithin 1 32 (length draft.articles)
  pub few_subscriptions : length draft.subscriptions ≤ 63
  pub valid_articles : All (λ (article : ArticleDraft). IsValidDraft resolvers article) draft.articles
  pub valid_subscriptions : All (λ (subscription : Subscription). IsValidSubscription subscription) draft.subscriptions
