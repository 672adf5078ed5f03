-- What a site promises of a change and of the row that it holds, and what it learns where it does not refuse the change.
use Rattle.std.specs.Prelude.{◌≡◌, ◌≤◌, ℕ, ℤ, All, List, None, Option, Some, false, length, pos, true}
use Rattle.merge_types.specs.declared.changes.Change.{Change}
use Rattle.merge_types.specs.declared.changes.Change.TheVariants.{Insert}
use Rattle.merge_types.specs.declared.changes.Setting.{Setting}
use Rattle.merge_types.specs.declared.identifiers.Dot.{Dot}
use Rattle.merge_types.specs.declared.values.Value.{Value}
use Rattle.merge_types.specs.declared.values.Value.TheVariants.{Int}
use Rattle.merge_lineage.specs.Lineage.{knows}
use Rattle.merge_units.specs.Changes.{ColumnsAscend}
use Rattle.merge_units.specs.declared.version.Version.{Version}
use Rattle.merge_schema.specs.Valid.{IsValid}
use Rattle.merge_schema.specs.declared.publication.Article.{Article}
use Rattle.merge_schema.specs.declared.publication.Publication.{Publication}
use Rattle.merge_batch.specs.Articles.{fits_article, has_article}
use Rattle.merge_batch.specs.LocalChanges.{article_of, identity_column, long_row, long_value, no_row, sets_identity, settings_of, types_at, version_after, wrong_type}

-- each article has few columns, as in every valid publication
abbrev pub HasFewColumns : Publication → Type 0
HasFewColumns publication = All (λ (article : Article). length article.columns ≤ 64) publication.articles

-- the row that is held, if any, fits its article
abbrev pub FitsHeld : Publication → ℕ → Option Version → Type 0
FitsHeld publication article None = Unit {0}
FitsHeld publication article (Some version) = fits_article publication article version.body ≡ true

-- the row that is held, if any, does not know the change
abbrev pub IsNewAt : Dot → Option Version → Type 0
IsNewAt dot None = Unit {0}
IsNewAt dot (Some version) = knows version.lineage dot ≡ false

-- the identity value of a new row is a whole number, where its article has an identity column
abbrev pub IsIdentity : Option ℕ → Value → Type 0
IsIdentity None identity = Unit {0}
IsIdentity (Some column) identity = (number : ℤ) × (identity ≡ Int number)

-- the same for the row that an insert makes; an update and a delete take none
abbrev pub HasIdentity : Publication → Change → Value → Type 0
HasIdentity publication (Insert article values) identity = IsIdentity (identity_column publication article) identity
HasIdentity publication change identity = Unit {0}

-- the article exists, the columns ascend, and the row is held as its article wants it
pub record CanBeAsked (publication : Publication) (change : Change) (held : Option Version) : Type 0 where
  pub valid : (resolvers : ℕ) × IsValid resolvers publication
  pub place : has_article publication (article_of change) ≡ true
  pub ascend : ColumnsAscend (settings_of change)
  pub fits : FitsHeld publication (article_of change) held

-- the row lives, and each value that is set fits its column, which is not the identity column
pub record FitsColumns (publication : Publication) (change : Change) (held : Option Version) : Type 0 where
  pub row : no_row change held ≡ None
  pub identity : sets_identity (settings_of change) (identity_column publication (article_of change)) ≡ None
  pub types : wrong_type (types_at publication (article_of change)) (settings_of change) ≡ None
  pub values : long_value (settings_of change) ≡ None

-- what an update asks for: the row fits its article, and the settings fit its columns
pub record IsUpdatable (publication : Publication) (place : ℕ) (settings : List Setting) (version : Version) : Type 0 where
  pub valid : (resolvers : ℕ) × IsValid resolvers publication
  pub fits : fits_article publication place version.body ≡ true
  pub types : wrong_type (types_at publication place) settings ≡ None
  pub values : long_value settings ≡ None

-- and the row is not too long afterwards
pub record IsAllowed (publication : Publication) (change : Change) (held : Option Version) : Type 0 where
  pub columns : FitsColumns publication change held
  pub length : (dot : Dot) → long_row (version_after publication dot (Int (pos 0)) change held) ≡ None
