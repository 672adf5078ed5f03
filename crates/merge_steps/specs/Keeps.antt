-- What every step of a publisher keeps of its tables.
use Rattle.std.specs.List.{AllByRecursion}
use Rattle.std.specs.Prelude.{◌≡◌, ◌≤◌, ℕ, true, is_some, List, Some}
use Rattle.merge_types.specs.declared.row_key.RowKey.{RowKey as Key}
use Rattle.merge_lineage.specs.Lineage.{number_of}
use Rattle.merge_units.specs.declared.site_row.PublisherRow.{PublisherRow}
use Rattle.merge_units.specs.declared.version.Version.{Version}
use Rattle.merge_ident.specs.Grants.{granted_to}
use Rattle.merge_ident.specs.Holders.{Holder}
use Rattle.merge_ident.specs.declared.grants.Grant.{Grant}
use Rattle.merge_conflict.specs.Rising.{AreRising}
use Rattle.merge_conflict.specs.declared.row.ConflictRow.{ConflictRow}
use Rattle.merge_schema.specs.declared.publication.Publication.{Publication}
use Rattle.merge_batch.specs.Articles.{fits_article}
use Rattle.merge_model.specs.Tables.Keys.{at_number}
use Rattle.merge_model.specs.Tables.Publications.{identity_column}
use Rattle.merge_model.specs.Tables.{PublisherTables}

-- a row fits its article, and of the publisher's changes it knows none that was not made
pub record FitsHere (publication : Publication) (changes : ℕ) (row : Key × Version) : Type 0 where
  pub fits : fits_article publication row.0.article row.1.body ≡ true
  pub known : number_of row.1.lineage 0 ≤ changes

abbrev pub RowFits : Publication → ℕ → Key × PublisherRow → Type 0
RowFits publication changes row = FitsHere publication changes (row.0, row.1.version)

-- the ranges that the publisher holds of an article are those that it granted itself
abbrev pub AreHeard : List Grant → List (ℕ × Holder) → Type 0
AreHeard grants held = (article : ℕ) (holder : Holder) → at_number held article ≡ Some holder → holder.have ≡ granted_to article 0 grants

-- the articles with an identity column have ranges, and no others
abbrev pub HaveColumns : Publication → List (ℕ × Holder) → Type 0
HaveColumns publication held = (article : ℕ) → is_some (at_number held article) ≡ is_some (identity_column publication article)

pub record KeepsRules (publication : Publication) (p : PublisherTables) : Type 0 where
  pub rows : AllByRecursion (RowFits publication p.changes) p.rows
  -- conflicts have numbers that were given, in order
  pub rising : AreRising p.conflicts
  pub conflicts : AllByRecursion (λ (row : ConflictRow). row.number ≤ p.conflict_count) p.conflicts
  pub held : HaveColumns publication p.held
  pub heard : AreHeard p.grants p.held
