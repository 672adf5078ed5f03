-- What a subscriber holds, and what holds of it.
use Rattle.std.specs.Prelude.{◌≡◌, ◌==◌, ◌+◌, ◌≤◌, ℕ, Bool, true, List, [], Option, None, Some, is_some, option_map, unwrap_or}
use Rattle.std.specs.FinSet as set
use Rattle.std.specs.List.{AllByRecursion, list_any}
use Rattle.merge_types.specs.Limits.{number_limit}
use Rattle.merge_types.specs.declared.identifiers.SiteId.{SiteId}
use Rattle.merge_types.specs.declared.row_key.RowKey.{RowKey}
use Rattle.merge_table.specs.Contents.{Contents}
use Rattle.merge_lineage.specs.Lineage.{number_of}
use Rattle.merge_units.specs.declared.site_row.SubscriberRow.{SubscriberRow}
use Rattle.merge_gens.specs.Book.{BookWithRoom}
use Rattle.merge_gens.specs.Entries.{entry_cmp, entry_of}
use Rattle.merge_gens.specs.Index.{Index}
use Rattle.merge_gens.specs.declared.index.IndexEntry.{IndexEntry}
use Rattle.merge_ident.specs.Holders.{Holder}
use Rattle.merge_conflict.specs.Table.{RowsWithRoom}
use Rattle.merge_conflict.specs.declared.row.ConflictRow.{ConflictRow}
use Rattle.merge_schema.specs.Valid.{IsValid}
use Rattle.merge_schema.specs.declared.publication.Publication.{Publication}
use Rattle.merge_batch.specs.Articles.{fits_article}
use Rattle.merge_batch.specs.LocalChanges.{identity_column}
use Rattle.merge_model.specs.Tables.Keys.{at_number, row_at}
use Rattle.merge_model.specs.Tables.{SubscriberTables}
use Rattle.merge_sub.specs.declared.state.State.{State}

-- The parts of a subscriber. The contracts of its calls speak of the publication and of `tables_of`; how the rows are found by
-- their generations, and for what the memory is there, shows in none but that a draft is ready.
pub record Held : Type 0 where
  pub publication : Publication
  pub site : SiteId
  pub state : State
  pub gens : BookWithRoom
  pub rows : Contents RowKey SubscriberRow
  pub unsent : Index
  pub conflicts : RowsWithRoom
  pub held : Contents ℕ Holder

abbrev pub tables_of : Held → SubscriberTables
tables_of h = record {
  site = h.site;
  changes = h.state.changes;
  gens = h.gens.book;
  conflict_count = h.state.conflict_count;
  latest = h.state.latest;
  seq = h.state.seq;
  outstanding = h.state.outstanding;
  received = h.state.received;
  watermark = h.state.watermark;
  is_joined = h.state.is_joined;
  rows = h.rows.rows;
  conflicts = h.conflicts.rows;
  held = h.held.rows;
}

-- What holds of rows at their keys.
abbrev pub EachRow : (RowKey → SubscriberRow → Type 0) → List (RowKey × SubscriberRow) → Type 0
EachRow P rows = (key : RowKey) (row : SubscriberRow) → row_at rows key ≡ Some row → P key row

-- the generations that a row keeps, none where there is no row
abbrev pub kept_by : Option SubscriberRow → List ℕ
kept_by row = unwrap_or (option_map (λ (row : SubscriberRow). row.generations) row) []

abbrev pub keeps : Option SubscriberRow → ℕ → Bool
keeps row generation = list_any (λ (kept : ℕ). kept == generation) (kept_by row)

-- The index has a generation at the number behind it. What lies behind a number is found, so what lies behind 0 has generation 0.
abbrev pub entry_behind : ℕ → RowKey → IndexEntry
entry_behind generation key = entry_of (generation + 1) key

-- each row is found by the generations that it keeps, and by no other
unfoldable pub AreIndexed : List (RowKey × SubscriberRow) → set.FinSet entry_cmp → Type 0
AreIndexed rows entries = (key : RowKey) (generation : ℕ) → set.contains entries (entry_behind generation key) ≡ keeps (row_at rows key) generation

-- rows fit their articles
unfoldable pub AreFitting : Publication → List (RowKey × SubscriberRow) → Type 0
AreFitting publication rows = EachRow (λ (key : RowKey) (row : SubscriberRow). fits_article publication key.article row.version.body ≡ true) rows

-- rows know no change of the site that it did not make
unfoldable pub AreMade : SiteId → ℕ → List (RowKey × SubscriberRow) → Type 0
AreMade site changes rows = EachRow (λ (key : RowKey) (row : SubscriberRow). number_of row.version.lineage site.0 ≤ changes) rows

-- generations that have been open: the open one, and those before it
abbrev pub HaveOpened : ℕ → List ℕ → Type 0
HaveOpened closed generations = AllByRecursion (λ (generation : ℕ). generation ≤ closed + 1) generations

-- rows keep no others
unfoldable pub KeepOpened : ℕ → List (RowKey × SubscriberRow) → Type 0
KeepOpened closed rows = EachRow (λ (key : RowKey) (row : SubscriberRow). HaveOpened closed row.generations) rows

-- ranges are held of exactly the articles with an identity column
unfoldable pub AreRanged : Publication → List (ℕ × Holder) → Type 0
AreRanged publication held = (article : ℕ) → is_some (at_number held article) ≡ is_some (identity_column publication article)

-- no conflict has a number above the count of all that were added
unfoldable pub AreNumbered : ℕ → List ConflictRow → Type 0
AreNumbered count conflicts = AllByRecursion (λ (row : ConflictRow). row.number ≤ count) conflicts

-- What holds of a publication, tables and the entries of rows by generation.
pub record IsSound (publication : Publication) (s : SubscriberTables) (entries : set.FinSet entry_cmp) : Type 0 where
  pub valid : (resolvers : ℕ) × IsValid resolvers publication
  pub indexed : AreIndexed s.rows entries
  pub fitting : AreFitting publication s.rows
  pub made : AreMade s.site s.changes s.rows
  pub opened : KeepOpened s.gens.filling.last_closed s.rows
  pub within : s.received ≤ s.gens.filling.last_closed
  pub limited : s.gens.filling.last_closed ≤ number_limit
  pub ranged : AreRanged publication s.held
  pub numbered : AreNumbered s.conflict_count s.conflicts
