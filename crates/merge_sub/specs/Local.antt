-- A change of a row at a subscriber.
use Rattle.std.specs.Prelude.{◌≡◌, ◌+◌, ◌++◌, ℕ, List, Option, Some, map, true}
use Rattle.merge_types.specs.declared.changes.Change.{Change}
use Rattle.merge_types.specs.declared.identifiers.Moment.{Moment}
use Rattle.merge_types.specs.declared.row_key.RowKey.{RowKey}
use Rattle.merge_types.specs.declared.values.Value.{Value}
use Rattle.merge_table.specs.declared.edit.Edit.{Edit}
use Rattle.merge_table.specs.declared.edit.Edit.TheVariants.{Put, Take}
use Rattle.merge_units.specs.declared.site_row.SubscriberRow.{SubscriberRow}
use Rattle.merge_gens.specs.Book.{book_after_entries}
use Rattle.merge_gens.specs.declared.index.IndexEntry.{IndexEntry}
use Rattle.merge_ident.specs.Holders.{Holder}
use Rattle.merge_schema.specs.declared.publication.Publication.{Publication}
use Rattle.merge_batch.specs.Articles.{fits_article}
use Rattle.merge_batch.specs.LocalChanges.{key_of, version_after}
use Rattle.merge_change.specs.Allowed.{HasIdentity}
use Rattle.merge_model.specs.Tables.Keys.{put_row}
use Rattle.merge_model.specs.Subscriber.{generations_at, subscriber_last_closed, subscriber_next_dot, subscriber_version_at, with_open}
use Rattle.merge_model.specs.Tables.{SubscriberTables}
use Rattle.merge_sub.specs.Held.{entry_behind}

-- the key of the row that a change of the site is about
abbrev pub changed_key : SubscriberTables → Change → RowKey
changed_key s change = key_of (subscriber_next_dot s) change

-- the tables after a change of one row
abbrev pub with_change : RowKey → SubscriberRow → List (ℕ × Holder) → Moment → SubscriberTables → SubscriberTables
with_change key row held latest s = record s {
  changes = s.changes + 1;
  latest = latest;
  rows = put_row s.rows key row;
  gens = book_after_entries s.gens 1 (record { 0 = s.changes + 1 });
  held = held;
}

-- a row loses a generation, and gains one
abbrev pub take_entry : RowKey → ℕ → Edit IndexEntry (Unit {0})
take_entry key generation = Take (entry_behind generation key)

abbrev pub put_entry : RowKey → ℕ → Edit IndexEntry (Unit {0})
put_entry key generation = Put (entry_behind generation key) tt

-- the changes of an index by which a row keeps other generations
abbrev pub reindexing : RowKey → List ℕ → List ℕ → List (Edit IndexEntry (Unit {0}))
reindexing key before generations = map (take_entry key) before ++ map (put_entry key) generations

-- the row after a change, and the changes of the index for it
pub record IsChanged (publication : Publication) (s : SubscriberTables) (change : Change) (identity : Value) (key : RowKey) (row : SubscriberRow) (edits : List (Edit IndexEntry (Unit {0}))) : Type 0 where
  pub at : key ≡ changed_key s change
  pub version : version_after publication (subscriber_next_dot s) identity change (subscriber_version_at s (changed_key s change)) ≡ Some row.version
  pub generations : row.generations ≡ with_open (subscriber_last_closed s + 1) (generations_at s (changed_key s change))
  pub index : edits ≡ reindexing (changed_key s change) (generations_at s (changed_key s change)) row.generations
  pub fits : HasIdentity publication change identity → fits_article publication key.article row.version.body ≡ true
