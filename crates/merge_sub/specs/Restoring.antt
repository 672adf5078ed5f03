-- Which tables a subscriber can be restored with.
use Rattle.std.specs.List.{AllByRecursion, flat_map}
use Rattle.std.specs.List.Sorted.{IsStrictlySortedBy}
use Rattle.std.specs.Map.{keys_of}
use Rattle.std.specs.Prelude.{◌≡◌, ◌≤◌, List, map, true}
use Rattle.merge_types.specs.Limits.{number_limit}
use Rattle.merge_types.specs.RowKeys.{key_cmp}
use Rattle.merge_types.specs.declared.row_key.RowKey.{RowKey}
use Rattle.merge_table.specs.declared.edit.Edit.{Edit}
use Rattle.merge_lineage.specs.Lineage.{number_of}
use Rattle.merge_units.specs.declared.site_row.SubscriberRow.{SubscriberRow}
use Rattle.merge_gens.specs.Book as gens
use Rattle.merge_gens.specs.declared.index.IndexEntry.{IndexEntry}
use Rattle.merge_conflict.specs.Rising.{AreRising}
use Rattle.merge_conflict.specs.declared.row.ConflictRow.{ConflictRow}
use Rattle.merge_schema.specs.declared.publication.Publication.{Publication}
use Rattle.merge_batch.specs.Articles.{fits_article}
use Rattle.merge_model.specs.Publisher.{new_holders}
use Rattle.merge_model.specs.Tables.{SubscriberTables}
use Rattle.merge_sub.specs.Held.{HaveOpened}
use Rattle.merge_sub.specs.Local.{put_entry}
use Rattle.merge_sub.specs.declared.starting.Kept.{Kept}

-- the tables that are kept
abbrev pub tables_in : Kept → SubscriberTables
tables_in k = record {
  site = k.site;
  changes = k.state.changes;
  gens = record { filling = k.filling; closings = k.closings };
  conflict_count = k.state.conflict_count;
  latest = k.state.latest;
  seq = k.state.seq;
  outstanding = k.state.outstanding;
  received = k.state.received;
  watermark = k.state.watermark;
  is_joined = k.state.is_joined;
  rows = k.rows;
  conflicts = k.conflicts;
  held = k.held;
}

-- a row fits its article, knows no change of the site that was not made, and keeps generations that have been open
pub record RowCanStand (publication : Publication) (s : SubscriberTables) (row : RowKey × SubscriberRow) : Type 0 where
  pub fits : fits_article publication row.0.article row.1.version.body ≡ true
  pub made : number_of row.1.version.lineage s.site.0 ≤ s.changes
  pub opened : HaveOpened s.gens.filling.last_closed row.1.generations

-- What every subscriber keeps of its tables: rows ascend by article and row, and each can stand; the open generation is not full,
-- and the closed ones that are kept ascend; what the publisher has taken has closed; ranges are held of exactly the articles with
-- an identity column; and conflicts have numbers that were given, in order.
pub record CanStand (publication : Publication) (s : SubscriberTables) : Type 0 where
  pub ascending : IsStrictlySortedBy key_cmp (keys_of s.rows)
  pub rows : AllByRecursion (RowCanStand publication s) s.rows
  pub gens : gens.IsSound s.gens
  pub within : s.received ≤ s.gens.filling.last_closed
  pub limited : s.gens.filling.last_closed ≤ number_limit
  pub ranged : keys_of s.held ≡ keys_of (new_holders publication)
  pub rising : AreRising s.conflicts
  pub numbered : AllByRecursion (λ (row : ConflictRow). row.number ≤ s.conflict_count) s.conflicts

-- the changes of an empty index by which rows are found by the generations that they keep
abbrev pub row_puts : RowKey × SubscriberRow → List (Edit IndexEntry (Unit {0}))
row_puts row = map (put_entry row.0) row.1.generations

abbrev pub rows_puts : List (RowKey × SubscriberRow) → List (Edit IndexEntry (Unit {0}))
rows_puts rows = flat_map row_puts rows
