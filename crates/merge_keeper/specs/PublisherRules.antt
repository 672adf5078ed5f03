-- Which tables of the publisher keep the rules of a start.
use Rattle.std.specs.Prelude.{◌≡◌, ℕ, ◌^◌, ◌<◌, ◌==◌, true, if◌then◌else◌, List, [], ◌∷◌, length, map, filter, filter_map, Option, Some, None}
use Rattle.std.specs.List.{AllByRecursion}
use Rattle.std.specs.Option.{option_map}
use Rattle.merge_types.specs.declared.row_key.RowKey.{RowKey}
use Rattle.merge_table.specs.Edits.{rows_after_all}
use Rattle.merge_units.specs.declared.site_row.PublisherRow.{PublisherRow}
use Rattle.merge_gens.specs.declared.closings.Closing.{Closing}
use Rattle.merge_gens.specs.declared.moves.Mapping.{Mapping}
use Rattle.merge_gens.specs.declared.moves.RowSite.{RowSite}
use Rattle.merge_conflict.specs.declared.row.ConflictRow.{ConflictRow}
use Rattle.merge_ident.specs.Grants.{AreGrants, AreInOrder}
use Rattle.merge_ident.specs.Holders.{Holder}
use Rattle.merge_ident.specs.declared.grants.Grant.{Grant}
use Rattle.merge_ident.specs.declared.grants.Range.{Range}
use Rattle.merge_schema.specs.declared.publication.Publication.{Publication}
use Rattle.merge_ports.specs.Entries.{entry_cmp}
use Rattle.merge_ports.specs.declared.entry.EntryKey.{EntryKey}
use Rattle.merge_record.specs.Rows.{IsPublisherRow}
use Rattle.merge_record.specs.Tables.{IsHeld, IsMapping, IsRange, IsRowKey, IsRowSite, IsSiteState}
use Rattle.merge_keeper.specs.Encoded.{puts_of}
use Rattle.merge_keeper.specs.Entries.{grant_key, held_key, held_ranges, was_received}
use Rattle.merge_keeper.specs.PublisherStart.{closing_is_sound, is_sound, move_is_sound, row_is_sound, site_is_sound, state_is_sound, tables_with, with_record}
use Rattle.merge_keeper.specs.Start.{conflict_is_sound, holder_of, identity_at, KeepOneByOne}
use Rattle.merge_keeper.specs.States.{IsConflict, IsFront}
use Rattle.merge_keeper.specs.Stored.{HasGrantKey}
use Rattle.merge_keeper.specs.SubscriberRules.{held_with, value_of, Numbered}
use Rattle.merge_keeper.specs.declared.publisher_record.PublisherRecord.{PublisherRecord}
use Rattle.merge_keeper.specs.declared.publisher_record.PublisherRecord.TheVariants.{Held, Granted}
use Rattle.merge_keeper.specs.declared.states.Front.{Front}
use Rattle.merge_keeper.specs.declared.stored.PublisherStored.{PublisherStored}

-- the state record of tables
abbrev pub state_of : PublisherStored → Front
state_of t = record { site = 0; changes = t.changes; last_closed = t.filling.last_closed; filled = t.filling.filled; conflicts = t.conflict_count; latest = t.latest.0 }

-- the tables with the state alone, and with each list up to some place
abbrev pub with_rows : PublisherStored → List (ℕ × Holder) → List (RowKey × PublisherRow) → PublisherStored
with_rows t held rows = record (tables_with held (state_of t)) { rows = rows }

abbrev pub with_mappings : PublisherStored → List (ℕ × Holder) → List (RowSite × Mapping) → PublisherStored
with_mappings t held mappings = record (with_rows t held t.rows) { mappings = mappings }

abbrev pub with_closings : PublisherStored → List (ℕ × Holder) → List Closing → PublisherStored
with_closings t held closings = record (with_mappings t held t.mappings) { closings = closings }

abbrev pub with_conflicts : PublisherStored → List (ℕ × Holder) → List ConflictRow → PublisherStored
with_conflicts t held conflicts = record (with_closings t held t.closings) { conflicts = conflicts }

abbrev pub with_records : Publication → PublisherStored → List PublisherRecord → PublisherStored
with_records publication t [] = t
with_records publication t (r ∷ rs) = with_records publication (with_record publication t r) rs

abbrev pub with_ranges : Publication → PublisherStored → List (ℕ × Holder) → List PublisherRecord → PublisherStored
with_ranges publication t held ranges = with_records publication (with_conflicts t held t.conflicts) ranges

-- the records of what is held and of grants, in the order of their keys: what is held of an article stands before the article's grants, and these stand by site and number
abbrev pub held_pair : ℕ × Holder → EntryKey × PublisherRecord
held_pair p = (held_key p.0, Held p.0 (held_ranges p.1))

abbrev pub range_pairs : List (ℕ × Holder) → List Grant → List (EntryKey × PublisherRecord)
range_pairs held grants = rows_after_all entry_cmp (map held_pair (filter was_received held)) (puts_of grant_key Granted grants)

abbrev pub range_records : List (ℕ × Holder) → List Grant → List PublisherRecord
range_records held grants = map (λ p. p.1) (range_pairs held grants)

-- the publisher's own ranges among the records
abbrev pub own_range : PublisherRecord → Option (ℕ × Range)
own_range (Granted grant) = if grant.site.0 == 0 then Some (grant.article, grant.range) else None
own_range r = None

abbrev pub own_ranges : List PublisherRecord → List (ℕ × Range)
own_ranges rs = filter_map own_range rs

-- the record is one of the grammar
abbrev pub IsRangeRecord : PublisherRecord → Type 0
IsRangeRecord (Held article held) = (article < 2 ^ 8) × IsHeld held
IsRangeRecord (Granted grant) = HasGrantKey grant × IsRange grant.range
IsRangeRecord r = Unit {0}

-- What every publisher keeps that was started, where held is what it holds before any range was received: each record is one of the grammar and
-- keeps the rules behind those before it, all conflicts are there, the grants are those of a book and stand by article and begin, and nothing else is held than was received or
-- there from the beginning.
pub record KeepRules (publication : Publication) (held : List (ℕ × Holder)) (t : PublisherStored) : Type 0 where
  pub fits : IsFront (state_of t)
  pub state : state_is_sound t.conflict_count (state_of t) ≡ true
  pub rows : KeepOneByOne (λ front row. IsRowKey row.0 × IsPublisherRow row.1 × (row_is_sound publication (with_rows t held front) row.0 row.1 ≡ true)) [] t.rows
  pub mappings : KeepOneByOne (λ front move. IsRowSite move.0 × IsMapping move.1 × (move_is_sound publication (with_mappings t held front) move.0 move.1 ≡ true)) [] t.mappings
  pub closings : AllByRecursion (λ closing. (closing.generation < 2 ^ 64) × (closing.moment.0 < 2 ^ 64) × (closing_is_sound t.filling.last_closed closing ≡ true)) t.closings
  pub conflicts : KeepOneByOne (λ front row. (row.number < 2 ^ 64) × IsConflict (value_of row) × (conflict_is_sound publication (length front) t.conflict_count row ≡ true)) [] t.conflicts
  pub numbered : Numbered t.conflict_count 0 t.conflicts
  pub ranges : KeepOneByOne (λ front r. IsRangeRecord r × (is_sound publication (own_ranges (range_records t.held t.grants)) (with_ranges publication t held front) r ≡ true)) [] (range_records t.held t.grants)
  pub received : AllByRecursion (λ p. option_map (λ identity. holder_of identity (held_ranges p.1)) (identity_at publication p.0) ≡ Some p.1) (filter was_received t.held)
  pub all_held : held_with held (filter was_received t.held) ≡ t.held
  pub in_order : AreInOrder t.grants
  pub granted : AreGrants t.grants
  pub keyed : AllByRecursion HasGrantKey t.grants
  pub sites : AllByRecursion (λ site. (site.0 < 2 ^ 16) × IsSiteState site.1 × (site_is_sound publication t.filling.last_closed site.0 site.1 ≡ true)) t.sites
