-- The records of what a site stores, and how the changes of a step change them.
use Rattle.std.specs.Prelude.{◌≡◌, ℕ, ◌<◌, ◌^◌, Bool, true, false, List, [], ◌∷◌, ◌++◌, map, Option, Some, None}
use Rattle.std.specs.Int.{w8, w16, w64, to_be_bytes}
use Rattle.std.specs.List.{AllByRecursion}
use Rattle.std.specs.List.Sorted.{IsStrictlySortedBy}
use Rattle.std.specs.Map.{keys_of}
use Rattle.std.specs.Ordering.{nat_cmp}
use Rattle.merge_types.specs.RowKeys.{key_cmp}
use Rattle.merge_table.specs.declared.edit.Edit.{Edit}
use Rattle.merge_table.specs.declared.edit.Edit.TheVariants.{Put}
use Rattle.merge_table.specs.Edits.{rows_after_all}
use Rattle.merge_gens.specs.Moves.{row_site_cmp}
use Rattle.merge_ident.specs.Grants.{with_grant, with_grants}
use Rattle.merge_ident.specs.declared.grants.Grant.{Grant}
use Rattle.merge_ident.specs.Holders.{Holder}
use Rattle.merge_batch.specs.declared.request.Outstanding.{Outstanding}
use Rattle.merge_batch.specs.declared.request.Outstanding.TheVariants.{Join, Upload, Ranges, Download}
use Rattle.merge_gens.specs.declared.closings.Closing.{Closing}
use Rattle.merge_types.specs.declared.identifiers.Moment.{Moment}
use Rattle.merge_conflict.specs.declared.row.ConflictRow.{ConflictRow}
use Rattle.merge_ports.specs.declared.entry.EntryKey.{EntryKey}
use Rattle.merge_ports.specs.Entries.{Map}
use Rattle.merge_keeper.specs.declared.stored.PublisherStored.{PublisherStored}
use Rattle.merge_keeper.specs.declared.stored.SubscriberStored.{SubscriberStored}
use Rattle.merge_keeper.specs.declared.stored.PublisherChanges.{PublisherChanges}
use Rattle.merge_keeper.specs.declared.stored.SubscriberChanges.{SubscriberChanges}
use Rattle.merge_record.specs.Tables.{IsRowKey, IsRowSite, IsGrantKey}
use Rattle.merge_keeper.specs.Encoded.{AllKeys, AllEditKeys, encoded_edits, puts_of}
use Rattle.merge_keeper.specs.Entries.{state_key, row_entry_key, mapping_key, closing_key, conflict_key, held_key, grant_key, site_key, publisher_row_value, subscriber_row_value, mapping_value, closing_value, conflict_value, held_value, grant_value, site_value, closing_pair, closing_of, conflict_pair, conflict_of, grant_key_in, was_received, row_entries, mapping_entries, closing_entries, conflict_entries, held_entries, range_entries, site_entries}

-- ---- the state records

-- what both kinds have: the site, changes, the last closed generation, the entries of the open one, conflicts, and the latest moment
abbrev pub front_bytes : ℕ → ℕ → ℕ → ℕ → ℕ → ℕ → List ℕ
front_bytes site changes closed filled conflicts latest =
    to_be_bytes w16 site ++ (to_be_bytes w64 changes ++ (to_be_bytes w64 closed ++ (to_be_bytes w64 filled ++ (to_be_bytes w64 conflicts ++ to_be_bytes w64 latest))))

abbrev pub publisher_state : PublisherStored → List ℕ
publisher_state t = 1 ∷ front_bytes 0 t.changes t.filling.last_closed t.filling.filled t.conflict_count t.latest.0

abbrev pub outstanding_number : Option (ℕ × Outstanding) → ℕ
outstanding_number None = 0
outstanding_number (Some p) = p.0

abbrev pub kind_of : Option (ℕ × Outstanding) → ℕ
kind_of None = 0
kind_of (Some (number, Join)) = 1
kind_of (Some (number, Upload from to)) = 2
kind_of (Some (number, Ranges)) = 3
kind_of (Some (number, Download from)) = 4

-- what the outstanding message asked from, and up to where it went
abbrev pub outstanding_from : Option (ℕ × Outstanding) → ℕ
outstanding_from (Some (number, Upload from to)) = from
outstanding_from (Some (number, Download from)) = from
outstanding_from _ = 0

abbrev pub outstanding_to : Option (ℕ × Outstanding) → ℕ
outstanding_to (Some (number, Upload from to)) = to
outstanding_to _ = 0

abbrev pub phase_number : Bool → ℕ
phase_number false = 1
phase_number true = 2

abbrev pub subscriber_state : SubscriberStored → List ℕ
subscriber_state t =
    2 ∷ (front_bytes t.site.0 t.changes t.filling.last_closed t.filling.filled t.conflict_count t.latest.0
    ++ (to_be_bytes w64 t.seq ++ (to_be_bytes w64 (outstanding_number t.outstanding) ++ (to_be_bytes w64 (outstanding_from t.outstanding) ++ (to_be_bytes w64 (outstanding_to t.outstanding) ++ (to_be_bytes w64 t.received ++ (to_be_bytes w64 t.watermark ++ (to_be_bytes w8 (kind_of t.outstanding) ++ to_be_bytes w8 (phase_number t.is_joined)))))))))

-- ---- all records

abbrev pub publisher_records : PublisherStored → Map
publisher_records t =
    (state_key, publisher_state t) ∷ (row_entries publisher_row_value t.rows ++ (mapping_entries t.mappings ++ (closing_entries t.closings ++ (conflict_entries t.conflicts ++ (range_entries t.held t.grants ++ site_entries t.sites)))))

abbrev pub subscriber_records : SubscriberStored → Map
subscriber_records t =
    (state_key, subscriber_state t) ∷ (row_entries subscriber_row_value t.rows ++ (closing_entries t.closings ++ (conflict_entries t.conflicts ++ held_entries t.held)))

-- ---- what a step's changes leave

abbrev pub closings_after : List Closing → List (Edit ℕ Moment) → List Closing
closings_after closings edits = map closing_of (rows_after_all nat_cmp (map closing_pair closings) edits)

abbrev pub conflicts_after : List ConflictRow → List (Edit ℕ ConflictRow) → List ConflictRow
conflicts_after conflicts edits = map conflict_of (rows_after_all nat_cmp (map conflict_pair conflicts) edits)

abbrev pub held_put : ℕ × Holder → Edit ℕ Holder
held_put p = Put p.0 p.1

abbrev pub held_after : List (ℕ × Holder) → List (ℕ × Holder) → List (ℕ × Holder)
held_after held puts = rows_after_all nat_cmp held (map held_put puts)

abbrev pub publisher_after : PublisherChanges → PublisherStored → PublisherStored
publisher_after c t = record {
  changes = c.changes;
  filling = c.filling;
  closings = closings_after t.closings c.closings;
  conflict_count = c.conflict_count;
  latest = c.latest;
  rows = rows_after_all key_cmp t.rows c.rows;
  mappings = rows_after_all row_site_cmp t.mappings c.mappings;
  conflicts = conflicts_after t.conflicts c.conflicts;
  grants = with_grants t.grants c.grants;
  held = held_after t.held c.held;
  sites = rows_after_all nat_cmp t.sites c.sites;
}

abbrev pub subscriber_after : SubscriberChanges → SubscriberStored → SubscriberStored
subscriber_after c t = record {
  site = t.site;
  changes = c.changes;
  filling = c.filling;
  closings = closings_after t.closings c.closings;
  conflict_count = c.conflict_count;
  latest = c.latest;
  seq = c.seq;
  outstanding = c.outstanding;
  received = c.received;
  watermark = c.watermark;
  is_joined = c.is_joined;
  rows = rows_after_all key_cmp t.rows c.rows;
  conflicts = conflicts_after t.conflicts c.conflicts;
  held = held_after t.held c.held;
}

-- ---- the edits of a step's commit: the state first, and then each list's

abbrev pub closing_edits : List (Edit ℕ Moment) → List (Edit EntryKey (List ℕ))
closing_edits edits = encoded_edits closing_key closing_value edits

abbrev pub conflict_edits : List (Edit ℕ ConflictRow) → List (Edit EntryKey (List ℕ))
conflict_edits edits = encoded_edits conflict_key conflict_value edits

abbrev pub held_edits : List (ℕ × Holder) → List (Edit EntryKey (List ℕ))
held_edits puts = encoded_edits held_key held_value (map held_put puts)

abbrev pub publisher_edits : PublisherChanges → PublisherStored → List (Edit EntryKey (List ℕ))
publisher_edits c t =
    Put state_key (publisher_state (publisher_after c t)) ∷ (encoded_edits row_entry_key publisher_row_value c.rows ++ (encoded_edits mapping_key mapping_value c.mappings ++ (closing_edits c.closings ++ (conflict_edits c.conflicts
    ++ ((held_edits c.held ++ puts_of grant_key grant_value c.grants) ++ encoded_edits site_key site_value c.sites)))))

abbrev pub subscriber_edits : SubscriberChanges → SubscriberStored → List (Edit EntryKey (List ℕ))
subscriber_edits c t =
    Put state_key (subscriber_state (subscriber_after c t)) ∷ (encoded_edits row_entry_key subscriber_row_value c.rows ++ (closing_edits c.closings ++ (conflict_edits c.conflicts ++ held_edits c.held)))

-- ---- what the law of the edits asks

abbrev pub HasGrantKey : Grant → Type 0
HasGrantKey grant = IsGrantKey (grant_key_in grant)

-- no grant has the new one's article, site and number
abbrev pub IsNew : Grant → List Grant → Type 0
IsNew new grants = AllByRecursion (λ grant. grant_key_in new ≡ grant_key_in grant → ⊥) grants

abbrev pub AreNew : List Grant → List Grant → Type 0
AreNew grants [] = Unit {0}
AreNew grants (new ∷ news) = IsNew new grants × AreNew (with_grant grants new) news

-- every key fits its field, and what is held stands by article
pub record IsPublisherKeyed (t : PublisherStored) : Type 0 where
  pub rows : AllKeys IsRowKey t.rows
  pub mappings : AllKeys IsRowSite t.mappings
  pub closings : AllKeys (λ n. n < 2 ^ 64) (map closing_pair t.closings)
  pub conflicts : AllKeys (λ n. n < 2 ^ 64) (map conflict_pair t.conflicts)
  pub grants : AllByRecursion HasGrantKey t.grants
  pub held : AllKeys (λ n. n < 2 ^ 8) t.held
  pub sorted : IsStrictlySortedBy nat_cmp (keys_of t.held)
  pub sites : AllKeys (λ n. n < 2 ^ 16) t.sites

-- the keys of changes fit too, a range was received of each article whose ranges are put, and grants are new
pub record FitPublisher (t : PublisherStored) (c : PublisherChanges) : Type 0 where
  pub rows : AllEditKeys IsRowKey c.rows
  pub mappings : AllEditKeys IsRowSite c.mappings
  pub closings : AllEditKeys (λ n. n < 2 ^ 64) c.closings
  pub conflicts : AllEditKeys (λ n. n < 2 ^ 64) c.conflicts
  pub grants : AllByRecursion HasGrantKey c.grants
  pub new : AreNew t.grants c.grants
  pub held : AllByRecursion (λ p. (p.0 < 2 ^ 8) × (was_received p ≡ true)) c.held
  pub sites : AllEditKeys (λ n. n < 2 ^ 16) c.sites

pub record IsSubscriberKeyed (t : SubscriberStored) : Type 0 where
  pub rows : AllKeys IsRowKey t.rows
  pub closings : AllKeys (λ n. n < 2 ^ 64) (map closing_pair t.closings)
  pub conflicts : AllKeys (λ n. n < 2 ^ 64) (map conflict_pair t.conflicts)
  pub held : AllKeys (λ n. n < 2 ^ 8) t.held
  pub sorted : IsStrictlySortedBy nat_cmp (keys_of t.held)

pub record FitSubscriber (c : SubscriberChanges) : Type 0 where
  pub rows : AllEditKeys IsRowKey c.rows
  pub closings : AllEditKeys (λ n. n < 2 ^ 64) c.closings
  pub conflicts : AllEditKeys (λ n. n < 2 ^ 64) c.conflicts
  pub held : AllByRecursion (λ p. (p.0 < 2 ^ 8) × (was_received p ≡ true)) c.held
