-- The entries of a site's records: the key and the value of each.
use Rattle.std.specs.Prelude.{ℕ, ℤ, pos, Bool, nat_lt, List, [], ◌∷◌, ◌++◌, map, filter}
use Rattle.std.specs.Int.{w8, w16, w64, w128, to_be_bytes}
use Rattle.merge_types.specs.declared.identifiers.Moment.{Moment}
use Rattle.merge_types.specs.declared.row_key.RowKey.{RowKey}
use Rattle.merge_table.specs.Edits.{rows_after_all}
use Rattle.merge_units.specs.declared.site_row.PublisherRow.{PublisherRow}
use Rattle.merge_units.specs.declared.site_row.SubscriberRow.{SubscriberRow}
use Rattle.merge_gens.specs.declared.closings.Closing.{Closing}
use Rattle.merge_gens.specs.declared.moves.Mapping.{Mapping}
use Rattle.merge_gens.specs.declared.moves.RowSite.{RowSite}
use Rattle.merge_gens.specs.declared.sites.SiteState.{SiteState}
use Rattle.merge_ident.specs.Holders.{Holder, Received, range_of, next_of}
use Rattle.merge_ident.specs.declared.grants.Grant.{Grant}
use Rattle.merge_conflict.specs.Kinds.{number_of_kind}
use Rattle.merge_conflict.specs.declared.row.ConflictRow.{ConflictRow}
use Rattle.merge_conflict.specs.declared.row.Verdict.{Verdict}
use Rattle.merge_conflict.specs.declared.row.Verdict.TheVariants.{Publisher, Subscriber, Custom, Purged, Discarded}
use Rattle.merge_ports.specs.declared.entry.EntryKey.{EntryKey}
use Rattle.merge_ports.specs.Entries.{Map, entry_cmp}
use Rattle.merge_record.specs.Rows.{publisher_row_bytes, subscriber_row_bytes}
use Rattle.merge_record.specs.Versions.{version_bytes}
use Rattle.merge_record.specs.Tables.{row_key_bytes, row_site_bytes, mapping_bytes, grant_key_bytes, range_bytes, held_bytes, site_state_bytes}
use Rattle.merge_record.specs.declared.ranges.GrantKey.{GrantKey}
use Rattle.merge_record.specs.declared.ranges.HeldRanges.{HeldRanges}
use Rattle.merge_keeper.specs.Encoded.{encoded_entries, puts_of}

abbrev pub in_table : ℕ → List ℕ → EntryKey
in_table table key = record { table = table; key = key }

-- ---- keys: 1 the state, 2 rows, 3 mappings, 4 generations, 5 conflicts, 6 ranges, 7 subscriptions

abbrev pub state_key : EntryKey
state_key = in_table 1 []

abbrev pub row_entry_key : RowKey → EntryKey
row_entry_key key = in_table 2 (row_key_bytes key)

abbrev pub mapping_key : RowSite → EntryKey
mapping_key place = in_table 3 (row_site_bytes place)

abbrev pub closing_key : ℕ → EntryKey
closing_key generation = in_table 4 (to_be_bytes w64 generation)

abbrev pub conflict_key : ℕ → EntryKey
conflict_key number = in_table 5 (to_be_bytes w64 number)

-- what a site holds stands under the article alone, a grant under article, site and number
abbrev pub held_key : ℕ → EntryKey
held_key article = in_table 6 (to_be_bytes w8 article)

abbrev pub grant_key_in : Grant → GrantKey
grant_key_in grant = record { article = grant.article; site = grant.site; number = grant.number }

abbrev pub grant_key : Grant → EntryKey
grant_key grant = in_table 6 (grant_key_bytes (grant_key_in grant))

abbrev pub site_key : ℕ → EntryKey
site_key site = in_table 7 (to_be_bytes w16 site)

-- ---- values, which may need the key

abbrev pub publisher_row_value : RowKey → PublisherRow → List ℕ
publisher_row_value key row = publisher_row_bytes row

abbrev pub subscriber_row_value : RowKey → SubscriberRow → List ℕ
subscriber_row_value key row = subscriber_row_bytes row

abbrev pub mapping_value : RowSite → Mapping → List ℕ
mapping_value place mapping = mapping_bytes mapping

abbrev pub closing_value : ℕ → Moment → List ℕ
closing_value generation moment = to_be_bytes w64 moment.0

abbrev pub verdict_number : Verdict → ℕ
verdict_number Publisher = 1
verdict_number Subscriber = 2
verdict_number Custom = 3
verdict_number Purged = 4
verdict_number Discarded = 5

abbrev pub verdict_bytes : Verdict → List ℕ
verdict_bytes verdict = to_be_bytes w8 (verdict_number verdict)

-- article, row, kind, the site whose version lost, the verdict and the moment; and then the version
abbrev pub conflict_bytes : ConflictRow → List ℕ
conflict_bytes row =
    (to_be_bytes w8 row.article ++ (to_be_bytes w128 row.row.0 ++ (to_be_bytes w8 (number_of_kind row.kind) ++ (to_be_bytes w16 row.from.0 ++ (verdict_bytes row.verdict ++ to_be_bytes w64 row.moment.0)))))
    ++ version_bytes row.losing

abbrev pub conflict_value : ℕ → ConflictRow → List ℕ
conflict_value number row = conflict_bytes row

-- the next value of the first range, and 0 where none is held
abbrev pub next_held : List Received → ℤ
next_held [] = pos 0
next_held (first ∷ rest) = next_of first

abbrev pub held_ranges : Holder → HeldRanges
held_ranges holder = record { have = holder.have; last_end = holder.last_end; ranges = map range_of holder.held; next = next_held holder.held }

abbrev pub held_value : ℕ → Holder → List ℕ
held_value article holder = held_bytes (held_ranges holder)

abbrev pub grant_value : Grant → List ℕ
grant_value grant = range_bytes grant.range

abbrev pub site_value : ℕ → SiteState → List ℕ
site_value site state = site_state_bytes state

-- ---- lists

abbrev pub closing_pair : Closing → ℕ × Moment
closing_pair closing = (closing.generation, closing.moment)

abbrev pub closing_of : ℕ × Moment → Closing
closing_of p = record { generation = p.0; moment = p.1 }

abbrev pub conflict_pair : ConflictRow → ℕ × ConflictRow
conflict_pair row = (row.number, row)

abbrev pub conflict_of : ℕ × ConflictRow → ConflictRow
conflict_of p = record p.1 { number = p.0 }

-- of an article of which no range was received nothing is stored
abbrev pub was_received : ℕ × Holder → Bool
was_received p = nat_lt 0 p.1.have

abbrev pub row_entries : {R : Type 0} → (RowKey → R → List ℕ) → List (RowKey × R) → Map
row_entries value rows = encoded_entries row_entry_key value rows

abbrev pub mapping_entries : List (RowSite × Mapping) → Map
mapping_entries mappings = encoded_entries mapping_key mapping_value mappings

abbrev pub closing_entries : List Closing → Map
closing_entries closings = encoded_entries closing_key closing_value (map closing_pair closings)

abbrev pub conflict_entries : List ConflictRow → Map
conflict_entries conflicts = encoded_entries conflict_key conflict_value (map conflict_pair conflicts)

abbrev pub held_entries : List (ℕ × Holder) → Map
held_entries held = encoded_entries held_key held_value (filter was_received held)

-- the entries of what is held, and those of all grants, which stand in the order of their keys and not in that of the list
abbrev pub range_entries : List (ℕ × Holder) → List Grant → Map
range_entries held grants = rows_after_all entry_cmp (held_entries held) (puts_of grant_key grant_value grants)

abbrev pub site_entries : List (ℕ × SiteState) → Map
site_entries sites = encoded_entries site_key site_value sites
