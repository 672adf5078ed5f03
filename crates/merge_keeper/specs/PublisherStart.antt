-- What a store of the publisher loads to, and which tables keep the rules.
use Rattle.std.specs.Prelude.{◌≡◌, ℕ, zero, suc, ◌+◌, ◌^◌, ◌<◌, Bool, true, false, if◌then◌else◌, nat_lt, nat_le, ◌==◌, ◌&&◌, ◌||◌, not, List, [], ◌∷◌, ◌++◌, length, count_by, Option, Some, None, Result, Ok, Err, is_some}
use Rattle.std.specs.Int.{w8, w16, w64}
use Rattle.std.specs.List.{list_any}
use Rattle.std.specs.Option.{option_map}
use Rattle.merge_types.specs.Limits.{entry_limit}
use Rattle.merge_types.specs.declared.row_key.RowKey.{RowKey}
use Rattle.merge_units.specs.declared.site_row.PublisherRow.{PublisherRow}
use Rattle.merge_gens.specs.declared.closings.Closing.{Closing}
use Rattle.merge_gens.specs.declared.moves.Mapping.{Mapping}
use Rattle.merge_gens.specs.declared.moves.RowSite.{RowSite}
use Rattle.merge_gens.specs.declared.sites.SiteState.{SiteState}
use Rattle.merge_ident.specs.Holders.{Holder, AreKept}
use Rattle.merge_ident.specs.Stored.{can_follow}
use Rattle.merge_ident.specs.declared.grants.Grant.{Grant}
use Rattle.merge_ident.specs.declared.grants.Range.{Range}
use Rattle.merge_schema.specs.declared.publication.Publication.{Publication}
use Rattle.merge_schema.specs.Places.{is_subscription}
use Rattle.merge_batch.specs.Articles.{has_article}
use Rattle.merge_batch.specs.Lineages.{is_site}
use Rattle.merge_ports.specs.declared.entry.EntryKey.{EntryKey}
use Rattle.merge_ports.specs.Entries.{Map}
use Rattle.merge_record.specs.Reading.{number_at, whole_of}
use Rattle.merge_record.specs.Rows.{publisher_row_at}
use Rattle.merge_record.specs.Tables.{row_key_at, row_site_at, mapping_at, grant_key_at, range_at, held_at, site_state_at}
use Rattle.merge_record.specs.declared.ranges.GrantKey.{GrantKey}
use Rattle.merge_record.specs.declared.ranges.HeldRanges.{HeldRanges}
use Rattle.merge_keeper.specs.declared.publisher_record.PublisherRecord.{PublisherRecord}
use Rattle.merge_keeper.specs.declared.publisher_record.PublisherRecord.TheVariants.{State, Row, Mapped, Closed, Lost, Held, Granted, Subscribed}
use Rattle.merge_keeper.specs.declared.counts.Counts.{Counts}
use Rattle.merge_keeper.specs.Counts.{count_at}
use Rattle.merge_keeper.specs.Grants.{grants_in, IsIndex}
use Rattle.merge_keeper.specs.declared.publisher_start.PublisherSoFar.{PublisherSoFar}
use Rattle.merge_keeper.specs.declared.states.Front.{Front}
use Rattle.merge_keeper.specs.declared.states.PublisherState.{PublisherState}
use Rattle.merge_keeper.specs.declared.stored.PublisherStored.{PublisherStored}
use Rattle.merge_keeper.specs.States.{publisher_state_at}
use Rattle.merge_keeper.specs.Start.{Loading, Loaded, loaded_behind, pair_reading, version_is_sound, row_was_made, is_counter, identity_at, are_kept, insert_by_begin, conflict_reading, conflict_is_sound, with_held, own_count, own_grants, last_own, last_conflict, holds_last}

-- ---- rule 1: the readings of the seven tables

abbrev pub state_record : PublisherState → PublisherRecord
state_record state = State state.0

abbrev pub row_record : RowKey × PublisherRow → PublisherRecord
row_record p = Row p.0 p.1

abbrev pub mapping_record : RowSite × Mapping → PublisherRecord
mapping_record p = Mapped p.0 p.1

abbrev pub closing_record : ℕ × ℕ → PublisherRecord
closing_record p = Closed (record { generation = p.0; moment = record { 0 = p.1 } })

abbrev pub held_record : ℕ × HeldRanges → PublisherRecord
held_record p = Held p.0 p.1

abbrev pub grant_record : GrantKey × Range → PublisherRecord
grant_record p = Granted (record { article = p.0.article; site = p.0.site; number = p.0.number; range = p.1 })

abbrev pub site_record : ℕ × SiteState → PublisherRecord
site_record p = Subscribed p.0 p.1

-- the state has the empty key
abbrev pub state_reading : List ℕ → List ℕ → Option PublisherRecord
state_reading [] value = option_map state_record (whole_of (publisher_state_at value))
state_reading (b ∷ key) value = None

-- a key of one byte is an article's
abbrev pub range_reading : List ℕ → List ℕ → Option PublisherRecord
range_reading (article ∷ []) value = option_map held_record (pair_reading (number_at w8) held_at (article ∷ []) value)
range_reading key value = option_map grant_record (pair_reading grant_key_at range_at key value)

unfoldable pub reading_in : ℕ → List ℕ → List ℕ → Option PublisherRecord
reading_in (suc zero) key value = state_reading key value
reading_in (suc (suc zero)) key value = option_map row_record (pair_reading row_key_at publisher_row_at key value)
reading_in (suc (suc (suc zero))) key value = option_map mapping_record (pair_reading row_site_at mapping_at key value)
reading_in (suc (suc (suc (suc zero)))) key value = option_map closing_record (pair_reading (number_at w64) (number_at w64) key value)
reading_in (suc (suc (suc (suc (suc zero))))) key value = option_map Lost (conflict_reading key value)
reading_in (suc (suc (suc (suc (suc (suc zero)))))) key value = range_reading key value
reading_in (suc (suc (suc (suc (suc (suc (suc zero))))))) key value = option_map site_record (pair_reading (number_at w16) site_state_at key value)
reading_in table key value = None

abbrev pub reading_of : EntryKey × List ℕ → Option PublisherRecord
reading_of e = reading_in e.0.table e.0.key e.1

-- ---- rules 2 to 14, of one record where the tables hold those before it

-- the state names the publisher, its counters are small, the open generation is not full, and the numbers of conflicts do not end below their counter
unfoldable pub state_is_sound : ℕ → Front → Bool
state_is_sound last state = (state.site == 0) && is_counter state.changes && is_counter state.last_closed && is_counter state.conflicts && nat_lt state.filled entry_limit && nat_le state.conflicts last

-- how many entries stand in a generation
abbrev pub entries_in : PublisherStored → ℕ → ℕ
entries_in t generation = count_by (λ (row : RowKey × PublisherRow). generation == row.1.changed) t.rows + count_by (λ (move : RowSite × Mapping). generation == move.1.generation) t.mappings

-- the index counts them
abbrev pub IsCounted : Counts → PublisherStored → Type 0
IsCounted counts t = (generation : ℕ) → count_at counts generation ≡ entries_in t generation

-- how many may stand in it: 1,000 in a closed one, and in the open one as many as it has entries
abbrev pub limit_of : PublisherStored → ℕ → ℕ
limit_of t generation = if nat_le generation t.filling.last_closed then entry_limit else t.filling.filled

-- the generation is at most the open one, and has room for an entry more
abbrev pub has_space : PublisherStored → ℕ → Bool
has_space t generation = nat_le generation (t.filling.last_closed + 1) && nat_lt (entries_in t generation) (limit_of t generation)

unfoldable pub row_is_sound : Publication → PublisherStored → RowKey → PublisherRow → Bool
row_is_sound publication t key row = version_is_sound publication key.article row.version && row_was_made 0 t.changes key row.version && has_space t row.changed

unfoldable pub move_is_sound : Publication → PublisherStored → RowSite → Mapping → Bool
move_is_sound publication t place move = has_article publication place.key.article && is_subscription publication place.site && has_space t move.generation

unfoldable pub closing_is_sound : ℕ → Closing → Bool
closing_is_sound last_closed closing = nat_lt 0 closing.generation && nat_le closing.generation last_closed

-- the publisher's own record has the number of its grants, and holds none of them or the last
unfoldable pub own_is_sound : Publication → List (ℕ × Range) → ℕ → HeldRanges → Bool
own_is_sound publication owns article held =
    is_some (identity_at publication article) && are_kept held.ranges held.next && nat_lt 0 held.have && (held.have == own_count article owns) && holds_last (last_own article owns) held.ranges

-- whether ranges of an article are held
abbrev pub holds : ℕ → ℕ × Holder → Bool
holds article p = (p.0 == article) && nat_lt 0 p.1.have

abbrev pub is_held : List (ℕ × Holder) → ℕ → Bool
is_held held article = list_any (holds article) held

unfoldable pub grant_is_sound : Publication → PublisherStored → Grant → Bool
grant_is_sound publication t grant =
    is_some (identity_at publication grant.article) && is_site publication grant.site.0 && can_follow t.grants grant && (not (grant.site.0 == 0) || is_held t.held grant.article)

unfoldable pub site_is_sound : Publication → ℕ → ℕ → SiteState → Bool
site_is_sound publication last_closed site state =
    is_subscription publication site && is_counter state.joined_at && is_counter state.received && is_counter state.received_number && is_counter state.seen && nat_le state.watermark last_closed

abbrev pub is_sound : Publication → List (ℕ × Range) → PublisherStored → PublisherRecord → Bool
is_sound publication owns t (State state) = false
is_sound publication owns t (Row key row) = row_is_sound publication t key row
is_sound publication owns t (Mapped place move) = move_is_sound publication t place move
is_sound publication owns t (Closed closing) = closing_is_sound t.filling.last_closed closing
is_sound publication owns t (Lost row) = conflict_is_sound publication (length t.conflicts) t.conflict_count row
is_sound publication owns t (Held article held) = own_is_sound publication owns article held
is_sound publication owns t (Granted grant) = grant_is_sound publication t grant
is_sound publication owns t (Subscribed site state) = site_is_sound publication t.filling.last_closed site state

-- the tables with one record more
abbrev pub with_record : Publication → PublisherStored → PublisherRecord → PublisherStored
with_record publication t (State state) = t
with_record publication t (Row key row) = record t { rows = t.rows ++ (key, row) ∷ [] }
with_record publication t (Mapped place move) = record t { mappings = t.mappings ++ (place, move) ∷ [] }
with_record publication t (Closed closing) = record t { closings = t.closings ++ closing ∷ [] }
with_record publication t (Lost row) = record t { conflicts = t.conflicts ++ row ∷ [] }
with_record publication t (Held article held) = record t { held = with_held publication t.held article held }
with_record publication t (Granted grant) = record t { grants = insert_by_begin t.grants grant }
with_record publication t (Subscribed site state) = record t { sites = t.sites ++ (site, state) ∷ [] }

-- ---- what a start that goes through the records keeps of them

-- the tables so far: their grants are those of the index
abbrev pub tables_of : PublisherSoFar → PublisherStored
tables_of so_far = record so_far.tables { grants = grants_in so_far.grants }

-- what adding a record asks of it: its ranges can be held, and its grant can follow
abbrev pub CanAdd : PublisherStored → PublisherRecord → Type 0
CanAdd t (Held article held) = AreKept held.ranges held.next
CanAdd t (Granted grant) = can_follow t.grants grant ≡ true
CanAdd t r = Unit {0}

-- a record that an index takes up beside the tables
abbrev pub is_indexed : PublisherRecord → Bool
is_indexed (Row key row) = true
is_indexed (Mapped place move) = true
is_indexed (Granted grant) = true
is_indexed r = false

-- the indexes are those of the entries and the grants so far, and what the state's rules gave
pub record GoesOn (so_far : PublisherSoFar) : Type 0 where
  pub counted : IsCounted so_far.counts so_far.tables
  pub granted : IsIndex so_far.grants
  pub small : so_far.tables.changes < 2 ^ 62

-- ---- the pass

abbrev pub loading_of_publisher : Publication → List (ℕ × Range) → Loading PublisherStored PublisherRecord
loading_of_publisher publication owns = record { reading = reading_of; is_sound = is_sound publication owns; with_record = with_record publication }

-- the tables of a state alone, where these ranges were held before any was received
abbrev pub tables_with : List (ℕ × Holder) → Front → PublisherStored
tables_with held state = record {
  changes = state.changes;
  filling = record { last_closed = state.last_closed; filled = state.filled };
  closings = [];
  conflict_count = state.conflicts;
  latest = record { 0 = state.latest };
  rows = [];
  mappings = [];
  conflicts = [];
  grants = [];
  held = held;
  sites = [];
}

abbrev pub no_state : Front
no_state = record { site = 0; changes = 0; last_closed = 0; filled = 0; conflicts = 0; latest = 0 }

-- the state comes first; where it is missing or breaks a rule, the first entry is named
abbrev pub publisher_first_state : ℕ → EntryKey → Option PublisherRecord → Result Front EntryKey
publisher_first_state last key (Some (State state)) = if state_is_sound last state then Ok state else Err key
publisher_first_state last key r = Err key

abbrev pub go_from : Publication → List (ℕ × Range) → List (ℕ × Holder) → Map → Result Front EntryKey → Loaded PublisherStored
go_from publication owns held es (Ok state) = loaded_behind (loading_of_publisher publication owns) (tables_with held state) es
go_from publication owns held es (Err key) = Err key

-- the store of no entries is that of a publisher that has committed nothing
abbrev pub publisher_loaded : Publication → List (ℕ × Holder) → Map → Loaded PublisherStored
publisher_loaded publication held [] = Ok (tables_with held no_state)
publisher_loaded publication held (e ∷ es) = go_from publication (own_grants (e ∷ es)) held es (publisher_first_state (last_conflict (e ∷ es)) e.0 (reading_of e))
