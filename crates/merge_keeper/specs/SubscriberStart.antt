-- What a store of a subscriber loads to.
use Rattle.std.specs.Prelude.{◌≡◌, ℕ, zero, suc, ◌+◌, ◌<◌, ◌^◌, Bool, false, if◌then◌else◌, nat_lt, nat_le, sum_by, count_by, length, slice_get, ◌-◌, ◌==◌, ◌&&◌, ◌||◌, List, [], ◌∷◌, ◌++◌, Option, Some, None, Result, Ok, Err, is_some}
use Rattle.std.specs.Int.{w8, w64}
use Rattle.std.specs.List.{list_all}
use Rattle.std.specs.Option.{option_map, option_map_or}
use Rattle.merge_types.specs.Limits.{entry_limit}
use Rattle.merge_types.specs.declared.identifiers.SiteId.{SiteId}
use Rattle.merge_types.specs.declared.row_key.RowKey.{RowKey}
use Rattle.merge_units.specs.declared.site_row.SubscriberRow.{SubscriberRow}
use Rattle.merge_gens.specs.declared.closings.Closing.{Closing}
use Rattle.merge_ident.specs.Holders.{Holder, AreKept}
use Rattle.merge_schema.specs.declared.publication.Publication.{Publication}
use Rattle.merge_batch.specs.declared.request.Outstanding.{Outstanding}
use Rattle.merge_batch.specs.declared.request.Outstanding.TheVariants.{Join, Upload, Ranges, Download}
use Rattle.merge_ports.specs.declared.entry.EntryKey.{EntryKey}
use Rattle.merge_ports.specs.Entries.{Map}
use Rattle.merge_record.specs.Reading.{number_at, whole_of}
use Rattle.merge_record.specs.Rows.{subscriber_row_at}
use Rattle.merge_record.specs.Tables.{row_key_at, held_at}
use Rattle.merge_record.specs.declared.ranges.HeldRanges.{HeldRanges}
use Rattle.merge_keeper.specs.declared.counts.Counts.{Counts}
use Rattle.merge_keeper.specs.Counts.{count_at}
use Rattle.merge_keeper.specs.declared.states.Talk.{Talk}
use Rattle.merge_keeper.specs.declared.states.SubscriberState.{SubscriberState}
use Rattle.merge_keeper.specs.declared.stored.SubscriberStored.{SubscriberStored}
use Rattle.merge_keeper.specs.declared.subscriber_record.SubscriberRecord.{SubscriberRecord}
use Rattle.merge_keeper.specs.declared.subscriber_record.SubscriberRecord.TheVariants.{State, Row, Closed, Lost, Held}
use Rattle.merge_keeper.specs.declared.subscriber_start.SubscriberSoFar.{SubscriberSoFar}
use Rattle.merge_keeper.specs.States.{subscriber_state_at}
use Rattle.merge_keeper.specs.Start.{Loading, Loaded, loaded_behind, pair_reading, version_is_sound, row_was_made, is_counter, identity_at, are_kept, conflict_reading, conflict_is_sound, last_conflict, with_held}

-- ---- rule 1: the readings of the five tables of a subscriber

abbrev pub row_record : RowKey × SubscriberRow → SubscriberRecord
row_record p = Row p.0 p.1

abbrev pub closing_record : ℕ × ℕ → SubscriberRecord
closing_record p = Closed (record { generation = p.0; moment = record { 0 = p.1 } })

abbrev pub held_record : ℕ × HeldRanges → SubscriberRecord
held_record p = Held p.0 p.1

-- the state has the empty key
abbrev pub state_reading : List ℕ → List ℕ → Option SubscriberRecord
state_reading [] value = option_map State (whole_of (subscriber_state_at value))
state_reading (b ∷ key) value = None

unfoldable pub reading_in : ℕ → List ℕ → List ℕ → Option SubscriberRecord
reading_in (suc zero) key value = state_reading key value
reading_in (suc (suc zero)) key value = option_map row_record (pair_reading row_key_at subscriber_row_at key value)
reading_in (suc (suc (suc (suc zero)))) key value = option_map closing_record (pair_reading (number_at w64) (number_at w64) key value)
reading_in (suc (suc (suc (suc (suc zero))))) key value = option_map Lost (conflict_reading key value)
reading_in (suc (suc (suc (suc (suc (suc zero)))))) key value = option_map held_record (pair_reading (number_at w8) held_at key value)
reading_in table key value = None

abbrev pub reading_of : EntryKey × List ℕ → Option SubscriberRecord
reading_of e = reading_in e.0.table e.0.key e.1

-- ---- rules 2 to 15

-- the generation in the key of a closed one
abbrev pub generation_in : EntryKey → Option ℕ
generation_in key = if key.table == 4 then whole_of (number_at w64 key.key) else None

-- the generation behind one, where that is the one, and is at most the last
abbrev pub next_behind_entry : ℕ → ℕ → Option ℕ → ℕ
next_behind_entry last next None = next
next_behind_entry last next (Some generation) = if (generation == next) && nat_le generation last then next + 1 else next

-- the first generation from one on, up to the last, that has no key, where the entries ascend; the one behind the last where all have
abbrev pub first_missing : ℕ → ℕ → Map → ℕ
first_missing last next [] = next
first_missing last next (e ∷ es) = first_missing last (next_behind_entry last next (generation_in e.0)) es

-- an outstanding kind is 0 exactly where its number is 0
unfoldable pub talk_is_sound : Talk → Bool
talk_is_sound talk = is_counter talk.seq && (if talk.outstanding == 0 then talk.kind == 0 else nat_lt 0 talk.kind)

unfoldable pub state_is_sound : SiteId → ℕ → SubscriberState → Bool
state_is_sound site last state =
    (state.front.site == site.0) && is_counter state.front.changes && is_counter state.front.last_closed && is_counter state.front.conflicts && nat_lt state.front.filled entry_limit && nat_le state.front.conflicts last
    && talk_is_sound state.talk && nat_le state.talk.received state.front.last_closed

-- each closed generation above `received` is there
abbrev pub has_closings : Map → SubscriberState → Bool
has_closings all state = nat_lt state.front.last_closed (first_missing state.front.last_closed (state.talk.received + 1) all)

-- how often a row has changed in a generation, once or not at all
abbrev pub times_in : ℕ → RowKey × SubscriberRow → ℕ
times_in generation row = count_by (λ (other : ℕ). generation == other) row.1.generations

-- how many entries stand in a generation
abbrev pub entries_in : SubscriberStored → ℕ → ℕ
entries_in t generation = sum_by (times_in generation) t.rows

-- the index counts those that are not received
abbrev pub IsCounted : Counts → SubscriberStored → Type 0
IsCounted counts t = (generation : ℕ) → t.received < generation → count_at counts generation ≡ entries_in t generation

-- how many may stand in it: 1,000 in a closed one, and in the open one as many as it has entries
abbrev pub limit_of : SubscriberStored → ℕ → ℕ
limit_of t generation = if nat_le generation t.filling.last_closed then entry_limit else t.filling.filled

-- the generation was received, or it is at most the open one and has room for an entry more
abbrev pub has_space : SubscriberStored → ℕ → Bool
has_space t generation = nat_le generation t.received || (nat_le generation (t.filling.last_closed + 1) && nat_lt (entries_in t generation) (limit_of t generation))

unfoldable pub row_is_sound : Publication → SubscriberStored → RowKey → SubscriberRow → Bool
row_is_sound publication t key row = version_is_sound publication key.article row.version && row_was_made t.site.0 t.changes key row.version && list_all (has_space t) row.generations

-- the number of the last change in the generations so far
abbrev pub last_number : List Closing → ℕ
last_number closings = option_map_or (λ (closing : Closing). closing.moment.0) (slice_get closings (length closings - 1)) 0

-- the generation is above the received ones, and its number neither falls nor is above the changes
unfoldable pub closing_is_sound : SubscriberStored → Closing → Bool
closing_is_sound t closing = nat_lt t.received closing.generation && nat_le closing.generation t.filling.last_closed && nat_le (last_number t.closings) closing.moment.0 && nat_le closing.moment.0 t.changes

unfoldable pub held_is_sound : Publication → ℕ → HeldRanges → Bool
held_is_sound publication article held = is_some (identity_at publication article) && are_kept held.ranges held.next && nat_lt 0 held.have

abbrev pub is_sound : Publication → SubscriberStored → SubscriberRecord → Bool
is_sound publication t (State state) = false
is_sound publication t (Row key row) = row_is_sound publication t key row
is_sound publication t (Closed closing) = closing_is_sound t closing
is_sound publication t (Lost row) = conflict_is_sound publication (length t.conflicts) t.conflict_count row
is_sound publication t (Held article held) = held_is_sound publication article held

-- the tables with one record more
abbrev pub with_record : Publication → SubscriberStored → SubscriberRecord → SubscriberStored
with_record publication t (State state) = t
with_record publication t (Row key row) = record t { rows = t.rows ++ (key, row) ∷ [] }
with_record publication t (Closed closing) = record t { closings = t.closings ++ closing ∷ [] }
with_record publication t (Lost row) = record t { conflicts = t.conflicts ++ row ∷ [] }
with_record publication t (Held article held) = record t { held = with_held publication t.held article held }

-- what adding a record asks of it: its ranges can be held
abbrev pub CanAdd : SubscriberRecord → Type 0
CanAdd (Held article held) = AreKept held.ranges held.next
CanAdd r = Unit {0}

-- the index counts the entries of the tables so far, and what the state's rules gave
pub record GoesOn (so_far : SubscriberSoFar) : Type 0 where
  pub counted : IsCounted so_far.counts so_far.tables
  pub small : so_far.tables.changes < 2 ^ 62

-- ---- the pass

abbrev pub loading_of_subscriber : Publication → Loading SubscriberStored SubscriberRecord
loading_of_subscriber publication = record { reading = reading_of; is_sound = is_sound publication; with_record = with_record publication }

abbrev pub message_of : Talk → Outstanding
message_of talk = if talk.kind == 1 then Join else (if talk.kind == 2 then Upload talk.from talk.to else (if talk.kind == 3 then Ranges else Download talk.from))

abbrev pub outstanding_of : Talk → Option (ℕ × Outstanding)
outstanding_of talk = if talk.kind == 0 then None else Some (talk.outstanding, message_of talk)

-- the tables of a state alone, where these ranges were held before any was received
abbrev pub tables_with : SiteId → List (ℕ × Holder) → SubscriberState → SubscriberStored
tables_with site held state = record {
  site = site;
  changes = state.front.changes;
  filling = record { last_closed = state.front.last_closed; filled = state.front.filled };
  closings = [];
  conflict_count = state.front.conflicts;
  latest = record { 0 = state.front.latest };
  seq = state.talk.seq;
  outstanding = outstanding_of state.talk;
  received = state.talk.received;
  watermark = state.talk.watermark;
  is_joined = state.talk.phase == 2;
  rows = [];
  conflicts = [];
  held = held;
}

abbrev pub no_state : SiteId → SubscriberState
no_state site = record {
  front = record { site = site.0; changes = 0; last_closed = 0; filled = 0; conflicts = 0; latest = 0 };
  talk = record { seq = 0; outstanding = 0; from = 0; to = 0; received = 0; watermark = 0; kind = 0; phase = 1 };
}

-- the state comes first; where it is missing or breaks a rule, the first entry is named
abbrev pub subscriber_first_state : SiteId → Map → EntryKey → Option SubscriberRecord → Result SubscriberState EntryKey
subscriber_first_state site all key (Some (State state)) = if state_is_sound site (last_conflict all) state && has_closings all state then Ok state else Err key
subscriber_first_state site all key r = Err key

abbrev pub go_from : Publication → SiteId → List (ℕ × Holder) → Map → Result SubscriberState EntryKey → Loaded SubscriberStored
go_from publication site held es (Ok state) = loaded_behind (loading_of_subscriber publication) (tables_with site held state) es
go_from publication site held es (Err key) = Err key

-- the store of no entries is that of a subscriber that has committed nothing
abbrev pub subscriber_loaded : Publication → SiteId → List (ℕ × Holder) → Map → Loaded SubscriberStored
subscriber_loaded publication site held [] = Ok (tables_with site held (no_state site))
subscriber_loaded publication site held (e ∷ es) = go_from publication site held es (subscriber_first_state site (e ∷ es) e.0 (reading_of e))
