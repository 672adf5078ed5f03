-- Each record of a subscriber has one entry.
use Rattle.std.proofs.Common.{◌≡◌, ℕ, zero, suc, ◌^◌, ◌<◌, List, [], ◌∷◌, Some, refl, subst}
use Rattle.std.specs.Option.{option_map}
use Rattle.std.specs.Int.{w8, w64, to_be_bytes}
use Rattle.merge_ports.specs.declared.entry.EntryKey.{EntryKey}
use Rattle.merge_record.specs.Reading.{number_at, whole_of}
use Rattle.merge_record.specs.Codec.{IsBelow, IsBytes}
use Rattle.merge_record.specs.Rows.{subscriber_row_at, subscriber_row_bytes, IsSubscriberRow}
use Rattle.merge_record.specs.Tables.{held_at, held_bytes, row_key_at, row_key_bytes, IsHeld, IsRowKey}
use Rattle.merge_record.proofs.Codecs.{record_found}
use Rattle.merge_record.proofs.TableCodecs.{held_is, row_key_is, subscriber_row_is}
use Rattle.merge_keeper.specs.Entries.{closing_key, closing_value, conflict_key, conflict_value, held_key, in_table, row_entry_key, state_key}
use Rattle.merge_keeper.specs.Given.{IsEntry}
use Rattle.merge_keeper.specs.Start.{conflict_reading, pair_reading}
use Rattle.merge_keeper.specs.States.{subscriber_spelling, subscriber_state_at, IsConflict, IsSubscriberState}
use Rattle.merge_keeper.specs.SubscriberRules.{value_of}
use Rattle.merge_keeper.specs.SubscriberStart.{closing_record, held_record, reading_in, reading_of, row_record}
use Rattle.merge_keeper.specs.declared.subscriber_record.SubscriberRecord.{SubscriberRecord}
use Rattle.merge_keeper.specs.declared.subscriber_record.SubscriberRecord.TheVariants.{State, Row, Closed, Lost, Held}
use Rattle.merge_keeper.proofs.Readings.{conflict_found, in_entry, mapped_some, num64, num8, pair_found}
use Rattle.merge_keeper.proofs.StateCodecs.{subscriber_state_is}

-- the entry of a record, and what a record has whose entry is read
abbrev pub entry_of : SubscriberRecord → EntryKey × List ℕ
entry_of (State state) = (state_key, subscriber_spelling state)
entry_of (Row key row) = (row_entry_key key, subscriber_row_bytes row)
entry_of (Closed closing) = (closing_key closing.generation, closing_value closing.generation closing.moment)
entry_of (Lost row) = (conflict_key row.number, conflict_value row.number row)
entry_of (Held article held) = (held_key article, held_bytes held)

abbrev pub Fits : SubscriberRecord → Type 0
Fits (State state) = IsSubscriberState state
Fits (Row key row) = IsRowKey key × IsSubscriberRow row
Fits (Closed closing) = (closing.generation < 2 ^ 64) × (closing.moment.0 < 2 ^ 64)
Fits (Lost row) = (row.number < 2 ^ 64) × IsConflict (value_of row)
Fits (Held article held) = (article < 2 ^ 8) × IsHeld held

-- what is read was written so
abbrev IsOf : ℕ → List ℕ → List ℕ → SubscriberRecord → Type 0
IsOf table key value r = ((let e : EntryKey × List ℕ = (in_table table key, value) in e) ≡ entry_of r) × Fits r

state_found : (key value : List ℕ) → IsBytes value → (r : SubscriberRecord) → reading_in 1 key value ≡ Some r → IsOf 1 key value r
unfolding reading_in
state_found [] value bytes r e =
    let s = mapped_some State (whole_of (subscriber_state_at value)) r e in
    let f = record_found subscriber_spelling subscriber_state_at IsSubscriberState subscriber_state_is value bytes s.0 s.1 in
    subst (IsOf 1 [] value) s.2 (in_entry 1 [] [] value (subscriber_spelling s.0) refl f.1, f.0)
state_found (b ∷ key) value bytes r e = absurd cc

row_found : (key value : List ℕ) → IsBytes key → IsBytes value → (r : SubscriberRecord) → option_map row_record (pair_reading row_key_at subscriber_row_at key value) ≡ Some r → IsOf 2 key value r
row_found key value bk bv r e =
    let s = mapped_some row_record (pair_reading row_key_at subscriber_row_at key value) r e in
    let f = pair_found row_key_bytes subscriber_row_bytes row_key_at subscriber_row_at IsRowKey IsSubscriberRow row_key_is subscriber_row_is key value bk bv s.0 s.1 in
    subst (IsOf 2 key value) s.2 (in_entry 2 key (row_key_bytes s.0.0) value (subscriber_row_bytes s.0.1) f.key_is f.value_is, (f.key_fits, f.value_fits))

closing_found : (key value : List ℕ) → IsBytes key → IsBytes value → (r : SubscriberRecord) → option_map closing_record (pair_reading (number_at w64) (number_at w64) key value) ≡ Some r → IsOf 4 key value r
closing_found key value bk bv r e =
    let s = mapped_some closing_record (pair_reading (number_at w64) (number_at w64) key value) r e in
    let f = pair_found (to_be_bytes w64) (to_be_bytes w64) (number_at w64) (number_at w64) (IsBelow (2 ^ 64)) (IsBelow (2 ^ 64)) num64 num64 key value bk bv s.0 s.1 in
    subst (IsOf 4 key value) s.2 (in_entry 4 key (to_be_bytes w64 s.0.0) value (to_be_bytes w64 s.0.1) f.key_is f.value_is, (f.key_fits, f.value_fits))

lost_found : (key value : List ℕ) → IsBytes key → IsBytes value → (r : SubscriberRecord) → option_map Lost (conflict_reading key value) ≡ Some r → IsOf 5 key value r
lost_found key value bk bv r e =
    let s = mapped_some Lost (conflict_reading key value) r e in
    let f = conflict_found key value bk bv s.0 s.1 in
    subst (IsOf 5 key value) s.2 (in_entry 5 key (to_be_bytes w64 s.0.number) value (conflict_value s.0.number s.0) f.key_is f.value_is, (f.number_fits, f.value_fits))

held_found : (key value : List ℕ) → IsBytes key → IsBytes value → (r : SubscriberRecord) → option_map held_record (pair_reading (number_at w8) held_at key value) ≡ Some r → IsOf 6 key value r
held_found key value bk bv r e =
    let s = mapped_some held_record (pair_reading (number_at w8) held_at key value) r e in
    let f = pair_found (to_be_bytes w8) held_bytes (number_at w8) held_at (IsBelow (2 ^ 8)) IsHeld num8 held_is key value bk bv s.0 s.1 in
    subst (IsOf 6 key value) s.2 (in_entry 6 key (to_be_bytes w8 s.0.0) value (held_bytes s.0.1) f.key_is f.value_is, (f.key_fits, f.value_fits))

found_in : (table : ℕ) (key value : List ℕ) → IsBytes key → IsBytes value → (r : SubscriberRecord) → reading_in table key value ≡ Some r → IsOf table key value r
unfolding reading_in
found_in zero key value bk bv r e = absurd cc
found_in (suc zero) key value bk bv r e = state_found key value bv r e
found_in (suc (suc zero)) key value bk bv r e = row_found key value bk bv r e
found_in (suc (suc (suc zero))) key value bk bv r e = absurd cc
found_in (suc (suc (suc (suc zero)))) key value bk bv r e = closing_found key value bk bv r e
found_in (suc (suc (suc (suc (suc zero))))) key value bk bv r e = lost_found key value bk bv r e
found_in (suc (suc (suc (suc (suc (suc zero)))))) key value bk bv r e = held_found key value bk bv r e
found_in (suc (suc (suc (suc (suc (suc (suc n))))))) key value bk bv r e = absurd cc

pub record_is : (e : EntryKey × List ℕ) → IsEntry e → (r : SubscriberRecord) → reading_of e ≡ Some r → (e ≡ entry_of r) × Fits r
record_is e bytes r read = found_in e.0.table e.0.key e.1 bytes.0 bytes.1 r read
