-- Each record of the publisher has one entry.
use Rattle.std.proofs.Common.{◌≡◌, ◌∙◌, ℕ, zero, suc, ◌^◌, ◌<◌, List, [], ◌∷◌, map, Option, Some, None, refl, ap, subst}
use Rattle.std.specs.List.{cons_option, AllByRecursion}
use Rattle.std.specs.Option.{option_map}
use Rattle.std.specs.Int.{w8, w16, w64, to_be_bytes}
use Rattle.merge_types.specs.declared.row_key.RowKey.{RowKey}
use Rattle.merge_units.specs.declared.site_row.PublisherRow.{PublisherRow}
use Rattle.merge_gens.specs.declared.moves.Mapping.{Mapping}
use Rattle.merge_gens.specs.declared.moves.RowSite.{RowSite}
use Rattle.merge_gens.specs.declared.sites.SiteState.{SiteState}
use Rattle.merge_conflict.specs.declared.row.ConflictRow.{ConflictRow}
use Rattle.merge_ident.specs.declared.grants.Grant.{Grant}
use Rattle.merge_ident.specs.declared.grants.Range.{Range}
use Rattle.merge_ports.specs.declared.entry.EntryKey.{EntryKey}
use Rattle.merge_record.specs.Reading.{◌>>=◌, number_at, whole_of}
use Rattle.merge_record.specs.Codec.{IsBelow, IsBytes}
use Rattle.merge_record.specs.Rows.{publisher_row_at, publisher_row_bytes, IsPublisherRow}
use Rattle.merge_record.specs.Tables.{grant_key_at, grant_key_bytes, held_at, held_bytes, mapping_at, mapping_bytes, range_at, range_bytes, row_key_at, row_key_bytes, row_site_at, row_site_bytes, site_state_at, site_state_bytes, IsGrantKey, IsHeld, IsMapping, IsRange, IsRowKey, IsRowSite, IsSiteState}
use Rattle.merge_record.specs.declared.ranges.GrantKey.{GrantKey}
use Rattle.merge_record.specs.declared.ranges.HeldRanges.{HeldRanges}
use Rattle.merge_record.proofs.Codecs.{record_found}
use Rattle.merge_record.proofs.TableCodecs.{grant_key_is, held_is, mapping_is, publisher_row_is, range_is, row_key_is, row_site_is, site_state_is}
use Rattle.merge_keeper.specs.Entries.{closing_key, closing_value, conflict_key, conflict_value, grant_key, grant_key_in, grant_value, held_key, in_table, mapping_key, row_entry_key, site_key, state_key}
use Rattle.merge_keeper.specs.Given.{IsEntry}
use Rattle.merge_keeper.specs.PublisherRules.{own_range, own_ranges}
use Rattle.merge_keeper.specs.PublisherStart.{closing_record, grant_record, held_record, mapping_record, range_reading, reading_in, reading_of, row_record, site_record, state_record}
use Rattle.merge_keeper.specs.Start.{conflict_reading, own_grant, own_grants, own_of, pair_reading}
use Rattle.merge_keeper.specs.States.{publisher_spelling, publisher_state_at, IsConflict, IsFront, IsPublisherState}
use Rattle.merge_keeper.specs.Stored.{HasGrantKey}
use Rattle.merge_keeper.specs.SubscriberRules.{value_of}
use Rattle.merge_keeper.specs.declared.publisher_record.PublisherRecord.{PublisherRecord}
use Rattle.merge_keeper.specs.declared.publisher_record.PublisherRecord.TheVariants.{State, Row, Mapped, Closed, Lost, Held, Granted, Subscribed}
use Rattle.merge_keeper.specs.declared.states.Front.{Front}
use Rattle.merge_keeper.specs.declared.states.PublisherState.{PublisherState}
use Rattle.merge_keeper.proofs.Readings.{again, conflict_again, conflict_found, in_entry, mapped_some, num16, num64, num8, pair_again, pair_found}
use Rattle.merge_keeper.proofs.StateCodecs.{publisher_state_is}

abbrev pub state_bytes : Front → List ℕ
state_bytes front = publisher_spelling (record { 0 = front })

-- the entry of a record, and what a record has whose entry is read
abbrev pub entry_of : PublisherRecord → EntryKey × List ℕ
entry_of (State front) = (state_key, state_bytes front)
entry_of (Row key row) = (row_entry_key key, publisher_row_bytes row)
entry_of (Mapped place mapping) = (mapping_key place, mapping_bytes mapping)
entry_of (Closed closing) = (closing_key closing.generation, closing_value closing.generation closing.moment)
entry_of (Lost row) = (conflict_key row.number, conflict_value row.number row)
entry_of (Held article held) = (held_key article, held_bytes held)
entry_of (Granted grant) = (grant_key grant, grant_value grant)
entry_of (Subscribed site state) = (site_key site, site_state_bytes state)

abbrev pub Fits : PublisherRecord → Type 0
Fits (State front) = IsFront front
Fits (Row key row) = IsRowKey key × IsPublisherRow row
Fits (Mapped place mapping) = IsRowSite place × IsMapping mapping
Fits (Closed closing) = (closing.generation < 2 ^ 64) × (closing.moment.0 < 2 ^ 64)
Fits (Lost row) = (row.number < 2 ^ 64) × IsConflict (value_of row)
Fits (Held article held) = (article < 2 ^ 8) × IsHeld held
Fits (Granted grant) = HasGrantKey grant × IsRange grant.range
Fits (Subscribed site state) = (site < 2 ^ 16) × IsSiteState state

-- ---- what is written is read again

held_again : (article : ℕ) (held : HeldRanges) → article < 2 ^ 8 → IsHeld held → pair_reading (number_at w8) held_at (to_be_bytes w8 article) (held_bytes held) ≡ Some (article, held)
held_again article held ha hh = pair_again (to_be_bytes w8) held_bytes (number_at w8) held_at (IsBelow (2 ^ 8)) IsHeld num8 held_is article held ha hh

grant_again : (grant : Grant) → HasGrantKey grant → IsRange grant.range → pair_reading grant_key_at range_at (grant_key_bytes (grant_key_in grant)) (range_bytes grant.range) ≡ Some (grant_key_in grant, grant.range)
grant_again grant hk hr = pair_again grant_key_bytes range_bytes grant_key_at range_at IsGrantKey IsRange grant_key_is range_is (grant_key_in grant) grant.range hk hr

pub reads_again : (r : PublisherRecord) → Fits r → reading_of (entry_of r) ≡ Some r
unfolding reading_in
reads_again (State front) h = ap (λ (o : Option PublisherState). option_map state_record o) (again publisher_spelling publisher_state_at IsPublisherState publisher_state_is (record { 0 = front }) h)
reads_again (Row key row) h = ap (λ (o : Option (RowKey × PublisherRow)). option_map row_record o) (pair_again row_key_bytes publisher_row_bytes row_key_at publisher_row_at IsRowKey IsPublisherRow row_key_is publisher_row_is key row h.0 h.1)
reads_again (Mapped place mapping) h = ap (λ (o : Option (RowSite × Mapping)). option_map mapping_record o) (pair_again row_site_bytes mapping_bytes row_site_at mapping_at IsRowSite IsMapping row_site_is mapping_is place mapping h.0 h.1)
reads_again (Closed c) h = ap (λ (o : Option (ℕ × ℕ)). option_map closing_record o) (pair_again (to_be_bytes w64) (to_be_bytes w64) (number_at w64) (number_at w64) (IsBelow (2 ^ 64)) (IsBelow (2 ^ 64)) num64 num64 c.generation c.moment.0 h.0 h.1)
reads_again (Lost row) h = ap (λ (o : Option ConflictRow). option_map Lost o) (conflict_again row h.0 h.1)
reads_again (Held article held) h = ap (λ (o : Option (ℕ × HeldRanges)). option_map held_record o) (held_again article held h.0 h.1)
reads_again (Granted grant) h = ap (λ (o : Option (GrantKey × Range)). option_map grant_record o) (grant_again grant h.0 h.1)
reads_again (Subscribed site state) h = ap (λ (o : Option (ℕ × SiteState)). option_map site_record o) (pair_again (to_be_bytes w16) site_state_bytes (number_at w16) site_state_at (IsBelow (2 ^ 16)) IsSiteState num16 site_state_is site state h.0 h.1)

-- ---- what is read was written so

abbrev IsOf : ℕ → List ℕ → List ℕ → PublisherRecord → Type 0
IsOf table key value r = ((let e : EntryKey × List ℕ = (in_table table key, value) in e) ≡ entry_of r) × Fits r

state_found : (key value : List ℕ) → IsBytes value → (r : PublisherRecord) → reading_in 1 key value ≡ Some r → IsOf 1 key value r
unfolding reading_in
state_found [] value bytes r e =
    let s = mapped_some state_record (whole_of (publisher_state_at value)) r e in
    let f = record_found publisher_spelling publisher_state_at IsPublisherState publisher_state_is value bytes s.0 s.1 in
    subst (IsOf 1 [] value) s.2 (in_entry 1 [] [] value (publisher_spelling s.0) refl f.1, f.0)
state_found (b ∷ key) value bytes r e = absurd cc

row_found : (key value : List ℕ) → IsBytes key → IsBytes value → (r : PublisherRecord) → option_map row_record (pair_reading row_key_at publisher_row_at key value) ≡ Some r → IsOf 2 key value r
row_found key value bk bv r e =
    let s = mapped_some row_record (pair_reading row_key_at publisher_row_at key value) r e in
    let f = pair_found row_key_bytes publisher_row_bytes row_key_at publisher_row_at IsRowKey IsPublisherRow row_key_is publisher_row_is key value bk bv s.0 s.1 in
    subst (IsOf 2 key value) s.2 (in_entry 2 key (row_key_bytes s.0.0) value (publisher_row_bytes s.0.1) f.key_is f.value_is, (f.key_fits, f.value_fits))

mapping_found : (key value : List ℕ) → IsBytes key → IsBytes value → (r : PublisherRecord) → option_map mapping_record (pair_reading row_site_at mapping_at key value) ≡ Some r → IsOf 3 key value r
mapping_found key value bk bv r e =
    let s = mapped_some mapping_record (pair_reading row_site_at mapping_at key value) r e in
    let f = pair_found row_site_bytes mapping_bytes row_site_at mapping_at IsRowSite IsMapping row_site_is mapping_is key value bk bv s.0 s.1 in
    subst (IsOf 3 key value) s.2 (in_entry 3 key (row_site_bytes s.0.0) value (mapping_bytes s.0.1) f.key_is f.value_is, (f.key_fits, f.value_fits))

closing_found : (key value : List ℕ) → IsBytes key → IsBytes value → (r : PublisherRecord) → option_map closing_record (pair_reading (number_at w64) (number_at w64) key value) ≡ Some r → IsOf 4 key value r
closing_found key value bk bv r e =
    let s = mapped_some closing_record (pair_reading (number_at w64) (number_at w64) key value) r e in
    let f = pair_found (to_be_bytes w64) (to_be_bytes w64) (number_at w64) (number_at w64) (IsBelow (2 ^ 64)) (IsBelow (2 ^ 64)) num64 num64 key value bk bv s.0 s.1 in
    subst (IsOf 4 key value) s.2 (in_entry 4 key (to_be_bytes w64 s.0.0) value (to_be_bytes w64 s.0.1) f.key_is f.value_is, (f.key_fits, f.value_fits))

lost_found : (key value : List ℕ) → IsBytes key → IsBytes value → (r : PublisherRecord) → option_map Lost (conflict_reading key value) ≡ Some r → IsOf 5 key value r
lost_found key value bk bv r e =
    let s = mapped_some Lost (conflict_reading key value) r e in
    let f = conflict_found key value bk bv s.0 s.1 in
    subst (IsOf 5 key value) s.2 (in_entry 5 key (to_be_bytes w64 s.0.number) value (conflict_value s.0.number s.0) f.key_is f.value_is, (f.number_fits, f.value_fits))

held_found : (key value : List ℕ) → IsBytes key → IsBytes value → (r : PublisherRecord) → option_map held_record (pair_reading (number_at w8) held_at key value) ≡ Some r → IsOf 6 key value r
held_found key value bk bv r e =
    let s = mapped_some held_record (pair_reading (number_at w8) held_at key value) r e in
    let f = pair_found (to_be_bytes w8) held_bytes (number_at w8) held_at (IsBelow (2 ^ 8)) IsHeld num8 held_is key value bk bv s.0 s.1 in
    subst (IsOf 6 key value) s.2 (in_entry 6 key (to_be_bytes w8 s.0.0) value (held_bytes s.0.1) f.key_is f.value_is, (f.key_fits, f.value_fits))

grant_found : (key value : List ℕ) → IsBytes key → IsBytes value → (r : PublisherRecord) → option_map grant_record (pair_reading grant_key_at range_at key value) ≡ Some r → IsOf 6 key value r
grant_found key value bk bv r e =
    let s = mapped_some grant_record (pair_reading grant_key_at range_at key value) r e in
    let f = pair_found grant_key_bytes range_bytes grant_key_at range_at IsGrantKey IsRange grant_key_is range_is key value bk bv s.0 s.1 in
    subst (IsOf 6 key value) s.2 (in_entry 6 key (grant_key_bytes s.0.0) value (range_bytes s.0.1) f.key_is f.value_is, (f.key_fits, f.value_fits))

range_found : (key value : List ℕ) → IsBytes key → IsBytes value → (r : PublisherRecord) → range_reading key value ≡ Some r → IsOf 6 key value r
range_found [] value bk bv r e = grant_found [] value bk bv r e
range_found (a ∷ []) value bk bv r e = held_found (a ∷ []) value bk bv r e
range_found (a ∷ b ∷ key) value bk bv r e = grant_found (a ∷ b ∷ key) value bk bv r e

site_found : (key value : List ℕ) → IsBytes key → IsBytes value → (r : PublisherRecord) → option_map site_record (pair_reading (number_at w16) site_state_at key value) ≡ Some r → IsOf 7 key value r
site_found key value bk bv r e =
    let s = mapped_some site_record (pair_reading (number_at w16) site_state_at key value) r e in
    let f = pair_found (to_be_bytes w16) site_state_bytes (number_at w16) site_state_at (IsBelow (2 ^ 16)) IsSiteState num16 site_state_is key value bk bv s.0 s.1 in
    subst (IsOf 7 key value) s.2 (in_entry 7 key (to_be_bytes w16 s.0.0) value (site_state_bytes s.0.1) f.key_is f.value_is, (f.key_fits, f.value_fits))

found_in : (table : ℕ) (key value : List ℕ) → IsBytes key → IsBytes value → (r : PublisherRecord) → reading_in table key value ≡ Some r → IsOf table key value r
unfolding reading_in
found_in zero key value bk bv r e = absurd cc
found_in (suc zero) key value bk bv r e = state_found key value bv r e
found_in (suc (suc zero)) key value bk bv r e = row_found key value bk bv r e
found_in (suc (suc (suc zero))) key value bk bv r e = mapping_found key value bk bv r e
found_in (suc (suc (suc (suc zero)))) key value bk bv r e = closing_found key value bk bv r e
found_in (suc (suc (suc (suc (suc zero))))) key value bk bv r e = lost_found key value bk bv r e
found_in (suc (suc (suc (suc (suc (suc zero)))))) key value bk bv r e = range_found key value bk bv r e
found_in (suc (suc (suc (suc (suc (suc (suc zero))))))) key value bk bv r e = site_found key value bk bv r e
found_in (suc (suc (suc (suc (suc (suc (suc (suc n)))))))) key value bk bv r e = absurd cc

pub record_is : (e : EntryKey × List ℕ) → IsEntry e → (r : PublisherRecord) → reading_of e ≡ Some r → (e ≡ entry_of r) × Fits r
record_is e bytes r read = found_in e.0.table e.0.key e.1 bytes.0 bytes.1 r read

-- ---- the publisher's own ranges

-- a key of one byte is no grant's
held_not_own : (article : ℕ) (held : HeldRanges) → own_grant (entry_of (Held article held)) ≡ None
unfolding grant_key_at
held_not_own article held = refl

own_again : (r : PublisherRecord) → Fits r → own_grant (entry_of r) ≡ own_range r
own_again (State front) h = refl
own_again (Row key row) h = refl
own_again (Mapped place mapping) h = refl
own_again (Closed c) h = refl
own_again (Lost row) h = refl
own_again (Held article held) h = held_not_own article held
own_again (Granted grant) h = ap (λ (o : Option (GrantKey × Range)). o >>= own_of) (grant_again grant h.0 h.1)
own_again (Subscribed site state) h = refl

-- those that a start seeks in all entries are those of the records
pub own_ranges_are : (rs : List PublisherRecord) → AllByRecursion Fits rs → own_grants (map entry_of rs) ≡ own_ranges rs
own_ranges_are [] h = refl
own_ranges_are (r ∷ rs) h =
    ap (λ (o : Option (ℕ × Range)). cons_option o (own_grants (map entry_of rs))) (own_again r h.0) ∙ ap (cons_option (own_range r)) (own_ranges_are rs h.1)
