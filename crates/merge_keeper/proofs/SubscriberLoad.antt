-- A store that a subscriber wrote loads, and gives its tables.
use Rattle.std.proofs.Common.{◌≡◌, ◌∙◌, ℕ, ◌+◌, ◌^◌, ◌<◌, ◌==◌, ◌&&◌, nat_le, nat_lt, Bool, true, false, cond, List, [], ◌∷◌, ◌++◌, map, filter, Option, Some, None, Result, Ok, Err, refl, sym, ap, arith}
use Rattle.std.specs.List.{AllByRecursion}
use Rattle.std.specs.Option.{option_map, option_map_or}
use Rattle.std.specs.Int.{w8, w64, to_be_bytes}
use Rattle.std.proofs.lemmas.Bool.Decides.{nat_tests}
use Rattle.std.proofs.lemmas.List.{append-nil}
use Rattle.merge_types.specs.declared.row_key.RowKey.{RowKey}
use Rattle.merge_units.specs.declared.site_row.SubscriberRow.{SubscriberRow}
use Rattle.merge_gens.specs.declared.closings.Closing.{Closing}
use Rattle.merge_conflict.specs.declared.row.ConflictRow.{ConflictRow}
use Rattle.merge_ident.specs.Holders.{Holder}
use Rattle.merge_schema.specs.declared.publication.Identity.{Identity}
use Rattle.merge_schema.specs.declared.publication.Publication.{Publication}
use Rattle.merge_batch.specs.declared.request.Outstanding.{Outstanding}
use Rattle.merge_batch.specs.declared.request.Outstanding.TheVariants.{Join, Upload, Ranges, Download}
use Rattle.merge_ports.specs.declared.entry.EntryKey.{EntryKey}
use Rattle.merge_ports.specs.Entries.{Map}
use Rattle.merge_record.specs.Reading.{number_at}
use Rattle.merge_record.specs.Codec.{IsBelow}
use Rattle.merge_record.specs.Rows.{subscriber_row_at, subscriber_row_bytes, IsSubscriberRow}
use Rattle.merge_record.specs.Tables.{held_at, held_bytes, row_key_at, row_key_bytes, IsHeld, IsRowKey}
use Rattle.merge_record.specs.declared.ranges.HeldRanges.{HeldRanges}
use Rattle.merge_record.proofs.TableCodecs.{held_is, row_key_is, subscriber_row_is}
use Rattle.merge_keeper.specs.Encoded.{encoded_entry}
use Rattle.merge_keeper.specs.Entries.{closing_entries, closing_key, closing_pair, closing_value, conflict_entries, conflict_key, conflict_pair, conflict_value, held_entries, held_key, held_ranges, held_value, row_entries, row_entry_key, state_key, subscriber_row_value, was_received}
use Rattle.merge_keeper.specs.Start.{go_on, holder_of, identity_at, last_conflict, last_conflict_behind, loaded_behind, with_value_at, Loading}
use Rattle.merge_keeper.specs.States.{subscriber_spelling, subscriber_state_at, IsConflict, IsSubscriberState}
use Rattle.merge_keeper.specs.Stored.{subscriber_records, subscriber_state}
use Rattle.merge_keeper.specs.SubscriberRules.{held_with, state_of, value_of, with_closings, with_conflicts, with_rows, KeepRules, Run}
use Rattle.merge_keeper.specs.SubscriberStart.{first_missing, generation_in, go_from, has_closings, is_sound, loading_of_subscriber, next_behind_entry, outstanding_of, reading_in, reading_of, state_is_sound, subscriber_first_state, subscriber_loaded}
use Rattle.merge_keeper.specs.declared.states.SubscriberState.{SubscriberState}
use Rattle.merge_keeper.specs.declared.stored.SubscriberStored.{SubscriberStored}
use Rattle.merge_keeper.specs.declared.subscriber_record.SubscriberRecord.{SubscriberRecord}
use Rattle.merge_keeper.specs.declared.subscriber_record.SubscriberRecord.TheVariants.{State, Row, Closed, Lost, Held}
use Rattle.merge_keeper.proofs.Fronts.{both_true, each_so, map_twice, one_by_one, same_number}
use Rattle.merge_keeper.proofs.Loads.{members_load}
use Rattle.merge_keeper.proofs.Readings.{again, conflict_again, num8, num64, pair_again}
use Rattle.merge_keeper.proofs.Sought.{conflict_entry, last_is, last_skips}
use Rattle.merge_keeper.proofs.StateCodecs.{subscriber_state_is}

-- ---- readings of what is written

state_reads : (t : SubscriberStored) → IsSubscriberState (state_of t) → reading_of (state_key, subscriber_state t) ≡ Some (State (state_of t))
unfolding reading_in
state_reads t fits = ap (λ (o : Option SubscriberState). option_map State o) (again subscriber_spelling subscriber_state_at IsSubscriberState subscriber_state_is (state_of t) fits)

row_reads : (k : RowKey) (r : SubscriberRow) → IsRowKey k → IsSubscriberRow r → reading_of (row_entry_key k, subscriber_row_bytes r) ≡ Some (Row k r)
unfolding reading_in
row_reads k r hk hr =
    ap (λ (o : Option (RowKey × SubscriberRow)). option_map (λ p. Row p.0 p.1) o) (pair_again row_key_bytes subscriber_row_bytes row_key_at subscriber_row_at IsRowKey IsSubscriberRow row_key_is subscriber_row_is k r hk hr)

closing_reads : (c : Closing) → c.generation < 2 ^ 64 → c.moment.0 < 2 ^ 64 → reading_of (closing_key c.generation, closing_value c.generation c.moment) ≡ Some (Closed c)
unfolding reading_in
closing_reads c hg hm =
    ap (λ (o : Option (ℕ × ℕ)). option_map (λ p. Closed (record { generation = p.0; moment = record { 0 = p.1 } })) o) (pair_again (to_be_bytes w64) (to_be_bytes w64) (number_at w64) (number_at w64) (IsBelow (2 ^ 64)) (IsBelow (2 ^ 64)) num64 num64 c.generation c.moment.0 hg hm)

conflict_reads : (row : ConflictRow) → row.number < 2 ^ 64 → IsConflict (value_of row) → reading_of (conflict_key row.number, conflict_value row.number row) ≡ Some (Lost row)
unfolding reading_in
conflict_reads row hn hv = ap (λ (o : Option ConflictRow). option_map Lost o) (conflict_again row hn hv)

held_reads : (article : ℕ) (holder : Holder) → article < 2 ^ 8 → IsHeld (held_ranges holder) → reading_of (held_key article, held_value article holder) ≡ Some (Held article (held_ranges holder))
unfolding reading_in
held_reads article holder ha hh =
    ap (λ (o : Option (ℕ × HeldRanges)). option_map (λ p. Held p.0 p.1) o) (pair_again (to_be_bytes w8) held_bytes (number_at w8) held_at (IsBelow (2 ^ 8)) IsHeld num8 held_is article (held_ranges holder) ha hh)

-- ---- what is sought behind the state

pub missing_skips : {X : Type 0} (entry : X → EntryKey × List ℕ) → ((x : X) → generation_in (entry x).0 ≡ None) → (last next : ℕ) (xs : List X) (rest : Map) → first_missing last next (map entry xs ++ rest) ≡ first_missing last next rest
missing_skips entry none last next [] rest = refl
missing_skips entry none last next (x ∷ xs) rest =
    ap (λ (o : Option ℕ). first_missing last (next_behind_entry last next o) (map entry xs ++ rest)) (none x) ∙ missing_skips entry none last next xs rest

abbrev pub closing_entry : Closing → EntryKey × List ℕ
closing_entry c = (closing_key c.generation, closing_value c.generation c.moment)

abbrev pub held_entry : ℕ × Holder → EntryKey × List ℕ
held_entry p = (held_key p.0, held_value p.0 p.1)

passed_by_test : (b : Bool) (next : ℕ) → b ≡ true → cond b (next + 1) next ≡ next + 1
passed_by_test true next e = refl
passed_by_test false next e = absurd cc

-- a closed generation has its number in its key
pub one_passed : (last next : ℕ) (c : Closing) (rest : Map) → c.generation < 2 ^ 64 → first_missing last next (closing_entry c ∷ rest) ≡ first_missing last (next_behind_entry last next (Some c.generation)) rest
one_passed last next c rest fits = ap (λ (o : Option ℕ). first_missing last (next_behind_entry last next o) rest) (again (to_be_bytes w64) (number_at w64) (IsBelow (2 ^ 64)) num64 c.generation fits)

run_is : (last next : ℕ) (closings : List Closing) (rest : Map) → AllByRecursion (λ c. c.generation < 2 ^ 64) closings → Run last next closings → first_missing last next (map closing_entry closings ++ rest) ≡ first_missing last (last + 1) rest
run_is last next [] rest fits h = ap (λ (n : ℕ). first_missing last n rest) h
run_is last next (c ∷ closings) rest fits h =
    one_passed last next c (map closing_entry closings ++ rest) fits.0
    ∙ ap (λ (n : ℕ). first_missing last (cond ((n == next) && nat_le n last) (next + 1) next) (map closing_entry closings ++ rest)) h.0
    ∙ ap (λ (n : ℕ). first_missing last n (map closing_entry closings ++ rest)) (passed_by_test ((next == next) && nat_le next last) next (both_true (next == next) (nat_le next last) (same_number next) h.1))
    ∙ run_is last (next + 1) closings rest fits.1 h.2

-- ---- the tables of the state

kind_is_told : (o : Option (ℕ × Outstanding)) (t : SubscriberStored) → t.outstanding ≡ o → outstanding_of (state_of t).talk ≡ o
kind_is_told None t e = rw e refl
kind_is_told (Some (n, Join)) t e = rw e refl
kind_is_told (Some (n, Upload from to)) t e = rw e refl
kind_is_told (Some (n, Ranges)) t e = rw e refl
kind_is_told (Some (n, Download from)) t e = rw e refl

phase_is_told : (b : Bool) (t : SubscriberStored) → t.is_joined ≡ b → ((state_of t).talk.phase == 2) ≡ b
phase_is_told true t e = rw e refl
phase_is_told false t e = rw e refl

abbrev with_talk : SubscriberStored → Option (ℕ × Outstanding) → Bool → SubscriberStored
with_talk t outstanding is_joined = record t { outstanding = outstanding; is_joined = is_joined }

whole : (t : SubscriberStored) → with_talk t (outstanding_of (state_of t).talk) ((state_of t).talk.phase == 2) ≡ t
whole t =
    ap (λ (o : Option (ℕ × Outstanding)). with_talk t o ((state_of t).talk.phase == 2)) (kind_is_told t.outstanding t refl)
    ∙ ap (λ (b : Bool). with_talk t t.outstanding b) (phase_is_told t.is_joined t refl)

module _ (publication : Publication) (held : List (ℕ × Holder)) (t : SubscriberStored) (h : KeepRules publication held t) where
  abbrev l : Loading SubscriberStored SubscriberRecord
  l = loading_of_subscriber publication

  abbrev row_list : Map
  row_list = map (encoded_entry row_entry_key subscriber_row_value) t.rows

  abbrev held_list : List (ℕ × Holder)
  held_list = filter was_received t.held

  -- the records behind the state, by lists
  abbrev behind : Map
  behind = row_list ++ (map closing_entry t.closings ++ (map conflict_entry t.conflicts ++ map held_entry held_list))

  behind_is : row_entries subscriber_row_value t.rows ++ (closing_entries t.closings ++ (conflict_entries t.conflicts ++ held_entries t.held)) ≡ behind
  behind_is =
      ap (λ (m : Map). row_list ++ (m ++ (conflict_entries t.conflicts ++ held_entries t.held))) (map_twice (encoded_entry closing_key closing_value) closing_pair t.closings)
      ∙ ap (λ (m : Map). row_list ++ (map closing_entry t.closings ++ (m ++ held_entries t.held))) (map_twice (encoded_entry conflict_key conflict_value) conflict_pair t.conflicts)

  abbrev all : Map
  all = (state_key, subscriber_state t) ∷ behind

  last_found : last_conflict all ≡ t.conflict_count
  last_found =
      last_skips (encoded_entry row_entry_key subscriber_row_value) (λ x. refl) 0 t.rows (map closing_entry t.closings ++ (map conflict_entry t.conflicts ++ map held_entry held_list))
      ∙ last_skips closing_entry (λ x. refl) 0 t.closings (map conflict_entry t.conflicts ++ map held_entry held_list)
      ∙ last_is t.conflict_count 0 t.conflicts (map held_entry held_list) (each_so _ _ (λ front x q. q.0) [] t.conflicts h.conflicts) h.numbered
      ∙ ap (last_conflict_behind t.conflict_count) (sym (append-nil (map held_entry held_list)))
      ∙ last_skips held_entry (λ x. refl) t.conflict_count held_list []

  abbrev last : ℕ
  last = t.filling.last_closed

  missing_found : first_missing last (t.received + 1) all ≡ last + 1
  missing_found =
      missing_skips (encoded_entry row_entry_key subscriber_row_value) (λ x. refl) last (t.received + 1) t.rows (map closing_entry t.closings ++ (map conflict_entry t.conflicts ++ map held_entry held_list))
      ∙ run_is last (t.received + 1) t.closings (map conflict_entry t.conflicts ++ map held_entry held_list) (each_so _ _ (λ front x q. q.0) [] t.closings h.closings) h.run
      ∙ missing_skips conflict_entry (λ x. refl) last (last + 1) t.conflicts (map held_entry held_list)
      ∙ ap (first_missing last (last + 1)) (sym (append-nil (map held_entry held_list)))
      ∙ missing_skips held_entry (λ x. refl) last (last + 1) held_list []

  above_last : nat_lt last (last + 1) ≡ true
  above_last = grind (arith, nat_tests)

  state_stands : (state_is_sound t.site (last_conflict all) (state_of t) && has_closings all (state_of t)) ≡ true
  state_stands =
      both_true (state_is_sound t.site (last_conflict all) (state_of t)) (has_closings all (state_of t))
      (ap (λ (n : ℕ). state_is_sound t.site n (state_of t)) last_found ∙ h.state)
      (ap (λ (n : ℕ). nat_lt last n) missing_found ∙ above_last)

  abbrev chosen : Bool → Result SubscriberState EntryKey
  chosen b = cond b (Ok (state_of t)) (Err state_key)

  begins : subscriber_first_state t.site all state_key (reading_of (state_key, subscriber_state t)) ≡ Ok (state_of t)
  begins = ap (subscriber_first_state t.site all state_key) (state_reads t h.fits) ∙ ap chosen state_stands

  rows_load : loaded_behind l (with_rows t held []) behind ≡ loaded_behind l (with_rows t held t.rows) (map closing_entry t.closings ++ (map conflict_entry t.conflicts ++ map held_entry held_list))
  rows_load =
      members_load l (encoded_entry row_entry_key subscriber_row_value) (λ x. Row x.0 x.1) (with_rows t held) (λ front x. refl) [] t.rows (map closing_entry t.closings ++ (map conflict_entry t.conflicts ++ map held_entry held_list))
      (one_by_one _ _ (λ front x q. (row_reads x.0 x.1 q.0 q.1, q.2)) [] t.rows h.rows)

  closings_load : loaded_behind l (with_closings t held []) (map closing_entry t.closings ++ (map conflict_entry t.conflicts ++ map held_entry held_list)) ≡ loaded_behind l (with_closings t held t.closings) (map conflict_entry t.conflicts ++ map held_entry held_list)
  closings_load =
      members_load l closing_entry Closed (with_closings t held) (λ front x. refl) [] t.closings (map conflict_entry t.conflicts ++ map held_entry held_list)
      (one_by_one _ _ (λ front x q. (closing_reads x q.0 q.1, q.2)) [] t.closings h.closings)

  conflicts_load : loaded_behind l (with_conflicts t held []) (map conflict_entry t.conflicts ++ map held_entry held_list) ≡ loaded_behind l (with_conflicts t held t.conflicts) (map held_entry held_list)
  conflicts_load =
      members_load l conflict_entry Lost (with_conflicts t held) (λ front x. refl) [] t.conflicts (map held_entry held_list)
      (one_by_one _ _ (λ front x q. (conflict_reads x q.0 q.1, q.2)) [] t.conflicts h.conflicts)

  abbrev with_all : List (ℕ × Holder) → SubscriberStored
  with_all now = record (with_conflicts t held t.conflicts) { held = now }

  abbrev IsHeldSo : ℕ × Holder → Type 0
  IsHeldSo p = (p.0 < 2 ^ 8) × IsHeld (held_ranges p.1) × (is_sound publication t (Held p.0 (held_ranges p.1)) ≡ true) × (option_map (λ identity. holder_of identity (held_ranges p.1)) (identity_at publication p.0) ≡ Some p.1)

  put_by_identity : (o : Option Identity) (now : List (ℕ × Holder)) (p : ℕ × Holder) → option_map (λ identity. holder_of identity (held_ranges p.1)) o ≡ Some p.1
      → option_map_or (λ identity. with_value_at now p.0 (holder_of identity (held_ranges p.1))) o now ≡ with_value_at now p.0 p.1
  put_by_identity None now p e = absurd cc
  put_by_identity (Some identity) now p e = ap (λ (holder : Holder). with_value_at now p.0 holder) (some_holder (holder_of identity (held_ranges p.1)) p.1 e)
    where
      some_holder : (a b : Holder) → (let x : Option Holder = Some a in x) ≡ Some b → a ≡ b
      some_holder a b e = cc

  held_load : (now ps : List (ℕ × Holder)) → AllByRecursion IsHeldSo ps → loaded_behind l (with_all now) (map held_entry ps) ≡ Ok (with_all (held_with now ps))
  held_load now [] g = refl
  held_load now (p ∷ ps) g =
      ap (λ (o : Option SubscriberRecord). go_on l (λ next. loaded_behind l next (map held_entry ps)) (with_all now) (held_key p.0) o) (held_reads p.0 p.1 g.0.0 g.0.1)
      ∙ rw g.0.2 (ap (λ (new : List (ℕ × Holder)). loaded_behind l (with_all new) (map held_entry ps)) (put_by_identity (identity_at publication p.0) now p g.0.3))
      ∙ held_load (with_value_at now p.0 p.1) ps g.1

  pub records_load : subscriber_loaded publication t.site held (subscriber_records t) ≡ Ok t
  records_load =
      ap (λ (m : Map). subscriber_loaded publication t.site held ((state_key, subscriber_state t) ∷ m)) behind_is
      ∙ ap (go_from publication t.site held behind) begins
      ∙ rows_load ∙ closings_load ∙ conflicts_load ∙ held_load held held_list h.received
      ∙ ap (λ (now : List (ℕ × Holder)). Ok (with_all now)) h.all_held
      ∙ ap (λ (x : SubscriberStored). Ok x) (whole t)
