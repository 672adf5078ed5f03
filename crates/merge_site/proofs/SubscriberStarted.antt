-- A subscriber that is started: the tables of its store can stand, and the keeper has their records.
use Rattle.std.proofs.Common.{◌≡◌, ℕ, ◌+◌, ◌^◌, ◌<◌, ◌≤◌, ◌==◌, ◌&&◌, nat_le, nat_lt, Bool, true, List, [], ◌∷◌, inl, inr, length, refl, sym, ap, subst, arith, Ok}
use Rattle.std.specs.Map.{keys_of}
use Rattle.std.specs.declared.option.Option.{Option}
use Rattle.std.proofs.lemmas.Bool.Decides.{nat_tests}
use Rattle.merge_types.specs.Limits.{entry_limit, number_limit}
use Rattle.merge_types.specs.declared.identifiers.SiteId.{SiteId}
use Rattle.merge_types.specs.declared.row_key.RowKey.{RowKey}
use Rattle.merge_units.specs.declared.site_row.SubscriberRow.{SubscriberRow}
use Rattle.merge_gens.specs.declared.closings.Closing.{Closing}
use Rattle.merge_conflict.specs.declared.row.ConflictRow.{ConflictRow}
use Rattle.merge_ident.specs.Holders.{Holder}
use Rattle.merge_schema.specs.Valid.{IsValid}
use Rattle.merge_schema.specs.declared.publication.Publication.{Publication}
use Rattle.merge_model.specs.Tables.Publications.{identities}
use Rattle.merge_model.specs.Publisher.{new_holders}
use Rattle.merge_model.specs.Tables.{SubscriberTables}
use Rattle.merge_ports.specs.Entries.{Map}
use Rattle.merge_record.specs.Rows.{IsSubscriberRow}
use Rattle.merge_record.specs.Tables.{IsRowKey}
use Rattle.merge_record.specs.Versions.{IsVersion}
use Rattle.merge_keeper.specs.Encoded.{encoded_entries}
use Rattle.merge_keeper.specs.Entries.{closing_pair, conflict_pair, held_key, held_value, state_key}
use Rattle.merge_keeper.specs.Given.{IsMap}
use Rattle.merge_keeper.specs.Orders.{IsSubscriberOrdered}
use Rattle.merge_keeper.specs.Start.{conflict_is_sound, is_counter, row_was_made, version_is_sound}
use Rattle.merge_keeper.specs.States.{IsConflict}
use Rattle.merge_keeper.specs.Stored.{subscriber_records, subscriber_state}
use Rattle.merge_keeper.specs.SubscriberRules.{KeepRules, Numbered, Run, state_of, value_of, with_closings, with_rows}
use Rattle.merge_keeper.specs.SubscriberStart.{closing_is_sound, entries_in, limit_of, no_state, row_is_sound, state_is_sound, subscriber_loaded, tables_with, talk_is_sound}
use Rattle.merge_keeper.specs.declared.stored.SubscriberStored.{SubscriberStored}
use Rattle.merge_keeper.proofs.First.{ok_is}
use Rattle.merge_keeper.proofs.Fronts.{all_mapped, each_so}
use Rattle.merge_keeper.proofs.SubscriberBack.{loaded_articles, loaded_back, loaded_keeps, loaded_ordered}
use Rattle.merge_sub.specs.Restoring.{CanStand, RowCanStand}
use Rattle.merge_sub.proofs.Standing.{NumberedOn, RunOn, generations-opened, numbers-below, numbers-rise, run-sound}
use Rattle.merge_site.specs.Kept.{HasRecords, IsFreshState}
use Rattle.merge_site.specs.Loading.{IsRead}
use Rattle.merge_site.specs.Subscribers.{AreKeyed, IsKeptSubscriber, records_of, subscriber_stored}
use Rattle.merge_site.proofs.Bare.{none_received}
use Rattle.merge_site.proofs.NewHolders.{held-keyed, new-beginning}
use Rattle.merge_site.proofs.Printed.{lost-records-printable, records-printable}
use Rattle.merge_site.proofs.Told.{kept-told}

-- ---- what a start keeps of each record

abbrev RowKept : Publication → List (ℕ × Holder) → SubscriberStored → List (RowKey × SubscriberRow) → RowKey × SubscriberRow → Type 0
RowKept publication held t front row = IsRowKey row.0 × IsSubscriberRow row.1 × (row_is_sound publication (with_rows t held front) row.0 row.1 ≡ true)

abbrev ClosingKept : List (ℕ × Holder) → SubscriberStored → List Closing → Closing → Type 0
ClosingKept held t front closing = (closing.generation < 2 ^ 64) × (closing.moment.0 < 2 ^ 64) × (closing_is_sound (with_closings t held front) closing ≡ true)

abbrev LostKept : Publication → SubscriberStored → List ConflictRow → ConflictRow → Type 0
LostKept publication t front row = (row.number < 2 ^ 64) × IsConflict (value_of row) × (conflict_is_sound publication (length front) t.conflict_count row ≡ true)

-- ---- the tables can stand

-- what is tested of the state
record StateStands (s : SubscriberTables) : Type 0 where
  unfilled : s.gens.filling.filled < entry_limit
  limited : s.gens.filling.last_closed ≤ number_limit
  within : s.received ≤ s.gens.filling.last_closed

state-tests : (site changes count conflicts talk : Bool) (closed limit filled entries received : ℕ)
    → (site && changes && nat_lt closed limit && count && nat_lt filled entries && conflicts && talk && nat_le received closed) ≡ true → (filled < entries) × (closed ≤ limit) × (received ≤ closed)
state-tests site changes count conflicts talk closed limit filled entries received is = (grind (arith, nat_tests, is), grind (arith, nat_tests, is), grind (arith, nat_tests, is))

state-stands : (s : SubscriberTables) → state_is_sound s.site s.conflict_count (state_of (subscriber_stored s)) ≡ true → StateStands s
unfolding state_is_sound
state-stands s is =
    let tests = state-tests (s.site.0 == s.site.0) (is_counter s.changes) (is_counter s.conflict_count) (nat_le s.conflict_count s.conflict_count) (talk_is_sound (state_of (subscriber_stored s)).talk) s.gens.filling.last_closed number_limit s.gens.filling.filled entry_limit s.received is in
    record { unfilled = tests.0; limited = tests.1; within = tests.2 }

row-tests : (version made opened : Bool) → (version && made && opened) ≡ true → (version ≡ true) × (made ≡ true) × (opened ≡ true)
row-tests version made opened is = (grind (arith, is), grind (arith, is), grind (arith, is))

version-fits : (fits lineage tops knows : Bool) → (fits && lineage && tops && knows) ≡ true → fits ≡ true
version-fits fits lineage tops knows is = grind (arith, is)

row-made : (number changes : ℕ) (maker : Bool) → (nat_le number changes && maker) ≡ true → number ≤ changes
row-made number changes maker is = grind (arith, nat_tests, is)

row-stands : (publication : Publication) (held : List (ℕ × Holder)) (s : SubscriberTables) → s.received ≤ s.gens.filling.last_closed → (front : List (RowKey × SubscriberRow)) (row : RowKey × SubscriberRow)
    → row_is_sound publication (with_rows (subscriber_stored s) held front) row.0 row.1 ≡ true → RowCanStand publication s row
unfolding row_is_sound version_is_sound row_was_made
row-stands publication held s within front row is =
    let tests = row-tests (version_is_sound publication row.0.article row.1.version) (row_was_made s.site.0 s.changes row.0 row.1.version) _ is in
    record {
      fits = version-fits _ _ _ _ tests.0;
      made = row-made _ _ _ tests.1;
      opened = generations-opened s.received s.gens.filling.last_closed within (λ (generation : ℕ). nat_lt (entries_in (with_rows (subscriber_stored s) held front) generation) (limit_of (with_rows (subscriber_stored s) held front) generation)) row.1.generations tests.2;
    }

runs-on : (last next : ℕ) (closings : List Closing) → Run last next closings → RunOn last next closings
runs-on last next [] run = tt
runs-on last next (closing ∷ closings) run = let below = run.1 in (run.0, grind (arith, nat_tests, below), runs-on last (next + 1) closings run.2)

pub numbered-on : (count last : ℕ) (rows : List ConflictRow) → Numbered count last rows → NumberedOn count last rows
numbered-on count last [] on = on
numbered-on count last (row ∷ rows) on = (on.0, numbered-on count (last + 1) rows on.1)

started-stands : (publication : Publication) (held : List (ℕ × Holder)) (s : SubscriberTables) → KeepRules publication held (subscriber_stored s) → IsSubscriberOrdered (subscriber_stored s) → keys_of s.held ≡ keys_of (new_holders publication) → CanStand publication s
started-stands publication held s rules ordered articles =
    let state : StateStands s = state-stands s rules.state in
    record {
      ascending = ordered.rows;
      rows = each_so (RowCanStand publication s) (RowKept publication held (subscriber_stored s)) (λ front row keep. row-stands publication held s state.within front row keep.2) [] s.rows rules.rows;
      gens = run-sound s.gens.filling (s.received + 1) s.gens.closings state.unfilled (runs-on s.gens.filling.last_closed (s.received + 1) s.gens.closings rules.run);
      within = state.within;
      limited = state.limited;
      ranged = articles;
      rising = numbers-rise s.conflict_count 0 s.conflicts (numbered-on s.conflict_count 0 s.conflicts rules.numbered);
      numbered = numbers-below s.conflict_count 0 s.conflicts (numbered-on s.conflict_count 0 s.conflicts rules.numbered);
    }

-- ---- the keeper has their records

started-keyed : (publication : Publication) → length publication.articles ≤ 32 → (held : List (ℕ × Holder)) (s : SubscriberTables) → KeepRules publication held (subscriber_stored s) → IsSubscriberOrdered (subscriber_stored s) → keys_of s.held ≡ keys_of (new_holders publication) → AreKeyed s
unfolding AreKeyed
started-keyed publication few held s rules ordered articles = record {
  rows = each_so (λ (row : RowKey × SubscriberRow). IsRowKey row.0) (RowKept publication held (subscriber_stored s)) (λ front row keep. keep.0) [] s.rows rules.rows;
  closings = all_mapped _ closing_pair s.gens.closings (each_so (λ (closing : Closing). closing.generation < 2 ^ 64) (ClosingKept held (subscriber_stored s)) (λ front closing keep. keep.0) [] s.gens.closings rules.closings);
  conflicts = all_mapped _ conflict_pair s.conflicts (each_so (λ (row : ConflictRow). row.number < 2 ^ 64) (LostKept publication (subscriber_stored s)) (λ front row keep. keep.0) [] s.conflicts rules.conflicts);
  held = held-keyed publication few s.held articles;
  sorted = ordered.held;
}

-- a store of no entries is bare
begun-alone : (publication : Publication) (site : SiteId) (t : SubscriberStored) → tables_with site (new_holders publication) (no_state site) ≡ t → subscriber_records t ≡ (state_key, subscriber_state t) ∷ []
begun-alone publication site t is =
    subst (λ (t : SubscriberStored). subscriber_records t ≡ (state_key, subscriber_state t) ∷ []) is
    (ap (λ (l : List (ℕ × Holder)). (let m : Map = (state_key, subscriber_state (tables_with site (new_holders publication) (no_state site))) ∷ encoded_entries held_key held_value l in m)) (none_received (identities publication)))

first-fresh : (publication : Publication) (site : SiteId) → IsFreshState (subscriber_state (tables_with site (new_holders publication) (no_state site)))
first-fresh publication site = inr (site, refl)

begun-fresh : (publication : Publication) (site : SiteId) (t : SubscriberStored) → tables_with site (new_holders publication) (no_state site) ≡ t → IsFreshState (subscriber_state t)
begun-fresh publication site t is = subst (λ (t : SubscriberStored). IsFreshState (subscriber_state t)) is (first-fresh publication site)

has-records : (publication : Publication) (site : SiteId) (entries : Map) → IsMap entries → (s : SubscriberTables) → subscriber_loaded publication site (new_holders publication) entries ≡ Ok (subscriber_stored s) → HasRecords (records_of s) entries
unfolding HasRecords records_of
has-records publication site [] is_map s loads =
    let begun : tables_with site (new_holders publication) (no_state site) ≡ subscriber_stored s = ok_is (tables_with site (new_holders publication) (no_state site)) (subscriber_stored s) loads in
    inr (record { empty = refl; state = subscriber_state (subscriber_stored s); alone = begun-alone publication site (subscriber_stored s) begun; fresh = begun-fresh publication site (subscriber_stored s) begun })
has-records publication site (e ∷ es) is_map s loads =
    let back = loaded_back publication site (new_holders publication) e es (subscriber_stored s) is_map (new-beginning publication) loads in
    inl back.records

-- ---- what a start gives

pub record Started (publication : Publication) (site : SiteId) (s : SubscriberTables) (told : Option Map) : Type 0 where
  pub stands : CanStand publication s
  pub kept : IsKeptSubscriber s told
  pub own : s.site ≡ site

pub started : (publication : Publication) → ((resolvers : ℕ) × IsValid resolvers publication) → (site : SiteId) → site.0 < 2 ^ 16 → (told : Option Map) (stored : SubscriberStored) → IsRead (subscriber_loaded publication site (new_holders publication)) told (Ok stored)
    → (s : SubscriberTables) → subscriber_stored s ≡ stored → Started publication site s told
started publication valid site fits told stored read s is =
    let v = valid.1 in
    let loads : subscriber_loaded publication site (new_holders publication) read.entries ≡ Ok (subscriber_stored s) = subst (λ (t : SubscriberStored). subscriber_loaded publication site (new_holders publication) read.entries ≡ Ok t) (sym is) read.load_to in
    let rules : KeepRules publication (new_holders publication) (subscriber_stored s) = loaded_keeps publication site (new_holders publication) read.entries (subscriber_stored s) fits read.are_map (new-beginning publication) loads in
    let ordered : IsSubscriberOrdered (subscriber_stored s) = loaded_ordered publication site (new_holders publication) read.entries (subscriber_stored s) read.are_map (new-beginning publication) loads in
    let own = loaded_articles publication site (new_holders publication) read.entries (subscriber_stored s) read.are_map (new-beginning publication) loads in
    record {
      stands = started-stands publication (new_holders publication) s rules ordered own.1;
      kept = record {
        keyed = started-keyed publication v.some_articles.1 (new_holders publication) s rules ordered own.1;
        kept = kept-told (records_of s) read.entries (has-records publication site read.entries read.are_map s loads) told read.are_told;
        printable = records-printable (λ (row : SubscriberRow). row.version) s.rows (each_so (λ (row : RowKey × SubscriberRow). IsVersion row.1.version) (RowKept publication (new_holders publication) (subscriber_stored s)) (λ front row keep. keep.1.0) [] s.rows rules.rows);
        lost = lost-records-printable s.conflicts (each_so (λ (row : ConflictRow). IsVersion row.losing) (LostKept publication (subscriber_stored s)) (λ front row keep. keep.1.1) [] s.conflicts rules.conflicts);
      };
      own = own.0;
    }
