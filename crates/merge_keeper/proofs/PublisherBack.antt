-- What the publisher's store loads to keeps the rules, and the store has no other record than those of its tables.
use Rattle.std.proofs.Common.{◌≡◌, ◌∙◌, ℕ, ◌+◌, ◌^◌, ◌<◌, ◌≤◌, ◌==◌, ◌&&◌, ◌||◌, not, nat_le, nat_lt, Bool, true, false, cond, List, [], ◌∷◌, ◌++◌, map, filter, length, Option, Some, None, is_some, Result, Ok, Err, refl, sym, ap, subst, inl, inr, ◌⊎◌, arith}
use Rattle.std.specs.List.{AllByRecursion}
use Rattle.std.specs.List.Sorted.{IsStrictlySortedBy}
use Rattle.std.specs.Map.{keys_of}
use Rattle.std.specs.Option.{option_map}
use Rattle.std.specs.Ordering.{nat_cmp}
use Rattle.std.proofs.lemmas.Bool.{eqb-true}
use Rattle.std.proofs.lemmas.Bool.Decides.{nat_tests}
use Rattle.std.proofs.lemmas.List.{append-nil, map-append}
use Rattle.merge_types.specs.Limits.{entry_limit}
use Rattle.merge_types.specs.RowKeys.{key_cmp}
use Rattle.merge_types.specs.declared.identifiers.Moment.{Moment}
use Rattle.merge_types.specs.declared.row_key.RowKey.{RowKey}
use Rattle.merge_units.specs.declared.site_row.PublisherRow.{PublisherRow}
use Rattle.merge_gens.specs.Moves.{row_site_cmp}
use Rattle.merge_gens.specs.declared.closings.Closing.{Closing}
use Rattle.merge_gens.specs.declared.moves.Mapping.{Mapping}
use Rattle.merge_gens.specs.declared.moves.RowSite.{RowSite}
use Rattle.merge_gens.specs.declared.sites.SiteState.{SiteState}
use Rattle.merge_conflict.specs.declared.row.ConflictRow.{ConflictRow}
use Rattle.merge_ident.specs.Holders.{Holder}
use Rattle.merge_ident.specs.Stored.{can_follow}
use Rattle.merge_ident.specs.declared.grants.Grant.{Grant}
use Rattle.merge_ident.specs.declared.grants.Range.{Range}
use Rattle.merge_schema.specs.declared.publication.Publication.{Publication}
use Rattle.merge_batch.specs.Lineages.{is_site}
use Rattle.merge_ports.specs.declared.entry.EntryKey.{EntryKey}
use Rattle.merge_ports.specs.Entries.{Map, entry_cmp}
use Rattle.merge_record.specs.Tables.{IsRowKey, IsRowSite}
use Rattle.merge_record.specs.declared.ranges.HeldRanges.{HeldRanges}
use Rattle.merge_keeper.specs.Entries.{closing_entries, closing_key, closing_pair, conflict_entries, conflict_key, conflict_pair, held_key, held_ranges, mapping_entries, mapping_key, publisher_row_value, range_entries, row_entries, row_entry_key, site_entries, site_key, state_key, was_received}
use Rattle.merge_keeper.specs.Encoded.{encoded_entries}
use Rattle.merge_keeper.specs.Given.{IsBeginning, IsMap}
use Rattle.merge_keeper.specs.Orders.{IsPublisherOrdered}
use Rattle.merge_keeper.specs.PublisherRules.{held_pair, own_ranges, range_pairs, range_records, state_of, with_records, IsRangeRecord, KeepRules}
use Rattle.merge_keeper.specs.PublisherStart.{closing_is_sound, go_from, grant_is_sound, is_held, is_sound, loading_of_publisher, move_is_sound, no_state, own_is_sound, publisher_first_state, publisher_loaded, reading_of, row_is_sound, site_is_sound, state_is_sound, tables_with, with_record}
use Rattle.merge_keeper.specs.Start.{are_kept, conflict_is_sound, holder_of, holds_last, identity_at, is_counter, last_conflict, last_conflict_behind, last_own, loaded_behind, own_count, own_grants, KeepOneByOne, Loading}
use Rattle.merge_keeper.specs.States.{IsFront}
use Rattle.merge_keeper.specs.Stored.{publisher_records, publisher_state, HasGrantKey}
use Rattle.merge_keeper.specs.SubscriberRules.{held_with, Numbered}
use Rattle.merge_keeper.specs.declared.publisher_record.PublisherRecord.{PublisherRecord}
use Rattle.merge_keeper.specs.declared.publisher_record.PublisherRecord.TheVariants.{State, Row, Mapped, Closed, Lost, Held, Granted, Subscribed}
use Rattle.merge_keeper.specs.declared.states.Front.{Front}
use Rattle.merge_keeper.specs.declared.stored.PublisherStored.{PublisherStored}
use Rattle.merge_keeper.proofs.Back.{Split, after, found, key_at, split, Ascend, AreFrom, Sound}
use Rattle.merge_keeper.proofs.Begins.{all_put_all, put_all}
use Rattle.merge_keeper.proofs.BookBack.{chain_in, no_book, AreBook, Chain}
use Rattle.merge_keeper.proofs.First.{ok_is}
use Rattle.merge_keeper.proofs.Follow.{closing_keys_order, conflict_keys_order, held_keys_order, mapping_keys_order, row_keys_order, site_keys_order}
use Rattle.merge_keeper.proofs.Fronts.{all_mapped, all_so, and_first, and_second, both_true, each_so, map_as, map_same, map_twice, one_by_one, sorted_as, sorted_split}
use Rattle.merge_keeper.proofs.HeldBack.{held_after, held_keys, held_put, holder_pair, none_left, received_back, restored, IsReceived}
use Rattle.merge_keeper.proofs.Loads.{sound_fits}
use Rattle.merge_keeper.proofs.PublisherLoad.{all_of, bytes_of, entries_of, last_of_all, mapping_con, owns_of, pairs_encoded, pairs_listed, row_con, same_key, site_con, IsRangePair}
use Rattle.merge_keeper.proofs.PublisherReads.{entry_of, own_ranges_are, record_is, state_bytes, Fits}
use Rattle.merge_keeper.proofs.Ranges.{grants_of, helds_of, ranges_put, with_more, AreRanges, Pair}
use Rattle.merge_keeper.proofs.RangesBack.{granted, helds_ascend, merged, others_none, pair_of, put_as_read, ranges_pair}
use Rattle.merge_keeper.proofs.Sought.{conflict_entry, numbered_found}

no_truth : false ≡ true → ⊥
no_truth e = cc

-- ---- which records stand in which table

row_of : (r : PublisherRecord) → (entry_of r).0.table ≡ 2 → (x : RowKey × PublisherRow) × (r ≡ row_con x)
row_of (State s) e = absurd (omega (arith, e))
row_of (Row key row) e = ((key, row), refl)
row_of (Mapped place mapping) e = absurd (omega (arith, e))
row_of (Closed c) e = absurd (omega (arith, e))
row_of (Lost row) e = absurd (omega (arith, e))
row_of (Held article held) e = absurd (omega (arith, e))
row_of (Granted grant) e = absurd (omega (arith, e))
row_of (Subscribed site state) e = absurd (omega (arith, e))

mapping_of : (r : PublisherRecord) → (entry_of r).0.table ≡ 3 → (x : RowSite × Mapping) × (r ≡ mapping_con x)
mapping_of (State s) e = absurd (omega (arith, e))
mapping_of (Row key row) e = absurd (omega (arith, e))
mapping_of (Mapped place mapping) e = ((place, mapping), refl)
mapping_of (Closed c) e = absurd (omega (arith, e))
mapping_of (Lost row) e = absurd (omega (arith, e))
mapping_of (Held article held) e = absurd (omega (arith, e))
mapping_of (Granted grant) e = absurd (omega (arith, e))
mapping_of (Subscribed site state) e = absurd (omega (arith, e))

closing_of : (r : PublisherRecord) → (entry_of r).0.table ≡ 4 → (x : Closing) × (r ≡ Closed x)
closing_of (State s) e = absurd (omega (arith, e))
closing_of (Row key row) e = absurd (omega (arith, e))
closing_of (Mapped place mapping) e = absurd (omega (arith, e))
closing_of (Closed c) e = (c, refl)
closing_of (Lost row) e = absurd (omega (arith, e))
closing_of (Held article held) e = absurd (omega (arith, e))
closing_of (Granted grant) e = absurd (omega (arith, e))
closing_of (Subscribed site state) e = absurd (omega (arith, e))

lost_of : (r : PublisherRecord) → (entry_of r).0.table ≡ 5 → (x : ConflictRow) × (r ≡ Lost x)
lost_of (State s) e = absurd (omega (arith, e))
lost_of (Row key row) e = absurd (omega (arith, e))
lost_of (Mapped place mapping) e = absurd (omega (arith, e))
lost_of (Closed c) e = absurd (omega (arith, e))
lost_of (Lost row) e = (row, refl)
lost_of (Held article held) e = absurd (omega (arith, e))
lost_of (Granted grant) e = absurd (omega (arith, e))
lost_of (Subscribed site state) e = absurd (omega (arith, e))

-- what is held, or a grant
abbrev Ranged : Type 0
Ranged = (ℕ × HeldRanges) ⊎ Grant

abbrev range_con : Ranged → PublisherRecord
range_con (inl x) = Held x.0 x.1
range_con (inr grant) = Granted grant

range_of : (r : PublisherRecord) → (entry_of r).0.table ≡ 6 → (x : Ranged) × (r ≡ range_con x)
range_of (State s) e = absurd (omega (arith, e))
range_of (Row key row) e = absurd (omega (arith, e))
range_of (Mapped place mapping) e = absurd (omega (arith, e))
range_of (Closed c) e = absurd (omega (arith, e))
range_of (Lost row) e = absurd (omega (arith, e))
range_of (Held article held) e = (inl (article, held), refl)
range_of (Granted grant) e = (inr grant, refl)
range_of (Subscribed site state) e = absurd (omega (arith, e))

site_of : (r : PublisherRecord) → (entry_of r).0.table ≡ 7 → (x : ℕ × SiteState) × (r ≡ site_con x)
site_of (State s) e = absurd (omega (arith, e))
site_of (Row key row) e = absurd (omega (arith, e))
site_of (Mapped place mapping) e = absurd (omega (arith, e))
site_of (Closed c) e = absurd (omega (arith, e))
site_of (Lost row) e = absurd (omega (arith, e))
site_of (Held article held) e = absurd (omega (arith, e))
site_of (Granted grant) e = absurd (omega (arith, e))
site_of (Subscribed site state) e = ((site, state), refl)

not_past_seven : (r : PublisherRecord) → 8 ≤ (entry_of r).0.table → ⊥
not_past_seven (State s) h = omega (arith, h)
not_past_seven (Row key row) h = omega (arith, h)
not_past_seven (Mapped place mapping) h = omega (arith, h)
not_past_seven (Closed c) h = omega (arith, h)
not_past_seven (Lost row) h = omega (arith, h)
not_past_seven (Held article held) h = omega (arith, h)
not_past_seven (Granted grant) h = omega (arith, h)
not_past_seven (Subscribed site state) h = omega (arith, h)

none_past_seven : (rs : List PublisherRecord) → AreFrom entry_of 8 rs → rs ≡ []
none_past_seven [] h = refl
none_past_seven (r ∷ rs) h = absurd (not_past_seven r h.0)

-- a second state breaks a rule
not_state : (publication : Publication) (owns : List (ℕ × Range)) (t : PublisherStored) (r : PublisherRecord) → is_sound publication owns t r ≡ true → 2 ≤ (entry_of r).0.table
not_state publication owns t (State s) h = absurd (no_truth h)
not_state publication owns t (Row key row) h = omega arith
not_state publication owns t (Mapped place mapping) h = omega arith
not_state publication owns t (Closed c) h = omega arith
not_state publication owns t (Lost row) h = omega arith
not_state publication owns t (Held article held) h = omega arith
not_state publication owns t (Granted grant) h = omega arith
not_state publication owns t (Subscribed site state) h = omega arith

from_two : (publication : Publication) (owns : List (ℕ × Range)) (t : PublisherStored) (rs : List PublisherRecord) → Sound (loading_of_publisher publication owns) Fits t rs → AreFrom entry_of 2 rs
from_two publication owns t [] h = tt
from_two publication owns t (r ∷ rs) h = (not_state publication owns t r h.0.1, from_two publication owns (with_record publication t r) rs h.1)

-- ---- the state stands in front

record SoundState (last : ℕ) (s : Front) : Type 0 where
  site_is : s.site ≡ 0
  conflicts : s.conflicts ≤ last
  own : state_is_sound s.conflicts s ≡ true

sound_state : (last : ℕ) (s : Front) → state_is_sound last s ≡ true → SoundState last s
unfolding state_is_sound
sound_state last s h =
    let front : Bool = (s.site == 0) && is_counter s.changes && is_counter s.last_closed && is_counter s.conflicts && nat_lt s.filled entry_limit in
    let own : nat_le s.conflicts s.conflicts ≡ true = grind (arith, nat_tests) in
    let a = and_first front (nat_le s.conflicts last) h in
    let b = and_first ((s.site == 0) && is_counter s.changes && is_counter s.last_closed) (is_counter s.conflicts) (and_first _ (nat_lt s.filled entry_limit) a) in
    let c = and_first (s.site == 0) (is_counter s.changes) (and_first _ (is_counter s.last_closed) b) in
    record {
      site_is = eqb-true s.site 0 c;
      conflicts = grind (arith, nat_tests, and_second front (nat_le s.conflicts last) h);
      own = both_true front (nat_le s.conflicts s.conflicts) a own;
    }

begun_by_test : (q s : Front) (key : EntryKey) (b : Bool) → (let r : Result Front EntryKey = cond b (Ok q) (Err key) in r) ≡ Ok s → (q ≡ s) × (b ≡ true)
begun_by_test q s key true e = (ok_is q s e, refl)
begun_by_test q s key false e = absurd cc

record Begins (last : ℕ) (o : Option PublisherRecord) (s : Front) : Type 0 where
  read : o ≡ Some (State s)
  sound : state_is_sound last s ≡ true

begins : (last : ℕ) (key : EntryKey) (o : Option PublisherRecord) (s : Front) → publisher_first_state last key o ≡ Ok s → Begins last o s
begins last key None s e = absurd cc
begins last key (Some (Row k row)) s e = absurd cc
begins last key (Some (Mapped place mapping)) s e = absurd cc
begins last key (Some (Closed c)) s e = absurd cc
begins last key (Some (Lost row)) s e = absurd cc
begins last key (Some (Held article held)) s e = absurd cc
begins last key (Some (Granted grant)) s e = absurd cc
begins last key (Some (Subscribed site state)) s e = absurd cc
begins last key (Some (State q)) s e =
    let h = begun_by_test q s key (state_is_sound last q) e in
    record {
      read = ap (λ (x : Front). (let o : Option PublisherRecord = Some (State x) in o)) h.0;
      sound = subst (λ (x : Front). state_is_sound last x ≡ true) h.0 h.1;
    }

goes_from : (publication : Publication) (owns : List (ℕ × Range)) (held : List (ℕ × Holder)) (es : Map) (t : PublisherStored) (r : Result Front EntryKey) → go_from publication owns held es r ≡ Ok t
    → (s : Front) × (r ≡ Ok s) × (loaded_behind (loading_of_publisher publication owns) (tables_with held s) es ≡ Ok t)
goes_from publication owns held es t (Ok s) e = (s, refl, e)
goes_from publication owns held es t (Err key) e = absurd cc

-- ---- the lists behind it

abbrev tables : List (ℕ × Holder) → Front → List (RowKey × PublisherRow) → List (RowSite × Mapping) → List Closing → List ConflictRow → PublisherStored
tables held s rows mappings closings conflicts = record (tables_with held s) { rows = rows; mappings = mappings; closings = closings; conflicts = conflicts }

abbrev with_ranged : Publication → PublisherStored → List Ranged → PublisherStored
with_ranged publication t xs = with_records publication t (map range_con xs)

abbrev full : Publication → PublisherStored → List Ranged → List (ℕ × SiteState) → PublisherStored
full publication t xs sites = record t { held = held_after publication t.held (helds_of (map range_con xs)); grants = put_all t.grants (grants_of (map range_con xs)); sites = sites }

one_ranged : (publication : Publication) (t : PublisherStored) (front : List Ranged) (x : Ranged) → with_record publication (with_ranged publication t front) (range_con x) ≡ with_ranged publication t (front ++ x ∷ [])
one_ranged publication t front x = with_more publication t (map range_con front) (range_con x) ∙ ap (with_records publication t) (sym (map-append range_con front (x ∷ [])))

are_ranges : (xs : List Ranged) → AreRanges (map range_con xs)
are_ranges [] = tt
are_ranges (inl x ∷ xs) = (refl, are_ranges xs)
are_ranges (inr grant ∷ xs) = (refl, are_ranges xs)

-- The lists of what loads, from the last table to the first: each member keeps the rules behind those before it.
module _ (publication : Publication) (owns : List (ℕ × Range)) (held : List (ℕ × Holder)) (s : Front) where
  abbrev loads : Loading PublisherStored PublisherRecord
  loads = loading_of_publisher publication owns

  -- sites alone, behind all other tables
  record Sites (t : PublisherStored) (rs : List PublisherRecord) : Type 0 where
    sites : List (ℕ × SiteState)
    parts : rs ≡ map site_con sites
    now_is : after loads t rs ≡ record t { sites = sites }
    sound : AllByRecursion (λ x. Fits (site_con x) × (site_is_sound publication t.filling.last_closed x.0 x.1 ≡ true)) sites
    up : IsStrictlySortedBy nat_cmp (keys_of sites)

  module _ (base : PublisherStored) (xs : List Ranged) where
    abbrev with_sites : List (ℕ × SiteState) → PublisherStored
    with_sites f = full publication base xs f

    sites_split : (rs : List PublisherRecord) → Ascend entry_of rs → Split loads entry_of Fits site_con with_sites 7 [] rs → Sites (with_sites []) rs
    sites_split rs up g =
        let ups = sorted_split entry_cmp (key_at entry_of) site_con g.members g.rest (subst (Ascend entry_of) g.parts up) in
        let none : g.rest ≡ [] = none_past_seven g.rest g.above in
        record {
          sites = g.members;
          parts = g.parts ∙ ap (λ (l : List PublisherRecord). map site_con g.members ++ l) none ∙ append-nil (map site_con g.members);
          now_is = g.after_is ∙ ap (after loads (with_sites g.members)) none;
          sound = each_so _ _ (λ f x q. q) [] g.members g.sound;
          up = sorted_as entry_cmp nat_cmp (λ (x : ℕ × SiteState). site_key x.0) (λ (x : ℕ × SiteState). x.0) (λ (x : ℕ × SiteState). x.0 < 2 ^ 16) (λ x y p q. site_keys_order.same x.0 y.0 p q) g.members (each_so _ _ (λ f x q. q.0.0) [] g.members g.sound) ups.0;
        }

    sites_of : (rs : List PublisherRecord) → Ascend entry_of rs → AreFrom entry_of 7 rs → Sound loads Fits (with_sites []) rs → Sites (with_sites []) rs
    sites_of rs up above sound = sites_split rs up (split loads entry_of Fits site_con with_sites 7 site_of (λ f x. refl) [] rs up above sound)

  -- ranges, and sites behind them
  record Ranges (base : PublisherStored) (rs : List PublisherRecord) : Type 0 where
    ranges : List Ranged
    sites : List (ℕ × SiteState)
    parts : rs ≡ map range_con ranges ++ map site_con sites
    now_is : after loads base rs ≡ full publication base ranges sites
    ranges_sound : KeepOneByOne (λ f x. Fits (range_con x) × (is_sound publication owns (with_ranged publication base f) (range_con x) ≡ true)) [] ranges
    sites_sound : AllByRecursion (λ x. Fits (site_con x) × (site_is_sound publication base.filling.last_closed x.0 x.1 ≡ true)) sites
    ranges_up : Ascend entry_of (map range_con ranges)
    sites_up : IsStrictlySortedBy nat_cmp (keys_of sites)

  module _ (base : PublisherStored) (bare : base.sites ≡ []) where
    is_full : (xs : List Ranged) → with_ranged publication base xs ≡ full publication base xs []
    is_full xs = ranges_put publication base (map range_con xs) (are_ranges xs) ∙ ap (λ (sites : List (ℕ × SiteState)). full publication base xs sites) bare

    ranges_with : (rs : List PublisherRecord) (e : Split loads entry_of Fits range_con (with_ranged publication base) 6 [] rs) → IsStrictlySortedBy entry_cmp (map (λ x. key_at entry_of (range_con x)) e.members) → Sites (full publication base e.members []) e.rest → Ranges base rs
    ranges_with rs e up g = record {
      ranges = e.members;
      sites = g.sites;
      parts = e.parts ∙ ap (λ (l : List PublisherRecord). map range_con e.members ++ l) g.parts;
      now_is = e.after_is ∙ ap (λ (t : PublisherStored). after loads t e.rest) (is_full e.members) ∙ g.now_is;
      ranges_sound = e.sound;
      sites_sound = g.sound;
      ranges_up = subst (IsStrictlySortedBy entry_cmp) (sym (map_twice (key_at entry_of) range_con e.members)) up;
      sites_up = g.up;
    }

    ranges_split : (rs : List PublisherRecord) → Ascend entry_of rs → Split loads entry_of Fits range_con (with_ranged publication base) 6 [] rs → Ranges base rs
    ranges_split rs up e =
        let ups = sorted_split entry_cmp (key_at entry_of) range_con e.members e.rest (subst (Ascend entry_of) e.parts up) in
        ranges_with rs e ups.0 (sites_of base e.members e.rest ups.1 e.above (subst (λ (t : PublisherStored). Sound loads Fits t e.rest) (is_full e.members) e.rest_sound))

    ranges_of : (rs : List PublisherRecord) → Ascend entry_of rs → AreFrom entry_of 6 rs → Sound loads Fits base rs → Ranges base rs
    ranges_of rs up above sound = ranges_split rs up (split loads entry_of Fits range_con (with_ranged publication base) 6 range_of (one_ranged publication base) [] rs up above sound)

  -- conflicts, and ranges behind them
  record Conflicts (rows : List (RowKey × PublisherRow)) (mappings : List (RowSite × Mapping)) (closings : List Closing) (rs : List PublisherRecord) : Type 0 where
    conflicts : List ConflictRow
    rest : List PublisherRecord
    more : Ranges (tables held s rows mappings closings conflicts) rest
    parts : rs ≡ map Lost conflicts ++ rest
    now_is : after loads (tables held s rows mappings closings []) rs ≡ after loads (tables held s rows mappings closings conflicts) rest
    sound : KeepOneByOne (λ f x. Fits (Lost x) × (conflict_is_sound publication (length f) s.conflicts x ≡ true)) [] conflicts
    up : IsStrictlySortedBy nat_cmp (map (λ (row : ConflictRow). row.number) conflicts)

  module _ (rows : List (RowKey × PublisherRow)) (mappings : List (RowSite × Mapping)) (closings : List Closing) where
    conflicts_split : (rs : List PublisherRecord) → Ascend entry_of rs → Split loads entry_of Fits Lost (λ f. tables held s rows mappings closings f) 5 [] rs → Conflicts rows mappings closings rs
    conflicts_split rs up d =
        let ups = sorted_split entry_cmp (key_at entry_of) Lost d.members d.rest (subst (Ascend entry_of) d.parts up) in
        record {
          conflicts = d.members;
          rest = d.rest;
          more = ranges_of (tables held s rows mappings closings d.members) refl d.rest ups.1 d.above d.rest_sound;
          parts = d.parts;
          now_is = d.after_is;
          sound = d.sound;
          up = sorted_as entry_cmp nat_cmp (λ (x : ConflictRow). conflict_key x.number) (λ (x : ConflictRow). x.number) (λ (x : ConflictRow). x.number < 2 ^ 64) (λ x y p q. conflict_keys_order.same x.number y.number p q) d.members (each_so _ _ (λ f x q. q.0.0) [] d.members d.sound) ups.0;
        }

    conflicts_of : (rs : List PublisherRecord) → Ascend entry_of rs → AreFrom entry_of 5 rs → Sound loads Fits (tables held s rows mappings closings []) rs → Conflicts rows mappings closings rs
    conflicts_of rs up above sound = conflicts_split rs up (split loads entry_of Fits Lost (λ f. tables held s rows mappings closings f) 5 lost_of (λ f x. refl) [] rs up above sound)

  -- closed generations, and conflicts behind them
  record Closings (rows : List (RowKey × PublisherRow)) (mappings : List (RowSite × Mapping)) (rs : List PublisherRecord) : Type 0 where
    closings : List Closing
    rest : List PublisherRecord
    more : Conflicts rows mappings closings rest
    parts : rs ≡ map Closed closings ++ rest
    now_is : after loads (tables held s rows mappings [] []) rs ≡ after loads (tables held s rows mappings closings []) rest
    sound : AllByRecursion (λ x. Fits (Closed x) × (closing_is_sound s.last_closed x ≡ true)) closings
    up : IsStrictlySortedBy nat_cmp (map (λ (c : Closing). c.generation) closings)

  module _ (rows : List (RowKey × PublisherRow)) (mappings : List (RowSite × Mapping)) where
    closings_split : (rs : List PublisherRecord) → Ascend entry_of rs → Split loads entry_of Fits Closed (λ f. tables held s rows mappings f []) 4 [] rs → Closings rows mappings rs
    closings_split rs up c =
        let ups = sorted_split entry_cmp (key_at entry_of) Closed c.members c.rest (subst (Ascend entry_of) c.parts up) in
        record {
          closings = c.members;
          rest = c.rest;
          more = conflicts_of rows mappings c.members c.rest ups.1 c.above c.rest_sound;
          parts = c.parts;
          now_is = c.after_is;
          sound = each_so _ _ (λ f x q. q) [] c.members c.sound;
          up = sorted_as entry_cmp nat_cmp (λ (x : Closing). closing_key x.generation) (λ (x : Closing). x.generation) (λ (x : Closing). x.generation < 2 ^ 64) (λ x y p q. closing_keys_order.same x.generation y.generation p q) c.members (each_so _ _ (λ f x q. q.0.0) [] c.members c.sound) ups.0;
        }

    closings_of : (rs : List PublisherRecord) → Ascend entry_of rs → AreFrom entry_of 4 rs → Sound loads Fits (tables held s rows mappings [] []) rs → Closings rows mappings rs
    closings_of rs up above sound = closings_split rs up (split loads entry_of Fits Closed (λ f. tables held s rows mappings f []) 4 closing_of (λ f x. refl) [] rs up above sound)

  -- mappings, and closed generations behind them
  record Mappings (rows : List (RowKey × PublisherRow)) (rs : List PublisherRecord) : Type 0 where
    mappings : List (RowSite × Mapping)
    rest : List PublisherRecord
    more : Closings rows mappings rest
    parts : rs ≡ map mapping_con mappings ++ rest
    now_is : after loads (tables held s rows [] [] []) rs ≡ after loads (tables held s rows mappings [] []) rest
    sound : KeepOneByOne (λ f x. Fits (mapping_con x) × (move_is_sound publication (tables held s rows f [] []) x.0 x.1 ≡ true)) [] mappings
    up : IsStrictlySortedBy row_site_cmp (keys_of mappings)

  module _ (rows : List (RowKey × PublisherRow)) where
    mappings_split : (rs : List PublisherRecord) → Ascend entry_of rs → Split loads entry_of Fits mapping_con (λ f. tables held s rows f [] []) 3 [] rs → Mappings rows rs
    mappings_split rs up b =
        let ups = sorted_split entry_cmp (key_at entry_of) mapping_con b.members b.rest (subst (Ascend entry_of) b.parts up) in
        record {
          mappings = b.members;
          rest = b.rest;
          more = closings_of rows b.members b.rest ups.1 b.above b.rest_sound;
          parts = b.parts;
          now_is = b.after_is;
          sound = b.sound;
          up = sorted_as entry_cmp row_site_cmp (λ (x : RowSite × Mapping). mapping_key x.0) (λ (x : RowSite × Mapping). x.0) (λ (x : RowSite × Mapping). IsRowSite x.0) (λ x y p q. mapping_keys_order.same x.0 y.0 p q) b.members (each_so _ _ (λ f x q. q.0.0) [] b.members b.sound) ups.0;
        }

    mappings_of : (rs : List PublisherRecord) → Ascend entry_of rs → AreFrom entry_of 3 rs → Sound loads Fits (tables held s rows [] [] []) rs → Mappings rows rs
    mappings_of rs up above sound = mappings_split rs up (split loads entry_of Fits mapping_con (λ f. tables held s rows f [] []) 3 mapping_of (λ f x. refl) [] rs up above sound)

-- all lists of what loads, each member of which keeps the rules behind those before it
record Lists (publication : Publication) (owns : List (ℕ × Range)) (held : List (ℕ × Holder)) (s : Front) (rs : List PublisherRecord) : Type 0 where
  rows : List (RowKey × PublisherRow)
  mappings : List (RowSite × Mapping)
  closings : List Closing
  conflicts : List ConflictRow
  ranges : List Ranged
  sites : List (ℕ × SiteState)
  parts : rs ≡ all_of rows mappings closings conflicts (map range_con ranges) sites
  now_is : after (loading_of_publisher publication owns) (tables_with held s) rs ≡ full publication (tables held s rows mappings closings conflicts) ranges sites
  rows_sound : KeepOneByOne (λ f x. Fits (row_con x) × (row_is_sound publication (tables held s f [] [] []) x.0 x.1 ≡ true)) [] rows
  mappings_sound : KeepOneByOne (λ f x. Fits (mapping_con x) × (move_is_sound publication (tables held s rows f [] []) x.0 x.1 ≡ true)) [] mappings
  closings_sound : AllByRecursion (λ x. Fits (Closed x) × (closing_is_sound s.last_closed x ≡ true)) closings
  conflicts_sound : KeepOneByOne (λ f x. Fits (Lost x) × (conflict_is_sound publication (length f) s.conflicts x ≡ true)) [] conflicts
  ranges_sound : KeepOneByOne (λ f x. Fits (range_con x) × (is_sound publication owns (with_ranged publication (tables held s rows mappings closings conflicts) f) (range_con x) ≡ true)) [] ranges
  sites_sound : AllByRecursion (λ x. Fits (site_con x) × (site_is_sound publication s.last_closed x.0 x.1 ≡ true)) sites
  rows_up : IsStrictlySortedBy key_cmp (keys_of rows)
  mappings_up : IsStrictlySortedBy row_site_cmp (keys_of mappings)
  closings_up : IsStrictlySortedBy nat_cmp (map (λ (c : Closing). c.generation) closings)
  conflicts_up : IsStrictlySortedBy nat_cmp (map (λ (row : ConflictRow). row.number) conflicts)
  ranges_up : Ascend entry_of (map range_con ranges)
  sites_up : IsStrictlySortedBy nat_cmp (keys_of sites)

-- rows, and mappings behind them
module _ (publication : Publication) (owns : List (ℕ × Range)) (held : List (ℕ × Holder)) (s : Front) (rs : List PublisherRecord) where
  lists_with : (rows : List (RowKey × PublisherRow)) (rest : List PublisherRecord) → rs ≡ map row_con rows ++ rest → after (loading_of_publisher publication owns) (tables_with held s) rs ≡ after (loading_of_publisher publication owns) (tables held s rows [] [] []) rest
      → KeepOneByOne (λ f x. Fits (row_con x) × (row_is_sound publication (tables held s f [] [] []) x.0 x.1 ≡ true)) [] rows → IsStrictlySortedBy key_cmp (keys_of rows) → Mappings publication owns held s rows rest → Lists publication owns held s rs
  lists_with rows rest parts now_is sound up b =
      let c = b.more in
      let d = c.more in
      let e = d.more in
      record {
        rows = rows;
        mappings = b.mappings;
        closings = c.closings;
        conflicts = d.conflicts;
        ranges = e.ranges;
        sites = e.sites;
        parts = parts
            ∙ ap (λ (l : List PublisherRecord). map row_con rows ++ l)
            (b.parts
            ∙ ap (λ (l : List PublisherRecord). map mapping_con b.mappings ++ l)
            (c.parts ∙ ap (λ (l : List PublisherRecord). map Closed c.closings ++ l) (d.parts ∙ ap (λ (l : List PublisherRecord). map Lost d.conflicts ++ l) e.parts)));
        now_is = now_is ∙ b.now_is ∙ c.now_is ∙ d.now_is ∙ e.now_is;
        rows_sound = sound;
        mappings_sound = b.sound;
        closings_sound = c.sound;
        conflicts_sound = d.sound;
        ranges_sound = e.ranges_sound;
        sites_sound = e.sites_sound;
        rows_up = up;
        mappings_up = b.up;
        closings_up = c.up;
        conflicts_up = d.up;
        ranges_up = e.ranges_up;
        sites_up = e.sites_up;
      }

  rows_split : Ascend entry_of rs → Split (loading_of_publisher publication owns) entry_of Fits row_con (λ f. tables held s f [] [] []) 2 [] rs → Lists publication owns held s rs
  rows_split up a =
      let ups = sorted_split entry_cmp (key_at entry_of) row_con a.members a.rest (subst (Ascend entry_of) a.parts up) in
      lists_with a.members a.rest a.parts a.after_is a.sound
      (sorted_as entry_cmp key_cmp (λ (x : RowKey × PublisherRow). row_entry_key x.0) (λ (x : RowKey × PublisherRow). x.0) (λ (x : RowKey × PublisherRow). IsRowKey x.0) (λ x y p q. row_keys_order.same x.0 y.0 p q) a.members (each_so _ _ (λ f x q. q.0.0) [] a.members a.sound) ups.0)
      (mappings_of publication owns held s a.members a.rest ups.1 a.above a.rest_sound)

  lists : Ascend entry_of rs → Sound (loading_of_publisher publication owns) Fits (tables_with held s) rs → Lists publication owns held s rs
  lists up sound =
      rows_split up (split (loading_of_publisher publication owns) entry_of Fits row_con (λ f. tables held s f [] [] []) 2 row_of (λ f x. refl) [] rs up (from_two publication owns (tables_with held s) rs sound) sound)

-- ---- what the ranges say

own_received : (publication : Publication) (owns : List (ℕ × Range)) (article : ℕ) (held : HeldRanges) → own_is_sound publication owns article held ≡ true → IsReceived publication (article, held)
unfolding own_is_sound
own_received publication owns article held h =
    let identity : Bool = is_some (identity_at publication article) in
    let kept : Bool = are_kept held.ranges held.next in
    let have : Bool = nat_lt 0 held.have in
    let a = and_first (identity && kept && have) (held.have == own_count article owns) (and_first _ (holds_last (last_own article owns) held.ranges) h) in
    let b = and_first (identity && kept) have a in
    record { identity = and_first identity kept b; kept = and_second identity kept b; have = and_second (identity && kept) have a }

grant_follows : (publication : Publication) (t : PublisherStored) (g : Grant) → grant_is_sound publication t g ≡ true → can_follow t.grants g ≡ true
unfolding grant_is_sound
grant_follows publication t g h =
    let identity : Bool = is_some (identity_at publication g.article) && is_site publication g.site.0 in
    and_second identity (can_follow t.grants g) (and_first (identity && can_follow t.grants g) (not (g.site.0 == 0) || is_held t.held g.article) h)

abbrev SoundRanges : Publication → List (ℕ × Range) → PublisherStored → List Ranged → List Ranged → Type 0
SoundRanges publication owns t front xs = KeepOneByOne (λ f x. Fits (range_con x) × (is_sound publication owns (with_ranged publication t f) (range_con x) ≡ true)) front xs

chain_of : (publication : Publication) (owns : List (ℕ × Range)) (t : PublisherStored) (front xs : List Ranged) → SoundRanges publication owns t front xs → Chain (with_ranged publication t front).grants (grants_of (map range_con xs))
chain_of publication owns t front [] h = tt
chain_of publication owns t front (inl x ∷ xs) h =
    subst (λ (gs : List Grant). Chain gs (grants_of (map range_con xs))) (sym (ap (λ (t : PublisherStored). t.grants) (one_ranged publication t front (inl x)))) (chain_of publication owns t (front ++ inl x ∷ []) xs h.1)
chain_of publication owns t front (inr g ∷ xs) h = (
  grant_follows publication (with_ranged publication t front) g h.0.1,
  subst (λ (gs : List Grant). Chain gs (grants_of (map range_con xs))) (sym (ap (λ (t : PublisherStored). t.grants) (one_ranged publication t front (inr g)))) (chain_of publication owns t (front ++ inr g ∷ []) xs h.1),
)

helds_sound : (publication : Publication) (owns : List (ℕ × Range)) (t : PublisherStored) (front xs : List Ranged) → SoundRanges publication owns t front xs → AllByRecursion (IsReceived publication) (helds_of (map range_con xs))
helds_sound publication owns t front [] h = tt
helds_sound publication owns t front (inl x ∷ xs) h = (own_received publication owns x.0 x.1 h.0.1, helds_sound publication owns t (front ++ inl x ∷ []) xs h.1)
helds_sound publication owns t front (inr g ∷ xs) h = helds_sound publication owns t (front ++ inr g ∷ []) xs h.1

helds_fit : (publication : Publication) (owns : List (ℕ × Range)) (t : PublisherStored) (front xs : List Ranged) → SoundRanges publication owns t front xs → AllByRecursion (λ x. x.0 < 2 ^ 8) (helds_of (map range_con xs))
helds_fit publication owns t front [] h = tt
helds_fit publication owns t front (inl x ∷ xs) h = (h.0.0.0, helds_fit publication owns t (front ++ inl x ∷ []) xs h.1)
helds_fit publication owns t front (inr g ∷ xs) h = helds_fit publication owns t (front ++ inr g ∷ []) xs h.1

grants_keyed : (publication : Publication) (owns : List (ℕ × Range)) (t : PublisherStored) (front xs : List Ranged) → SoundRanges publication owns t front xs → AllByRecursion HasGrantKey (grants_of (map range_con xs))
grants_keyed publication owns t front [] h = tt
grants_keyed publication owns t front (inl x ∷ xs) h = grants_keyed publication owns t (front ++ inl x ∷ []) xs h.1
grants_keyed publication owns t front (inr g ∷ xs) h = (h.0.0.0, grants_keyed publication owns t (front ++ inr g ∷ []) xs h.1)

is_range : (x : Ranged) → Fits (range_con x) → IsRangeRecord (range_con x)
is_range (inl x) h = h
is_range (inr g) h = h

as_records : (Q : List PublisherRecord → PublisherRecord → Type 0) (front xs : List Ranged) → KeepOneByOne (λ f x. Q (map range_con f) (range_con x)) front xs → KeepOneByOne Q (map range_con front) (map range_con xs)
as_records Q front [] h = tt
as_records Q front (x ∷ xs) h = (h.0, subst (λ (f : List PublisherRecord). KeepOneByOne Q f (map range_con xs)) (map-append range_con front (x ∷ [])) (as_records Q (front ++ x ∷ []) xs h.1))

range_pairs_are : (xs : List Ranged) → AllByRecursion IsRangePair (map pair_of (map range_con xs))
range_pairs_are [] = tt
range_pairs_are (inl x ∷ xs) = ((refl, refl), range_pairs_are xs)
range_pairs_are (inr g ∷ xs) = ((refl, refl), range_pairs_are xs)

-- ---- all of it

pub record LoadedBack (publication : Publication) (held : List (ℕ × Holder)) (es : Map) (t : PublisherStored) : Type 0 where
  pub keeps : KeepRules publication held t
  pub records : es ≡ publisher_records t
  pub ordered : IsPublisherOrdered t
  pub articles : keys_of t.held ≡ keys_of held

module _ (publication : Publication) (held : List (ℕ × Holder)) (beginning : IsBeginning publication held) (s : Front) (last : ℕ) (all : Map) (fits : IsFront s) (sound : state_is_sound last s ≡ true)
    (rs : List PublisherRecord) (owns : List (ℕ × Range)) (all_is : all ≡ (state_key, state_bytes s) ∷ map entry_of rs) (x : Lists publication owns held s rs)
    (owns_are : owns ≡ own_ranges rs) (last_is : last ≡ last_conflict_behind 0 (map entry_of rs)) where
  abbrev six : List PublisherRecord
  six = map range_con x.ranges

  abbrev helds : List (ℕ × HeldRanges)
  helds = helds_of six

  abbrev holders : List (ℕ × Holder)
  holders = map (holder_pair publication) helds

  abbrev base : PublisherStored
  base = tables held s x.rows x.mappings x.closings x.conflicts

  abbrev now : PublisherStored
  now = full publication base x.ranges x.sites

  state : SoundState last s
  state = sound_state last s sound

  same : state_of now ≡ s
  same = ap (λ (n : ℕ). record s { site = n }) (sym state.site_is)

  are_six : AreRanges six
  are_six = are_ranges x.ranges

  own_six : owns ≡ own_ranges six
  own_six = owns_are ∙ ap own_ranges x.parts ∙ owns_of x.rows x.mappings x.closings x.conflicts six x.sites

  last_found : last ≡ last_conflict_behind 0 (map conflict_entry x.conflicts)
  last_found = last_is ∙ ap (λ (rs : List PublisherRecord). last_conflict_behind 0 (map entry_of rs)) x.parts ∙ last_of_all x.rows x.mappings x.closings x.conflicts six x.sites are_six

  numbers : Numbered s.conflicts 0 x.conflicts
  numbers = numbered_found publication s.conflicts [] x.conflicts (one_by_one _ _ (λ f row q. (q.0.0, q.1)) [] x.conflicts x.conflicts_sound) (omega arith) (subst (λ (n : ℕ). s.conflicts ≤ n) last_found state.conflicts)

  got : AllByRecursion (IsReceived publication) helds
  got = helds_sound publication owns base [] x.ranges x.ranges_sound

  put_is : held_after publication held helds ≡ held_with held holders
  put_is = held_put publication held helds got

  holder_keys : keys_of holders ≡ map (λ (y : ℕ × HeldRanges). y.0) helds
  holder_keys = map_twice (λ (p : ℕ × Holder). p.0) (holder_pair publication) helds

  helds_up : IsStrictlySortedBy nat_cmp (map (λ (y : ℕ × HeldRanges). y.0) helds)
  helds_up = sorted_as entry_cmp nat_cmp (λ (y : ℕ × HeldRanges). held_key y.0) (λ (y : ℕ × HeldRanges). y.0) (λ (y : ℕ × HeldRanges). y.0 < 2 ^ 8) (λ a b p q. held_keys_order.same a.0 b.0 p q) helds (helds_fit publication owns base [] x.ranges x.ranges_sound) (helds_ascend six are_six x.ranges_up)

  received_are : filter was_received (held_after publication held helds) ≡ holders
  received_are =
      ap (filter was_received) put_is
      ∙ received_back held holders beginning.ascends beginning.none (subst (IsStrictlySortedBy nat_cmp) (sym holder_keys) helds_up)
      (all_mapped _ (holder_pair publication) helds (all_so _ _ (λ y r. (restored publication y r).received) helds got))
      (all_mapped _ (holder_pair publication) helds (all_so _ _ (λ y r. beginning.each y.0 r.identity) helds got))

  book : AreBook now.grants
  book = chain_in (grants_of six) [] no_book (chain_of publication owns base [] x.ranges x.ranges_sound)

  held_pairs_are : map held_pair (filter was_received now.held) ≡ map ranges_pair helds
  held_pairs_are =
      ap (map held_pair) received_are
      ∙ map_twice held_pair (holder_pair publication) helds
      ∙ map_as _ _ helds (all_so _ _ (λ y r. ap (λ (h : HeldRanges). (let e : Pair = (held_key y.0, Held y.0 h) in e)) (restored publication y r).ranges) helds got)

  pairs_are : range_pairs now.held now.grants ≡ map pair_of six
  pairs_are =
      ap (λ (ps : List Pair). granted ps now.grants) held_pairs_are
      ∙ put_as_read (grants_of six) (others_none six x.ranges_up) (map ranges_pair helds)
      ∙ merged six are_six x.ranges_up

  records_six : range_records now.held now.grants ≡ six
  records_six = ap (map (λ (e : Pair). e.1)) pairs_are ∙ map_twice (λ (e : Pair). e.1) pair_of six ∙ map_same six

  abbrev KeptRanges : List (ℕ × Range) → List PublisherRecord → Type 0
  KeptRanges owns rs = KeepOneByOne (λ front r. IsRangeRecord r × (is_sound publication owns (with_records publication base front) r ≡ true)) [] rs

  ranges_kept : KeptRanges (own_ranges (range_records now.held now.grants)) (range_records now.held now.grants)
  ranges_kept =
      subst (λ (rs : List PublisherRecord). KeptRanges (own_ranges rs) rs) (sym records_six)
      (subst (λ (owns : List (ℕ × Range)). KeptRanges owns six) own_six
      (as_records (λ front r. IsRangeRecord r × (is_sound publication owns (with_records publication base front) r ≡ true)) [] x.ranges (one_by_one _ _ (λ f y q. (is_range y q.0, q.1)) [] x.ranges x.ranges_sound)))

  keeps_rules : KeepRules publication held now
  keeps_rules = record {
    fits = (omega arith, fits.1);
    state = ap (state_is_sound s.conflicts) same ∙ state.own;
    rows = one_by_one _ _ (λ f y q. (q.0.0, q.0.1, q.1)) [] x.rows x.rows_sound;
    mappings = one_by_one _ _ (λ f y q. (q.0.0, q.0.1, q.1)) [] x.mappings x.mappings_sound;
    closings = all_so _ _ (λ y q. (q.0.0, q.0.1, q.1)) x.closings x.closings_sound;
    conflicts = one_by_one _ _ (λ f y q. (q.0.0, q.0.1, q.1)) [] x.conflicts x.conflicts_sound;
    numbered = numbers;
    ranges = ranges_kept;
    received = subst (AllByRecursion (λ p. option_map (λ identity. holder_of identity (held_ranges p.1)) (identity_at publication p.0) ≡ Some p.1)) (sym received_are)
        (all_mapped _ (holder_pair publication) helds (all_so _ _ (λ y r. restored_so y r) helds got));
    all_held = ap (held_with held) received_are ∙ sym put_is;
    in_order = book.in_order;
    granted = book.granted;
    keyed = all_put_all HasGrantKey (grants_of six) [] (grants_keyed publication owns base [] x.ranges x.ranges_sound) tt;
    sites = all_so _ _ (λ y q. (q.0.0, q.0.1, q.1)) x.sites x.sites_sound;
  }
    where
      restored_so : (y : ℕ × HeldRanges) → IsReceived publication y → option_map (λ identity. holder_of identity (held_ranges (holder_pair publication y).1)) (identity_at publication y.0) ≡ Some (holder_pair publication y).1
      restored_so y r =
          let back = restored publication y r in
          subst (λ (h : HeldRanges). option_map (λ identity. holder_of identity h) (identity_at publication y.0) ≡ Some (holder_pair publication y).1) (sym back.ranges) back.same

  range_entries_are : map entry_of six ≡ range_entries now.held now.grants
  range_entries_are = sym (pairs_listed (map pair_of six) (range_pairs_are x.ranges) ∙ ap (map entry_of) (map_twice (λ (e : Pair). e.1) pair_of six ∙ map_same six)) ∙ ap (encoded_entries same_key bytes_of) (sym pairs_are) ∙ pairs_encoded now.held now.grants

  records_are : all ≡ publisher_records now
  records_are =
      all_is
      ∙ ap (λ (q : Front). (let m : Map = (state_key, state_bytes q) ∷ map entry_of rs in m)) (sym same)
      ∙ ap (λ (rs : List PublisherRecord). (let m : Map = (state_key, publisher_state now) ∷ map entry_of rs in m)) x.parts
      ∙ ap (λ (m : Map). (let all : Map = (state_key, publisher_state now) ∷ m in all)) (entries_of x.rows x.mappings x.closings x.conflicts six x.sites)
      ∙ ap (λ (m : Map). (let all : Map = (state_key, publisher_state now) ∷ (row_entries publisher_row_value x.rows ++ (mapping_entries x.mappings ++ (closing_entries x.closings ++ (conflict_entries x.conflicts ++ (m ++ site_entries x.sites))))) in all)) range_entries_are

  articles_are : keys_of now.held ≡ keys_of held
  articles_are = ap keys_of put_is ∙ held_keys held holders

  is_back : LoadedBack publication held all now
  is_back = record {
    keeps = keeps_rules;
    records = records_are;
    ordered = record {
      rows = x.rows_up;
      mappings = x.mappings_up;
      closings = subst (IsStrictlySortedBy nat_cmp) (sym (map_twice (λ (p : ℕ × Moment). p.0) closing_pair x.closings)) x.closings_up;
      conflicts = subst (IsStrictlySortedBy nat_cmp) (sym (map_twice (λ (p : ℕ × ConflictRow). p.0) conflict_pair x.conflicts)) x.conflicts_up;
      grants = book.in_order;
      held = subst (IsStrictlySortedBy nat_cmp) (sym articles_are) beginning.ascends;
      sites = x.sites_up;
    };
    articles = articles_are;
  }

-- the entry of the state is no grant, and has no number of a conflict
pub loaded_back : (publication : Publication) (held : List (ℕ × Holder)) (e : EntryKey × List ℕ) (es : Map) (t : PublisherStored) → IsMap (e ∷ es) → IsBeginning publication held → publisher_loaded publication held (e ∷ es) ≡ Ok t → LoadedBack publication held (e ∷ es) t
unfolding IsStrictlySortedBy
loaded_back publication held e es t map_fits beginning h =
    let owns : List (ℕ × Range) = own_grants (e ∷ es) in
    let last : ℕ = last_conflict (e ∷ es) in
    let g = goes_from publication owns held es t (publisher_first_state last e.0 (reading_of e)) h in
    let b = begins last e.0 (reading_of e) g.0 g.1 in
    let first = record_is e map_fits.bytes.0 (State g.0) b.read in
    let f = found (loading_of_publisher publication owns) entry_of Fits record_is es (tables_with held g.0) t map_fits.bytes.1 g.2 in
    let up : Ascend entry_of f.records = subst (IsStrictlySortedBy entry_cmp) (ap keys_of f.entries ∙ map_twice (λ (p : EntryKey × List ℕ). p.0) entry_of f.records) map_fits.ascends.1 in
    let x = lists publication owns held g.0 f.records up f.sound in
    let all_is : e ∷ es ≡ (state_key, state_bytes g.0) ∷ map entry_of f.records = ap (λ (q : EntryKey × List ℕ). (let m : Map = q ∷ es in m)) first.0 ∙ ap (λ (m : Map). (state_key, state_bytes g.0) ∷ m) f.entries in
    let owns_are : owns ≡ own_ranges f.records = ap own_grants all_is ∙ own_ranges_are f.records (sound_fits (loading_of_publisher publication owns) Fits f.records (tables_with held g.0) f.sound) in
    let last_is : last ≡ last_conflict_behind 0 (map entry_of f.records) = ap last_conflict all_is in
    subst (LoadedBack publication held (e ∷ es)) (sym x.now_is ∙ f.now_is) (is_back publication held beginning g.0 last (e ∷ es) first.1 b.sound f.records owns all_is x owns_are last_is)

-- ---- a store of no entries

none_sound : state_is_sound 0 no_state ≡ true
unfolding state_is_sound
none_sound = refl

pub none_keeps : (publication : Publication) (held : List (ℕ × Holder)) → IsBeginning publication held → KeepRules publication held (tables_with held no_state)
none_keeps publication held beginning =
    let none : filter was_received held ≡ [] = none_left held beginning.none in
    record {
      fits = (omega arith, (omega arith, (omega arith, (omega arith, (omega arith, omega arith)))));
      state = none_sound;
      rows = tt;
      mappings = tt;
      closings = tt;
      conflicts = tt;
      numbered = refl;
      ranges = subst (λ (ps : List (ℕ × Holder)). (let rs : List PublisherRecord = map (λ (e : Pair). e.1) (map held_pair ps) in KeepOneByOne (λ front r. IsRangeRecord r × (is_sound publication (own_ranges rs) (with_records publication (tables_with held no_state) front) r ≡ true)) [] rs)) (sym none) tt;
      received = subst (AllByRecursion (λ p. option_map (λ identity. holder_of identity (held_ranges p.1)) (identity_at publication p.0) ≡ Some p.1)) (sym none) tt;
      all_held = ap (held_with held) none;
      in_order = tt;
      granted = no_book.granted;
      keyed = tt;
      sites = tt;
    }

none_ordered : (publication : Publication) (held : List (ℕ × Holder)) → IsBeginning publication held → IsPublisherOrdered (tables_with held no_state)
unfolding IsStrictlySortedBy
none_ordered publication held beginning = record { rows = tt; mappings = tt; closings = tt; conflicts = tt; grants = tt; held = beginning.ascends; sites = tt }

-- ---- what is said of whatever loads

pub loaded_keeps : (publication : Publication) (held : List (ℕ × Holder)) (es : Map) (t : PublisherStored) → IsMap es → IsBeginning publication held → publisher_loaded publication held es ≡ Ok t → KeepRules publication held t
loaded_keeps publication held [] t map_fits beginning h = subst (KeepRules publication held) (ok_is (tables_with held no_state) t h) (none_keeps publication held beginning)
loaded_keeps publication held (e ∷ es) t map_fits beginning h = (loaded_back publication held e es t map_fits beginning h).keeps

pub loaded_ordered : (publication : Publication) (held : List (ℕ × Holder)) (es : Map) (t : PublisherStored) → IsMap es → IsBeginning publication held → publisher_loaded publication held es ≡ Ok t → IsPublisherOrdered t
loaded_ordered publication held [] t map_fits beginning h = subst IsPublisherOrdered (ok_is (tables_with held no_state) t h) (none_ordered publication held beginning)
loaded_ordered publication held (e ∷ es) t map_fits beginning h = (loaded_back publication held e es t map_fits beginning h).ordered

pub loaded_articles : (publication : Publication) (held : List (ℕ × Holder)) (es : Map) (t : PublisherStored) → IsMap es → IsBeginning publication held → publisher_loaded publication held es ≡ Ok t → keys_of t.held ≡ keys_of held
loaded_articles publication held [] t map_fits beginning h = subst (λ (t : PublisherStored). keys_of t.held ≡ keys_of held) (ok_is (tables_with held no_state) t h) refl
loaded_articles publication held (e ∷ es) t map_fits beginning h = (loaded_back publication held e es t map_fits beginning h).articles
