-- A store that the publisher wrote loads, and gives its tables.
use Rattle.std.proofs.Common.{◌≡◌, ◌∙◌, ℕ, ◌+◌, Bool, true, cond, List, [], ◌∷◌, ◌++◌, map, filter, Option, Some, None, Result, Ok, Err, refl, sym, ap, subst, arith}
use Rattle.std.specs.List.{AllByRecursion}
use Rattle.std.specs.Option.{option_map, option_map_or}
use Rattle.std.proofs.lemmas.List.{append-nil, map-append}
use Rattle.std.proofs.lemmas.List.Elements.{filter_map-append}
use Rattle.merge_types.specs.declared.row_key.RowKey.{RowKey}
use Rattle.merge_table.specs.declared.edit.Edit.{Edit}
use Rattle.merge_table.specs.declared.edit.Edit.TheVariants.{Put}
use Rattle.merge_table.specs.Edits.{rows_after_all}
use Rattle.merge_units.specs.declared.site_row.PublisherRow.{PublisherRow}
use Rattle.merge_gens.specs.declared.closings.Closing.{Closing}
use Rattle.merge_gens.specs.declared.moves.Mapping.{Mapping}
use Rattle.merge_gens.specs.declared.moves.RowSite.{RowSite}
use Rattle.merge_gens.specs.declared.sites.SiteState.{SiteState}
use Rattle.merge_conflict.specs.declared.row.ConflictRow.{ConflictRow}
use Rattle.merge_ident.specs.Holders.{Holder}
use Rattle.merge_ident.specs.declared.grants.Grant.{Grant}
use Rattle.merge_ident.specs.declared.grants.Range.{Range}
use Rattle.merge_schema.specs.declared.publication.Identity.{Identity}
use Rattle.merge_schema.specs.declared.publication.Publication.{Publication}
use Rattle.merge_ports.specs.declared.entry.EntryKey.{EntryKey}
use Rattle.merge_ports.specs.Entries.{Map, entry_cmp, entry_exact}
use Rattle.merge_record.specs.declared.ranges.HeldRanges.{HeldRanges}
use Rattle.merge_keeper.specs.Encoded.{encoded_entries, encoded_edit, encoded_edits, encoded_entry, puts_of, AllEditKeys, AllKeys, KeepsOrder}
use Rattle.merge_keeper.specs.Entries.{closing_entries, closing_key, closing_pair, closing_value, conflict_entries, conflict_key, conflict_pair, conflict_value, grant_key, held_entries, held_ranges, mapping_entries, range_entries, row_entries, publisher_row_value, site_entries, state_key, was_received}
use Rattle.merge_keeper.specs.PublisherRules.{held_pair, own_range, own_ranges, range_pairs, range_records, state_of, with_closings, with_conflicts, with_mappings, with_records, with_rows, IsRangeRecord, KeepRules}
use Rattle.merge_keeper.specs.PublisherStart.{closing_is_sound, go_from, is_sound, loading_of_publisher, publisher_first_state, publisher_loaded, reading_of, site_is_sound, state_is_sound, tables_with}
use Rattle.merge_keeper.specs.Start.{holder_of, identity_at, last_conflict, last_conflict_behind, loaded_behind, number_in, own_grants, with_value_at, KeepOneByOne, Loading}
use Rattle.merge_keeper.specs.Stored.{publisher_records, publisher_state}
use Rattle.merge_keeper.specs.SubscriberRules.{held_with}
use Rattle.merge_keeper.specs.declared.publisher_record.PublisherRecord.{PublisherRecord}
use Rattle.merge_keeper.specs.declared.publisher_record.PublisherRecord.TheVariants.{State, Row, Mapped, Closed, Lost, Held, Granted, Subscribed}
use Rattle.merge_keeper.specs.declared.states.Front.{Front}
use Rattle.merge_keeper.specs.declared.stored.PublisherStored.{PublisherStored}
use Rattle.merge_keeper.proofs.Back.{after, Sound}
use Rattle.merge_keeper.proofs.Begins.{all_before, all_listed, ordered_again, put_all}
use Rattle.merge_keeper.proofs.Encoding.{encoded-after_all}
use Rattle.merge_keeper.proofs.Fronts.{all_mapped, all_so, each_by_one, each_so, map_parts, map_same, map_twice, none_mapped, one_by_one}
use Rattle.merge_keeper.proofs.HeldBack.{held_after}
use Rattle.merge_keeper.proofs.Loads.{joined, joined_after, sound_fits, sound_loads}
use Rattle.merge_keeper.proofs.PublisherReads.{entry_of, own_ranges_are, reads_again, Fits}
use Rattle.merge_ident.specs.Grants.{IsGranted}
use Rattle.merge_keeper.proofs.Ranges.{all_clear, all_granted_so, all_held_clear, grants_of, grants_put, helds_of, helds_put, ranges_put, with_more, AllClear, AreRanges, Pair}
use Rattle.merge_keeper.proofs.Sought.{conflict_entry, last_append, last_is, last_none, last_skips}

-- ---- the entries of records

abbrev pub row_con : RowKey × PublisherRow → PublisherRecord
row_con x = Row x.0 x.1

abbrev pub mapping_con : RowSite × Mapping → PublisherRecord
mapping_con x = Mapped x.0 x.1

abbrev pub site_con : ℕ × SiteState → PublisherRecord
site_con x = Subscribed x.0 x.1

-- all records behind the state, table behind table
abbrev pub all_of : List (RowKey × PublisherRow) → List (RowSite × Mapping) → List Closing → List ConflictRow → List PublisherRecord → List (ℕ × SiteState) → List PublisherRecord
all_of rows mappings closings conflicts ranges sites = map row_con rows ++ (map mapping_con mappings ++ (map Closed closings ++ (map Lost conflicts ++ (ranges ++ map site_con sites))))

pub entries_of : (rows : List (RowKey × PublisherRow)) (mappings : List (RowSite × Mapping)) (closings : List Closing) (conflicts : List ConflictRow) (ranges : List PublisherRecord) (sites : List (ℕ × SiteState))
    → map entry_of (all_of rows mappings closings conflicts ranges sites)
    ≡ row_entries publisher_row_value rows ++ (mapping_entries mappings ++ (closing_entries closings ++ (conflict_entries conflicts ++ (map entry_of ranges ++ site_entries sites))))
entries_of rows mappings closings conflicts ranges sites =
    map_parts entry_of row_con rows (map mapping_con mappings ++ (map Closed closings ++ (map Lost conflicts ++ (ranges ++ map site_con sites))))
    ∙ ap (λ (m : Map). row_entries publisher_row_value rows ++ m)
    (map_parts entry_of mapping_con mappings (map Closed closings ++ (map Lost conflicts ++ (ranges ++ map site_con sites)))
    ∙ ap (λ (m : Map). mapping_entries mappings ++ m)
    (map_parts entry_of Closed closings (map Lost conflicts ++ (ranges ++ map site_con sites))
    ∙ ap (λ (m : Map). m ++ map entry_of (map Lost conflicts ++ (ranges ++ map site_con sites))) (sym (map_twice (encoded_entry closing_key closing_value) closing_pair closings))
    ∙ ap (λ (m : Map). closing_entries closings ++ m)
    (map_parts entry_of Lost conflicts (ranges ++ map site_con sites)
    ∙ ap (λ (m : Map). m ++ map entry_of (ranges ++ map site_con sites)) (sym (map_twice (encoded_entry conflict_key conflict_value) conflict_pair conflicts))
    ∙ ap (λ (m : Map). conflict_entries conflicts ++ m) (map-append entry_of ranges (map site_con sites) ∙ ap (λ (m : Map). map entry_of ranges ++ m) (map_twice entry_of site_con sites)))))

-- the publisher's own ranges stand in one table
pub owns_of : (rows : List (RowKey × PublisherRow)) (mappings : List (RowSite × Mapping)) (closings : List Closing) (conflicts : List ConflictRow) (ranges : List PublisherRecord) (sites : List (ℕ × SiteState))
    → own_ranges (all_of rows mappings closings conflicts ranges sites) ≡ own_ranges ranges
owns_of rows mappings closings conflicts ranges sites =
    none_mapped own_range row_con (λ x. refl) rows (map mapping_con mappings ++ (map Closed closings ++ (map Lost conflicts ++ (ranges ++ map site_con sites))))
    ∙ none_mapped own_range mapping_con (λ x. refl) mappings (map Closed closings ++ (map Lost conflicts ++ (ranges ++ map site_con sites)))
    ∙ none_mapped own_range Closed (λ x. refl) closings (map Lost conflicts ++ (ranges ++ map site_con sites))
    ∙ none_mapped own_range Lost (λ x. refl) conflicts (ranges ++ map site_con sites)
    ∙ filter_map-append own_range ranges (map site_con sites)
    ∙ ap (λ (l : List (ℕ × Range)). own_ranges ranges ++ l) (sym (ap own_ranges (append-nil (map site_con sites))) ∙ none_mapped own_range site_con (λ x. refl) sites [])
    ∙ append-nil (own_ranges ranges)

-- ---- the entries of table 6 are those of its records

abbrev pub same_key : EntryKey → EntryKey
same_key k = k

abbrev pub bytes_of : EntryKey → PublisherRecord → List ℕ
bytes_of k r = (entry_of r).1

abbrev Always : EntryKey → Type 0
Always k = Unit {0}

keys_always : {W : Type 0} (es : List (EntryKey × W)) → AllKeys Always es
keys_always [] = tt
keys_always (e ∷ es) = (tt, keys_always es)

puts_always : (gs : List Grant) → AllEditKeys Always (puts_of grant_key Granted gs)
puts_always [] = tt
puts_always (g ∷ gs) = (tt, puts_always gs)

same_order : KeepsOrder Always entry_cmp entry_cmp same_key
same_order = record { same = λ x y p q. refl }

pub pairs_encoded : (held : List (ℕ × Holder)) (grants : List Grant) → encoded_entries same_key bytes_of (range_pairs held grants) ≡ range_entries held grants
pairs_encoded held grants =
    encoded-after_all Always entry_cmp entry_cmp same_key bytes_of entry_exact same_order (puts_of grant_key Granted grants) (puts_always grants) (map held_pair (filter was_received held)) (keys_always (map held_pair (filter was_received held)))
    ∙ ap (λ (m : Map). rows_after_all entry_cmp m (encoded_edits same_key bytes_of (puts_of grant_key Granted grants))) (map_twice (encoded_entry same_key bytes_of) held_pair (filter was_received held))
    ∙ ap (rows_after_all entry_cmp (held_entries held)) (map_twice (encoded_edit same_key bytes_of) (λ (g : Grant). (let e : Edit EntryKey PublisherRecord = Put (grant_key g) (Granted g) in e)) grants)

-- an entry's key is that of its record, which is of table 6
abbrev pub IsRangePair : Pair → Type 0
IsRangePair e = ((entry_of e.1).0 ≡ e.0) × ((entry_of e.1).0.table ≡ 6)

held_pairs : (ps : List (ℕ × Holder)) → AllByRecursion IsRangePair (map held_pair ps)
held_pairs [] = tt
held_pairs (p ∷ ps) = ((refl, refl), held_pairs ps)

pub pairs_listed : (es : List Pair) → AllByRecursion IsRangePair es → encoded_entries same_key bytes_of es ≡ map entry_of (map (λ (e : Pair). e.1) es)
pairs_listed [] h = refl
pairs_listed (e ∷ es) h =
    ap (λ (k : EntryKey). (let m : Map = (k, (entry_of e.1).1) ∷ encoded_entries same_key bytes_of es in m)) (sym h.0.0) ∙ ap (λ (m : Map). entry_of e.1 ∷ m) (pairs_listed es h.1)

fits_range : (r : PublisherRecord) → (entry_of r).0.table ≡ 6 → IsRangeRecord r → Fits r
fits_range (State front) e h = absurd (omega (arith, e))
fits_range (Row key row) e h = absurd (omega (arith, e))
fits_range (Mapped place mapping) e h = absurd (omega (arith, e))
fits_range (Closed c) e h = absurd (omega (arith, e))
fits_range (Lost row) e h = absurd (omega (arith, e))
fits_range (Held article held) e h = h
fits_range (Granted grant) e h = h
fits_range (Subscribed site state) e h = absurd (omega (arith, e))

with_both : (Q : List PublisherRecord → PublisherRecord → Type 0) (front rs : List PublisherRecord) → AreRanges rs → KeepOneByOne (λ f r. IsRangeRecord r × Q f r) front rs → KeepOneByOne (λ f r. Fits r × Q f r) front rs
with_both Q front [] a h = tt
with_both Q front (r ∷ rs) a h = ((fits_range r a.0 h.0.0, h.0.1), with_both Q (front ++ r ∷ []) rs a.1 h.1)

-- ---- what is held

held_listed : (ps : List (ℕ × Holder)) → helds_of (map (λ (e : Pair). e.1) (map held_pair ps)) ≡ map (λ (p : ℕ × Holder). (let x : ℕ × HeldRanges = (p.0, held_ranges p.1) in x)) ps
held_listed [] = refl
held_listed (p ∷ ps) = ap (λ (l : List (ℕ × HeldRanges)). (p.0, held_ranges p.1) ∷ l) (held_listed ps)

none_granted : (ps : List (ℕ × Holder)) → grants_of (map (λ (e : Pair). e.1) (map held_pair ps)) ≡ []
none_granted [] = refl
none_granted (p ∷ ps) = none_granted ps

abbrev IsRestored : Publication → ℕ × Holder → Type 0
IsRestored publication p = option_map (λ identity. holder_of identity (held_ranges p.1)) (identity_at publication p.0) ≡ Some p.1

put_by_identity : (o : Option Identity) (now : List (ℕ × Holder)) (p : ℕ × Holder) → option_map (λ identity. holder_of identity (held_ranges p.1)) o ≡ Some p.1
    → option_map_or (λ identity. with_value_at now p.0 (holder_of identity (held_ranges p.1))) o now ≡ with_value_at now p.0 p.1
put_by_identity None now p e = absurd cc
put_by_identity (Some identity) now p e = ap (λ (holder : Holder). with_value_at now p.0 holder) (some_holder (holder_of identity (held_ranges p.1)) p.1 e)
  where
    some_holder : (a b : Holder) → (let x : Option Holder = Some a in x) ≡ Some b → a ≡ b
    some_holder a b e = cc

held_again : (publication : Publication) (now ps : List (ℕ × Holder)) → AllByRecursion (IsRestored publication) ps → held_after publication now (map (λ (p : ℕ × Holder). (let x : ℕ × HeldRanges = (p.0, held_ranges p.1) in x)) ps) ≡ held_with now ps
held_again publication now [] h = refl
held_again publication now (p ∷ ps) h =
    ap (λ (new : List (ℕ × Holder)). held_after publication new (map (λ (p : ℕ × Holder). (let x : ℕ × HeldRanges = (p.0, held_ranges p.1) in x)) ps)) (put_by_identity (identity_at publication p.0) now p h.0)
    ∙ held_again publication (with_value_at now p.0 p.1) ps h.1

none_in_six : (k : EntryKey) → k.table ≡ 6 → number_in k ≡ None
none_in_six k e = rw e refl

ranges_unnumbered : (rs : List PublisherRecord) → AreRanges rs → AllByRecursion (λ (e : EntryKey × List ℕ). number_in e.0 ≡ None) (map entry_of rs)
ranges_unnumbered [] h = tt
ranges_unnumbered (r ∷ rs) h = (none_in_six (entry_of r).0 h.0, ranges_unnumbered rs h.1)

-- the last conflict of all entries is the last of the list
pub last_of_all : (rows : List (RowKey × PublisherRow)) (mappings : List (RowSite × Mapping)) (closings : List Closing) (conflicts : List ConflictRow) (ranges : List PublisherRecord) (sites : List (ℕ × SiteState)) → AreRanges ranges
    → last_conflict_behind 0 (map entry_of (all_of rows mappings closings conflicts ranges sites)) ≡ last_conflict_behind 0 (map conflict_entry conflicts)
last_of_all rows mappings closings conflicts ranges sites are =
    let last : ℕ = last_conflict_behind 0 (map conflict_entry conflicts) in
    ap (last_conflict_behind 0) (entries_of rows mappings closings conflicts ranges sites)
    ∙ last_skips (λ x. entry_of (row_con x)) (λ x. refl) 0 rows (mapping_entries mappings ++ (closing_entries closings ++ (conflict_entries conflicts ++ (map entry_of ranges ++ site_entries sites))))
    ∙ last_skips (λ x. entry_of (mapping_con x)) (λ x. refl) 0 mappings (closing_entries closings ++ (conflict_entries conflicts ++ (map entry_of ranges ++ site_entries sites)))
    ∙ last_skips (encoded_entry closing_key closing_value) (λ x. refl) 0 (map closing_pair closings) (conflict_entries conflicts ++ (map entry_of ranges ++ site_entries sites))
    ∙ ap (λ (m : Map). last_conflict_behind 0 (m ++ (map entry_of ranges ++ site_entries sites))) (map_twice (encoded_entry conflict_key conflict_value) conflict_pair conflicts)
    ∙ last_append 0 (map conflict_entry conflicts) (map entry_of ranges ++ site_entries sites)
    ∙ last_append last (map entry_of ranges) (site_entries sites)
    ∙ ap (λ (n : ℕ). last_conflict_behind n (site_entries sites)) (last_none last (map entry_of ranges) (ranges_unnumbered ranges are))
    ∙ ap (last_conflict_behind last) (sym (append-nil (site_entries sites)))
    ∙ last_skips (λ x. entry_of (site_con x)) (λ x. refl) last sites []

module _ (publication : Publication) (held : List (ℕ × Holder)) (t : PublisherStored) (h : KeepRules publication held t) where
  abbrev received : List (ℕ × Holder)
  received = filter was_received t.held

  abbrev ranges : List PublisherRecord
  ranges = range_records t.held t.grants

  abbrev l : Loading PublisherStored PublisherRecord
  l = loading_of_publisher publication (own_ranges ranges)

  abbrev base : PublisherStored
  base = with_conflicts t held t.conflicts

  clear : AllClear t.grants
  clear = all_clear t.grants h.keyed h.in_order (all_before t.grants (all_listed IsGranted t.grants h.granted.ranges) h.in_order)

  pairs_are : AllByRecursion IsRangePair (range_pairs t.held t.grants)
  pairs_are = all_granted_so IsRangePair t.grants (map held_pair received) clear (all_held_clear received t.grants) (λ g. (refl, refl)) (held_pairs received)

  are_ranges : AreRanges ranges
  are_ranges = all_mapped (λ r. (entry_of r).0.table ≡ 6) (λ (e : Pair). e.1) (range_pairs t.held t.grants) (all_so _ _ (λ e p. p.1) (range_pairs t.held t.grants) pairs_are)

  entries_are : range_entries t.held t.grants ≡ map entry_of ranges
  entries_are = sym (pairs_encoded t.held t.grants) ∙ pairs_listed (range_pairs t.held t.grants) pairs_are

  -- the tables with the ranges
  abbrev full : PublisherStored
  full = record base { held = held_after publication held (helds_of ranges); grants = put_all [] (grants_of ranges) }

  full_is : with_records publication base ranges ≡ full
  full_is = ranges_put publication base ranges are_ranges

  held_is : held_after publication held (helds_of ranges) ≡ t.held
  held_is =
      ap (held_after publication held) (helds_put t.grants (map held_pair received) clear (all_held_clear received t.grants) ∙ held_listed received)
      ∙ held_again publication held received h.received ∙ h.all_held

  grants_are : put_all [] (grants_of ranges) ≡ t.grants
  grants_are =
      grants_put t.grants (map held_pair received) clear (all_held_clear received t.grants) []
      ∙ ap (λ (l : List Grant). put_all (put_all [] l) t.grants) (none_granted received)
      ∙ ordered_again t.grants (all_before t.grants (all_listed IsGranted t.grants h.granted.ranges) h.in_order)

  abbrev rest_sites : List PublisherRecord
  rest_sites = map site_con t.sites

  abbrev rest_ranges : List PublisherRecord
  rest_ranges = ranges ++ rest_sites

  abbrev rest_conflicts : List PublisherRecord
  rest_conflicts = map Lost t.conflicts ++ rest_ranges

  abbrev rest_closings : List PublisherRecord
  rest_closings = map Closed t.closings ++ rest_conflicts

  abbrev rest_mappings : List PublisherRecord
  rest_mappings = map mapping_con t.mappings ++ rest_closings

  abbrev records : List PublisherRecord
  records = all_of t.rows t.mappings t.closings t.conflicts ranges t.sites

  abbrev with_sites : List (ℕ × SiteState) → PublisherStored
  with_sites f = record full { sites = f }

  sites_sound : Sound l Fits (with_sites []) rest_sites
  sites_sound =
      subst (Sound l Fits (with_sites [])) (append-nil rest_sites)
      (joined l Fits site_con with_sites (λ f x. refl) [] t.sites [] (each_by_one (λ (x : ℕ × SiteState). Fits (site_con x) × (site_is_sound publication t.filling.last_closed x.0 x.1 ≡ true)) [] t.sites (all_so _ _ (λ x q. ((q.0, q.1), q.2)) t.sites h.sites)) tt)

  ranges_sound : Sound l Fits base rest_ranges
  ranges_sound =
      subst (λ (rs : List PublisherRecord). Sound l Fits base (rs ++ rest_sites)) (map_same ranges)
      (joined l Fits (λ r. r) (with_records publication base) (with_more publication base) [] ranges rest_sites
      (with_both (λ f r. is_sound publication (own_ranges ranges) (with_records publication base f) r ≡ true) [] ranges are_ranges h.ranges) (subst (λ (t : PublisherStored). Sound l Fits t rest_sites) (sym full_is) sites_sound))

  conflicts_sound : Sound l Fits (with_conflicts t held []) rest_conflicts
  conflicts_sound = joined l Fits Lost (with_conflicts t held) (λ f x. refl) [] t.conflicts rest_ranges (one_by_one _ _ (λ f x q. ((q.0, q.1), q.2)) [] t.conflicts h.conflicts) ranges_sound

  closings_sound : Sound l Fits (with_closings t held []) rest_closings
  closings_sound = joined l Fits Closed (with_closings t held) (λ f x. refl) [] t.closings rest_conflicts (each_by_one (λ (x : Closing). Fits (Closed x) × (closing_is_sound t.filling.last_closed x ≡ true)) [] t.closings (all_so _ _ (λ x q. ((q.0, q.1), q.2)) t.closings h.closings)) conflicts_sound

  mappings_sound : Sound l Fits (with_mappings t held []) rest_mappings
  mappings_sound = joined l Fits mapping_con (with_mappings t held) (λ f x. refl) [] t.mappings rest_closings (one_by_one _ _ (λ f x q. ((q.0, q.1), q.2)) [] t.mappings h.mappings) closings_sound

  all_sound : Sound l Fits (with_rows t held []) records
  all_sound = joined l Fits row_con (with_rows t held) (λ f x. refl) [] t.rows rest_mappings (one_by_one _ _ (λ f x q. ((q.0, q.1), q.2)) [] t.rows h.rows) mappings_sound

  after_is : after l (with_rows t held []) records ≡ with_sites t.sites
  after_is =
      joined_after l row_con (with_rows t held) (λ f x. refl) [] t.rows rest_mappings
      ∙ joined_after l mapping_con (with_mappings t held) (λ f x. refl) [] t.mappings rest_closings
      ∙ joined_after l Closed (with_closings t held) (λ f x. refl) [] t.closings rest_conflicts
      ∙ joined_after l Lost (with_conflicts t held) (λ f x. refl) [] t.conflicts rest_ranges
      ∙ sym (ap (λ (rs : List PublisherRecord). after l base (rs ++ rest_sites)) (map_same ranges))
      ∙ joined_after l (λ r. r) (with_records publication base) (with_more publication base) [] ranges rest_sites
      ∙ ap (λ (t : PublisherStored). after l t rest_sites) full_is
      ∙ ap (after l full) (sym (append-nil rest_sites))
      ∙ joined_after l site_con with_sites (λ f x. refl) [] t.sites []

  tables_are : with_sites t.sites ≡ t
  tables_are =
      ap (λ (now : List (ℕ × Holder)). record base { held = now; grants = put_all [] (grants_of ranges); sites = t.sites }) held_is
      ∙ ap (λ (grants : List Grant). record base { held = t.held; grants = grants; sites = t.sites }) grants_are

  abbrev behind : Map
  behind = map entry_of records

  records_are : publisher_records t ≡ (state_key, publisher_state t) ∷ behind
  records_are =
      ap (λ (m : Map). (let all : Map = (state_key, publisher_state t) ∷ (row_entries publisher_row_value t.rows ++ (mapping_entries t.mappings ++ (closing_entries t.closings ++ (conflict_entries t.conflicts ++ (m ++ site_entries t.sites))))) in all)) entries_are
      ∙ ap (λ (m : Map). (let all : Map = (state_key, publisher_state t) ∷ m in all)) (sym (entries_of t.rows t.mappings t.closings t.conflicts ranges t.sites))

  abbrev all : Map
  all = (state_key, publisher_state t) ∷ behind

  last_found : last_conflict all ≡ t.conflict_count
  last_found =
      last_of_all t.rows t.mappings t.closings t.conflicts ranges t.sites are_ranges
      ∙ ap (last_conflict_behind 0) (sym (append-nil (map conflict_entry t.conflicts)))
      ∙ last_is t.conflict_count 0 t.conflicts [] (each_so _ _ (λ front x q. q.0) [] t.conflicts h.conflicts) h.numbered

  all_fit : AllByRecursion Fits records
  all_fit = sound_fits l Fits records (with_rows t held []) all_sound

  owns_are : own_grants all ≡ own_ranges ranges
  owns_are = own_ranges_are records all_fit ∙ owns_of t.rows t.mappings t.closings t.conflicts ranges t.sites

  abbrev chosen : Bool → Result Front EntryKey
  chosen b = cond b (Ok (state_of t)) (Err state_key)

  begins : publisher_first_state (last_conflict all) state_key (reading_of (state_key, publisher_state t)) ≡ Ok (state_of t)
  begins =
      ap (publisher_first_state (last_conflict all) state_key) (reads_again (State (state_of t)) h.fits)
      ∙ ap chosen (ap (λ (n : ℕ). state_is_sound n (state_of t)) last_found ∙ h.state)

  pub records_load : publisher_loaded publication held (publisher_records t) ≡ Ok t
  records_load =
      ap (publisher_loaded publication held) records_are
      ∙ ap (go_from publication (own_grants all) held behind) begins
      ∙ ap (λ (owns : List (ℕ × Range)). loaded_behind (loading_of_publisher publication owns) (tables_with held (state_of t)) behind) owns_are
      ∙ sound_loads l entry_of Fits reads_again records (with_rows t held []) all_sound
      ∙ ap (λ (x : PublisherStored). Ok x) (after_is ∙ tables_are)
