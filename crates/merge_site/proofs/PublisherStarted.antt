-- A publisher can stand with the tables that its store loads to, and its keeper has their records.
use Rattle.std.proofs.Common.{◌≡◌, ◌∙◌, ℕ, ◌+◌, ◌<◌, ◌≤◌, ◌==◌, ◌&&◌, nat_le, nat_lt, Bool, true, List, [], ◌∷◌, ◌++◌, length, map, Option, Ok, inl, inr, refl, sym, ap, subst, arith}
use Rattle.std.specs.BTreeMap.{is_at}
use Rattle.std.specs.List.{AllByRecursion, list_all, list_any}
use Rattle.std.specs.List.Sorted.{IsStrictlySortedBy}
use Rattle.std.specs.Map.{keys_of}
use Rattle.std.specs.Option.{option_map_or}
use Rattle.std.specs.Ordering.{nat_cmp}
use Rattle.std.specs.Prelude.{AllPairs}
use Rattle.std.specs.declared.cmp.Ordering.TheVariants.{Less}
use Rattle.std.proofs.lemmas.Bool.Decides.{nat_tests}
use Rattle.std.proofs.lemmas.Cmp.{ranked}
use Rattle.std.proofs.lemmas.List.Elements.{All-from_recursion}
use Rattle.std.proofs.lemmas.List.Kept.{AllPairs-cons}
use Rattle.std.proofs.lemmas.Map.Made.{is_some-lookup}
use Rattle.merge_types.specs.Limits.{entry_limit}
use Rattle.merge_types.specs.declared.row_key.RowKey.{RowKey}
use Rattle.merge_table.specs.Edits.{rows_after_all}
use Rattle.merge_units.specs.declared.site_row.PublisherRow.{PublisherRow}
use Rattle.merge_units.specs.declared.version.Version.{Version}
use Rattle.merge_lineage.specs.Lineage.{number_of}
use Rattle.merge_gens.specs.Book as gens
use Rattle.merge_gens.specs.declared.closings.Closing.{Closing}
use Rattle.merge_ident.specs.Holders.{Holder}
use Rattle.merge_schema.specs.Valid.{IsValid}
use Rattle.merge_schema.specs.declared.publication.Publication.{Publication}
use Rattle.merge_batch.specs.Articles.{fits_article}
use Rattle.merge_batch.specs.Lineages.{knows_tops}
use Rattle.merge_batch.specs.Makers.{maker_of}
use Rattle.merge_model.specs.Tables.Publications.{identities}
use Rattle.merge_model.specs.Publisher.{new_holders}
use Rattle.merge_model.specs.Tables.{PublisherTables}
use Rattle.merge_ports.specs.Entries.{Map, entry_cmp}
use Rattle.merge_keeper.specs.Encoded.{encoded_entries}
use Rattle.merge_keeper.specs.Entries.{closing_pair, conflict_pair, held_key, held_value, state_key}
use Rattle.merge_keeper.specs.Given.{IsMap}
use Rattle.merge_keeper.specs.Orders.{IsPublisherOrdered}
use Rattle.merge_keeper.specs.PublisherRules.{state_of, KeepRules}
use Rattle.merge_keeper.specs.PublisherStart.{closing_is_sound, has_space, no_state, publisher_loaded, row_is_sound, state_is_sound, tables_with}
use Rattle.merge_keeper.specs.Start.{dot_site_is_known, is_counter, row_was_made, top_sites_are_known, version_is_sound, was_made}
use Rattle.merge_keeper.specs.Stored.{publisher_records, publisher_state}
use Rattle.merge_keeper.specs.declared.states.Front.{Front}
use Rattle.merge_keeper.specs.declared.stored.PublisherStored.{PublisherStored}
use Rattle.merge_keeper.proofs.First.{ok_is}
use Rattle.merge_keeper.proofs.Fronts.{all_mapped, all_so, and_first, and_second, each_so}
use Rattle.merge_keeper.proofs.PublisherBack.{loaded_articles, loaded_back, loaded_keeps, loaded_ordered}
use Rattle.merge_steps.specs.Keeps.{HaveColumns, KeepsRules, RowFits}
use Rattle.merge_pub.specs.Restoring.{CanStand}
use Rattle.merge_sub.proofs.Begun.{begun-ranged}
use Rattle.merge_sub.proofs.Standing.{numbers-below, numbers-rise}
use Rattle.merge_sub.specs.Held.{AreRanged}
use Rattle.merge_site.specs.Kept.{HasRecords, IsFreshState}
use Rattle.merge_site.specs.Loading.{IsRead}
use Rattle.merge_site.specs.Publishers.{AreKeyed, IsKeptPublisher, stored_tables, records_of}
use Rattle.merge_site.proofs.Bare.{none_received}
use Rattle.merge_site.proofs.NewHolders.{held-keyed, new-beginning}
use Rattle.merge_site.proofs.Owned.{holder_has}
use Rattle.merge_site.proofs.Printed.{lost-records-printable, records-printable}
use Rattle.merge_site.proofs.SubscriberStarted.{numbered-on}
use Rattle.merge_site.proofs.Told.{kept-told}

-- ---- what a publisher holds in the beginning

has_columns : (publication : Publication) → HaveColumns publication (new_holders publication)
unfolding AreRanged
has_columns publication article = begun-ranged publication article

-- ---- closed generations

all_later : (generation : ℕ) (closings : List Closing) → AllByRecursion (λ k. nat_cmp generation k ≡ Less) (keys_of (map closing_pair closings)) → AllByRecursion (λ (c : Closing). generation < c.generation) closings
all_later generation [] above = tt
all_later generation (closing ∷ closings) above = (ranked generation closing.generation Less (sym above.0), all_later generation closings above.1)

ascending : (closings : List Closing) → IsStrictlySortedBy nat_cmp (keys_of (map closing_pair closings)) → AllPairs (λ (a b : Closing). a.generation < b.generation) closings
unfolding IsStrictlySortedBy
ascending [] sorted = λ i j d less within. absurd (omega arith)
ascending (closing ∷ closings) sorted =
    AllPairs-cons (λ (a b : Closing). a.generation < b.generation) closing closings
    (All-from_recursion (λ (c : Closing). closing.generation < c.generation) closings (all_later closing.generation closings sorted.0))
    (ascending closings sorted.1)

closed_by : (last : ℕ) (closing : Closing) → closing_is_sound last closing ≡ true → closing.generation ≤ last
unfolding closing_is_sound
closed_by last closing sound = grind (arith, nat_tests, and_second (nat_lt 0 closing.generation) (nat_le closing.generation last) sound)

unfilled : (last : ℕ) (state : Front) → state_is_sound last state ≡ true → state.filled < entry_limit
unfolding state_is_sound
unfilled last state sound =
    let front : Bool = (state.site == 0) && is_counter state.changes && is_counter state.last_closed && is_counter state.conflicts in
    grind (arith, nat_tests, and_second front (nat_lt state.filled entry_limit) (and_first (front && nat_lt state.filled entry_limit) (nat_le state.conflicts last) sound))

-- ---- rows and conflicts

version_fits : (publication : Publication) (article : ℕ) (version : Version) → version_is_sound publication article version ≡ true → fits_article publication article version.body ≡ true
unfolding version_is_sound
version_fits publication article version sound =
    let fits : Bool = fits_article publication article version.body in
    let sites : Bool = list_all (dot_site_is_known publication) version.lineage in
    let tops : Bool = top_sites_are_known publication version.body in
    and_first fits sites (and_first (fits && sites) tops (and_first (fits && sites && tops) (knows_tops version.lineage version.body) sound))

version_made : (changes : ℕ) (key : RowKey) (version : Version) → row_was_made 0 changes key version ≡ true → number_of version.lineage 0 ≤ changes
unfolding row_was_made
version_made changes key version sound =
    grind (arith, nat_tests, and_first (nat_le (number_of version.lineage 0) changes) (option_map_or (was_made 0 changes) (maker_of key.row.0) true) sound)

row_fits : (publication : Publication) (t : PublisherStored) (row : RowKey × PublisherRow) → row_is_sound publication t row.0 row.1 ≡ true → RowFits publication t.changes row
unfolding row_is_sound
row_fits publication t row sound =
    let whole : Bool = version_is_sound publication row.0.article row.1.version in
    let made : Bool = row_was_made 0 t.changes row.0 row.1.version in
    let kept = and_first (whole && made) (has_space t row.1.changed) sound in
    record { fits = version_fits publication row.0.article row.1.version (and_first whole made kept); known = version_made t.changes row.0 row.1.version (and_second whole made kept) }

-- ---- all of it

-- what holds of the tables that a store loads to
record Found (publication : Publication) (t : PublisherStored) : Type 0 where
  keeps : KeepRules publication (new_holders publication) t
  ordered : IsPublisherOrdered t
  articles : keys_of t.held ≡ keys_of (new_holders publication)

found : (publication : Publication) (es : Map) (t : PublisherStored) → IsMap es → publisher_loaded publication (new_holders publication) es ≡ Ok t → Found publication t
found publication es t map_fits loads = record {
  keeps = loaded_keeps publication (new_holders publication) es t map_fits (new-beginning publication) loads;
  ordered = loaded_ordered publication (new_holders publication) es t map_fits (new-beginning publication) loads;
  articles = loaded_articles publication (new_holders publication) es t map_fits (new-beginning publication) loads;
}

columns_found : (publication : Publication) (held : List (ℕ × Holder)) → keys_of held ≡ keys_of (new_holders publication) → HaveColumns publication held
columns_found publication held same article =
    is_some-lookup (is_at (nat_cmp article)) held
    ∙ ap (list_any (is_at (nat_cmp article))) same
    ∙ sym (is_some-lookup (is_at (nat_cmp article)) (new_holders publication))
    ∙ has_columns publication article

rules_kept : (publication : Publication) (t : PublisherStored) → Found publication t → KeepsRules publication (stored_tables t)
rules_kept publication t f = record {
  rows = each_so (RowFits publication t.changes) _ (λ front row sound. row_fits publication _ row sound.2) [] t.rows f.keeps.rows;
  rising = numbers-rise t.conflict_count 0 t.conflicts (numbered-on t.conflict_count 0 t.conflicts f.keeps.numbered);
  conflicts = numbers-below t.conflict_count 0 t.conflicts (numbered-on t.conflict_count 0 t.conflicts f.keeps.numbered);
  held = columns_found publication t.held f.articles;
  heard = holder_has publication (new_holders publication) t f.keeps (new-beginning publication) f.ordered.held;
}

generations : (publication : Publication) (t : PublisherStored) → Found publication t → gens.IsSound (record { filling = t.filling; closings = t.closings })
generations publication t f = record {
  unfilled = unfilled t.conflict_count (state_of t) f.keeps.state;
  ascending = ascending t.closings f.ordered.closings;
  closed = All-from_recursion (λ (c : Closing). c.generation ≤ t.filling.last_closed) t.closings (all_so _ _ (λ closing sound. closed_by t.filling.last_closed closing sound.2) t.closings f.keeps.closings);
}

-- a publisher can be restored with them
started-stands : (publication : Publication) (t : PublisherStored) → Found publication t → CanStand publication (stored_tables t)
started-stands publication t f = record {
  sorted = record { rows_ascend = f.ordered.rows; mappings_ascend = f.ordered.mappings; sites_ascend = f.ordered.sites; generations_ascend = generations publication t f };
  held_ascend = f.ordered.held;
  granted = f.keeps.granted;
  in_order = f.keeps.in_order;
  keeps = rules_kept publication t f;
}

-- ---- the keeper has their records

started-keyed : (publication : Publication) → length publication.articles ≤ 32 → (t : PublisherStored) → Found publication t → AreKeyed (stored_tables t)
unfolding AreKeyed
started-keyed publication few t f = record {
  rows = each_so _ _ (λ front row sound. sound.0) [] t.rows f.keeps.rows;
  mappings = each_so _ _ (λ front move sound. sound.0) [] t.mappings f.keeps.mappings;
  closings = all_mapped _ closing_pair t.closings (all_so _ _ (λ closing sound. sound.0) t.closings f.keeps.closings);
  conflicts = all_mapped _ conflict_pair t.conflicts (each_so _ _ (λ front row sound. sound.0) [] t.conflicts f.keeps.conflicts);
  grants = f.keeps.keyed;
  held = held-keyed publication few t.held f.articles;
  sorted = f.ordered.held;
  sites = all_so _ _ (λ site sound. sound.0) t.sites f.keeps.sites;
}

-- a store of no entries is bare
begun-alone : (publication : Publication) (t : PublisherStored) → tables_with (new_holders publication) no_state ≡ t → publisher_records t ≡ (state_key, publisher_state t) ∷ []
begun-alone publication t is =
    subst (λ (t : PublisherStored). publisher_records t ≡ (state_key, publisher_state t) ∷ []) is
    (ap (λ (l : List (ℕ × Holder)). (let m : Map = (state_key, publisher_state (tables_with (new_holders publication) no_state)) ∷ (rows_after_all entry_cmp (encoded_entries held_key held_value l) [] ++ []) in m)) (none_received (identities publication)))

first-fresh : (publication : Publication) → IsFreshState (publisher_state (tables_with (new_holders publication) no_state))
first-fresh publication = inl refl

begun-fresh : (publication : Publication) (t : PublisherStored) → tables_with (new_holders publication) no_state ≡ t → IsFreshState (publisher_state t)
begun-fresh publication t is = subst (λ (t : PublisherStored). IsFreshState (publisher_state t)) is (first-fresh publication)

has-records : (publication : Publication) (entries : Map) → IsMap entries → (t : PublisherStored) → publisher_loaded publication (new_holders publication) entries ≡ Ok t → HasRecords (records_of (stored_tables t)) entries
unfolding HasRecords records_of
has-records publication [] is_map t loads =
    let begun : tables_with (new_holders publication) no_state ≡ t = ok_is (tables_with (new_holders publication) no_state) t loads in
    inr (record { empty = refl; state = publisher_state t; alone = begun-alone publication t begun; fresh = begun-fresh publication t begun })
has-records publication (e ∷ es) is_map t loads =
    let back = loaded_back publication (new_holders publication) e es t is_map (new-beginning publication) loads in
    inl back.records

-- ---- what a start gives

pub record Started (publication : Publication) (p : PublisherTables) (told : Option Map) : Type 0 where
  pub stands : CanStand publication p
  pub kept : IsKeptPublisher p told

pub started : (publication : Publication) → ((resolvers : ℕ) × IsValid resolvers publication) → (told : Option Map) (t : PublisherStored) → IsRead (publisher_loaded publication (new_holders publication)) told (Ok t) → Started publication (stored_tables t) told
started publication valid told t read =
    let v = valid.1 in
    let f : Found publication t = found publication read.entries t read.are_map read.load_to in
    record {
      stands = started-stands publication t f;
      kept = record {
        keyed = started-keyed publication v.some_articles.1 t f;
        kept = kept-told (records_of (stored_tables t)) read.entries (has-records publication read.entries read.are_map t read.load_to) told read.are_told;
        printable = records-printable (λ (row : PublisherRow). row.version) t.rows (each_so _ _ (λ front row sound. sound.1.0) [] t.rows f.keeps.rows);
        lost = lost-records-printable t.conflicts (each_so _ _ (λ front row sound. sound.1.1) [] t.conflicts f.keeps.conflicts);
      };
    }
