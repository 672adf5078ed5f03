-- The tables that a publisher keeps, and what it holds with them.
use Rattle.std.specs.Prelude.{◌≡◌, ◌||◌, ℕ, List, [], ◌∷◌, All, Bool, false, map, refl}
use Rattle.std.specs.FinSet as set
use Rattle.std.specs.List.{AllByRecursion}
use Rattle.std.specs.List.Sorted.{IsStrictlySortedBy}
use Rattle.std.specs.Map.{keys_of}
use Rattle.std.specs.Ordering.{is_eq}
use Rattle.std.specs.declared.cmp.Ordering.TheVariants.{Equal, Less}
use Rattle.std.proofs.Common.{ap, arith, subst, sym, ◌∙◌}
use Rattle.std.proofs.lemmas.Cmp.{tied_itself}
use Rattle.std.proofs.lemmas.List.Elements.{All-from_recursion}
use Rattle.std.proofs.lemmas.List.Kept.{AllPairs-cons}
use Rattle.std.proofs.lemmas.Map.Keys.{sorted_head, sorted_tail}
use Rattle.merge_types.specs.RowKeys.{key_cmp}
use Rattle.merge_types.specs.declared.row_key.RowKey.{RowKey as Key}
use Rattle.merge_units.specs.declared.site_row.PublisherRow.{PublisherRow}
use Rattle.merge_units.specs.declared.version.Version.{Version}
use Rattle.merge_table.proofs.Room.{AreAbove, no_room_above}
use Rattle.merge_table.specs.Edits.{rows_after_all}
use Rattle.merge_table.specs.declared.edit.Edit.{Edit}
use Rattle.merge_gens.specs.Entries.{entry_cmp, entry_of}
use Rattle.merge_gens.specs.Index.{entries_after_all}
use Rattle.merge_gens.specs.Moves.{row_site_cmp}
use Rattle.merge_gens.specs.declared.index.IndexEntry.{IndexEntry}
use Rattle.merge_gens.specs.declared.moves.Mapping.{Mapping}
use Rattle.merge_gens.specs.declared.moves.RowSite.{RowSite}
use Rattle.merge_schema.specs.Valid.{IsValid}
use Rattle.merge_schema.specs.declared.publication.Publication.{Publication}
use Rattle.merge_part.specs.Live.{Live as LiveList, live_after_all}
use Rattle.merge_part.specs.Taking.{EachRowOnce, FitsArticle, key_of_change}
use Rattle.merge_part.specs.View.{live_in}
use Rattle.merge_part.specs.declared.change.RowChange.{RowChange}
use Rattle.merge_change.proofs.SortedRows.{put_of, puts-made}
use Rattle.merge_model.proofs.Lists.KeyLookUps.{key-test}
use Rattle.merge_model.proofs.Lists.{all-map}
use Rattle.merge_model.proofs.Publishers.Sorted.{key_total, row_site_total}
use Rattle.merge_model.specs.Publisher.Entries.{with_rows}
use Rattle.merge_model.specs.Tables.Keys.{has_key, put_row, same_key}
use Rattle.merge_model.specs.Tables.Publications.{rules_of}
use Rattle.merge_model.specs.Tables.{PublisherTables}
use Rattle.merge_steps.proofs.Fitting.{changes-fit}
use Rattle.merge_steps.proofs.MoveFollows.{moves-follow}
use Rattle.merge_steps.proofs.Sound.{index-many, live-many}
use Rattle.merge_pub.specs.Held.{IsSound}
use Rattle.merge_steps.specs.Indexed.{AreIndexed, AreMoved}
use Rattle.merge_steps.specs.Keeps.{FitsHere, KeepsRules, RowFits}
use Rattle.merge_steps.specs.LiveRows.{live_pairs}
use Rattle.merge_steps.specs.MoveEntries.{move_entry_cmp}
use Rattle.merge_pub.specs.Restoring.{AreIndexesOf, CanStand, changed_put, held_with, moved_put, tables_with, version_of, versions_of}
use Rattle.merge_steps.specs.Rows.{moved_edits}
use Rattle.merge_steps.specs.Working.{Apart, AreApart, all_indexing, places_of, row_change}
use Rattle.merge_pub.specs.declared.indexes.Indexes.{Indexes}
use Rattle.merge_steps.specs.declared.site_moves.MoveEntry.{MoveEntry}
use Rattle.merge_pub.specs.declared.tables.Tables.{Tables}

abbrev Rows : Type 0
Rows = List (Key × PublisherRow)

abbrev Row : Type 0
Row = (Key × Version) × ℕ

abbrev row_from : Key × PublisherRow → Row
row_from row = ((row.0, row.1.version), row.1.changed)

-- Rows that are put one after the other.

none-ascend : IsStrictlySortedBy key_cmp (keys_of (let none : Rows = [] in none))
unfolding IsStrictlySortedBy
none-ascend = tt

with-puts : (done rest : Rows) → with_rows done (map row_from rest) ≡ rows_after_all key_cmp done (map put_of rest)
with-puts done [] = refl
with-puts done (row ∷ rest) = with-puts (put_row done row.0 row.1) rest

with-sorted : (rows : Rows) → IsStrictlySortedBy key_cmp (keys_of rows) → with_rows [] (map row_from rows) ≡ rows
with-sorted rows sorted = with-puts [] rows ∙ puts-made key_cmp key_total [] rows sorted

firsts-from : (rows : Rows) → map (λ (row : Row). row.0) (map row_from rows) ≡ versions_of rows
firsts-from [] = refl
firsts-from (row ∷ rows) = ap (λ (vs : List (Key × Version)). version_of row ∷ vs) (firsts-from rows)

-- The live rows.

pub restored-live : (rows : Rows) → IsStrictlySortedBy key_cmp (keys_of rows) → (before live : LiveList) → before ≡ [] → (changes : List RowChange) → changes ≡ map row_change (versions_of rows) → live ≡ live_after_all before changes → live ≡ live_pairs rows
restored-live rows sorted before live none changes are is =
    is
    ∙ ap (λ (l : LiveList). live_after_all l changes) none
    ∙ ap (λ (cs : List RowChange). live_after_all [] cs) (are ∙ ap (λ (vs : List (Key × Version)). map row_change vs) (sym (firsts-from rows)))
    ∙ live-many (map row_from rows) [] none-ascend
    ∙ ap live_pairs (with-sorted rows sorted)

never-itself : (a b : Key) → key_cmp a b ≡ Less → a ≡ b → ⊥
never-itself a b less same =
    let tied : Less ≡ Equal = sym less ∙ ap (key_cmp a) (sym same) ∙ tied_itself key_total a in
    absurd cc

apart-from-all : (key : Key) (rows : Rows) → AreAbove key_cmp key (keys_of rows) → AllByRecursion (λ (change : RowChange). key ≡ key_of_change change → ⊥) (map row_change (versions_of rows))
apart-from-all key [] above = tt
apart-from-all key (row ∷ rows) above = (never-itself key row.0 above.0, apart-from-all key rows above.1)

pub rows-once : (rows : Rows) → IsStrictlySortedBy key_cmp (keys_of rows) → EachRowOnce (map row_change (versions_of rows))
rows-once [] sorted = λ i j d less within. absurd (omega arith)
rows-once (row ∷ rows) sorted =
    AllPairs-cons (λ (one other : RowChange). key_of_change one ≡ key_of_change other → ⊥) (row_change (version_of row)) (map row_change (versions_of rows))
    (All-from_recursion (λ (change : RowChange). row.0 ≡ key_of_change change → ⊥) (map row_change (versions_of rows)) (apart-from-all row.0 rows (sorted_head key_cmp row.0 (keys_of rows) sorted)))
    (rows-once rows (sorted_tail key_cmp row.0 (keys_of rows) sorted))

pub kept-fit : (publication : Publication) (changes : ℕ) (rows : Rows) → AllByRecursion (RowFits publication changes) rows → All (FitsArticle publication) (map row_change (versions_of rows))
kept-fit publication changes rows fit = changes-fit publication changes (versions_of rows) (all-map (RowFits publication changes) (FitsHere publication changes) version_of (λ row fits. fits) rows fit)

-- The rows by the generations of their last changes.

none-has : (key : Key) (rows : Rows) → AreAbove key_cmp key (keys_of rows) → has_key (map (λ (row : Row). row.0.0) (map row_from rows)) key ≡ false
none-has key [] above = refl
none-has key (row ∷ rows) above =
    let differs : same_key key row.0 ≡ false = sym (key-test key row.0) ∙ ap is_eq above.0 in
    ap (λ (b : Bool). b || has_key (map (λ (other : Row). other.0.0) (map row_from rows)) key) differs ∙ none-has key rows above.1

keys-apart : (rows : Rows) → IsStrictlySortedBy key_cmp (keys_of rows) → Apart (map (λ (row : Row). row.0.0) (map row_from rows))
keys-apart [] sorted = tt
keys-apart (row ∷ rows) sorted = (none-has row.0 rows (sorted_head key_cmp row.0 (keys_of rows) sorted), keys-apart rows (sorted_tail key_cmp row.0 (keys_of rows) sorted))

indexing-none : (rows : Rows) → all_indexing [] (map row_from rows) ≡ map changed_put rows
indexing-none [] = refl
indexing-none (row ∷ rows) = ap (λ (edits : List (Edit IndexEntry (Unit {0}))). changed_put row ∷ edits) (indexing-none rows)

none-indexed : AreIndexed [] set.empty
unfolding AreIndexed
none-indexed = λ key generation. set.contains-empty entry_cmp (entry_of generation key)

pub restored-indexed : (rows : Rows) → IsStrictlySortedBy key_cmp (keys_of rows) → (entries : set.FinSet entry_cmp) → entries ≡ entries_after_all set.empty (map changed_put rows) → AreIndexed rows entries
restored-indexed rows sorted entries is =
    let made : AreIndexed (with_rows [] (map row_from rows)) (entries_after_all set.empty (all_indexing [] (map row_from rows))) =
    index-many [] (map row_from rows) [] set.empty (keys-apart rows sorted) (λ k there. refl) none-indexed in
    subst (λ (rs : Rows). AreIndexed rs entries) (with-sorted rows sorted)
    (subst (λ (s : set.FinSet entry_cmp). AreIndexed (with_rows [] (map row_from rows)) s) (ap (λ (edits : List (Edit IndexEntry (Unit {0}))). entries_after_all set.empty edits) (indexing-none rows) ∙ sym is) made)

-- The mappings by their generations.

abbrev Mappings : Type 0
Mappings = List (RowSite × Mapping)

abbrev MoveEntries : Type 0
MoveEntries = List (MoveEntry × Unit {0})

no-mappings-ascend : IsStrictlySortedBy row_site_cmp (keys_of (let none : Mappings = [] in none))
unfolding IsStrictlySortedBy
no-mappings-ascend = tt

no-entries-ascend : IsStrictlySortedBy move_entry_cmp (keys_of (let none : MoveEntries = [] in none))
unfolding IsStrictlySortedBy
no-entries-ascend = tt

none-moved : AreMoved [] []
unfolding AreMoved
none-moved = λ place generation. refl

moving-none : (mappings : Mappings) → moved_edits [] (map put_of mappings) ≡ map moved_put mappings
moving-none [] = refl
moving-none (mapping ∷ mappings) = ap (λ (edits : List (Edit MoveEntry (Unit {0}))). moved_put mapping ∷ edits) (moving-none mappings)

places-kept : (mappings : Mappings) → places_of (map put_of mappings) ≡ keys_of mappings
places-kept [] = refl
places-kept (mapping ∷ mappings) = ap (λ (places : List RowSite). mapping.0 ∷ places) (places-kept mappings)

places-apart : (mappings : Mappings) → IsStrictlySortedBy row_site_cmp (keys_of mappings) → AreApart (keys_of mappings)
places-apart [] sorted = tt
places-apart (mapping ∷ mappings) sorted =
    (no_room_above row_site_cmp mapping.0 (keys_of mappings) (sorted_head row_site_cmp mapping.0 (keys_of mappings) sorted), places-apart mappings (sorted_tail row_site_cmp mapping.0 (keys_of mappings) sorted))

pub restored-moved : (mappings : Mappings) → IsStrictlySortedBy row_site_cmp (keys_of mappings) → (entries : MoveEntries) → entries ≡ rows_after_all move_entry_cmp [] (map moved_put mappings) → AreMoved mappings entries
restored-moved mappings sorted entries is =
    let apart : AreApart (places_of (map put_of mappings)) = subst AreApart (sym (places-kept mappings)) (places-apart mappings sorted) in
    let made : AreMoved (rows_after_all row_site_cmp [] (map put_of mappings)) (rows_after_all move_entry_cmp [] (moved_edits [] (map put_of mappings))) =
    moves-follow [] (map put_of mappings) [] [] apart (λ q there. refl) no-mappings-ascend no-entries-ascend none-moved in
    subst (λ (ms : Mappings). AreMoved ms entries) (puts-made row_site_cmp row_site_total [] mappings sorted)
    (subst (λ (es : MoveEntries). AreMoved (rows_after_all row_site_cmp [] (map put_of mappings)) es) (ap (λ (edits : List (Edit MoveEntry (Unit {0}))). rows_after_all move_entry_cmp [] edits) (moving-none mappings) ∙ sym is) made)

-- What finds them.

pub indexes-stand : (publication : Publication) (rows : Rows) (mappings : Mappings) → IsStrictlySortedBy key_cmp (keys_of rows) → IsStrictlySortedBy row_site_cmp (keys_of mappings) → (i : Indexes) → i.membership.publication ≡ publication
    → live_in i.membership ≡ live_pairs rows → i.changed.entries ≡ entries_after_all set.empty (map changed_put rows) → i.moved.rows ≡ rows_after_all move_entry_cmp [] (map moved_put mappings) → AreIndexesOf publication rows mappings i
indexes-stand publication rows mappings ascend placed i same live changed moved = record {
  same = same;
  live = live;
  changed = restored-indexed rows ascend i.changed.entries changed;
  moved = restored-moved mappings placed i.moved.rows moved;
}

-- What is held with tables that can stand is sound.
pub restored-sound : (publication : Publication) → ((resolvers : ℕ) × IsValid resolvers publication) → (kept : PublisherTables) → CanStand publication kept → (i : Indexes) → AreIndexesOf publication kept.rows kept.mappings i
    → (t : Tables) → t.grants.rules ≡ rules_of publication → tables_with t ≡ kept → IsSound (held_with i t)
restored-sound publication valid kept stands i found t rules tables =
    let rows : t.keyed.rows.rows ≡ kept.rows = ap (λ (p : PublisherTables). p.rows) tables in
    let mappings : t.keyed.mappings.rows ≡ kept.mappings = ap (λ (p : PublisherTables). p.mappings) tables in
    let same : publication ≡ i.membership.publication = sym found.same in
    record {
      valid = subst (λ (p : Publication). (resolvers : ℕ) × IsValid resolvers p) same valid;
      rules = rules ∙ ap rules_of same;
      live = found.live ∙ sym (ap live_pairs rows);
      indexed = subst (λ (rs : Rows). AreIndexed rs i.changed.entries) (sym rows) found.changed;
      moved = subst (λ (ms : Mappings). AreMoved ms i.moved.rows) (sym mappings) found.moved;
      keeps = subst (λ (p : Publication). KeepsRules p (tables_with t)) same (subst (λ (s : PublisherTables). KeepsRules publication s) (sym tables) stands.keeps);
    }
