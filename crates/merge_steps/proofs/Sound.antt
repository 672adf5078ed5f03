-- What a membership and an index hold follows many rows, and the entries that the code finds are those of the moves.
use Rattle.std.specs.Prelude.{◌≡◌, ◌==◌, ◌&&◌, ◌||◌, ◌++◌, ◌+◌, ℕ, suc, List, [], ◌∷◌, Bool, true, false, not, Option, Some, None, refl, cond, if◌then◌else◌, filter, length, map, Contains}
use Rattle.std.specs.BTreeMap.{is_at}
use Rattle.std.specs.Cmp.{Equal-is}
use Rattle.std.specs.FinSet as set
use Rattle.std.specs.List.{list_any, zip}
use Rattle.std.specs.List.Sorted.{IsStrictlySortedBy}
use Rattle.std.specs.Map.{keys_of}
use Rattle.std.proofs.Common.{arith, sym, ap, ◌∙◌, subst}
use Rattle.std.proofs.lemmas.Bool.Decides.{nat_tests}
use Rattle.std.proofs.lemmas.Map.Keys.{sorted_tail}
use Rattle.merge_units.specs.declared.version.Version.{Version}
use Rattle.merge_table.specs.declared.edit.Edit.{Edit}
use Rattle.merge_table.specs.Edits.{rows_after, rows_after_all}
use Rattle.merge_table.proofs.LookUps.{lookup-insert_entry, rows_from_look_ups}
use Rattle.merge_table.proofs.Room.{rest_above}
use Rattle.merge_table.proofs.Slots.{lookup_above}
use Rattle.merge_gens.specs.Entries.{entry_cmp}
use Rattle.merge_gens.specs.Index.{entries_after, entries_after_all}
use Rattle.merge_gens.specs.declared.index.IndexEntry.{IndexEntry}
use Rattle.merge_table.proofs.Sorted.{sorted_put}
use Rattle.merge_table.proofs.Sorted.{sorted_after_all}
use Rattle.merge_part.specs.Live.{Live as LiveList, live_after_all}
use Rattle.merge_part.specs.Moves.{AreMoves}
use Rattle.merge_part.specs.declared.change.Move.{Move}
use Rattle.merge_gens.specs.declared.moves.MoveKind.TheVariants.{Entered, Left}
use Rattle.merge_schema.specs.Partition.{LiveRow, is_in_at}
use Rattle.merge_schema.specs.declared.publication.Publication.{Publication}
use Rattle.merge_schema.proofs.ListMembers.{any_at, any_found}
use Rattle.merge_model.specs.Publisher.Entries.{Changing, with_rows}
use Rattle.merge_steps.specs.Indexed.{AreIndexed}
use Rattle.merge_model.specs.Tables.Keys.{at_row_site, has_key, put_row, put_row_site, row_at, same_key}
use Rattle.merge_types.specs.RowKeys.{key_cmp}
use Rattle.merge_gens.specs.Moves.{is_left, row_site_cmp}
use Rattle.merge_steps.specs.LiveRows.{live_pairs}
use Rattle.merge_gens.specs.Moves.{row_site_exact}
use Rattle.merge_steps.specs.Rows.{index_edits}
use Rattle.merge_types.specs.declared.row_key.RowKey.{RowKey as Key}
use Rattle.merge_gens.specs.declared.moves.MoveKind.{MoveKind}
use Rattle.merge_units.specs.declared.site_row.PublisherRow.{PublisherRow}
use Rattle.merge_gens.specs.declared.moves.RowSite.{RowSite}
use Rattle.merge_steps.specs.Tie.{entry_of, key_moved, told_moves}
use Rattle.merge_steps.specs.Working.{Apart, all_indexing, all_told, found_entries, found_out, found_outs, is_move_at, is_out, keys_in, left_edit, move_edit, outs_of, row_change}
use Rattle.merge_steps.proofs.Follows.{changed-indexed, live-follows, new-indexed, row-put}
use Rattle.merge_model.proofs.Publishers.Sorted.{key_total, row_site_total}
use Rattle.merge_model.proofs.Lists.KeyLookUps.{keys-same}
use Rattle.merge_steps.proofs.Moved.{or_else, place}
use Rattle.merge_model.proofs.Lists.KeyLookUps.{key-itself}
use Rattle.merge_steps.proofs.Told.{ordered}
use Rattle.merge_steps.proofs.Whole.{both-true}

abbrev Row : Type 0
Row = (Key × Version) × ℕ

abbrev row_of : Row → PublisherRow
row_of row = record { version = row.0.1; changed = row.1 }

-- The live rows.

pub live-many : (changed : List Row) (rows : List (Key × PublisherRow)) → IsStrictlySortedBy key_cmp (keys_of rows)
    → live_after_all (live_pairs rows) (map row_change (map (λ (row : Row). row.0) changed)) ≡ live_pairs (with_rows rows changed)
live-many [] rows sorted = refl
live-many (row ∷ changed) rows sorted =
    ap (λ (live : LiveList). live_after_all live (map row_change (map (λ (other : Row). other.0) changed))) (live-follows row.0.0 (row_of row) rows sorted)
    ∙ live-many changed (put_row rows row.0.0 (row_of row)) (sorted_put key_cmp key_total row.0.0 (row_of row) rows sorted)

pub firsts-zip : (versions : List (Key × Version)) (ns : List ℕ) → length ns ≡ length versions → map (λ (row : Row). row.0) (zip versions ns) ≡ versions
firsts-zip [] ns same = refl
firsts-zip (v ∷ versions) [] same = absurd (omega (arith, same))
firsts-zip (v ∷ versions) (n ∷ ns) same = ap (λ (vs : List (Key × Version)). v ∷ vs) (firsts-zip versions ns (omega (arith, same)))

pub firsts-zero : (versions : List (Key × Version)) → map (λ (row : Row). row.0) (map (λ (v : Key × Version). (let row : Row = (v, 0) in row)) versions) ≡ versions
firsts-zero [] = refl
firsts-zero (v ∷ versions) = ap (λ (vs : List (Key × Version)). v ∷ vs) (firsts-zero versions)

-- The index.

abbrev IndexSet : Type 0
IndexSet = set.FinSet entry_cmp

entries-append : (entries : IndexSet) (xs ys : List (Edit IndexEntry (Unit {0}))) → entries_after_all entries (xs ++ ys) ≡ entries_after_all (entries_after_all entries xs) ys
entries-append entries [] ys = refl
entries-append entries (x ∷ xs) ys = entries-append (entries_after entries x) xs ys

one-indexed : (rows : List (Key × PublisherRow)) (entries : IndexSet) (key : Key) (row : PublisherRow) (found : Option PublisherRow) → row_at rows key ≡ found → AreIndexed rows entries
    → AreIndexed (put_row rows key row) (entries_after_all entries (index_edits found key row.changed))
one-indexed rows entries key row None is indexed = new-indexed rows entries key row is indexed
one-indexed rows entries key row (Some was) is indexed = changed-indexed rows entries key row was is indexed

apart-step : (k key : Key) (keys : List Key) (b : Bool) → same_key k key ≡ b → has_key keys key ≡ false → has_key keys k ≡ true → b ≡ false
apart-step k key keys true same none there = let no : true ≡ false = sym there ∙ ap (has_key keys) (keys-same k key same) ∙ none in absurd cc
apart-step k key keys false same none there = refl

or-later : (a b : Bool) → b ≡ true → (a || b) ≡ true
or-later true b e = refl
or-later false b e = e

or-itself : (a b : Bool) → a ≡ true → (a || b) ≡ true
or-itself true b e = refl
or-itself false b e = absurd cc

pub index-many : (old : List (Key × PublisherRow)) (changed : List Row) (rows : List (Key × PublisherRow)) (entries : IndexSet) → Apart (map (λ (row : Row). row.0.0) changed)
    → ((k : Key) → has_key (map (λ (row : Row). row.0.0) changed) k ≡ true → row_at rows k ≡ row_at old k) → AreIndexed rows entries → AreIndexed (with_rows rows changed) (entries_after_all entries (all_indexing old changed))
index-many old [] rows entries apart same indexed = indexed
index-many old (row ∷ changed) rows entries apart same indexed =
    let keys : List Key = map (λ (other : Row). other.0.0) changed in
    let edits : List (Edit IndexEntry (Unit {0})) = index_edits (row_at old row.0.0) row.0.0 row.1 in
    subst (λ (s : IndexSet). AreIndexed (with_rows (put_row rows row.0.0 (row_of row)) changed) s) (sym (entries-append entries edits (all_indexing old changed)))
    (index-many old changed (put_row rows row.0.0 (row_of row)) (entries_after_all entries edits) apart.1
    (λ k there. row-put rows row.0.0 (row_of row) k
    ∙ ap (λ (b : Bool). (let found : Option PublisherRow = cond b (Some (row_of row)) (row_at rows k) in found)) (apart-step k row.0.0 keys (same_key k row.0.0) refl apart.0 there)
    ∙ same k (or-later (same_key k row.0.0) (has_key keys k) there))
    (one-indexed rows entries row.0.0 (row_of row) (row_at old row.0.0) (same row.0.0 (or-itself (same_key row.0.0 row.0.0) (has_key keys row.0.0) (key-itself row.0.0))) indexed))

-- The entries that the code finds.

filter-same : (f g : Key → Bool) → ((k : Key) → f k ≡ g k) → (keys : List Key) → filter f keys ≡ filter g keys
filter-same f g same [] = refl
filter-same f g same (k ∷ keys) =
    ap (λ (b : Bool). (let kept : List Key = cond b (k ∷ filter f keys) (filter f keys) in kept)) (same k) ∙ ap (λ (rest : List Key). (let kept : List Key = cond (g k) (k ∷ rest) rest in kept)) (filter-same f g same keys)

not-twice : (b : Bool) → b ≡ not (not b)
not-twice true = refl
not-twice false = refl

out-by : (any w i : Bool) → (any ≡ true → w ≡ not i) → (any ≡ false → w ≡ i) → (if any then w else not w) ≡ not i
out-by true w i moved stays = moved refl
out-by false w i moved stays = ap not (stays refl)

module _ (publication : Publication) (before after : List LiveRow) (moves : List Move) (are : AreMoves publication before after moves) (site : ℕ) where
  abbrev was : RowSite → Bool
  was q = is_in_at publication (record { 0 = q.site }) before q.key.article q.key.row

  abbrev is : RowSite → Bool
  is q = is_in_at publication (record { 0 = q.site }) after q.key.article q.key.row

  moved-out : (key : Key) → list_any (is_move_at key site) moves ≡ true → was (place key site) ≡ not (is (place key site))
  moved-out key any =
      let at = any_found (is_move_at key site) moves any in
      let both = both-true (same_key key (key_moved at.0)) (at.0.site.0 == site) at.2 in
      let number : at.0.site.0 ≡ site = (let e = both.1 in grind (arith, nat_tests, e)) in
      let same : (entry_of at.0).0 ≡ place key site = ap (λ (k : Key). place k at.0.site.0) (sym (keys-same key (key_moved at.0) both.0)) ∙ ap (λ (n : ℕ). place key n) number in
      let differs = (are.each at.0).0 at.1 in
      subst (λ (q : RowSite). was q ≡ not (is q)) same (differs.0 ∙ not-twice (is_left at.0.kind) ∙ ap not (sym differs.1))

  stay-by : (key : Key) (w i : Bool) → was (place key site) ≡ w → is (place key site) ≡ i → list_any (is_move_at key site) moves ≡ false → w ≡ i
  stay-by key true true old new none = refl
  stay-by key false false old new none = refl
  stay-by key true false old new none =
      let m : Move = record { article = key.article; row = key.row; site = record { 0 = site }; kind = Left } in
      let one = key-itself key in
      let no : false ≡ true = sym none ∙ any_at (is_move_at key site) moves m ((are.each m).1 (old, new)) (grind (arith, nat_tests, one)) in absurd cc
  stay-by key false true old new none =
      let m : Move = record { article = key.article; row = key.row; site = record { 0 = site }; kind = Entered } in
      let one = key-itself key in
      let no : false ≡ true = sym none ∙ any_at (is_move_at key site) moves m ((are.each m).1 (old, new)) (grind (arith, nat_tests, one)) in absurd cc

  pub out-found : (key : Key) → found_out publication site before moves key ≡ is_out publication site after key
  out-found key = out-by (list_any (is_move_at key site) moves) (was (place key site)) (is (place key site)) (moved-out key) (stay-by key (was (place key site)) (is (place key site)) refl refl)

  pub outs-found : (acted : List Key) → found_outs publication site before moves acted ≡ outs_of publication site after acted
  outs-found acted = filter-same (found_out publication site before moves) (is_out publication site after) out-found acted

rows-append : (rows : List (RowSite × MoveKind)) (xs ys : List (Edit RowSite MoveKind)) → rows_after_all row_site_cmp rows (xs ++ ys) ≡ rows_after_all row_site_cmp (rows_after_all row_site_cmp rows xs) ys
rows-append rows [] ys = refl
rows-append rows (x ∷ xs) ys = rows-append (rows_after row_site_cmp rows x) xs ys

puts-head : (b : Bool) (v : MoveKind) (found other : Option MoveKind) → (b ≡ true → found ≡ None) → or_else found (let o : Option MoveKind = cond b (Some v) other in o) ≡ or_else (let o : Option MoveKind = cond b (Some v) found in o) other
puts-head true v found other none = ap (λ (o : Option MoveKind). or_else o (Some v)) (none refl)
puts-head false v found other none = refl

puts-found : (q : RowSite) (es rows : List (RowSite × MoveKind)) → IsStrictlySortedBy row_site_cmp (keys_of es) → at_row_site (rows_after_all row_site_cmp rows (map move_edit es)) q ≡ or_else (at_row_site es q) (at_row_site rows q)
puts-found q [] rows sorted = refl
puts-found q (e ∷ es) rows sorted =
    puts-found q es (put_row_site rows e.0 e.1) (sorted_tail row_site_cmp e.0 (keys_of es) sorted)
    ∙ ap (λ (o : Option MoveKind). or_else (at_row_site es q) o) (lookup-insert_entry row_site_cmp row_site_total e.0 q e.1 rows)
    ∙ puts-head (is_at (row_site_cmp q) e.0) e.1 (at_row_site es q) (at_row_site rows q)
    (λ at. lookup_above row_site_cmp q es (rest_above row_site_cmp row_site_total q e.0 (keys_of es) sorted ((Equal-is (row_site_cmp q e.0)).0 at)))

or-nothing : (o : Option MoveKind) → or_else o None ≡ o
or-nothing None = refl
or-nothing (Some v) = refl

no-entries-sorted : IsStrictlySortedBy row_site_cmp (keys_of (let none : List (RowSite × MoveKind) = [] in none))
unfolding IsStrictlySortedBy
no-entries-sorted = tt

puts-all : (es : List (RowSite × MoveKind)) → IsStrictlySortedBy row_site_cmp (keys_of es) → rows_after_all row_site_cmp [] (map move_edit es) ≡ es
puts-all es sorted = rows_from_look_ups row_site_cmp row_site_total row_site_exact (rows_after_all row_site_cmp [] (map move_edit es)) es
    (sorted_after_all row_site_cmp row_site_total [] (map move_edit es) no-entries-sorted) sorted (λ q. puts-found q es [] sorted ∙ or-nothing (at_row_site es q))

pub entries-found : (publication : Publication) (before after : List LiveRow) (changing : Changing) (moves : List Move) → AreMoves publication before after moves
    → found_entries publication before changing moves ≡ all_told (keys_in changing.versions) changing.uploader (outs_of publication changing.uploader after changing.acted) moves
entries-found publication before after changing moves are =
    let changed : List Key = keys_in changing.versions in
    let site : ℕ = changing.uploader in
    rows-append [] (map move_edit (told_moves changed moves)) (map (left_edit site) (found_outs publication site before moves changing.acted))
    ∙ ap (λ (es : List (RowSite × MoveKind)). rows_after_all row_site_cmp es (map (left_edit site) (found_outs publication site before moves changing.acted))) (puts-all (told_moves changed moves) (ordered publication before after changed moves are))
    ∙ ap (λ (outs : List Key). all_told changed site outs moves) (outs-found publication before after moves are site changing.acted)
