-- A step that gives many rows versions, as edits.
use Rattle.std.specs.Prelude.{◌≡◌, ◌++◌, ◌+◌, ◌&&◌, ◌||◌, ◌≤◌, ℕ, zero, suc, List, [], ◌∷◌, Bool, true, false, Option, Some, None, refl, drop, is_some, length, map, take}
use Rattle.std.specs.BTreeMap.{is_at}
use Rattle.std.specs.List.{fold, list_any, zip}
use Rattle.std.specs.List.Sorted.{IsStrictlySortedBy}
use Rattle.std.specs.Map.{keys_of}
use Rattle.std.proofs.Common.{arith, sym, ap, ◌∙◌, subst}
use Rattle.std.proofs.lemmas.List.{length-map}
use Rattle.std.proofs.lemmas.List.FromFn.{length-map-range_with_len}
use Rattle.merge_types.specs.declared.identifiers.Moment.{Moment}
use Rattle.merge_units.specs.declared.version.Version.{Version}
use Rattle.merge_table.specs.Contents.{has_room}
use Rattle.merge_table.specs.Edits.{rows_after_all}
use Rattle.merge_table.proofs.Room.{has_room-insert_key, or_right}
use Rattle.merge_table.proofs.Slots.{keys-insert_entry}
use Rattle.merge_gens.specs.Book.{book_after_entries}
use Rattle.merge_gens.specs.Filling.{generation_of, generations_of}
use Rattle.merge_table.proofs.Sorted.{sorted_put}
use Rattle.merge_part.specs.Moves.{AreMoves}
use Rattle.merge_part.specs.declared.change.Move.{Move}
use Rattle.merge_schema.specs.declared.publication.Publication.{Publication}
use Rattle.merge_model.specs.Publisher.Entries.{Changing, Entries, changed_by, keys_of as all_keys, live_rows, moves_of, parts_of, returned_rows, rows_after, touched_by, with_entries, with_generations, with_move, with_rows}
use Rattle.merge_model.specs.Judge.{PublisherJudge}
use Rattle.merge_model.specs.Tables.Keys.{drop_row_site, has_key, put_row, put_row_site}
use Rattle.merge_types.specs.RowKeys.{key_cmp}
use Rattle.merge_gens.specs.Moves.{row_site_cmp}
use Rattle.merge_resolve.specs.Priorities.{subscription_at}
use Rattle.merge_steps.specs.Rows.{has_left_at, mapping_edits, put_edit}
use Rattle.merge_types.specs.declared.row_key.RowKey.{RowKey as Key}
use Rattle.merge_gens.specs.declared.moves.Mapping.{Mapping}
use Rattle.merge_gens.specs.declared.moves.MoveKind.{MoveKind}
use Rattle.merge_units.specs.declared.site_row.PublisherRow.{PublisherRow}
use Rattle.merge_model.specs.Tables.{PublisherTables}
use Rattle.merge_gens.specs.declared.moves.RowSite.{RowSite}
use Rattle.merge_model.proofs.Entries.StepParts.{CanBeSaid}
use Rattle.merge_steps.specs.Working.{all_told, keys_in, outs_of, returns, version_edit, version_edits}
use Rattle.merge_steps.proofs.Made.{entries_with, mappings-made, zip-length}
use Rattle.merge_model.proofs.Publishers.Sorted.{key_total, row_site_total}
use Rattle.merge_steps.proofs.Moved.{place}
use Rattle.merge_steps.proofs.Returns.{returns-same}
use Rattle.merge_steps.proofs.Whole.{has-is, whole-moves}

seconds : {X : Type 0} (xs : List X) (ns : List ℕ) → length ns ≡ length xs → map (λ (e : X × ℕ). e.1) (zip xs ns) ≡ ns
seconds [] [] same = refl
seconds [] (n ∷ ns) same = absurd (omega (arith, same))
seconds (x ∷ xs) [] same = absurd (omega (arith, same))
seconds (x ∷ xs) (n ∷ ns) same = ap (λ (ms : List ℕ). n ∷ ms) (seconds xs ns (omega (arith, same)))

pub length-took : (n m : ℕ) (ns : List ℕ) → length ns ≡ n + m → length (take n ns) ≡ n
length-took zero m ns same = refl
length-took (suc n) m [] same = absurd (omega (arith, same))
length-took (suc n) m (x ∷ ns) same = ap (λ (k : ℕ). suc k) (length-took n m ns (omega (arith, same)))

pub length-dropped : (n m : ℕ) (ns : List ℕ) → length ns ≡ n + m → length (drop n ns) ≡ m
length-dropped zero m ns same = omega (arith, same)
length-dropped (suc n) m [] same = absurd (omega (arith, same))
length-dropped (suc n) m (x ∷ ns) same = length-dropped n m ns (omega (arith, same))

-- the rows' edits
pub rows-made : (changed : List ((Key × Version) × ℕ)) (rows : List (Key × PublisherRow)) → rows_after_all key_cmp rows (map version_edit changed) ≡ with_rows rows changed
rows-made [] rows = refl
rows-made (row ∷ changed) rows = rows-made changed (put_row rows row.0.0 (record { version = row.0.1; changed = row.1 }))

abbrev rows_with : PublisherTables → List (Key × PublisherRow) → List (RowSite × Mapping) → ℕ → PublisherTables
rows_with p rows mappings n = record p { rows = rows; mappings = mappings; gens = book_after_entries p.gens n p.latest }

-- many rows, with the first generations, and the moves with the others
pub many-made : (generations : List ℕ) (versions : List (Key × Version)) (moves : List (RowSite × MoveKind)) (gone : List RowSite) (p : PublisherTables) → length generations ≡ length (keys_in versions) + length moves
    → with_entries (entries_with generations (keys_in versions) moves gone) versions p
    ≡ record p {
      rows = rows_after_all key_cmp p.rows (version_edits versions (take (length (keys_in versions)) generations));
      mappings = fold drop_row_site (fold with_move p.mappings (zip moves (drop (length (keys_in versions)) generations))) gone;
      gens = book_after_entries p.gens (length (keys_in versions) + length moves) p.latest;
    }
many-made generations versions moves gone p same =
    let n : ℕ = length (keys_in versions) in
    let first : List ℕ = take n generations in
    let rest : List ℕ = drop n generations in
    let mappings : List (RowSite × Mapping) = fold drop_row_site (fold with_move p.mappings (zip moves rest)) gone in
    let took : length first ≡ n = length-took n (length moves) generations same in
    let left : length rest ≡ length moves = length-dropped n (length moves) generations same in
    ap (λ (ns : List ℕ). rows_with p (with_rows p.rows (zip versions ns)) mappings (length (zip (keys_in versions) first) + length (zip moves rest))) (seconds (keys_in versions) first took)
    ∙ ap (λ (k : ℕ). rows_with p (with_rows p.rows (zip versions first)) mappings (k + length (zip moves rest))) (zip-length (keys_in versions) first took)
    ∙ ap (λ (k : ℕ). rows_with p (with_rows p.rows (zip versions first)) mappings (n + k)) (zip-length moves rest left)
    ∙ ap (λ (rows : List (Key × PublisherRow)). rows_with p rows mappings (n + length moves)) (sym (rows-made (zip versions first) p.rows))

-- What rows are there after a step.

pub rows-sorted : (changed : List ((Key × Version) × ℕ)) (rows : List (Key × PublisherRow)) → IsStrictlySortedBy key_cmp (keys_of rows) → IsStrictlySortedBy key_cmp (keys_of (with_rows rows changed))
rows-sorted [] rows sorted = sorted
rows-sorted (row ∷ changed) rows sorted =
    rows-sorted changed (put_row rows row.0.0 (record { version = row.0.1; changed = row.1 })) (sorted_put key_cmp key_total row.0.0 (record { version = row.0.1; changed = row.1 }) rows sorted)

put-stays : (rows : List (Key × PublisherRow)) (k : Key) (row : PublisherRow) (key : Key) → has_key (keys_of rows) key ≡ true → has_key (keys_of (put_row rows k row)) key ≡ true
put-stays rows k row key there =
    sym (has-is (keys_of (put_row rows k row)) key)
    ∙ ap (λ (ks : List Key). has_room key_cmp ks key) (keys-insert_entry key_cmp k row rows)
    ∙ has_room-insert_key key_cmp key_total k key (keys_of rows)
    ∙ or_right (is_at (key_cmp key) k) (has_room key_cmp (keys_of rows) key) (has-is (keys_of rows) key ∙ there)

pub rows-stay : (changed : List ((Key × Version) × ℕ)) (rows : List (Key × PublisherRow)) (key : Key) → has_key (keys_of rows) key ≡ true → has_key (keys_of (with_rows rows changed)) key ≡ true
rows-stay [] rows key there = there
rows-stay (row ∷ changed) rows key there =
    rows-stay changed (put_row rows row.0.0 (record { version = row.0.1; changed = row.1 })) key (put-stays rows row.0.0 (record { version = row.0.1; changed = row.1 }) key there)

moves-sorted : (moved : List ((RowSite × MoveKind) × ℕ)) (mappings : List (RowSite × Mapping)) → IsStrictlySortedBy row_site_cmp (keys_of mappings) → IsStrictlySortedBy row_site_cmp (keys_of (fold with_move mappings moved))
moves-sorted [] mappings sorted = sorted
moves-sorted (entry ∷ moved) mappings sorted =
    moves-sorted moved (with_move mappings entry) (sorted_put row_site_cmp row_site_total entry.0.0 (record { kind = entry.0.1; generation = entry.1 }) mappings sorted)

-- The whole of a step.

module _ (publication : Publication) (valid : CanBeSaid publication) (p : PublisherTables) (judge : PublisherJudge) (changing : Changing)
    (sorted : IsStrictlySortedBy key_cmp (keys_of p.rows)) (ordered : IsStrictlySortedBy row_site_cmp (keys_of p.mappings))
    (left : (key : Key) (site : ℕ) → judge.has_left key site ≡ has_left_at p.mappings (place key site))
    (subscribes : (key : Key) → has_key changing.acted key ≡ true → is_some (subscription_at publication changing.uploader) ≡ true)
    (moves : List Move) (are : AreMoves publication (live_rows p.rows) (live_rows (rows_after changing p.rows)) moves) where
  abbrev changed : List Key
  changed = keys_in changing.versions

  abbrev rows' : List (Key × PublisherRow)
  rows' = rows_after changing p.rows

  abbrev entries : List (RowSite × MoveKind)
  entries = all_told changed changing.uploader (outs_of publication changing.uploader (live_rows rows') changing.acted) moves

  abbrev generations : List ℕ
  generations = generations_of p.gens.filling (length changed + length entries)

  abbrev at_zero : Key × Version → (Key × Version) × ℕ
  at_zero row = (row, 0)

  same-moves : entries ≡ moves_of (touched_by changing) (parts_of publication p.rows rows') (all_keys rows' changing.acted)
  same-moves = whole-moves publication valid p.rows rows' (rows-sorted (map at_zero changing.versions) p.rows sorted) (λ key there. rows-stay (map at_zero changing.versions) p.rows key there) changed changing.acted changing.uploader subscribes moves are

  abbrev gone : List RowSite
  gone = returned_rows judge (touched_by changing) (parts_of publication p.rows rows') changed

  same-gone : (held : List (RowSite × Mapping)) → IsStrictlySortedBy row_site_cmp (keys_of held) → fold drop_row_site held (returns p.mappings changed moves) ≡ fold drop_row_site held gone
  same-gone held held-sorted =
      returns-same publication valid p.rows rows' (rows-sorted (map at_zero changing.versions) p.rows sorted) (λ key there. rows-stay (map at_zero changing.versions) p.rows key there) (touched_by changing) p.mappings judge left moves are held held-sorted

  -- what a step makes of the tables, as edits
  pub changes-made : changed_by publication judge changing p ≡ record p {
    rows = rows_after_all key_cmp p.rows (version_edits changing.versions (take (length changed) generations));
    mappings = rows_after_all row_site_cmp p.mappings (mapping_edits entries (drop (length changed) generations) (returns p.mappings changed moves));
    gens = book_after_entries p.gens (length changed + length entries) p.latest;
  }
  changes-made =
      let rest : List ℕ = drop (length changed) generations in
      let rows : List (Key × PublisherRow) = rows_after_all key_cmp p.rows (version_edits changing.versions (take (length changed) generations)) in
      ap (λ (ms : List (RowSite × MoveKind)). with_entries (with_generations p changed ms gone) changing.versions p) (sym same-moves)
      ∙ many-made generations changing.versions entries gone p (length-map-range_with_len (generation_of p.gens.filling) 0 (length changed + length entries))
      ∙ ap (λ (ms : List (RowSite × Mapping)). rows_with p rows ms (length changed + length entries))
      (sym (mappings-made (zip entries rest) (returns p.mappings changed moves) p.mappings ∙ same-gone (fold with_move p.mappings (zip entries rest)) (moves-sorted (zip entries rest) p.mappings ordered)))
