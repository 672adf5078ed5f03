-- The edits that a step works out are those of the definitions.
use Rattle.std.specs.Prelude.{◌≡◌, ◌+◌, ◌||◌, ℕ, zero, suc, AllPairs, List, [], ◌∷◌, Bool, true, false, refl, drop, length, map, take}
use Rattle.std.specs.FinSet as set
use Rattle.std.specs.List.{AllByRecursion, zip}
use Rattle.std.specs.List.Sorted.{IsStrictlySortedBy}
use Rattle.std.specs.Map.{keys_of}
use Rattle.std.proofs.Common.{arith, sym, ap, ◌∙◌, subst}
use Rattle.std.proofs.lemmas.List.FromFn.{length-map-range_with_len, take-map-range_with_len}
use Rattle.std.proofs.lemmas.List.Elements.{recursion_from_All}
use Rattle.merge_types.specs.declared.identifiers.Moment.{Moment}
use Rattle.merge_units.specs.declared.version.Version.{Version}
use Rattle.merge_table.specs.declared.edit.Edit.{Edit}
use Rattle.merge_table.specs.Edits.{rows_after_all}
use Rattle.merge_gens.specs.Book.{Book, book_after_entries}
use Rattle.merge_gens.specs.Entries.{entry_cmp}
use Rattle.merge_gens.specs.declared.filling.Filling.{Filling}
use Rattle.merge_gens.specs.declared.index.IndexEntry.{IndexEntry}
use Rattle.merge_gens.specs.Filling.{generation_of, generations_of}
use Rattle.merge_gens.specs.Index.{entries_after_all}
use Rattle.merge_gens.specs.Plan.{book_after_plan}
use Rattle.merge_part.specs.declared.change.Move.{Move}
use Rattle.merge_part.specs.declared.change.RowChange.{RowChange}
use Rattle.merge_part.specs.Live.{Live as LiveList, live_after_all, live_rows as listed}
use Rattle.merge_part.specs.Moves.{AreMoves}
use Rattle.merge_part.specs.Taking.{EachRowOnce, key_of_change}
use Rattle.merge_schema.specs.declared.publication.Publication.{Publication}
use Rattle.merge_schema.specs.Partition.{LiveRow}
use Rattle.merge_steps.specs.declared.step.Worked.{Worked}
use Rattle.merge_model.specs.Publisher.Entries.{Changing, changed_by, live_rows, rows_after, with_rows}
use Rattle.merge_steps.specs.Indexed.{AreIndexed, AreMoved}
use Rattle.merge_model.specs.Judge.{PublisherJudge}
use Rattle.merge_model.specs.Tables.Keys.{has_key, same_key}
use Rattle.merge_types.specs.RowKeys.{key_cmp}
use Rattle.merge_gens.specs.Moves.{row_site_cmp}
use Rattle.merge_steps.specs.LiveRows.{live_pairs}
use Rattle.merge_steps.specs.Rows.{mapping_edits, moved_edits}
use Rattle.merge_steps.specs.Step.{EditsMappings, Indexes, IndexesMoves, IsStep, SeesLeft, Subscribes}
use Rattle.merge_types.specs.declared.row_key.RowKey.{RowKey as Key}
use Rattle.merge_gens.specs.declared.moves.Mapping.{Mapping}
use Rattle.merge_gens.specs.declared.moves.MoveKind.{MoveKind}
use Rattle.merge_units.specs.declared.site_row.PublisherRow.{PublisherRow}
use Rattle.merge_model.specs.Tables.{PublisherTables}
use Rattle.merge_gens.specs.declared.moves.RowSite.{RowSite}
use Rattle.merge_model.proofs.Entries.StepParts.{CanBeSaid}
use Rattle.merge_steps.specs.Working.{Apart, AreApart, all_indexing, all_told, found_entries, keys_in, outs_of, places_of, returns, row_change, version_edit, version_edits}
use Rattle.merge_steps.specs.MoveEntries.{move_entry_cmp}
use Rattle.merge_steps.specs.declared.site_moves.MoveEntry.{MoveEntry}
use Rattle.merge_steps.proofs.Follows.{pairs-listed}
use Rattle.merge_steps.proofs.MoveFollows.{moves-follow}
use Rattle.merge_steps.proofs.MovesApart.{edits-apart}
use Rattle.merge_steps.proofs.Many.{changes-made, length-took, rows-made}
use Rattle.merge_model.proofs.Lists.KeyLookUps.{keys-same}
use Rattle.merge_steps.proofs.Sound.{entries-found, firsts-zero, firsts-zip, index-many, live-many}

abbrev Row : Type 0
Row = (Key × Version) × ℕ

pub keys-length : (versions : List (Key × Version)) → length (keys_in versions) ≡ length versions
keys-length [] = refl
keys-length (v ∷ versions) = ap (λ (n : ℕ). suc n) (keys-length versions)

-- the live rows after the changes that a membership is given
live-listed : (changing : Changing) (rows : List (Key × PublisherRow)) → IsStrictlySortedBy key_cmp (keys_of rows)
    → listed (live_after_all (live_pairs rows) (map row_change changing.versions)) ≡ live_rows (rows_after changing rows)
live-listed changing rows sorted =
    let zeros : List Row = map (λ (v : Key × Version). (let row : Row = (v, 0) in row)) changing.versions in
    ap (λ (vs : List (Key × Version)). listed (live_after_all (live_pairs rows) (map row_change vs))) (sym (firsts-zero changing.versions))
    ∙ ap listed (live-many zeros rows sorted)
    ∙ pairs-listed (with_rows rows zeros)

module _ (publication : Publication) (valid : CanBeSaid publication) (changing : Changing) (rows : List (Key × PublisherRow)) (mappings : List (RowSite × Mapping)) (book : Book) (latest : Moment)
    (sorted : IsStrictlySortedBy key_cmp (keys_of rows)) (ordered : IsStrictlySortedBy row_site_cmp (keys_of mappings)) (subscribes : Subscribes publication changing.acted changing.uploader)
    (moves : List Move) (are : AreMoves publication (listed (live_pairs rows)) (listed (live_after_all (live_pairs rows) (map row_change changing.versions))) moves) where
  abbrev changed : List Key
  changed = keys_in changing.versions

  are-moves : AreMoves publication (live_rows rows) (live_rows (rows_after changing rows)) moves
  are-moves =
      subst (λ (old : List LiveRow). AreMoves publication old (live_rows (rows_after changing rows)) moves) (pairs-listed rows)
      (subst (λ (new : List LiveRow). AreMoves publication (listed (live_pairs rows)) new moves) (live-listed changing rows sorted) are)

  entries-are : found_entries publication (listed (live_pairs rows)) changing moves ≡ all_told changed changing.uploader (outs_of publication changing.uploader (live_rows (rows_after changing rows)) changing.acted) moves
  entries-are = ap (λ (old : List LiveRow). found_entries publication old changing moves) (pairs-listed rows) ∙ entries-found publication (live_rows rows) (live_rows (rows_after changing rows)) changing moves are-moves

  abbrev with_parts : PublisherTables → List (Edit Key PublisherRow) → List (Edit RowSite Mapping) → Book → PublisherTables
  with_parts p row_edits mapping_edits gens = record p { rows = rows_after_all key_cmp rows row_edits; mappings = rows_after_all row_site_cmp mappings mapping_edits; gens = gens; latest = latest }

  abbrev given : PublisherTables → ℕ → List (RowSite × MoveKind) → PublisherTables
  given p n es = with_parts p (version_edits changing.versions (take n (generations_of book.filling (n + length es)))) (mapping_edits es (drop n (generations_of book.filling (n + length es))) (returns mappings changed moves)) (book_after_entries book (n + length es) latest)

  pub step-made : (entries : List (RowSite × MoveKind)) (w : Worked) → entries ≡ found_entries publication (listed (live_pairs rows)) changing moves
      → w.rows ≡ version_edits changing.versions (take (length changing.versions) (generations_of book.filling (length changing.versions + length entries)))
      → w.mappings ≡ mapping_edits entries (drop (length changing.versions) (generations_of book.filling (length changing.versions + length entries))) (returns mappings changed moves)
      → book_after_plan book w.gens ≡ book_after_entries book (length changing.versions + length entries) latest
      → IsStep publication changing rows mappings book latest w
  unfolding IsStep
  step-made entries w found row_edits mapped gens = λ p judge left.
      let n : ℕ = length changing.versions in
      changes-made publication valid (record p { rows = rows; mappings = mappings; gens = book; latest = latest }) judge changing sorted ordered left subscribes moves are-moves
      ∙ ap (λ (k : ℕ). given p k (all_told changed changing.uploader (outs_of publication changing.uploader (live_rows (rows_after changing rows)) changing.acted) moves)) (keys-length changing.versions)
      ∙ ap (λ (es : List (RowSite × MoveKind)). given p n es) (sym (found ∙ entries-are))
      ∙ ap (λ (es : List (Edit Key PublisherRow)). with_parts p es (mapping_edits entries (drop n (generations_of book.filling (n + length entries))) (returns mappings changed moves)) (book_after_entries book (n + length entries) latest)) (sym row_edits)
      ∙ ap (λ (es : List (Edit RowSite Mapping)). with_parts p w.rows es (book_after_entries book (n + length entries) latest)) (sym mapped)
      ∙ ap (λ (g : Book). with_parts p w.rows w.mappings g) (sym gens)

-- the same, where a membership holds the live rows
pub step-made-held : (publication : Publication) → CanBeSaid publication → (changing : Changing) (rows : List (Key × PublisherRow)) (mappings : List (RowSite × Mapping)) (book : Book) (latest : Moment)
    → IsStrictlySortedBy key_cmp (keys_of rows) → IsStrictlySortedBy row_site_cmp (keys_of mappings) → Subscribes publication changing.acted changing.uploader → (live : LiveList) → live ≡ live_pairs rows
    → (moves : List Move) → AreMoves publication (listed live) (listed (live_after_all live (map row_change changing.versions))) moves
    → (changed : List Key) → changed ≡ keys_in changing.versions → (entries : List (RowSite × MoveKind)) (w : Worked) → entries ≡ found_entries publication (listed live) changing moves
    → w.rows ≡ version_edits changing.versions (take (length changing.versions) (generations_of book.filling (length changing.versions + length entries)))
    → w.mappings ≡ mapping_edits entries (drop (length changing.versions) (generations_of book.filling (length changing.versions + length entries))) (returns mappings changed moves)
    → book_after_plan book w.gens ≡ book_after_entries book (length changing.versions + length entries) latest
    → IsStep publication changing rows mappings book latest w
step-made-held publication valid changing rows mappings book latest sorted ordered subscribes live held moves are own keys entries w found row_edits mapped gens =
    step-made publication valid changing rows mappings book latest sorted ordered subscribes moves
    (subst (λ (l : LiveList). AreMoves publication (listed l) (listed (live_after_all l (map row_change changing.versions))) moves) held are)
    entries w (found ∙ ap (λ (l : LiveList). found_entries publication (listed l) changing moves) held) row_edits
    (mapped ∙ ap (λ (ks : List Key). mapping_edits entries (drop (length changing.versions) (generations_of book.filling (length changing.versions + length entries))) (returns mappings ks moves)) keys) gens

-- What is held beside the rows.

pub step-live : (rows : List (Key × PublisherRow)) (versions : List (Key × Version)) (ns : List ℕ) (edits : List (Edit Key PublisherRow)) → IsStrictlySortedBy key_cmp (keys_of rows) → length ns ≡ length versions → edits ≡ version_edits versions ns
    → live_after_all (live_pairs rows) (map row_change versions) ≡ live_pairs (rows_after_all key_cmp rows edits)
step-live rows versions ns edits sorted same are =
    ap (λ (vs : List (Key × Version)). live_after_all (live_pairs rows) (map row_change vs)) (sym (firsts-zip versions ns same))
    ∙ live-many (zip versions ns) rows sorted
    ∙ ap live_pairs (sym (rows-made (zip versions ns) rows))
    ∙ ap (λ (es : List (Edit Key PublisherRow)). live_pairs (rows_after_all key_cmp rows es)) (sym are)

pub step-live-held : (live : LiveList) (rows : List (Key × PublisherRow)) → live ≡ live_pairs rows → (versions : List (Key × Version)) (ns : List ℕ) (edits : List (Edit Key PublisherRow)) → IsStrictlySortedBy key_cmp (keys_of rows) → length ns ≡ length versions → edits ≡ version_edits versions ns
    → live_after_all live (map row_change versions) ≡ live_pairs (rows_after_all key_cmp rows edits)
step-live-held live rows held versions ns edits sorted same are = ap (λ (l : LiveList). live_after_all l (map row_change versions)) held ∙ step-live rows versions ns edits sorted same are

pairs-head : {X : Type 0} (R : X → X → Type 0) (x : X) (xs : List X) → AllPairs R (x ∷ xs) → AllByRecursion (R x) xs
pairs-head R x xs pairs = recursion_from_All (R x) xs (λ k d less. pairs zero (suc k) d (omega arith) (omega (arith, less)))

pairs-tail : {X : Type 0} (R : X → X → Type 0) (x : X) (xs : List X) → AllPairs R (x ∷ xs) → AllPairs R xs
pairs-tail R x xs pairs = λ i j d less inside. pairs (suc i) (suc j) d (omega (arith, less)) (omega (arith, inside))

none-has : (key : Key) (versions : List (Key × Version)) → AllByRecursion (λ (c : RowChange). key ≡ key_of_change c → ⊥) (map row_change versions) → has_key (keys_in versions) key ≡ false
none-has key [] all = refl
none-has key (v ∷ versions) all = by (same_key key v.0) refl (none-has key versions all.1)
  where
    by : (b : Bool) → same_key key v.0 ≡ b → has_key (keys_in versions) key ≡ false → has_key (v.0 ∷ keys_in versions) key ≡ false
    by true same rest = absurd (all.0 (keys-same key v.0 same))
    by false same rest = ap (λ (b : Bool). b || has_key (keys_in versions) key) same ∙ rest

pub apart-from : (versions : List (Key × Version)) → EachRowOnce (map row_change versions) → Apart (keys_in versions)
apart-from [] once = tt
apart-from (v ∷ versions) once = (
  none-has v.0 versions (pairs-head (λ (one other : RowChange). key_of_change one ≡ key_of_change other → ⊥) (row_change v) (map row_change versions) once),
  apart-from versions (pairs-tail (λ (one other : RowChange). key_of_change one ≡ key_of_change other → ⊥) (row_change v) (map row_change versions) once),
)

keys-zip : (versions : List (Key × Version)) (ns : List ℕ) → length ns ≡ length versions → map (λ (row : Row). row.0.0) (zip versions ns) ≡ keys_in versions
keys-zip [] ns same = refl
keys-zip (v ∷ versions) [] same = absurd (omega (arith, same))
keys-zip (v ∷ versions) (n ∷ ns) same = ap (λ (ks : List Key). v.0 ∷ ks) (keys-zip versions ns (omega (arith, same)))

pub step-indexed : (rows : List (Key × PublisherRow)) (versions : List (Key × Version)) (ns : List ℕ) (w : Worked) → EachRowOnce (map row_change versions) → length ns ≡ length versions
    → w.rows ≡ version_edits versions ns → w.index ≡ all_indexing rows (zip versions ns) → Indexes rows w
unfolding Indexes
step-indexed rows versions ns w once same row_edits index = λ entries indexed.
    rw (row_edits, index, rows-made (zip versions ns) rows)
    (index-many rows (zip versions ns) rows entries (rw (keys-zip versions ns same) (apart-from versions once)) (λ k there. refl) indexed)

pub took : (filling : Filling) (n m : ℕ) → length (take n (generations_of filling (n + m))) ≡ n
took filling n m = length-took n m (generations_of filling (n + m)) (length-map-range_with_len (generation_of filling) 0 (n + m))

-- The edits are no more than the step's.

-- the generations of the first entries are the same, however many come behind
first-generations : (filling : Filling) (n m : ℕ) → take n (generations_of filling (n + m)) ≡ generations_of filling n
first-generations filling n m = take-map-range_with_len (generation_of filling) 0 (n + m) n (omega arith)

pub step-rows : (filling : Filling) (versions : List (Key × Version)) (m : ℕ) (edits : List (Edit Key PublisherRow)) → edits ≡ version_edits versions (take (length versions) (generations_of filling (length versions + m)))
    → edits ≡ version_edits versions (generations_of filling (length versions))
step-rows filling versions m edits are = are ∙ ap (λ (ns : List ℕ). version_edits versions ns) (first-generations filling (length versions) m)

pub step-indexing : (filling : Filling) (rows : List (Key × PublisherRow)) (versions : List (Key × Version)) (m : ℕ) (edits : List (Edit IndexEntry (Unit {0})))
    → edits ≡ all_indexing rows (zip versions (take (length versions) (generations_of filling (length versions + m)))) → edits ≡ all_indexing rows (zip versions (generations_of filling (length versions)))
step-indexing filling rows versions m edits are = are ∙ ap (λ (ns : List ℕ). all_indexing rows (zip versions ns)) (first-generations filling (length versions) m)

pub step-mappings : (publication : Publication) (before after : List LiveRow) (changing : Changing) (filling : Filling) (mappings : List (RowSite × Mapping)) (moves : List Move) → AreMoves publication before after moves
    → (changed : List Key) → changed ≡ keys_in changing.versions → (entries : List (RowSite × MoveKind)) → entries ≡ found_entries publication before changing moves
    → (edits : List (Edit RowSite Mapping)) → edits ≡ mapping_edits entries (drop (length changing.versions) (generations_of filling (length changing.versions + length entries))) (returns mappings changed moves)
    → EditsMappings publication before after changing filling mappings edits
step-mappings publication before after changing filling mappings moves are changed keys entries found edits mapped = record {
  moves = moves;
  are = are;
  edits_are =
      mapped
      ∙ ap (λ (ks : List Key). mapping_edits entries (drop (length changing.versions) (generations_of filling (length changing.versions + length entries))) (returns mappings ks moves)) keys
      ∙ ap (λ (es : List (RowSite × MoveKind)). mapping_edits es (drop (length changing.versions) (generations_of filling (length changing.versions + length es))) (returns mappings (keys_in changing.versions) moves)) found;
}

pub step-apart : (publication : Publication) (changing : Changing) (before after : List LiveRow) (mappings : List (RowSite × Mapping)) (moves : List Move) → AreMoves publication before after moves
    → (changed : List Key) → changed ≡ keys_in changing.versions → (entries : List (RowSite × MoveKind)) → entries ≡ found_entries publication before changing moves
    → (generations : List ℕ) (edits : List (Edit RowSite Mapping)) → edits ≡ mapping_edits entries generations (returns mappings changed moves) → AreApart (places_of edits)
step-apart publication changing before after mappings moves are own keys entries found generations edits mapped =
    let versions = keys_in changing.versions in
    let all = all_told versions changing.uploader (outs_of publication changing.uploader after changing.acted) moves in
    let made : edits ≡ mapping_edits all generations (returns mappings versions moves) =
    mapped ∙ ap (λ (ks : List Key). mapping_edits entries generations (returns mappings ks moves)) keys
    ∙ ap (λ (es : List (RowSite × MoveKind)). mapping_edits es generations (returns mappings versions moves)) (found ∙ entries-found publication before after changing moves are) in
    subst (λ (es : List (Edit RowSite Mapping)). AreApart (places_of es)) (sym made) (edits-apart publication before after versions changing.acted changing.uploader mappings moves are generations)

-- The index of mappings.

pub step-moved : (publication : Publication) (changing : Changing) (before after : List LiveRow) (mappings : List (RowSite × Mapping)) → IsStrictlySortedBy row_site_cmp (keys_of mappings)
    → (moves : List Move) → AreMoves publication before after moves → (changed : List Key) → changed ≡ keys_in changing.versions → (entries : List (RowSite × MoveKind)) → entries ≡ found_entries publication before changing moves
    → (generations : List ℕ) (w : Worked) → w.mappings ≡ mapping_edits entries generations (returns mappings changed moves) → w.moved ≡ moved_edits mappings w.mappings → IndexesMoves mappings w
unfolding IndexesMoves
step-moved publication changing before after mappings sorted moves are own keys entries found generations w mapped moved = λ index ordered indexed.
    let apart : AreApart (places_of w.mappings) = step-apart publication changing before after mappings moves are own keys entries found generations w.mappings mapped in
    subst (λ (es : List (Edit MoveEntry (Unit {0}))). AreMoved (rows_after_all row_site_cmp mappings w.mappings) (rows_after_all move_entry_cmp index es)) (sym moved)
    (moves-follow mappings w.mappings mappings index apart (λ q there. refl) sorted ordered indexed)
