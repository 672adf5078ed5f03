-- What is found of the publisher's rows where a step gives some new versions, and where old tombstones are forgotten.
use Rattle.std.specs.Prelude.{◌≡◌, ◌≤◌, ◌||◌, ℕ, List, [], ◌∷◌, Bool, true, false, not, Option, Some, None, refl, if◌then◌else◌, cond, filter, is_some, length, map, option_map, take}
use Rattle.std.specs.BTreeMap.{is_at}
use Rattle.std.specs.List.{fold, zip}
use Rattle.std.specs.List.Sorted.{IsStrictlySortedBy}
use Rattle.std.specs.Map.{keys_of}
use Rattle.std.specs.Option.{option_to_list}
use Rattle.std.proofs.Common.{arith, sym, ap, ◌∙◌}
use Rattle.std.proofs.lemmas.List.{length-map, length-take}
use Rattle.std.proofs.lemmas.List.FromFn.{length-map-range_with_len}
use Rattle.std.proofs.lemmas.Slice.Zip.{length-zip}
use Rattle.merge_table.proofs.Sorted.{sorted_put}
use Rattle.merge_gens.specs.Filling.{generation_of, generations_of}
use Rattle.merge_gens.specs.declared.filling.Filling.{Filling}
use Rattle.merge_units.specs.declared.version.Version.{Version}
use Rattle.merge_schema.specs.declared.publication.Publication.{Publication}
use Rattle.merge_model.specs.Publisher.Entries.{Changing, changed_by, changing_entries, with_rows}
use Rattle.merge_model.specs.Judge.{PublisherJudge}
use Rattle.merge_types.specs.RowKeys.{key_cmp}
use Rattle.merge_model.specs.Tables.Keys.{has_key, put_row, row_at, same_key}
use Rattle.merge_model.specs.Publisher.PublisherLocal.{version_at}
use Rattle.merge_types.specs.declared.row_key.RowKey.{RowKey as Key}
use Rattle.merge_units.specs.declared.site_row.PublisherRow.{PublisherRow}
use Rattle.merge_model.specs.Tables.{PublisherTables}
use Rattle.merge_model.proofs.Publishers.Sorted.{key_total}
use Rattle.merge_model.proofs.Lists.KeyLookUps.{key-test, keys-exact}
use Rattle.merge_model.proofs.Lists.PlaceLookUps.{kept, lookup-filter}
use Rattle.merge_laws.proofs.Told.ToldRows.{drop_version, found-put, found_in, keyed, put_if, put_version}

abbrev pub row_version : PublisherRow → Version
row_version row = row.version

-- The versions of a step are put one after the other.

put-alike : (b : Bool) (version : Version) (one other : Option Version) → one ≡ other → (let put : Option Version = if b then Some version else one in put) ≡ (if b then Some version else other)
put-alike true version one other same = refl
put-alike false version one other same = same

fold-alike : (versions : List (Key × Version)) (one other : Key → Option Version) → ((q : Key) → one q ≡ other q) → (q : Key) → fold put_version one versions q ≡ fold put_version other versions q
fold-alike [] one other same q = same q
fold-alike (row ∷ versions) one other same q = fold-alike versions (put_version one row) (put_version other row) (λ k. put-alike (same_key k row.0) row.1 (one k) (other k) (same k)) q

rows-with : (versions : List (Key × Version)) (generations : List ℕ) (rows : List (Key × PublisherRow)) → length versions ≤ length generations
    → (q : Key) → found_in row_version (with_rows rows (zip versions generations)) q ≡ fold put_version (found_in row_version rows) versions q
rows-with [] generations rows enough q = refl
rows-with (row ∷ versions) [] rows enough q = absurd (omega arith)
rows-with (row ∷ versions) (g ∷ generations) rows enough q =
    let new : PublisherRow = record { version = row.1; changed = g } in
    rows-with versions generations (put_row rows row.0 new) (omega (arith, enough)) q
    ∙ fold-alike versions (found_in row_version (put_row rows row.0 new)) (put_version (found_in row_version rows) row) (λ k. found-put row_version rows row.0 new k) q

-- each version has the generation of its entry
enough-generations : (filling : Filling) (versions : List (Key × Version)) (n count : ℕ) → n ≡ length versions → n ≤ count
    → (let changed : List Key = map (λ (row : Key × Version). row.0) versions in length versions ≤ length (map (λ (entry : Key × ℕ). entry.1) (zip changed (take n (generations_of filling count)))))
enough-generations filling versions n count is up =
    let changed : List Key = map (λ (row : Key × Version). row.0) versions in
    let generations : List ℕ = take n (generations_of filling count) in
    let all = length-map-range_with_len (generation_of filling) 0 count in
    let taken = length-take n (generations_of filling count) in
    let keys = length-map versions (λ (row : Key × Version). row.0) in
    let pairs = length-zip changed generations in
    let made = length-map (zip changed generations) (λ (entry : Key × ℕ). entry.1) in
    omega (arith, all, taken, keys, pairs, made, is, up)

module _ (publication : Publication) (judge : PublisherJudge) (changing : Changing) (p : PublisherTables) where
  pub changed-versions : (q : Key) → version_at (changed_by publication judge changing p) q ≡ fold put_version (version_at p) changing.versions q
  changed-versions q = rows-with changing.versions (map (λ (entry : Key × ℕ). entry.1) (changing_entries publication judge changing p).changed) p.rows
      (enough-generations p.gens.filling changing.versions (length (map (λ (row : Key × Version). row.0) changing.versions)) _ (length-map changing.versions (λ (row : Key × Version). row.0)) (omega arith)) q

  rows-ascend : (changed : List ((Key × Version) × ℕ)) (rows : List (Key × PublisherRow)) → IsStrictlySortedBy key_cmp (keys_of rows) → IsStrictlySortedBy key_cmp (keys_of (with_rows rows changed))
  rows-ascend [] rows sorted = sorted
  rows-ascend (row ∷ changed) rows sorted = let new : PublisherRow = record { version = row.0.1; changed = row.1 } in rows-ascend changed (put_row rows row.0.0 new) (sorted_put key_cmp key_total row.0.0 new rows sorted)

  pub changed-ascends : IsStrictlySortedBy key_cmp (keys_of p.rows) → IsStrictlySortedBy key_cmp (keys_of (changed_by publication judge changing p).rows)
  changed-ascends sorted = rows-ascend (zip changing.versions (map (λ (entry : Key × ℕ). entry.1) (changing_entries publication judge changing p).changed)) p.rows sorted

-- a step that gives one row a version, or none
pub one-put : (key : Key) (version : Option Version) (found : Key → Option Version) (q : Key) → fold put_version found (map (λ (v : Version). (let row : Key × Version = (key, v) in row)) (option_to_list version)) q ≡ put_if found (keyed key version) q
one-put key None found q = refl
one-put key (Some version) found q = refl

-- Rows that are forgotten.

drop-if : (b c : Bool) (found : Option Version) → (if b then None else (let left : Option Version = if c then None else found in left)) ≡ (let left : Option Version = if (c || b) then None else found in left)
drop-if true true found = refl
drop-if true false found = refl
drop-if false true found = refl
drop-if false false found = refl

fold-dropped : (keys : List Key) (found : Key → Option Version) (q : Key) → fold drop_version found keys q ≡ (if has_key keys q then None else found q)
fold-dropped [] found q = refl
fold-dropped (key ∷ keys) found q = fold-dropped keys (drop_version found key) q ∙ drop-if (has_key keys q) (same_key q key) (found q)

has-step : (q : Key) (row : Key × PublisherRow) (b c : Bool) (rest : Option PublisherRow) → is_at (key_cmp q) row.0 ≡ b → same_key q row.0 ≡ b → c ≡ is_some rest → (same_key q row.0 || c) ≡ is_some (let found : Option PublisherRow = cond (is_at (key_cmp q) row.0) (Some row.1) rest in found)
has-step q row b c rest at is same = grind (arith, at, is, same)

has-found : (q : Key) (rows : List (Key × PublisherRow)) → has_key (map (λ (row : Key × PublisherRow). row.0) rows) q ≡ is_some (row_at rows q)
has-found q [] = refl
has-found q (row ∷ rows) = has-step q row (is_at (key_cmp q) row.0) (has_key (map (λ (r : Key × PublisherRow). r.0) rows) q) (row_at rows q) refl (sym (key-test q row.0)) (has-found q rows)

left-found : (is_old : Key × PublisherRow → Bool) (q : Key) (found : Option PublisherRow)
    → option_map row_version (kept (λ (row : Key × PublisherRow). not (is_old row)) q found) ≡ (if is_some (kept is_old q found) then None else option_map row_version found)
left-found is_old q None = refl
left-found is_old q (Some row) = elim (is_old (q, row)) as (λ (b : Bool). option_map row_version (let left : Option PublisherRow = cond (not b) (Some row) None in left) ≡ (let old : Option PublisherRow = cond b (Some row) None in if is_some old then None else Some row.version)) [
  | true ↦ refl
  | false ↦ refl
]

module _ (is_old : Key × PublisherRow → Bool) (rows : List (Key × PublisherRow)) (sorted : IsStrictlySortedBy key_cmp (keys_of rows)) where
  pub forgotten-versions : (q : Key) → found_in row_version (filter (λ (row : Key × PublisherRow). not (is_old row)) rows) q
      ≡ fold drop_version (found_in row_version rows) (map (λ (row : Key × PublisherRow). row.0) (filter is_old rows)) q
  forgotten-versions q =
      let keys : List Key = map (λ (row : Key × PublisherRow). row.0) (filter is_old rows) in
      ap (λ (found : Option PublisherRow). option_map row_version found) (lookup-filter key_cmp key_total keys-exact (λ (row : Key × PublisherRow). not (is_old row)) q rows sorted)
      ∙ left-found is_old q (row_at rows q)
      ∙ ap (λ (b : Bool). (let left : Option Version = if b then None else found_in row_version rows q in left)) (sym (has-found q (filter is_old rows) ∙ ap (λ (found : Option PublisherRow). is_some found) (lookup-filter key_cmp key_total keys-exact is_old q rows sorted)))
      ∙ sym (fold-dropped keys (found_in row_version rows) q)
