-- Held versions with their pasts: what holds of each row of a list is what holds of whatever is found of a key.
use Rattle.std.specs.Prelude.{◌≡◌, List, [], ◌∷◌, Bool, true, false, Option, Some, None, refl, if◌then◌else◌, cond, option_map}
use Rattle.std.specs.BTreeMap.{is_at}
use Rattle.std.specs.Cmp.{Equal-is}
use Rattle.std.specs.List.{AllByRecursion}
use Rattle.std.specs.List.Sorted.{IsStrictlySortedBy}
use Rattle.std.specs.Map.{keys_of}
use Rattle.std.proofs.Common.{subst, sym, ap, ◌∙◌}
use Rattle.std.proofs.lemmas.Map.Keys.{sorted_tail}
use Rattle.merge_table.proofs.Room.{rest_above}
use Rattle.merge_table.proofs.Slots.{lookup_above}
use Rattle.merge_units.specs.declared.version.Version.{Version}
use Rattle.merge_model.specs.History.{Past, past_in}
use Rattle.merge_types.specs.RowKeys.{key_cmp}
use Rattle.merge_model.specs.Tables.Keys.{drop_row, put_row, row_at, same_key}
use Rattle.merge_types.specs.declared.row_key.RowKey.{RowKey as Key}
use Rattle.merge_model.proofs.Publishers.Sorted.{key_total}
use Rattle.merge_model.proofs.Lists.KeyLookUps.{keys-same, row-dropped, row-put, key-test, keys-exact, key-itself}
use Rattle.merge_laws.proofs.Pasts.PastLookUps.{past-put, past-left}

-- a fact of a key, a version and a past, of a row that may not be held
abbrev pub HeldFits : (Key → Version → Past → Type 0) → Key → Option Version → Past → Type 0
HeldFits P key None past = Unit {0}
HeldFits P key (Some version) past = P key version past

-- of whatever is found of any key
abbrev pub AllFit : (Key → Version → Past → Type 0) → (Key → Option Version) → (Key → Past) → Type 0
AllFit P found past = (key : Key) → HeldFits P key (found key) (past key)

-- what is found after a version is put, or where none is, and after a row is dropped
abbrev pub put_version : (Key → Option Version) → Key × Version → Key → Option Version
put_version found row key = if same_key key row.0 then Some row.1 else found key

abbrev pub put_if : (Key → Option Version) → Option (Key × Version) → Key → Option Version
put_if found None = found
put_if found (Some row) = put_version found row

abbrev pub keyed : Key → Option Version → Option (Key × Version)
keyed key found = option_map (λ (version : Version). (let row : Key × Version = (key, version) in row)) found

abbrev pub drop_version : (Key → Option Version) → Key → Key → Option Version
drop_version found dropped key = if same_key key dropped then None else found key

-- Rows, each with its version.
module _ {V : Type 0} (version_of : V → Version) where
  abbrev pub found_in : List (Key × V) → Key → Option Version
  found_in rows key = option_map version_of (row_at rows key)

  module _ (P : Key → Version → Past → Type 0) (past : Key → Past) where
    abbrev pub RowsFit : List (Key × V) → Type 0
    RowsFit rows = AllByRecursion (λ (row : Key × V). P row.0 (version_of row.1) (past row.0)) rows

    found-step : (key : Key) (b : Bool) (row : Key × V) (rest : Option V) → is_at (key_cmp key) row.0 ≡ b → P row.0 (version_of row.1) (past row.0) → HeldFits P key (option_map version_of rest) (past key)
        → HeldFits P key (let found : Option V = cond b (Some row.1) rest in option_map version_of found) (past key)
    found-step key true row rest is first more = subst (λ (k : Key). P k (version_of row.1) (past k)) (sym (keys-exact key row.0 is)) first
    found-step key false row rest is first more = more

    pub rows-found : (rows : List (Key × V)) → RowsFit rows → AllFit P (found_in rows) past
    rows-found [] all key = tt
    rows-found (row ∷ rows) all key = found-step key (is_at (key_cmp key) row.0) row (row_at rows key) refl all.0 (rows-found rows all.1 key)

    first-step : (key : Key) (b : Bool) (row : V) (rest : Option V) → b ≡ true → HeldFits P key (let found : Option V = cond b (Some row) rest in option_map version_of found) (past key) → P key (version_of row) (past key)
    first-step key true row rest is fits = fits
    first-step key false row rest is fits = absurd cc

    rest-step : (key : Key) (b : Bool) (row : V) (rest : Option V) → (b ≡ true → rest ≡ None) → HeldFits P key (let found : Option V = cond b (Some row) rest in option_map version_of found) (past key) → HeldFits P key (option_map version_of rest) (past key)
    rest-step key true row rest none fits = subst (λ (found : Option V). HeldFits P key (option_map version_of found) (past key)) (sym (none refl)) tt
    rest-step key false row rest none fits = fits

    pub found-rows : (rows : List (Key × V)) → IsStrictlySortedBy key_cmp (keys_of rows) → AllFit P (found_in rows) past → RowsFit rows
    found-rows [] sorted fits = tt
    found-rows (row ∷ rows) sorted fits = (
      first-step row.0 (is_at (key_cmp row.0) row.0) row.1 (row_at rows row.0) (key-test row.0 row.0 ∙ key-itself row.0) (fits row.0),
      found-rows rows (sorted_tail key_cmp row.0 (keys_of rows) sorted) (λ key. rest-step key (is_at (key_cmp key) row.0) row.1 (row_at rows key)
          (λ is. lookup_above key_cmp key rows (rest_above key_cmp key_total key row.0 (keys_of rows) sorted ((Equal-is (key_cmp key row.0)).0 is))) (fits key)),
    )

  map-if : (b : Bool) (row : V) (rest : Option V) → option_map version_of (if b then Some row else rest) ≡ (if b then Some (version_of row) else option_map version_of rest)
  map-if true row rest = refl
  map-if false row rest = refl

  map-none_if : (b : Bool) (rest : Option V) → option_map version_of (if b then None else rest) ≡ (if b then None else option_map version_of rest)
  map-none_if true rest = refl
  map-none_if false rest = refl

  pub found-put : (rows : List (Key × V)) (key : Key) (row : V) (q : Key) → found_in (put_row rows key row) q ≡ put_version (found_in rows) (key, version_of row) q
  found-put rows key row q = ap (λ (found : Option V). option_map version_of found) (row-put rows key row q) ∙ map-if (same_key q key) row (row_at rows q)

  pub found-dropped : (rows : List (Key × V)) (key q : Key) → IsStrictlySortedBy key_cmp (keys_of rows) → found_in (drop_row rows key) q ≡ drop_version (found_in rows) key q
  found-dropped rows key q sorted = ap (λ (found : Option V). option_map version_of found) (row-dropped rows key q sorted) ∙ map-none_if (same_key q key) (row_at rows q)

-- What is put and dropped in parallel.
module _ (P : Key → Version → Past → Type 0) where
  pub fits-same : (key : Key) (found other : Option Version) (past one : Past) → other ≡ found → one ≡ past → HeldFits P key found past → HeldFits P key other one
  fits-same key found other past one same alike fits = subst (λ (v : Option Version). HeldFits P key v one) (sym same) (subst (λ (x : Past). HeldFits P key found x) (sym alike) fits)

  put-step : (key q : Key) (version : Version) (x : Past) (b : Bool) (found : Option Version) (past : Past) → same_key q key ≡ b → P key version x → HeldFits P q found past → HeldFits P q (if b then Some version else found) (if b then x else past)
  put-step key q version x true found past same new fits = subst (λ (k : Key). P k version x) (sym (keys-same q key same)) new
  put-step key q version x false found past same new fits = fits

  -- where no version is put, none was held
  none-step : (key q : Key) (x : Past) (b : Bool) (found : Key → Option Version) (past : Past) → same_key q key ≡ b → found key ≡ None → HeldFits P q (found q) past → HeldFits P q (found q) (if b then x else past)
  none-step key q x true found past same none fits = subst (λ (v : Option Version). HeldFits P q v x) (sym (ap found (keys-same q key same) ∙ none)) tt
  none-step key q x false found past same none fits = fits

  drop-step : (q : Key) (b : Bool) (found : Option Version) (past after : Past) → (b ≡ false → after ≡ past) → HeldFits P q found past → HeldFits P q (if b then None else found) after
  drop-step q true found past after same fits = tt
  drop-step q false found past after same fits = subst (λ (x : Past). HeldFits P q found x) (sym (same refl)) fits

  module _ (found : Key → Option Version) (pasts : List (Key × Past)) (fits : AllFit P found (past_in pasts)) where
    pub all-put : (key : Key) (version : Version) (x : Past) → P key version x → AllFit P (put_version found (key, version)) (past_in (put_row pasts key x))
    all-put key version x new q = subst (λ (after : Past). HeldFits P q (put_version found (key, version) q) after) (sym (past-put pasts key x q)) (put-step key q version x (same_key q key) (found q) (past_in pasts q) refl new (fits q))

    all-none : (key : Key) (x : Past) → found key ≡ None → AllFit P found (past_in (put_row pasts key x))
    all-none key x none q = subst (λ (after : Past). HeldFits P q (found q) after) (sym (past-put pasts key x q)) (none-step key q x (same_key q key) found (past_in pasts q) refl none (fits q))

    pub all-put_if : (key : Key) (version : Option Version) (x : Past) → (version ≡ None → found key ≡ None) → HeldFits P key version x → AllFit P (put_if found (keyed key version)) (past_in (put_row pasts key x))
    all-put_if key None x none new = all-none key x (none refl)
    all-put_if key (Some version) x none new = all-put key version x new

    pub all-dropped : (key : Key) → AllFit P (drop_version found key) (past_in (drop_row pasts key))
    all-dropped key q = drop-step q (same_key q key) (found q) (past_in pasts q) (past_in (drop_row pasts key) q) (λ other. past-left pasts key q other) (fits q)

  pub all-same : (found other : Key → Option Version) (past : Key → Past) → ((key : Key) → other key ≡ found key) → AllFit P found past → AllFit P other past
  all-same found other past same fits key = subst (λ (v : Option Version). HeldFits P key v (past key)) (sym (same key)) (fits key)
