-- The values of two versions' cells that fit their columns, and decided ones that do, make a row whose values fit.
use Rattle.std.specs.Prelude.{◌≡◌, ◌≢◌, ◌&&◌, ◌==◌, ◌+◌, ◌++◌, ◌∷◌, ◌<◌, ◌⊎◌, ℕ, zero, suc, Bool, true, false, List, [], Option, Some, None, filter_map, if◌then◌else◌, length, map, option_map, refl, slice_get, slice_set, take, drop}
use Rattle.std.specs.List.{enumerate_from, list_all}
use Rattle.std.specs.Option.{option_map_or}
use Rattle.std.proofs.Common.{arith, sym, ap, ◌∙◌, subst, inl, inr}
use Rattle.std.proofs.lemmas.Bool.{and_from, and_parts}
use Rattle.std.proofs.lemmas.Bool.Decides.{nat_tests}
use Rattle.merge_types.specs.Fitting.{fits_column}
use Rattle.merge_types.specs.declared.identifiers.Dot.{Dot}
use Rattle.merge_types.specs.declared.values.ColumnType.{ColumnType}
use Rattle.merge_types.specs.declared.values.Column.{Column}
use Rattle.merge_types.specs.declared.values.Value.{Value}
use Rattle.merge_units.specs.Laws.{PicksSide}
use Rattle.merge_units.specs.Results.{result_cell, result_cells, taken}
use Rattle.merge_units.specs.declared.case.Side.{Side}
use Rattle.merge_units.specs.declared.case.Side.TheVariants as side
use Rattle.merge_units.specs.declared.result.Decision.{Decision}
use Rattle.merge_units.specs.declared.result.Decision.TheVariants.{Custom, KeepPublisher, TakeSubscriber}
use Rattle.merge_units.specs.declared.version.Cell.{Cell}
use Rattle.merge_batch.specs.Articles.{has_one_value, is_set, row_values, values_fit}
use Rattle.merge_resolve.specs.Columns.{cell_value}
use Rattle.merge_resolve.specs.Counted.{fit_all, fits_place, fits_some, own_placed}
use Rattle.merge_resolve.specs.Questions.{both_place}

-- the value of the identity column is there
abbrev pub set_at : Option ℕ → ℕ → Value → Bool
set_at None n value = true
set_at (Some place) n value = if n == place then is_set (Some value) else true

-- the values fit the columns, which stand from a place on, and the identity column's is there
abbrev pub are_good : Option ℕ → ℕ → List Column → List Value → Bool
are_good identity n [] [] = true
are_good identity n [] (value ∷ values) = false
are_good identity n (column ∷ columns) [] = false
are_good identity n (column ∷ columns) (value ∷ values) = (fits_column column.ty value && set_at identity n value) && are_good identity (n + 1) columns values

pub good-from : (identity : Option ℕ) (n : ℕ) (columns : List Column) (values : List Value) → values_fit columns values ≡ true
    → ((k : ℕ) (value : Value) → slice_get values k ≡ Some value → set_at identity (n + k) value ≡ true) → are_good identity n columns values ≡ true
good-from identity n [] [] fit set = refl
good-from identity n [] (value ∷ values) fit set = absurd (cc fit)
good-from identity n (column ∷ columns) [] fit set = absurd (cc fit)
good-from identity n (column ∷ columns) (value ∷ values) fit set =
    let parts = and_parts (fits_column column.ty value) (values_fit columns values) fit in
    let here : n + 0 ≡ n = omega arith in
    and_from _ _
    (and_from _ _ parts.0 (subst (λ (k : ℕ). set_at identity k value ≡ true) here (set 0 value refl)))
    (good-from identity (n + 1) columns values parts.1 (λ k other is. let place : n + suc k ≡ n + 1 + k = omega arith in subst (λ (j : ℕ). set_at identity j other ≡ true) place (set (suc k) other is)))

pub good-fit : (identity : Option ℕ) (n : ℕ) (columns : List Column) (values : List Value) → are_good identity n columns values ≡ true → values_fit columns values ≡ true
good-fit identity n [] [] good = refl
good-fit identity n [] (value ∷ values) good = absurd (cc good)
good-fit identity n (column ∷ columns) [] good = absurd (cc good)
good-fit identity n (column ∷ columns) (value ∷ values) good =
    let parts = and_parts (fits_column column.ty value && set_at identity n value) (are_good identity (n + 1) columns values) good in
    let here = and_parts (fits_column column.ty value) (set_at identity n value) parts.0 in
    and_from _ _ here.0 (good-fit identity (n + 1) columns values parts.1)

pub good-length : (identity : Option ℕ) (n : ℕ) (columns : List Column) (values : List Value) → are_good identity n columns values ≡ true → length values ≡ length columns
good-length identity n [] [] good = refl
good-length identity n [] (value ∷ values) good = absurd (cc good)
good-length identity n (column ∷ columns) [] good = absurd (cc good)
good-length identity n (column ∷ columns) (value ∷ values) good =
    let parts = and_parts (fits_column column.ty value && set_at identity n value) (are_good identity (n + 1) columns values) good in
    omega (arith, good-length identity (n + 1) columns values parts.1)

set-here : (place n : ℕ) (value : Value) → n ≡ place → set_at (Some place) n value ≡ true → is_set (Some value) ≡ true
set-here place n value is set =
    let same : (n == place) ≡ true = grind (arith, nat_tests, is) in
    ap (λ (b : Bool). (let c : Bool = if b then is_set (Some value) else true in c)) (sym same) ∙ set

-- the identity column's value is there
pub good-set : (place n : ℕ) (columns : List Column) (values : List Value) → are_good (Some place) n columns values ≡ true → (k : ℕ) → n + k ≡ place → k < length values → is_set (slice_get values k) ≡ true
good-set place n [] [] good k at within = absurd (omega arith)
good-set place n [] (value ∷ values) good k at within = absurd (cc good)
good-set place n (column ∷ columns) [] good k at within = absurd (cc good)
good-set place n (column ∷ columns) (value ∷ values) good zero at within =
    let parts = and_parts (fits_column column.ty value && set_at (Some place) n value) (are_good (Some place) (n + 1) columns values) good in
    let here = and_parts (fits_column column.ty value) (set_at (Some place) n value) parts.0 in
    set-here place n value (omega arith) here.1
good-set place n (column ∷ columns) (value ∷ values) good (suc k) at within =
    let parts = and_parts (fits_column column.ty value && set_at (Some place) n value) (are_good (Some place) (n + 1) columns values) good in
    good-set place (n + 1) columns values parts.1 k (omega arith) (omega arith)

-- Cells with one value each.

one-split : (identity : Option ℕ) (n : ℕ) (column : Column) (columns : List Column) (values rest : List Value) → (length values == 1) ≡ true → are_good identity n (column ∷ columns) (values ++ rest) ≡ true
    → (are_good identity n (column ∷ []) values ≡ true) × (are_good identity (n + 1) columns rest ≡ true)
one-split identity n column columns [] rest one good = absurd (grind (arith, nat_tests, one))
one-split identity n column columns (value ∷ []) rest one good =
    let parts = and_parts (fits_column column.ty value && set_at identity n value) (are_good identity (n + 1) columns rest) good in
    (and_from _ _ parts.0 refl, parts.1)
one-split identity n column columns (value ∷ other ∷ values) rest one good = absurd (grind (arith, nat_tests, one))

one-join : (identity : Option ℕ) (n : ℕ) (column : Column) (columns : List Column) (values rest : List Value) → are_good identity n (column ∷ []) values ≡ true → are_good identity (n + 1) columns rest ≡ true
    → are_good identity n (column ∷ columns) (values ++ rest) ≡ true
one-join identity n column columns [] rest here behind = absurd (cc here)
one-join identity n column columns (value ∷ []) rest here behind =
    let parts = and_parts (fits_column column.ty value && set_at identity n value) true here in
    and_from _ _ parts.0 behind
one-join identity n column columns (value ∷ other ∷ values) rest here behind =
    let parts = and_parts (fits_column column.ty value && set_at identity n value) false here in
    absurd (cc parts.1)

one-none : (identity : Option ℕ) (n : ℕ) (values rest : List Value) → (length values == 1) ≡ true → are_good identity n [] (values ++ rest) ≡ true → ⊥
one-none identity n [] rest one good = absurd (grind (arith, nat_tests, one))
one-none identity n (value ∷ values) rest one good = absurd (cc good)

-- a cell that one of the sides gives
picked-good : (identity : Option ℕ) (n : ℕ) (column : Column) (dot : Dot) (d : Decision) (values : List Value) (s : Side) (p i : Cell) → PicksSide d
    → are_good identity n (column ∷ []) p.values ≡ true → are_good identity n (column ∷ []) i.values ≡ true → are_good identity n (column ∷ []) (result_cell dot d values s p i).values ≡ true
picked-good identity n column dot KeepPublisher values side.Neither p i picks ours theirs = ours
picked-good identity n column dot KeepPublisher values side.Publisher p i picks ours theirs = ours
picked-good identity n column dot KeepPublisher values side.Incoming p i picks ours theirs = theirs
picked-good identity n column dot KeepPublisher values side.Both p i picks ours theirs = ours
picked-good identity n column dot TakeSubscriber values side.Neither p i picks ours theirs = ours
picked-good identity n column dot TakeSubscriber values side.Publisher p i picks ours theirs = ours
picked-good identity n column dot TakeSubscriber values side.Incoming p i picks ours theirs = theirs
picked-good identity n column dot TakeSubscriber values side.Both p i picks ours theirs = theirs
picked-good identity n column dot (Custom vs) values s p i picks ours theirs = absurd picks

module _ (identity : Option ℕ) (dot : Dot) where
  -- each cell is that of one side
  pub sides-good : (d : Decision) → PicksSide d → (n : ℕ) (columns : List Column) (ss : List Side) (ps is : List Cell) (values : List Value) → length ss ≡ length ps → length ss ≡ length is
      → list_all has_one_value ps ≡ true → list_all has_one_value is ≡ true → are_good identity n columns (row_values ps) ≡ true → are_good identity n columns (row_values is) ≡ true
      → are_good identity n columns (row_values (result_cells dot d values ss ps is)) ≡ true
  sides-good d picks n columns [] [] is values here there ones others ours theirs = ours
  sides-good d picks n columns [] (p ∷ ps) is values here there ones others ours theirs = absurd (omega arith)
  sides-good d picks n columns (s ∷ ss) [] is values here there ones others ours theirs = absurd (omega arith)
  sides-good d picks n columns (s ∷ ss) (p ∷ ps) [] values here there ones others ours theirs = absurd (omega arith)
  sides-good d picks n [] (s ∷ ss) (p ∷ ps) (i ∷ is) values here there ones others ours theirs =
      absurd (one-none identity n p.values (row_values ps) (and_parts (has_one_value p) (list_all has_one_value ps) ones).0 ours)
  sides-good d picks n (column ∷ columns) (s ∷ ss) (p ∷ ps) (i ∷ is) values here there ones others ours theirs =
      let one = and_parts (has_one_value p) (list_all has_one_value ps) ones in
      let other = and_parts (has_one_value i) (list_all has_one_value is) others in
      let our = one-split identity n column columns p.values (row_values ps) one.0 ours in
      let their = one-split identity n column columns i.values (row_values is) other.0 theirs in
      let k = taken d s p in
      one-join identity n column columns (result_cell dot d (take k values) s p i).values (row_values (result_cells dot d (drop k values) ss ps is))
      (picked-good identity n column dot d (take k values) s p i picks our.0 their.0)
      (sides-good d picks (n + 1) columns ss ps is (drop k values) (omega arith) (omega arith) one.1 other.1 our.1 their.1)

-- Values that are decided.

abbrev pub fits_at : List ColumnType → ℕ → Value → Bool
fits_at types place value = option_map_or (λ (ty : ColumnType). fits_column ty value) (slice_get types place) false

-- a decided value fits the column at its place
abbrev pub is_good_at : List ColumnType → Option ℕ → ℕ → Value → Bool
is_good_at types identity place value = fits_at types place value && set_at identity place value

-- the columns from a place on have their types there
abbrev pub Aligned : List ColumnType → ℕ → List Column → Type 0
Aligned types n [] = Unit {0}
Aligned types n (column ∷ columns) = (slice_get types n ≡ Some column.ty) × Aligned types (n + 1) columns

aligned-from : (types : List ColumnType) (n : ℕ) (columns : List Column) → ((k : ℕ) → slice_get types (n + k) ≡ slice_get (map (λ (column : Column). column.ty) columns) k ⊎ (length columns < k + 1)) → Aligned types n columns
aligned-from types n [] at = tt
aligned-from types n (column ∷ columns) at = (first (at 0), aligned-from types (n + 1) columns (λ k. let place : n + 1 + k ≡ n + suc k = omega arith in rw place (behind k (at (suc k)))))
  where
    first : (slice_get types (n + 0) ≡ Some column.ty) ⊎ (length (column ∷ columns) < 0 + 1) → slice_get types n ≡ Some column.ty
    first (inl is) = let place : n + 0 ≡ n = omega arith in rw place at is
    first (inr short) = absurd (omega arith)

    behind : (k : ℕ) → (slice_get types (n + suc k) ≡ slice_get (map (λ (c : Column). c.ty) (column ∷ columns)) (suc k)) ⊎ (length (column ∷ columns) < suc k + 1) → (slice_get types (n + suc k) ≡ slice_get (map (λ (c : Column). c.ty) columns) k) ⊎ (length columns < k + 1)
    behind k (inl is) = inl is
    behind k (inr short) = inr (omega arith)

pub types-aligned : (columns : List Column) → Aligned (map (λ (column : Column). column.ty) columns) 0 columns
types-aligned columns = aligned-from (map (λ (column : Column). column.ty) columns) 0 columns (λ k. let place : 0 + k ≡ k = omega arith in inl (rw place refl))

decided-here : (types : List ColumnType) (identity : Option ℕ) (n : ℕ) (column : Column) (value : Value) → slice_get types n ≡ Some column.ty → is_good_at types identity n value ≡ true → are_good identity n (column ∷ []) (value ∷ []) ≡ true
decided-here types identity n column value at good =
    let parts = and_parts (fits_at types n value) (set_at identity n value) good in
    let fit : fits_column column.ty value ≡ true = rw at at parts.0 in
    and_from _ _ (and_from _ _ fit parts.1) refl

module _ (types : List ColumnType) (identity : Option ℕ) (dot : Dot) (vs : List Value) where
  abbrev places : ℕ → List Side → List ℕ
  places n ss = filter_map both_place (enumerate_from n ss)

  -- with column tracking each conflicting cell takes one decided value
  pub decided-good : (n : ℕ) (columns : List Column) (ss : List Side) (ps is : List Cell) (values : List Value) → Aligned types n columns → length ss ≡ length ps → length ss ≡ length is
      → list_all has_one_value ps ≡ true → list_all has_one_value is ≡ true → are_good identity n columns (row_values ps) ≡ true → are_good identity n columns (row_values is) ≡ true
      → fit_all (is_good_at types identity) (places n ss) values ≡ true → are_good identity n columns (row_values (result_cells dot (Custom vs) values ss ps is)) ≡ true
  decided-good n columns [] [] is values aligned here there ones others ours theirs fit = ours
  decided-good n columns [] (p ∷ ps) is values aligned here there ones others ours theirs fit = absurd (omega arith)
  decided-good n columns (s ∷ ss) [] is values aligned here there ones others ours theirs fit = absurd (omega arith)
  decided-good n columns (s ∷ ss) (p ∷ ps) [] values aligned here there ones others ours theirs fit = absurd (omega arith)
  decided-good n [] (s ∷ ss) (p ∷ ps) (i ∷ is) values aligned here there ones others ours theirs fit =
      absurd (one-none identity n p.values (row_values ps) (and_parts (has_one_value p) (list_all has_one_value ps) ones).0 ours)
  decided-good n (column ∷ columns) (side.Neither ∷ ss) (p ∷ ps) (i ∷ is) values aligned here there ones others ours theirs fit =
      let one = and_parts (has_one_value p) (list_all has_one_value ps) ones in
      let other = and_parts (has_one_value i) (list_all has_one_value is) others in
      let our = one-split identity n column columns p.values (row_values ps) one.0 ours in
      let their = one-split identity n column columns i.values (row_values is) other.0 theirs in
      one-join identity n column columns p.values _ our.0 (decided-good (n + 1) columns ss ps is values aligned.1 (omega arith) (omega arith) one.1 other.1 our.1 their.1 fit)
  decided-good n (column ∷ columns) (side.Publisher ∷ ss) (p ∷ ps) (i ∷ is) values aligned here there ones others ours theirs fit =
      let one = and_parts (has_one_value p) (list_all has_one_value ps) ones in
      let other = and_parts (has_one_value i) (list_all has_one_value is) others in
      let our = one-split identity n column columns p.values (row_values ps) one.0 ours in
      let their = one-split identity n column columns i.values (row_values is) other.0 theirs in
      one-join identity n column columns p.values _ our.0 (decided-good (n + 1) columns ss ps is values aligned.1 (omega arith) (omega arith) one.1 other.1 our.1 their.1 fit)
  decided-good n (column ∷ columns) (side.Incoming ∷ ss) (p ∷ ps) (i ∷ is) values aligned here there ones others ours theirs fit =
      let one = and_parts (has_one_value p) (list_all has_one_value ps) ones in
      let other = and_parts (has_one_value i) (list_all has_one_value is) others in
      let our = one-split identity n column columns p.values (row_values ps) one.0 ours in
      let their = one-split identity n column columns i.values (row_values is) other.0 theirs in
      one-join identity n column columns i.values _ their.0 (decided-good (n + 1) columns ss ps is values aligned.1 (omega arith) (omega arith) one.1 other.1 our.1 their.1 fit)
  decided-good n (column ∷ columns) (side.Both ∷ ss) (p ∷ ps) (i ∷ is) [] aligned here there ones others ours theirs fit = absurd (cc fit)
  decided-good n (column ∷ columns) (side.Both ∷ ss) (p ∷ ps) (i ∷ is) (value ∷ values) aligned here there ones others ours theirs fit =
      let one = and_parts (has_one_value p) (list_all has_one_value ps) ones in
      let other = and_parts (has_one_value i) (list_all has_one_value is) others in
      let our = one-split identity n column columns p.values (row_values ps) one.0 ours in
      let their = one-split identity n column columns i.values (row_values is) other.0 theirs in
      let fits = and_parts (is_good_at types identity n value) (fit_all (is_good_at types identity) (places (n + 1) ss) values) fit in
      let count : length p.values ≡ 1 = grind (arith, nat_tests, one.0) in
      let rest : are_good identity (n + 1) columns (row_values (result_cells dot (Custom vs) values ss ps is)) ≡ true =
      decided-good (n + 1) columns ss ps is values aligned.1 (omega arith) (omega arith) one.1 other.1 our.1 their.1 fits.1 in
      subst (λ (k : ℕ). are_good identity n (column ∷ columns) (take k (value ∷ values) ++ row_values (result_cells dot (Custom vs) (drop k (value ∷ values)) ss ps is)) ≡ true) (sym count)
      (one-join identity n column columns (value ∷ []) (row_values (result_cells dot (Custom vs) values ss ps is)) (decided-here types identity n column value aligned.0 fits.0) rest)

place-fits : (types : List ColumnType) (place : ℕ) (value : Value) → fits_place types place value ≡ true → fits_at types place value ≡ true
place-fits types place value fit = by (slice_get types place) fit
  where
    by : (found : Option ColumnType) → fits_some found value ≡ true → option_map_or (λ (ty : ColumnType). fits_column ty value) found false ≡ true
    by None fit = absurd (cc fit)
    by (Some ty) fit = fit

-- decided values by places, where no identity column asks for its own
pub placed-plain : (types : List ColumnType) (places : List ℕ) (values : List Value) → fit_all (fits_place types) places values ≡ true → fit_all (is_good_at types None) places values ≡ true
placed-plain types [] [] fit = refl
placed-plain types [] (value ∷ values) fit = absurd (cc fit)
placed-plain types (place ∷ places) [] fit = absurd (cc fit)
placed-plain types (place ∷ places) (value ∷ values) fit =
    let parts = and_parts (fits_place types place value) (fit_all (fits_place types) places values) fit in
    and_from _ _ (and_from _ _ (place-fits types place value parts.0) refl) (placed-plain types places values parts.1)

own-here : (types : List ColumnType) (identity : ℕ) (own value : Value) (place : ℕ) (b : Bool) → (place == identity) ≡ b → fits_place types place value ≡ true → fits_at types identity own ≡ true → is_set (Some own) ≡ true
    → is_good_at types (Some identity) place (let v : Value = if b then own else value in v) ≡ true
own-here types identity own value place true is fit own-fits set =
    let same : place ≡ identity = grind (arith, nat_tests, is) in
    and_from _ _ (subst (λ (k : ℕ). fits_at types k own ≡ true) (sym same) own-fits) (ap (λ (b : Bool). (let c : Bool = if b then is_set (Some own) else true in c)) is ∙ set)
own-here types identity own value place false is fit own-fits set =
    and_from _ _ (place-fits types place value fit) (ap (λ (b : Bool). (let c : Bool = if b then is_set (Some value) else true in c)) is)

-- and with the identity column's own one
pub placed-own : (types : List ColumnType) (identity : ℕ) (own : Value) (places : List ℕ) (values : List Value) → fit_all (fits_place types) places values ≡ true → fits_at types identity own ≡ true → is_set (Some own) ≡ true
    → fit_all (is_good_at types (Some identity)) places (own_placed identity own places values) ≡ true
placed-own types identity own [] [] fit own-fits set = refl
placed-own types identity own [] (value ∷ values) fit own-fits set = absurd (cc fit)
placed-own types identity own (place ∷ places) [] fit own-fits set = absurd (cc fit)
placed-own types identity own (place ∷ places) (value ∷ values) fit own-fits set =
    let parts = and_parts (fits_place types place value) (fit_all (fits_place types) places values) fit in
    and_from _ _ (own-here types identity own value place (place == identity) refl parts.0 own-fits set) (placed-own types identity own places values parts.1 own-fits set)

-- with row tracking all values are decided
pub row-plain : (n : ℕ) (columns : List Column) (values : List Value) → fit_all fits_column (map (λ (column : Column). column.ty) columns) values ≡ true → are_good None n columns values ≡ true
row-plain n [] [] fit = refl
row-plain n [] (value ∷ values) fit = absurd (cc fit)
row-plain n (column ∷ columns) [] fit = absurd (cc fit)
row-plain n (column ∷ columns) (value ∷ values) fit =
    let parts = and_parts (fits_column column.ty value) (fit_all fits_column (map (λ (c : Column). c.ty) columns) values) fit in
    and_from _ _ (and_from _ _ parts.0 refl) (row-plain (n + 1) columns values parts.1)

set-apart : (place n : ℕ) (value : Value) → n ≢ place → set_at (Some place) n value ≡ true
set-apart place n value apart =
    let not-same : (n == place) ≡ false = grind (arith, nat_tests, apart) in
    ap (λ (b : Bool). (let c : Bool = if b then is_set (Some value) else true in c)) not-same

set-own : (place n : ℕ) (value : Value) → n ≡ place → is_set (Some value) ≡ true → set_at (Some place) n value ≡ true
set-own place n value is set =
    let same : (n == place) ≡ true = grind (arith, nat_tests, is) in
    ap (λ (b : Bool). (let c : Bool = if b then is_set (Some value) else true in c)) same ∙ set

row-behind : (place n : ℕ) (columns : List Column) (values : List Value) → place < n → fit_all fits_column (map (λ (column : Column). column.ty) columns) values ≡ true → are_good (Some place) n columns values ≡ true
row-behind place n [] [] above fit = refl
row-behind place n [] (value ∷ values) above fit = absurd (cc fit)
row-behind place n (column ∷ columns) [] above fit = absurd (cc fit)
row-behind place n (column ∷ columns) (value ∷ values) above fit =
    let parts = and_parts (fits_column column.ty value) (fit_all fits_column (map (λ (c : Column). c.ty) columns) values) fit in
    and_from _ _ (and_from _ _ parts.0 (set-apart place n value (omega arith))) (row-behind place (n + 1) columns values (omega arith) parts.1)

-- but for the identity column's, which is that of a row that fits
pub row-own : (place n : ℕ) (columns : List Column) (values ours : List Value) (k : ℕ) (own : Value) → n + k ≡ place → fit_all fits_column (map (λ (column : Column). column.ty) columns) values ≡ true
    → are_good (Some place) n columns ours ≡ true → slice_get ours k ≡ Some own → are_good (Some place) n columns (slice_set values k own) ≡ true
row-own place n [] [] ours k own at fit good is = refl
row-own place n [] (value ∷ values) ours k own at fit good is = absurd (cc fit)
row-own place n (column ∷ columns) [] ours k own at fit good is = absurd (cc fit)
row-own place n (column ∷ columns) (value ∷ values) [] k own at fit good is = absurd (cc good)
row-own place n (column ∷ columns) (value ∷ values) (our ∷ ours) zero own at fit good is =
    let parts = and_parts (fits_column column.ty value) (fit_all fits_column (map (λ (c : Column). c.ty) columns) values) fit in
    let goods = and_parts (fits_column column.ty our && set_at (Some place) n our) (are_good (Some place) (n + 1) columns ours) good in
    let same : our ≡ own = cc is in
    and_from _ _ (subst (λ (v : Value). (fits_column column.ty v && set_at (Some place) n v) ≡ true) same goods.0) (row-behind place (n + 1) columns values (omega arith) parts.1)
row-own place n (column ∷ columns) (value ∷ values) (our ∷ ours) (suc k) own at fit good is =
    let parts = and_parts (fits_column column.ty value) (fit_all fits_column (map (λ (c : Column). c.ty) columns) values) fit in
    let goods = and_parts (fits_column column.ty our && set_at (Some place) n our) (are_good (Some place) (n + 1) columns ours) good in
    and_from _ _ (and_from _ _ parts.0 (set-apart place n value (omega arith))) (row-own place (n + 1) columns values ours k own (omega arith) parts.1 goods.1 is)

-- what is at a place of a row that fits, fits there
pub good-at : (identity : Option ℕ) (types : List ColumnType) (n : ℕ) (columns : List Column) (values : List Value) → Aligned types n columns → are_good identity n columns values ≡ true
    → (k : ℕ) (value : Value) → slice_get values k ≡ Some value → fits_at types (n + k) value ≡ true
good-at identity types n [] [] aligned good k value is = absurd (cc is)
good-at identity types n [] (other ∷ values) aligned good k value is = absurd (cc good)
good-at identity types n (column ∷ columns) [] aligned good k value is = absurd (cc good)
good-at identity types n (column ∷ columns) (other ∷ values) aligned good zero value is =
    let goods = and_parts (fits_column column.ty other && set_at identity n other) (are_good identity (n + 1) columns values) good in
    let fit = and_parts (fits_column column.ty other) (set_at identity n other) goods.0 in
    let same : other ≡ value = cc is in
    let place : n + 0 ≡ n = omega arith in
    rw (place, aligned.0) (subst (λ (v : Value). fits_column column.ty v ≡ true) same fit.0)
good-at identity types n (column ∷ columns) (other ∷ values) aligned good (suc k) value is =
    let goods = and_parts (fits_column column.ty other && set_at identity n other) (are_good identity (n + 1) columns values) good in
    let place : n + suc k ≡ n + 1 + k = omega arith in
    rw place (good-at identity types (n + 1) columns values aligned.1 goods.1 k value is)

-- with column tracking the value of a column is that of its cell
column-cell : (cell : Cell) (cells : List Cell) → ((j : ℕ) → slice_get (row_values cells) j ≡ cell_value (slice_get cells j) 0) → (values : List Value) → cell.values ≡ values → (length values == 1) ≡ true
    → (j : ℕ) → slice_get (values ++ row_values cells) j ≡ cell_value (slice_get (cell ∷ cells) j) 0
column-cell cell cells deeper [] is one j = absurd (grind (arith, nat_tests, one))
column-cell cell cells deeper (value ∷ []) is one zero = rw is refl
column-cell cell cells deeper (value ∷ []) is one (suc j) = deeper j
column-cell cell cells deeper (value ∷ other ∷ values) is one j = absurd (grind (arith, nat_tests, one))

pub cell-of-column : (cells : List Cell) → list_all has_one_value cells ≡ true → (k : ℕ) → slice_get (row_values cells) k ≡ cell_value (slice_get cells k) 0
cell-of-column [] ones k = refl
cell-of-column (cell ∷ cells) ones k =
    let parts = and_parts (has_one_value cell) (list_all has_one_value cells) ones in
    column-cell cell cells (cell-of-column cells parts.1) cell.values refl parts.0 k
