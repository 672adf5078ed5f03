-- What a local change leaves of a row: values that fit their columns, within the length of a row.
use Rattle.std.specs.List.{enumerate_from}
use Rattle.std.specs.Option.{option_map_or}
use Rattle.std.specs.Prelude.{Bool, List, None, Option, Some, [], cond, false, find, if◌then◌else◌, is_some, map, nat_lt, not, option_map, pos, refl, slice_get, suc, true, unwrap_or, ℕ, ℤ, ◌+◌, ◌==◌, ◌≡◌, ◌∷◌}
use Rattle.std.proofs.Common.{ap, arith, subst, sym, ◌∙◌}
use Rattle.std.proofs.lemmas.Bool.Decides.{nat_tests}
use Rattle.std.proofs.lemmas.List.Sums.{sum_by-cons}
use Rattle.merge_types.specs.Fitting.{content_length, fits_column, has_type, is_short}
use Rattle.merge_types.specs.Length.{row_length, stored_length as value_length}
use Rattle.merge_types.specs.declared.changes.Setting.{Setting}
use Rattle.merge_types.specs.declared.changes.Tracking.{Tracking}
use Rattle.merge_types.specs.declared.changes.Tracking.TheVariants as tracking
use Rattle.merge_types.specs.declared.identifiers.Dot.{Dot}
use Rattle.merge_types.specs.declared.values.ColumnType.{ColumnType}
use Rattle.merge_types.specs.declared.values.ColumnType.TheVariants as column
use Rattle.merge_types.specs.declared.values.Value.{Value}
use Rattle.merge_types.specs.declared.values.Value.TheVariants.{Bit, Bytes, Day, Guid, Int, Null, Text}
use Rattle.merge_units.specs.Changes.{new_cells, set_value}
use Rattle.merge_units.specs.Length.{stored_length}
use Rattle.merge_units.specs.declared.version.Cell.{Cell}
use Rattle.merge_resolve.specs.Counted.{fits_place, fits_some}
use Rattle.merge_batch.specs.LocalChanges.{fits_type, is_of_type, long_value, new_value, wrong_type}
use Rattle.merge_batch.specs.Uploads.{whole_number}
use Rattle.merge_honest.proofs.TypedCells.{ValuesFrom}

-- A value that is set passed the tests of its column.

of-type : (found : Option ColumnType) (value : Value) → option_map_or (is_of_type value) found false ≡ true → nat_lt 4000 (content_length value) ≡ false → fits_some found value ≡ true
of-type None value is short = absurd cc
of-type (Some ty) value is short = (let within : is_short value ≡ true = grind (arith, nat_tests, short) in grind (arith, is, within))

none-mapped : {X Y : Type 0} (f : X → Y) (b : Bool) (x : X) (rest : Option X) → option_map f (let found : Option X = cond b (Some x) rest in found) ≡ None → (b ≡ false) × (option_map f rest ≡ None)
none-mapped f true x rest none = absurd cc
none-mapped f false x rest none = (refl, none)

not-true : (b : Bool) → not b ≡ false → b ≡ true
not-true true is = refl
not-true false is = absurd cc

head-set : (types : List ColumnType) (b : Bool) (setting : Setting) (rest : Option Setting) (place : ℕ) (value : Value) → (setting.column == place) ≡ b → fits_place types setting.column setting.value ≡ true → (option_map (λ (s : Setting). s.value) rest ≡ Some value → fits_place types place value ≡ true)
    → option_map (λ (s : Setting). s.value) (let found : Option Setting = cond b (Some setting) rest in found) ≡ Some value → fits_place types place value ≡ true
head-set types true setting rest place value at fit later is =
    let here : setting.column ≡ place = grind (arith, nat_tests, at) in
    let same : setting.value ≡ value = cc in
    subst (λ (k : ℕ). fits_place types k value ≡ true) here (subst (λ (v : Value). fits_place types setting.column v ≡ true) same fit)
head-set types false setting rest place value at fit later is = later is

pub set-fits : (types : List ColumnType) (settings : List Setting) → wrong_type types settings ≡ None → long_value settings ≡ None → (place : ℕ) (value : Value) → set_value settings place ≡ Some value → fits_place types place value ≡ true
set-fits types [] typed short place value is = absurd cc
set-fits types (setting ∷ settings) typed short place value is =
    let first = none-mapped _ (not (fits_type types setting)) setting (find (λ (s : Setting). not (fits_type types s)) settings) typed in
    let second = none-mapped _ (nat_lt 4000 (content_length setting.value)) setting (find (λ (s : Setting). nat_lt 4000 (content_length s.value)) settings) short in
    head-set types (setting.column == place) setting (find (λ (s : Setting). s.column == place) settings) place value refl
    (of-type (slice_get types setting.column) setting.value (not-true (fits_type types setting) first.0) second.0) (λ later. set-fits types settings first.1 second.1 place value later) is

-- A new row.

null-fits : (ty : ColumnType) → fits_column ty Null ≡ true
unfolding has_type
null-fits ty = grind (arith, nat_tests)

int-fits : (number : ℤ) → fits_column column.Int (Int number) ≡ true
unfolding has_type
int-fits number = grind (arith, nat_tests)

pub place-fits : (types : List ColumnType) (place : ℕ) (ty : ColumnType) (value : Value) → slice_get types place ≡ Some ty → fits_column ty value ≡ true → fits_place types place value ≡ true
place-fits types place ty value is fit = grind (arith, is, fit)

unset-fits : (types : List ColumnType) (place : ℕ) (ty : ColumnType) (found : Option Value) → slice_get types place ≡ Some ty → ((value : Value) → found ≡ Some value → fits_place types place value ≡ true) → fits_place types place (unwrap_or found Null) ≡ true
unset-fits types place ty None at set = place-fits types place ty Null at (null-fits ty)
unset-fits types place ty (Some value) at set = set value refl

taken-fits : (types : List ColumnType) (place : ℕ) (value : Value) (found : Option ℤ) → whole_number (Some value) ≡ found → is_some found ≡ true → slice_get types place ≡ Some column.Int → fits_place types place value ≡ true
taken-fits types place (Int number) found is some at = place-fits types place column.Int (Int number) at (int-fits number)
taken-fits types place Null found is some at = absurd (grind (arith, is, some))
taken-fits types place (Bit b) found is some at = absurd (grind (arith, is, some))
taken-fits types place (Text bytes) found is some at = absurd (grind (arith, is, some))
taken-fits types place (Day day) found is some at = absurd (grind (arith, is, some))
taken-fits types place (Guid guid) found is some at = absurd (grind (arith, is, some))
taken-fits types place (Bytes bytes) found is some at = absurd (grind (arith, is, some))

module _ (types : List ColumnType) (value : Value) (settings : List Setting) (set : (place : ℕ) (other : Value) → set_value settings place ≡ Some other → fits_place types place other ≡ true) where
  place-by : (b : Bool) (k place : ℕ) (ty : ColumnType) → (place == k) ≡ b → slice_get types place ≡ Some ty → slice_get types k ≡ Some column.Int → is_some (whole_number (Some value)) ≡ true
      → fits_place types place (if b then value else unwrap_or (set_value settings place) Null) ≡ true
  place-by true k place ty is at int some = (let same : k ≡ place = grind (arith, nat_tests, is) in subst (λ (n : ℕ). fits_place types n value ≡ true) same (taken-fits types k value (whole_number (Some value)) refl some int))
  place-by false k place ty is at int some = unset-fits types place ty (set_value settings place) at (set place)

  new-fits : (identity : Option ℕ) (place : ℕ) (ty : ColumnType) → ((k : ℕ) → identity ≡ Some k → (slice_get types k ≡ Some column.Int) × (is_some (whole_number (Some value)) ≡ true)) → slice_get types place ≡ Some ty → fits_place types place (new_value identity value settings place) ≡ true
  new-fits None place ty int at = unset-fits types place ty (set_value settings place) at (set place)
  new-fits (Some k) place ty int at = (let both = int k refl in place-by (place == k) k place ty refl at both.0 both.1)

  all-new : (identity : Option ℕ) (n : ℕ) (suffix : List ColumnType) → ((k : ℕ) → identity ≡ Some k → (slice_get types k ≡ Some column.Int) × (is_some (whole_number (Some value)) ≡ true)) → ((k : ℕ) → slice_get suffix k ≡ slice_get types (n + k))
      → ValuesFrom (fits_place types) n (map (λ (place : ℕ × ColumnType). new_value identity value settings place.0) (enumerate_from n suffix))
  all-new identity n [] int at = tt
  all-new identity n (ty ∷ suffix) int at = (
    new-fits identity n ty int (let same : n ≡ n + 0 = omega arith in ap (λ (k : ℕ). slice_get types k) same ∙ sym (at 0)),
    all-new identity (n + 1) suffix int (λ k. at (suc k) ∙ ap (λ (place : ℕ). slice_get types place) (let same : n + suc k ≡ n + 1 + k = omega arith in same)),
  )

  pub new-values-fit : (identity : Option ℕ) → ((k : ℕ) → identity ≡ Some k → (slice_get types k ≡ Some column.Int) × (is_some (whole_number (Some value)) ≡ true))
      → ValuesFrom (fits_place types) 0 (map (λ (place : ℕ × ColumnType). new_value identity value settings place.0) (enumerate_from 0 types))
  new-values-fit identity int = all-new identity 0 types int (λ k. ap (λ (place : ℕ). slice_get types place) (let same : k ≡ 0 + k = omega arith in same))

-- Whole numbers have one length.

whole-length : (value : Value) (found : Option ℤ) → whole_number (Some value) ≡ found → is_some found ≡ true → value_length value ≡ 9
whole-length (Int number) found is some = refl
whole-length Null found is some = absurd (grind (arith, is, some))
whole-length (Bit b) found is some = absurd (grind (arith, is, some))
whole-length (Text bytes) found is some = absurd (grind (arith, is, some))
whole-length (Day day) found is some = absurd (grind (arith, is, some))
whole-length (Guid guid) found is some = absurd (grind (arith, is, some))
whole-length (Bytes bytes) found is some = absurd (grind (arith, is, some))

by-length : (b : Bool) (value other : Value) → value_length value ≡ 9 → value_length (if b then value else other) ≡ value_length (if b then Int (pos 0) else other)
by-length true value other nine = nine
by-length false value other nine = refl

new-length : (identity : Option ℕ) (value : Value) (settings : List Setting) (place : ℕ) → (is_some identity ≡ true → is_some (whole_number (Some value)) ≡ true) → value_length (new_value identity value settings place) ≡ value_length (new_value identity (Int (pos 0)) settings place)
new-length None value settings place some = refl
new-length (Some k) value settings place some = by-length (place == k) value (unwrap_or (set_value settings place) Null) (whole-length value (whole_number (Some value)) refl (some refl))

-- of values that are as long one by one
abbrev AreAsLong : List Value → List Value → Type 0
AreAsLong [] [] = Unit {0}
AreAsLong (value ∷ values) (other ∷ others) = (value_length value ≡ value_length other) × AreAsLong values others
AreAsLong values others = ⊥

row-long : (values others : List Value) → AreAsLong values others → row_length values ≡ row_length others
row-long [] [] same = refl
row-long [] (other ∷ others) same = absurd same
row-long (value ∷ values) [] same = absurd same
row-long (value ∷ values) (other ∷ others) same =
    let one = sum_by-cons value_length value values in
    let two = sum_by-cons value_length other others in
    let first = same.0 in
    let rest = row-long values others same.1 in omega (arith, one, two, first, rest)

abbrev cell_length : Cell → ℕ
cell_length cell = row_length cell.values

single-long : (value other : Value) → value_length value ≡ value_length other → row_length (value ∷ []) ≡ row_length (other ∷ [])
single-long value other same = row-long (value ∷ []) (other ∷ []) (same, tt)

columns-long : (dot : Dot) (values others : List Value) → AreAsLong values others → stored_length (new_cells tracking.ByColumn dot values) ≡ stored_length (new_cells tracking.ByColumn dot others)
columns-long dot [] [] same = refl
columns-long dot [] (other ∷ others) same = absurd same
columns-long dot (value ∷ values) [] same = absurd same
columns-long dot (value ∷ values) (other ∷ others) same =
    let first : Cell = record { top = dot; values = value ∷ [] } in
    let second : Cell = record { top = dot; values = other ∷ [] } in
    let one = sum_by-cons cell_length first (new_cells tracking.ByColumn dot values) in
    let two = sum_by-cons cell_length second (new_cells tracking.ByColumn dot others) in
    let here = single-long value other same.0 in
    let rest = columns-long dot values others same.1 in omega (arith, one, two, here, rest)

cells-long : (tr : Tracking) (dot : Dot) (values others : List Value) → AreAsLong values others → stored_length (new_cells tr dot values) ≡ stored_length (new_cells tr dot others)
cells-long tracking.Row dot values others same =
    let none : List Cell = [] in
    let first : Cell = record { top = dot; values = values } in
    let second : Cell = record { top = dot; values = others } in
    let one = sum_by-cons cell_length first none in
    let two = sum_by-cons cell_length second none in
    let rest = row-long values others same in omega (arith, one, two, rest)
cells-long tracking.ByColumn dot values others same = columns-long dot values others same

new-long : (identity : Option ℕ) (value : Value) (settings : List Setting) (n : ℕ) (types : List ColumnType) → (is_some identity ≡ true → is_some (whole_number (Some value)) ≡ true)
    → AreAsLong (map (λ (place : ℕ × ColumnType). new_value identity value settings place.0) (enumerate_from n types)) (map (λ (place : ℕ × ColumnType). new_value identity (Int (pos 0)) settings place.0) (enumerate_from n types))
new-long identity value settings n [] some = tt
new-long identity value settings n (ty ∷ types) some = (new-length identity value settings n some, new-long identity value settings (n + 1) types some)

pub new-row-long : (tr : Tracking) (dot : Dot) (identity : Option ℕ) (value : Value) (settings : List Setting) (types : List ColumnType) → (is_some identity ≡ true → is_some (whole_number (Some value)) ≡ true)
    → stored_length (new_cells tr dot (map (λ (place : ℕ × ColumnType). new_value identity value settings place.0) (enumerate_from 0 types))) ≡ stored_length (new_cells tr dot (map (λ (place : ℕ × ColumnType). new_value identity (Int (pos 0)) settings place.0) (enumerate_from 0 types)))
new-row-long tr dot identity value settings types some = cells-long tr dot _ _ (new-long identity value settings 0 types some)
