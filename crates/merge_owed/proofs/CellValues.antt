-- The values of a row by its columns, and what a merge leaves of them.
use Rattle.std.specs.Prelude.{◌≡◌, ◌<◌, ◌+◌, ◌==◌, ◌++◌, ◌⊎◌, ℕ, zero, suc, Bool, true, false, List, [], ◌∷◌, Option, Some, None, refl, drop, filter_map, if◌then◌else◌, length, map, slice_get, slice_set, take}
use Rattle.std.specs.List.{cons_option, enumerate_from, zip}
use Rattle.std.proofs.Common.{arith, subst, sym, ap, ◌∙◌, inl, inr}
use Rattle.std.proofs.lemmas.Bool.Decides.{nat_tests}
use Rattle.std.proofs.lemmas.List.{append-nil, get_or-set_same, length-set, take_all}
use Rattle.std.proofs.lemmas.Option.{slice_get-get_or, slice_get_within}
use Rattle.merge_types.specs.declared.changes.Tracking.{Tracking}
use Rattle.merge_types.specs.declared.changes.Tracking.TheVariants as tracking
use Rattle.merge_types.specs.declared.identifiers.Dot.{Dot}
use Rattle.merge_types.specs.declared.values.ColumnType.{ColumnType}
use Rattle.merge_types.specs.declared.values.Value.{Value}
use Rattle.merge_types.specs.Fitting.{fits_column}
use Rattle.merge_units.specs.Cases.{side_of}
use Rattle.merge_units.specs.Results.{decided, result_cell, result_cells, taken}
use Rattle.merge_units.specs.Version.{Knowing}
use Rattle.merge_units.specs.declared.case.Case.TheVariants as case
use Rattle.merge_units.specs.declared.case.Side.{Side}
use Rattle.merge_units.specs.declared.case.Side.TheVariants as side
use Rattle.merge_units.specs.declared.result.Decision.{Decision}
use Rattle.merge_units.specs.declared.result.Decision.TheVariants.{Custom, KeepPublisher, TakeSubscriber}
use Rattle.merge_units.specs.declared.version.Body.TheVariants.{Live}
use Rattle.merge_units.specs.declared.version.Cell.{Cell}
use Rattle.merge_resolve.specs.Columns.{body_value, cell_value, value_in}
use Rattle.merge_resolve.specs.Counted.{fit_all, fit_columns, fits_place, is_within, own_placed, with_own, with_own_value, within_or_kept}
use Rattle.merge_resolve.specs.Questions.{Asked, both_place, case_asked, decision_for_question, question_asked, tracking_kind}
use Rattle.merge_resolve.specs.declared.case.CaseKind.{CaseKind}
use Rattle.merge_resolve.specs.declared.case.CaseKind.TheVariants as kind
use Rattle.merge_resolve.specs.declared.case.ConflictCase.{ConflictCase}
use Rattle.merge_resolve.specs.declared.question.Meeting.{Meeting}
use Rattle.merge_batch.specs.Articles.{row_values}

-- each cell has one value
abbrev pub HaveOne : List Cell → Type 0
HaveOne [] = Unit {0}
HaveOne (cell ∷ cells) = (length cell.values ≡ 1) × HaveOne cells

-- with row tracking one cell has a value for each column, else each column has a cell with its value
abbrev pub HasColumns : Tracking → ℕ → List Cell → Type 0
HasColumns tracking.Row columns (cell ∷ []) = length cell.values ≡ columns
HasColumns tracking.Row columns cells = ⊥
HasColumns tracking.ByColumn columns cells = (length cells ≡ columns) × HaveOne cells

abbrev pub value_at : List Cell → ℕ → Option Value
value_at cells column = slice_get (row_values cells) column

abbrev pub IsEither : Option Value → Option Value → Option Value → Type 0
IsEither value ours theirs = (value ≡ ours) ⊎ (value ≡ theirs)

either-same : (value other ours mine theirs yours : Option Value) → value ≡ other → ours ≡ mine → theirs ≡ yours → IsEither other mine yours → IsEither value ours theirs
either-same value other ours mine theirs yours same one two (inl is) = inl (same ∙ is ∙ sym one)
either-same value other ours mine theirs yours same one two (inr is) = inr (same ∙ is ∙ sym two)

-- A list of one value before others.

sole-first : (values rest : List Value) → length values ≡ 1 → slice_get (values ++ rest) 0 ≡ slice_get values 0
sole-first [] rest one = absurd cc
sole-first (value ∷ values) rest one = refl

sole-later : (values rest : List Value) (k : ℕ) → length values ≡ 1 → slice_get (values ++ rest) (suc k) ≡ slice_get rest k
sole-later [] rest k one = absurd cc
sole-later (value ∷ []) rest k one = refl
sole-later (value ∷ other ∷ values) rest k one = absurd (omega (arith, one))

sole-some : (values : List Value) → length values ≡ 1 → (value : Value) × (slice_get values 0 ≡ Some value)
sole-some [] one = absurd cc
sole-some (value ∷ values) one = (value, refl)

pub first-value : (cell : Cell) (cells : List Cell) → length cell.values ≡ 1 → value_at (cell ∷ cells) 0 ≡ slice_get cell.values 0
first-value cell cells one = sole-first cell.values (row_values cells) one

pub later-value : (cell : Cell) (cells : List Cell) (k : ℕ) → length cell.values ≡ 1 → value_at (cell ∷ cells) (suc k) ≡ value_at cells k
later-value cell cells k one = sole-later cell.values (row_values cells) k one

pub row-value : (cell : Cell) (column : ℕ) → value_at (cell ∷ []) column ≡ slice_get cell.values column
row-value cell column = ap (λ (values : List Value). slice_get values column) (append-nil cell.values)

same-none : (values others : List Value) (k : ℕ) → length others ≡ length values → slice_get values k ≡ None → slice_get others k ≡ None
same-none [] [] k same none = none
same-none [] (other ∷ others) k same none = absurd (omega (arith, same))
same-none (value ∷ values) [] k same none = absurd (omega (arith, same))
same-none (value ∷ values) (other ∷ others) zero same none = absurd cc
same-none (value ∷ values) (other ∷ others) (suc k) same none = same-none values others k (omega (arith, same)) none

-- Values that are decided, where the identity column of the row has its own value.
module _ (identity : Option ℕ) (own : Option Value) where
  -- one for each of some columns
  abbrev pub Placed : List ℕ → List Value → Type 0
  Placed [] [] = Unit {0}
  Placed (place ∷ places) (value ∷ values) = ((kept : Value) → identity ≡ Some place → own ≡ Some kept → value ≡ kept) × Placed places values
  Placed places values = ⊥

  -- one for each column
  abbrev pub PlacedAll : ℕ → List Value → Type 0
  PlacedAll columns values = (length values ≡ columns) × ((column : ℕ) (kept : Value) → identity ≡ Some column → own ≡ Some kept → slice_get values column ≡ Some kept)

  abbrev pub PlacedBy : Decision → List ℕ → List Value → Type 0
  PlacedBy (Custom more) places values = Placed places values
  PlacedBy decision places values = Unit {0}

  abbrev pub PlacedAllBy : Decision → ℕ → List Value → Type 0
  PlacedAllBy (Custom more) columns values = PlacedAll columns values
  PlacedAllBy decision columns values = Unit {0}

  -- With column tracking: one pair of cells.
  record Goes (decision : Decision) (dot : Dot) (s : Side) (n : ℕ) (places : List ℕ) (p i : Cell) (values : List Value) : Type 0 where
    one : length (result_cell dot decision (take (taken decision s p) values) s p i).values ≡ 1
    either : identity ≡ Some n → own ≡ slice_get p.values 0 → IsEither (slice_get (result_cell dot decision (take (taken decision s p) values) s p i).values 0) (slice_get p.values 0) (slice_get i.values 0)
    rest : PlacedBy decision places (drop (taken decision s p) values)

  decided-goes : (count n : ℕ) (places : List ℕ) (ours theirs : Option Value) (kept value : Value) (values : List Value) → count ≡ 1 → ours ≡ Some kept → Placed (n ∷ places) (value ∷ values)
      → (length (take count (value ∷ values)) ≡ 1) × ((identity ≡ Some n → own ≡ ours → IsEither (slice_get (take count (value ∷ values)) 0) ours theirs) × Placed places (drop count (value ∷ values)))
  decided-goes count n places ours theirs kept value values one is placed =
      subst (λ (k : ℕ). (length (take k (value ∷ values)) ≡ 1) × ((identity ≡ Some n → own ≡ ours → IsEither (slice_get (take k (value ∷ values)) 0) ours theirs) × Placed places (drop k (value ∷ values)))) (sym one)
      (refl, ((λ at same. inl (ap (λ (v : Value). Some v) (placed.0 kept at (same ∙ is)) ∙ sym is)), placed.1))

  both-goes : (more : List Value) (dot : Dot) (n : ℕ) (places : List ℕ) (p i : Cell) (values : List Value) → length p.values ≡ 1 → length i.values ≡ 1 → Placed (n ∷ places) values → Goes (Custom more) dot side.Both n places p i values
  both-goes more dot n places p i [] ours theirs placed = absurd placed
  both-goes more dot n places p i (value ∷ values) ours theirs placed =
      let some = sole-some p.values ours in
      let parts = decided-goes (length p.values) n places (slice_get p.values 0) (slice_get i.values 0) some.0 value values ours some.1 placed in
      record { one = parts.0; either = parts.1.0; rest = parts.1.1 }

  step-goes : (decision : Decision) (dot : Dot) (s : Side) (n : ℕ) (places : List ℕ) (p i : Cell) (values : List Value) → length p.values ≡ 1 → length i.values ≡ 1 → PlacedBy decision (cons_option (both_place (n, s)) places) values → Goes decision dot s n places p i values
  step-goes KeepPublisher dot side.Neither n places p i values ours theirs placed = record { one = ours; either = λ at same. inl refl; rest = tt }
  step-goes KeepPublisher dot side.Publisher n places p i values ours theirs placed = record { one = ours; either = λ at same. inl refl; rest = tt }
  step-goes KeepPublisher dot side.Incoming n places p i values ours theirs placed = record { one = theirs; either = λ at same. inr refl; rest = tt }
  step-goes KeepPublisher dot side.Both n places p i values ours theirs placed = record { one = ours; either = λ at same. inl refl; rest = tt }
  step-goes TakeSubscriber dot side.Neither n places p i values ours theirs placed = record { one = ours; either = λ at same. inl refl; rest = tt }
  step-goes TakeSubscriber dot side.Publisher n places p i values ours theirs placed = record { one = ours; either = λ at same. inl refl; rest = tt }
  step-goes TakeSubscriber dot side.Incoming n places p i values ours theirs placed = record { one = theirs; either = λ at same. inr refl; rest = tt }
  step-goes TakeSubscriber dot side.Both n places p i values ours theirs placed = record { one = theirs; either = λ at same. inr refl; rest = tt }
  step-goes (Custom more) dot side.Neither n places p i values ours theirs placed = record { one = ours; either = λ at same. inl refl; rest = placed }
  step-goes (Custom more) dot side.Publisher n places p i values ours theirs placed = record { one = ours; either = λ at same. inl refl; rest = placed }
  step-goes (Custom more) dot side.Incoming n places p i values ours theirs placed = record { one = theirs; either = λ at same. inr refl; rest = placed }
  step-goes (Custom more) dot side.Both n places p i values ours theirs placed = both-goes more dot n places p i values ours theirs placed

  -- and all of them
  module _ (here there : Knowing) (long : Bool) (decision : Decision) (dot : Dot) where
    abbrev sides : List Cell → List Cell → List Side
    sides ours theirs = map (side_of long here there) (zip ours theirs)

    abbrev both_from : ℕ → List Side → List ℕ
    both_from n ss = filter_map both_place (enumerate_from n ss)

    abbrev results : List Value → List Cell → List Cell → List Cell
    results values ours theirs = result_cells dot decision values (sides ours theirs) ours theirs

    columns-left : (n : ℕ) (ours theirs : List Cell) (values : List Value) → length ours ≡ length theirs → HaveOne ours → HaveOne theirs → PlacedBy decision (both_from n (sides ours theirs)) values
        → (length (results values ours theirs) ≡ length ours) × HaveOne (results values ours theirs)
    columns-left n [] [] values even ones others placed = (refl, tt)
    columns-left n [] (i ∷ theirs) values even ones others placed = absurd (omega (arith, even))
    columns-left n (p ∷ ours) [] values even ones others placed = absurd (omega (arith, even))
    columns-left n (p ∷ ours) (i ∷ theirs) values even ones others placed =
        let s : Side = side_of long here there (p, i) in
        let step = step-goes decision dot s n (both_from (n + 1) (sides ours theirs)) p i values ones.0 others.0 placed in
        let rest = columns-left (n + 1) ours theirs (drop (taken decision s p) values) (omega (arith, even)) ones.1 others.1 step.rest in
        (omega (arith, rest.0), (step.one, rest.1))

    column-kept : (n k column : ℕ) (ours theirs : List Cell) (values : List Value) → n + k ≡ column → identity ≡ Some column → own ≡ cell_value (slice_get ours k) 0 → length ours ≡ length theirs → HaveOne ours → HaveOne theirs
        → PlacedBy decision (both_from n (sides ours theirs)) values → IsEither (value_at (results values ours theirs) k) (value_at ours k) (value_at theirs k)
    column-kept n k column [] [] values at is same even ones others placed = inl refl
    column-kept n k column [] (i ∷ theirs) values at is same even ones others placed = absurd (omega (arith, even))
    column-kept n k column (p ∷ ours) [] values at is same even ones others placed = absurd (omega (arith, even))
    column-kept n zero column (p ∷ ours) (i ∷ theirs) values at is same even ones others placed =
        let s : Side = side_of long here there (p, i) in
        let step = step-goes decision dot s n (both_from (n + 1) (sides ours theirs)) p i values ones.0 others.0 placed in
        let cell : Cell = result_cell dot decision (take (taken decision s p) values) s p i in
        let here : column ≡ n = omega (arith, at) in
        either-same (value_at (results values (p ∷ ours) (i ∷ theirs)) 0) (slice_get cell.values 0) (value_at (p ∷ ours) 0) (slice_get p.values 0) (value_at (i ∷ theirs) 0) (slice_get i.values 0)
        (first-value cell (results (drop (taken decision s p) values) ours theirs) step.one) (first-value p ours ones.0) (first-value i theirs others.0)
        (step.either (is ∙ ap (λ (x : ℕ). Some x) here) same)
    column-kept n (suc k) column (p ∷ ours) (i ∷ theirs) values at is same even ones others placed =
        let s : Side = side_of long here there (p, i) in
        let step = step-goes decision dot s n (both_from (n + 1) (sides ours theirs)) p i values ones.0 others.0 placed in
        let cell : Cell = result_cell dot decision (take (taken decision s p) values) s p i in
        let more : List Value = drop (taken decision s p) values in
        either-same (value_at (results values (p ∷ ours) (i ∷ theirs)) (suc k)) (value_at (results more ours theirs) k) (value_at (p ∷ ours) (suc k)) (value_at ours k) (value_at (i ∷ theirs) (suc k)) (value_at theirs k)
        (later-value cell (results more ours theirs) k step.one) (later-value p ours k ones.0) (later-value i theirs k others.0)
        (column-kept (n + 1) k column ours theirs more (omega (arith, at)) is same (omega (arith, even)) ones.1 others.1 step.rest)

  -- With row tracking there is one pair.
  abbrev RowGoes : ℕ → Cell → Cell → Cell → Type 0
  RowGoes columns p i cell = (length cell.values ≡ columns) × ((column : ℕ) → identity ≡ Some column → own ≡ slice_get p.values column → IsEither (slice_get cell.values column) (slice_get p.values column) (slice_get i.values column))

  own-row : (column : ℕ) (p values : List Value) (found : Option Value) → slice_get p column ≡ found → length values ≡ length p → identity ≡ Some column → own ≡ slice_get p column
      → ((kept : Value) → identity ≡ Some column → own ≡ Some kept → slice_get values column ≡ Some kept) → slice_get values column ≡ slice_get p column
  own-row column p values None at even is same placed = same-none p values column even at ∙ sym at
  own-row column p values (Some kept) at even is same placed = placed kept is (same ∙ at) ∙ sym at

  row-goes : (decision : Decision) (dot : Dot) (s : Side) (columns : ℕ) (p i : Cell) (values : List Value) → length p.values ≡ columns → length i.values ≡ columns → PlacedAllBy decision columns values
      → RowGoes columns p i (result_cell dot decision (take (taken decision s p) values) s p i)
  row-goes KeepPublisher dot side.Neither columns p i values ours theirs placed = (ours, λ column is same. inl refl)
  row-goes KeepPublisher dot side.Publisher columns p i values ours theirs placed = (ours, λ column is same. inl refl)
  row-goes KeepPublisher dot side.Incoming columns p i values ours theirs placed = (theirs, λ column is same. inr refl)
  row-goes KeepPublisher dot side.Both columns p i values ours theirs placed = (ours, λ column is same. inl refl)
  row-goes TakeSubscriber dot side.Neither columns p i values ours theirs placed = (ours, λ column is same. inl refl)
  row-goes TakeSubscriber dot side.Publisher columns p i values ours theirs placed = (ours, λ column is same. inl refl)
  row-goes TakeSubscriber dot side.Incoming columns p i values ours theirs placed = (theirs, λ column is same. inr refl)
  row-goes TakeSubscriber dot side.Both columns p i values ours theirs placed = (theirs, λ column is same. inr refl)
  row-goes (Custom more) dot side.Neither columns p i values ours theirs placed = (ours, λ column is same. inl refl)
  row-goes (Custom more) dot side.Publisher columns p i values ours theirs placed = (ours, λ column is same. inl refl)
  row-goes (Custom more) dot side.Incoming columns p i values ours theirs placed = (theirs, λ column is same. inr refl)
  row-goes (Custom more) dot side.Both columns p i values ours theirs placed =
      let even : length values ≡ length p.values = placed.0 ∙ sym ours in
      subst (λ (vs : List Value). (length vs ≡ columns) × ((column : ℕ) → identity ≡ Some column → own ≡ slice_get p.values column → IsEither (slice_get vs column) (slice_get p.values column) (slice_get i.values column)))
      (sym (take_all (length p.values) values (omega (arith, even))))
      (placed.0, λ column is same. inl (own-row column p.values values (slice_get p.values column) refl even is same (placed.1 column)))

-- Lists that count have the identity column's own value.

placed-none : (identity : Option ℕ) (own : Option Value) (places : List ℕ) (values : List Value) → ((place : ℕ) (kept : Value) → identity ≡ Some place → own ≡ Some kept → ⊥) → length places ≡ length values → Placed identity own places values
placed-none identity own [] [] never even = tt
placed-none identity own [] (value ∷ values) never even = absurd (omega (arith, even))
placed-none identity own (place ∷ places) [] never even = absurd (omega (arith, even))
placed-none identity own (place ∷ places) (value ∷ values) never even = ((λ kept at is. absurd (never place kept at is)), placed-none identity own places values never (omega (arith, even)))

pub some-same : {X : Type 0} (x y : X) → Some x ≡ Some y → x ≡ y
some-same x y e = cc

own-here : (b : Bool) (own value kept : Value) → b ≡ true → own ≡ kept → (if b then own else value) ≡ kept
own-here true own value kept is same = same
own-here false own value kept is same = absurd cc

placed-own : (identity : ℕ) (own : Value) (places : List ℕ) (values : List Value) → length places ≡ length values → Placed (Some identity) (Some own) places (own_placed identity own places values)
placed-own identity own [] [] even = tt
placed-own identity own [] (value ∷ values) even = absurd (omega (arith, even))
placed-own identity own (place ∷ places) [] even = absurd (omega (arith, even))
placed-own identity own (place ∷ places) (value ∷ values) even = (
  (λ kept at is. (let same : identity ≡ place = some-same identity place at in own-here (place == identity) own value kept (grind (arith, nat_tests, same)) (some-same own kept is))),
  placed-own identity own places values (omega (arith, even)),
)

placed-columns : (identity : Option ℕ) (own : Option Value) (c : ConflictCase) (values : List Value) → c.kind ≡ kind.ByColumn → length c.cells ≡ length values → Placed identity own c.cells (with_own c identity own values)
placed-columns None own c values is even = placed-none None own c.cells values (λ place kept at same. absurd cc) even
placed-columns (Some identity) None c values is even = placed-none (Some identity) None c.cells values (λ place kept at same. absurd cc) even
placed-columns (Some identity) (Some own) c values is even =
    subst (λ (k : CaseKind). Placed (Some identity) (Some own) c.cells (with_own_value k c.cells identity own values)) (sym is) (placed-own identity own c.cells values even)

set-there : (values : List Value) (column : ℕ) (own : Value) → column < length values → slice_get (slice_set values column own) column ≡ Some own
set-there values column own within =
    let same = length-set values column own in
    slice_get-get_or (slice_set values column own) column own (omega (arith, within, same)) ∙ ap (λ (v : Value). Some v) (get_or-set_same values column own own within)

placed-set : (identity : ℕ) (own : Value) (values : List Value) → identity < length values → PlacedAll (Some identity) (Some own) (length values) (slice_set values identity own)
placed-set identity own values within = (
  length-set values identity own,
  λ column kept at is. (let same : identity ≡ column = some-same identity column at in
      subst (λ (k : ℕ). slice_get (slice_set values identity own) k ≡ Some kept) same (set-there values identity own within ∙ is)),
)

placed-row : (identity : Option ℕ) (own : Option Value) (c : ConflictCase) (values : List Value) → c.kind ≡ kind.ByRow → ((column : ℕ) (kept : Value) → identity ≡ Some column → own ≡ Some kept → column < length values) → PlacedAll identity own (length values) (with_own c identity own values)
placed-row None own c values is within = (refl, λ column kept at same. absurd cc)
placed-row (Some identity) None c values is within = (refl, λ column kept at same. absurd cc)
placed-row (Some identity) (Some own) c values is within =
    subst (λ (k : CaseKind). PlacedAll (Some identity) (Some own) (length values) (with_own_value k c.cells identity own values)) (sym is) (placed-set identity own values (within identity own refl refl))

fit-length : {A : Type 0} (fits : A → Value → Bool) (xs : List A) (values : List Value) → fit_all fits xs values ≡ true → length xs ≡ length values
fit-length fits [] [] fit = refl
fit-length fits [] (value ∷ values) fit = absurd cc
fit-length fits (x ∷ xs) [] fit = absurd cc
fit-length fits (x ∷ xs) (value ∷ values) fit = (let rest = fit-length fits xs values (grind (arith, fit)) in omega (arith, rest))

pub by-tests : (P : Decision → Type 0) (fit within : Bool) (kept : List Value) → P KeepPublisher → (fit ≡ true → P (Custom kept)) → P (if fit then within_or_kept within kept else KeepPublisher)
by-tests P true true kept keep custom = custom refl
by-tests P true false kept keep custom = keep
by-tests P false within kept keep custom = keep

-- Two live bodies of one row.
module _ (meeting : Meeting) (resolver : ℕ) (decides : Option ℕ) (types : List ColumnType) (identity : Option ℕ) where
  abbrev pub asked_by : Tracking → Asked
  asked_by tr = record { tracking = tr; resolver = resolver; column = decides; types = types; identity = identity }

  abbrev pub own_of : Tracking → List Cell → Option Value
  own_of tr ours = body_value (tracking_kind tr) (Live ours) identity

  abbrev pub places_of : List Side → List ℕ
  places_of ss = filter_map both_place (enumerate_from 0 ss)

  abbrev pub KeepsOwn : Tracking → List Cell → List Side → Decision → Type 0
  KeepsOwn tracking.Row ours ss decision = PlacedAllBy identity (own_of tracking.Row ours) decision (length types) (decided decision)
  KeepsOwn tracking.ByColumn ours ss decision = PlacedBy identity (own_of tracking.ByColumn ours) decision (places_of ss) (decided decision)

  pub keep-own : (tr : Tracking) (ours : List Cell) (ss : List Side) → KeepsOwn tr ours ss KeepPublisher
  keep-own tracking.Row ours ss = tt
  keep-own tracking.ByColumn ours ss = tt

  take-own : (tr : Tracking) (ours : List Cell) (ss : List Side) → KeepsOwn tr ours ss TakeSubscriber
  take-own tracking.Row ours ss = tt
  take-own tracking.ByColumn ours ss = tt

  own-within : (column : ℕ) (cell : Cell) (found : Option ℕ) (kept : Value) → found ≡ Some column → body_value kind.ByRow (Live (cell ∷ [])) found ≡ Some kept → column < length cell.values
  own-within column cell None kept at is = absurd cc
  own-within column cell (Some place) kept at is = (let same : place ≡ column = some-same place column at in subst (λ (k : ℕ). k < length cell.values) same (slice_get_within cell.values place kept is))

  list-own : (tr : Tracking) (ours theirs : List Cell) (ss : List Side) (values : List Value) → HasColumns tr (length types) ours → KeepsOwn tr ours ss (decision_for_question (question_asked meeting (asked_by tr) (Live ours) (Live theirs) (case.Conflict ss)) (Custom values))
  list-own tracking.Row (p ∷ []) theirs ss values columns =
      let c : ConflictCase = case_asked meeting (asked_by tracking.Row) (Live (p ∷ [])) (Live theirs) (case.Conflict ss) in
      let kept : List Value = with_own c identity (own_of tracking.Row (p ∷ [])) values in
      by-tests (KeepsOwn tracking.Row (p ∷ []) ss) (fit_columns kind.ByRow types c.cells values) (is_within ss (p ∷ []) theirs kept) kept tt
      (λ fit. (let even : length types ≡ length values = fit-length fits_column types values fit in
      subst (λ (n : ℕ). PlacedAll identity (own_of tracking.Row (p ∷ [])) n kept) (sym even)
      (placed-row identity (own_of tracking.Row (p ∷ [])) c values refl (λ column v at is. (let low = own-within column p identity v at is in omega (arith, low, even, columns))))))
  list-own tracking.Row [] theirs ss values columns = absurd columns
  list-own tracking.Row (p ∷ q ∷ ours) theirs ss values columns = absurd columns
  list-own tracking.ByColumn ours theirs ss values columns =
      let c : ConflictCase = case_asked meeting (asked_by tracking.ByColumn) (Live ours) (Live theirs) (case.Conflict ss) in
      let kept : List Value = with_own c identity (own_of tracking.ByColumn ours) values in
      by-tests (KeepsOwn tracking.ByColumn ours ss) (fit_columns kind.ByColumn types c.cells values) (is_within ss ours theirs kept) kept tt
      (λ fit. placed-columns identity (own_of tracking.ByColumn ours) c values refl (fit-length (fits_place types) c.cells values fit))

  pub counted-own : (tr : Tracking) (ours theirs : List Cell) (ss : List Side) (decision : Decision) → HasColumns tr (length types) ours → KeepsOwn tr ours ss (decision_for_question (question_asked meeting (asked_by tr) (Live ours) (Live theirs) (case.Conflict ss)) decision)
  counted-own tr ours theirs ss KeepPublisher columns = keep-own tr ours ss
  counted-own tr ours theirs ss TakeSubscriber columns = take-own tr ours ss
  counted-own tr ours theirs ss (Custom values) columns = list-own tr ours theirs ss values columns

  -- What a merge of them leaves.
  module _ (here there : Knowing) (dot : Dot) where
    abbrev pub Merged : Tracking → List Cell → List Cell → List Cell → Type 0
    Merged tr ours theirs cells = HasColumns tr (length types) cells × ((column : ℕ) → identity ≡ Some column → IsEither (value_at cells column) (value_at ours column) (value_at theirs column))

    own-at : (tr : Tracking) (ours : List Cell) (column : ℕ) → identity ≡ Some column → own_of tr ours ≡ value_in (tracking_kind tr) ours column
    own-at tr ours column is = ap (λ (found : Option ℕ). body_value (tracking_kind tr) (Live ours) found) is

    pub cells-merged : (tr : Tracking) (long : Bool) (decision : Decision) (ours theirs : List Cell) → HasColumns tr (length types) ours → HasColumns tr (length types) theirs → KeepsOwn tr ours (map (side_of long here there) (zip ours theirs)) decision
        → Merged tr ours theirs (result_cells dot decision (decided decision) (map (side_of long here there) (zip ours theirs)) ours theirs)
    cells-merged tracking.Row long decision (p ∷ []) (i ∷ []) one other own =
        let s : Side = side_of long here there (p, i) in
        let cell : Cell = result_cell dot decision (take (taken decision s p) (decided decision)) s p i in
        let goes = row-goes identity (own_of tracking.Row (p ∷ [])) decision dot s (length types) p i (decided decision) one other own in (
          goes.0,
          λ column is. either-same (value_at (cell ∷ []) column) (slice_get cell.values column) (value_at (p ∷ []) column) (slice_get p.values column) (value_at (i ∷ []) column) (slice_get i.values column)
              (row-value cell column) (row-value p column) (row-value i column) (goes.1 column is (own-at tracking.Row (p ∷ []) column is)),
        )
    cells-merged tracking.Row long decision [] theirs one other own = absurd one
    cells-merged tracking.Row long decision (p ∷ q ∷ ours) theirs one other own = absurd one
    cells-merged tracking.Row long decision (p ∷ []) [] one other own = absurd other
    cells-merged tracking.Row long decision (p ∷ []) (i ∷ j ∷ theirs) one other own = absurd other
    cells-merged tracking.ByColumn long decision ours theirs one other own =
        let even : length ours ≡ length theirs = one.0 ∙ sym other.0 in
        let left = columns-left identity (own_of tracking.ByColumn ours) here there long decision dot 0 ours theirs (decided decision) even one.1 other.1 own in (
          (left.0 ∙ one.0, left.1),
          λ column is. column-kept identity (own_of tracking.ByColumn ours) here there long decision dot 0 column column ours theirs (decided decision) (omega arith) is (own-at tracking.ByColumn ours column is) even one.1 other.1 own,
        )
