-- The values of a row that fit their places: what changes and merges leave of them.
use Rattle.std.specs.List.{AllByRecursion, cons_option, enumerate_from, list_any}
use Rattle.std.specs.Prelude.{Bool, List, None, Option, Some, [], drop, false, filter_map, if◌then◌else◌, length, map, refl, slice_get, slice_set, suc, take, true, unwrap_or, zero, ℕ, ◌+◌, ◌==◌, ◌≡◌, ◌∷◌}
use Rattle.std.proofs.Common.{ap, arith, inl, inr, subst, sym, ◌∙◌}
use Rattle.std.proofs.lemmas.Bool.Decides.{nat_tests}
use Rattle.merge_types.specs.declared.changes.Setting.{Setting}
use Rattle.merge_types.specs.declared.changes.Tracking.{Tracking}
use Rattle.merge_types.specs.declared.changes.Tracking.TheVariants as tracking
use Rattle.merge_types.specs.declared.identifiers.Dot.{Dot}
use Rattle.merge_types.specs.declared.values.ColumnType.{ColumnType}
use Rattle.merge_types.specs.declared.values.Value.{Value}
use Rattle.merge_types.specs.Fitting.{fits_column}
use Rattle.merge_units.specs.Cases.{bodies_case, is_both, is_conflict, news_case, sides_of}
use Rattle.merge_units.specs.Changes.{cell_after, cells_after, new_cell, new_cells, set_value, value_after}
use Rattle.merge_units.specs.Results.{case_body, decided, result_cell, result_cells, taken, winner_body}
use Rattle.merge_units.specs.Version.{Knowing}
use Rattle.merge_units.specs.declared.case.Case.{Case}
use Rattle.merge_units.specs.declared.case.Case.TheVariants as case
use Rattle.merge_units.specs.declared.case.Side.{Side}
use Rattle.merge_units.specs.declared.case.Side.TheVariants as side
use Rattle.merge_units.specs.declared.result.Decision.{Decision}
use Rattle.merge_units.specs.declared.result.Decision.TheVariants.{Custom, KeepPublisher, TakeSubscriber}
use Rattle.merge_units.specs.declared.version.Body.{Body}
use Rattle.merge_units.specs.declared.version.Body.TheVariants.{Dead, Live}
use Rattle.merge_units.specs.declared.version.Cell.{Cell}
use Rattle.merge_resolve.specs.Columns.{body_value, cell_value}
use Rattle.merge_resolve.specs.Counted.{fit_all, fit_columns, fits_place, is_within, own_placed, with_own, with_own_value, within_or_kept}
use Rattle.merge_resolve.specs.Questions.{Asked, both_place, case_asked, decision_for_question, question_asked}
use Rattle.merge_resolve.specs.declared.case.CaseKind.{CaseKind}
use Rattle.merge_resolve.specs.declared.case.CaseKind.TheVariants as kind
use Rattle.merge_resolve.specs.declared.case.ConflictCase.{ConflictCase}
use Rattle.merge_resolve.specs.declared.question.Meeting.{Meeting}
use Rattle.merge_owed.proofs.BodyValues.{IsCounted}
use Rattle.merge_owed.proofs.CellValues.{HasColumns, HaveOne, asked_by, by-tests}

-- The values from a place on, and the cells from one on.
module _ (fits : ℕ → Value → Bool) where
  abbrev pub ValuesFrom : ℕ → List Value → Type 0
  ValuesFrom n [] = Unit {0}
  ValuesFrom n (value ∷ values) = (fits n value ≡ true) × ValuesFrom (n + 1) values

  abbrev pub AllAt : ℕ → List Value → Type 0
  AllAt n values = AllByRecursion (λ (value : Value). fits n value ≡ true) values

  abbrev pub CellsFrom : ℕ → List Cell → Type 0
  CellsFrom n [] = Unit {0}
  CellsFrom n (cell ∷ cells) = AllAt n cell.values × CellsFrom (n + 1) cells

  -- with row tracking the one cell has the values of all places, else each place has its own
  abbrev pub CellsTyped : Tracking → List Cell → Type 0
  CellsTyped tracking.Row [] = Unit {0}
  CellsTyped tracking.Row (cell ∷ cells) = ValuesFrom 0 cell.values
  CellsTyped tracking.ByColumn cells = CellsFrom 0 cells

  abbrev pub BodyTyped : Tracking → Body → Type 0
  BodyTyped tr (Live cells) = CellsTyped tr cells
  BodyTyped tr (Dead top) = Unit {0}

  -- Decided values.
  abbrev pub FitBy : Decision → List ℕ → List Value → Type 0
  FitBy (Custom more) places values = fit_all fits places values ≡ true
  FitBy decision places values = Unit {0}

  abbrev pub FitRowBy : Decision → List Value → Type 0
  FitRowBy (Custom more) values = ValuesFrom 0 values
  FitRowBy decision values = Unit {0}

  taken-typed : (n k : ℕ) (values : List Value) → ValuesFrom n values → ValuesFrom n (take k values)
  taken-typed n zero [] typed = tt
  taken-typed n zero (value ∷ values) typed = tt
  taken-typed n (suc k) [] typed = tt
  taken-typed n (suc k) (value ∷ values) typed = (typed.0, taken-typed (n + 1) k values typed.1)

  -- With column tracking: one pair of cells.
  abbrev Goes : Decision → Dot → Side → ℕ → List ℕ → Cell → Cell → List Value → Type 0
  Goes decision dot s n places p i values = AllAt n (result_cell dot decision (take (taken decision s p) values) s p i).values × FitBy decision places (drop (taken decision s p) values)

  decided-goes : (count n : ℕ) (places : List ℕ) (value : Value) (values : List Value) → count ≡ 1 → fit_all fits (n ∷ places) (value ∷ values) ≡ true
      → AllAt n (take count (value ∷ values)) × (fit_all fits places (drop count (value ∷ values)) ≡ true)
  decided-goes count n places value values one fit =
      let first : fits n value ≡ true = grind (arith, fit) in
      let rest : fit_all fits places values ≡ true = grind (arith, fit) in
      subst (λ (k : ℕ). AllAt n (take k (value ∷ values)) × (fit_all fits places (drop k (value ∷ values)) ≡ true)) (sym one) ((first, tt), rest)

  both-goes : (more : List Value) (dot : Dot) (n : ℕ) (places : List ℕ) (p i : Cell) (values : List Value) → length p.values ≡ 1 → fit_all fits (n ∷ places) values ≡ true → Goes (Custom more) dot side.Both n places p i values
  both-goes more dot n places p i [] one fit = absurd cc
  both-goes more dot n places p i (value ∷ values) one fit = decided-goes (length p.values) n places value values one fit

  step-goes : (decision : Decision) (dot : Dot) (s : Side) (n : ℕ) (places : List ℕ) (p i : Cell) (values : List Value) → length p.values ≡ 1 → AllAt n p.values → AllAt n i.values → FitBy decision (cons_option (both_place (n, s)) places) values
      → Goes decision dot s n places p i values
  step-goes KeepPublisher dot side.Neither n places p i values one ours theirs fit = (ours, tt)
  step-goes KeepPublisher dot side.Publisher n places p i values one ours theirs fit = (ours, tt)
  step-goes KeepPublisher dot side.Incoming n places p i values one ours theirs fit = (theirs, tt)
  step-goes KeepPublisher dot side.Both n places p i values one ours theirs fit = (ours, tt)
  step-goes TakeSubscriber dot side.Neither n places p i values one ours theirs fit = (ours, tt)
  step-goes TakeSubscriber dot side.Publisher n places p i values one ours theirs fit = (ours, tt)
  step-goes TakeSubscriber dot side.Incoming n places p i values one ours theirs fit = (theirs, tt)
  step-goes TakeSubscriber dot side.Both n places p i values one ours theirs fit = (theirs, tt)
  step-goes (Custom more) dot side.Neither n places p i values one ours theirs fit = (ours, fit)
  step-goes (Custom more) dot side.Publisher n places p i values one ours theirs fit = (ours, fit)
  step-goes (Custom more) dot side.Incoming n places p i values one ours theirs fit = (theirs, fit)
  step-goes (Custom more) dot side.Both n places p i values one ours theirs fit = both-goes more dot n places p i values one fit

  columns-typed : (decision : Decision) (dot : Dot) (n : ℕ) (ss : List Side) (ours theirs : List Cell) (values : List Value) → HaveOne ours → CellsFrom n ours → CellsFrom n theirs → FitBy decision (filter_map both_place (enumerate_from n ss)) values
      → CellsFrom n (result_cells dot decision values ss ours theirs)
  columns-typed decision dot n [] ours theirs values ones one other fit = tt
  columns-typed decision dot n (s ∷ ss) [] theirs values ones one other fit = tt
  columns-typed decision dot n (s ∷ ss) (p ∷ ours) [] values ones one other fit = tt
  columns-typed decision dot n (s ∷ ss) (p ∷ ours) (i ∷ theirs) values ones one other fit =
      let step = step-goes decision dot s n (filter_map both_place (enumerate_from (n + 1) ss)) p i values ones.0 one.0 other.0 fit in
      (step.0, columns-typed decision dot (n + 1) ss ours theirs (drop (taken decision s p) values) ones.1 one.1 other.1 step.1)

  -- With row tracking there is one pair.
  row-typed : (decision : Decision) (dot : Dot) (s : Side) (p i : Cell) (values : List Value) → ValuesFrom 0 p.values → ValuesFrom 0 i.values → FitRowBy decision values → ValuesFrom 0 (result_cell dot decision (take (taken decision s p) values) s p i).values
  row-typed KeepPublisher dot side.Neither p i values one other fit = one
  row-typed KeepPublisher dot side.Publisher p i values one other fit = one
  row-typed KeepPublisher dot side.Incoming p i values one other fit = other
  row-typed KeepPublisher dot side.Both p i values one other fit = one
  row-typed TakeSubscriber dot side.Neither p i values one other fit = one
  row-typed TakeSubscriber dot side.Publisher p i values one other fit = one
  row-typed TakeSubscriber dot side.Incoming p i values one other fit = other
  row-typed TakeSubscriber dot side.Both p i values one other fit = other
  row-typed (Custom more) dot side.Neither p i values one other fit = one
  row-typed (Custom more) dot side.Publisher p i values one other fit = one
  row-typed (Custom more) dot side.Incoming p i values one other fit = other
  row-typed (Custom more) dot side.Both p i values one other fit = taken-typed 0 (length p.values) values fit

  rows-typed : (decision : Decision) (dot : Dot) (ss : List Side) (ours theirs : List Cell) (values : List Value) → CellsTyped tracking.Row ours → CellsTyped tracking.Row theirs → FitRowBy decision values → CellsTyped tracking.Row (result_cells dot decision values ss ours theirs)
  rows-typed decision dot [] ours theirs values one other fit = tt
  rows-typed decision dot (s ∷ ss) [] theirs values one other fit = tt
  rows-typed decision dot (s ∷ ss) (p ∷ ours) [] values one other fit = tt
  rows-typed decision dot (s ∷ ss) (p ∷ ours) (i ∷ theirs) values one other fit = row-typed decision dot s p i values one other fit

  -- The identity column's own value.
  at-place : (n k : ℕ) (cells : List Cell) (own : Value) → CellsFrom n cells → cell_value (slice_get cells k) 0 ≡ Some own → fits (n + k) own ≡ true
  at-place n k [] own typed is = absurd cc
  at-place n zero (cell ∷ cells) own typed is = (let same : n ≡ n + 0 = omega arith in subst (λ (place : ℕ). fits place own ≡ true) same (first-at cell.values typed.0 is))
    where
      first-at : (values : List Value) → AllAt n values → slice_get values 0 ≡ Some own → fits n own ≡ true
      first-at [] all at = absurd cc
      first-at (value ∷ values) all at = (let same : value ≡ own = cc in subst (λ (v : Value). fits n v ≡ true) same all.0)
  at-place n (suc k) (cell ∷ cells) own typed is = (let same : n + 1 + k ≡ n + suc k = omega arith in subst (λ (place : ℕ). fits place own ≡ true) same (at-place (n + 1) k cells own typed.1 is))

  at-value : (n k : ℕ) (values : List Value) (own : Value) → ValuesFrom n values → slice_get values k ≡ Some own → fits (n + k) own ≡ true
  at-value n k [] own typed is = absurd cc
  at-value n zero (value ∷ values) own typed is = (let same : n ≡ n + 0 = omega arith in let here : value ≡ own = cc in subst (λ (place : ℕ). fits place own ≡ true) same (subst (λ (v : Value). fits n v ≡ true) here typed.0))
  at-value n (suc k) (value ∷ values) own typed is = (let same : n + 1 + k ≡ n + suc k = omega arith in subst (λ (place : ℕ). fits place own ≡ true) same (at-value (n + 1) k values own typed.1 is))

  -- it may stand in the place of a decided one
  own-here : (b : Bool) (place identity : ℕ) (own value : Value) → (place == identity) ≡ b → fits place value ≡ true → fits identity own ≡ true → fits place (if b then own else value) ≡ true
  own-here true place identity own value is fit own_fits = (let same : identity ≡ place = grind (arith, nat_tests, is) in subst (λ (k : ℕ). fits k own ≡ true) same own_fits)
  own-here false place identity own value is fit own_fits = fit

  own-fits : (identity : ℕ) (own : Value) (places : List ℕ) (values : List Value) → fits identity own ≡ true → fit_all fits places values ≡ true → fit_all fits places (own_placed identity own places values) ≡ true
  own-fits identity own [] values own_fits fit = refl
  own-fits identity own (place ∷ places) [] own_fits fit = absurd cc
  own-fits identity own (place ∷ places) (value ∷ values) own_fits fit =
      let first : fits place value ≡ true = grind (arith, fit) in
      let rest : fit_all fits places values ≡ true = grind (arith, fit) in
      let here = own-here (place == identity) place identity own value refl first own_fits in
      let later = own-fits identity own places values own_fits rest in
      grind (arith, here, later)

  set-typed : (n k : ℕ) (values : List Value) (own : Value) → ValuesFrom n values → fits (n + k) own ≡ true → ValuesFrom n (slice_set values k own)
  set-typed n k [] own typed fit = tt
  set-typed n zero (value ∷ values) own typed fit = (let same : n + 0 ≡ n = omega arith in subst (λ (place : ℕ). fits place own ≡ true) same fit, typed.1)
  set-typed n (suc k) (value ∷ values) own typed fit = (typed.0, set-typed (n + 1) k values own typed.1 (let same : n + suc k ≡ n + 1 + k = omega arith in subst (λ (place : ℕ). fits place own ≡ true) same fit))

  -- Changes.
  new-columns : (dot : Dot) (n : ℕ) (values : List Value) → ValuesFrom n values → CellsFrom n (new_cells tracking.ByColumn dot values)
  new-columns dot n [] typed = tt
  new-columns dot n (value ∷ values) typed = ((typed.0, tt), new-columns dot (n + 1) values typed.1)

  pub new-typed : (tr : Tracking) (dot : Dot) (values : List Value) → ValuesFrom 0 values → CellsTyped tr (new_cells tr dot values)
  new-typed tracking.Row dot values typed = typed
  new-typed tracking.ByColumn dot values typed = new-columns dot 0 values typed

  module _ (dot : Dot) (edits : List Setting) (set_fits : (place : ℕ) (value : Value) → set_value edits place ≡ Some value → fits place value ≡ true) where
    value-typed : (n : ℕ) (found : Option Value) (value : Value) → set_value edits n ≡ found → fits n value ≡ true → fits n (unwrap_or found value) ≡ true
    value-typed n None value is fit = fit
    value-typed n (Some other) value is fit = set_fits n other is

    values-typed : (n : ℕ) (values : List Value) → ValuesFrom n values → ValuesFrom n (map (value_after edits) (enumerate_from n values))
    values-typed n [] typed = tt
    values-typed n (value ∷ values) typed = (value-typed n (set_value edits n) value refl typed.0, values-typed (n + 1) values typed.1)

    cell-typed : (n : ℕ) (found : Option Value) (cell : Cell) → set_value edits n ≡ found → AllAt n cell.values → AllAt n (new_cell dot found cell).values
    cell-typed n None cell is all = all
    cell-typed n (Some value) cell is all = (set_fits n value is, tt)

    columns-after : (n : ℕ) (cells : List Cell) → CellsFrom n cells → CellsFrom n (map (cell_after dot edits) (enumerate_from n cells))
    columns-after n [] typed = tt
    columns-after n (cell ∷ cells) typed = (cell-typed n (set_value edits n) cell refl typed.0, columns-after (n + 1) cells typed.1)

    pub after-typed : (tr : Tracking) (cells : List Cell) → CellsTyped tr cells → CellsTyped tr (cells_after tr dot edits cells)
    after-typed tracking.Row [] typed = tt
    after-typed tracking.Row (cell ∷ cells) typed = values-typed 0 cell.values typed
    after-typed tracking.ByColumn cells typed = columns-after 0 cells typed

-- the cells of a live body by its tracking
abbrev pub HasShape : Tracking → ℕ → Body → Type 0
HasShape tr columns (Live cells) = HasColumns tr columns cells
HasShape tr columns (Dead top) = Unit {0}

-- Decisions that count.

values-suffix : (f : ℕ → Option ColumnType) (fits : ℕ → Value → Bool) (n : ℕ) (types : List ColumnType) (values : List Value) → ((place : ℕ) (ty : ColumnType) (value : Value) → f place ≡ Some ty → fits place value ≡ fits_column ty value)
    → ((k : ℕ) → slice_get types k ≡ f (n + k)) → fit_all fits_column types values ≡ true → ValuesFrom fits n values
values-suffix f fits n [] [] same at fit = tt
values-suffix f fits n [] (value ∷ values) same at fit = absurd cc
values-suffix f fits n (ty ∷ types) [] same at fit = tt
values-suffix f fits n (ty ∷ types) (value ∷ values) same at fit =
    let first : fits_column ty value ≡ true = grind (arith, fit) in
    let rest : fit_all fits_column types values ≡ true = grind (arith, fit) in
    let here : f n ≡ Some ty = (let place : n + 0 ≡ n = omega arith in ap f (sym place) ∙ sym (at 0)) in
    (same n ty value here ∙ first, values-suffix f fits (n + 1) types values same (λ k. at (suc k) ∙ ap f (let place : n + suc k ≡ n + 1 + k = omega arith in place)) rest)

place-of : (found : Option ColumnType) (ty : ColumnType) (types : List ColumnType) (place : ℕ) (value : Value) → slice_get types place ≡ Some ty → fits_place types place value ≡ fits_column ty value
place-of found ty types place value is = (let at = is in grind (arith, at))

pub typed-row : (types : List ColumnType) (values : List Value) → fit_all fits_column types values ≡ true → ValuesFrom (fits_place types) 0 values
typed-row types values fit = values-suffix (λ (k : ℕ). slice_get types k) (fits_place types) 0 types values (λ place ty value is. place-of None ty types place value is) (λ k. ap (λ (place : ℕ). slice_get types place) (let same : k ≡ 0 + k = omega arith in same)) fit

module _ (meeting : Meeting) (resolver : ℕ) (decides : Option ℕ) (types : List ColumnType) (identity : Option ℕ) where
  abbrev fits : ℕ → Value → Bool
  fits = fits_place types

  abbrev places_of : List Side → List ℕ
  places_of ss = filter_map both_place (enumerate_from 0 ss)

  -- with the identity column's own value
  own-row : (found : Option ℕ) (own : Option Value) (cell : Cell) (c : ConflictCase) (values : List Value) → c.kind ≡ kind.ByRow → body_value kind.ByRow (Live (cell ∷ [])) found ≡ own → ValuesFrom fits 0 cell.values → ValuesFrom fits 0 values → ValuesFrom fits 0 (with_own c found own values)
  own-row None own cell c values is at typed fit = fit
  own-row (Some place) None cell c values is at typed fit = fit
  own-row (Some place) (Some own) cell c values is at typed fit =
      subst (λ (k : CaseKind). ValuesFrom fits 0 (with_own_value k c.cells place own values)) (sym is)
      (set-typed fits 0 place values own fit (at-value fits 0 place cell.values own typed at))

  own-columns : (found : Option ℕ) (own : Option Value) (cells : List Cell) (c : ConflictCase) (values : List Value) → c.kind ≡ kind.ByColumn → body_value kind.ByColumn (Live cells) found ≡ own → CellsFrom fits 0 cells → fit_all fits c.cells values ≡ true → fit_all fits c.cells (with_own c found own values) ≡ true
  own-columns None own cells c values is at typed fit = fit
  own-columns (Some place) None cells c values is at typed fit = fit
  own-columns (Some place) (Some own) cells c values is at typed fit =
      subst (λ (k : CaseKind). fit_all fits c.cells (with_own_value k c.cells place own values) ≡ true) (sym is)
      (own-fits fits place own c.cells values (let same : 0 + place ≡ place = omega arith in subst (λ (k : ℕ). fits k own ≡ true) same (at-place fits 0 place cells own typed at)) fit)

  abbrev FitsDecided : Tracking → List Side → Decision → Type 0
  FitsDecided tracking.Row ss decision = FitRowBy fits decision (decided decision)
  FitsDecided tracking.ByColumn ss decision = FitBy fits decision (places_of ss) (decided decision)

  keep-fits : (tr : Tracking) (ss : List Side) → FitsDecided tr ss KeepPublisher
  keep-fits tracking.Row ss = tt
  keep-fits tracking.ByColumn ss = tt

  take-fits : (tr : Tracking) (ss : List Side) → FitsDecided tr ss TakeSubscriber
  take-fits tracking.Row ss = tt
  take-fits tracking.ByColumn ss = tt

  list-fits : (tr : Tracking) (ours theirs : List Cell) (ss : List Side) (values : List Value) → HasColumns tr (length types) ours → CellsTyped fits tr ours
      → FitsDecided tr ss (decision_for_question (question_asked meeting (asked_by meeting resolver decides types identity tr) (Live ours) (Live theirs) (case.Conflict ss)) (Custom values))
  list-fits tracking.Row (p ∷ []) theirs ss values columns typed =
      let asked : Asked = asked_by meeting resolver decides types identity tracking.Row in
      let c : ConflictCase = case_asked meeting asked (Live (p ∷ [])) (Live theirs) (case.Conflict ss) in
      let own : Option Value = body_value kind.ByRow (Live (p ∷ [])) identity in
      let kept : List Value = with_own c identity own values in
      by-tests (FitsDecided tracking.Row ss) (fit_columns kind.ByRow types c.cells values) (is_within ss (p ∷ []) theirs kept) kept tt
      (λ fit. own-row identity own p c values refl refl typed (typed-row types values fit))
  list-fits tracking.Row [] theirs ss values columns typed = absurd columns
  list-fits tracking.Row (p ∷ q ∷ ours) theirs ss values columns typed = absurd columns
  list-fits tracking.ByColumn ours theirs ss values columns typed =
      let asked : Asked = asked_by meeting resolver decides types identity tracking.ByColumn in
      let c : ConflictCase = case_asked meeting asked (Live ours) (Live theirs) (case.Conflict ss) in
      let own : Option Value = body_value kind.ByColumn (Live ours) identity in
      let kept : List Value = with_own c identity own values in
      by-tests (FitsDecided tracking.ByColumn ss) (fit_columns kind.ByColumn types c.cells values) (is_within ss ours theirs kept) kept tt
      (λ fit. own-columns identity own ours c values refl refl typed fit)

  counted-fits : (tr : Tracking) (ours theirs : List Cell) (ss : List Side) (decision : Decision) → HasColumns tr (length types) ours → CellsTyped fits tr ours
      → FitsDecided tr ss (decision_for_question (question_asked meeting (asked_by meeting resolver decides types identity tr) (Live ours) (Live theirs) (case.Conflict ss)) decision)
  counted-fits tr ours theirs ss KeepPublisher columns typed = keep-fits tr ss
  counted-fits tr ours theirs ss TakeSubscriber columns typed = take-fits tr ss
  counted-fits tr ours theirs ss (Custom values) columns typed = list-fits tr ours theirs ss values columns typed

  -- Merges.
  module _ (tr : Tracking) (here there : Knowing) (dot : Dot) where
    abbrev asked : Asked
    asked = asked_by meeting resolver decides types identity tr

    abbrev Fits : Body → Type 0
    Fits body = BodyTyped fits tr body

    abbrev Shaped : Body → Type 0
    Shaped body = HasShape tr (length types) body

    results-by : (tracked : Tracking) (decision : Decision) (ss : List Side) (ours theirs : List Cell) → HasColumns tracked (length types) ours → CellsTyped fits tracked ours → CellsTyped fits tracked theirs → FitsDecided tracked ss decision
        → CellsTyped fits tracked (result_cells dot decision (decided decision) ss ours theirs)
    results-by tracking.Row decision ss ours theirs columns one other fit = rows-typed fits decision dot ss ours theirs (decided decision) one other fit
    results-by tracking.ByColumn decision ss ours theirs columns one other fit = columns-typed fits decision dot 0 ss ours theirs (decided decision) columns.1 one other fit

    decided-fits : (ours theirs : List Cell) (ss : List Side) (decision : Decision) → HasColumns tr (length types) ours → CellsTyped fits tr ours → IsCounted meeting asked (case.Conflict ss) (Live ours) (Live theirs) decision → FitsDecided tr ss decision
    decided-fits ours theirs ss decision columns typed (inl is) = subst (FitsDecided tr ss) (sym is) (keep-fits tr ss)
    decided-fits ours theirs ss decision columns typed (inr counts) = subst (FitsDecided tr ss) (sym counts.1) (counted-fits tr ours theirs ss counts.0 columns typed)

    live-typed : (decision : Decision) (ours theirs : List Cell) (any : Bool)
        → (let c : Case = if any then case.Conflict (sides_of here there ours theirs) else case.Merge (sides_of here there ours theirs) in
        (is_conflict c ≡ false → decision ≡ KeepPublisher) → IsCounted meeting asked c (Live ours) (Live theirs) decision → HasColumns tr (length types) ours → CellsTyped fits tr ours → CellsTyped fits tr theirs → Fits (case_body dot decision c (Live ours) (Live theirs)))
    live-typed decision ours theirs true keeps counts columns one other = results-by tr decision (sides_of here there ours theirs) ours theirs columns one other (decided-fits ours theirs (sides_of here there ours theirs) decision columns one counts)
    live-typed decision ours theirs false keeps counts columns one other =
        results-by tr decision (sides_of here there ours theirs) ours theirs columns one other (subst (FitsDecided tr (sides_of here there ours theirs)) (sym (keeps refl)) (keep-fits tr (sides_of here there ours theirs)))

    winner-typed : (decision : Decision) (ours theirs : Body) → Fits ours → Fits theirs → Fits (winner_body decision ours theirs)
    winner-typed KeepPublisher ours theirs one other = one
    winner-typed TakeSubscriber ours theirs one other = other
    winner-typed (Custom values) ours theirs one other = one

    both-typed : (decision : Decision) (ours theirs : Body) → (is_conflict (bodies_case here there ours theirs) ≡ false → decision ≡ KeepPublisher) → IsCounted meeting asked (bodies_case here there ours theirs) ours theirs decision
        → Shaped ours → Fits ours → Fits theirs → Fits (case_body dot decision (bodies_case here there ours theirs) ours theirs)
    both-typed decision (Live ours) (Live theirs) keeps counts shaped one other = live-typed decision ours theirs (list_any is_both (sides_of here there ours theirs)) keeps counts shaped one other
    both-typed decision (Live ours) (Dead y) keeps counts shaped one other = winner-typed decision (Live ours) (Dead y) one other
    both-typed decision (Dead x) (Live theirs) keeps counts shaped one other = winner-typed decision (Dead x) (Live theirs) one other
    both-typed decision (Dead x) (Dead y) keeps counts shaped one other = tt

    pub case-typed : (decision : Decision) (a b : Bool) (ours theirs : Body)
        → (let c : Case = news_case a b (bodies_case here there ours theirs) in
        (is_conflict c ≡ false → decision ≡ KeepPublisher) → IsCounted meeting asked c ours theirs decision → Shaped ours → Fits ours → Fits theirs → Fits (case_body dot decision c ours theirs))
    case-typed decision false false ours theirs keeps counts shaped one other = one
    case-typed decision true false ours theirs keeps counts shaped one other = one
    case-typed decision false true ours theirs keeps counts shaped one other = other
    case-typed decision true true ours theirs keeps counts shaped one other = both-typed decision ours theirs keeps counts shaped one other
