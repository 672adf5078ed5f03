-- What a merge, an insert and an update leave of a row's identity value.
use Rattle.std.specs.Prelude.{◌≡◌, ◌<◌, ◌+◌, ◌==◌, ◌⊎◌, ℕ, zero, suc, Bool, true, false, List, [], ◌∷◌, Option, Some, None, refl, if◌then◌else◌, length, map, slice_get, unwrap_or}
use Rattle.std.specs.List.{enumerate_from, list_any}
use Rattle.std.proofs.Common.{arith, subst, sym, ap, ◌∙◌, inl, inr}
use Rattle.std.proofs.lemmas.Bool.Decides.{nat_tests}
use Rattle.std.proofs.lemmas.List.{length-map}
use Rattle.std.proofs.lemmas.List.FromFn.{length-enumerate_from}
use Rattle.merge_types.specs.declared.changes.Setting.{Setting}
use Rattle.merge_types.specs.declared.changes.Tracking.{Tracking}
use Rattle.merge_types.specs.declared.changes.Tracking.TheVariants as tracking
use Rattle.merge_types.specs.declared.identifiers.Dot.{Dot}
use Rattle.merge_types.specs.declared.values.ColumnType.{ColumnType}
use Rattle.merge_types.specs.declared.values.Value.{Value}
use Rattle.merge_types.specs.declared.values.Value.TheVariants.{Null}
use Rattle.merge_units.specs.Cases.{are_long, bodies_case, is_both, is_conflict, news_case, sides_of}
use Rattle.merge_units.specs.Changes.{cell_after, cells_after, new_cell, new_cells, set_value, value_after, whole_row_after}
use Rattle.merge_units.specs.Results.{case_body, winner_body}
use Rattle.merge_units.specs.Version.{Knowing}
use Rattle.merge_units.specs.declared.case.Case.{Case}
use Rattle.merge_units.specs.declared.case.Case.TheVariants as case
use Rattle.merge_units.specs.declared.case.Side.{Side}
use Rattle.merge_units.specs.declared.result.Decision.{Decision}
use Rattle.merge_units.specs.declared.result.Decision.TheVariants.{Custom, KeepPublisher, TakeSubscriber}
use Rattle.merge_units.specs.declared.version.Body.{Body}
use Rattle.merge_units.specs.declared.version.Body.TheVariants.{Dead, Live}
use Rattle.merge_units.specs.declared.version.Cell.{Cell}
use Rattle.merge_resolve.specs.Questions.{Asked, decision_for_question, question_asked}
use Rattle.merge_resolve.specs.declared.question.Meeting.{Meeting}
use Rattle.merge_batch.specs.Articles.{row_values}
use Rattle.merge_batch.specs.LocalChanges.{new_value}
use Rattle.merge_owed.proofs.CellValues.{HasColumns, HaveOne, IsEither, KeepsOwn, asked_by, cells-merged, counted-own, first-value, keep-own, later-value, row-value, value_at}

-- a decision of a conflict that counts: some decision on its question does as this one
abbrev pub IsCounted : Meeting → Asked → Case → Body → Body → Decision → Type 0
IsCounted meeting asked case ours theirs decision = (decision ≡ KeepPublisher) ⊎ ((other : Decision) × (decision ≡ decision_for_question (question_asked meeting asked ours theirs case) other))

-- A fact of the value at the identity column.
module _ (V : Option Value → Type 0) where
  abbrev pub CellsFit : Tracking → ℕ → Option ℕ → List Cell → Type 0
  CellsFit tr columns identity cells = HasColumns tr columns cells × ((column : ℕ) → identity ≡ Some column → V (value_at cells column))

  abbrev pub BodyFits : Tracking → ℕ → Option ℕ → Body → Type 0
  BodyFits tr columns identity (Live cells) = CellsFit tr columns identity cells
  BodyFits tr columns identity (Dead top) = Unit {0}

  either-fits : (value ours theirs : Option Value) → IsEither value ours theirs → V ours → V theirs → V value
  either-fits value ours theirs (inl is) one other = subst V (sym is) one
  either-fits value ours theirs (inr is) one other = subst V (sym is) other

  -- Merges.
  module _ (meeting : Meeting) (resolver : ℕ) (decides : Option ℕ) (types : List ColumnType) (identity : Option ℕ) (tr : Tracking) (here there : Knowing) (dot : Dot) where
    abbrev asked : Asked
    asked = asked_by meeting resolver decides types identity tr

    abbrev Own : List Cell → List Side → Decision → Type 0
    Own ours ss decision = KeepsOwn meeting resolver decides types identity tr ours ss decision

    decided-own : (ours theirs : List Cell) (ss : List Side) (decision : Decision) → HasColumns tr (length types) ours → IsCounted meeting asked (case.Conflict ss) (Live ours) (Live theirs) decision → Own ours ss decision
    decided-own ours theirs ss decision columns (inl is) = subst (Own ours ss) (sym is) (keep-own meeting resolver decides types identity tr ours ss)
    decided-own ours theirs ss decision columns (inr counts) = subst (Own ours ss) (sym counts.1) (counted-own meeting resolver decides types identity tr ours theirs ss counts.0 columns)

    abbrev Fits : Body → Type 0
    Fits body = BodyFits tr (length types) identity body

    merged-fits : (decision : Decision) (ours theirs : List Cell) → Fits (Live ours) → Fits (Live theirs) → Own ours (sides_of here there ours theirs) decision → Fits (case_body dot decision (case.Merge (sides_of here there ours theirs)) (Live ours) (Live theirs))
    merged-fits decision ours theirs one other own =
        let merged = cells-merged meeting resolver decides types identity here there dot tr (are_long ours theirs) decision ours theirs one.0 other.0 own in
        (merged.0, λ column is. either-fits _ _ _ (merged.1 column is) (one.1 column is) (other.1 column is))

    live-fits : (decision : Decision) (ours theirs : List Cell) (any : Bool)
        → (let c : Case = if any then case.Conflict (sides_of here there ours theirs) else case.Merge (sides_of here there ours theirs) in
        (is_conflict c ≡ false → decision ≡ KeepPublisher) → IsCounted meeting asked c (Live ours) (Live theirs) decision → Fits (Live ours) → Fits (Live theirs) → Fits (case_body dot decision c (Live ours) (Live theirs)))
    live-fits decision ours theirs true keeps counts one other = merged-fits decision ours theirs one other (decided-own ours theirs (sides_of here there ours theirs) decision one.0 counts)
    live-fits decision ours theirs false keeps counts one other =
        merged-fits decision ours theirs one other (subst (Own ours (sides_of here there ours theirs)) (sym (keeps refl)) (keep-own meeting resolver decides types identity tr ours (sides_of here there ours theirs)))

    winner-fits : (decision : Decision) (ours theirs : Body) → Fits ours → Fits theirs → Fits (winner_body decision ours theirs)
    winner-fits KeepPublisher ours theirs one other = one
    winner-fits TakeSubscriber ours theirs one other = other
    winner-fits (Custom values) ours theirs one other = one

    both-fit : (decision : Decision) (ours theirs : Body) → (is_conflict (bodies_case here there ours theirs) ≡ false → decision ≡ KeepPublisher) → IsCounted meeting asked (bodies_case here there ours theirs) ours theirs decision
        → Fits ours → Fits theirs → Fits (case_body dot decision (bodies_case here there ours theirs) ours theirs)
    both-fit decision (Live ours) (Live theirs) keeps counts one other = live-fits decision ours theirs (list_any is_both (sides_of here there ours theirs)) keeps counts one other
    both-fit decision (Live ours) (Dead y) keeps counts one other = winner-fits decision (Live ours) (Dead y) one other
    both-fit decision (Dead x) (Live theirs) keeps counts one other = winner-fits decision (Dead x) (Live theirs) one other
    both-fit decision (Dead x) (Dead y) keeps counts one other = tt

    pub case-fits : (decision : Decision) (a b : Bool) (ours theirs : Body)
        → (let c : Case = news_case a b (bodies_case here there ours theirs) in
        (is_conflict c ≡ false → decision ≡ KeepPublisher) → IsCounted meeting asked c ours theirs decision → Fits ours → Fits theirs → Fits (case_body dot decision c ours theirs))
    case-fits decision false false ours theirs keeps counts one other = one
    case-fits decision true false ours theirs keeps counts one other = one
    case-fits decision false true ours theirs keeps counts one other = other
    case-fits decision true true ours theirs keeps counts one other = both-fit decision ours theirs keeps counts one other

  -- Updates, which do not set the identity column.

  new-has : (dot : Dot) (found : Option Value) (cell : Cell) → length cell.values ≡ 1 → length (new_cell dot found cell).values ≡ 1
  new-has dot None cell one = one
  new-has dot (Some value) cell one = refl

  new-same : (dot : Dot) (found : Option Value) (cell : Cell) → found ≡ None → slice_get (new_cell dot found cell).values 0 ≡ slice_get cell.values 0
  new-same dot None cell none = refl
  new-same dot (Some value) cell none = absurd cc

  columns-updated : (dot : Dot) (edits : List Setting) (n : ℕ) (cells : List Cell) → HaveOne cells
      → (let after : List Cell = map (cell_after dot edits) (enumerate_from n cells) in (length after ≡ length cells) × HaveOne after)
  columns-updated dot edits n [] ones = (refl, tt)
  columns-updated dot edits n (cell ∷ cells) ones =
      let rest = columns-updated dot edits (n + 1) cells ones.1 in
      (omega (arith, rest.0), (new-has dot (set_value edits n) cell ones.0, rest.1))

  column-same : (dot : Dot) (edits : List Setting) (n k column : ℕ) (cells : List Cell) → HaveOne cells → n + k ≡ column → set_value edits column ≡ None → value_at (map (cell_after dot edits) (enumerate_from n cells)) k ≡ value_at cells k
  column-same dot edits n k column [] ones at none = refl
  column-same dot edits n zero column (cell ∷ cells) ones at none =
      let here : n ≡ column = omega (arith, at) in
      first-value (new_cell dot (set_value edits n) cell) (map (cell_after dot edits) (enumerate_from (n + 1) cells)) (new-has dot (set_value edits n) cell ones.0)
      ∙ new-same dot (set_value edits n) cell (ap (set_value edits) here ∙ none) ∙ sym (first-value cell cells ones.0)
  column-same dot edits n (suc k) column (cell ∷ cells) ones at none =
      later-value (new_cell dot (set_value edits n) cell) (map (cell_after dot edits) (enumerate_from (n + 1) cells)) k (new-has dot (set_value edits n) cell ones.0)
      ∙ column-same dot edits (n + 1) k column cells ones.1 (omega (arith, at)) none ∙ sym (later-value cell cells k ones.0)

  unset : (found : Option Value) (value : Value) → found ≡ None → Some (unwrap_or found value) ≡ Some value
  unset None value none = refl
  unset (Some other) value none = absurd cc

  value-same : (edits : List Setting) (n k column : ℕ) (values : List Value) → n + k ≡ column → set_value edits column ≡ None → slice_get (map (value_after edits) (enumerate_from n values)) k ≡ slice_get values k
  value-same edits n k column [] at none = refl
  value-same edits n zero column (value ∷ values) at none = (let here : n ≡ column = omega (arith, at) in unset (set_value edits n) value (ap (set_value edits) here ∙ none))
  value-same edits n (suc k) column (value ∷ values) at none = value-same edits (n + 1) k column values (omega (arith, at)) none

  pub updated-fits : (tr : Tracking) (columns : ℕ) (identity : Option ℕ) (dot : Dot) (edits : List Setting) (cells : List Cell) → ((column : ℕ) → identity ≡ Some column → set_value edits column ≡ None) → CellsFit tr columns identity cells
      → CellsFit tr columns identity (cells_after tr dot edits cells)
  updated-fits tracking.Row columns identity dot edits (cell ∷ []) none fits =
      let after : Cell = whole_row_after dot edits cell in (
        length-map (enumerate_from 0 cell.values) (value_after edits) ∙ length-enumerate_from 0 cell.values ∙ fits.0,
        λ column is. subst V (sym (row-value after column ∙ value-same edits 0 column column cell.values (omega arith) (none column is) ∙ sym (row-value cell column))) (fits.1 column is),
      )
  updated-fits tracking.Row columns identity dot edits [] none fits = absurd fits.0
  updated-fits tracking.Row columns identity dot edits (cell ∷ other ∷ cells) none fits = absurd fits.0
  updated-fits tracking.ByColumn columns identity dot edits cells none fits =
      let left = columns-updated dot edits 0 cells fits.0.1 in
      ((left.0 ∙ fits.0.0, left.1), λ column is. subst V (sym (column-same dot edits 0 column column cells fits.0.1 (omega arith) (none column is))) (fits.1 column is))

  -- Inserts, which have the identity value at its column.

  new-row : (dot : Dot) (values : List Value) → row_values (new_cells tracking.Row dot values) ≡ values → (column : ℕ) → value_at (new_cells tracking.Row dot values) column ≡ slice_get values column
  new-row dot values same column = ap (λ (vs : List Value). slice_get vs column) same

  new-columns : (dot : Dot) (values : List Value) → (length (new_cells tracking.ByColumn dot values) ≡ length values) × (HaveOne (new_cells tracking.ByColumn dot values) × (row_values (new_cells tracking.ByColumn dot values) ≡ values))
  new-columns dot [] = (refl, (tt, refl))
  new-columns dot (value ∷ values) =
      let rest = new-columns dot values in
      (omega (arith, rest.0), ((refl, rest.1.0), ap (λ (vs : List Value). value ∷ vs) rest.1.1))

  inserted-cells : (tr : Tracking) (columns : ℕ) (identity : Option ℕ) (dot : Dot) (values : List Value) → length values ≡ columns → ((column : ℕ) → identity ≡ Some column → V (slice_get values column)) → CellsFit tr columns identity (new_cells tr dot values)
  inserted-cells tracking.Row columns identity dot values even fits = (even, λ column is. subst V (sym (row-value (record { top = dot; values = values }) column)) (fits column is))
  inserted-cells tracking.ByColumn columns identity dot values even fits =
      let new = new-columns dot values in
      ((new.0 ∙ even, new.1.0), λ column is. subst V (sym (ap (λ (vs : List Value). slice_get vs column) new.1.1)) (fits column is))

  new-at : (g : ℕ → Value) (n k : ℕ) (types : List ColumnType) → k < length types → slice_get (map (λ (place : ℕ × ColumnType). g place.0) (enumerate_from n types)) k ≡ Some (g (n + k))
  new-at g n k [] low = absurd (omega (arith, low))
  new-at g n zero (ty ∷ types) low = ap (λ (place : ℕ). Some (g place)) (let same : n ≡ n + 0 = omega arith in same)
  new-at g n (suc k) (ty ∷ types) low = new-at g (n + 1) k types (omega (arith, low)) ∙ ap (λ (place : ℕ). Some (g place)) (let same : n + 1 + k ≡ n + suc k = omega arith in same)

  own-value : (b : Bool) (identity other : Value) → b ≡ true → (if b then identity else other) ≡ identity
  own-value true identity other is = refl
  own-value false identity other is = absurd cc

  pub inserted-fits : (tr : Tracking) (types : List ColumnType) (identity : Option ℕ) (dot : Dot) (value : Value) (settings : List Setting) → ((column : ℕ) → identity ≡ Some column → column < length types) → V (Some value)
      → CellsFit tr (length types) identity (new_cells tr dot (map (λ (place : ℕ × ColumnType). new_value identity value settings place.0) (enumerate_from 0 types)))
  inserted-fits tr types identity dot value settings within fits =
      inserted-cells tr (length types) identity dot (map (λ (place : ℕ × ColumnType). new_value identity value settings place.0) (enumerate_from 0 types))
      (length-map (enumerate_from 0 types) (λ (place : ℕ × ColumnType). new_value identity value settings place.0) ∙ length-enumerate_from 0 types)
      (λ column is. subst V (sym (new-at (new_value identity value settings) 0 column types (within column is)
      ∙ ap (λ (place : ℕ). Some (new_value identity value settings place)) (let first : 0 + column ≡ column = omega arith in first)
      ∙ ap (λ (found : Option ℕ). Some (new_value found value settings column)) is
      ∙ ap (λ (v : Value). Some v) (own-value (column == column) value (unwrap_or (set_value settings column) Null) (grind (arith, nat_tests))))) fits)
