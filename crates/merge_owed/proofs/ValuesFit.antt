-- The values of cells by what made them: what changes and merges leave of a register of these.
use Rattle.std.specs.List.{AllByRecursion, enumerate_from, list_any}
use Rattle.std.specs.Prelude.{Bool, List, None, Option, Some, [], drop, false, if◌then◌else◌, map, refl, suc, take, true, zero, ℕ, ◌+◌, ◌≡◌, ◌∷◌, ◌⊎◌}
use Rattle.std.proofs.Common.{ap, arith, inl, inr, sym, ◌∙◌}
use Rattle.merge_types.specs.declared.changes.Setting.{Setting}
use Rattle.merge_types.specs.declared.changes.Tracking.{Tracking}
use Rattle.merge_types.specs.declared.changes.Tracking.TheVariants as tracking
use Rattle.merge_types.specs.declared.identifiers.Dot.{Dot}
use Rattle.merge_types.specs.declared.row_key.RowKey.{RowKey as Key}
use Rattle.merge_types.specs.declared.values.Value.{Value}
use Rattle.merge_units.specs.Cases.{bodies_case, is_both, news_case, sides_of}
use Rattle.merge_units.specs.Changes.{cell_after, cells_after, new_cell, new_cells, set_value, whole_row_after}
use Rattle.merge_units.specs.Results.{case_body, decided, result_cell, result_cells, taken}
use Rattle.merge_units.specs.Version.{Knowing, cells_of, tops_of}
use Rattle.merge_units.specs.declared.case.Case.{Case}
use Rattle.merge_units.specs.declared.case.Case.TheVariants as case
use Rattle.merge_units.specs.declared.case.Side.{Side}
use Rattle.merge_units.specs.declared.case.Side.TheVariants as side
use Rattle.merge_units.specs.declared.result.Decision.{Decision}
use Rattle.merge_units.specs.declared.result.Decision.TheVariants.{Custom, KeepPublisher, TakeSubscriber}
use Rattle.merge_units.specs.declared.version.Body.{Body}
use Rattle.merge_units.specs.declared.version.Body.TheVariants.{Dead, Live}
use Rattle.merge_units.specs.declared.version.Cell.{Cell}

-- what a change made of a row's cell at a place
abbrev pub Register : Type 0
Register = Key → ℕ → Dot → List Value

-- the cells from a place on have what it says of their tops
abbrev pub CellsAre : Register → Key → ℕ → List Cell → Type 0
CellsAre f key n [] = Unit {0}
CellsAre f key n (cell ∷ cells) = (cell.values ≡ f key n cell.top) × CellsAre f key (n + 1) cells

abbrev pub BodyIs : Register → Key → Body → Type 0
BodyIs f key (Live cells) = CellsAre f key 0 cells
BodyIs f key (Dead top) = Unit {0}

abbrev pub values_at : List Cell → ℕ → List Value
values_at [] k = []
values_at (cell ∷ cells) zero = cell.values
values_at (cell ∷ cells) (suc k) = values_at cells k

-- with what later changes make
abbrev pub with_later : (Dot → Bool) → (Key → ℕ → List Value) → Register → Register
with_later later g f key n dot = if later dot then g key n else f key n dot

as-before : (b : Bool) (one other : List Value) → b ≡ false → other ≡ (if b then one else other)
as-before true one other is = absurd cc
as-before false one other is = refl

as-later : (b : Bool) (one other : List Value) → b ≡ true → one ≡ (if b then one else other)
as-later true one other is = refl
as-later false one other is = absurd cc

module _ (later : Dot → Bool) (g : Key → ℕ → List Value) (f : Register) (key : Key) where
  abbrev after : Register
  after = with_later later g f

  -- versions without a later top stay as they are
  cells-before : (n : ℕ) (cells : List Cell) → AllByRecursion (λ (top : Dot). later top ≡ false) (map (λ (cell : Cell). cell.top) cells) → CellsAre f key n cells → CellsAre after key n cells
  cells-before n [] none are = tt
  cells-before n (cell ∷ cells) none are = (are.0 ∙ as-before (later cell.top) (g key n) (f key n cell.top) none.0, cells-before (n + 1) cells none.1 are.1)

  pub body-before : (body : Body) → AllByRecursion (λ (top : Dot). later top ≡ false) (tops_of body) → BodyIs f key body → BodyIs after key body
  body-before (Live cells) none are = cells-before 0 cells none are
  body-before (Dead top) none are = tt

  -- Cells that are new, or have what is said of their tops.
  abbrev Patched : ℕ → List Cell → Type 0
  Patched n [] = Unit {0}
  Patched n (cell ∷ cells) = ((later cell.top ≡ true) ⊎ (cell.values ≡ after key n cell.top)) × Patched (n + 1) cells

  next : (n j : ℕ) → (n + 1) + j ≡ n + suc j
  next n j = omega arith

  one-patched : (n : ℕ) (cell : Cell) (cells : List Cell) → ((j : ℕ) → g key (n + j) ≡ values_at (cell ∷ cells) j) → (later cell.top ≡ true) ⊎ (cell.values ≡ after key n cell.top) → cell.values ≡ after key n cell.top
  one-patched n cell cells says (inl is) = sym (says 0) ∙ ap (g key) (let same : n + 0 ≡ n = omega arith in same) ∙ as-later (later cell.top) (g key n) (f key n cell.top) is
  one-patched n cell cells says (inr is) = is

  patched-are : (n : ℕ) (cells : List Cell) → ((j : ℕ) → g key (n + j) ≡ values_at cells j) → Patched n cells → CellsAre after key n cells
  patched-are n [] says all = tt
  patched-are n (cell ∷ cells) says all = (one-patched n cell cells says all.0, patched-are (n + 1) cells (λ j. ap (g key) (next n j) ∙ says (suc j)) all.1)

  first-place : (j : ℕ) → 0 + j ≡ j
  first-place j = omega arith

  from-first : (cells : List Cell) → ((j : ℕ) → g key j ≡ values_at cells j) → Patched 0 cells → CellsAre after key 0 cells
  from-first cells says all = patched-are 0 cells (λ j. ap (g key) (first-place j) ∙ says j) all

  module _ (dot : Dot) (is_later : later dot ≡ true) where
    -- A new row.
    column-patched : (n : ℕ) (values : List Value) → Patched n (new_cells tracking.ByColumn dot values)
    column-patched n [] = tt
    column-patched n (value ∷ values) = (inl is_later, column-patched (n + 1) values)

    new-patched : (tr : Tracking) (values : List Value) → Patched 0 (new_cells tr dot values)
    new-patched tracking.Row values = (inl is_later, tt)
    new-patched tracking.ByColumn values = column-patched 0 values

    pub inserted-is : (tr : Tracking) (values : List Value) → ((j : ℕ) → g key j ≡ values_at (new_cells tr dot values) j) → BodyIs after key (Live (new_cells tr dot values))
    inserted-is tr values says = from-first (new_cells tr dot values) says (new-patched tr values)

    -- An update.
    cell-patched : (n : ℕ) (found : Option Value) (cell : Cell) → cell.values ≡ after key n cell.top → (later (new_cell dot found cell).top ≡ true) ⊎ ((new_cell dot found cell).values ≡ after key n (new_cell dot found cell).top)
    cell-patched n None cell is = inr is
    cell-patched n (Some value) cell is = inl is_later

    columns-patched : (edits : List Setting) (n : ℕ) (cells : List Cell) → CellsAre after key n cells → Patched n (map (cell_after dot edits) (enumerate_from n cells))
    columns-patched edits n [] are = tt
    columns-patched edits n (cell ∷ cells) are = (cell-patched n (set_value edits n) cell are.0, columns-patched edits (n + 1) cells are.1)

    rows-patched : (edits : List Setting) (n : ℕ) (cells : List Cell) → Patched n (map (whole_row_after dot edits) cells)
    rows-patched edits n [] = tt
    rows-patched edits n (cell ∷ cells) = (inl is_later, rows-patched edits (n + 1) cells)

    changed-patched : (tr : Tracking) (edits : List Setting) (cells : List Cell) → CellsAre after key 0 cells → Patched 0 (cells_after tr dot edits cells)
    changed-patched tracking.Row edits cells are = rows-patched edits 0 cells
    changed-patched tracking.ByColumn edits cells are = columns-patched edits 0 cells are

    pub updated-is : (tr : Tracking) (edits : List Setting) (cells : List Cell) → ((j : ℕ) → g key j ≡ values_at (cells_after tr dot edits cells) j) → CellsAre after key 0 cells → BodyIs after key (Live (cells_after tr dot edits cells))
    updated-is tr edits cells says are = from-first (cells_after tr dot edits cells) says (changed-patched tr edits cells are)

    -- A merge.
    abbrev IsOne : ℕ → Cell → Type 0
    IsOne n cell = (later cell.top ≡ true) ⊎ (cell.values ≡ after key n cell.top)

    result-one : (n : ℕ) (decision : Decision) (values : List Value) (s : Side) (p i : Cell) → p.values ≡ after key n p.top → i.values ≡ after key n i.top → IsOne n (result_cell dot decision values s p i)
    result-one n KeepPublisher values side.Neither p i one other = inr one
    result-one n KeepPublisher values side.Publisher p i one other = inr one
    result-one n KeepPublisher values side.Incoming p i one other = inr other
    result-one n KeepPublisher values side.Both p i one other = inr one
    result-one n TakeSubscriber values side.Neither p i one other = inr one
    result-one n TakeSubscriber values side.Publisher p i one other = inr one
    result-one n TakeSubscriber values side.Incoming p i one other = inr other
    result-one n TakeSubscriber values side.Both p i one other = inr other
    result-one n (Custom more) values side.Neither p i one other = inr one
    result-one n (Custom more) values side.Publisher p i one other = inr one
    result-one n (Custom more) values side.Incoming p i one other = inr other
    result-one n (Custom more) values side.Both p i one other = inl is_later

    results-patched : (n : ℕ) (decision : Decision) (values : List Value) (ss : List Side) (ours theirs : List Cell) → CellsAre after key n ours → CellsAre after key n theirs → Patched n (result_cells dot decision values ss ours theirs)
    results-patched n decision values [] ours theirs one other = tt
    results-patched n decision values (s ∷ ss) [] theirs one other = tt
    results-patched n decision values (s ∷ ss) (p ∷ ours) [] one other = tt
    results-patched n decision values (s ∷ ss) (p ∷ ours) (i ∷ theirs) one other =
        (result-one n decision (take (taken decision s p) values) s p i one.0 other.0, results-patched (n + 1) decision (drop (taken decision s p) values) ss ours theirs one.1 other.1)

    module _ (here there : Knowing) (decision : Decision) where
      abbrev Says : Body → Type 0
      Says body = (j : ℕ) → g key j ≡ values_at (cells_of body) j

      live-is : (ours theirs : List Cell) (ss : List Side) (any : Bool) → CellsAre after key 0 ours → CellsAre after key 0 theirs
          → (let c : Case = if any then case.Conflict ss else case.Merge ss in Says (case_body dot decision c (Live ours) (Live theirs)) → BodyIs after key (case_body dot decision c (Live ours) (Live theirs)))
      live-is ours theirs ss true one other says = from-first (result_cells dot decision (decided decision) ss ours theirs) says (results-patched 0 decision (decided decision) ss ours theirs one other)
      live-is ours theirs ss false one other says = from-first (result_cells dot decision (decided decision) ss ours theirs) says (results-patched 0 decision (decided decision) ss ours theirs one other)

      life-is : (choice : Decision) (ours theirs : Body) → BodyIs after key ours → BodyIs after key theirs → BodyIs after key (case_body dot choice case.LifeConflict ours theirs)
      life-is KeepPublisher ours theirs one other = one
      life-is TakeSubscriber ours theirs one other = other
      life-is (Custom values) ours theirs one other = one

      both-is : (ours theirs : Body) → BodyIs after key ours → BodyIs after key theirs → Says (case_body dot decision (bodies_case here there ours theirs) ours theirs) → BodyIs after key (case_body dot decision (bodies_case here there ours theirs) ours theirs)
      both-is (Live ours) (Live theirs) one other says = live-is ours theirs (sides_of here there ours theirs) (list_any is_both (sides_of here there ours theirs)) one other says
      both-is (Live ours) (Dead y) one other says = life-is decision (Live ours) (Dead y) one other
      both-is (Dead x) (Live theirs) one other says = life-is decision (Dead x) (Live theirs) one other
      both-is (Dead x) (Dead y) one other says = tt

      pub case-is : (a b : Bool) (ours theirs : Body) → BodyIs after key ours → BodyIs after key theirs
          → (let c : Case = news_case a b (bodies_case here there ours theirs) in Says (case_body dot decision c ours theirs) → BodyIs after key (case_body dot decision c ours theirs))
      case-is false false ours theirs one other says = one
      case-is true false ours theirs one other says = one
      case-is false true ours theirs one other says = other
      case-is true true ours theirs one other says = both-is ours theirs one other says
