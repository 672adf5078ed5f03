-- What a local change leaves of the chains of its row.
use Rattle.std.specs.Prelude.{◌≡◌, ◌<◌, ◌==◌, ◌||◌, ◌+◌, ℕ, zero, suc, List, [], ◌∷◌, Bool, true, false, Option, Some, None, refl, cond, find, flat_map, if◌then◌else◌, is_some, length, map, option_map}
use Rattle.std.specs.List.{AllByRecursion, AllZip, enumerate_from, list_any, range_with_len}
use Rattle.std.proofs.Common.{arith, subst, sym, ◌∙◌, inl}
use Rattle.std.proofs.lemmas.Bool.Decides.{nat_tests}
use Rattle.std.proofs.lemmas.List.Folds.{list_any-append}
use Rattle.merge_types.specs.declared.changes.Setting.{Setting}
use Rattle.merge_types.specs.declared.changes.Tracking.{Tracking}
use Rattle.merge_types.specs.declared.changes.Tracking.TheVariants as tracking
use Rattle.merge_types.specs.declared.identifiers.Dot.{Dot}
use Rattle.merge_types.specs.declared.values.ColumnType.{ColumnType}
use Rattle.merge_types.specs.declared.values.Column.{Column}
use Rattle.merge_types.specs.declared.values.Value.{Value}
use Rattle.merge_units.specs.Changes.{cell_after, cells_after, new_cell, set_value, whole_row_after}
use Rattle.merge_units.specs.declared.version.Body.TheVariants.{Dead, Live}
use Rattle.merge_units.specs.declared.version.Cell.{Cell}
use Rattle.merge_units.specs.Changes.{new_cells}
use Rattle.merge_model.specs.Tables.Keys.{same_key}
use Rattle.merge_model.specs.History.{MadeChange, OfCells, OfDead, has}
use Rattle.merge_model.specs.History.Pasts.{chain_after, set_cells}
use Rattle.merge_types.specs.declared.row_key.RowKey.{RowKey as Key}
use Rattle.merge_laws.specs.Facts.Accounts.{CellGrown, Grown, GrownAlone, is_set}
use Rattle.merge_laws.specs.Facts.Knowledge.{KnowsItsPast, same_dot}
use Rattle.merge_laws.proofs.Accounts.AccountChains.{chain_at, rooted-known, rooted-later, set-later}
use Rattle.merge_laws.proofs.Pasts.DotTests.{dots-same, dot-itself}

-- how many cells a row of an article has
abbrev pub count_by_tracking : Tracking → List Column → ℕ
count_by_tracking tr columns = elim tr [ tracking.Row ↦ 1 | tracking.ByColumn ↦ length columns ]

-- Chains by their places.

-- the chains of a new row
abbrev new_chains : Dot → ℕ → ℕ → List (List Dot)
new_chains dot from count = map (λ (place : ℕ). dot ∷ []) (range_with_len from count)

later-place : (n k : ℕ) → (n + suc k) ≡ ((n + 1) + k)
later-place n k = omega arith

pub new-at : (dot : Dot) (from n count k : ℕ) → list_any (λ (cell : ℕ). cell == (n + k)) (range_with_len n count) ≡ true → chain_at (new_chains dot from count) k ≡ dot ∷ []
new-at dot from n zero k is = absurd cc
new-at dot from n (suc count) zero is = refl
new-at dot from n (suc count) (suc k) is =
    let other : (n == (n + suc k)) ≡ false = grind (arith, nat_tests) in
    let rest : list_any (λ (cell : ℕ). cell == (n + suc k)) (range_with_len (n + 1) count) ≡ true = grind (arith, is, other) in
    new-at dot (from + 1) (n + 1) count k (subst (λ (m : ℕ). list_any (λ (cell : ℕ). cell == m) (range_with_len (n + 1) count) ≡ true) (later-place n k) rest)

-- the chains of a changed row
abbrev changed_chains : Dot → List ℕ → ℕ → List (List Dot) → List (List Dot)
changed_chains dot cells n chains = map (chain_after dot cells) (enumerate_from n chains)

pub chain-grows : (b : Bool) (dot : Dot) (chain : List Dot) (d : Dot) → has chain d ≡ true → has (if b then dot ∷ chain else chain) d ≡ true
chain-grows true dot chain d is = grind (arith, is)
chain-grows false dot chain d is = is

pub changed-keeps : (dot : Dot) (cells : List ℕ) (n : ℕ) (chains : List (List Dot)) (k : ℕ) (d : Dot) → has (chain_at chains k) d ≡ true → has (chain_at (changed_chains dot cells n chains) k) d ≡ true
changed-keeps dot cells n [] k d is = absurd cc
changed-keeps dot cells n (chain ∷ chains) zero d is = chain-grows (list_any (λ (cell : ℕ). cell == n) cells) dot chain d is
changed-keeps dot cells n (chain ∷ chains) (suc k) d is = changed-keeps dot cells (n + 1) chains k d is

chain-new : (b : Bool) (dot : Dot) (chain : List Dot) → b ≡ true → has (if b then dot ∷ chain else chain) dot ≡ true
chain-new true dot chain is = grind (arith, nat_tests)
chain-new false dot chain is = absurd cc

first-place : (n : ℕ) → n + 0 ≡ n
first-place n = omega arith

pub changed-has : (dot : Dot) (cells : List ℕ) (n : ℕ) (chains : List (List Dot)) (k : ℕ) → k < length chains → list_any (λ (cell : ℕ). cell == (n + k)) cells ≡ true → has (chain_at (changed_chains dot cells n chains) k) dot ≡ true
changed-has dot cells n [] k within is = absurd (omega (arith, within))
changed-has dot cells n (chain ∷ chains) zero within is =
    chain-new (list_any (λ (cell : ℕ). cell == n) cells) dot chain (subst (λ (m : ℕ). list_any (λ (cell : ℕ). cell == m) cells ≡ true) (first-place n) is)
changed-has dot cells n (chain ∷ chains) (suc k) within is =
    changed-has dot cells (n + 1) chains k (omega (arith, within)) (subst (λ (m : ℕ). list_any (λ (cell : ℕ). cell == m) cells ≡ true) (later-place n k) is)

changed-length : (dot : Dot) (cells : List ℕ) (n : ℕ) (chains : List (List Dot)) → length (changed_chains dot cells n chains) ≡ length chains
changed-length dot cells n [] = refl
changed-length dot cells n (chain ∷ chains) = omega (arith, changed-length dot cells (n + 1) chains)

-- all chains of a row
pub chain-in-all : (chains : List (List Dot)) (k : ℕ) (d : Dot) → has (chain_at chains k) d ≡ true → has (flat_map (λ (chain : List Dot). chain) chains) d ≡ true
chain-in-all [] k d is = absurd cc
chain-in-all (chain ∷ chains) zero d is = grind (arith, list_any-append (λ (x : Dot). same_dot x d) chain (flat_map (λ (c : List Dot). c) chains), is)
chain-in-all (chain ∷ chains) (suc k) d is = grind (arith, list_any-append (λ (x : Dot). same_dot x d) chain (flat_map (λ (c : List Dot). c) chains), chain-in-all chains k d is)

module _ (made : List MadeChange) where
  pub all-known : (cells : List Cell) (chains : List (List Dot)) (known : List Dot) → AllZip (CellGrown made) cells chains → AllByRecursion (KnowsItsPast known) made
      → AllByRecursion (λ (top : Dot). has known top ≡ true) (map (λ (cell : Cell). cell.top) cells) → (d : Dot) → has (flat_map (λ (chain : List Dot). chain) chains) d ≡ true → has known d ≡ true
  all-known [] [] known grown closed tops d is = absurd cc
  all-known [] (chain ∷ chains) known grown closed tops d is = absurd grown
  all-known (cell ∷ cells) [] known grown closed tops d is = absurd grown
  all-known (cell ∷ cells) (chain ∷ chains) known grown closed tops d is =
      let first : has chain d ≡ true → has known d ≡ true = rooted-known made cell.top chain known grown.0.rooted closed tops.0 d in
      let rest : has (flat_map (λ (c : List Dot). c) chains) d ≡ true → has known d ≡ true = all-known cells chains known grown.1 closed tops.1 d in
      grind (arith, list_any-append (λ (x : Dot). same_dot x d) chain (flat_map (λ (c : List Dot). c) chains), is, first, rest)

  pub all-set : (cells : List Cell) (chains : List (List Dot)) → AllZip (CellGrown made) cells chains → (d : Dot) → has (flat_map (λ (chain : List Dot). chain) chains) d ≡ true → is_set made d ≡ true
  all-set [] [] grown d is = absurd cc
  all-set [] (chain ∷ chains) grown d is = absurd grown
  all-set (cell ∷ cells) [] grown d is = absurd grown
  all-set (cell ∷ cells) (chain ∷ chains) grown d is =
      let first : has chain d ≡ true → is_set made d ≡ true = grown.0.set d in
      let rest : has (flat_map (λ (c : List Dot). c) chains) d ≡ true → is_set made d ≡ true = all-set cells chains grown.1 d in
      grind (arith, list_any-append (λ (x : Dot). same_dot x d) chain (flat_map (λ (c : List Dot). c) chains), is, first, rest)

-- A change more: it knows itself and what its row knew.
module _ (made : List MadeChange) (c : MadeChange) where
  -- a cell that it makes, and one that it leaves
  set-grown : (cell : Cell) (chain : List Dot) → cell.top ≡ c.dot → c.deletes ≡ false → has c.past.known c.dot ≡ true → ((d : Dot) → has chain d ≡ true → has c.past.known d ≡ true) → ((d : Dot) → has chain d ≡ true → is_set made d ≡ true)
      → CellGrown (c ∷ made) cell (c.dot ∷ chain)
  set-grown cell chain top live own knew set = record {
    rooted = inl (
      subst (λ (x : Dot). same_dot c.dot x ≡ true) (sym top) (dot-itself c.dot),
      λ d inside. new-known d (same_dot c.dot d) refl inside,
    );
    set = λ d inside. (let old : has chain d ≡ true → is_set made d ≡ true = set d in grind (arith, live, inside, old));
  }
    where
      new-known : (d : Dot) (b : Bool) → same_dot c.dot d ≡ b → has (c.dot ∷ chain) d ≡ true → has c.past.known d ≡ true
      new-known d true is inside = subst (λ (x : Dot). has c.past.known x ≡ true) (dots-same c.dot d is) own
      new-known d false is inside = knew d (grind (arith, is, inside))

  left-grown : (cell : Cell) (chain : List Dot) → CellGrown made cell chain → CellGrown (c ∷ made) cell chain
  left-grown cell chain grown = record { rooted = rooted-later c made cell.top chain grown.rooted; set = λ d inside. set-later c made d (grown.set d inside) }

  module _ (live : c.deletes ≡ false) (own : has c.past.known c.dot ≡ true) where
    -- a new row
    new-grown : (cell : Cell) → cell.top ≡ c.dot → CellGrown (c ∷ made) cell (c.dot ∷ [])
    new-grown cell top = set-grown cell [] top live own (λ d inside. absurd cc) (λ d inside. absurd cc)

    columns-grown : (f : ℕ × ColumnType → Value) (n from : ℕ) (columns : List Column)
        → AllZip (CellGrown (c ∷ made)) (map (λ (value : Value). (let cell : Cell = record { top = c.dot; values = value ∷ [] } in cell)) (map f (enumerate_from n (map (λ (column : Column). column.ty) columns)))) (new_chains c.dot from (length columns))
    columns-grown f n from [] = tt
    columns-grown f n from (column ∷ columns) = (new-grown (record { top = c.dot; values = f (n, column.ty) ∷ [] }) refl, columns-grown f (n + 1) (from + 1) columns)

    new-length : (from count : ℕ) → length (new_chains c.dot from count) ≡ count
    new-length from zero = refl
    new-length from (suc count) = omega (arith, new-length (from + 1) count)

    pub inserted-grown : (key : Key) (tr : Tracking) (f : ℕ × ColumnType → Value) (columns : List Column)
        → GrownAlone (count_by_tracking tr columns) (c ∷ made) key (Live (new_cells tr c.dot (map f (enumerate_from 0 (map (λ (column : Column). column.ty) columns))))) (OfCells (map (λ (place : ℕ). c.dot ∷ []) (range_with_len 0 (count_by_tracking tr columns))))
    inserted-grown key tracking.Row f columns = ((refl, (new-grown (record { top = c.dot; values = map f (enumerate_from 0 (map (λ (column : Column). column.ty) columns)) }) refl, tt)), tt)
    inserted-grown key tracking.ByColumn f columns = ((new-length 0 (length columns), columns-grown f 0 0 columns), tt)

  -- which columns are set
  set-first : (edit : Setting) (edits : List Setting) (n : ℕ) (b : Bool) → is_some (set_value edits n) ≡ list_any (λ (cell : ℕ). cell == n) (map (λ (setting : Setting). setting.column) edits)
      → is_some (option_map (λ (e : Setting). e.value) (let found : Option Setting = cond b (Some edit) (find (λ (e : Setting). e.column == n) edits) in found)) ≡ (b || list_any (λ (cell : ℕ). cell == n) (map (λ (setting : Setting). setting.column) edits))
  set-first edit edits n true rest = refl
  set-first edit edits n false rest = rest

  set-agrees : (edits : List Setting) (n : ℕ) → is_some (set_value edits n) ≡ list_any (λ (cell : ℕ). cell == n) (map (λ (setting : Setting). setting.column) edits)
  set-agrees [] n = refl
  set-agrees (edit ∷ edits) n = set-first edit edits n (edit.column == n) (set-agrees edits n)

  module _ (live : c.deletes ≡ false) (own : has c.past.known c.dot ≡ true) where
    column-grown : (set : Option Value) (b : Bool) (cell : Cell) (chain : List Dot) → is_some set ≡ b → CellGrown made cell chain → ((d : Dot) → has chain d ≡ true → has c.past.known d ≡ true)
        → CellGrown (c ∷ made) (new_cell c.dot set cell) (if b then c.dot ∷ chain else chain)
    column-grown (Some value) true cell chain is grown knew = set-grown (record { top = c.dot; values = value ∷ [] }) chain refl live own knew grown.set
    column-grown None false cell chain is grown knew = left-grown cell chain grown
    column-grown (Some value) false cell chain is grown knew = absurd cc
    column-grown None true cell chain is grown knew = absurd cc

    updated-cells : (edits : List Setting) (n : ℕ) (cells : List Cell) (chains : List (List Dot)) → AllZip (CellGrown made) cells chains → ((k : ℕ) (d : Dot) → has (chain_at chains k) d ≡ true → has c.past.known d ≡ true)
        → AllZip (CellGrown (c ∷ made)) (map (cell_after c.dot edits) (enumerate_from n cells)) (changed_chains c.dot (map (λ (setting : Setting). setting.column) edits) n chains)
    updated-cells edits n [] [] grown knew = tt
    updated-cells edits n [] (chain ∷ chains) grown knew = absurd grown
    updated-cells edits n (cell ∷ cells) [] grown knew = absurd grown
    updated-cells edits n (cell ∷ cells) (chain ∷ chains) grown knew = (
      column-grown (set_value edits n) (list_any (λ (x : ℕ). x == n) (map (λ (setting : Setting). setting.column) edits)) cell chain (set-agrees edits n) grown.0 (λ d inside. knew 0 d inside),
      updated-cells edits (n + 1) cells chains grown.1 (λ k d inside. knew (suc k) d inside),
    )

    updated-row : (edits : List Setting) (cells : List Cell) (chains : List (List Dot)) → length chains ≡ 1 → AllZip (CellGrown made) cells chains → ((k : ℕ) (d : Dot) → has (chain_at chains k) d ≡ true → has c.past.known d ≡ true)
        → AllZip (CellGrown (c ∷ made)) (map (whole_row_after c.dot edits) cells) (changed_chains c.dot (0 ∷ []) 0 chains)
    updated-row edits (cell ∷ []) (chain ∷ []) one grown knew = (set-grown (whole_row_after c.dot edits cell) chain refl live own (λ d inside. knew 0 d inside) grown.0.set, tt)
    updated-row edits [] [] one grown knew = tt
    updated-row edits [] (chain ∷ chains) one grown knew = absurd grown
    updated-row edits (cell ∷ cells) [] one grown knew = absurd grown
    updated-row edits (cell ∷ cells) (chain ∷ other ∷ chains) one grown knew = absurd (omega (arith, one))
    updated-row edits (cell ∷ other ∷ cells) (chain ∷ []) one grown knew = absurd grown.1

    pub updated-grown : (key : Key) (tr : Tracking) (edits : List Setting) (columns : List Column) (cells : List Cell) (chains : List (List Dot)) → Grown (count_by_tracking tr columns) made key (Live cells) (OfCells chains)
        → ((k : ℕ) (d : Dot) → has (chain_at chains k) d ≡ true → has c.past.known d ≡ true)
        → GrownAlone (count_by_tracking tr columns) (c ∷ made) key (Live (cells_after tr c.dot edits cells)) (OfCells (map (chain_after c.dot (set_cells tr edits)) (enumerate_from 0 chains)))
    updated-grown key tracking.Row edits columns cells chains grown knew = ((changed-length c.dot (0 ∷ []) 0 chains ∙ grown.0, updated-row edits cells chains grown.0 grown.1 knew), tt)
    updated-grown key tracking.ByColumn edits columns cells chains grown knew =
        ((changed-length c.dot (map (λ (setting : Setting). setting.column) edits) 0 chains ∙ grown.0, updated-cells edits 0 cells chains grown.1 knew), tt)

  -- a delete
  pub deleted-grown : (cells : ℕ) (key : Key) (body : List Cell) (chains : List (List Dot)) (known : List Dot) → c.deletes ≡ true → same_key c.key key ≡ true → ((d : Dot) → has (c.dot ∷ known) d ≡ true → has c.past.known d ≡ true)
      → AllZip (CellGrown made) body chains → AllByRecursion (KnowsItsPast known) made → AllByRecursion (λ (top : Dot). has known top ≡ true) (map (λ (cell : Cell). cell.top) body)
      → GrownAlone cells (c ∷ made) key (Dead c.dot) (OfDead (c.dot ∷ flat_map (λ (chain : List Dot). chain) chains))
  deleted-grown cells key body chains known deletes same knew grown closed tops = (
    (grind (arith, nat_tests), grind (arith, nat_tests, deletes, same)),
    record {
      rooted = inl (
        dot-itself c.dot,
        λ d inside. (let old : has (flat_map (λ (chain : List Dot). chain) chains) d ≡ true → has known d ≡ true = all-known made body chains known grown closed tops d in knew d (grind (arith, inside, old))),
      );
      once = λ d inside. (let old : has (flat_map (λ (chain : List Dot). chain) chains) d ≡ true → is_set made d ≡ true = all-set made body chains grown d in grind (arith, inside, old));
    },
  )
