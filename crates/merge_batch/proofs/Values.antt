-- The values of a row, cell by cell.
use Rattle.std.proofs.Common.{◌≡◌, ◌≢◌, ℕ, zero, suc, ◌+◌, ◌<◌, ◌≤◌, false, ◌&&◌, ◌==◌, List, [], ◌∷◌, ◌++◌, length, take, drop, get_or, slice_get, refl, arith}
use Rattle.merge_types.specs.declared.Column.{Column}
use Rattle.merge_types.specs.declared.Value.{Value}
use Rattle.merge_units.specs.declared.version.Cell.{Cell}
use Rattle.merge_batch.specs.Articles.{values_fit, row_values}

-- a place within the first list is one of it, and a later one is one of the second
pub slice_get-append_within : {X : Type 0} (xs ys : List X) (n : ℕ) → n < length xs → slice_get (xs ++ ys) n ≡ slice_get xs n
slice_get-append_within [] ys n lt = absurd (omega arith)
slice_get-append_within (x ∷ xs) ys zero lt = refl
slice_get-append_within (x ∷ xs) ys (suc n) lt = slice_get-append_within xs ys n (omega arith)

pub slice_get-append_past : {X : Type 0} (xs ys : List X) (n m : ℕ) → n ≡ length xs + m → slice_get (xs ++ ys) n ≡ slice_get ys m
slice_get-append_past [] ys n m same = grind arith
slice_get-append_past (x ∷ xs) ys zero m same = absurd (omega arith)
slice_get-append_past (x ∷ xs) ys (suc n) m same = slice_get-append_past xs ys n m (omega arith)

-- unless there is one value for each column, they do not fit
pub values_fit-uneven : (columns : List Column) (values : List Value) → length columns ≢ length values → values_fit columns values ≡ false
values_fit-uneven [] [] uneven = absurd (uneven refl)
values_fit-uneven [] (value ∷ values) uneven = refl
values_fit-uneven (column ∷ columns) [] uneven = refl
values_fit-uneven (column ∷ columns) (value ∷ values) uneven = grind (arith, values_fit-uneven columns values (λ even. uneven (omega arith)))

-- nor where the first values alone are too many
pub values_fit-long : (columns : List Column) (first rest : List Value) → length columns < length first → values_fit columns (first ++ rest) ≡ false
values_fit-long columns [] rest lt = absurd (omega arith)
values_fit-long [] (value ∷ first) rest lt = refl
values_fit-long (column ∷ columns) (value ∷ first) rest lt = grind (arith, values_fit-long columns first rest (omega arith))

-- the first values are for the first columns
pub values_fit-append : (columns : List Column) (first rest : List Value) → length first ≤ length columns
    → values_fit columns (first ++ rest) ≡ (values_fit (take (length first) columns) first && values_fit (drop (length first) columns) rest)
values_fit-append columns [] rest le = refl
values_fit-append [] (value ∷ first) rest le = absurd (omega arith)
values_fit-append (column ∷ columns) (value ∷ first) rest le = grind (arith, values_fit-append columns first rest (omega arith))

-- the values of the cells from a place on begin with those of the cell there
pub row_values-at : (cells : List Cell) (at : ℕ) (cell : Cell) → at < length cells → cell ≡ get_or cells at cell
    → row_values (drop at cells) ≡ cell.values ++ row_values (drop (at + 1) cells)
row_values-at [] at cell lt is = absurd (omega arith)
row_values-at (first ∷ cells) zero cell lt is = grind (arith, is)
row_values-at (first ∷ cells) (suc at) cell lt is = grind (arith, row_values-at cells at cell (omega arith) is)

-- past the end nothing is left
pub drop-past : {X : Type 0} (n : ℕ) (xs : List X) → length xs ≤ n → drop n xs ≡ []
drop-past zero [] le = refl
drop-past (suc n) [] le = refl
drop-past zero (x ∷ xs) le = absurd (omega arith)
drop-past (suc n) (x ∷ xs) le = drop-past n xs (omega arith)

-- no values fit no columns
pub values_fit-none : (columns : List Column) → values_fit columns [] ≡ (length columns == 0)
values_fit-none [] = refl
values_fit-none (column ∷ columns) = grind arith
