-- Which versions a record can have: few sites and few cells, of numbers that fit.
use Rattle.std.specs.List.{AllByRecursion}
use Rattle.std.specs.Prelude.{List, None, Option, Some, [], is_some, length, map, true, ℕ, ◌+◌, ◌<◌, ◌^◌, ◌≡◌, ◌≤◌, ◌∷◌}
use Rattle.std.proofs.Common.{arith}
use Rattle.merge_types.specs.declared.changes.Tracking.{Tracking}
use Rattle.merge_types.specs.declared.changes.Tracking.TheVariants as tracking
use Rattle.merge_types.specs.declared.identifiers.Dot.{Dot}
use Rattle.merge_types.specs.Rows.{IsMadeBy}
use Rattle.merge_lineage.proofs.Rising.{RisesFrom}
use Rattle.merge_units.specs.declared.version.Cell.{Cell}
use Rattle.merge_batch.proofs.Makers.{made-maker_of}
use Rattle.merge_batch.specs.Makers.{maker_of}
use Rattle.merge_record.specs.Codec.{AreCounted}
use Rattle.merge_record.specs.Versions.{IsCell, IsDot}
use Rattle.merge_typed.specs.Typed.{CellIsTyped}
use Rattle.merge_owed.proofs.CellValues.{HasColumns, HaveOne}

-- A lineage has each site once, and sites are at most 63.
pub rising-short : (low : ℕ) (lineage : List Dot) → RisesFrom low lineage → AllByRecursion (λ (dot : Dot). dot.site.0 ≤ 63) lineage → low ≤ 64 → length lineage + low ≤ 64
rising-short low [] rises few begins = omega (arith, begins)
rising-short low (dot ∷ rest) rises few begins =
    let first : dot.site.0 ≤ 63 = few.0 in
    let up : low ≤ dot.site.0 = rises.0 in
    let later = rising-short (dot.site.0 + 1) rest rises.1 few.1 (omega (arith, first)) in
    omega (arith, up, later)

-- Cells.

cell-fits : (cell : Cell) (count : ℕ) → length cell.values ≡ count → count ≤ 64 → IsDot cell.top → CellIsTyped cell → IsCell cell
cell-fits cell count is few top typed = (top, (omega (arith, is, few), typed))

ones-fit : (cells : List Cell) → HaveOne cells → AllByRecursion IsDot (map (λ (cell : Cell). cell.top) cells) → AllByRecursion CellIsTyped cells → AllByRecursion IsCell cells
ones-fit [] one tops typed = tt
ones-fit (cell ∷ cells) one tops typed = (cell-fits cell 1 one.0 (omega arith) tops.0 typed.0, ones-fit cells one.1 tops.1 typed.1)

pub cells-fit : (tr : Tracking) (columns : ℕ) (cells : List Cell) → columns ≤ 64 → HasColumns tr columns cells → AllByRecursion IsDot (map (λ (cell : Cell). cell.top) cells) → AllByRecursion CellIsTyped cells → AreCounted (2 ^ 8) IsCell cells
cells-fit tracking.Row columns (cell ∷ []) few has tops typed = (omega arith, (cell-fits cell columns has few tops.0 typed.0, tt))
cells-fit tracking.Row columns [] few has tops typed = absurd has
cells-fit tracking.Row columns (cell ∷ other ∷ cells) few has tops typed = absurd has
cells-fit tracking.ByColumn columns cells few has tops typed = ((let even = has.0 in omega (arith, even, few)), ones-fit cells has.1 tops typed)

-- An identifier that carries a change fits its field.

row-low : (row site number : ℕ) → IsMadeBy row site number → row < 2 ^ 128
row-low row site number made = omega (arith, made.same, made.fits, made.site_fits)

pub row-fits : (row : ℕ) (found : Option Dot) → maker_of row ≡ found → is_some found ≡ true → row < 2 ^ 128
row-fits row None is there = absurd cc
row-fits row (Some dot) is there = row-low row dot.site.0 dot.number (made-maker_of row dot is)
