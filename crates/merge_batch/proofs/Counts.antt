-- Rows that fit one article have as many cells.
use Rattle.std.proofs.Common.{◌≡◌, true, List, [], ◌∷◌, length, refl, length-append, arith}
use Rattle.std.specs.List.{list_all}
use Rattle.std.proofs.lemmas.Bool.Decides.{nat_tests}
use Rattle.merge_types.specs.declared.Column.{Column}
use Rattle.merge_types.specs.declared.Tracking.{Tracking}
use Rattle.merge_types.specs.declared.Tracking.TheVariants as tracking
use Rattle.merge_types.specs.declared.Value.{Value}
use Rattle.merge_units.specs.declared.version.Cell.{Cell}
use Rattle.merge_units.specs.declared.version.Body.TheVariants.{Live, Dead}
use Rattle.merge_batch.specs.Articles.{values_fit, row_values, has_one_value, cells_fit_tracking}
use Rattle.merge_batch.specs.Laws.{EqualCounts}

-- there are as many values as columns
length-values : (columns : List Column) (values : List Value) → values_fit columns values ≡ true → length values ≡ length columns
length-values [] [] fit = refl
length-values [] (value ∷ values) fit = absurd (cc fit)
length-values (column ∷ columns) [] fit = absurd (cc fit)
length-values (column ∷ columns) (value ∷ values) fit = grind (arith, fit, length-values columns values)

-- and as many cells, where each has one
length-cells : (cells : List Cell) → list_all has_one_value cells ≡ true → length (row_values cells) ≡ length cells
length-cells [] one = refl
length-cells (cell ∷ cells) one = grind (arith, nat_tests, one, length-append cell.values (row_values cells), length-cells cells)

-- the count by tracking: one cell, or one for each column
counted : (t : Tracking) (columns : List Column) (ours theirs : List Cell) → cells_fit_tracking t ours ≡ true → cells_fit_tracking t theirs ≡ true
    → values_fit columns (row_values ours) ≡ true → values_fit columns (row_values theirs) ≡ true → length ours ≡ length theirs
counted tracking.Row columns ours theirs here there our_values their_values = grind (arith, nat_tests, here, there)
counted tracking.ByColumn columns ours theirs here there our_values their_values =
    omega (arith, length-cells ours here, length-cells theirs there, length-values columns (row_values ours) our_values, length-values columns (row_values theirs) their_values)

pub equal_counts : EqualCounts
equal_counts article (Live ours) (Live theirs) here there =
    counted article.tracking article.columns ours theirs (grind (arith, here)) (grind (arith, there)) (grind (arith, here)) (grind (arith, there))
equal_counts article (Live ours) (Dead theirs) here there = tt
equal_counts article (Dead ours) (Live theirs) here there = tt
equal_counts article (Dead ours) (Dead theirs) here there = tt
