-- Values that are of their types and fit their columns are those that a record can have: the tests of a message ask for lengths and days.
use Rattle.std.specs.List.{AllByRecursion}
use Rattle.std.specs.Option.{option_map_or}
use Rattle.std.specs.Prelude.{List, None, Option, Some, [], false, true, ℕ, ◌++◌, ◌≡◌, ◌∷◌}
use Rattle.std.proofs.Common.{arith}
use Rattle.merge_types.specs.Fitting.{fits_column, is_proper, is_short}
use Rattle.merge_types.specs.declared.values.Column.{Column}
use Rattle.merge_types.specs.declared.values.Value.{Value}
use Rattle.merge_units.specs.declared.version.Body.{Body}
use Rattle.merge_units.specs.declared.version.Body.TheVariants.{Dead, Live}
use Rattle.merge_units.specs.declared.version.Cell.{Cell}
use Rattle.merge_schema.specs.Places.{article_at}
use Rattle.merge_schema.specs.declared.publication.Article.{Article}
use Rattle.merge_schema.specs.declared.publication.Publication.{Publication}
use Rattle.merge_batch.specs.Articles.{body_fits, cells_fit, fits_article, row_values, values_fit}
use Rattle.merge_record.specs.Versions.{IsValue}
use Rattle.merge_model.proofs.Lists.{all-append}
use Rattle.merge_typed.specs.Outside.{ValueIsTyped}
use Rattle.merge_typed.specs.Typed.{BodyIsTyped, CellIsTyped}
use Rattle.merge_typed.proofs.Values.{value-is}
use Rattle.merge_stored.specs.HasTypes.{BodyHasTypes, CellHasTypes}

all-first : {X : Type 0} (P : X → Type 0) (xs ys : List X) → AllByRecursion P (xs ++ ys) → AllByRecursion P xs
all-first P [] ys all = tt
all-first P (x ∷ xs) ys all = (all.0, all-first P xs ys all.1)

all-second : {X : Type 0} (P : X → Type 0) (xs ys : List X) → AllByRecursion P (xs ++ ys) → AllByRecursion P ys
all-second P [] ys all = all
all-second P (x ∷ xs) ys all = all-second P xs ys all.1

cells-values : (cells : List Cell) → AllByRecursion CellHasTypes cells → AllByRecursion ValueIsTyped (row_values cells)
cells-values [] all = tt
cells-values (cell ∷ cells) all = all-append ValueIsTyped cell.values (row_values cells) all.0 (cells-values cells all.1)

values-cells : (cells : List Cell) → AllByRecursion IsValue (row_values cells) → AllByRecursion CellIsTyped cells
values-cells [] all = tt
values-cells (cell ∷ cells) all = (all-first IsValue cell.values (row_values cells) all, values-cells cells (all-second IsValue cell.values (row_values cells) all))

values-are : (columns : List Column) (values : List Value) → values_fit columns values ≡ true → AllByRecursion ValueIsTyped values → AllByRecursion IsValue values
values-are [] [] fits all = tt
values-are [] (value ∷ values) fits all = absurd cc
values-are (column ∷ columns) [] fits all = absurd cc
values-are (column ∷ columns) (value ∷ values) fits all =
    let here : fits_column column.ty value ≡ true = grind (arith, fits) in
    let short : is_short value ≡ true = grind (arith, here) in
    let proper : is_proper value ≡ true = grind (arith, here) in
    (value-is value all.0 short proper, values-are columns values (grind (arith, fits)) all.1)

found-typed : (found : Option Article) (cells : List Cell) → option_map_or (body_fits (Live cells)) found false ≡ true → AllByRecursion CellHasTypes cells → AllByRecursion CellIsTyped cells
found-typed None cells fits all = absurd cc
found-typed (Some article) cells fits all =
    let whole : cells_fit article cells ≡ true = fits in
    let values : values_fit article.columns (row_values cells) ≡ true = grind (arith, whole) in
    values-cells cells (values-are article.columns (row_values cells) values (cells-values cells all))

pub fits-typed : (publication : Publication) (article : ℕ) (cells : List Cell) → fits_article publication article (Live cells) ≡ true → AllByRecursion CellHasTypes cells → AllByRecursion CellIsTyped cells
fits-typed publication article cells fits all = found-typed (article_at publication article) cells fits all

pub body-fits-typed : (publication : Publication) (article : ℕ) (body : Body) → fits_article publication article body ≡ true → BodyHasTypes body → BodyIsTyped body
body-fits-typed publication article (Live cells) fits all = fits-typed publication article cells fits all
body-fits-typed publication article (Dead top) fits all = tt
