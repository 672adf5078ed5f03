-- What reports show of rows that can be printed can be printed.
use Rattle.std.proofs.Common.{◌≡◌, ◌==◌, Bool, true, false, List, [], ◌∷◌, ◌++◌, ℕ, Option, Some, None, refl, filter, map}
use Rattle.std.specs.List.{AllByRecursion, flat_map}
use Rattle.std.specs.Prelude.{All, filter_map}
use Rattle.std.proofs.lemmas.List.Elements.{All-from_recursion, recursion_from_All}
use Rattle.merge_types.specs.Literal.{IsProper}
use Rattle.merge_types.specs.declared.row_key.RowKey.{RowKey}
use Rattle.merge_types.specs.declared.values.Value.{Value}
use Rattle.merge_units.specs.declared.version.Body.{Body}
use Rattle.merge_units.specs.declared.version.Body.TheVariants.{Dead, Live}
use Rattle.merge_units.specs.declared.version.Cell.{Cell}
use Rattle.merge_units.specs.declared.version.Version.{Version}
use Rattle.merge_schema.specs.Partition.{LiveRow}
use Rattle.merge_model.specs.Publisher.Entries.{live_row}
use Rattle.merge_model.specs.World.Reports.{is_of_article, shown_rows}
use Rattle.merge_model.specs.declared.answer.ShownRow.{ShownRow}
use Rattle.merge_model.specs.Script.Proper.{AreProper, IsProperBody}
use Rattle.merge_world.specs.Printable.{ArePrintable}
use Rattle.merge_world.specs.Reports.{live_in}

abbrev ValuesOf : Cell → List Value
ValuesOf cell = cell.values

-- the members of two lists
both : (xs ys : List Value) → AllByRecursion IsProper xs → AllByRecursion IsProper ys → AllByRecursion IsProper (xs ++ ys)
both [] ys a b = b
both (x ∷ xs) ys a b = (a.0, both xs ys a.1 b)

values-proper : (cells : List Cell) → AllByRecursion (λ (cell : Cell). AreProper cell.values) cells → AllByRecursion IsProper (flat_map ValuesOf cells)
values-proper [] h = tt
values-proper (cell ∷ cells) h = both cell.values (flat_map ValuesOf cells) (recursion_from_All IsProper cell.values h.0) (values-proper cells h.1)

abbrev IsShownProper : ShownRow → Type 0
IsShownProper row = AreProper row.values

-- one live row more
live-more : (article : ℕ) (row : LiveRow) (rest : List LiveRow) → AreProper row.values → AllByRecursion IsShownProper (shown_rows article rest) → AllByRecursion IsShownProper (shown_rows article (row ∷ rest))
live-more article row rest proper others = by (is_of_article article row) refl
  where
    by : (b : Bool) → is_of_article article row ≡ b → AllByRecursion IsShownProper (shown_rows article (row ∷ rest))
    by true e = rw e (proper, others)
    by false e = rw e others

row-more : (article : ℕ) (key : RowKey) (body : Body) (more rest : List LiveRow) → IsProperBody body → (live_row key body ≡ None → more ≡ rest) → ((row : LiveRow) → live_row key body ≡ Some row → more ≡ row ∷ rest)
    → AllByRecursion IsShownProper (shown_rows article rest) → AllByRecursion IsShownProper (shown_rows article more)
row-more article key (Dead top) more rest proper none some others = rw (none refl) others
row-more article key (Live cells) more rest proper none some others =
    let row : LiveRow = record { article = key.article; row = key.row; values = flat_map ValuesOf cells } in
    rw (some row refl) (live-more article row rest (All-from_recursion IsProper (flat_map ValuesOf cells) (values-proper cells (recursion_from_All (λ (cell : Cell). AreProper cell.values) cells proper))) others)

module _ {R : Type 0} (version : R → Version) (article : ℕ) where
  rows-proper : (rows : List (RowKey × R)) → AllByRecursion (λ (row : RowKey × R). IsProperBody (version row.1).body) rows → AllByRecursion IsShownProper (shown_rows article (live_in version rows))
  rows-proper [] h = tt
  rows-proper (row ∷ rows) h = row-more article row.0 (version row.1).body (live_in version (row ∷ rows)) (live_in version rows) h.0 (λ none. rw none refl) (λ found some. rw some refl) (rows-proper rows h.1)

  pub shown-printable : (rows : List (RowKey × R)) → ArePrintable version rows → All IsShownProper (shown_rows article (live_in version rows))
  shown-printable rows h = All-from_recursion IsShownProper (shown_rows article (live_in version rows)) (rows-proper rows (recursion_from_All (λ (row : RowKey × R). IsProperBody (version row.1).body) rows h))
