-- Rows that fit their articles, and the rules that every step keeps.
use Rattle.std.specs.Prelude.{◌≡◌, ◌&&◌, ℕ, List, [], ◌∷◌, Bool, true, false, All, Option, Some, None, refl, length, map, slice_get}
use Rattle.std.specs.List.{AllByRecursion, zip}
use Rattle.std.specs.Option.{option_map_or}
use Rattle.std.specs.declared.cmp.Ordering.TheVariants.{Equal}
use Rattle.std.proofs.Common.{arith, sym, ap, ◌∙◌, subst}
use Rattle.std.proofs.lemmas.List.Elements.{All-from_recursion}
use Rattle.merge_types.specs.RowKeys.{key_cmp, key_exact}
use Rattle.merge_types.specs.declared.row_key.RowKey.{RowKey as Key}
use Rattle.merge_types.specs.declared.values.Column.{Column}
use Rattle.merge_types.specs.declared.values.Value.{Value}
use Rattle.merge_units.specs.declared.site_row.PublisherRow.{PublisherRow}
use Rattle.merge_units.specs.declared.version.Body.{Body}
use Rattle.merge_units.specs.declared.version.Body.TheVariants.{Dead, Live}
use Rattle.merge_units.specs.declared.version.Version.{Version}
use Rattle.merge_table.specs.Edits.{rows_after_all}
use Rattle.merge_schema.specs.declared.publication.Article.{Article}
use Rattle.merge_schema.specs.declared.publication.Publication.{Publication}
use Rattle.merge_part.specs.Taking.{FitsArticle, fits_columns}
use Rattle.merge_batch.specs.Articles.{body_fits, cells_fit, fits_article, row_values, values_fit}
use Rattle.merge_model.specs.Tables.Keys.{put_row}
use Rattle.merge_model.proofs.Entries.EntryLists.{all-put}
use Rattle.merge_steps.specs.Keeps.{FitsHere, RowFits}
use Rattle.merge_steps.specs.LiveRows.{values_in}
use Rattle.merge_steps.specs.Step.{KeepsFitting}
use Rattle.merge_steps.specs.Working.{row_change, version_edits}
use Rattle.merge_steps.specs.declared.step.Worked.{Worked}

-- As many values as columns.

and-first : (a b : Bool) → (a && b) ≡ true → a ≡ true
and-first true b is = refl
and-first false b is = is

and-second : (a b : Bool) → (a && b) ≡ true → b ≡ true
and-second true b is = is
and-second false b is = absurd cc

as-many : (columns : List Column) (values : List Value) → values_fit columns values ≡ true → length values ≡ length columns
as-many [] [] fits = refl
as-many [] (value ∷ values) fits = absurd cc
as-many (column ∷ columns) [] fits = absurd cc
as-many (column ∷ columns) (value ∷ values) fits = let rest = as-many columns values (and-second _ (values_fit columns values) fits) in grind (arith, rest)

columns-fit : (body : Body) (article : Article) → body_fits body article ≡ true → fits_columns (Some article) (values_in body)
columns-fit (Dead top) article fits = tt
columns-fit (Live cells) article fits = as-many article.columns (row_values cells) (and-second _ (values_fit article.columns (row_values cells)) (and-first _ _ (and-first _ _ fits)))

article-fits : (found : Option Article) (body : Body) → option_map_or (body_fits body) found false ≡ true → fits_columns found (values_in body)
article-fits None body fits = absurd cc
article-fits (Some article) body fits = columns-fit body article fits

pub changes-fit : (publication : Publication) (changes : ℕ) (versions : List (Key × Version)) → AllByRecursion (FitsHere publication changes) versions → All (FitsArticle publication) (map row_change versions)
changes-fit publication changes versions all = All-from_recursion (FitsArticle publication) (map row_change versions) (by versions all)
  where
    by : (vs : List (Key × Version)) → AllByRecursion (FitsHere publication changes) vs → AllByRecursion (FitsArticle publication) (map row_change vs)
    by [] fit = tt
    by (v ∷ vs) fit = (article-fits (slice_get publication.articles v.0.article) v.1.body fit.0.fits, by vs fit.1)

-- Rows after versions are put.

rows-fit : (publication : Publication) (changes : ℕ) (versions : List (Key × Version)) (generations : List ℕ) (rows : List (Key × PublisherRow)) → AllByRecursion (RowFits publication changes) rows → AllByRecursion (FitsHere publication changes) versions
    → AllByRecursion (RowFits publication changes) (rows_after_all key_cmp rows (version_edits versions generations))
rows-fit publication changes [] generations rows held fit = held
rows-fit publication changes (v ∷ versions) [] rows held fit = held
rows-fit publication changes (v ∷ versions) (g ∷ generations) rows held fit =
    let row : PublisherRow = record { version = v.1; changed = g } in
    rows-fit publication changes versions generations (put_row rows v.0 row)
    (all-put (RowFits publication changes) key_cmp v.0 row (λ q same. subst (λ (k : Key). FitsHere publication changes (k, v.1)) (key_exact v.0 q same) fit.0) fit.0 rows held) fit.1

pub step-fitting : (publication : Publication) (versions : List (Key × Version)) (generations : List ℕ) (rows : List (Key × PublisherRow)) (w : Worked) → w.rows ≡ version_edits versions generations → KeepsFitting publication versions rows w
unfolding KeepsFitting
step-fitting publication versions generations rows w are = λ changes held fit.
    subst (λ edits. AllByRecursion (RowFits publication changes) (rows_after_all key_cmp rows edits)) (sym are) (rows-fit publication changes versions generations rows held fit)
