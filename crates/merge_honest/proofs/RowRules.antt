-- The rule that an upload keeps by what its rows hold: its article exists, and the row fits it. Rule 6.
use Rattle.std.specs.List.{AllByRecursion, list_all}
use Rattle.std.specs.Option.{option_and_then, option_map_or}
use Rattle.std.specs.Prelude.{Bool, List, None, Option, Some, [], false, is_some, length, map, nat_le, option_map, refl, slice_get, suc, true, unwrap_or, ℕ, ◌&&◌, ◌++◌, ◌+◌, ◌≡◌, ◌∷◌}
use Rattle.std.proofs.Common.{ap, arith, subst, sym, ◌∙◌}
use Rattle.std.proofs.lemmas.Bool.Decides.{nat_tests}
use Rattle.std.proofs.lemmas.List.{append-nil, length-map}
use Rattle.merge_types.specs.Fitting.{fits_column}
use Rattle.merge_types.specs.Limits.{row_limit}
use Rattle.merge_types.specs.declared.changes.Tracking.{Tracking}
use Rattle.merge_types.specs.declared.changes.Tracking.TheVariants as tracking
use Rattle.merge_types.specs.declared.identifiers.Dot.{Dot}
use Rattle.merge_types.specs.declared.identifiers.SiteId.{SiteId}
use Rattle.merge_types.specs.declared.row_key.RowKey.{RowKey as Key}
use Rattle.merge_types.specs.declared.values.ColumnType.{ColumnType}
use Rattle.merge_types.specs.declared.values.Column.{Column}
use Rattle.merge_types.specs.declared.values.Value.{Value}
use Rattle.merge_units.specs.Length.{stored_length}
use Rattle.merge_units.specs.declared.version.Body.{Body}
use Rattle.merge_units.specs.declared.version.Body.TheVariants.{Dead, Live}
use Rattle.merge_units.specs.declared.version.Cell.{Cell}
use Rattle.merge_resolve.specs.Counted.{fits_place}
use Rattle.merge_schema.specs.Places.{article_at}
use Rattle.merge_schema.specs.declared.publication.Article.{Article}
use Rattle.merge_schema.specs.declared.publication.Identity.{Identity}
use Rattle.merge_schema.specs.declared.publication.Publication.{Publication}
use Rattle.merge_batch.specs.Articles.{body_fits, cells_fit, cells_fit_tracking, has_article, has_one_value, identity_is_set, is_set, row_values, values_fit}
use Rattle.merge_batch.specs.Makers.{maker_of}
use Rattle.merge_batch.specs.Uploads.{row_fits}
use Rattle.merge_batch.specs.declared.request.Request.TheVariants as request
use Rattle.merge_batch.specs.declared.request.Upload.{Upload}
use Rattle.merge_batch.specs.declared.request.UploadItem.{UploadItem}
use Rattle.merge_model.specs.Publisher.Acts.{key_of_item}
use Rattle.merge_model.specs.History.{MadeChange, has, past_in, pasts_with}
use Rattle.merge_model.specs.Tables.Keys.{same_key}
use Rattle.merge_model.specs.History.Model.{Model}
use Rattle.merge_model.specs.Failing.Runs.{model_behind}
use Rattle.merge_model.specs.declared.letter.Message.TheVariants.{Asks}
use Rattle.merge_model.proofs.Lists.KeyLookUps.{keys-same}
use Rattle.merge_model.proofs.Lists.{all-both}
use Rattle.merge_laws.specs.Facts.Knowledge.{is_made, same_dot}
use Rattle.merge_laws.specs.Laws.{OfEveryValidRun}
use Rattle.merge_laws.proofs.Accounts.AccountElements.{all-in, any-out}
use Rattle.merge_laws.proofs.Pasts.DotTests.{dots-same}
use Rattle.merge_laws.proofs.Told.ToldLetters.{letter-fits}
use Rattle.merge_laws.proofs.Told.ToldSites.{Every}
use Rattle.merge_owed.proofs.CellValues.{HasColumns, HaveOne}
use Rattle.merge_owed.proofs.VersionKept.{holds-always}
use Rattle.merge_honest.specs.Delivered.{IsRequest, NoneIsRefusedFor, breaks}
use Rattle.merge_honest.proofs.ArticlesExist.{AllExist, exist-always}
use Rattle.merge_honest.proofs.Breaking.{follows-all}
use Rattle.merge_honest.proofs.MakerRules.{items-named}
use Rattle.merge_honest.proofs.Rules.{Known, ItemMeets, UploadsKeep, head-met, known-always, uploads-in}
use Rattle.merge_honest.proofs.RowsFit.{AllTook, BodyIsRight, IsRight, right-goes_on}
use Rattle.merge_honest.proofs.TookValues.{took-always}
use Rattle.merge_honest.proofs.TypedCells.{CellsFrom, CellsTyped, ValuesFrom}

-- From a body that is right to one that passes the tests.

tracking-fits : (tr : Tracking) (columns : ℕ) (cells : List Cell) → HasColumns tr columns cells → cells_fit_tracking tr cells ≡ true
tracking-fits tracking.Row columns (cell ∷ []) has = refl
tracking-fits tracking.Row columns [] has = absurd has
tracking-fits tracking.Row columns (cell ∷ other ∷ cells) has = absurd has
tracking-fits tracking.ByColumn columns cells has = ones-fit cells has.1
  where
    ones-fit : (rest : List Cell) → HaveOne rest → list_all has_one_value rest ≡ true
    ones-fit [] one = refl
    ones-fit (cell ∷ rest) one = (let first = one.0 in let later = ones-fit rest one.1 in grind (arith, nat_tests, first, later))

-- with column tracking the cells' values are those of the row
sole-values : (fits : ℕ → Value → Bool) (n : ℕ) (values rest : List Value) → length values ≡ 1 → AllByRecursion (λ (value : Value). fits n value ≡ true) values → ValuesFrom fits (n + 1) rest → ValuesFrom fits n (values ++ rest)
sole-values fits n [] rest one all more = absurd cc
sole-values fits n (value ∷ []) rest one all more = (all.0, more)
sole-values fits n (value ∷ other ∷ values) rest one all more = absurd (omega (arith, one))

sole-count : (values rest : List Value) → length values ≡ 1 → length (values ++ rest) ≡ 1 + length rest
sole-count [] rest one = absurd cc
sole-count (value ∷ []) rest one = omega arith
sole-count (value ∷ other ∷ values) rest one = absurd (omega (arith, one))

cells-values : (fits : ℕ → Value → Bool) (n : ℕ) (cells : List Cell) → HaveOne cells → CellsFrom fits n cells → ValuesFrom fits n (row_values cells) × (length (row_values cells) ≡ length cells)
cells-values fits n [] one typed = (tt, refl)
cells-values fits n (cell ∷ cells) one typed =
    let rest = cells-values fits (n + 1) cells one.1 typed.1 in
    let count = sole-count cell.values (row_values cells) one.0 in
    let more = rest.1 in
    (sole-values fits n cell.values (row_values cells) one.0 typed.0 rest.0, omega (arith, count, more))

row-typed : (tr : Tracking) (fits : ℕ → Value → Bool) (columns : ℕ) (cells : List Cell) → HasColumns tr columns cells → CellsTyped fits tr cells → ValuesFrom fits 0 (row_values cells) × (length (row_values cells) ≡ columns)
row-typed tracking.Row fits columns (cell ∷ []) has typed = (subst (ValuesFrom fits 0) (sym (append-nil cell.values)) typed, ap (λ (values : List Value). length values) (append-nil cell.values) ∙ has)
row-typed tracking.Row fits columns [] has typed = absurd has
row-typed tracking.Row fits columns (cell ∷ other ∷ cells) has typed = absurd has
row-typed tracking.ByColumn fits columns cells has typed = (let both = cells-values fits 0 cells has.1 typed in (both.0, both.1 ∙ has.0))

abbrev types_of : List Column → List ColumnType
types_of columns = map (λ (column : Column). column.ty) columns

column-fits : (types : List ColumnType) (n : ℕ) (ty : ColumnType) (value : Value) → slice_get types n ≡ Some ty → fits_place types n value ≡ true → fits_column ty value ≡ true
column-fits types n ty value is fit = grind (arith, is, fit)

columns-fit : (types : List ColumnType) (n : ℕ) (columns : List Column) (values : List Value) → ((k : ℕ) → slice_get (types_of columns) k ≡ slice_get types (n + k)) → length values ≡ length columns → ValuesFrom (fits_place types) n values → values_fit columns values ≡ true
columns-fit types n [] [] at even typed = refl
columns-fit types n [] (value ∷ values) at even typed = absurd (omega (arith, even))
columns-fit types n (column ∷ columns) [] at even typed = absurd (omega (arith, even))
columns-fit types n (column ∷ columns) (value ∷ values) at even typed =
    let here : slice_get types n ≡ Some column.ty = (let same : n ≡ n + 0 = omega arith in ap (λ (k : ℕ). slice_get types k) same ∙ sym (at 0)) in
    let first : fits_column column.ty value ≡ true = column-fits types n column.ty value here typed.0 in
    let rest : values_fit columns values ≡ true = columns-fit types (n + 1) columns values (λ k. at (suc k) ∙ ap (λ (place : ℕ). slice_get types place) (let same : n + suc k ≡ n + 1 + k = omega arith in same)) (omega (arith, even)) typed.1 in
    grind (arith, first, rest)

set-by : (found : Option Identity) (values : List Value) → ((k : ℕ) → option_map (λ (identity : Identity). identity.column) found ≡ Some k → is_some (option_map (λ (identity : Identity). identity.column) found) ≡ true → is_set (slice_get values k) ≡ true) → identity_is_set found values ≡ true
set-by None values set = refl
set-by (Some identity) values set = set identity.column refl refl

article-fits : (article : Article) (cells : List Cell) → BodyIsRight article.tracking (types_of article.columns) (option_map (λ (identity : Identity). identity.column) article.identity) (Live cells) → cells_fit article cells ≡ true
article-fits article cells right =
    let types : List ColumnType = types_of article.columns in
    let tracked : cells_fit_tracking article.tracking cells ≡ true = tracking-fits article.tracking (length types) cells right.shaped.0 in
    let typed = row-typed article.tracking (fits_place types) (length types) cells right.shaped.0 right.typed in
    let values : values_fit article.columns (row_values cells) ≡ true =
    columns-fit types 0 article.columns (row_values cells) (λ k. ap (λ (place : ℕ). slice_get types place) (let same : k ≡ 0 + k = omega arith in same)) (typed.1 ∙ length-map article.columns (λ (column : Column). column.ty)) typed.0 in
    let short : nat_le (stored_length cells) row_limit ≡ true = (let low = right.short in grind (arith, nat_tests, low)) in
    let set : identity_is_set article.identity (row_values cells) ≡ true = set-by article.identity (row_values cells) (λ k is some. right.shaped.1 k is some) in
    grind (arith, tracked, values, short, set)

body-passes : (article : Article) (body : Body) → BodyIsRight article.tracking (types_of article.columns) (option_map (λ (identity : Identity). identity.column) article.identity) body → body_fits body article ≡ true
body-passes article (Live cells) right = article-fits article cells right
body-passes article (Dead top) right = refl

pub found-passes : (found : Option Article) (body : Body) → is_some found ≡ true
    → BodyIsRight (unwrap_or (option_map (λ (article : Article). article.tracking) found) tracking.Row) (types_of (unwrap_or (option_map (λ (article : Article). article.columns) found) [])) (option_map (λ (identity : Identity). identity.column) (option_and_then (λ (article : Article). article.identity) found)) body
    → option_map_or (body_fits body) found false ≡ true
found-passes None body there right = absurd cc
found-passes (Some article) body there right = body-passes article body right

-- The article of an item was that of the change which made its row.

module _ (publication : Publication) (m : Model) (k : Known publication m) (exist : AllExist publication m.history.made) (rights : Every (IsRight publication m.history.made) m.world m.history) (took : AllTook publication m.history.made) where
  maker-exists : (key : Key) (maker : Dot) → maker_of key.row.0 ≡ Some maker → is_made m.history.made key maker ≡ true → has_article publication key.article ≡ true
  maker-exists key maker is made = any-out (has_article publication key.article ≡ true) (λ (change : MadeChange). same_dot change.dot maker && same_key key change.key) m.history.made made (λ c inside passes. (
      let same : c.dot ≡ maker = dots-same c.dot maker (let both : same_dot c.dot maker ≡ true = grind (arith, passes) in both) in
      let row : key ≡ c.key = keys-same key c.key (let both : same_key key c.key ≡ true = grind (arith, passes) in both) in
      subst (λ (other : Key). has_article publication other.article ≡ true) (sym row)
      (all-in (λ (change : MadeChange). maker_of change.key.row.0 ≡ Some change.dot → has_article publication change.key.article ≡ true) m.history.made c exist inside
      (ap (λ (other : Key). maker_of other.row.0) (sym row) ∙ is ∙ ap (λ (dot : Dot). (let found : Option Dot = Some dot in found)) (sym same)))))

  pub found-exists : (key : Key) (found : Option Dot) → maker_of key.row.0 ≡ found → is_some found ≡ true → ((maker : Dot) → maker_of key.row.0 ≡ Some maker → is_made m.history.made key maker ≡ true) → has_article publication key.article ≡ true
  found-exists key None is there made = absurd cc
  found-exists key (Some maker) is there made = maker-exists key maker is (made maker is)

  module _ (number : ℕ) (site : SiteId) (u : Upload) (at : IsRequest m number site (request.Upload u)) where
    items-fit : AllByRecursion (λ (item : UploadItem). row_fits publication item ≡ true) u.items
    items-fit = all-both (λ (item : UploadItem). IsRight publication m.history.made (key_of_item item) item.version (past_in (pasts_with m.history number) (key_of_item item)))
        (λ (item : UploadItem). (is_some (maker_of item.row.0) ≡ true) × ((maker : Dot) → maker_of item.row.0 ≡ Some maker → is_made m.history.made (key_of_item item) maker ≡ true)) (λ (item : UploadItem). row_fits publication item ≡ true)
        (λ item right named. found-passes (article_at publication item.article) item.version.body (found-exists (key_of_item item) (maker_of item.row.0) refl named.0 named.1) (right took)) u.items
        (letter-fits (IsRight publication m.history.made) m.world m.history number (record { site = site; message = Asks (request.Upload u) }) at rights.letters) (items-named publication m k number site u at)

  rows-keep : UploadsKeep 6 publication m
  rows-keep number site u at fine =
      (head-met 6 publication m number u refl, follows-all (λ (item : UploadItem). row_fits publication item ≡ true) (ItemMeets 6 publication m number u) (λ before item is. grind (arith, is)) None u.items (items-fit number site u at))

pub no-row-misfits : OfEveryValidRun (NoneIsRefusedFor (breaks 6))
no-row-misfits resolvers publication valid says tallies slips events =
    let m : Model = model_behind publication says tallies slips events in
    let k : Known publication m = known-always publication says tallies slips events (resolvers, valid) in
    uploads-in 6 refl refl publication says m k (rows-keep publication m k (exist-always publication says tallies slips events (resolvers, valid))
    (holds-always publication (IsRight publication) (right-goes_on resolvers publication valid) says tallies slips events (resolvers, valid)).1.0 (took-always publication says tallies slips events (resolvers, valid)))
