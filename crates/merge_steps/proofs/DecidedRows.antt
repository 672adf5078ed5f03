-- What a decision on two versions gives fits their article.
use Rattle.std.specs.Prelude.{◌≡◌, ◌&&◌, ◌==◌, ◌≤◌, ◌<◌, ◌+◌, ◌++◌, ◌∷◌, ℕ, zero, suc, Bool, true, false, List, [], Option, Some, None, All, filter_map, if◌then◌else◌, length, map, nat_le, option_map, refl, slice_get, slice_set, is_some, take}
use Rattle.std.specs.List.{enumerate_from, list_all, list_any}
use Rattle.std.specs.Option.{option_map_or}
use Rattle.std.proofs.Common.{arith, sym, ap, ◌∙◌, subst, append-nil, length-append, inl, inr}
use Rattle.std.proofs.lemmas.Bool.{and_from, and_parts}
use Rattle.std.proofs.lemmas.Bool.Decides.{nat_tests}
use Rattle.std.proofs.lemmas.List.{take_all}
use Rattle.std.proofs.lemmas.List.Elements.{All-head, All-tail}
use Rattle.std.proofs.lemmas.List.Sums.{sum_by-cons}
use Rattle.std.proofs.lemmas.Option.{slice_get_within}
use Rattle.merge_types.specs.Fitting.{fits_column}
use Rattle.merge_types.specs.Limits.{row_limit}
use Rattle.merge_types.specs.declared.identifiers.Dot.{Dot}
use Rattle.merge_types.specs.declared.changes.Tracking.{Tracking}
use Rattle.merge_types.specs.declared.changes.Tracking.TheVariants as tracking
use Rattle.merge_types.specs.declared.values.ColumnType.{ColumnType}
use Rattle.merge_types.specs.declared.values.Column.{Column}
use Rattle.merge_types.specs.declared.values.Value.{Value}
use Rattle.merge_lineage.specs.Lineage.{knows}
use Rattle.merge_units.specs.Cases.{bodies_case, case_by, case_of, is_both, is_conflict, news_case, sides_of}
use Rattle.merge_units.specs.Laws.{FitsBody, HaveSameShape, PicksSide}
use Rattle.merge_units.specs.Length.{stored_length, value_count}
use Rattle.merge_units.specs.Results.{FitsDecision, case_body, decided, result_cells, winner_body}
use Rattle.merge_units.specs.Version.{FitsTracking, HaveEqualCounts, Knowing, cells_of, has_news}
use Rattle.merge_units.specs.declared.case.Case.{Case}
use Rattle.merge_units.specs.declared.case.Case.TheVariants as case
use Rattle.merge_units.specs.declared.case.Side.{Side}
use Rattle.merge_units.specs.declared.case.Side.TheVariants as side
use Rattle.merge_units.specs.declared.result.Decision.{Decision}
use Rattle.merge_units.specs.declared.result.Decision.TheVariants.{Custom, KeepPublisher, TakeSubscriber}
use Rattle.merge_units.specs.declared.version.Body.{Body}
use Rattle.merge_units.specs.declared.version.Body.TheVariants.{Dead, Live}
use Rattle.merge_units.specs.declared.version.Cell.{Cell}
use Rattle.merge_units.specs.declared.version.Version.{Version}
use Rattle.merge_units.proofs.Fits.{length-sides_of}
use Rattle.merge_units.proofs.Limit.{rows_stay_by}
use Rattle.merge_units.proofs.Shapes.{result_fits}
use Rattle.merge_types.specs.declared.values.ColumnType.TheVariants as types
use Rattle.merge_schema.specs.Valid.{HasValidIdentity, IsValid, IsValidArticle}
use Rattle.merge_schema.specs.declared.publication.Article.{Article}
use Rattle.merge_schema.specs.declared.publication.Identity.{Identity}
use Rattle.merge_schema.specs.declared.publication.Publication.{Publication}
use Rattle.merge_schema.specs.Places.{article_at}
use Rattle.merge_batch.specs.Articles.{body_fits, cells_fit, cells_fit_tracking, fits_article, has_one_value, identity_is_set, is_set, row_values, values_fit}
use Rattle.merge_batch.proofs.Counts.{equal_counts}
use Rattle.merge_batch.proofs.Tracking.{fits-test, test-fits}
use Rattle.merge_resolve.specs.Columns.{body_value, cell_value}
use Rattle.merge_resolve.specs.Counted.{fit_all, fits_place, fit_columns, is_by_row, is_within, with_own, within_or_kept}
use Rattle.merge_resolve.specs.CountedLaws.{HasColumns}
use Rattle.merge_resolve.specs.Questions.{Asked, asked_of, both_place, case_asked, decision_for_question, question_asked, sides_of_case, tracking_kind}
use Rattle.merge_resolve.specs.declared.case.CaseKind.{CaseKind}
use Rattle.merge_resolve.specs.declared.case.CaseKind.TheVariants as kind
use Rattle.merge_resolve.specs.declared.case.ConflictCase.{ConflictCase}
use Rattle.merge_resolve.specs.declared.question.Meeting.{Meeting}
use Rattle.merge_resolve.proofs.CountedRows.{counted_fits, counted_stays_in_limit}
use Rattle.merge_model.specs.Publisher.Acts.{asked_at}
use Rattle.merge_steps.specs.Fits.{MayDecide}
use Rattle.merge_steps.proofs.ColumnsFit.{are_good, cell-of-column, decided-good, good-at, good-fit, good-from, good-length, good-set, placed-own, placed-plain, row-own, row-plain, set_at, sides-good, types-aligned, fits_at, is_good_at}

-- A row by its parts.

abbrev pub identity_place : Article → Option ℕ
identity_place article = option_map (λ (identity : Identity). identity.column) article.identity

abbrev pub IsGood : Article → Body → Type 0
IsGood article (Live cells) = are_good (identity_place article) 0 article.columns (row_values cells) ≡ true
IsGood article (Dead top) = Unit {0}

set-by : (identity : Option Identity) (values : List Value) → identity_is_set identity values ≡ true → (k : ℕ) (value : Value) → slice_get values k ≡ Some value
    → set_at (option_map (λ (i : Identity). i.column) identity) (0 + k) value ≡ true
set-by None values set k value is = refl
set-by (Some identity) values set k value is = by (0 + k == identity.column) refl
  where
    by : (b : Bool) → (0 + k == identity.column) ≡ b → set_at (Some identity.column) (0 + k) value ≡ true
    by true same =
        let place : identity.column ≡ k = grind (arith, nat_tests, same) in
        ap (λ (b : Bool). (let c : Bool = if b then is_set (Some value) else true in c)) same ∙ rw (place, is) at set
    by false other = ap (λ (b : Bool). (let c : Bool = if b then is_set (Some value) else true in c)) other

-- a row that fits has good values
pub good-body : (article : Article) (body : Body) → body_fits body article ≡ true → IsGood article body
good-body article (Dead top) fit = tt
good-body article (Live cells) fit =
    let tests : Bool = cells_fit_tracking article.tracking cells && values_fit article.columns (row_values cells) in
    let parts = and_parts (tests && nat_le (stored_length cells) row_limit) (identity_is_set article.identity (row_values cells)) fit in
    let inner = and_parts tests (nat_le (stored_length cells) row_limit) parts.0 in
    let fits = and_parts (cells_fit_tracking article.tracking cells) (values_fit article.columns (row_values cells)) inner.0 in
    good-from (identity_place article) 0 article.columns (row_values cells) fits.1 (set-by article.identity (row_values cells) parts.1)

pub tracked-body : (article : Article) (body : Body) → body_fits body article ≡ true → FitsBody article.tracking body
tracked-body article (Dead top) fit = tt
tracked-body article (Live cells) fit =
    let tests : Bool = cells_fit_tracking article.tracking cells && values_fit article.columns (row_values cells) in
    let parts = and_parts (tests && nat_le (stored_length cells) row_limit) (identity_is_set article.identity (row_values cells)) fit in
    let inner = and_parts tests (nat_le (stored_length cells) row_limit) parts.0 in
    fits-test article.tracking cells (and_parts (cells_fit_tracking article.tracking cells) (values_fit article.columns (row_values cells)) inner.0).0

pub short-body : (article : Article) (body : Body) → body_fits body article ≡ true → stored_length (cells_of body) ≤ row_limit
short-body article (Dead top) fit = omega arith
short-body article (Live cells) fit =
    let tests : Bool = cells_fit_tracking article.tracking cells && values_fit article.columns (row_values cells) in
    let parts = and_parts (tests && nat_le (stored_length cells) row_limit) (identity_is_set article.identity (row_values cells)) fit in
    let inner = and_parts tests (nat_le (stored_length cells) row_limit) parts.0 in
    grind (arith, nat_tests, inner.1)

-- the identity column is one of the article's
abbrev HasPlace : Article → Type 0
HasPlace article = (identity : Identity) → article.identity ≡ Some identity → identity.column < length article.columns

set-of : (article : Article) (identity : Option Identity) → article.identity ≡ identity → HasPlace article → (values : List Value) → are_good (option_map (λ (i : Identity). i.column) identity) 0 article.columns values ≡ true → identity_is_set identity values ≡ true
set-of article None is place values good = refl
set-of article (Some identity) is place values good =
    let within : identity.column < length values = omega (arith, place identity is, good-length (Some identity.column) 0 article.columns values good) in
    good-set identity.column 0 article.columns values good identity.column (omega arith) within

-- and a row by such parts fits
pub body-from : (article : Article) → HasPlace article → (body : Body) → FitsBody article.tracking body → IsGood article body → stored_length (cells_of body) ≤ row_limit → body_fits body article ≡ true
body-from article place (Dead top) tracked good short = refl
body-from article place (Live cells) tracked good short =
    let within : nat_le (stored_length cells) row_limit ≡ true = grind (arith, nat_tests, short) in
    and_from _ _
    (and_from _ _ (and_from _ _ (test-fits article.tracking cells tracked) (good-fit (identity_place article) 0 article.columns (row_values cells) good)) within)
    (set-of article article.identity refl place (row_values cells) good)

-- Two rows of one article.

count-values : (cells : List Cell) → value_count cells ≡ length (row_values cells)
count-values [] = refl
count-values (cell ∷ cells) = omega (arith, sum_by-cons (λ (c : Cell). length c.values) cell cells, length-append cell.values (row_values cells), count-values cells)

good-count : (article : Article) (cells : List Cell) → IsGood article (Live cells) → value_count cells ≡ length article.columns
good-count article cells good = count-values cells ∙ good-length (identity_place article) 0 article.columns (row_values cells) good

types-count : (columns : List Column) → length columns ≡ length (map (λ (column : Column). column.ty) columns)
types-count [] = refl
types-count (column ∷ columns) = omega (arith, types-count columns)

pub has-columns : (article : Article) (body : Body) → FitsBody article.tracking body → IsGood article body → HasColumns (asked_of article) body
has-columns article (Dead top) tracked good = tt
has-columns article (Live cells) tracked good = (tracked, good-count article cells good ∙ types-count article.columns)

ones : (cells : List Cell) → list_all has_one_value cells ≡ true → map (λ (cell : Cell). length cell.values) cells ≡ map {B = ℕ} (λ (cell : Cell). 1) cells
ones [] all = refl
ones (cell ∷ cells) all =
    let parts = and_parts (has_one_value cell) (list_all has_one_value cells) all in
    let one : length cell.values ≡ 1 = grind (arith, nat_tests, parts.0) in
    ap (λ (n : ℕ). n ∷ map (λ (c : Cell). length c.values) cells) one ∙ ap (λ (ns : List ℕ). 1 ∷ ns) (ones cells parts.1)

ones-count : (cells : List Cell) → list_all has_one_value cells ≡ true → value_count cells ≡ length cells
ones-count [] all = refl
ones-count (cell ∷ cells) all =
    let parts = and_parts (has_one_value cell) (list_all has_one_value cells) all in
    let one : length cell.values ≡ 1 = grind (arith, nat_tests, parts.0) in
    omega (arith, sum_by-cons (λ (c : Cell). length c.values) cell cells, one, ones-count cells parts.1)

as-many-ones : (ps is : List Cell) → length ps ≡ length is → map {B = ℕ} (λ (cell : Cell). 1) ps ≡ map {B = ℕ} (λ (cell : Cell). 1) is
as-many-ones [] [] even = refl
as-many-ones [] (i ∷ is) even = absurd (omega arith)
as-many-ones (p ∷ ps) [] even = absurd (omega arith)
as-many-ones (p ∷ ps) (i ∷ is) even = ap (λ (ns : List ℕ). 1 ∷ ns) (as-many-ones ps is (omega arith))

single-shape : (ps is : List Cell) → length ps ≡ 1 → length is ≡ 1 → value_count ps ≡ value_count is → map (λ (cell : Cell). length cell.values) ps ≡ map (λ (cell : Cell). length cell.values) is
single-shape [] is here there count = absurd (omega arith)
single-shape (p ∷ q ∷ ps) is here there count = absurd (omega arith)
single-shape (p ∷ []) [] here there count = absurd (omega arith)
single-shape (p ∷ []) (i ∷ j ∷ is) here there count = absurd (omega arith)
single-shape (p ∷ []) (i ∷ []) here there count = ap (λ (n : ℕ). n ∷ []) (omega arith)

shape-by : (t : Tracking) (ps is : List Cell) → cells_fit_tracking t ps ≡ true → cells_fit_tracking t is ≡ true → length ps ≡ length is → value_count ps ≡ value_count is
    → map (λ (cell : Cell). length cell.values) ps ≡ map (λ (cell : Cell). length cell.values) is
shape-by tracking.Row ps is here there even count =
    single-shape ps is (grind (arith, nat_tests, here)) (grind (arith, nat_tests, there)) count
shape-by tracking.ByColumn ps is here there even count = ones ps here ∙ as-many-ones ps is even ∙ sym (ones is there)

pub same-shape : (article : Article) (p i : Body) → FitsBody article.tracking p → FitsBody article.tracking i → IsGood article p → IsGood article i → HaveEqualCounts p i → HaveSameShape p i
same-shape article (Live ps) (Live is) here there ours theirs even =
    shape-by article.tracking ps is (test-fits article.tracking ps here) (test-fits article.tracking is there) even (good-count article ps ours ∙ sym (good-count article is theirs))
same-shape article (Live ps) (Dead i) here there ours theirs even = tt
same-shape article (Dead p) (Live is) here there ours theirs even = tt
same-shape article (Dead p) (Dead i) here there ours theirs even = tt

-- The values of a decided row.

by-tests : (P : Decision → Type 0) (fit within : Bool) (kept : List Value) → P KeepPublisher → (fit ≡ true → P (Custom kept)) → P (if fit then within_or_kept within kept else KeepPublisher)
by-tests P true true kept keep custom = custom refl
by-tests P true false kept keep custom = keep
by-tests P false within kept keep custom = keep

some-is : {X : Type 0} (o : Option X) (P : Type 0) → ((x : X) → o ≡ Some x → P) → (is_some o ≡ true) → P
some-is None P f is = absurd (cc is)
some-is (Some x) P f is = f x refl

set-some : (o : Option Value) → is_set o ≡ true → is_some o ≡ true
set-some None set = absurd (cc set)
set-some (Some value) set = refl

-- two live bodies in conflict, and a list
module _ (meeting : Meeting) (article : Article) (place : HasPlace article) (dot : Dot) (ss : List Side) (ps is : List Cell) (here : length ss ≡ length ps) (there : length ss ≡ length is)
    (ours : IsGood article (Live ps)) (theirs : IsGood article (Live is)) where
  abbrev cells_by : Decision → List Cell
  cells_by d = result_cells dot d (decided d) ss ps is

  abbrev IsDecided : Decision → Type 0
  IsDecided d = IsGood article (Live (cells_by d))

  abbrev the_case : ConflictCase
  the_case = case_asked meeting (asked_of article) (Live ps) (Live is) (case.Conflict ss)

  abbrev column_types : List ColumnType
  column_types = map (λ (column : Column). column.ty) article.columns

  module _ (our_ones : list_all has_one_value ps ≡ true) (their_ones : list_all has_one_value is ≡ true) where
    column-sides : (d : Decision) → PicksSide d → IsDecided d
    column-sides d picks = sides-good (identity_place article) dot d picks 0 article.columns ss ps is (decided d) here there our_ones their_ones ours theirs

    column-kept : (identity : Option Identity) → article.identity ≡ identity → (values : List Value) → fit_all (fits_place column_types) (filter_map both_place (enumerate_from 0 ss)) values ≡ true
        → fit_all (is_good_at column_types (option_map (λ (i : Identity). i.column) identity)) (filter_map both_place (enumerate_from 0 ss))
        (with_own (record the_case { kind = kind.ByColumn }) (option_map (λ (i : Identity). i.column) identity) (body_value kind.ByColumn (Live ps) (option_map (λ (i : Identity). i.column) identity)) values) ≡ true
    column-kept None is values fit = placed-plain column_types (filter_map both_place (enumerate_from 0 ss)) values fit
    column-kept (Some identity) is values fit =
        let good : are_good (Some identity.column) 0 article.columns (row_values ps) ≡ true = subst (λ (o : Option Identity). are_good (option_map (λ (i : Identity). i.column) o) 0 article.columns (row_values ps) ≡ true) is ours in
        let within : identity.column < length (row_values ps) = omega (arith, place identity is, good-length (Some identity.column) 0 article.columns (row_values ps) good) in
        let set : is_set (slice_get (row_values ps) identity.column) ≡ true = good-set identity.column 0 article.columns (row_values ps) good identity.column (omega arith) within in
        some-is (slice_get (row_values ps) identity.column) _
        (λ own found.
        let at : cell_value (slice_get ps identity.column) 0 ≡ Some own = sym (cell-of-column ps our_ones identity.column) ∙ found in
        let own-fits : fits_at column_types (0 + identity.column) own ≡ true = good-at (Some identity.column) column_types 0 article.columns (row_values ps) (types-aligned article.columns) good identity.column own found in
        let start : 0 + identity.column ≡ identity.column = omega arith in
        rw at (placed-own column_types identity.column own (filter_map both_place (enumerate_from 0 ss)) values fit (rw start at own-fits) (rw found at set)))
        (set-some (slice_get (row_values ps) identity.column) set)

    column-custom : (values : List Value) → fit_all (fits_place column_types) (filter_map both_place (enumerate_from 0 ss)) values ≡ true
        → IsDecided (Custom (with_own (record the_case { kind = kind.ByColumn }) (identity_place article) (body_value kind.ByColumn (Live ps) (identity_place article)) values))
    column-custom values fit =
        let kept : List Value = with_own (record the_case { kind = kind.ByColumn }) (identity_place article) (body_value kind.ByColumn (Live ps) (identity_place article)) values in
        decided-good column_types (identity_place article) dot kept 0 article.columns ss ps is kept (types-aligned article.columns) here there our_ones their_ones ours theirs (column-kept article.identity refl values fit)

-- with row tracking each row is one cell

all-of : (xs : List Value) (n : ℕ) → length xs ≡ n → take n xs ++ [] ≡ xs
all-of xs n is = append-nil (take n xs) ∙ take_all n xs (omega arith)

row-kept : (article : Article) → HasPlace article → (p : Cell) → IsGood article (Live (p ∷ [])) → (asked : ConflictCase) (values : List Value) → fit_all fits_column (map (λ (column : Column). column.ty) article.columns) values ≡ true
    → (identity : Option Identity) → article.identity ≡ identity
    → are_good (option_map (λ (i : Identity). i.column) identity) 0 article.columns (with_own (record asked { kind = kind.ByRow }) (option_map (λ (i : Identity). i.column) identity) (body_value kind.ByRow (Live (p ∷ [])) (option_map (λ (i : Identity). i.column) identity)) values) ≡ true
row-kept article place p ours asked values fit None is = row-plain 0 article.columns values fit
row-kept article place p ours asked values fit (Some identity) is =
    let whole : are_good (Some identity.column) 0 article.columns (p.values ++ []) ≡ true = subst (λ (o : Option Identity). are_good (option_map (λ (i : Identity). i.column) o) 0 article.columns (p.values ++ []) ≡ true) is ours in
    let good : are_good (Some identity.column) 0 article.columns p.values ≡ true = rw append-nil at whole in
    let within : identity.column < length p.values = omega (arith, place identity is, good-length (Some identity.column) 0 article.columns p.values good) in
    let set : is_set (slice_get p.values identity.column) ≡ true = good-set identity.column 0 article.columns p.values good identity.column (omega arith) within in
    some-is (slice_get p.values identity.column) _
    (λ own found. rw found (row-own identity.column 0 article.columns values p.values identity.column own (omega arith) fit good found))
    (set-some (slice_get p.values identity.column) set)

row-cell : (article : Article) → HasPlace article → (dot : Dot) (s : Side) (p i : Cell) → IsGood article (Live (p ∷ [])) → IsGood article (Live (i ∷ [])) → (kept : List Value) → are_good (identity_place article) 0 article.columns kept ≡ true
    → are_good (identity_place article) 0 article.columns (row_values (result_cells dot (Custom kept) kept (s ∷ []) (p ∷ []) (i ∷ []))) ≡ true
row-cell article place dot side.Neither p i ours theirs kept good = ours
row-cell article place dot side.Publisher p i ours theirs kept good = ours
row-cell article place dot side.Incoming p i ours theirs kept good = theirs
row-cell article place dot side.Both p i ours theirs kept good =
    let mine : are_good (identity_place article) 0 article.columns p.values ≡ true = rw append-nil at ours in
    let same : length kept ≡ length p.values = good-length (identity_place article) 0 article.columns kept good ∙ sym (good-length (identity_place article) 0 article.columns p.values mine) in
    rw (all-of kept (length p.values) same) good

row-side : (article : Article) (dot : Dot) (d : Decision) → PicksSide d → (values : List Value) (s : Side) (p i : Cell) → IsGood article (Live (p ∷ [])) → IsGood article (Live (i ∷ []))
    → are_good (identity_place article) 0 article.columns (row_values (result_cells dot d values (s ∷ []) (p ∷ []) (i ∷ []))) ≡ true
row-side article dot KeepPublisher picks values side.Neither p i ours theirs = ours
row-side article dot KeepPublisher picks values side.Publisher p i ours theirs = ours
row-side article dot KeepPublisher picks values side.Incoming p i ours theirs = theirs
row-side article dot KeepPublisher picks values side.Both p i ours theirs = ours
row-side article dot TakeSubscriber picks values side.Neither p i ours theirs = ours
row-side article dot TakeSubscriber picks values side.Publisher p i ours theirs = ours
row-side article dot TakeSubscriber picks values side.Incoming p i ours theirs = theirs
row-side article dot TakeSubscriber picks values side.Both p i ours theirs = theirs
row-side article dot (Custom vs) picks values s p i ours theirs = absurd picks

row-sides : (article : Article) (dot : Dot) (d : Decision) → PicksSide d → (values : List Value) (ss : List Side) (ps is : List Cell) → length ss ≡ length ps → length ps ≡ 1 → length is ≡ 1 → IsGood article (Live ps) → IsGood article (Live is)
    → are_good (identity_place article) 0 article.columns (row_values (result_cells dot d values ss ps is)) ≡ true
row-sides article dot d picks values [] ps is even one other ours theirs = absurd (omega arith)
row-sides article dot d picks values (s ∷ t ∷ ss) ps is even one other ours theirs = absurd (omega arith)
row-sides article dot d picks values (s ∷ []) [] is even one other ours theirs = absurd (omega arith)
row-sides article dot d picks values (s ∷ []) (p ∷ q ∷ ps) is even one other ours theirs = absurd (omega arith)
row-sides article dot d picks values (s ∷ []) (p ∷ []) [] even one other ours theirs = absurd (omega arith)
row-sides article dot d picks values (s ∷ []) (p ∷ []) (i ∷ j ∷ is) even one other ours theirs = absurd (omega arith)
row-sides article dot d picks values (s ∷ []) (p ∷ []) (i ∷ []) even one other ours theirs = row-side article dot d picks values s p i ours theirs

abbrev kept_by : CaseKind → Article → ConflictCase → List Cell → List Value → List Value
kept_by k article asked ps values = with_own (record asked { kind = k }) (identity_place article) (body_value k (Live ps) (identity_place article)) values

row-custom : (article : Article) → HasPlace article → (dot : Dot) (asked : ConflictCase) (values : List Value) → fit_all fits_column (map (λ (column : Column). column.ty) article.columns) values ≡ true
    → (ss : List Side) (ps is : List Cell) → length ss ≡ length ps → length ps ≡ 1 → length is ≡ 1 → IsGood article (Live ps) → IsGood article (Live is)
    → (let kept : List Value = kept_by kind.ByRow article asked ps values in are_good (identity_place article) 0 article.columns (row_values (result_cells dot (Custom kept) kept ss ps is)) ≡ true)
row-custom article place dot asked values fit [] ps is even one other ours theirs = absurd (omega arith)
row-custom article place dot asked values fit (s ∷ t ∷ ss) ps is even one other ours theirs = absurd (omega arith)
row-custom article place dot asked values fit (s ∷ []) [] is even one other ours theirs = absurd (omega arith)
row-custom article place dot asked values fit (s ∷ []) (p ∷ q ∷ ps) is even one other ours theirs = absurd (omega arith)
row-custom article place dot asked values fit (s ∷ []) (p ∷ []) [] even one other ours theirs = absurd (omega arith)
row-custom article place dot asked values fit (s ∷ []) (p ∷ []) (i ∷ j ∷ is) even one other ours theirs = absurd (omega arith)
row-custom article place dot asked values fit (s ∷ []) (p ∷ []) (i ∷ []) even one other ours theirs =
    row-cell article place dot s p i ours theirs (kept_by kind.ByRow article asked (p ∷ []) values) (row-kept article place p ours asked values fit article.identity refl)

-- Two live bodies in conflict, by either tracking.

module _ (meeting : Meeting) (article : Article) (place : HasPlace article) (dot : Dot) (ss : List Side) (ps is : List Cell) (here : length ss ≡ length ps) (there : length ss ≡ length is)
    (ours : IsGood article (Live ps)) (theirs : IsGood article (Live is)) where
  abbrev case_here : ConflictCase
  case_here = case_asked meeting (asked_of article) (Live ps) (Live is) (case.Conflict ss)

  abbrev HasDecided : Decision → Type 0
  HasDecided d = IsGood article (Live (result_cells dot d (decided d) ss ps is))

  pub live-sides : (t : Tracking) → FitsTracking t ps → FitsTracking t is → (d : Decision) → PicksSide d → HasDecided d
  live-sides tracking.Row our_row their_row d picks = row-sides article dot d picks (decided d) ss ps is here our_row their_row ours theirs
  live-sides tracking.ByColumn our_row their_row d picks =
      sides-good (identity_place article) dot d picks 0 article.columns ss ps is (decided d) here there (test-fits tracking.ByColumn ps our_row) (test-fits tracking.ByColumn is their_row) ours theirs

  live-custom : (t : Tracking) → FitsTracking t ps → FitsTracking t is → (values : List Value) → fit_columns (tracking_kind t) (map (λ (column : Column). column.ty) article.columns) (filter_map both_place (enumerate_from 0 ss)) values ≡ true
      → HasDecided (Custom (kept_by (tracking_kind t) article case_here ps values))
  live-custom tracking.Row our_row their_row values fit = row-custom article place dot case_here values fit ss ps is here our_row their_row ours theirs
  live-custom tracking.ByColumn our_row their_row values fit =
      column-custom meeting article place dot ss ps is here there ours theirs (test-fits tracking.ByColumn ps our_row) (test-fits tracking.ByColumn is their_row) values fit

  pub live-counted : FitsTracking article.tracking ps → FitsTracking article.tracking is → (raw : Decision) → HasDecided (decision_for_question (question_asked meeting (asked_of article) (Live ps) (Live is) (case.Conflict ss)) raw)
  live-counted our_row their_row KeepPublisher = live-sides article.tracking our_row their_row KeepPublisher tt
  live-counted our_row their_row TakeSubscriber = live-sides article.tracking our_row their_row TakeSubscriber tt
  live-counted our_row their_row (Custom values) =
      by-tests HasDecided (fit_columns (tracking_kind article.tracking) (map (λ (column : Column). column.ty) article.columns) (filter_map both_place (enumerate_from 0 ss)) values)
      (is_within ss ps is (kept_by (tracking_kind article.tracking) article case_here ps values)) (kept_by (tracking_kind article.tracking) article case_here ps values)
      (live-sides article.tracking our_row their_row KeepPublisher tt) (live-custom article.tracking our_row their_row values)

-- All cases.

abbrev no_meeting : Meeting
no_meeting = record { article = 0; row = record { 0 = 0 }; site = record { 0 = 0 }; publisher_priority = 0; incoming_priority = 0; moment = record { 0 = 0 } }

module _ (article : Article) (place : HasPlace article) (dot : Dot) (here there : Knowing) where
  winner-good : (d : Decision) (p i : Body) → IsGood article p → IsGood article i → IsGood article (winner_body d p i)
  winner-good KeepPublisher p i ours theirs = ours
  winner-good TakeSubscriber p i ours theirs = theirs
  winner-good (Custom values) p i ours theirs = ours

  live-case : (any : Bool) (ss : List Side) (ps is : List Cell) → length ss ≡ length ps → length ss ≡ length is → FitsTracking article.tracking ps → FitsTracking article.tracking is → IsGood article (Live ps) → IsGood article (Live is)
      → (d : Decision) → PicksSide d → IsGood article (case_body dot d (if any then case.Conflict ss else case.Merge ss) (Live ps) (Live is))
  live-case true ss ps is even other our_row their_row ours theirs d picks = live-sides no_meeting article place dot ss ps is even other ours theirs article.tracking our_row their_row d picks
  live-case false ss ps is even other our_row their_row ours theirs d picks = live-sides no_meeting article place dot ss ps is even other ours theirs article.tracking our_row their_row d picks

  sides-by : (ours theirs : Bool) (p i : Body) → HaveEqualCounts p i → FitsBody article.tracking p → FitsBody article.tracking i → IsGood article p → IsGood article i → (d : Decision) → PicksSide d
      → IsGood article (case_body dot d (news_case ours theirs (bodies_case here there p i)) p i)
  sides-by true true (Live ps) (Live is) counts our_row their_row our their d picks =
      live-case (list_any is_both (sides_of here there ps is)) (sides_of here there ps is) ps is (length-sides_of here there ps is counts) (length-sides_of here there ps is counts ∙ counts) our_row their_row our their d picks
  sides-by true true (Live ps) (Dead i) counts our_row their_row our their d picks = winner-good d (Live ps) (Dead i) our their
  sides-by true true (Dead p) (Live is) counts our_row their_row our their d picks = winner-good d (Dead p) (Live is) our their
  sides-by true true (Dead p) (Dead i) counts our_row their_row our their d picks = our
  sides-by false true p i counts our_row their_row our their d picks = their
  sides-by true false p i counts our_row their_row our their d picks = our
  sides-by false false p i counts our_row their_row our their d picks = our

  counted-live : (meeting : Meeting) (any : Bool) (ss : List Side) (ps is : List Cell) → length ss ≡ length ps → length ss ≡ length is → FitsTracking article.tracking ps → FitsTracking article.tracking is → IsGood article (Live ps) → IsGood article (Live is)
      → (raw : Decision) → is_conflict (if any then case.Conflict ss else case.Merge ss) ≡ true
      → IsGood article (case_body dot (decision_for_question (question_asked meeting (asked_of article) (Live ps) (Live is) (if any then case.Conflict ss else case.Merge ss)) raw) (if any then case.Conflict ss else case.Merge ss) (Live ps) (Live is))
  counted-live meeting true ss ps is even other our_row their_row ours theirs raw conflict = live-counted meeting article place dot ss ps is even other ours theirs our_row their_row raw
  counted-live meeting false ss ps is even other our_row their_row ours theirs raw conflict = absurd (cc conflict)

  counted-by : (meeting : Meeting) (ours theirs : Bool) (p i : Body) → HaveEqualCounts p i → FitsBody article.tracking p → FitsBody article.tracking i → IsGood article p → IsGood article i → (raw : Decision)
      → is_conflict (news_case ours theirs (bodies_case here there p i)) ≡ true
      → IsGood article (case_body dot (decision_for_question (question_asked meeting (asked_of article) p i (news_case ours theirs (bodies_case here there p i))) raw) (news_case ours theirs (bodies_case here there p i)) p i)
  counted-by meeting true true (Live ps) (Live is) counts our_row their_row our their raw conflict =
      counted-live meeting (list_any is_both (sides_of here there ps is)) (sides_of here there ps is) ps is (length-sides_of here there ps is counts) (length-sides_of here there ps is counts ∙ counts) our_row their_row our their raw conflict
  counted-by meeting true true (Live ps) (Dead i) counts our_row their_row our their raw conflict =
      winner-good (decision_for_question (question_asked meeting (asked_of article) (Live ps) (Dead i) case.LifeConflict) raw) (Live ps) (Dead i) our their
  counted-by meeting true true (Dead p) (Live is) counts our_row their_row our their raw conflict =
      winner-good (decision_for_question (question_asked meeting (asked_of article) (Dead p) (Live is) case.LifeConflict) raw) (Dead p) (Live is) our their
  counted-by meeting true true (Dead p) (Dead i) counts our_row their_row our their raw conflict = absurd (cc conflict)
  counted-by meeting false true p i counts our_row their_row our their raw conflict = absurd (cc conflict)
  counted-by meeting true false p i counts our_row their_row our their raw conflict = absurd (cc conflict)
  counted-by meeting false false p i counts our_row their_row our their raw conflict = absurd (cc conflict)

-- Of an article of a publication.

at-place : {X : Type 0} (P : X → Type 0) (xs : List X) → All P xs → (k : ℕ) (x : X) → slice_get xs k ≡ Some x → P x
at-place P [] all k x is = absurd (cc is)
at-place P (y ∷ ys) all zero x is = let same : y ≡ x = cc is in subst P same (All-head P y ys all)
at-place P (y ∷ ys) all (suc k) x is = at-place P ys (All-tail P y ys all) k x is

typed-within : (columns : List Column) (place : ℕ) (ty : ColumnType) → option_map (λ (column : Column). column.ty) (slice_get columns place) ≡ Some ty → place < length columns
typed-within [] place ty is = absurd (cc is)
typed-within (column ∷ columns) zero ty is = omega arith
typed-within (column ∷ columns) (suc place) ty is = omega (arith, typed-within columns place ty is)

has-place : (article : Article) → HasValidIdentity article.columns article.identity → HasPlace article
has-place article valid identity is = typed-within article.columns identity.column types.Int (subst (HasValidIdentity article.columns) is valid).0

-- what holds of the article
pub record HasRules (article : Article) : Type 0 where
  pub place : (identity : Identity) → article.identity ≡ Some identity → identity.column < length article.columns
  pub few : length article.columns ≤ 64

rules-at : (resolvers : ℕ) (publication : Publication) → IsValid resolvers publication → (k : ℕ) (article : Article) → article_at publication k ≡ Some article → HasRules article
rules-at resolvers publication valid k article is =
    let one = at-place (IsValidArticle resolvers publication.articles) publication.articles valid.valid_articles k article is in
    record { place = has-place article one.valid_identity; few = one.some_columns.1 }

-- two versions that fit, and a decision that does
module _ (article : Article) (rules : HasRules article) (held incoming : Version) (ours : body_fits held.body article ≡ true) (theirs : body_fits incoming.body article ≡ true) where
  the_counts : HaveEqualCounts held.body incoming.body
  the_counts = equal_counts article held.body incoming.body ours theirs

  few-values : (body : Body) → IsGood article body → value_count (cells_of body) ≤ 64
  few-values (Live cells) good = omega (arith, good-count article cells good, rules.few)
  few-values (Dead top) good = omega arith

  keep-decided : (c : Case) (body : Body) → FitsDecision c body KeepPublisher
  keep-decided case.Nothing body = tt
  keep-decided case.Take body = tt
  keep-decided case.Unite body = tt
  keep-decided (case.Merge sides) body = tt
  keep-decided (case.Conflict sides) (Live cells) = tt
  keep-decided (case.Conflict sides) (Dead top) = tt
  keep-decided case.LifeConflict body = tt

  body-kept : (dot : Dot) → body_fits (case_body dot KeepPublisher (case_of held incoming) held.body incoming.body) article ≡ true
  body-kept dot =
      let our_row = tracked-body article held.body ours in
      let their_row = tracked-body article incoming.body theirs in
      let our = good-body article held.body ours in
      let their = good-body article incoming.body theirs in
      body-from article rules.place (case_body dot KeepPublisher (case_of held incoming) held.body incoming.body)
      (result_fits article.tracking held incoming KeepPublisher dot the_counts (keep-decided (case_of held incoming) held.body) our_row their_row)
      (sides-by article rules.place dot (knows held.lineage) (knows incoming.lineage) (has_news (knows incoming.lineage) held.body) (has_news (knows held.lineage) incoming.body) held.body incoming.body the_counts our_row their_row our their KeepPublisher tt)
      (rows_stay_by dot (knows held.lineage) (knows incoming.lineage) KeepPublisher tt held.body incoming.body (same-shape article held.body incoming.body our_row their_row our their the_counts) (few-values held.body our) (short-body article held.body ours) (short-body article incoming.body theirs))

  counted-decided : (meeting : Meeting) (raw : Decision) → is_conflict (case_of held incoming) ≡ true
      → FitsDecision (case_of held incoming) held.body (decision_for_question (question_asked meeting (asked_of article) held.body incoming.body (case_of held incoming)) raw)
  counted-decided meeting raw conflict =
      counted_fits (knows held.lineage) (knows incoming.lineage) meeting (asked_of article) held.body incoming.body raw the_counts (has-columns article held.body (tracked-body article held.body ours) (good-body article held.body ours)) conflict

  body-counted : (meeting : Meeting) (raw : Decision) → is_conflict (case_of held incoming) ≡ true → (dot : Dot)
      → body_fits (case_body dot (decision_for_question (question_asked meeting (asked_of article) held.body incoming.body (case_of held incoming)) raw) (case_of held incoming) held.body incoming.body) article ≡ true
  body-counted meeting raw conflict dot =
      let d = decision_for_question (question_asked meeting (asked_of article) held.body incoming.body (case_of held incoming)) raw in
      let our_row = tracked-body article held.body ours in
      let their_row = tracked-body article incoming.body theirs in
      let our = good-body article held.body ours in
      let their = good-body article incoming.body theirs in
      body-from article rules.place (case_body dot d (case_of held incoming) held.body incoming.body)
      (result_fits article.tracking held incoming d dot the_counts (counted-decided meeting raw conflict) our_row their_row)
      (counted-by article rules.place dot (knows held.lineage) (knows incoming.lineage) meeting (has_news (knows incoming.lineage) held.body) (has_news (knows held.lineage) incoming.body) held.body incoming.body the_counts our_row their_row our their raw conflict)
      (counted_stays_in_limit (knows held.lineage) (knows incoming.lineage) meeting (asked_of article) held.body incoming.body raw dot (same-shape article held.body incoming.body our_row their_row our their the_counts) (has-columns article held.body our_row our) (few-values held.body our) (short-body article held.body ours) (short-body article incoming.body theirs) conflict)

-- the article of a row that fits
article-of : (publication : Publication) (k : ℕ) (body : Body) (P : Type 0) → fits_article publication k body ≡ true → ((article : Article) → article_at publication k ≡ Some article → P) → P
article-of publication k body P fit f = by (article_at publication k) refl
  where
    by : (found : Option Article) → article_at publication k ≡ found → P
    by None is = absurd (cc (rw is at fit))
    by (Some article) is = f article is

module _ (resolvers : ℕ) (publication : Publication) (valid : IsValid resolvers publication) (k : ℕ) (held incoming : Version) (ours : fits_article publication k held.body ≡ true) (theirs : fits_article publication k incoming.body ≡ true) where
  pub counts-equal : HaveEqualCounts held.body incoming.body
  counts-equal = article-of publication k held.body _ ours (λ article is. equal_counts article held.body incoming.body (rw is at ours) (rw is at theirs))

  -- where nothing conflicts the publisher's version stays
  pub may-keep : MayDecide publication k held incoming KeepPublisher
  may-keep = article-of publication k held.body _ ours (λ article is. record {
    decided = keep-decided article (rules-at resolvers publication valid k article is) held incoming (rw is at ours) (rw is at theirs) (case_of held incoming) held.body;
    fits = λ dot. rw is (body-kept article (rules-at resolvers publication valid k article is) held incoming (rw is at ours) (rw is at theirs) dot);
  })

  -- a decision on a conflict counts as one that may be applied
  pub may-count : (meeting : Meeting) (raw : Decision) → is_conflict (case_of held incoming) ≡ true → MayDecide publication k held incoming (decision_for_question (question_asked meeting (asked_at publication k) held.body incoming.body (case_of held incoming)) raw)
  may-count meeting raw conflict = article-of publication k held.body _ ours (λ article is. record {
    decided = rw is (counted-decided article (rules-at resolvers publication valid k article is) held incoming (rw is at ours) (rw is at theirs) meeting raw conflict);
    fits = λ dot. rw is (body-counted article (rules-at resolvers publication valid k article is) held incoming (rw is at ours) (rw is at theirs) meeting raw conflict dot);
  })

  cells-by-tracking : (t : Tracking) (cells : List Cell) → FitsTracking t cells → value_count cells ≤ 64 → length cells ≤ 64
  cells-by-tracking tracking.Row cells tracked few = omega (arith, tracked)
  cells-by-tracking tracking.ByColumn cells tracked few = omega (arith, few, ones-count cells (test-fits tracking.ByColumn cells tracked))

  sides-by-any : (any : Bool) (ss : List Side) → length ss ≤ 64 → length (sides_of_case (if any then case.Conflict ss else case.Merge ss)) ≤ 64
  sides-by-any true ss few = few
  sides-by-any false ss few = omega arith

  sides-by-news : (here there : Knowing) (our their : Bool) (p i : Body) → HaveEqualCounts p i → length (cells_of p) ≤ 64 → length (sides_of_case (news_case our their (bodies_case here there p i))) ≤ 64
  sides-by-news here there true true (Live ps) (Live is) counts few = sides-by-any (list_any is_both (sides_of here there ps is)) (sides_of here there ps is) (omega (arith, few, length-sides_of here there ps is counts))
  sides-by-news here there true true (Live ps) (Dead i) counts few = omega arith
  sides-by-news here there true true (Dead p) (Live is) counts few = omega arith
  sides-by-news here there true true (Dead p) (Dead i) counts few = omega arith
  sides-by-news here there false true p i counts few = omega arith
  sides-by-news here there true false p i counts few = omega arith
  sides-by-news here there false false p i counts few = omega arith

  few-cells : (article : Article) → HasRules article → (body : Body) → body_fits body article ≡ true → length (cells_of body) ≤ 64
  few-cells article rules (Dead top) fit = omega arith
  few-cells article rules (Live cells) fit =
      cells-by-tracking article.tracking cells (tracked-body article (Live cells) fit) (omega (arith, good-count article cells (good-body article (Live cells) fit), rules.few))

  -- a case names few sides
  pub few-sides : (c : Case) → c ≡ case_of held incoming → length (sides_of_case c) ≤ 256
  few-sides c is = article-of publication k held.body _ ours (λ article found.
      let few = few-cells article (rules-at resolvers publication valid k article found) held.body (rw found at ours) in
      let sides : length (sides_of_case (case_of held incoming)) ≤ 64 = sides-by-news (knows held.lineage) (knows incoming.lineage) (has_news (knows incoming.lineage) held.body) (has_news (knows held.lineage) incoming.body) held.body incoming.body counts-equal few in
      rw is (omega (arith, sides)))
