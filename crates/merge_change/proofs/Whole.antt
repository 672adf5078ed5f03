-- A change that is allowed makes a row that fits its article.
use Rattle.std.proofs.Common.{◌≡◌, ◌≤◌, ◌<◌, ◌+◌, ◌&&◌, ◌==◌, ℕ, ℤ, zero, suc, Bool, true, false, List, [], ◌∷◌, ◌++◌, length, map, Option, Some, None, option_map, unwrap_or, slice_get, is_some, if◌then◌else◌, pos, refl, sym, ap, ◌∙◌, subst, arith}
use Rattle.std.specs.Prelude.{nat_lt, nat_le, not, IsSome}
use Rattle.std.specs.List.{enumerate_from, list_any}
use Rattle.std.specs.Option.{option_and_then, option_map_or}
use Rattle.std.proofs.lemmas.Bool.Decides.{nat_tests}
use Rattle.std.proofs.lemmas.Bool.{and_parts, and_from, le-leb}
use Rattle.std.proofs.lemmas.Option.{slice_get-map}
use Rattle.merge_types.specs.Length.{row_length, stored_length}
use Rattle.merge_types.specs.Limits.{row_limit}
use Rattle.merge_types.specs.declared.changes.Change.{Change}
use Rattle.merge_types.specs.declared.changes.Change.TheVariants.{Delete, Insert, Update}
use Rattle.merge_types.specs.declared.changes.Setting.{Setting}
use Rattle.merge_types.specs.declared.changes.Tracking.{Tracking}
use Rattle.merge_types.specs.declared.changes.Tracking.TheVariants as tracking
use Rattle.merge_types.specs.declared.identifiers.Dot.{Dot}
use Rattle.merge_types.specs.declared.identifiers.RowId.{RowId}
use Rattle.merge_types.specs.declared.values.ColumnType.{ColumnType}
use Rattle.merge_types.specs.declared.values.ColumnType.TheVariants as types
use Rattle.merge_types.specs.declared.values.Column.{Column}
use Rattle.merge_types.specs.declared.values.Value.{Value}
use Rattle.merge_types.specs.declared.values.Value.TheVariants.{Int, Null}
use Rattle.merge_units.specs.Changes.{cells_after, new_cells, set_value, value_after}
use Rattle.merge_units.specs.Length as rows
use Rattle.merge_units.specs.Version.{cells_of, is_live}
use Rattle.merge_units.specs.declared.version.Body.{Body}
use Rattle.merge_units.specs.declared.version.Body.TheVariants.{Live, Dead}
use Rattle.merge_units.specs.declared.version.Cell.{Cell}
use Rattle.merge_units.specs.declared.version.Version.{Version}
use Rattle.merge_schema.specs.Valid.{IsValid, IsValidArticle, HasValidIdentity}
use Rattle.merge_schema.specs.declared.publication.Article.{Article}
use Rattle.merge_schema.specs.declared.publication.Identity.{Identity}
use Rattle.merge_schema.specs.declared.publication.Publication.{Publication}
use Rattle.merge_batch.proofs.Firsts.{all-at}
use Rattle.merge_types.specs.Fitting.{has_type}
use Rattle.merge_schema.specs.Places.{article_at}
use Rattle.merge_batch.specs.Articles.{body_fits, cells_fit, cells_fit_tracking, fits_article, has_article, has_one_value, identity_is_set, is_set, row_values, values_fit}
use Rattle.merge_batch.specs.LocalChanges.{article_of, identity_column, long_row, long_value, new_value, new_values, no_row, refused_if, sets_identity, settings_of, tracking_at, types_at, version_after, wrong_type}
use Rattle.merge_batch.specs.declared.refusal.Refusal.{Refusal}
use Rattle.merge_change.specs.Allowed.{CanBeAsked, FitsColumns, FitsHeld, HasIdentity, IsAllowed, IsIdentity}
use Rattle.merge_change.proofs.FitsAfter.{IdentityFits, kept-set, new-fit, new-ones, new-set, new-values, updated-fit, updated-ones, updated-values}
use Rattle.merge_change.proofs.Lengths.{new-length, row-cons}

end-nothing : {X : Type 0} (xs : List X) → xs ++ [] ≡ xs
end-nothing [] = refl
end-nothing (x ∷ xs) = ap (λ ys. x ∷ ys) (end-nothing xs)

all-four : (a b c d : Bool) → a ≡ true → b ≡ true → c ≡ true → d ≡ true → (a && b && c && d) ≡ true
all-four a b c d p q r s = and_from _ _ (and_from _ _ (and_from _ _ p q) r) s

-- The cells of a new row.

new-tracking : (t : Tracking) (dot : Dot) (values : List Value) → cells_fit_tracking t (new_cells t dot values) ≡ true
new-tracking tracking.Row dot values = refl
new-tracking tracking.ByColumn dot values = new-ones dot values

new-row-values : (t : Tracking) (dot : Dot) (values : List Value) → row_values (new_cells t dot values) ≡ values
new-row-values tracking.Row dot values = end-nothing values
new-row-values tracking.ByColumn dot values = new-values dot values

new-cells-fit : (a : Article) (dot : Dot) (values : List Value) → values_fit a.columns values ≡ true → row_length values ≤ 8000 → identity_is_set a.identity values ≡ true
    → cells_fit a (new_cells a.tracking dot values) ≡ true
new-cells-fit a dot values fit low set = all-four _ _ _ _
    (new-tracking a.tracking dot values)
    (rw (new-row-values a.tracking dot values) fit)
    (rw (new-length a.tracking dot values) (le-leb (row_length values) 8000 low))
    (rw (new-row-values a.tracking dot values) set)

-- The cells after an update.

after-tracking : (t : Tracking) (dot : Dot) (settings : List Setting) (cells : List Cell) → cells_fit_tracking t cells ≡ true → cells_fit_tracking t (cells_after t dot settings cells) ≡ true
after-tracking tracking.Row dot settings [] fits = absurd (cc fits)
after-tracking tracking.Row dot settings (cell ∷ []) fits = refl
after-tracking tracking.Row dot settings (cell ∷ next ∷ cells) fits = absurd (grind (arith, nat_tests, fits))
after-tracking tracking.ByColumn dot settings cells fits = updated-ones dot settings 0 cells fits

after-row-values : (t : Tracking) (dot : Dot) (settings : List Setting) (cells : List Cell) → cells_fit_tracking t cells ≡ true
    → row_values (cells_after t dot settings cells) ≡ map (value_after settings) (enumerate_from 0 (row_values cells))
after-row-values tracking.Row dot settings [] fits = absurd (cc fits)
after-row-values tracking.Row dot settings (cell ∷ []) fits =
    end-nothing (map (value_after settings) (enumerate_from 0 cell.values)) ∙ ap (λ (values : List Value). map (value_after settings) (enumerate_from 0 values)) (sym (end-nothing cell.values))
after-row-values tracking.Row dot settings (cell ∷ next ∷ cells) fits = absurd (grind (arith, nat_tests, fits))
after-row-values tracking.ByColumn dot settings cells fits = updated-values dot settings 0 cells fits

-- an identity column that is not set keeps its value
kept-identity : (settings : List Setting) (identity : Option Identity) (values : List Value) → sets_identity settings (option_map (λ (one : Identity). one.column) identity) ≡ None → identity_is_set identity values ≡ true
    → identity_is_set identity (map (value_after settings) (enumerate_from 0 values)) ≡ true
kept-identity settings None values unset set = refl
kept-identity settings (Some identity) values unset set =
    let not-set : (b : Bool) (refusal : Refusal) → refused_if b refusal ≡ None → b ≡ false = λ b refusal. elim b as (λ v. refused_if v refusal ≡ None → v ≡ false) [ true ↦ λ h. absurd (cc h) | false ↦ λ h. refl ] in
    kept-set settings identity.column (not-set _ _ unset) values (slice_get values identity.column) refl set

after-cells-fit : (a : Article) (dot : Dot) (settings : List Setting) → wrong_type (map (λ (column : Column). column.ty) a.columns) settings ≡ None → long_value settings ≡ None
    → sets_identity settings (option_map (λ (one : Identity). one.column) a.identity) ≡ None → (cells : List Cell) → cells_fit a cells ≡ true
    → rows.stored_length (cells_after a.tracking dot settings cells) ≤ 8000 → cells_fit a (cells_after a.tracking dot settings cells) ≡ true
after-cells-fit a dot settings right short unset cells fits low =
    let outer = and_parts _ _ fits in
    let inner = and_parts _ _ outer.0 in
    let first = and_parts _ _ inner.0 in
    let values = after-row-values a.tracking dot settings cells first.0 in
    all-four _ _ _ _
    (after-tracking a.tracking dot settings cells first.0)
    (rw values (updated-fit a.columns settings right short (row_values cells) first.1))
    (le-leb _ 8000 low)
    (rw values (kept-identity settings a.identity (row_values cells) unset outer.1))

-- The values of a new row, with whatever identity value.

low-from : (n : ℕ) (refusal : Refusal) → refused_if (nat_lt row_limit n) refusal ≡ None → n ≤ 8000
low-from n refusal none =
    let by : (b : Bool) → nat_lt row_limit n ≡ b → refused_if b refusal ≡ None → n ≤ 8000 = λ b. elim b as (λ v. nat_lt row_limit n ≡ v → refused_if v refusal ≡ None → n ≤ 8000) [
      | true ↦ λ is h. absurd (cc h)
      | false ↦ λ is h. grind (arith, nat_tests, is)
    ] in by (nat_lt row_limit n) refl none

same-length : (place : Option ℕ) (identity : Value) → IsIdentity place identity → (settings : List Setting) (column : ℕ) → stored_length (new_value place identity settings column) ≡ stored_length (new_value place (Int (pos 0)) settings column)
same-length None identity is settings column = refl
same-length (Some place) identity is settings column =
    let by : (b : Bool) → stored_length (if b then identity else unwrap_or (set_value settings column) Null) ≡ stored_length (if b then Int (pos 0) else unwrap_or (set_value settings column) Null) = λ b. elim b as (λ v. stored_length (if v then identity else unwrap_or (set_value settings column) Null) ≡ stored_length (if v then Int (pos 0) else unwrap_or (set_value settings column) Null)) [
      | true ↦ rw is.1 refl
      | false ↦ refl
    ] in by (column == place)

same-lengths : (place : Option ℕ) (identity : Value) → IsIdentity place identity → (settings : List Setting) (n : ℕ) (all : List ColumnType)
    → row_length (map (λ (p : ℕ × ColumnType). new_value place identity settings p.0) (enumerate_from n all)) ≡ row_length (map (λ (p : ℕ × ColumnType). new_value place (Int (pos 0)) settings p.0) (enumerate_from n all))
same-lengths place identity is settings n [] = refl
same-lengths place identity is settings n (ty ∷ all) =
    omega (
      arith,
      row-cons (new_value place identity settings n) (map (λ (p : ℕ × ColumnType). new_value place identity settings p.0) (enumerate_from (n + 1) all)),
      row-cons (new_value place (Int (pos 0)) settings n) (map (λ (p : ℕ × ColumnType). new_value place (Int (pos 0)) settings p.0) (enumerate_from (n + 1) all)),
      same-length place identity is settings n,
      same-lengths place identity is settings (n + 1) all,
    )

-- an identity column is of type int
int-fits : (columns : List Column) (identity : Option Identity) → HasValidIdentity columns identity → (value : Value) → IsIdentity (option_map (λ (one : Identity). one.column) identity) value
    → IdentityFits (map (λ (column : Column). column.ty) columns) (option_map (λ (one : Identity). one.column) identity) value
unfolding has_type
int-fits columns None valid value is = tt
int-fits columns (Some identity) valid value is = λ ty found.
    let same : Some types.Int ≡ Some ty = sym valid.0 ∙ sym (slice_get-map (λ (column : Column). column.ty) columns identity.column) ∙ found in
    let is-int : types.Int ≡ ty = cc same in
    rw (← is-int, is.1) refl

int-set : (columns : List Column) (identity : Option Identity) → HasValidIdentity columns identity → (value : Value) → IsIdentity (option_map (λ (one : Identity). one.column) identity) value → (settings : List Setting)
    → identity_is_set identity (map (λ (p : ℕ × ColumnType). new_value (option_map (λ (one : Identity). one.column) identity) value settings p.0) (enumerate_from 0 (map (λ (column : Column). column.ty) columns))) ≡ true
int-set columns None valid value is settings = refl
int-set columns (Some identity) valid value is settings =
    new-set settings identity.column value (rw is.1 refl) (map (λ (column : Column). column.ty) columns) types.Int (slice_get-map (λ (column : Column). column.ty) columns identity.column ∙ valid.0)

-- Together.

valid-identity : (resolvers : ℕ) (publication : Publication) → IsValid resolvers publication → (place : ℕ) (a : Article) → article_at publication place ≡ Some a → HasValidIdentity a.columns a.identity
valid-identity resolvers publication valid place a is = let article = all-at (IsValidArticle resolvers publication.articles) publication.articles valid.valid_articles place a is in article.valid_identity

new-at : (publication : Publication) → (resolvers : ℕ) → IsValid resolvers publication → (place : ℕ) (found : Option Article) → article_at publication place ≡ found → is_some found ≡ true
    → (settings : List Setting) → wrong_type (types_at publication place) settings ≡ None → long_value settings ≡ None → (identity : Value) → IsIdentity (identity_column publication place) identity → (dot : Dot)
    → rows.stored_length (new_cells (tracking_at publication place) dot (new_values publication place (Int (pos 0)) settings)) ≤ 8000
    → fits_article publication place (Live (new_cells (tracking_at publication place) dot (new_values publication place identity settings))) ≡ true
new-at publication resolvers valid place None is has settings right short identity whole dot low = absurd (cc has)
new-at publication resolvers valid place (Some a) is has settings right short identity whole dot low =
    let valid-one = valid-identity resolvers publication valid place a is in
    let right-a : wrong_type (map (λ (column : Column). column.ty) a.columns) settings ≡ None = rw is at right in
    let whole-a : IsIdentity (option_map (λ (one : Identity). one.column) a.identity) identity = rw is at whole in
    let zeros : List Value = map (λ (p : ℕ × ColumnType). new_value (option_map (λ (one : Identity). one.column) a.identity) (Int (pos 0)) settings p.0) (enumerate_from 0 (map (λ (column : Column). column.ty) a.columns)) in
    let low-a : rows.stored_length (new_cells a.tracking dot zeros) ≤ 8000 = rw is at low in
    let low-b : row_length zeros ≤ 8000 = rw (new-length a.tracking dot zeros) at low-a in
    let low-c : row_length (map (λ (p : ℕ × ColumnType). new_value (option_map (λ (one : Identity). one.column) a.identity) identity settings p.0) (enumerate_from 0 (map (λ (column : Column). column.ty) a.columns))) ≤ 8000 =
    rw (same-lengths (option_map (λ (one : Identity). one.column) a.identity) identity whole-a settings 0 (map (λ (column : Column). column.ty) a.columns)) low-b in
    rw is (new-cells-fit a dot _
    (new-fit a.columns settings right-a short (option_map (λ (one : Identity). one.column) a.identity) identity (int-fits a.columns a.identity valid-one identity whole-a))
    low-c
    (int-set a.columns a.identity valid-one identity whole-a settings))

after-at : (publication : Publication) (place : ℕ) (found : Option Article) → article_at publication place ≡ found
    → (settings : List Setting) → wrong_type (types_at publication place) settings ≡ None → long_value settings ≡ None → sets_identity settings (identity_column publication place) ≡ None
    → (cells : List Cell) → fits_article publication place (Live cells) ≡ true → (dot : Dot)
    → rows.stored_length (cells_after (tracking_at publication place) dot settings cells) ≤ 8000
    → fits_article publication place (Live (cells_after (tracking_at publication place) dot settings cells)) ≡ true
after-at publication place None is settings right short unset cells fits dot low = absurd (cc (rw is at fits))
after-at publication place (Some a) is settings right short unset cells fits dot low =
    rw is (after-cells-fit a dot settings (rw is at right) short (rw is at unset) cells (rw is at fits) (rw is at low))

-- a deleted row fits where its article exists
dead-fits : (publication : Publication) (place : ℕ) (found : Option Article) → article_at publication place ≡ found → is_some found ≡ true → (dot : Dot) → fits_article publication place (Dead dot) ≡ true
dead-fits publication place None is has dot = absurd (cc has)
dead-fits publication place (Some a) is has dot = rw is refl

lives-from : (b : Bool) (refusal : Refusal) → refused_if (not b) refusal ≡ None → b ≡ true
lives-from true refusal none = refl
lives-from false refusal none = absurd (cc none)

updated-fits : (publication : Publication) (place : ℕ) (settings : List Setting) → wrong_type (types_at publication place) settings ≡ None → long_value settings ≡ None → sets_identity settings (identity_column publication place) ≡ None
    → (body : Body) → is_live body ≡ true → fits_article publication place body ≡ true → (dot : Dot) → rows.stored_length (cells_after (tracking_at publication place) dot settings (cells_of body)) ≤ 8000
    → fits_article publication place (Live (cells_after (tracking_at publication place) dot settings (cells_of body))) ≡ true
updated-fits publication place settings right short unset (Live cells) live fits dot low = after-at publication place (article_at publication place) refl settings right short unset cells fits dot low
updated-fits publication place settings right short unset (Dead top) live fits dot low = absurd (cc live)

pub version-fits : (publication : Publication) (change : Change) (held : Option Version) → CanBeAsked publication change held → IsAllowed publication change held
    → (identity : Value) → HasIdentity publication change identity → (dot : Dot)
    → FitsHeld publication (article_of change) (version_after publication dot identity change held)
version-fits publication (Insert article settings) held asked allowed identity whole dot =
    new-at publication asked.valid.0 asked.valid.1 article (article_at publication article) refl asked.place settings allowed.columns.types allowed.columns.values identity whole dot (low-from _ _ (allowed.length dot))
version-fits publication (Update article row settings) None asked allowed identity whole dot = tt
version-fits publication (Update article row settings) (Some version) asked allowed identity whole dot =
    updated-fits publication article settings allowed.columns.types allowed.columns.values allowed.columns.identity version.body (lives-from _ _ allowed.columns.row) asked.fits dot (low-from _ _ (allowed.length dot))
version-fits publication (Delete article row) None asked allowed identity whole dot = tt
version-fits publication (Delete article row) (Some version) asked allowed identity whole dot = dead-fits publication article (article_at publication article) refl asked.place dot

-- a change of a row that lives leaves a version
pub version-there : (publication : Publication) (change : Change) (held : Option Version) → no_row change held ≡ None → (identity : Value) (dot : Dot) → IsSome (version_after publication dot identity change held)
version-there publication (Insert article settings) held lives identity dot = refl
version-there publication (Update article row settings) None lives identity dot = absurd cc
version-there publication (Update article row settings) (Some version) lives identity dot = refl
version-there publication (Delete article row) None lives identity dot = absurd cc
version-there publication (Delete article row) (Some version) lives identity dot = refl
