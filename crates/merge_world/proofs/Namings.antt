-- Names and their places.
use Rattle.std.proofs.Common.{◌≡◌, ◌<◌, ◌+◌, ◌++◌, ℕ, zero, suc, Bool, true, cond, List, [], ◌∷◌, Option, Some, None, get_or, length, map, refl, ap, sym, subst, ◌∙◌, arith}
use Rattle.std.specs.List.{position, position_from, slice_get}
use Rattle.std.specs.Map.{keys_of}
use Rattle.std.specs.Ordering.{nat_cmp}
use Rattle.std.specs.List.Sorted.{IsStrictlySortedBy}
use Rattle.std.specs.Prelude.{IfSome, is_some}
use Rattle.std.specs.Str.{bytes_eq}
use Rattle.std.proofs.lemmas.Grind.{common_steps}
use Rattle.std.proofs.lemmas.Iterator.Adapters.{position_from-zero}
use Rattle.std.proofs.lemmas.List.{get_or-map, length-map}
use Rattle.std.proofs.lemmas.Map.Keys.{below_from_sorted}
use Rattle.merge_types.specs.declared.changes.Setting.{Setting}
use Rattle.merge_types.specs.declared.values.Column.{Column}
use Rattle.merge_types.specs.declared.values.Value.{Value}
use Rattle.merge_units.specs.Changes.{ColumnsAscend}
use Rattle.merge_schema.specs.declared.publication.Article.{Article}
use Rattle.merge_schema.specs.declared.publication.Publication.{Publication}
use Rattle.merge_batch.specs.Articles.{has_article}
use Rattle.merge_model.specs.World.Naming.{article_place, column_place, place_from, setting_of}

-- The first place.
place-from : {A : Type 0} (place : ℕ) (test : A → Bool) (xs : List A) → place_from place test xs ≡ position_from test place xs
place-from place test [] = refl
place-from place test (x ∷ xs) = ap (cond (test x) (Some place)) (place-from (place + 1) test xs)

place-first : {A : Type 0} (test : A → Bool) (xs : List A) → position test xs ≡ place_from 0 test xs
place-first test xs = position_from-zero test xs ∙ sym (place-from 0 test xs)

pub article-first : (p : Publication) (name text : List ℕ) → text ≡ name → position (λ (article : Article). bytes_eq article.name text) p.articles ≡ article_place p name
article-first p name text same = place-first (λ (article : Article). bytes_eq article.name text) p.articles ∙ ap (λ (n : List ℕ). article_place p n) same

pub column-found : (columns : List Column) (name : List ℕ) (place byte : ℕ) → Some place ≡ position (λ (column : Column). bytes_eq column.name name) columns → byte ≡ place → Some byte ≡ column_place columns name
column-found columns name place byte found same = ap (λ (n : ℕ). Some n) same ∙ (found ∙ place-first (λ (column : Column). bytes_eq column.name name) columns)

pub column-unfound : (columns : List Column) (name : List ℕ) → None ≡ position (λ (column : Column). bytes_eq column.name name) columns → None ≡ column_place columns name
column-unfound columns name none = none ∙ place-first (λ (column : Column). bytes_eq column.name name) columns

-- a place in a list is one of a member
is-there : {A : Type 0} (xs : List A) (i : ℕ) → i < length xs → is_some (slice_get xs i) ≡ true
is-there [] i lt = absurd (omega (arith, lt))
is-there (x ∷ xs) zero lt = refl
is-there (x ∷ xs) (suc i) lt = is-there xs i (omega (arith, lt))

pub has-found : (p : Publication) (found : Option ℕ) → IfSome found (λ place. place < length p.articles) → IfSome found (λ place. has_article p place ≡ true)
has-found p None within = tt
has-found p (Some place) within = is-there p.articles place within

-- Settings stand in the order of their columns.
column-at : (rows : List (ℕ × Value)) (i : ℕ) (d : Setting) → i < length rows → get_or (keys_of rows) i d.column ≡ (get_or (map setting_of rows) i d).column
column-at rows i d lt = get_or-map (λ (row : ℕ × Value). row.0) rows i (d.column, d.value) d.column lt ∙ sym (ap (λ (s : Setting). s.column) (get_or-map setting_of rows i (d.column, d.value) d lt))

pub settings-ascend : (rows : List (ℕ × Value)) → IsStrictlySortedBy nat_cmp (keys_of rows) → ColumnsAscend (map setting_of rows)
settings-ascend rows sorted i j d less within =
    let n : j < length rows = omega (arith, within, length-map rows setting_of) in
    let m : i < length rows = omega (arith, n, less) in
    let k : j < length (keys_of rows) = omega (arith, n, length-map rows (λ (row : ℕ × Value). row.0)) in
    subst (λ (c : ℕ). c < (get_or (map setting_of rows) j d).column) (column-at rows i d m)
    (subst (λ (c : ℕ). get_or (keys_of rows) i d.column < c) (column-at rows j d n) (below_from_sorted (keys_of rows) i j d.column sorted less k))

pub all-settings : (settings : List Setting) (rest rows : List (ℕ × Value)) → settings ++ map setting_of rest ≡ map setting_of rows → rest ≡ [] → IsStrictlySortedBy nat_cmp (keys_of rows) → ColumnsAscend settings
all-settings settings rest rows so_far none sorted = subst ColumnsAscend (sym whole) (settings-ascend rows sorted)
  where
    whole : settings ≡ map setting_of rows
    whole = grind (arith, common_steps, so_far, none)
