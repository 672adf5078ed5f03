-- Articles and columns by name.
use Rattle.std.specs.Prelude.{ℕ, ◌++◌, List, [], ◌∷◌, Bool, bytes_eq, if◌then◌else◌, Option, Some, None, is_some, unwrap_or, find, position}
use Rattle.std.specs.List.{list_any}
use Rattle.merge_types.specs.declared.values.Column.{Column}
use Rattle.merge_schema.specs.declared.draft.ArticleDraft.{ArticleDraft}

abbrev pub stands_in : List (List ℕ) → List ℕ → Bool
stands_in names name = list_any (λ other. bytes_eq other name) names

-- the first name that stood before
abbrev pub repeated_behind : List (List ℕ) → List (List ℕ) → Option (List ℕ)
repeated_behind before [] = None
repeated_behind before (name ∷ names) = if stands_in before name then Some name else repeated_behind (before ++ name ∷ []) names

abbrev pub first_repeated : List (List ℕ) → Option (List ℕ)
first_repeated names = repeated_behind [] names

abbrev pub column_place : List Column → List ℕ → Option ℕ
column_place columns name = position (λ (column : Column). bytes_eq column.name name) columns

abbrev pub has_column : List Column → List ℕ → Bool
has_column columns name = is_some (column_place columns name)

abbrev pub draft_place : List ArticleDraft → List ℕ → Option ℕ
draft_place articles name = position (λ (article : ArticleDraft). bytes_eq article.name name) articles

abbrev pub columns_of : Option ArticleDraft → List Column
columns_of None = []
columns_of (Some article) = article.columns

-- the columns of the article with this name
abbrev pub columns_named : List ArticleDraft → List ℕ → List Column
columns_named articles name = columns_of (find (λ (article : ArticleDraft). bytes_eq article.name name) articles)

-- a place that was found; these are looked up once all names are known
abbrev pub found : Option ℕ → ℕ
found place = unwrap_or place 0
