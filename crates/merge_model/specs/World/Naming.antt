-- The names of an event: articles and columns of the publication.
use Rattle.std.specs.Prelude.{Bool, Err, List, None, Ok, Option, Result, Some, [], if◌then◌else◌, map, ℕ, ◌+◌, ◌∷◌}
use Rattle.merge_types.specs.declared.changes.Change.{Change}
use Rattle.merge_types.specs.declared.changes.Change.TheVariants.{Delete, Insert, Update}
use Rattle.merge_types.specs.declared.changes.Setting.{Setting}
use Rattle.merge_types.specs.declared.identifiers.RowId.{RowId}
use Rattle.merge_types.specs.declared.values.Column.{Column}
use Rattle.merge_types.specs.declared.values.Value.{Value}
use Rattle.merge_schema.specs.declared.publication.Article.{Article}
use Rattle.merge_schema.specs.declared.publication.Publication.{Publication}
use Rattle.merge_model.specs.Script.Literals.{same}
use Rattle.merge_model.specs.Tables.Keys.{at_number, put_number}
use Rattle.merge_model.specs.Tables.Publications.{columns_at}
use Rattle.merge_model.specs.declared.event.NamedValue.{NamedValue}

-- the place of the first member with a property
abbrev pub place_from : {A : Type 0} → ℕ → (A → Bool) → List A → Option ℕ
place_from place test [] = None
place_from place test (x ∷ xs) = if test x then Some place else place_from (place + 1) test xs

abbrev pub article_place : Publication → List ℕ → Option ℕ
article_place publication name = place_from 0 (λ (article : Article). same article.name name) publication.articles

abbrev pub column_place : List Column → List ℕ → Option ℕ
column_place columns name = place_from 0 (λ (column : Column). same column.name name) columns

-- The settings of an event by place, in the order of the columns; or the first name that is no column's or stood before.
abbrev pub set_at : List (ℕ × Value) → NamedValue → Option ℕ → Result (List (ℕ × Value)) (List ℕ)
set_at others named None = Err named.column
set_at others named (Some place) = elim (at_number others place) [
  | None ↦ Ok (put_number others place named.value)
  | Some value ↦ Err named.column
]

abbrev pub and_then : {A B : Type 0} → Result A (List ℕ) → (A → Result B (List ℕ)) → Result B (List ℕ)
and_then (Ok done) next = next done
and_then (Err name) next = Err name

abbrev pub values_at_places : List Column → List (ℕ × Value) → List NamedValue → Result (List (ℕ × Value)) (List ℕ)
values_at_places columns others [] = Ok others
values_at_places columns others (named ∷ rest) = and_then (set_at others named (column_place columns named.column)) (λ (more : List (ℕ × Value)). values_at_places columns more rest)

abbrev pub setting_of : ℕ × Value → Setting
setting_of pair = record { column = pair.0; value = pair.1 }

abbrev pub settings_by : List Column → List NamedValue → Result (List Setting) (List ℕ)
settings_by columns named = and_then (values_at_places columns [] named) (λ (pairs : List (ℕ × Value)). Ok (map setting_of pairs))

-- the place of an event's article, or its name where the publication has none of it
abbrev pub article_by : Publication → List ℕ → Result ℕ (List ℕ)
article_by publication name = elim (article_place publication name) [
  | None ↦ Err name
  | Some place ↦ Ok place
]

-- A local change with places for names.
abbrev pub insert_by : Publication → List ℕ → List NamedValue → Result Change (List ℕ)
insert_by publication name named = and_then (article_by publication name)
    (λ (article : ℕ). and_then (settings_by (columns_at publication article) named) (λ (settings : List Setting). Ok (Insert article settings)))

abbrev pub update_by : Publication → List ℕ → RowId → List NamedValue → Result Change (List ℕ)
update_by publication name row named = and_then (article_by publication name)
    (λ (article : ℕ). and_then (settings_by (columns_at publication article) named) (λ (settings : List Setting). Ok (Update article row settings)))

abbrev pub delete_by : Publication → List ℕ → RowId → Result Change (List ℕ)
delete_by publication name row = and_then (article_by publication name) (λ (article : ℕ). Ok (Delete article row))
