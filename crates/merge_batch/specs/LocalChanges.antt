-- Local changes: when a site refuses them, and what they make of a row.
use Rattle.std.specs.List.{enumerate_from, fold, list_any}
use Rattle.std.specs.Option.{option_and_then, option_map_or}
use Rattle.std.specs.Prelude.{Bool, Err, List, None, Ok, Option, Result, Some, [], false, find, if◌then◌else◌, length, map, max, nat_le, nat_lt, not, option_map, pos, slice_get, true, unwrap_or, ℕ, ◌&&◌, ◌+◌, ◌==◌, ◌∷◌}
use Rattle.merge_types.specs.Fitting.{content_length, has_type, is_proper}
use Rattle.merge_types.specs.Limits.{counter_limit, row_limit, rows_limit, value_limit}
use Rattle.merge_types.specs.Rows.{row_number}
use Rattle.merge_types.specs.declared.changes.Change.{Change}
use Rattle.merge_types.specs.declared.changes.Change.TheVariants.{Delete, Insert, Update}
use Rattle.merge_types.specs.declared.changes.Setting.{Setting}
use Rattle.merge_types.specs.declared.changes.Tracking.{Tracking}
use Rattle.merge_types.specs.declared.identifiers.Dot.{Dot}
use Rattle.merge_types.specs.declared.identifiers.RowId.{RowId}
use Rattle.merge_types.specs.declared.row_key.RowKey.{RowKey}
use Rattle.merge_types.specs.declared.values.ColumnType.{ColumnType}
use Rattle.merge_types.specs.declared.values.Column.{Column}
use Rattle.merge_types.specs.declared.values.Value.{Value}
use Rattle.merge_types.specs.declared.values.Value.TheVariants.{Int, Null}
use Rattle.merge_units.specs.Changes.{changed, new_row, removed, set_value}
use Rattle.merge_units.specs.Length.{stored_length}
use Rattle.merge_units.specs.Version.{cells_of, is_live}
use Rattle.merge_units.specs.declared.version.Version.{Version}
use Rattle.merge_schema.specs.declared.publication.Article.{Article}
use Rattle.merge_schema.specs.declared.publication.Identity.{Identity}
use Rattle.merge_schema.specs.declared.publication.Publication.{Publication}
use Rattle.merge_schema.specs.Places.{article_at}
use Rattle.merge_batch.specs.declared.refusal.Refusal.{Refusal}
use Rattle.merge_batch.specs.declared.refusal.Refusal.TheVariants.{CounterEnd, IdentityColumn, NoRow, RowTooLong, TooManyRows, WrongType}
use Rattle.merge_types.specs.declared.changes.Tracking.TheVariants as tracking

-- Refusals in their order: the first condition that holds.

abbrev pub refused_if : Bool → Refusal → Option Refusal
refused_if true refusal = Some refusal
refused_if false refusal = None

abbrev pub first_refusal : List (Option Refusal) → Option Refusal
first_refusal [] = None
first_refusal (Some refusal ∷ rest) = Some refusal
first_refusal (None ∷ rest) = first_refusal rest

-- a step that is made where nothing refuses it
abbrev pub unless : {A : Type 0} → Option Refusal → A → Result A Refusal
unless (Some refusal) done = Err refusal
unless None done = Ok done

-- a site whose greatest counter stands at the limit or above makes no step that counts on
abbrev pub counter_end : List ℕ → Option Refusal
counter_end counters = let greatest = fold max 0 counters in refused_if (nat_le counter_limit greatest) (CounterEnd greatest)

-- What a publication says of an article.

abbrev pub tracking_at : Publication → ℕ → Tracking
tracking_at publication place = unwrap_or (option_map (λ (article : Article). article.tracking) (article_at publication place)) tracking.Row

abbrev pub columns_at : Publication → ℕ → List Column
columns_at publication place = unwrap_or (option_map (λ (article : Article). article.columns) (article_at publication place)) []

abbrev pub types_at : Publication → ℕ → List ColumnType
types_at publication place = map (λ (column : Column). column.ty) (columns_at publication place)

abbrev pub identity_at : Publication → ℕ → Option Identity
identity_at publication place = option_and_then (λ (article : Article). article.identity) (article_at publication place)

abbrev pub identity_column : Publication → ℕ → Option ℕ
identity_column publication place = option_map (λ (identity : Identity). identity.column) (identity_at publication place)

-- what a change says
abbrev pub article_of : Change → ℕ
article_of (Insert article values) = article
article_of (Update article row values) = article
article_of (Delete article row) = article

abbrev pub settings_of : Change → List Setting
settings_of (Insert article values) = values
settings_of (Update article row values) = values
settings_of (Delete article row) = []

abbrev pub is_insert : Change → Bool
is_insert (Insert article values) = true
is_insert change = false

-- an insert makes the row that is named by its dot
abbrev pub row_of_dot : Dot → RowId
row_of_dot dot = record { 0 = row_number dot.site.0 dot.number }

abbrev pub key_of : Dot → Change → RowKey
key_of dot (Insert article values) = record { article = article; row = row_of_dot dot }
key_of dot (Update article row values) = record { article = article; row = row }
key_of dot (Delete article row) = record { article = article; row = row }

-- The versions that changes make.

-- the value of each column of a new row: the identity value, or what is set, or Null
abbrev pub new_value : Option ℕ → Value → List Setting → ℕ → Value
new_value None identity settings place = unwrap_or (set_value settings place) Null
new_value (Some column) identity settings place = if place == column then identity else unwrap_or (set_value settings place) Null

abbrev pub new_values : Publication → ℕ → Value → List Setting → List Value
new_values publication article identity settings =
    map (λ (place : ℕ × ColumnType). new_value (identity_column publication article) identity settings place.0) (enumerate_from 0 (types_at publication article))

-- the version after a change of the row that is held. An insert has the identity value besides
abbrev pub version_after : Publication → Dot → Value → Change → Option Version → Option Version
version_after publication dot identity (Insert article values) held = Some (new_row dot (new_values publication article identity values) (tracking_at publication article))
version_after publication dot identity (Update article row values) held = option_map (λ (version : Version). changed version dot values (tracking_at publication article)) held
version_after publication dot identity (Delete article row) held = option_map (λ (version : Version). removed version dot) held

-- The refusals.

abbrev pub lives : Option Version → Bool
lives None = false
lives (Some version) = is_live version.body

-- the row of an update or a delete does not live here
abbrev pub no_row : Change → Option Version → Option Refusal
no_row (Insert article values) held = None
no_row change held = refused_if (not (lives held)) NoRow

-- the identity column is set
abbrev pub sets_identity : List Setting → Option ℕ → Option Refusal
sets_identity settings None = None
sets_identity settings (Some column) = refused_if (list_any (λ (setting : Setting). setting.column == column) settings) (IdentityColumn column)

-- whether a value is Null or of its column's type; a day that the calendar does not have is of none
abbrev pub is_of_type : Value → ColumnType → Bool
is_of_type value ty = has_type ty value && is_proper value

abbrev pub fits_type : List ColumnType → Setting → Bool
fits_type types setting = option_map_or (is_of_type setting.value) (slice_get types setting.column) false

-- the first value that is neither Null nor of its column's type
abbrev pub wrong_type : List ColumnType → List Setting → Option Refusal
wrong_type types settings = option_map (λ (setting : Setting). WrongType setting.column) (find (λ (setting : Setting). not (fits_type types setting)) settings)

-- the first value that is too long
abbrev pub long_value : List Setting → Option Refusal
long_value settings = option_map (λ (setting : Setting). RowTooLong (content_length setting.value)) (find (λ (setting : Setting). nat_lt value_limit (content_length setting.value)) settings)

-- the row that would result is too long; an identity value is a whole number, of whatever size as long
abbrev pub length_after : Option Version → ℕ
length_after None = 0
length_after (Some version) = stored_length (cells_of version.body)

abbrev pub long_row : Option Version → Option Refusal
long_row after = refused_if (nat_lt row_limit (length_after after)) (RowTooLong (length_after after))

-- one more row would be too many
abbrev pub too_many_rows : Change → ℕ → Option Refusal
too_many_rows change held = refused_if (is_insert change && nat_lt rows_limit (held + 1)) (TooManyRows (held + 1))

-- what a site refuses because of the change and the row, of the version held and of how many rows are held
abbrev pub change_refusal : Publication → Dot → Change → Option Version → ℕ → Option Refusal
change_refusal publication dot change held rows = let article = article_of change in first_refusal (
    no_row change held
    ∷ sets_identity (settings_of change) (identity_column publication article)
    ∷ wrong_type (types_at publication article) (settings_of change)
    ∷ long_value (settings_of change)
    ∷ long_row (version_after publication dot (Int (pos 0)) change held)
    ∷ too_many_rows change rows
    ∷ [])
