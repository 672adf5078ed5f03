-- What the checks of a change say of an update.
use Rattle.std.proofs.Common.{◌≡◌, ◌<◌, ◌≤◌, ◌-◌, ◌^◌, min, pos, ℕ, zero, suc, Bool, true, false, List, [], ◌∷◌, length, get_or, map, find, Option, Some, None, slice_get, refl, sym, ap, ◌∙◌, subst, arith}
use Rattle.std.specs.Prelude.{not}
use Rattle.std.specs.List.{All}
use Rattle.std.specs.Option.{option_map_or}
use Rattle.std.proofs.lemmas.List.{length-map}
use Rattle.std.proofs.lemmas.List.Concat.{length-flat_map}
use Rattle.std.proofs.lemmas.Option.{slice_get_within}
use Rattle.merge_types.specs.declared.changes.Change.{Change}
use Rattle.merge_types.specs.declared.changes.Change.TheVariants.{Insert}
use Rattle.merge_types.specs.declared.changes.Tracking.{Tracking}
use Rattle.merge_types.specs.declared.identifiers.Dot.{Dot}
use Rattle.merge_types.specs.declared.values.Value.TheVariants.{Int}
use Rattle.merge_types.specs.Length.{row_length}
use Rattle.merge_types.specs.declared.changes.Setting.{Setting}
use Rattle.merge_types.specs.declared.values.ColumnType.{ColumnType}
use Rattle.merge_types.specs.declared.values.Column.{Column}
use Rattle.merge_units.specs.Changes.{cells_after}
use Rattle.merge_units.specs.Length.{value_count}
use Rattle.merge_units.specs.Length as rows
use Rattle.merge_units.specs.Version.{cells_of, is_live}
use Rattle.merge_units.specs.declared.version.Body.{Body}
use Rattle.merge_units.specs.declared.version.Body.TheVariants.{Live, Dead}
use Rattle.merge_units.specs.declared.version.Cell.{Cell}
use Rattle.merge_units.specs.declared.version.Version.{Version}
use Rattle.merge_schema.specs.declared.publication.Publication.{Publication}
use Rattle.merge_batch.specs.Articles.{fits_article}
use Rattle.merge_batch.specs.LocalChanges.{columns_at, fits_type, length_after, long_value, new_values, tracking_at, types_at, version_after, wrong_type}
use Rattle.merge_change.specs.Allowed.{CanBeAsked, FitsColumns, IsUpdatable}
use Rattle.merge_change.proofs.Lengths.{fitting, mapped-none, new-length, new-low, not-found, told-whole, update-low, valid-few}

abbrev is_wrong : List ColumnType → Setting → Bool
is_wrong types setting = not (fits_type types setting)

-- a column that has a type is there
typed-below : (types : List ColumnType) (setting : Setting) → is_wrong types setting ≡ false → setting.column < length types
typed-below types setting right =
    let by : (found : Option ColumnType) → slice_get types setting.column ≡ found → is_wrong types setting ≡ false → setting.column < length types = λ found. elim found as (λ f. slice_get types setting.column ≡ f → is_wrong types setting ≡ false → setting.column < length types) [
      | None ↦ λ is h. absurd (cc (rw is at h))
      | Some ty ↦ λ is h. slice_get_within types setting.column ty is
    ] in by (slice_get types setting.column) refl right

all-below : (types : List ColumnType) (settings : List Setting) → find (is_wrong types) settings ≡ None → (k : ℕ) (d : Setting) → k < length settings → (get_or settings k d).column < length types
all-below types [] none k d lt = absurd (omega arith)
all-below types (setting ∷ settings) none zero d lt = typed-below types setting (not-found (is_wrong types) setting settings none).0
all-below types (setting ∷ settings) none (suc k) d lt = all-below types settings (not-found (is_wrong types) setting settings none).1 k d (omega arith)

pub settings-below : (publication : Publication) (place : ℕ) (settings : List Setting) → wrong_type (types_at publication place) settings ≡ None → (cells : List Cell) → fits_article publication place (Live cells) ≡ true
    → (k : ℕ) (d : Setting) → k < length settings → (get_or settings k d).column < value_count cells
settings-below publication place settings right cells fits k d lt =
    let types = types_at publication place in
    let below = all-below types settings (mapped-none _ (find (is_wrong types) settings) right) k d lt in
    let count : length types ≡ length (columns_at publication place) = length-map (columns_at publication place) (λ (column : Column). column.ty) in
    let values = length-flat_map (λ (cell : Cell). cell.values) cells in
    omega (arith, below, count, values, (fitting publication place cells fits).count)

pub body-below : (publication : Publication) (place : ℕ) (settings : List Setting) → wrong_type (types_at publication place) settings ≡ None → (body : Body) → is_live body ≡ true → fits_article publication place body ≡ true
    → (k : ℕ) (d : Setting) → k < length settings → (get_or settings k d).column < value_count (cells_of body)
body-below publication place settings right (Live cells) live fits = settings-below publication place settings right cells fits
body-below publication place settings right (Dead top) live fits = absurd (cc live)

-- A length is told whole.

pub live-length : (publication : Publication) (place : ℕ) (settings : List Setting) (version : Version) → IsUpdatable publication place settings version → (cells : List Cell) → version.body ≡ Live cells
    → (t : Tracking) → t ≡ tracking_at publication place → (shown : List Cell) → shown ≡ cells → (told : ℕ) (dot : Dot) → told ≡ min (rows.stored_length (cells_after t dot settings shown)) (2 ^ 64 - 1)
    → told ≡ rows.stored_length (cells_after (tracking_at publication place) dot settings (cells_of version.body))
live-length publication place settings version fits cells body t tracked shown same told dot is =
    let whole = fitting publication place cells (subst (λ (b : Body). fits_article publication place b ≡ true) body fits.fits) in
    let low = update-low publication (valid-few fits.valid.0 publication fits.valid.1) place settings fits.values cells whole dot in
    let at : told ≡ min (rows.stored_length (cells_after (tracking_at publication place) dot settings cells)) (2 ^ 64 - 1) = rw (tracked, same) at is in
    rw body (at ∙ told-whole _ low)

pub insert-length : (publication : Publication) (change : Change) (held : Option Version) → CanBeAsked publication change held → FitsColumns publication change held → (article : ℕ) (settings : List Setting) → change ≡ Insert article settings
    → (shown : List Setting) → shown ≡ settings → (told : ℕ) → told ≡ min (row_length (new_values publication article (Int (pos 0)) shown)) (2 ^ 64 - 1)
    → (dot : Dot) → told ≡ length_after (version_after publication dot (Int (pos 0)) change held)
insert-length publication change held asked columns article settings is shown same told told-is dot =
    let short : long_value settings ≡ None = rw is at columns.values in
    let low = new-low publication (valid-few asked.valid.0 publication asked.valid.1) article settings short in
    let at : told ≡ min (row_length (new_values publication article (Int (pos 0)) settings)) (2 ^ 64 - 1) = rw same at told-is in
    rw is (at ∙ told-whole _ low ∙ sym (new-length (tracking_at publication article) dot (new_values publication article (Int (pos 0)) settings)))
