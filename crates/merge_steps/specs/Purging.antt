-- What a purge forgets, by the closed generations and a moment.
use Rattle.std.specs.Prelude.{ℕ, Bool, false, not, List, None, Option, Some, filter, if◌then◌else◌, map, nat_lt, ◌&&◌}
use Rattle.merge_table.specs.declared.edit.Edit.{Edit}
use Rattle.merge_table.specs.declared.edit.Edit.TheVariants.{Take}
use Rattle.merge_types.specs.declared.identifiers.Moment.{Moment}
use Rattle.merge_types.specs.declared.row_key.RowKey.{RowKey as Key}
use Rattle.merge_units.specs.Version.{is_live}
use Rattle.merge_units.specs.declared.site_row.PublisherRow.{PublisherRow}
use Rattle.merge_gens.specs.Book.{moment_of}
use Rattle.merge_gens.specs.Entries.{entry_of}
use Rattle.merge_gens.specs.Moves.{is_left}
use Rattle.merge_gens.specs.declared.closings.Closing.{Closing}
use Rattle.merge_gens.specs.declared.index.IndexEntry.{IndexEntry}
use Rattle.merge_gens.specs.declared.moves.Mapping.{Mapping}
use Rattle.merge_gens.specs.declared.moves.RowSite.{RowSite}
use Rattle.merge_model.specs.Tables.Keys.{at_row_site, row_at}
use Rattle.merge_steps.specs.Given.{given_by}

-- whether a generation closed before a moment
abbrev pub is_old_at : List Closing → Moment → ℕ → Bool
is_old_at closings cutoff generation = elim (moment_of closings generation) [
  | None ↦ false
  | Some moment ↦ nat_lt moment cutoff.0
]

-- a row that died in such a generation, and a mapping of a row that left in one
abbrev pub is_old_row : List Closing → Moment → Key × PublisherRow → Bool
is_old_row closings cutoff row = not (is_live row.1.version.body) && is_old_at closings cutoff row.1.changed

abbrev pub is_old_mapping : List Closing → Moment → RowSite × Mapping → Bool
is_old_mapping closings cutoff entry = is_left entry.1.kind && is_old_at closings cutoff entry.1.generation

-- the change of the index for a row that goes
abbrev pub gone_entry : Key × PublisherRow → IndexEntry
gone_entry row = entry_of row.1.changed row.0

-- the entry of a row that goes
abbrev pub gone_if : (Key × PublisherRow → Bool) → Key × PublisherRow → Option IndexEntry
gone_if goes row = if goes row then Some (gone_entry row) else None

-- the same by the row's key, where there is such a row
abbrev pub gone_at : List Closing → Moment → List (Key × PublisherRow) → Key → Option IndexEntry
gone_at closings cutoff rows key = given_by (gone_if (is_old_row closings cutoff)) key (row_at rows key)

-- the edit that takes the row of an entry
abbrev pub take_row : IndexEntry → Edit Key PublisherRow
take_row entry = Take entry.key

abbrev pub take_entry : Key × PublisherRow → Edit IndexEntry (Unit {0})
take_entry row = Take (gone_entry row)

abbrev pub gone_entries : (Key × PublisherRow → Bool) → List (Key × PublisherRow) → List (Edit IndexEntry (Unit {0}))
gone_entries goes rows = map take_entry (filter goes rows)

-- the edit that takes a mapping that goes, and the same by its place
abbrev pub take_if : (RowSite × Mapping → Bool) → RowSite × Mapping → Option (Edit RowSite Mapping)
take_if goes entry = if goes entry then Some (Take entry.0) else None

abbrev pub taken_at : List Closing → Moment → List (RowSite × Mapping) → RowSite → Option (Edit RowSite Mapping)
taken_at closings cutoff mappings place = given_by (take_if (is_old_mapping closings cutoff)) place (at_row_site mappings place)
