-- The edits of the tables and of what finds their rows.
use Rattle.std.specs.Prelude.{ℕ, Bool, false, List, [], ◌∷◌, ◌++◌, Option, Some, None, flat_map, map, unwrap_or, option_map}
use Rattle.std.specs.List.{zip}
use Rattle.merge_table.specs.declared.edit.Edit.{Edit}
use Rattle.merge_table.specs.declared.edit.Edit.TheVariants.{Put, Take}
use Rattle.merge_gens.specs.declared.index.IndexEntry.{IndexEntry}
use Rattle.merge_table.specs.Edits.{key_of}
use Rattle.merge_model.specs.Tables.Keys.{at_row_site}
use Rattle.merge_steps.specs.MoveEntries.{move_entry}
use Rattle.merge_steps.specs.declared.site_moves.MoveEntry.{MoveEntry}
use Rattle.merge_types.specs.declared.row_key.RowKey.{RowKey as Key}
use Rattle.merge_gens.specs.declared.moves.Mapping.{Mapping}
use Rattle.merge_gens.specs.declared.moves.MoveKind.{MoveKind}
use Rattle.merge_units.specs.declared.site_row.PublisherRow.{PublisherRow}
use Rattle.merge_gens.specs.declared.moves.RowSite.{RowSite}
use Rattle.merge_gens.specs.Moves.{is_left}
use Rattle.merge_gens.specs.Entries.{entry_of as entry_at}

abbrev pub put_edit : (RowSite × MoveKind) × ℕ → Edit RowSite Mapping
put_edit entry = Put entry.0.0 (record { kind = entry.0.1; generation = entry.1 })

-- whether a row left the site's partition, by its mapping
abbrev pub has_left_at : List (RowSite × Mapping) → RowSite → Bool
has_left_at mappings place = unwrap_or (option_map (λ (mapping : Mapping). is_left mapping.kind) (at_row_site mappings place)) false

-- the mappings' edits
abbrev pub mapping_edits : List (RowSite × MoveKind) → List ℕ → List RowSite → List (Edit RowSite Mapping)
mapping_edits told generations gone = map put_edit (zip told generations) ++ map Take gone

-- the index's edits
abbrev pub index_edits : Option PublisherRow → Key → ℕ → List (Edit IndexEntry (Unit {0}))
index_edits None key generation = Put (entry_at generation key) tt ∷ []
index_edits (Some was) key generation = Take (entry_at was.changed key) ∷ Put (entry_at generation key) tt ∷ []

-- the edits of the index of mappings for one mapping, by the mapping before
abbrev pub old_entry : RowSite → Option Mapping → List (Edit MoveEntry (Unit {0}))
old_entry place None = []
old_entry place (Some mapping) = Take (move_entry place mapping.generation) ∷ []

abbrev pub new_entry : Edit RowSite Mapping → List (Edit MoveEntry (Unit {0}))
new_entry (Put place mapping) = Put (move_entry place mapping.generation) tt ∷ []
new_entry (Take place) = []

abbrev pub moved_edit : List (RowSite × Mapping) → Edit RowSite Mapping → List (Edit MoveEntry (Unit {0}))
moved_edit mappings edit = old_entry (key_of edit) (at_row_site mappings (key_of edit)) ++ new_entry edit

abbrev pub moved_edits : List (RowSite × Mapping) → List (Edit RowSite Mapping) → List (Edit MoveEntry (Unit {0}))
moved_edits mappings edits = flat_map (moved_edit mappings) edits
