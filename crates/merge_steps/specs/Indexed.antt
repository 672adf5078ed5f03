-- Rows and mappings by generation.
use Rattle.std.specs.Prelude.{◌≡◌, ◌==◌, ℕ, Bool, false, List, Option, Some, None, is_some}
use Rattle.std.specs.FinSet as set
use Rattle.std.specs.BTreeMap.{is_at}
use Rattle.std.specs.Map.{lookup}
use Rattle.merge_types.specs.declared.row_key.RowKey.{RowKey as Key}
use Rattle.merge_units.specs.declared.site_row.PublisherRow.{PublisherRow}
use Rattle.merge_gens.specs.Entries.{entry_cmp, entry_of}
use Rattle.merge_gens.specs.declared.moves.Mapping.{Mapping}
use Rattle.merge_gens.specs.declared.moves.RowSite.{RowSite}
use Rattle.merge_model.specs.Tables.Keys.{at_row_site, row_at}
use Rattle.merge_steps.specs.MoveEntries.{move_entry, move_entry_cmp}
use Rattle.merge_steps.specs.declared.site_moves.MoveEntry.{MoveEntry}

-- whether a row changed last in this generation
abbrev pub is_changed : Option PublisherRow → ℕ → Bool
is_changed None generation = false
is_changed (Some row) generation = row.changed == generation

-- each row is found by the generation of its last change, and by no other
unfoldable pub AreIndexed : List (Key × PublisherRow) → set.FinSet entry_cmp → Type 0
AreIndexed rows entries = (key : Key) (generation : ℕ) → set.contains entries (entry_of generation key) ≡ is_changed (row_at rows key) generation

-- whether the last move was in this generation
abbrev pub is_moved : Option Mapping → ℕ → Bool
is_moved None generation = false
is_moved (Some mapping) generation = mapping.generation == generation

abbrev pub has_entry : List (MoveEntry × Unit {0}) → MoveEntry → Bool
has_entry entries entry = is_some (lookup (is_at (move_entry_cmp entry)) entries)

-- each mapping is found by its site and its generation, and by no other
unfoldable pub AreMoved : List (RowSite × Mapping) → List (MoveEntry × Unit {0}) → Type 0
AreMoved mappings entries = (place : RowSite) (generation : ℕ) → has_entry entries (move_entry place generation) ≡ is_moved (at_row_site mappings place) generation
