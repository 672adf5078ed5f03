-- The entries of a step that gives many rows versions, as the code finds them.
use Rattle.std.specs.Prelude.{◌≡◌, ◌&&◌, ◌==◌, ◌+◌, ◌++◌, if◌then◌else◌, ℕ, Bool, true, false, not, List, [], ◌∷◌, Option, Some, None, filter, map, length, take, drop, flat_map}
use Rattle.std.specs.List.{list_any, zip}
use Rattle.merge_types.specs.declared.identifiers.SiteId.{SiteId}
use Rattle.merge_units.specs.declared.version.Version.{Version}
use Rattle.merge_table.specs.declared.edit.Edit.{Edit}
use Rattle.merge_table.specs.declared.edit.Edit.TheVariants.{Put, Take}
use Rattle.merge_table.specs.Contents.{has_room}
use Rattle.merge_table.specs.Edits.{key_of, rows_after_all}
use Rattle.merge_gens.specs.declared.index.IndexEntry.{IndexEntry}
use Rattle.merge_schema.specs.Partition.{LiveRow, is_in_at}
use Rattle.merge_schema.specs.declared.publication.Publication.{Publication}
use Rattle.merge_part.specs.declared.change.Move.{Move}
use Rattle.merge_part.specs.declared.change.RowChange.{RowChange}
use Rattle.merge_model.specs.Publisher.Entries.{Changing, Touched}
use Rattle.merge_model.specs.Tables.Keys.{has_key, row_at, same_key}
use Rattle.merge_gens.specs.Moves.{row_site_cmp}
use Rattle.merge_steps.specs.LiveRows.{values_in}
use Rattle.merge_steps.specs.Rows.{has_left_at, index_edits, mapping_edits}
use Rattle.merge_types.specs.declared.row_key.RowKey.{RowKey as Key}
use Rattle.merge_gens.specs.declared.moves.MoveKind.TheVariants.{Left}
use Rattle.merge_gens.specs.declared.moves.Mapping.{Mapping}
use Rattle.merge_gens.specs.declared.moves.MoveKind.{MoveKind}
use Rattle.merge_units.specs.declared.site_row.PublisherRow.{PublisherRow}
use Rattle.merge_gens.specs.declared.moves.RowSite.{RowSite}
use Rattle.merge_steps.specs.Tie.{entry_of, is_entered, key_moved, told_moves}

-- an entry that a row left for a site
abbrev pub left_edit : ℕ → Key → Edit RowSite MoveKind
left_edit site key = Put (record { key = key; site = site }) Left

-- whether a site may not hold a row
abbrev pub is_out : Publication → ℕ → List LiveRow → Key → Bool
is_out publication site after key = not (is_in_at publication (record { 0 = site }) after key.article key.row)

-- the rows that a site sent and may not hold
abbrev pub outs_of : Publication → ℕ → List LiveRow → List Key → List Key
outs_of publication site after acted = filter (is_out publication site after) acted

-- the moves that make entries: those of the membership, and of each row that the uploader sent and may not hold
abbrev pub all_told : List Key → ℕ → List Key → List Move → List (RowSite × MoveKind)
all_told changed site outs moves = rows_after_all row_site_cmp (told_moves changed moves) (map (left_edit site) outs)

abbrev pub left_or : Bool → Option MoveKind → Option MoveKind
left_or true other = Some Left
left_or false other = other

-- the moves by which changed rows come back
abbrev pub is_return : List (RowSite × Mapping) → List Key → Move → Bool
is_return mappings changed move = is_entered move.kind && has_key changed (key_moved move) && has_left_at mappings (entry_of move).0

abbrev pub returns : List (RowSite × Mapping) → List Key → List Move → List RowSite
returns mappings changed moves = map (λ (move : Move). (entry_of move).0) (filter (is_return mappings changed) moves)

-- the rows' edits
abbrev pub version_edit : (Key × Version) × ℕ → Edit Key PublisherRow
version_edit row = Put row.0.0 (record { version = row.0.1; changed = row.1 })

abbrev pub version_edits : List (Key × Version) → List ℕ → List (Edit Key PublisherRow)
version_edits versions generations = map version_edit (zip versions generations)

-- the index's edits, by the rows before
abbrev pub indexing : List (Key × PublisherRow) → (Key × Version) × ℕ → List (Edit IndexEntry (Unit {0}))
indexing rows row = index_edits (row_at rows row.0.0) row.0.0 row.1

abbrev pub all_indexing : List (Key × PublisherRow) → List ((Key × Version) × ℕ) → List (Edit IndexEntry (Unit {0}))
all_indexing rows changed = flat_map (indexing rows) changed

-- the rows' changes for a membership
abbrev pub row_change : Key × Version → RowChange
row_change row = record { article = row.0.article; row = row.0.row; new = values_in row.1.body }

abbrev pub keys_in : List (Key × Version) → List Key
keys_in versions = map (λ (row : Key × Version). row.0) versions

-- a row's move at a site
abbrev pub is_move_at : Key → ℕ → Move → Bool
is_move_at key site move = same_key key (key_moved move) && (move.site.0 == site)

-- whether the site may not hold the row after the moves, by whether it moves there
abbrev pub out_after : Publication → ℕ → List LiveRow → Bool → Key → Bool
out_after publication site before moved key =
    let was = is_in_at publication (record { 0 = site }) before key.article key.row in
    if moved then was else not was

abbrev pub found_out : Publication → ℕ → List LiveRow → List Move → Key → Bool
found_out publication site before moves key = out_after publication site before (list_any (is_move_at key site) moves) key

abbrev pub found_outs : Publication → ℕ → List LiveRow → List Move → List Key → List Key
found_outs publication site before moves acted = filter (found_out publication site before moves) acted

-- the rows that move at a site, and those that it may not hold, by these
abbrev pub is_at_site : ℕ → Move → Bool
is_at_site site move = move.site.0 == site

abbrev pub moved_at : ℕ → List Move → List Key
moved_at site moves = map key_moved (filter (is_at_site site) moves)

abbrev pub out_by : Publication → ℕ → List LiveRow → List Key → Key → Bool
out_by publication site before moved key = out_after publication site before (has_key moved key) key

abbrev pub outs_by : Publication → ℕ → List LiveRow → List Key → List Key → List Key
outs_by publication site before moved acted = filter (out_by publication site before moved) acted

abbrev pub move_edit : RowSite × MoveKind → Edit RowSite MoveKind
move_edit entry = Put entry.0 entry.1

abbrev pub entry_edits : List Key → ℕ → List Key → List Move → List (Edit RowSite MoveKind)
entry_edits changed site outs moves = map move_edit (told_moves changed moves) ++ map (left_edit site) outs

abbrev pub found_entries : Publication → List LiveRow → Changing → List Move → List (RowSite × MoveKind)
found_entries publication before changing moves =
    rows_after_all row_site_cmp [] (entry_edits (keys_in changing.versions) changing.uploader (found_outs publication changing.uploader before moves changing.acted) moves)

-- the same rows stand in two lists
abbrev pub HaveSame : List Key → List Key → Type 0
HaveSame keys others = (key : Key) → has_key keys key ≡ has_key others key

-- no key stands twice
abbrev pub Apart : List Key → Type 0
Apart [] = Unit {0}
Apart (key ∷ keys) = (has_key keys key ≡ false) × Apart keys

-- no place stands twice
abbrev pub AreApart : List RowSite → Type 0
AreApart [] = Unit {0}
AreApart (place ∷ places) = (has_room row_site_cmp places place ≡ false) × AreApart places

-- the places of edits, and whether a place is one of them
abbrev pub places_of : List (Edit RowSite Mapping) → List RowSite
places_of edits = map key_of edits

abbrev pub has_place_in : List (Edit RowSite Mapping) → RowSite → Bool
has_place_in edits place = has_room row_site_cmp (places_of edits) place
