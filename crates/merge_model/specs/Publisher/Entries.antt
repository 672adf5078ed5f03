-- The entries that a step makes at the publisher. The rows that it changed come first, in order. Then
-- come those that left a site's partition or came into it, by article, row and site.
use Rattle.std.specs.List.{fold, zip}
use Rattle.std.specs.Prelude.{Bool, List, None, Option, Some, drop, false, filter, filter_map, flat_map, length, map, not, option_map, take, true, ℕ, ◌&&◌, ◌+◌, ◌==◌}
use Rattle.merge_units.specs.declared.version.Body.{Body}
use Rattle.merge_units.specs.declared.version.Body.TheVariants.{Dead, Live}
use Rattle.merge_units.specs.declared.version.Cell.{Cell}
use Rattle.merge_units.specs.declared.version.Version.{Version}
use Rattle.merge_gens.specs.Book.{book_after_entries}
use Rattle.merge_gens.specs.Filling.{generations_of}
use Rattle.merge_schema.specs.Partition.{LiveRow, partition_of}
use Rattle.merge_schema.specs.declared.publication.Publication.{Publication}
use Rattle.merge_schema.specs.declared.publication.Subscription.{Subscription}
use Rattle.merge_model.specs.Judge.{PublisherJudge}
use Rattle.merge_model.specs.Tables.Keys.{drop_row_site, has_key, put_row, put_row_site}
use Rattle.merge_model.specs.Tables.Publications.{by_site}
use Rattle.merge_gens.specs.declared.moves.MoveKind.TheVariants.{Entered, Left}
use Rattle.merge_types.specs.declared.row_key.RowKey.{RowKey as Key}
use Rattle.merge_gens.specs.declared.moves.Mapping.{Mapping}
use Rattle.merge_gens.specs.declared.moves.MoveKind.{MoveKind}
use Rattle.merge_units.specs.declared.site_row.PublisherRow.{PublisherRow}
use Rattle.merge_gens.specs.declared.moves.RowSite.{RowSite}
use Rattle.merge_model.specs.Tables.{PublisherTables}

-- the live rows among those of the publisher
abbrev pub live_row : Key → Body → Option LiveRow
live_row key (Dead top) = None
live_row key (Live cells) = Some (record { article = key.article; row = key.row; values = flat_map (λ (cell : Cell). cell.values) cells })

abbrev pub live_rows : List (Key × PublisherRow) → List LiveRow
live_rows rows = filter_map (λ (row : Key × PublisherRow). live_row row.0 row.1.version.body) rows

abbrev pub key_of_live : LiveRow → Key
key_of_live live = record { article = live.article; row = live.row }

-- the rows of a site's partition
abbrev pub partition_keys : Publication → Subscription → List (Key × PublisherRow) → List Key
partition_keys publication subscription rows = map key_of_live (partition_of publication subscription.host (live_rows rows))

-- a subscriber, with its partition before a step and after it
pub record Parts : Type 0 where
  pub site : ℕ
  pub before : List Key
  pub after : List Key

abbrev pub parts_of : Publication → List (Key × PublisherRow) → List (Key × PublisherRow) → List Parts
parts_of publication before after = map (λ (s : ℕ × Subscription). record {
  site = s.0;
  before = partition_keys publication s.1 before;
  after = partition_keys publication s.1 after;
}) (by_site publication)

-- How a row moved for a site: by whether it was in the partition, whether it is, whether its change
-- makes an entry in this step, and whether an item of this site's upload acted on it. A changed row
-- that comes in makes no entry for that, since its change tells the site of it. The uploader is told of each row that it sent and may not hold.
abbrev pub move_of : Bool → Bool → Bool → Bool → Option MoveKind
move_of true false changed acted = Some Left
move_of false false changed true = Some Left
move_of false true false acted = Some Entered
move_of _ _ _ _ = None

-- the rows that a step changed with an entry, the rows of an upload's items that acted, and the uploader, 0 where there is none
pub record Touched : Type 0 where
  pub changed : List Key
  pub acted : List Key
  pub uploader : ℕ

abbrev pub move_at : Touched → Key → Parts → Option (RowSite × MoveKind)
move_at touched key parts = option_map (λ (kind : MoveKind). (record { key = key; site = parts.site }, kind))
    (move_of (has_key parts.before key) (has_key parts.after key) (has_key touched.changed key) ((parts.site == touched.uploader) && has_key touched.acted key))

abbrev pub moves_of : Touched → List Parts → List Key → List (RowSite × MoveKind)
moves_of touched parts keys = flat_map (λ (key : Key). filter_map (move_at touched key) parts) keys

-- a changed row that comes back into the partition of a site for which its last line says that it left
abbrev pub comes_back : PublisherJudge → Touched → Key → Parts → Bool
comes_back judge touched key parts = not (has_key parts.before key) && has_key parts.after key && has_key touched.changed key && judge.has_left key parts.site

abbrev pub returned_rows : PublisherJudge → Touched → List Parts → List Key → List RowSite
returned_rows judge touched parts keys = flat_map (λ (key : Key). map (λ (p : Parts). record { key = key; site = p.site }) (filter (comes_back judge touched key) parts)) keys

-- The entries of a step with their generations, and the rows that came back, which are no entries.
pub record Entries : Type 0 where
  pub changed : List (Key × ℕ)
  pub moved : List ((RowSite × MoveKind) × ℕ)
  pub gone : List RowSite

-- the entries stand in the generations that are open as they are added
abbrev pub with_generations : PublisherTables → List Key → List (RowSite × MoveKind) → List RowSite → Entries
with_generations p changed moves gone = let generations = generations_of p.gens.filling (length changed + length moves) in record {
  changed = zip changed (take (length changed) generations);
  moved = zip moves (drop (length changed) generations);
  gone = gone;
}

-- the rows of a step, by article and row: those that the publisher holds afterwards, and those on which an item acted
abbrev pub keys_of : List (Key × PublisherRow) → List Key → List Key
keys_of rows acted = map (λ (entry : Key × Unit {0}). entry.0) (fold (λ (others : List (Key × Unit {0})) (key : Key). put_row others key tt) (map (λ (row : Key × PublisherRow). (row.0, tt)) rows) acted)

abbrev pub entries_of : Publication → PublisherJudge → Touched → PublisherTables → List (Key × PublisherRow) → Entries
entries_of publication judge touched p rows =
    let parts = parts_of publication p.rows rows in
    let keys = keys_of rows touched.acted in
    with_generations p touched.changed (moves_of touched parts keys) (returned_rows judge touched parts touched.changed)

-- The tables with the entries.

abbrev pub with_move : List (RowSite × Mapping) → (RowSite × MoveKind) × ℕ → List (RowSite × Mapping)
with_move mappings entry = put_row_site mappings entry.0.0 (record { kind = entry.0.1; generation = entry.1 })

-- the versions of changed rows, with the generations of their entries
abbrev pub with_rows : List (Key × PublisherRow) → List ((Key × Version) × ℕ) → List (Key × PublisherRow)
with_rows rows changed = fold (λ (others : List (Key × PublisherRow)) (row : (Key × Version) × ℕ). put_row others row.0.0 (record { version = row.0.1; changed = row.1 })) rows changed

abbrev pub entry_count : Entries → ℕ
entry_count entries = length entries.changed + length entries.moved

abbrev pub with_entries : Entries → List (Key × Version) → PublisherTables → PublisherTables
with_entries entries versions p = record p {
  rows = with_rows p.rows (zip versions (map (λ (entry : Key × ℕ). entry.1) entries.changed));
  mappings = fold drop_row_site (fold with_move p.mappings entries.moved) entries.gone;
  gens = book_after_entries p.gens (entry_count entries) p.latest;
}

-- A step that gives these rows these versions, in this order.
pub record Changing : Type 0 where
  pub versions : List (Key × Version)
  pub acted : List Key
  pub uploader : ℕ

abbrev pub touched_by : Changing → Touched
touched_by changing = record {
  changed = map (λ (row : Key × Version). row.0) changing.versions;
  acted = changing.acted;
  uploader = changing.uploader;
}

-- the rows after the step; the generations of their changes don't bear on partitions
abbrev pub rows_after : Changing → List (Key × PublisherRow) → List (Key × PublisherRow)
rows_after changing rows = with_rows rows (map (λ (row : Key × Version). (row, 0)) changing.versions)

abbrev pub changing_entries : Publication → PublisherJudge → Changing → PublisherTables → Entries
changing_entries publication judge changing p = entries_of publication judge (touched_by changing) p (rows_after changing p.rows)

abbrev pub changed_by : Publication → PublisherJudge → Changing → PublisherTables → PublisherTables
changed_by publication judge changing p = with_entries (changing_entries publication judge changing p) changing.versions p
