-- Which rows a download has to look at.
use Rattle.std.specs.Prelude.{◌≡◌, ◌<◌, ◌≤◌, ◌⊎◌, ℕ, true, List, Option, Some, None, option_map, cond, count_by, filter, filter_map, Bool}
use Rattle.std.specs.BTreeMap.{is_at}
use Rattle.std.specs.List.{list_any}
use Rattle.merge_types.specs.declared.identifiers.SiteId.{SiteId}
use Rattle.merge_schema.specs.declared.publication.Publication.{Publication}
use Rattle.merge_types.specs.RowKeys.{key_cmp}
use Rattle.merge_types.specs.declared.row_key.RowKey.{RowKey as Key}
use Rattle.merge_gens.specs.declared.moves.Mapping.{Mapping}
use Rattle.merge_model.specs.Judge.ByNumbers.{by_numbers, changed_in, mapping_at}
use Rattle.merge_batch.specs.Orders.{order_by}
use Rattle.merge_batch.specs.declared.reply.DownloadItem.{DownloadItem}
use Rattle.merge_model.specs.Publisher.PublisherLocal.{version_at}
use Rattle.merge_model.specs.Publisher.PublisherDownload.{TouchedRow, inside_keys, is_between, touched_row, touched_rows}
use Rattle.merge_model.specs.Tables.{PublisherTables}

-- the generation of a move
abbrev pub moved_in : PublisherTables → Key → ℕ → Option ℕ
moved_in p key site = option_map (λ (mapping : Mapping). mapping.generation) (mapping_at p key site)

-- a row has changed, or moved for the site, in a generation behind one, up to another
abbrev pub IsDue : PublisherTables → ℕ → ℕ → ℕ → Key → Type 0
IsDue p site from to key = (g : ℕ) × (from < g) × (g ≤ to) × ((changed_in p key ≡ Some g) ⊎ (moved_in p key site ≡ Some g))

-- all such rows are among these
abbrev pub AreDue : PublisherTables → ℕ → ℕ → ℕ → List Key → Type 0
AreDue p site from to candidates = (key : Key) → IsDue p site from to key → list_any (is_at (key_cmp key)) candidates ≡ true

abbrev pub kept_if : {A : Type 0} → (A → Bool) → Option A → Option A
kept_if test None = None
kept_if test (Some a) = cond (test a) (Some a) None

-- the row as it was touched between
abbrev pub touched_between : Publication → PublisherTables → SiteId → ℕ → ℕ → Key → Option TouchedRow
touched_between publication p site from to key = kept_if (is_between from to) (touched_row (by_numbers p) site (inside_keys publication site p) key)

-- whether the row is in the site's partition, where it was touched between
abbrev pub is_in_between : Publication → PublisherTables → SiteId → ℕ → ℕ → Key → Option Bool
is_in_between publication p site from to key = option_map (λ (row : TouchedRow). row.is_in) (touched_between publication p site from to key)

-- the rows that were touched between are found among these
abbrev pub HasTouched : Publication → PublisherTables → SiteId → ℕ → ℕ → List Key → Type 0
HasTouched publication p site from to keys = filter (is_between from to) (touched_rows publication (by_numbers p) site p) ≡ filter_map (touched_between publication p site from to) keys

-- how many rows were touched behind one generation, up to another
abbrev pub touched_up_to : Publication → PublisherTables → SiteId → ℕ → ℕ → ℕ
touched_up_to publication p site from to = count_by (is_between from to) (touched_rows publication (by_numbers p) site p)

-- what a site does with a row, by whether it is in its partition
abbrev pub item_at : PublisherTables → Key → Bool → DownloadItem
item_at p key is_in = record { article = key.article; row = key.row; act = order_by is_in (version_at p key) }

-- the same where the row was touched between
abbrev pub item_between : Publication → PublisherTables → SiteId → ℕ → ℕ → Key → Option DownloadItem
item_between publication p site from to key = option_map (item_at p key) (is_in_between publication p site from to key)
