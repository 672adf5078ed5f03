-- Which generations all lie between that closed before a moment, and which rows and mappings are found between them.
use Rattle.std.specs.Prelude.{◌≡◌, ◌<◌, ◌≤◌, ℕ, true, List, Option, Some, None, slice_get}
use Rattle.std.specs.BTreeMap.{is_at}
use Rattle.std.specs.List.{list_any}
use Rattle.merge_types.specs.RowKeys.{key_cmp}
use Rattle.merge_types.specs.declared.identifiers.Moment.{Moment}
use Rattle.merge_types.specs.declared.row_key.RowKey.{RowKey as Key}
use Rattle.merge_units.specs.declared.site_row.PublisherRow.{PublisherRow}
use Rattle.merge_gens.specs.Book.{last_before}
use Rattle.merge_gens.specs.Moves.{row_site_cmp}
use Rattle.merge_gens.specs.declared.closings.Closing.{Closing}
use Rattle.merge_gens.specs.declared.moves.RowSite.{RowSite}
use Rattle.merge_gens.specs.declared.moves.Mapping.{Mapping}
use Rattle.merge_model.specs.Tables.Keys.{at_row_site, row_at}
use Rattle.merge_steps.specs.Indexed.{has_entry}
use Rattle.merge_steps.specs.Purging.{is_old_at}
use Rattle.merge_steps.specs.declared.site_moves.MoveEntry.{MoveEntry}
use Rattle.merge_steps.specs.declared.old_spans.Span.{Span}

abbrev pub IsWithin : Span → ℕ → Type 0
IsWithin span generation = (span.first ≤ generation) × (generation ≤ span.last)

-- from the one to the other, where there are both; no generation is within where there are not
abbrev pub span_by : Option Closing → Option ℕ → Span
span_by (Some first) (Some last) = record { first = first.generation; last = last }
span_by first last = record { first = 1; last = 0 }

-- from the first generation that is kept, up to the last one that closed before the moment
abbrev pub span_of : List Closing → Moment → Span
span_of closings cutoff = span_by (slice_get closings 0) (last_before cutoff closings)

-- each generation that closed before the moment is within
abbrev pub IsSpan : List Closing → Moment → Span → Type 0
IsSpan closings cutoff span = (generation : ℕ) → is_old_at closings cutoff generation ≡ true → IsWithin span generation

-- each row that changed last within is among these
abbrev pub HasChanged : List (Key × PublisherRow) → Span → List Key → Type 0
HasChanged rows span keys = (key : Key) (row : PublisherRow) → row_at rows key ≡ Some row → IsWithin span row.changed → list_any (is_at (key_cmp key)) keys ≡ true

-- no entry of the index is of a site between, nor of any from there on where none is found
abbrev pub IsNextFrom : List (MoveEntry × Unit {0}) → ℕ → Option ℕ → Type 0
IsNextFrom entries site None = (entry : MoveEntry) → has_entry entries entry ≡ true → entry.site < site
IsNextFrom entries site (Some next) = (entry : MoveEntry) → has_entry entries entry ≡ true → site ≤ entry.site → next ≤ entry.site

-- the same behind a site
abbrev pub IsNextBehind : List (MoveEntry × Unit {0}) → ℕ → Option ℕ → Type 0
IsNextBehind entries site None = (entry : MoveEntry) → has_entry entries entry ≡ true → entry.site ≤ site
IsNextBehind entries site (Some next) = (entry : MoveEntry) → has_entry entries entry ≡ true → site < entry.site → next ≤ entry.site

-- whether a site comes before the next one, where there is one
abbrev pub IsBefore : Option ℕ → ℕ → Type 0
IsBefore None site = Unit {0}
IsBefore (Some next) site = site < next

abbrev pub place_of : MoveEntry → RowSite
place_of entry = record { key = entry.key; site = entry.site }

-- each mapping of the sites before the next one, whose last move was within, is among these
abbrev pub HasMoved : List (MoveEntry × Unit {0}) → Span → Option ℕ → List RowSite → Type 0
HasMoved entries span next places = (entry : MoveEntry) → has_entry entries entry ≡ true → IsBefore next entry.site → IsWithin span entry.generation → list_any (is_at (row_site_cmp (place_of entry))) places ≡ true

-- each mapping whose last move was within is among these
abbrev pub HasMapped : List (RowSite × Mapping) → Span → List RowSite → Type 0
HasMapped mappings span places = (place : RowSite) (mapping : Mapping) → at_row_site mappings place ≡ Some mapping → IsWithin span mapping.generation → list_any (is_at (row_site_cmp place)) places ≡ true
