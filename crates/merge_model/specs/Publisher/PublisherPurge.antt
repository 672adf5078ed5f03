-- The publisher forgets what is old.
use Rattle.std.specs.Prelude.{Bool, None, Some, count_by, false, filter, nat_lt, not, ℕ, ◌&&◌, ◌*◌, ◌+◌, ◌-◌}
use Rattle.merge_types.specs.declared.identifiers.Moment.{Moment}
use Rattle.merge_units.specs.Version.{is_live}
use Rattle.merge_gens.specs.Book.{book_after_purge, moment_of}
use Rattle.merge_gens.specs.declared.closings.Closing.{Closing}
use Rattle.merge_schema.specs.declared.publication.Publication.{Publication}
use Rattle.merge_model.specs.Publisher.{at_moment}
use Rattle.merge_types.specs.declared.row_key.RowKey.{RowKey as Key}
use Rattle.merge_gens.specs.declared.moves.Mapping.{Mapping}
use Rattle.merge_units.specs.declared.site_row.PublisherRow.{PublisherRow}
use Rattle.merge_gens.specs.declared.moves.RowSite.{RowSite}
use Rattle.merge_gens.specs.Moves.{is_left}
use Rattle.merge_model.specs.Tables.{PublisherTables}
use Rattle.merge_model.specs.declared.outcome.Forgotten.{Forgotten}

-- A generation is old where it closed longer ago than the retention and one day more.
abbrev pub grace : ℕ
grace = 86400

abbrev pub cutoff : Publication → PublisherTables → Moment
cutoff publication p = record { 0 = p.latest.0 - (publication.retention_days * 86400 + grace) }

abbrev pub is_old : Publication → PublisherTables → ℕ → Bool
is_old publication p generation = elim (moment_of p.gens.closings generation) [
  | None ↦ false
  | Some moment ↦ nat_lt moment (cutoff publication p).0
]

-- a row that died in an old generation
abbrev pub is_old_tombstone : Publication → PublisherTables → Key × PublisherRow → Bool
is_old_tombstone publication p row = not (is_live row.1.version.body) && is_old publication p row.1.changed

-- a row that left a site's partition in an old generation
abbrev pub is_old_left : Publication → PublisherTables → RowSite × Mapping → Bool
is_old_left publication p entry = is_left entry.1.kind && is_old publication p entry.1.generation

-- how many tombstones, mappings and closed generations are forgotten
abbrev pub counts_of_purge : Publication → PublisherTables → Forgotten
counts_of_purge publication p = record {
  tombstones = count_by (is_old_tombstone publication p) p.rows;
  mappings = count_by (is_old_left publication p) p.mappings;
  generations = count_by (λ (closing : Closing). nat_lt closing.moment.0 (cutoff publication p).0) p.gens.closings;
}

-- live rows and their generations stay as they are
abbrev pub after_purge : Publication → PublisherTables → PublisherTables
after_purge publication p = record p {
  rows = filter (λ (row : Key × PublisherRow). not (is_old_tombstone publication p row)) p.rows;
  mappings = filter (λ (entry : RowSite × Mapping). not (is_old_left publication p entry)) p.mappings;
  gens = book_after_purge p.gens (cutoff publication p);
}

abbrev pub purge : Publication → Moment → PublisherTables → PublisherTables × Forgotten
purge publication now p = let here = at_moment now p in (after_purge publication here, counts_of_purge publication here)
