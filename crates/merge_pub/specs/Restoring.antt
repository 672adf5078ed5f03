-- Which tables a publisher can be restored with.
use Rattle.std.specs.List.Sorted.{IsStrictlySortedBy}
use Rattle.std.specs.Map.{keys_of}
use Rattle.std.specs.Ordering.{nat_cmp}
use Rattle.std.specs.Prelude.{◌≡◌, List, map}
use Rattle.merge_types.specs.declared.row_key.RowKey.{RowKey as Key}
use Rattle.merge_units.specs.declared.site_row.PublisherRow.{PublisherRow}
use Rattle.merge_units.specs.declared.version.Version.{Version}
use Rattle.merge_table.specs.declared.edit.Edit.{Edit}
use Rattle.merge_table.specs.declared.edit.Edit.TheVariants.{Put}
use Rattle.merge_gens.specs.Entries.{entry_of}
use Rattle.merge_gens.specs.declared.index.IndexEntry.{IndexEntry}
use Rattle.merge_gens.specs.declared.moves.Mapping.{Mapping}
use Rattle.merge_gens.specs.declared.moves.RowSite.{RowSite}
use Rattle.merge_ident.specs.Grants.{AreGrants, AreInOrder}
use Rattle.merge_schema.specs.declared.publication.Publication.{Publication}
use Rattle.merge_part.specs.View.{live_in}
use Rattle.merge_model.specs.Laws.{AreSorted}
use Rattle.merge_model.specs.Tables.{PublisherTables}
use Rattle.merge_pub.specs.Held.{Held}
use Rattle.merge_steps.specs.Indexed.{AreIndexed, AreMoved}
use Rattle.merge_steps.specs.Keeps.{KeepsRules}
use Rattle.merge_steps.specs.LiveRows.{live_pairs}
use Rattle.merge_steps.specs.MoveEntries.{move_entry}
use Rattle.merge_pub.specs.declared.indexes.Indexes.{Indexes}
use Rattle.merge_steps.specs.declared.site_moves.MoveEntry.{MoveEntry}
use Rattle.merge_pub.specs.declared.starting.Kept.{Kept}
use Rattle.merge_pub.specs.declared.tables.Tables.{Tables}

-- the tables that are kept
abbrev pub tables_in : Kept → PublisherTables
tables_in k = record {
  changes = k.changes;
  gens = record { filling = k.filling; closings = k.closings };
  conflict_count = k.conflict_count;
  latest = k.latest;
  rows = k.rows;
  mappings = k.mappings;
  conflicts = k.conflicts;
  grants = k.grants;
  held = k.held;
  sites = k.sites;
}

-- What every publisher keeps of its tables: the lists ascend, and so do grants by article and begin; and the rules hold that every
-- step keeps.
pub record CanStand (publication : Publication) (p : PublisherTables) : Type 0 where
  pub sorted : AreSorted p
  pub held_ascend : IsStrictlySortedBy nat_cmp (keys_of p.held)
  pub granted : AreGrants p.grants
  pub in_order : AreInOrder p.grants
  pub keeps : KeepsRules publication p

-- the versions of rows
abbrev pub version_of : Key × PublisherRow → Key × Version
version_of row = (row.0, row.1.version)

abbrev pub versions_of : List (Key × PublisherRow) → List (Key × Version)
versions_of rows = map version_of rows

-- the changes of empty indexes by which rows and mappings are found by their generations
abbrev pub changed_put : Key × PublisherRow → Edit IndexEntry (Unit {0})
changed_put row = Put (entry_of row.1.changed row.0) tt

abbrev pub moved_put : RowSite × Mapping → Edit MoveEntry (Unit {0})
moved_put mapping = Put (move_entry mapping.0 mapping.1.generation) tt

-- what finds these rows and mappings, and no others
pub record AreIndexesOf (publication : Publication) (rows : List (Key × PublisherRow)) (mappings : List (RowSite × Mapping)) (i : Indexes) : Type 0 where
  pub same : i.membership.publication ≡ publication
  pub live : live_in i.membership ≡ live_pairs rows
  pub changed : AreIndexed rows i.changed.entries
  pub moved : AreMoved mappings i.moved.rows

-- the tables, as a publisher holds them
abbrev pub tables_with : Tables → PublisherTables
tables_with t = record {
  changes = t.changes;
  gens = t.gens.book;
  conflict_count = t.conflict_count;
  latest = t.latest;
  rows = t.keyed.rows.rows;
  mappings = t.keyed.mappings.rows;
  conflicts = t.conflicts.rows;
  grants = t.grants.grants;
  held = t.keyed.held.rows;
  sites = t.keyed.sites.rows;
}

-- what is held with these parts
abbrev pub held_with : Indexes → Tables → Held
held_with i t = record {
  changes = t.changes;
  conflict_count = t.conflict_count;
  latest = t.latest;
  gens = t.gens;
  rows = t.keyed.rows;
  mappings = t.keyed.mappings;
  sites = t.keyed.sites;
  conflicts = t.conflicts;
  grants = t.grants;
  held = t.keyed.held;
  membership = i.membership;
  changed = i.changed;
  moved = i.moved;
}
