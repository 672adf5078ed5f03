-- What a publisher holds, and when a draft of a step fits it.
use Rattle.std.specs.Prelude.{◌≡◌, ◌*◌, ◌≤◌, ℕ, Option, Some, None, length}
use Rattle.std.specs.Ordering.{nat_cmp}
use Rattle.merge_types.specs.RowKeys.{key_cmp}
use Rattle.merge_types.specs.declared.identifiers.Moment.{Moment}
use Rattle.merge_types.specs.declared.row_key.RowKey.{RowKey as Key}
use Rattle.merge_units.specs.declared.site_row.PublisherRow.{PublisherRow}
use Rattle.merge_table.specs.Contents.{Contents}
use Rattle.merge_table.specs.Edits.{IsReady, rows_after_all}
use Rattle.merge_gens.specs.Book.{BookWithRoom}
use Rattle.merge_gens.specs.Entries.{entry_cmp}
use Rattle.merge_gens.specs.Index.{Index, IsCompact as IsCompactIndex, entries_after_all}
use Rattle.merge_gens.specs.Moves.{row_site_cmp}
use Rattle.merge_gens.specs.Plan as gens
use Rattle.merge_gens.specs.declared.moves.Mapping.{Mapping}
use Rattle.merge_gens.specs.declared.moves.RowSite.{RowSite}
use Rattle.merge_gens.specs.declared.sites.SiteState.{SiteState}
use Rattle.merge_ident.specs.Books as grants
use Rattle.merge_ident.specs.Books.{Book}
use Rattle.merge_ident.specs.Holders.{Holder}
use Rattle.merge_conflict.specs.Table as conflicts
use Rattle.merge_conflict.specs.Table.{RowsWithRoom}
use Rattle.merge_schema.specs.Valid.{IsValid}
use Rattle.merge_schema.specs.declared.publication.Publication.{Publication}
use Rattle.merge_part.specs.Live.{Live}
use Rattle.merge_part.specs.View.{IsPrepared, Plan, View, live_after_plan, live_in}
use Rattle.merge_model.specs.Tables.Publications.{rules_of}
use Rattle.merge_model.specs.Tables.{PublisherTables}
use Rattle.merge_pub.specs.After.{after}
use Rattle.merge_steps.specs.Indexed.{AreIndexed, AreMoved}
use Rattle.merge_steps.specs.Keeps.{KeepsRules}
use Rattle.merge_steps.specs.LiveRows.{live_pairs}
use Rattle.merge_steps.specs.MoveEntries.{move_entry_cmp}
use Rattle.merge_steps.specs.declared.changes.Draft.{Draft}
use Rattle.merge_steps.specs.declared.site_moves.MoveEntry.{MoveEntry}

-- The parts as contracts of the crate see them. `tables_of` is what the contracts of calls speak of.
pub record Held : Type 0 where
  pub changes : ℕ
  pub conflict_count : ℕ
  pub latest : Moment
  pub gens : BookWithRoom
  pub rows : Contents Key PublisherRow
  pub mappings : Contents RowSite Mapping
  pub sites : Contents ℕ SiteState
  pub conflicts : RowsWithRoom
  pub grants : Book
  pub held : Contents ℕ Holder
  pub membership : View
  pub changed : Index
  pub moved : Contents MoveEntry (Unit {0})

abbrev pub tables_of : Held → PublisherTables
tables_of h = record {
  changes = h.changes;
  gens = h.gens.book;
  conflict_count = h.conflict_count;
  latest = h.latest;
  rows = h.rows.rows;
  mappings = h.mappings.rows;
  conflicts = h.conflicts.rows;
  grants = h.grants.grants;
  held = h.held.rows;
  sites = h.sites.rows;
}

abbrev pub publication_of : Held → Publication
publication_of h = h.membership.publication

-- what holds of all that is held: the membership has the live rows, and each row and each mapping is
-- found by its generation
pub record IsSound (h : Held) : Type 0 where
  pub valid : (resolvers : ℕ) × IsValid resolvers h.membership.publication
  pub rules : h.grants.rules ≡ rules_of h.membership.publication
  pub live : live_in h.membership ≡ live_pairs h.rows.rows
  pub indexed : AreIndexed h.rows.rows h.changed.entries
  pub moved : AreMoved h.mappings.rows h.moved.rows
  pub keeps : KeepsRules h.membership.publication (tables_of h)

-- the memory that is kept for rows, mappings and entries is at most for twice those that there are
pub record IsCompact (h : Held) : Type 0 where
  pub rows : length h.rows.slots ≤ 2 * length h.rows.rows
  pub mappings : length h.mappings.slots ≤ 2 * length h.mappings.rows
  pub changed : IsCompactIndex h.changed
  pub moved : length h.moved.slots ≤ 2 * length h.moved.rows

-- the live rows after a plan, where there is one
abbrev pub live_after_any : View → Option Plan → Live
live_after_any view None = live_in view
live_after_any view (Some plan) = live_after_plan view plan

abbrev pub IsAnyPrepared : View → Option Plan → Type 0
IsAnyPrepared view None = Unit {0}
IsAnyPrepared view (Some plan) = IsPrepared view plan

-- the memory for a step is there, and all is sound after it
pub record IsDrafted (h : Held) (d : Draft) : Type 0 where
  pub rows : IsReady key_cmp h.rows.slots d.changes.rows
  pub mappings : IsReady row_site_cmp h.mappings.slots d.changes.mappings
  pub sites : IsReady nat_cmp h.sites.slots d.changes.sites
  pub held : IsReady nat_cmp h.held.slots d.changes.held
  pub gens : gens.IsPrepared h.gens d.changes.gens
  pub conflicts : conflicts.IsReady h.conflicts d.changes.conflicts
  pub grants : grants.IsReady h.grants d.changes.grants
  pub plan : IsAnyPrepared h.membership d.plan
  pub changed : IsReady entry_cmp h.changed.slots d.index.changed.changes
  pub moved : IsReady move_entry_cmp h.moved.slots d.index.moved
  pub live : live_after_any h.membership d.plan ≡ live_pairs (rows_after_all key_cmp h.rows.rows d.changes.rows)
  pub indexed : AreIndexed (rows_after_all key_cmp h.rows.rows d.changes.rows) (entries_after_all h.changed.entries d.index.changed.changes)
  pub move_indexed : AreMoved (rows_after_all row_site_cmp h.mappings.rows d.changes.mappings) (rows_after_all move_entry_cmp h.moved.rows d.index.moved)
  pub keeps : KeepsRules h.membership.publication (after d.changes (tables_of h))
