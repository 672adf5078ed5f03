-- A step's edits as a draft of a publisher.
use Rattle.std.specs.Prelude.{◌≡◌, ◌++◌, ℕ, All, List, map, refl}
use Rattle.std.specs.FinSet as set
use Rattle.std.specs.List.Sorted.{IsStrictlySortedBy}
use Rattle.std.specs.Map.{keys_of}
use Rattle.std.specs.Ordering.{nat_cmp}
use Rattle.std.proofs.Common.{sym, ap, ◌∙◌, subst}
use Rattle.merge_types.specs.RowKeys.{key_cmp}
use Rattle.merge_types.specs.declared.row_key.RowKey.{RowKey as Key}
use Rattle.merge_units.specs.declared.site_row.PublisherRow.{PublisherRow}
use Rattle.merge_table.specs.declared.edit.Edit.{Edit}
use Rattle.merge_table.specs.Edits.{rows_after_all}
use Rattle.merge_gens.specs.Entries.{entry_cmp}
use Rattle.merge_ident.specs.Answers.{grants_with_all}
use Rattle.merge_part.specs.Taking.{FitsArticle}
use Rattle.merge_gens.specs.Index.{entries_after_all}
use Rattle.merge_gens.specs.Moves.{row_site_cmp}
use Rattle.merge_gens.specs.declared.index.IndexEntry.{IndexEntry}
use Rattle.merge_gens.specs.declared.moves.Mapping.{Mapping}
use Rattle.merge_gens.specs.declared.moves.RowSite.{RowSite}
use Rattle.merge_schema.specs.declared.publication.Publication.{Publication}
use Rattle.merge_model.specs.Publisher.Entries.{Changing}
use Rattle.merge_model.specs.Tables.{PublisherTables}
use Rattle.std.specs.List.{AllByRecursion}
use Rattle.merge_units.specs.declared.version.Version.{Version}
use Rattle.merge_pub.specs.After.{after}
use Rattle.merge_pub.specs.Held.{Held, tables_of}
use Rattle.merge_steps.specs.Keeps.{FitsHere, KeepsRules}
use Rattle.merge_steps.specs.Indexed.{AreIndexed, AreMoved}
use Rattle.merge_pub.specs.Making.{IsMade, with_besides}
use Rattle.merge_steps.specs.MoveEntries.{move_entry_cmp}
use Rattle.merge_steps.specs.Step.{Indexes, IndexesMoves, IsStep, KeepsFitting}
use Rattle.merge_steps.specs.declared.changes.Besides.{Besides}
use Rattle.merge_steps.specs.declared.changes.Changes.{Changes}
use Rattle.merge_steps.specs.declared.site_moves.MoveEntry.{MoveEntry}
use Rattle.merge_steps.specs.Working.{row_change}
use Rattle.merge_steps.specs.declared.step.Worked.{Worked}
use Rattle.merge_steps.proofs.Fitting.{changes-fit}

-- the changes of what was worked out
abbrev pub with_rows : Besides → Worked → Changes
with_rows besides w = record {
  changes = besides.changes;
  conflict_count = besides.conflict_count;
  latest = besides.latest;
  gens = w.gens;
  rows = w.rows;
  mappings = w.mappings;
  sites = besides.sites;
  conflicts = besides.conflicts;
  grants = besides.grants;
  held = besides.held;
}

made-from : (publication : Publication) (changing : Changing) (p : PublisherTables) (besides : Besides) (w : Worked) → IsStep publication changing p.rows p.mappings p.gens besides.latest w
    → IsMade publication changing p besides (with_rows besides w)
unfolding IsMade IsStep
made-from publication changing p besides w step = λ judge left. step (with_besides besides p) judge left

pub made-held : (changing : Changing) (h now : Held) → h ≡ now → (besides : Besides) (w : Worked) → IsStep h.membership.publication changing h.rows.rows h.mappings.rows h.gens.book besides.latest w
    → IsMade now.membership.publication changing (tables_of now) besides (with_rows besides w)
made-held changing h now is besides w step =
    subst (λ (x : Held). IsMade x.membership.publication changing (tables_of x) besides (with_rows besides w)) is (made-from h.membership.publication changing (tables_of h) besides w step)

pub indexed-from : (rows rows2 : List (Key × PublisherRow)) (w : Worked) (entries entries2 : set.FinSet entry_cmp) (changes : List (Edit IndexEntry (Unit {0}))) → Indexes rows w → AreIndexed rows entries → rows2 ≡ rows → entries2 ≡ entries → changes ≡ w.index
    → AreIndexed (rows_after_all key_cmp rows2 w.rows) (entries_after_all entries2 changes)
unfolding Indexes
indexed-from rows rows2 w entries entries2 changes follows indexed same_rows same_entries same_changes = rw (same_rows, same_entries, same_changes) (follows entries indexed)

pub moved-from : (mappings mappings2 : List (RowSite × Mapping)) (w : Worked) (entries entries2 : List (MoveEntry × Unit {0})) → IndexesMoves mappings w → IsStrictlySortedBy move_entry_cmp (keys_of entries) → AreMoved mappings entries
    → mappings2 ≡ mappings → entries2 ≡ entries → AreMoved (rows_after_all row_site_cmp mappings2 w.mappings) (rows_after_all move_entry_cmp entries2 w.moved)
unfolding IndexesMoves
moved-from mappings mappings2 w entries entries2 follows sorted moved same_mappings same_entries = rw (same_mappings, same_entries) (follows entries sorted moved)

-- the rules are kept in tables that have the same of what the rules ask
pub kept-after : (versions : List (Key × Version)) (h now : Held) → h ≡ now → (publication : Publication) (p : PublisherTables) → publication ≡ h.membership.publication → (besides : Besides) (w : Worked)
    → KeepsFitting h.membership.publication versions h.rows.rows w → KeepsRules now.membership.publication (with_besides besides (tables_of now)) → AllByRecursion (FitsHere now.membership.publication besides.changes) versions
    → p.changes ≡ besides.changes → p.rows ≡ rows_after_all key_cmp h.rows.rows w.rows → p.conflict_count ≡ besides.conflict_count → p.conflicts ≡ h.conflicts.rows ++ besides.conflicts.rows
    → p.held ≡ rows_after_all nat_cmp h.held.rows besides.held → p.grants ≡ grants_with_all h.grants.grants besides.grants → KeepsRules publication p
unfolding KeepsFitting
kept-after versions h now is publication p same besides w fitting keeps fit changes rows count conflicts held grants =
    let kept : KeepsRules h.membership.publication (with_besides besides (tables_of h)) = subst (λ (x : Held). KeepsRules x.membership.publication (with_besides besides (tables_of x))) (sym is) keeps in
    let fits : AllByRecursion (FitsHere h.membership.publication besides.changes) versions = subst (λ (x : Held). AllByRecursion (FitsHere x.membership.publication besides.changes) versions) (sym is) fit in
    record {
      rows = rw (same, changes, rows) (fitting besides.changes kept.rows fits);
      rising = rw conflicts kept.rising;
      conflicts = rw (count, conflicts) kept.conflicts;
      held = rw (same, held) kept.held;
      heard = rw (held, grants) kept.heard;
    }

pub fits-held : (h now : Held) → h ≡ now → (changes : ℕ) (versions : List (Key × Version)) → AllByRecursion (FitsHere now.membership.publication changes) versions → All (FitsArticle h.membership.publication) (map row_change versions)
fits-held h now is changes versions fit = changes-fit h.membership.publication changes versions (subst (λ (x : Held). AllByRecursion (FitsHere x.membership.publication changes) versions) (sym is) fit)
