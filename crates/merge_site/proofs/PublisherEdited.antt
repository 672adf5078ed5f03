-- The edits of a publisher's commit lead to the records of its tables after the step.
use Rattle.std.proofs.Common.{◌≡◌, ◌∙◌, ℕ, ◌^◌, ◌<◌, true, List, [], ◌∷◌, ◌++◌, map, refl, sym, ap, subst}
use Rattle.std.specs.declared.option.Option.{Option}
use Rattle.std.specs.List.{AllByRecursion}
use Rattle.std.specs.Ordering.{nat_cmp}
use Rattle.std.proofs.lemmas.Cmp.{nat_cmp_total}
use Rattle.merge_types.specs.RowKeys.{key_cmp}
use Rattle.merge_types.specs.declared.identifiers.Moment.{Moment}
use Rattle.merge_types.specs.declared.row_key.RowKey.{RowKey}
use Rattle.merge_table.specs.Edits.{rows_after_all}
use Rattle.merge_table.proofs.Sorted.{sorted_after_all}
use Rattle.merge_units.specs.declared.site_row.PublisherRow.{PublisherRow}
use Rattle.merge_gens.specs.Book.{Book, IsSound}
use Rattle.merge_gens.specs.Moves.{row_site_cmp}
use Rattle.merge_gens.specs.Plan.{book_after_plan}
use Rattle.merge_gens.specs.declared.closings.Closing.{Closing}
use Rattle.merge_gens.specs.declared.filling.Filling.{Filling}
use Rattle.merge_gens.specs.declared.moves.Mapping.{Mapping}
use Rattle.merge_gens.specs.declared.moves.RowSite.{RowSite}
use Rattle.merge_gens.specs.declared.sites.SiteState.{SiteState}
use Rattle.merge_ident.specs.Answers.{grants_with_all}
use Rattle.merge_ident.specs.Books.{AllFollow}
use Rattle.merge_ident.specs.Grants.{AreGrants, with_grants}
use Rattle.merge_ident.specs.Holders.{Holder}
use Rattle.merge_ident.specs.declared.grants.Grant.{Grant}
use Rattle.merge_conflict.specs.Rising.{AreRising}
use Rattle.merge_conflict.specs.declared.row.ConflictRow.{ConflictRow}
use Rattle.merge_model.specs.Tables.{PublisherTables}
use Rattle.merge_ports.specs.Entries.{change_of, entry_cmp}
use Rattle.merge_ports.specs.declared.entry.EntryEdit.{EntryEdit}
use Rattle.merge_record.specs.Tables.{IsRowKey, IsRowSite}
use Rattle.merge_keeper.specs.Encoded.{AllEditKeys}
use Rattle.merge_keeper.specs.Entries.{closing_of, closing_pair, conflict_of, conflict_pair, was_received}
use Rattle.merge_keeper.specs.Stored.{AreNew, FitPublisher, HasGrantKey, IsPublisherKeyed, closings_after, conflicts_after, held_put, publisher_after, publisher_edits, publisher_records}
use Rattle.merge_keeper.specs.declared.stored.PublisherChanges.{PublisherChanges}
use Rattle.merge_keeper.specs.declared.stored.PublisherStored.{PublisherStored}
use Rattle.merge_keeper.proofs.Encoding.{keys-after_all}
use Rattle.merge_keeper.proofs.FollowAll.{publisher_follows}
use Rattle.merge_steps.specs.declared.changes.Changes.{Changes}
use Rattle.merge_site.specs.Grants.{granted_by}
use Rattle.merge_site.specs.Kept.{LeadTo}
use Rattle.merge_site.specs.Lists.{book_left, closing_changes}
use Rattle.merge_site.specs.Publishers.{AreKeyed, AreStoredAs, FitFields, after_forgetting, records_of, publisher_stored}
use Rattle.merge_site.specs.declared.lists.Forgets.{Forgets}
use Rattle.merge_site.proofs.Granted.{granted-all, granted-keys, granted-new}
use Rattle.merge_site.proofs.Keyed.{held-keys, paired-keys}
use Rattle.merge_site.proofs.ListsAfter.{closings-changed, conflicts-changed, filling-left}

abbrev Lists : Type 0
Lists = List Closing × (List (RowKey × PublisherRow) × (List (RowSite × Mapping) × (List ConflictRow × (List Grant × (List (ℕ × Holder) × List (ℕ × SiteState))))))

abbrev stored_with : ℕ → ℕ → Moment → Filling → Lists → PublisherStored
stored_with changes count latest filling lists = record {
  changes = changes;
  filling = filling;
  closings = lists.0;
  conflict_count = count;
  latest = latest;
  rows = lists.1.0;
  mappings = lists.1.1.0;
  conflicts = lists.1.1.1.0;
  grants = lists.1.1.1.1.0;
  held = lists.1.1.1.1.1.0;
  sites = lists.1.1.1.1.1.1;
}

both : {A B : Type 0} (a a' : A) (b b' : B) → a ≡ a' → b ≡ b' → (let p : A × B = (a, b) in p) ≡ (a', b')
both {A = A} {B = B} a a' b b' e f = ap (λ (x : A). (let p : A × B = (x, b) in p)) e ∙ ap (λ (y : B). (let p : A × B = (a', y) in p)) f

abbrev lists_of : PublisherTables → Lists
lists_of p = (p.gens.closings, (p.rows, (p.mappings, (p.conflicts, (p.grants, (p.held, p.sites))))))

-- what is stored after a step is the step's tables as they are stored
pub stored-after : (p : PublisherTables) (c : Changes) (kept : List Closing) (forgets : Option Forgets) (stored : PublisherChanges) → kept ≡ p.gens.closings → AreStoredAs kept forgets c stored → IsSound (book_after_plan p.gens c.gens) → AreRising (p.conflicts ++ c.conflicts.rows)
    → publisher_after stored (publisher_stored p) ≡ publisher_stored (after_forgetting forgets c p)
stored-after p c kept forgets stored is h sound rising =
    let left : Book = book_left (book_after_plan p.gens c.gens) forgets in
    let closings : closings_after p.gens.closings stored.closings ≡ left.closings =
    ap (closings_after p.gens.closings) (h.closings ∙ ap (λ (l : List Closing). closing_changes l c.gens.closings forgets) is) ∙ closings-changed p.gens c.gens forgets sound in
    let rows : rows_after_all key_cmp p.rows stored.rows ≡ rows_after_all key_cmp p.rows c.rows = ap (rows_after_all key_cmp p.rows) h.rows in
    let mappings : rows_after_all row_site_cmp p.mappings stored.mappings ≡ rows_after_all row_site_cmp p.mappings c.mappings = ap (rows_after_all row_site_cmp p.mappings) h.mappings in
    let conflicts : conflicts_after p.conflicts stored.conflicts ≡ p.conflicts ++ c.conflicts.rows = ap (conflicts_after p.conflicts) h.conflicts ∙ conflicts-changed p.conflicts c.conflicts.rows rising in
    let grants : with_grants p.grants stored.grants ≡ grants_with_all p.grants c.grants = ap (with_grants p.grants) h.grants ∙ sym (granted-all c.grants p.grants) in
    let held : rows_after_all nat_cmp p.held (map held_put stored.held) ≡ rows_after_all nat_cmp p.held c.held = ap (rows_after_all nat_cmp p.held) h.held in
    let sites : rows_after_all nat_cmp p.sites stored.sites ≡ rows_after_all nat_cmp p.sites c.sites = ap (rows_after_all nat_cmp p.sites) h.sites in
    let filling : stored.filling ≡ left.filling = h.filling ∙ sym (filling-left (book_after_plan p.gens c.gens) forgets) in
    let lists = both _ _ _ _ closings (both _ _ _ _ rows (both _ _ _ _ mappings (both _ _ _ _ conflicts (both _ _ _ _ grants (both _ _ _ _ held sites))))) in
    ap (stored_with stored.changes stored.conflict_count stored.latest stored.filling) lists
    ∙ ap (λ (f : Filling). stored_with stored.changes stored.conflict_count stored.latest f (lists_of (after_forgetting forgets c p))) filling
    ∙ rw (h.changes, h.conflict_count, h.latest) refl

-- ---- numbers still fit their fields

keyed_stored : (c : PublisherChanges) (t : PublisherStored) → IsPublisherKeyed t → FitFields c → IsPublisherKeyed (publisher_after c t)
keyed_stored c t k f = record {
  rows = keys-after_all IsRowKey key_cmp c.rows f.rows t.rows k.rows;
  mappings = keys-after_all IsRowSite row_site_cmp c.mappings f.mappings t.mappings k.mappings;
  closings = paired-keys (λ n. n < 2 ^ 64) closing_pair closing_of (λ e h. h) (rows_after_all nat_cmp (map closing_pair t.closings) c.closings) (keys-after_all (λ n. n < 2 ^ 64) nat_cmp c.closings f.closings (map closing_pair t.closings) k.closings);
  conflicts = paired-keys (λ n. n < 2 ^ 64) conflict_pair conflict_of (λ e h. h) (rows_after_all nat_cmp (map conflict_pair t.conflicts) c.conflicts) (keys-after_all (λ n. n < 2 ^ 64) nat_cmp c.conflicts f.conflicts (map conflict_pair t.conflicts) k.conflicts);
  grants = granted-keys c.grants t.grants f.grants k.grants;
  held = keys-after_all (λ n. n < 2 ^ 8) nat_cmp (map held_put c.held) (held-keys c.held f.held) t.held k.held;
  sorted = sorted_after_all nat_cmp nat_cmp_total t.held (map held_put c.held) k.sorted;
  sites = keys-after_all (λ n. n < 2 ^ 16) nat_cmp c.sites f.sites t.sites k.sites;
}

pub keyed-after : (p : PublisherTables) (c : Changes) (kept : List Closing) (forgets : Option Forgets) (stored : PublisherChanges) → kept ≡ p.gens.closings → AreKeyed p → IsSound (book_after_plan p.gens c.gens) → AreRising (p.conflicts ++ c.conflicts.rows)
    → AreStoredAs kept forgets c stored → FitFields stored → AreKeyed (after_forgetting forgets c p)
unfolding AreKeyed
keyed-after p c kept forgets stored is keyed sound rising h fit = subst IsPublisherKeyed (stored-after p c kept forgets stored is h sound rising) (keyed_stored stored (publisher_stored p) keyed fit)

fit : (p : PublisherTables) (c : Changes) (kept : List Closing) (forgets : Option Forgets) (stored : PublisherChanges) → FitFields stored → AreStoredAs kept forgets c stored → AreGrants p.grants → AllFollow p.grants c.grants → FitPublisher (publisher_stored p) stored
fit p c kept forgets stored f h grants follow = record {
  rows = f.rows;
  mappings = f.mappings;
  closings = f.closings;
  conflicts = f.conflicts;
  grants = f.grants;
  new = subst (λ (l : List Grant). AreNew p.grants l) (sym h.grants) (granted-new c.grants p.grants grants.numbered follow);
  held = f.held;
  sites = f.sites;
}

pub edits-lead : (p : PublisherTables) (c : Changes) (kept : List Closing) (forgets : Option Forgets) (stored : PublisherChanges) (edits : List EntryEdit) → kept ≡ p.gens.closings → AreKeyed p → IsSound (book_after_plan p.gens c.gens)
    → AreRising (p.conflicts ++ c.conflicts.rows) → AreStoredAs kept forgets c stored → FitFields stored → AreGrants p.grants → AllFollow p.grants c.grants → ((t : PublisherStored) → map change_of edits ≡ publisher_edits stored t)
    → LeadTo edits (records_of p) (records_of (after_forgetting forgets c p))
unfolding AreKeyed records_of
edits-lead p c kept forgets stored edits is keyed sound rising h fields grants follow written =
    let are = written (publisher_stored p) in
    record {
      follow =
          ap (rows_after_all entry_cmp (publisher_records (publisher_stored p))) are
          ∙ publisher_follows stored (publisher_stored p) keyed (fit p c kept forgets stored fields h grants follow)
          ∙ ap publisher_records (stored-after p c kept forgets stored is h sound rising);
      state = record { value = _; rest = _; is = are };
    }
