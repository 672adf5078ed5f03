-- The edits of a subscriber's commit lead to the records of its tables after the step.
use Rattle.std.proofs.Common.{◌≡◌, ◌∙◌, ℕ, ◌^◌, ◌<◌, true, List, [], ◌∷◌, ◌++◌, map, refl, sym, ap, subst}
use Rattle.std.specs.List.{AllByRecursion}
use Rattle.std.specs.Ordering.{nat_cmp}
use Rattle.std.proofs.lemmas.Cmp.{nat_cmp_total}
use Rattle.merge_types.specs.RowKeys.{key_cmp}
use Rattle.merge_types.specs.declared.identifiers.Moment.{Moment}
use Rattle.merge_types.specs.declared.identifiers.SiteId.{SiteId}
use Rattle.merge_types.specs.declared.row_key.RowKey.{RowKey}
use Rattle.merge_table.specs.Edits.{rows_after_all}
use Rattle.merge_table.specs.declared.edit.Edit.{Edit}
use Rattle.merge_table.proofs.Sorted.{sorted_after_all}
use Rattle.merge_units.specs.declared.site_row.SubscriberRow.{SubscriberRow}
use Rattle.merge_gens.specs.Book.{Book, IsSound, forgotten_if_any}
use Rattle.merge_gens.specs.Plan.{book_after_plan}
use Rattle.merge_gens.specs.declared.closings.Closing.{Closing}
use Rattle.merge_gens.specs.declared.filling.Filling.{Filling}
use Rattle.merge_ident.specs.Holders.{Holder}
use Rattle.merge_conflict.specs.Rising.{AreRising}
use Rattle.merge_conflict.specs.declared.row.ConflictRow.{ConflictRow}
use Rattle.merge_model.specs.Tables.{SubscriberTables}
use Rattle.merge_ports.specs.Entries.{change_of, entry_cmp}
use Rattle.merge_ports.specs.declared.entry.EntryEdit.{EntryEdit}
use Rattle.merge_record.specs.Tables.{IsRowKey}
use Rattle.merge_keeper.specs.Encoded.{AllEditKeys, AllKeys}
use Rattle.merge_keeper.specs.Entries.{closing_of, closing_pair, conflict_of, conflict_pair, was_received}
use Rattle.merge_keeper.specs.Stored.{FitSubscriber, IsSubscriberKeyed, closings_after, conflicts_after, held_put, subscriber_after, subscriber_edits, subscriber_records}
use Rattle.merge_keeper.specs.declared.stored.SubscriberChanges.{SubscriberChanges}
use Rattle.merge_keeper.specs.declared.stored.SubscriberStored.{SubscriberStored}
use Rattle.merge_keeper.proofs.Encoding.{keys-after_all}
use Rattle.merge_keeper.proofs.FollowAll.{subscriber_follows}
use Rattle.merge_sub.specs.Drafts.{after}
use Rattle.merge_sub.specs.declared.changes.Changes.{Changes}
use Rattle.merge_sub.specs.declared.state.State.{State}
use Rattle.merge_site.specs.Kept.{LeadTo}
use Rattle.merge_site.specs.Lists.{up_to}
use Rattle.merge_site.specs.Subscribers.{AreKeyed, AreStoredAs, records_of, state_of, subscriber_stored}
use Rattle.merge_site.proofs.Keyed.{held-keys, paired-keys}
use Rattle.merge_site.proofs.ListsAfter.{closings-changed, conflicts-changed, filling-left, left-up_to}

abbrev stored_with : SiteId → State → Filling → List Closing → List (RowKey × SubscriberRow) → List ConflictRow → List (ℕ × Holder) → SubscriberStored
stored_with site state filling closings rows conflicts held = record {
  site = site;
  changes = state.changes;
  filling = filling;
  closings = closings;
  conflict_count = state.conflict_count;
  latest = state.latest;
  seq = state.seq;
  outstanding = state.outstanding;
  received = state.received;
  watermark = state.watermark;
  is_joined = state.is_joined;
  rows = rows;
  conflicts = conflicts;
  held = held;
}

-- what is stored after a step is the step's tables as they are stored
pub stored-after : (s : SubscriberTables) (c : Changes) (stored : SubscriberChanges) → AreStoredAs s.gens.closings c stored → IsSound (book_after_plan s.gens c.gens) → AreRising (s.conflicts ++ c.conflicts.rows)
    → subscriber_after stored (subscriber_stored s) ≡ subscriber_stored (after c s)
stored-after s c stored h sound rising =
    let closings : closings_after s.gens.closings stored.closings ≡ (forgotten_if_any (book_after_plan s.gens c.gens) c.done).closings = ap (closings_after s.gens.closings) h.closings ∙ closings-changed s.gens c.gens (up_to c.done) sound ∙ ap (λ (book : Book). book.closings) (left-up_to (book_after_plan s.gens c.gens) c.done) in
    let conflicts : conflicts_after s.conflicts stored.conflicts ≡ s.conflicts ++ c.conflicts.rows = ap (conflicts_after s.conflicts) h.conflicts ∙ conflicts-changed s.conflicts c.conflicts.rows rising in
    let filling : stored.filling ≡ (forgotten_if_any (book_after_plan s.gens c.gens) c.done).filling = h.filling ∙ sym (filling-left (book_after_plan s.gens c.gens) (up_to c.done)) ∙ ap (λ (book : Book). book.filling) (left-up_to (book_after_plan s.gens c.gens) c.done) in
    let rows : rows_after_all key_cmp s.rows stored.rows ≡ rows_after_all key_cmp s.rows c.rows = ap (rows_after_all key_cmp s.rows) h.rows in
    let held : rows_after_all nat_cmp s.held (map held_put stored.held) ≡ rows_after_all nat_cmp s.held c.held = ap (rows_after_all nat_cmp s.held) h.held in
    ap (λ (n : State). stored_with s.site n stored.filling (closings_after s.gens.closings stored.closings) (rows_after_all key_cmp s.rows stored.rows) (conflicts_after s.conflicts stored.conflicts) (rows_after_all nat_cmp s.held (map held_put stored.held))) h.state
    ∙ ap (λ (f : Filling). stored_with s.site c.state f (closings_after s.gens.closings stored.closings) (rows_after_all key_cmp s.rows stored.rows) (conflicts_after s.conflicts stored.conflicts) (rows_after_all nat_cmp s.held (map held_put stored.held))) filling
    ∙ ap (λ (l : List Closing). stored_with s.site c.state (forgotten_if_any (book_after_plan s.gens c.gens) c.done).filling l (rows_after_all key_cmp s.rows stored.rows) (conflicts_after s.conflicts stored.conflicts) (rows_after_all nat_cmp s.held (map held_put stored.held))) closings
    ∙ ap (λ (l : List (RowKey × SubscriberRow)). stored_with s.site c.state (forgotten_if_any (book_after_plan s.gens c.gens) c.done).filling (forgotten_if_any (book_after_plan s.gens c.gens) c.done).closings l (conflicts_after s.conflicts stored.conflicts) (rows_after_all nat_cmp s.held (map held_put stored.held))) rows
    ∙ ap (λ (l : List ConflictRow). stored_with s.site c.state (forgotten_if_any (book_after_plan s.gens c.gens) c.done).filling (forgotten_if_any (book_after_plan s.gens c.gens) c.done).closings (rows_after_all key_cmp s.rows c.rows) l (rows_after_all nat_cmp s.held (map held_put stored.held))) conflicts
    ∙ ap (stored_with s.site c.state (forgotten_if_any (book_after_plan s.gens c.gens) c.done).filling (forgotten_if_any (book_after_plan s.gens c.gens) c.done).closings (rows_after_all key_cmp s.rows c.rows) (s.conflicts ++ c.conflicts.rows)) held

-- ---- numbers still fit their fields

keyed_stored : (c : SubscriberChanges) (t : SubscriberStored) → IsSubscriberKeyed t → FitSubscriber c → IsSubscriberKeyed (subscriber_after c t)
keyed_stored c t k f = record {
  rows = keys-after_all IsRowKey key_cmp c.rows f.rows t.rows k.rows;
  closings = paired-keys (λ n. n < 2 ^ 64) closing_pair closing_of (λ e h. h) (rows_after_all nat_cmp (map closing_pair t.closings) c.closings) (keys-after_all (λ n. n < 2 ^ 64) nat_cmp c.closings f.closings (map closing_pair t.closings) k.closings);
  conflicts = paired-keys (λ n. n < 2 ^ 64) conflict_pair conflict_of (λ e h. h) (rows_after_all nat_cmp (map conflict_pair t.conflicts) c.conflicts) (keys-after_all (λ n. n < 2 ^ 64) nat_cmp c.conflicts f.conflicts (map conflict_pair t.conflicts) k.conflicts);
  held = keys-after_all (λ n. n < 2 ^ 8) nat_cmp (map held_put c.held) (held-keys c.held f.held) t.held k.held;
  sorted = sorted_after_all nat_cmp nat_cmp_total t.held (map held_put c.held) k.sorted;
}

pub keyed-after : (s : SubscriberTables) (c : Changes) (kept : List Closing) (stored : SubscriberChanges) → kept ≡ s.gens.closings → AreKeyed s → IsSound (book_after_plan s.gens c.gens) → AreRising (s.conflicts ++ c.conflicts.rows)
    → AreStoredAs kept c stored → FitSubscriber stored → AreKeyed (after c s)
unfolding AreKeyed
keyed-after s c kept stored is keyed sound rising h fit =
    subst IsSubscriberKeyed (stored-after s c stored (subst (λ (l : List Closing). AreStoredAs l c stored) is h) sound rising) (keyed_stored stored (subscriber_stored s) keyed fit)

pub edits-lead : (s : SubscriberTables) (c : Changes) (kept : List Closing) (stored : SubscriberChanges) (site : SiteId) (edits : List EntryEdit) → kept ≡ s.gens.closings → site ≡ s.site → AreKeyed s
    → IsSound (book_after_plan s.gens c.gens) → AreRising (s.conflicts ++ c.conflicts.rows) → AreStoredAs kept c stored → FitSubscriber stored
    → ((t : SubscriberStored) → t.site ≡ site → map change_of edits ≡ subscriber_edits stored t) → LeadTo edits (records_of s) (records_of (after c s))
unfolding AreKeyed records_of
edits-lead s c kept stored site edits is own keyed sound rising h fit written =
    let are = written (subscriber_stored s) (sym own) in
    record {
      follow =
          ap (rows_after_all entry_cmp (subscriber_records (subscriber_stored s))) are
          ∙ subscriber_follows stored (subscriber_stored s) keyed fit
          ∙ ap subscriber_records (stored-after s c stored (subst (λ (l : List Closing). AreStoredAs l c stored) is h) sound rising);
      state = record { value = _; rest = _; is = are };
    }
