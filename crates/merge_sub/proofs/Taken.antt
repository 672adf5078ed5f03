-- A reply is taken: what its draft makes of the tables, and what holds then.
use Rattle.std.specs.FinSet as set
use Rattle.std.specs.List.{flat_map, fold}
use Rattle.std.specs.List.Sorted.{IsStrictlySortedBy}
use Rattle.std.specs.Map.{keys_of}
use Rattle.std.specs.Ordering.{nat_cmp}
use Rattle.std.specs.Prelude.{◌≡◌, ◌≤◌, ◌+◌, ◌++◌, ◌&&◌, ℕ, Bool, true, List, [], ◌∷◌, None, Option, Some, filter_map, map, nat_lt, refl}
use Rattle.std.proofs.Common.{ap, arith, subst, sym, ◌∙◌}
use Rattle.std.proofs.lemmas.List.{append-nil}
use Rattle.merge_types.specs.RowKeys.{key_cmp}
use Rattle.merge_types.specs.declared.row_key.RowKey.{RowKey}
use Rattle.merge_table.specs.Edits.{row_of, rows_after, rows_after_all}
use Rattle.merge_table.specs.declared.edit.Edit.{Edit}
use Rattle.merge_units.specs.declared.site_row.SubscriberRow.{SubscriberRow}
use Rattle.merge_gens.specs.Entries.{entry_cmp}
use Rattle.merge_gens.specs.Index.{entries_after_all}
use Rattle.merge_gens.specs.Plan.{book_after_plan}
use Rattle.merge_gens.specs.declared.index.IndexEntry.{IndexEntry}
use Rattle.merge_gens.specs.declared.plan.GenerationPlan.{GenerationPlan}
use Rattle.merge_conflict.specs.declared.table.ConflictPlan.{ConflictPlan}
use Rattle.merge_ident.specs.Holders.{Holder}
use Rattle.merge_schema.specs.declared.publication.Publication.{Publication}
use Rattle.merge_batch.specs.Replies.{ranged_fits}
use Rattle.merge_batch.specs.declared.reply.Act.{Act}
use Rattle.merge_batch.specs.declared.reply.Act.TheVariants as order
use Rattle.merge_batch.specs.declared.reply.DownloadItem.{DownloadItem}
use Rattle.merge_batch.specs.declared.reply.Ranged.{Ranged}
use Rattle.merge_model.specs.World.Faults.{heard_by}
use Rattle.merge_model.specs.Tables.Keys.{row_at}
use Rattle.merge_model.specs.Tables.{SubscriberTables}
use Rattle.merge_model.specs.Subscriber.Taking.{key_of_download, row_above, with_grant, with_grants}
use Rattle.merge_model.proofs.Lists.Finding.{some_same}
use Rattle.merge_model.proofs.Lists.{all-of}
use Rattle.merge_sub.proofs.Granted.{grants-ranged, ranged-made}
use Rattle.merge_sub.proofs.LetGo.{let-go-indexed, rows-let-go}
use Rattle.merge_sub.proofs.Opened.{opened-filter}
use Rattle.merge_sub.proofs.Ordered.{orders-made, taken-fitting, taken-keeps, taken-made, taken-rows, taken_rows}
use Rattle.merge_sub.specs.Drafts.{after}
use Rattle.merge_sub.specs.Held.{AreIndexed, AreMade, AreNumbered, HaveOpened, Held, IsSound, KeepOpened, tables_of}
use Rattle.merge_sub.specs.Sent.{AreKeeping}
use Rattle.merge_sub.specs.Taking.{AreOrders, at_state, entries_let_go, granted, let_go, order_of, ordered, with_orders}
use Rattle.merge_sub.specs.declared.changes.Changes.{Changes}
use Rattle.merge_sub.specs.declared.state.State.{State}

abbrev Rows : Type 0
Rows = List (RowKey × SubscriberRow)

abbrev Edits : Type 0
Edits = List (Edit RowKey SubscriberRow)

abbrev IndexEdits : Type 0
IndexEdits = List (Edit IndexEntry (Unit {0}))

abbrev Entries : Type 0
Entries = set.FinSet entry_cmp

-- What the publisher takes, and what it orders.

rows-append : (rows : Rows) (xs ys : Edits) → rows_after_all key_cmp rows (xs ++ ys) ≡ rows_after_all key_cmp (rows_after_all key_cmp rows xs) ys
rows-append rows [] ys = refl
rows-append rows (x ∷ xs) ys = rows-append (rows_after key_cmp rows x) xs ys

-- the edits of a reply that lets rows go and orders them
abbrev edits_by : Rows → ℕ → List RowKey → List DownloadItem → Edits
edits_by rows received keys items = filter_map (let_go rows received) keys ++ filter_map (order_of rows received) items

orders-after : (s : SubscriberTables) (received : ℕ) (keys : List RowKey) (items : List DownloadItem) → AreKeeping s.rows 0 (received + 1) keys → rows_after_all key_cmp s.rows (edits_by s.rows received keys items) ≡ taken_rows s received items
orders-after s received keys items keeping =
    rows-append s.rows (filter_map (let_go s.rows received) keys) (filter_map (order_of s.rows received) items)
    ∙ ap (λ (rows : Rows). rows_after_all key_cmp rows (filter_map (order_of s.rows received) items)) (rows-let-go received s.rows keys keeping)
    ∙ orders-made s received items (map (row_above received) s.rows)

ordered-opened : (closed : ℕ) (key : RowKey) (act : Act) (row : SubscriberRow) → row_of (ordered key act) ≡ Some row → HaveOpened closed row.generations
ordered-opened closed key (order.Put lineage live) row is = subst (λ (r : SubscriberRow). HaveOpened closed r.generations) (some_same _ _ is) tt
ordered-opened closed key order.RemoveDeleted row is = absurd cc
ordered-opened closed key order.RemoveLeft row is = absurd cc

taken-kept : (s : SubscriberTables) (received closed : ℕ) (items : List DownloadItem) → IsStrictlySortedBy key_cmp (keys_of s.rows) → KeepOpened closed s.rows → KeepOpened closed (taken_rows s received items)
unfolding KeepOpened
taken-kept s received closed items sorted kept =
    taken-rows (λ (key : RowKey) (row : SubscriberRow). HaveOpened closed row.generations) s received items sorted
    (λ key row found. opened-filter closed (λ (generation : ℕ). nat_lt received generation) row.generations (kept key row found))
    (all-of (λ (item : DownloadItem). (row : SubscriberRow) → row_of (ordered (key_of_download item) item.act) ≡ Some row → HaveOpened closed row.generations)
    (λ item row is. ordered-opened closed (key_of_download item) item.act row is) items)

taken-indexed : (s : SubscriberTables) (entries : Entries) (received : ℕ) (keys : List RowKey) (items : List DownloadItem) → AreIndexed s.rows entries → AreKeeping s.rows 0 (received + 1) keys
    → AreIndexed (taken_rows s received items) (entries_after_all entries (flat_map (entries_let_go s.rows received) keys))
unfolding AreIndexed
taken-indexed s entries received keys items indexed keeping k g =
    let-go-indexed received s.rows keys entries indexed keeping k g ∙ sym (taken-keeps s received items keeping.ordered k g)

-- what holds then
orders-sound : (publication : Publication) (s : SubscriberTables) (entries : Entries) → IsSound publication s entries → (state : State) → state.changes ≡ s.changes → state.conflict_count ≡ s.conflict_count → state.received ≤ s.gens.filling.last_closed
    → (keys : List RowKey) → AreKeeping s.rows 0 (state.received + 1) keys → (items : List DownloadItem) → AreOrders publication s items
    → IsSound publication (with_orders items state s) (entries_after_all entries (flat_map (entries_let_go s.rows state.received) keys))
orders-sound publication s entries sound state changes counts within keys keeping items orders =
    record {
      valid = sound.valid;
      indexed = taken-indexed s entries state.received keys items sound.indexed keeping;
      fitting = taken-fitting publication s state.received items keeping.ordered sound.fitting orders;
      made = subst (λ (n : ℕ). AreMade s.site n (taken_rows s state.received items)) (sym changes) (taken-made publication s state.received items keeping.ordered sound.made orders);
      opened = taken-kept s state.received s.gens.filling.last_closed items keeping.ordered sound.opened;
      within = within;
      limited = sound.limited;
      ranged = sound.ranged;
      numbered = subst (λ (n : ℕ). AreNumbered n s.conflicts) (sym counts) sound.numbered;
    }

-- the changes of such a reply
pub record AreTaken (s : SubscriberTables) (state : State) (keys : List RowKey) (items : List DownloadItem) (c : Changes) : Type 0 where
  pub own : c.state ≡ state
  pub gens : book_after_plan s.gens c.gens ≡ s.gens
  pub done : c.done ≡ Some state.received
  pub rows : c.rows ≡ edits_by s.rows state.received keys items
  pub held : c.held ≡ []
  pub conflicts : c.conflicts.rows ≡ []

taken-after : (s : SubscriberTables) (state : State) (keys : List RowKey) (items : List DownloadItem) (c : Changes) → AreTaken s state keys items c → AreKeeping s.rows 0 (state.received + 1) keys → after c s ≡ with_orders items state s
taken-after s state keys items c are keeping =
    let rows : rows_after_all key_cmp s.rows (edits_by s.rows state.received keys items) ≡ taken_rows s state.received items = orders-after s state.received keys items keeping in
    let none : s.conflicts ++ [] ≡ s.conflicts = append-nil s.conflicts in
    rw (are.own, are.gens, are.done, are.rows, are.held, are.conflicts, rows, none) refl

-- The same for ranges.

pub record AreGranted (s : SubscriberTables) (state : State) (ranged : Ranged) (c : Changes) : Type 0 where
  pub own : c.state ≡ state
  pub gens : book_after_plan s.gens c.gens ≡ s.gens
  pub done : c.done ≡ None
  pub rows : c.rows ≡ []
  pub held : c.held ≡ filter_map (granted s.held) ranged.grants
  pub conflicts : c.conflicts.rows ≡ []

granted-after : (s : SubscriberTables) (state : State) (ranged : Ranged) → ranged_fits (heard_by s) ranged ≡ true → (c : Changes) → AreGranted s state ranged c → after c s ≡ with_grants ranged (at_state state s)
granted-after s state ranged fits c are =
    let held : rows_after_all nat_cmp s.held (filter_map (granted s.held) ranged.grants) ≡ fold with_grant s.held ranged.grants = ranged-made (heard_by s) s.held ranged fits in
    let none : s.conflicts ++ [] ≡ s.conflicts = append-nil s.conflicts in
    rw (are.own, are.gens, are.done, are.rows, are.held, are.conflicts, held, none) refl

granted-sound : (publication : Publication) (s : SubscriberTables) (entries : Entries) → IsSound publication s entries → (state : State) → state.changes ≡ s.changes → state.conflict_count ≡ s.conflict_count → state.received ≡ s.received → (ranged : Ranged)
    → IsSound publication (with_grants ranged (at_state state s)) entries
granted-sound publication s entries sound state changes counts received ranged = record {
  valid = sound.valid;
  indexed = sound.indexed;
  fitting = sound.fitting;
  made = subst (λ (n : ℕ). AreMade s.site n s.rows) (sym changes) sound.made;
  opened = sound.opened;
  within = omega (arith, received, sound.within);
  limited = sound.limited;
  ranged = grants-ranged publication s.held ranged.grants sound.ranged;
  numbered = subst (λ (n : ℕ). AreNumbered n s.conflicts) (sym counts) sound.numbered;
}

-- The same for what is held. The site makes no change, and loses no version.

pub record KeepsCounts (h : Held) (state : State) : Type 0 where
  pub changes : state.changes ≡ h.state.changes
  pub conflicts : state.conflict_count ≡ h.state.conflict_count

pub taken-ready : (old now : Held) → old ≡ now → IsSound old.publication (tables_of old) old.unsent.entries → (h : Held) → tables_of h ≡ tables_of old → (state : State) → KeepsCounts now state → state.received ≤ now.gens.book.filling.last_closed
    → (keys : List RowKey) → AreKeeping old.rows.rows 0 (state.received + 1) keys → (items : List DownloadItem) → AreOrders now.publication (tables_of now) items → (c : Changes) → AreTaken (tables_of old) state keys items c
    → (index : IndexEdits) → index ≡ flat_map (entries_let_go old.rows.rows state.received) keys → IsSound old.publication (after c (tables_of h)) (entries_after_all old.unsent.entries index)
taken-ready old now view sound h same state keeps within keys keeping items orders c are index is =
    let counts : KeepsCounts old state = subst (λ (x : Held). KeepsCounts x state) (sym view) keeps in
    let closed : state.received ≤ old.gens.book.filling.last_closed = subst (λ (x : Held). state.received ≤ x.gens.book.filling.last_closed) (sym view) within in
    let own : AreOrders old.publication (tables_of old) items = subst (λ (x : Held). AreOrders x.publication (tables_of x) items) (sym view) orders in
    let there : IsSound old.publication (with_orders items state (tables_of old)) (entries_after_all old.unsent.entries (flat_map (entries_let_go old.rows.rows state.received) keys)) =
    orders-sound old.publication (tables_of old) old.unsent.entries sound state counts.changes counts.conflicts closed keys keeping items own in
    let made : after c (tables_of h) ≡ with_orders items state (tables_of old) =
    ap (after c) same ∙ taken-after (tables_of old) state keys items c are keeping in
    subst (λ (i : IndexEdits). IsSound old.publication (after c (tables_of h)) (entries_after_all old.unsent.entries i)) (sym is)
    (subst (λ (t : SubscriberTables). IsSound old.publication t (entries_after_all old.unsent.entries (flat_map (entries_let_go old.rows.rows state.received) keys))) (sym made) there)

pub taken-draft : (old now : Held) → old ≡ now → (state : State) (keys : List RowKey) → AreKeeping old.rows.rows 0 (state.received + 1) keys → (items : List DownloadItem)
    → (c : Changes) → AreTaken (tables_of old) state keys items c → (d : Changes) → d ≡ c → after d (tables_of now) ≡ with_orders items state (tables_of now)
taken-draft old now view state keys keeping items c are d is =
    ap (λ (e : Changes). after e (tables_of now)) is
    ∙ subst (λ (x : Held). after c (tables_of x) ≡ with_orders items state (tables_of x)) view
    (taken-after (tables_of old) state keys items c are keeping)

pub granted-ready : (old now : Held) → old ≡ now → IsSound old.publication (tables_of old) old.unsent.entries → (h : Held) → tables_of h ≡ tables_of old → (state : State) → KeepsCounts now state → state.received ≡ now.state.received
    → (ranged : Ranged) → ranged_fits (heard_by (tables_of now)) ranged ≡ true → (c : Changes) → AreGranted (tables_of old) state ranged c → (index : IndexEdits) → index ≡ [] → IsSound old.publication (after c (tables_of h)) (entries_after_all old.unsent.entries index)
granted-ready old now view sound h same state keeps received ranged fits c are index none =
    let counts : KeepsCounts old state = subst (λ (x : Held). KeepsCounts x state) (sym view) keeps in
    let at : state.received ≡ old.state.received = subst (λ (x : Held). state.received ≡ x.state.received) (sym view) received in
    let own : ranged_fits (heard_by (tables_of old)) ranged ≡ true = subst (λ (x : Held). ranged_fits (heard_by (tables_of x)) ranged ≡ true) (sym view) fits in
    let made : after c (tables_of h) ≡ with_grants ranged (at_state state (tables_of old)) = ap (after c) same ∙ granted-after (tables_of old) state ranged own c are in
    subst (λ (i : IndexEdits). IsSound old.publication (after c (tables_of h)) (entries_after_all old.unsent.entries i)) (sym none)
    (subst (λ (t : SubscriberTables). IsSound old.publication t old.unsent.entries) (sym made) (granted-sound old.publication (tables_of old) old.unsent.entries sound state counts.changes counts.conflicts at ranged))

pub granted-draft : (old now : Held) → old ≡ now → (state : State) (ranged : Ranged) → ranged_fits (heard_by (tables_of now)) ranged ≡ true → (c : Changes) → AreGranted (tables_of old) state ranged c → (d : Changes) → d ≡ c
    → after d (tables_of now) ≡ with_grants ranged (at_state state (tables_of now))
granted-draft old now view state ranged fits c are d is =
    ap (λ (e : Changes). after e (tables_of now)) is
    ∙ granted-after (tables_of now) state ranged fits c (subst (λ (x : Held). AreGranted (tables_of x) state ranged c) view are)
