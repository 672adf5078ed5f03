-- A subscriber is made anew.
use Rattle.std.specs.Prelude.{◌≡◌, ◌+◌, ◌<◌, ◌≤◌, ◌==◌, ◌&&◌, ◌||◌, ◌++◌, ℕ, All, Bool, true, false, not, List, [], ◌∷◌, None, Option, Some, cond, filter, length, map, nat_lt, refl}
use Rattle.std.specs.BTreeMap.{is_at}
use Rattle.std.specs.FinSet as set
use Rattle.std.specs.List.{AllByRecursion, flat_map, list_any}
use Rattle.std.specs.List.Sorted.{IsStrictlySortedBy}
use Rattle.std.specs.Map.{keys_of, remove_entry}
use Rattle.std.specs.Ordering.{is_eq, nat_cmp, ordering_reverse}
use Rattle.std.proofs.Common.{ap, arith, subst, sym, ◌∙◌}
use Rattle.std.proofs.lemmas.Bool.Decides.{nat_tests}
use Rattle.std.proofs.lemmas.Cmp.{tied_itself}
use Rattle.std.proofs.lemmas.List.{append_assoc, length-append}
use Rattle.std.proofs.lemmas.List.Elements.{All-append, All-from_recursion, recursion_from_All}
use Rattle.merge_types.specs.Limits.{number_limit}
use Rattle.merge_types.specs.RowKeys.{key_cmp}
use Rattle.merge_types.specs.declared.identifiers.Moment.{Moment}
use Rattle.merge_types.specs.declared.row_key.RowKey.{RowKey}
use Rattle.merge_table.specs.Edits.{rows_after_all}
use Rattle.merge_units.specs.declared.site_row.SubscriberRow.{SubscriberRow}
use Rattle.merge_batch.specs.declared.request.UploadItem.{UploadItem}
use Rattle.merge_schema.specs.declared.publication.Publication.{Publication}
use Rattle.merge_gens.specs.Entries.{entry_cmp}
use Rattle.merge_gens.specs.Index.{entries_after_all}
use Rattle.merge_gens.specs.Book.{Book, book_after_forgetting, closed_now, forgotten_if_any}
use Rattle.merge_gens.specs.Book as gens
use Rattle.merge_gens.specs.Filling.{filling_after_close}
use Rattle.merge_gens.specs.declared.filling.Filling.{Filling}
use Rattle.merge_gens.specs.Plan.{IsPrepared, book_after_plan}
use Rattle.merge_gens.specs.Book.{BookWithRoom}
use Rattle.merge_gens.specs.declared.plan.GenerationPlan.{GenerationPlan}
use Rattle.merge_gens.specs.declared.index.IndexEntry.{IndexEntry}
use Rattle.merge_conflict.specs.declared.table.ConflictPlan.{ConflictPlan}
use Rattle.merge_table.specs.declared.edit.Edit.{Edit}
use Rattle.merge_gens.specs.declared.closings.Closing.{Closing}
use Rattle.merge_conflict.specs.Rising.{AreRising, RiseAbove}
use Rattle.merge_conflict.specs.declared.row.ConflictRow.{ConflictRow}
use Rattle.merge_conflict.proofs.RisingRows.{go_on_above}
use Rattle.merge_ident.specs.Holders.{Holder}
use Rattle.merge_model.specs.Tables.Keys.{row_at, same_key}
use Rattle.merge_model.specs.Subscriber.Reinit.{tables_made_anew}
use Rattle.merge_model.specs.Publisher.{later}
use Rattle.merge_model.specs.Subscriber.{subscriber_at_moment, subscriber_closed}
use Rattle.merge_model.proofs.Lists.{all-append}
use Rattle.merge_model.specs.Tables.{SubscriberTables}
use Rattle.merge_model.proofs.Lists.KeyLookUps.{key-test, keys-same}
use Rattle.merge_model.proofs.Publishers.Sorted.{key_total}
use Rattle.merge_table.proofs.Room.{AreAbove}
use Rattle.merge_sub.proofs.Indexed.{entries-append, is_among, taken-all}
use Rattle.merge_sub.proofs.Opened.{GoesOn, forgotten-filling}
use Rattle.merge_sub.specs.Anew.{dropped_entries, dropped_rows, lost_from, row_entries}
use Rattle.merge_sub.specs.Drafts.{after}
use Rattle.merge_sub.specs.Held.{AreFitting, AreIndexed, AreMade, AreNumbered, Held, IsSound, KeepOpened, entry_behind, keeps, tables_of}
use Rattle.merge_sub.specs.declared.changes.Changes.{Changes}
use Rattle.merge_sub.specs.declared.anew.Discarding.{Discarding}

abbrev pub Rows : Type 0
Rows = List (RowKey × SubscriberRow)

-- All rows are dropped.
pub rows-dropped : (rows : Rows) → rows_after_all key_cmp rows (dropped_rows rows) ≡ []
rows-dropped [] = refl
rows-dropped (row ∷ rows) =
    let first : is_at (key_cmp row.0) row.0 ≡ true = ap is_eq (tied_itself key_total row.0) in
    ap (λ (b : Bool). (let left : Rows = cond b rows (row ∷ remove_entry (is_at (key_cmp row.0)) rows) in rows_after_all key_cmp left (dropped_rows rows))) first ∙ rows-dropped rows

-- whether one of the rows keeps the generation
abbrev pub some_keeps : RowKey → ℕ → Rows → Bool
some_keeps k g rows = list_any (λ (row : RowKey × SubscriberRow). same_key k row.0 && is_among g row.1.generations) rows

drop-tests : (here there found : Bool) → (not there && (not here && found)) ≡ (not (here || there) && found)
drop-tests true true found = refl
drop-tests true false found = refl
drop-tests false true found = refl
drop-tests false false found = refl

entries-dropped : (rows : Rows) (s : set.FinSet entry_cmp) (k : RowKey) (g : ℕ) → set.contains (entries_after_all s (dropped_entries rows)) (entry_behind g k) ≡ (not (some_keeps k g rows) && set.contains s (entry_behind g k))
entries-dropped [] s k g = refl
entries-dropped (row ∷ rows) s k g =
    ap (λ (e : set.FinSet entry_cmp). set.contains e (entry_behind g k)) (entries-append s (row_entries row) (dropped_entries rows))
    ∙ entries-dropped rows (entries_after_all s (row_entries row)) k g
    ∙ ap (λ (b : Bool). not (some_keeps k g rows) && b) (taken-all row.0 row.1.generations s k g)
    ∙ drop-tests (same_key k row.0 && is_among g row.1.generations) (some_keeps k g rows) (set.contains s (entry_behind g k))

found-keeps : (k : RowKey) (g : ℕ) (row : RowKey × SubscriberRow) (rows : Rows) (here : Bool) → is_at (key_cmp k) row.0 ≡ here → same_key k row.0 ≡ here → (keeps (row_at rows k) g ≡ true → some_keeps k g rows ≡ true)
    → keeps (let found : Option SubscriberRow = cond here (Some row.1) (row_at rows k) in found) g ≡ true → ((here && is_among g row.1.generations) || some_keeps k g rows) ≡ true
found-keeps k g row rows true at same more keep = rw keep refl
found-keeps k g row rows false at same more keep = more keep

kept-some : (rows : Rows) (k : RowKey) (g : ℕ) → keeps (row_at rows k) g ≡ true → some_keeps k g rows ≡ true
kept-some [] k g keep = absurd cc
kept-some (row ∷ rows) k g keep =
    let test : is_at (key_cmp k) row.0 ≡ same_key k row.0 = key-test k row.0 in
    found-keeps k g row rows (same_key k row.0) test refl (kept-some rows k g)
    (subst (λ (b : Bool). keeps (let found : Option SubscriberRow = cond b (Some row.1) (row_at rows k) in found) g ≡ true) test keep)

none-left : (some found : Bool) → (found ≡ true → some ≡ true) → (not some && found) ≡ false
none-left true found all = refl
none-left false true all = let no : false ≡ true = all refl in absurd cc
none-left false false all = refl

pub dropped-indexed : (rows : Rows) (entries : set.FinSet entry_cmp) → AreIndexed rows entries → AreIndexed [] (entries_after_all entries (dropped_entries rows))
unfolding AreIndexed
dropped-indexed rows entries indexed = λ k g.
    entries-dropped rows entries k g
    ∙ none-left (some_keeps k g rows) (set.contains entries (entry_behind g k)) (λ there. kept-some rows k g (sym (indexed k g) ∙ there))

-- What is discarded.

-- each of the rows is found by its key
abbrev pub AreFound : Rows → Rows → Type 0
AreFound all rows = AllByRecursion (λ (row : RowKey × SubscriberRow). row_at all row.0 ≡ Some row.1) rows

found-behind : (e : RowKey × SubscriberRow) (all rows : Rows) → AreAbove key_cmp e.0 (keys_of rows) → AreFound all rows → AreFound (e ∷ all) rows
found-behind e all [] above found = tt
found-behind e all (row ∷ rows) above found =
    let less : is_at (key_cmp row.0) e.0 ≡ false = ap is_eq (key_total.antisymm row.0 e.0 ∙ ap ordering_reverse above.0) in
    (ap (λ (b : Bool). (let found : Option SubscriberRow = cond b (Some e.1) (row_at all row.0) in found)) less ∙ found.0, found-behind e all rows above.1 found.1)

pub rows-found : (rows : Rows) → IsStrictlySortedBy key_cmp (keys_of rows) → AreFound rows rows
unfolding IsStrictlySortedBy
rows-found [] sorted = tt
rows-found (row ∷ rows) sorted =
    let first : is_at (key_cmp row.0) row.0 ≡ true = ap is_eq (tied_itself key_total row.0) in
    (ap (λ (b : Bool). (let found : Option SubscriberRow = cond b (Some row.1) (row_at rows row.0) in found)) first, found-behind row rows rows sorted.0 (rows-found rows sorted.1))

-- The numbers of what is discarded go on from those before.

lost-rises : (d : Discarding) (items : List UploadItem) (above number : ℕ) → above < number → RiseAbove above (lost_from d number items)
lost-rises d [] above number less = tt
lost-rises d (item ∷ items) above number less = (less, lost-rises d items number (number + 1) (omega arith))

lost-up-to : (d : Discarding) (most : ℕ) (items : List UploadItem) (number : ℕ) → number + length (lost_from d number items) ≤ most + 1 → AllByRecursion (λ (lost : ConflictRow). lost.number ≤ most) (lost_from d number items)
lost-up-to d most [] number few = tt
lost-up-to d most (item ∷ items) number few = (omega (arith, few), lost-up-to d most items (number + 1) (omega (arith, few)))

raised : (low high : ℕ) (rows : List ConflictRow) → low ≤ high → AllByRecursion (λ (row : ConflictRow). row.number ≤ low) rows → AllByRecursion (λ (row : ConflictRow). row.number ≤ high) rows
raised low high [] less all = tt
raised low high (row ∷ rows) less all = (omega (arith, less, all.0), raised low high rows less all.1)

pub discarded-rising : (d : Discarding) (items : List UploadItem) (count : ℕ) (conflicts lost : List ConflictRow) → lost ≡ lost_from d (count + 1) items → AreRising conflicts → AreNumbered count conflicts → AreRising (conflicts ++ lost)
unfolding AreNumbered
discarded-rising d items count conflicts lost is rising numbered = rw is (go_on_above count conflicts (lost_from d (count + 1) items) rising (All-from_recursion _ _ numbered) (lost-rises d items count (count + 1) (omega arith)))

pub discarded-numbered : (d : Discarding) (items : List UploadItem) (count : ℕ) (conflicts lost : List ConflictRow) → lost ≡ lost_from d (count + 1) items → AreNumbered count conflicts → AreNumbered (count + length lost) (conflicts ++ lost)
unfolding AreNumbered
discarded-numbered d items count conflicts lost is numbered =
    all-append (λ (row : ConflictRow). row.number ≤ count + length lost) conflicts lost (raised count (count + length lost) conflicts (omega arith) numbered)
    (subst (λ (l : List ConflictRow). AllByRecursion (λ (row : ConflictRow). row.number ≤ count + length l) l) (sym is) (lost-up-to d (count + length (lost_from d (count + 1) items)) items (count + 1) (omega arith)))

-- The generations that are kept are forgotten.

none-above : (last : ℕ) (closings : List Closing) → AllByRecursion (λ (closing : Closing). closing.generation ≤ last) closings → filter (λ (closing : Closing). nat_lt last closing.generation) closings ≡ []
none-above last [] all = refl
none-above last (closing ∷ closings) all =
    let out : nat_lt last closing.generation ≡ false = (let low = all.0 in grind (arith, nat_tests, low)) in
    rw out (none-above last closings all.1)

emptied-book : (book : Book) → gens.IsSound book → (last : ℕ) → last ≡ book.filling.last_closed → book_after_forgetting book last ≡ record book { closings = [] }
emptied-book book sound last is = rw is (ap (λ (closings : List Closing). (let b : Book = record { filling = book.filling; closings = closings } in b)) (none-above book.filling.last_closed book.closings (recursion_from_All _ _ sound.closed)))

-- The step of the machine.

pub emptied : (s : SubscriberTables) (now : Moment) (lost : List ConflictRow) (c : Changes) → book_after_plan s.gens c.gens ≡ closed_now s.gens (record { 0 = s.changes }) → gens.IsSound (book_after_plan s.gens c.gens) → (last : ℕ) → last ≡ (filling_after_close s.gens.filling).last_closed
    → c.state ≡ record { changes = s.changes; conflict_count = s.conflict_count + length lost; latest = later now s.latest; seq = s.seq; outstanding = None; received = last; watermark = 0; is_joined = false } → c.done ≡ Some last
    → c.rows ≡ dropped_rows s.rows → c.held ≡ [] → c.conflicts.rows ≡ lost → after c s ≡ tables_made_anew lost (subscriber_closed (subscriber_at_moment now s))
emptied s now lost c closes sound last is state done rows held conflicts =
    let book : book_after_forgetting (book_after_plan s.gens c.gens) last ≡ record (closed_now s.gens (record { 0 = s.changes })) { closings = [] } =
    emptied-book (book_after_plan s.gens c.gens) sound last (is ∙ ap (λ (b : Book). b.filling.last_closed) (sym closes)) ∙ ap (λ (b : Book). (let e : Book = record b { closings = [] } in e)) closes in
    rw (state, done, rows, held, conflicts, book, rows-dropped s.rows, is) refl

pub emptied-sound : (publication : Publication) (s : SubscriberTables) (entries : set.FinSet entry_cmp) → IsSound publication s entries → (made : SubscriberTables) → made.rows ≡ [] → made.held ≡ s.held → made.received ≤ made.gens.filling.last_closed → made.gens.filling.last_closed ≤ number_limit → AreNumbered made.conflict_count made.conflicts
    → IsSound publication made (entries_after_all entries (dropped_entries s.rows))
unfolding AreFitting AreMade KeepOpened
emptied-sound publication s entries sound made none held within limited numbered = record {
  valid = sound.valid;
  indexed = rw none (dropped-indexed s.rows entries sound.indexed);
  fitting = rw none (λ key row there. absurd cc);
  made = rw none (λ key row there. absurd cc);
  opened = rw none (λ key row there. absurd cc);
  within = within;
  limited = limited;
  ranged = rw held sound.ranged;
  numbered = numbered;
}

-- The loop over what would be sent.

-- so much is discarded, and this is left
pub record Losing (d : Discarding) (start : ℕ) (all : List UploadItem) (lost : List ConflictRow) (number : ℕ) (rest : List UploadItem) : Type 0 where
  pub more : lost ++ lost_from d (number + 1) rest ≡ lost_from d (start + 1) all
  pub counted : number ≡ start + length lost
  pub few : length lost + length rest ≤ length all

-- The same for what is held.

pub anew-rising : (h now : Held) → h ≡ now → AreRising h.conflicts.rows → IsSound h.publication (tables_of h) h.unsent.entries → (d : Discarding) (items : List UploadItem) (lost : List ConflictRow) → lost ≡ lost_from d (h.state.conflict_count + 1) items
    → AreRising (now.conflicts.rows ++ lost)
anew-rising h now view rising sound d items lost is =
    subst (λ (x : Held). AreRising (x.conflicts.rows ++ lost)) view (discarded-rising d items h.state.conflict_count h.conflicts.rows lost is rising sound.numbered)

pub anew-numbered : (h now : Held) → h ≡ now → IsSound h.publication (tables_of h) h.unsent.entries → (d : Discarding) (items : List UploadItem) (lost : List ConflictRow) → lost ≡ lost_from d (h.state.conflict_count + 1) items
    → AreNumbered (now.state.conflict_count + length lost) (now.conflicts.rows ++ lost)
anew-numbered h now view sound d items lost is =
    subst (λ (x : Held). AreNumbered (x.state.conflict_count + length lost) (x.conflicts.rows ++ lost)) view (discarded-numbered d items h.state.conflict_count h.conflicts.rows lost is sound.numbered)

pub emptied-draft : (h now : Held) → h ≡ now → (moment : Moment) (lost : List ConflictRow) (d : Changes) (plan : GenerationPlan) (last : ℕ) (rows : List (Edit RowKey SubscriberRow)) (kept : ConflictPlan)
    → d ≡ record { state = record { changes = h.state.changes; conflict_count = h.state.conflict_count + length lost; latest = later moment h.state.latest; seq = h.state.seq; outstanding = None; received = last; watermark = 0; is_joined = false }; gens = plan; done = Some last; rows = rows; held = []; conflicts = kept }
    → book_after_plan h.gens.book plan ≡ closed_now h.gens.book (record { 0 = h.state.changes }) → (prepared : BookWithRoom) → prepared.book ≡ h.gens.book → IsPrepared prepared plan
    → last ≡ (filling_after_close h.gens.book.filling).last_closed → rows ≡ dropped_rows h.rows.rows → kept.rows ≡ lost → after d (tables_of now) ≡ tables_made_anew lost (subscriber_closed (subscriber_at_moment moment (tables_of now)))
emptied-draft h now view moment lost d plan last rows kept is closes prepared same ready last_is dropped lost_is =
    let sound : gens.IsSound (book_after_plan h.gens.book plan) = subst (λ (b : Book). gens.IsSound (book_after_plan b plan)) same ready.sound in
    subst (λ (x : Held). after d (tables_of x) ≡ tables_made_anew lost (subscriber_closed (subscriber_at_moment moment (tables_of x)))) view
    (rw is (emptied (tables_of h) moment lost (record { state = record { changes = h.state.changes; conflict_count = h.state.conflict_count + length lost; latest = later moment h.state.latest; seq = h.state.seq; outstanding = None; received = last; watermark = 0; is_joined = false }; gens = plan; done = Some last; rows = rows; held = []; conflicts = kept })
    closes sound last last_is refl refl dropped refl lost_is))

-- all is sound afterwards
pub emptied-ready : (old now : Held) → old ≡ now → IsSound old.publication (tables_of old) old.unsent.entries → (h : Held) → tables_of h ≡ tables_of old → (lost : List ConflictRow) → AreNumbered (now.state.conflict_count + length lost) (now.conflicts.rows ++ lost)
    → (d : Changes) (count : ℕ) → d.state.conflict_count ≡ old.state.conflict_count + count → count ≡ length lost → d.rows ≡ dropped_rows old.rows.rows → d.held ≡ [] → d.conflicts.rows ≡ lost → d.state.received ≡ d.gens.filling.last_closed → GoesOn old.gens.book.filling.last_closed d.gens.filling.last_closed
    → (index : List (Edit IndexEntry (Unit {0}))) → index ≡ dropped_entries old.rows.rows → IsSound old.publication (after d (tables_of h)) (entries_after_all old.unsent.entries index)
emptied-ready old now view sound h same lost numbered d count counted all rows held conflicts received closes index is =
    let before : AreNumbered (old.state.conflict_count + length lost) (old.conflicts.rows ++ lost) = subst (λ (x : Held). AreNumbered (x.state.conflict_count + length lost) (x.conflicts.rows ++ lost)) (sym view) numbered in
    let counts : d.state.conflict_count ≡ old.state.conflict_count + length lost = counted ∙ ap (λ (n : ℕ). old.state.conflict_count + n) all in
    let behind : AreNumbered d.state.conflict_count (old.conflicts.rows ++ d.conflicts.rows) =
    subst (λ (n : ℕ). AreNumbered n (old.conflicts.rows ++ d.conflicts.rows)) (sym counts) (subst (λ (more : List ConflictRow). AreNumbered (old.state.conflict_count + length lost) (old.conflicts.rows ++ more)) (sym conflicts) before) in
    let none : rows_after_all key_cmp old.rows.rows d.rows ≡ [] = ap (λ (edits : List (Edit RowKey SubscriberRow)). rows_after_all key_cmp old.rows.rows edits) rows ∙ rows-dropped old.rows.rows in
    let ranges : rows_after_all nat_cmp old.held.rows d.held ≡ old.held.rows = ap (λ (edits : List (Edit ℕ Holder)). rows_after_all nat_cmp old.held.rows edits) held in
    let last : (forgotten_if_any (book_after_plan old.gens.book d.gens) d.done).filling.last_closed ≡ d.gens.filling.last_closed = ap (λ (filling : Filling). filling.last_closed) (forgotten-filling (book_after_plan old.gens.book d.gens) d.done) in
    let within : d.state.received ≤ (forgotten_if_any (book_after_plan old.gens.book d.gens) d.done).filling.last_closed = omega (arith, received, last) in
    let limited : (forgotten_if_any (book_after_plan old.gens.book d.gens) d.done).filling.last_closed ≤ number_limit = omega (arith, last, closes.limited sound.limited) in
    let there : IsSound old.publication (after d (tables_of old)) (entries_after_all old.unsent.entries (dropped_entries old.rows.rows)) = emptied-sound old.publication (tables_of old) old.unsent.entries sound (after d (tables_of old)) none ranges within limited behind in
    subst (λ (i : List (Edit IndexEntry (Unit {0}))). IsSound old.publication (after d (tables_of h)) (entries_after_all old.unsent.entries i)) (sym is)
    (subst (λ (s : SubscriberTables). IsSound old.publication (after d s) (entries_after_all old.unsent.entries (dropped_entries old.rows.rows))) (sym same) there)
