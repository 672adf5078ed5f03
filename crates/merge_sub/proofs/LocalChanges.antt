-- A local change: what it asks of the row that is held, what holds after it, and that it is the step of the machine.
use Rattle.std.specs.Option.{option_and_then}
use Rattle.std.specs.Ordering.{nat_cmp}
use Rattle.std.specs.Prelude.{◌≡◌, ◌+◌, ◌/◌, ◌≤◌, ◌<◌, ℕ, ℤ, Bool, true, false, Err, List, [], ◌∷◌, None, Ok, Option, Result, Some, IfErr, cond, is_some, length, option_map, refl}
use Rattle.std.proofs.Common.{ap, arith, subst, sym, ◌∙◌}
use Rattle.std.proofs.lemmas.Bool.Decides.{nat_tests}
use Rattle.merge_types.specs.Limits.{counter_limit, entry_limit}
use Rattle.merge_types.specs.declared.changes.Change.{Change}
use Rattle.merge_types.specs.declared.changes.Change.TheVariants.{Delete, Insert, Update}
use Rattle.merge_types.specs.declared.changes.Setting.{Setting}
use Rattle.merge_types.specs.declared.identifiers.Dot.{Dot}
use Rattle.merge_types.specs.declared.identifiers.Moment.{Moment}
use Rattle.merge_types.specs.declared.identifiers.RowId.{RowId}
use Rattle.merge_types.specs.declared.identifiers.SiteId.{SiteId}
use Rattle.merge_types.specs.declared.row_key.RowKey.{RowKey}
use Rattle.merge_types.specs.declared.values.Value.{Value}
use Rattle.merge_types.specs.declared.values.Value.TheVariants.{Int, Null}
use Rattle.merge_table.specs.declared.edit.Edit.{Edit}
use Rattle.merge_table.proofs.LookUps.{lookup-insert_entry}
use Rattle.std.specs.BTreeMap.{is_at}
use Rattle.std.proofs.lemmas.Cmp.{nat_cmp_total}
use Rattle.merge_lineage.specs.Lineage.{knows, number_of, with_dot}
use Rattle.merge_units.specs.Changes.{ColumnsAscend}
use Rattle.merge_units.specs.declared.site_row.SubscriberRow.{SubscriberRow}
use Rattle.merge_units.specs.declared.version.Version.{Version}
use Rattle.merge_gens.specs.Entries.{entry_cmp}
use Rattle.merge_gens.specs.Index.{entries_after_all}
use Rattle.merge_gens.specs.declared.index.IndexEntry.{IndexEntry}
use Rattle.merge_ident.specs.Holders.{Holder, after_take, answer_to_take}
use Rattle.merge_ident.specs.declared.ranges.IdentityUsedUp.{IdentityUsedUp as IdentityEnd}
use Rattle.merge_schema.specs.Valid.{IsValid}
use Rattle.merge_schema.specs.declared.publication.Publication.{Publication}
use Rattle.merge_batch.specs.Articles.{fits_article, has_article}
use Rattle.merge_batch.specs.LocalChanges.{article_of, change_refusal, counter_end, identity_column, key_of, no_row, settings_of, version_after}
use Rattle.merge_batch.specs.declared.refusal.Refusal.{Refusal}
use Rattle.merge_change.specs.Allowed.{CanBeAsked, FitsHeld, HasIdentity, IsIdentity, IsNewAt}
use Rattle.merge_model.specs.Tables.Keys.{at_number, put_number, put_row, row_at}
use Rattle.merge_model.specs.Publisher.{later}
use Rattle.merge_model.specs.Subscriber.{generations_at, subscriber_counters, subscriber_drawn, subscriber_last_closed, subscriber_local, subscriber_local_refusal, subscriber_next_dot, subscriber_version_at, taken_value, with_open}
use Rattle.merge_model.specs.Tables.{SubscriberTables}
use Rattle.merge_sub.proofs.Indexed.{replaced-indexed}
use Rattle.merge_sub.proofs.Rows.{fitting-put, made-more, made-put}
use Rattle.merge_sub.proofs.Opened.{GoesOn, entry-goes-on, kept-changed}
use Rattle.merge_sub.specs.Held.{AreFitting, AreIndexed, AreMade, AreRanged, Held, IsSound, tables_of}
use Rattle.merge_sub.specs.Local.{IsChanged, changed_key, reindexing, with_change}
use Rattle.std.specs.FinSet as set

abbrev version_in : Option SubscriberRow → Option Version
version_in found = option_map (λ (row : SubscriberRow). row.version) found

-- What holds of the row that is held.

key-article : (dot : Dot) (change : Change) → (key_of dot change).article ≡ article_of change
key-article dot (Insert article values) = refl
key-article dot (Update article row values) = refl
key-article dot (Delete article row) = refl

fits-found : (publication : Publication) (rows : List (RowKey × SubscriberRow)) → AreFitting publication rows → (key : RowKey) (found : Option SubscriberRow) → row_at rows key ≡ found → FitsHeld publication key.article (version_in found)
unfolding AreFitting
fits-found publication rows fitting key None is = tt
fits-found publication rows fitting key (Some row) is = fitting key row is

pub can-be-asked : (publication : Publication) (s : SubscriberTables) (entries : set.FinSet entry_cmp) → IsSound publication s entries → (change : Change) → has_article publication (article_of change) ≡ true → ColumnsAscend (settings_of change)
    → CanBeAsked publication change (subscriber_version_at s (changed_key s change))
can-be-asked publication s entries sound change place ascend = record {
  valid = sound.valid;
  place = place;
  ascend = ascend;
  fits = subst (λ (article : ℕ). FitsHeld publication article (subscriber_version_at s (changed_key s change))) (key-article (subscriber_next_dot s) change) (fits-found publication s.rows sound.fitting (changed_key s change) (row_at s.rows (changed_key s change)) refl);
}

new-found : (site : SiteId) (changes : ℕ) (rows : List (RowKey × SubscriberRow)) → AreMade site changes rows → (key : RowKey) (found : Option SubscriberRow) → row_at rows key ≡ found
    → IsNewAt (record { site = site; number = changes + 1 }) (version_in found)
unfolding AreMade
new-found site changes rows made key None is = tt
new-found site changes rows made key (Some row) is = let below = made key row is in grind (arith, nat_tests, below)

pub is-new : (publication : Publication) (s : SubscriberTables) (entries : set.FinSet entry_cmp) → IsSound publication s entries → (key : RowKey) → IsNewAt (subscriber_next_dot s) (subscriber_version_at s key)
is-new publication s entries sound key = new-found s.site s.changes s.rows sound.made key (row_at s.rows key) refl

-- The change is the last one of its site that the new version knows.

dot-last : (dot : Dot) (l : List Dot) → number_of l dot.site.0 ≤ dot.number → number_of (with_dot dot l) dot.site.0 ≤ dot.number
dot-last dot [] below = grind (arith, nat_tests)
dot-last dot (first ∷ rest) below = grind (arith, nat_tests, below, dot-last dot rest)

version-last : (publication : Publication) (dot : Dot) (identity : Value) (change : Change) (held : Option Version) → ((version : Version) → held ≡ Some version → number_of version.lineage dot.site.0 ≤ dot.number)
    → (version : Version) → version_after publication dot identity change held ≡ Some version → number_of version.lineage dot.site.0 ≤ dot.number
version-last publication dot identity (Insert article values) held below version is =
    let lineage : with_dot dot [] ≡ version.lineage = cc in
    subst (λ (l : List Dot). number_of l dot.site.0 ≤ dot.number) lineage (dot-last dot [] (omega arith))
version-last publication dot identity (Update article row values) None below version is = absurd cc
version-last publication dot identity (Update article row values) (Some held) below version is =
    let lineage : with_dot dot held.lineage ≡ version.lineage = cc in
    subst (λ (l : List Dot). number_of l dot.site.0 ≤ dot.number) lineage (dot-last dot held.lineage (below held refl))
version-last publication dot identity (Delete article row) None below version is = absurd cc
version-last publication dot identity (Delete article row) (Some held) below version is =
    let lineage : with_dot dot held.lineage ≡ version.lineage = cc in
    subst (λ (l : List Dot). number_of l dot.site.0 ≤ dot.number) lineage (dot-last dot held.lineage (below held refl))

held-last : (site : SiteId) (changes : ℕ) (rows : List (RowKey × SubscriberRow)) → AreMade site changes rows → (key : RowKey) (found : Option SubscriberRow) → row_at rows key ≡ found
    → (version : Version) → version_in found ≡ Some version → number_of version.lineage site.0 ≤ changes + 1
unfolding AreMade
held-last site changes rows made key None is version some = absurd cc
held-last site changes rows made key (Some row) is version some =
    let same : row.version ≡ version = cc in
    let below = made key row is in
    subst (λ (v : Version). number_of v.lineage site.0 ≤ changes + 1) same (omega (arith, below))

-- A row that is not held is neither changed nor deleted.
pub never-none : (publication : Publication) (dot : Dot) (identity : Value) (change : Change) (held : Option Version) → no_row change held ≡ None → version_after publication dot identity change held ≡ None → ⊥
never-none publication dot identity (Insert article values) held lives none = absurd cc
never-none publication dot identity (Update article row values) None lives none = absurd cc
never-none publication dot identity (Update article row values) (Some version) lives none = absurd cc
never-none publication dot identity (Delete article row) None lives none = absurd cc
never-none publication dot identity (Delete article row) (Some version) lives none = absurd cc

-- All is sound after a change.
pub local-sound : (publication : Publication) (s : SubscriberTables) (entries : set.FinSet entry_cmp) → IsSound publication s entries → (change : Change) (identity : Value) → HasIdentity publication change identity
    → (held : List (ℕ × Holder)) → AreRanged publication held → (key : RowKey) (row : SubscriberRow) (index : List (Edit IndexEntry (Unit {0}))) → IsChanged publication s change identity key row index → (latest : Moment) → subscriber_last_closed s < counter_limit → s.gens.filling.filled < entry_limit
    → IsSound publication (with_change key row held latest s) (entries_after_all entries index)
local-sound publication s entries sound change identity whole held ranged key row index changed latest closed filled =
    let on : GoesOn (subscriber_last_closed s) (subscriber_last_closed s + (s.gens.filling.filled + 1) / entry_limit) = entry-goes-on (subscriber_last_closed s) s.gens.filling.filled closed filled in
    let dot : Dot = subscriber_next_dot s in
    let at : RowKey = changed_key s change in
    let last : number_of row.version.lineage s.site.0 ≤ s.changes + 1 =
    version-last publication dot identity change (subscriber_version_at s at) (held-last s.site s.changes s.rows sound.made at (row_at s.rows at) refl) row.version changed.version in
    record {
      valid = sound.valid;
      indexed = rw (changed.index, changed.at) (replaced-indexed s.rows entries at row sound.indexed);
      fitting = fitting-put publication s.rows sound.fitting key row (changed.fits whole);
      made = made-put s.site (s.changes + 1) s.rows (made-more s.site s.changes s.rows sound.made) key row last;
      opened = kept-changed (subscriber_last_closed s) (subscriber_last_closed s + (s.gens.filling.filled + 1) / entry_limit) on.rises s.rows sound.opened key row (rw changed.at changed.generations);
      within = omega (arith, sound.within, on.rises);
      limited = on.limited sound.limited;
      ranged = ranged;
      numbered = sound.numbered;
    }

-- The identity value.

abbrev Drawn : Type 0
Drawn = Result (Value × List (ℕ × Holder)) Refusal

abbrev value_in : Drawn → Value
value_in (Ok drawn) = drawn.0
value_in (Err refusal) = Null

abbrev held_in : List (ℕ × Holder) → Drawn → List (ℕ × Holder)
held_in held (Ok drawn) = drawn.1
held_in held (Err refusal) = held

taken-whole : (s : SubscriberTables) (article : ℕ) (holder : Holder) (answer : Result ℤ IdentityEnd) (drawn : Value × List (ℕ × Holder)) → taken_value s article holder answer ≡ Ok drawn → (number : ℤ) × (drawn.0 ≡ Int number)
taken-whole s article holder (Ok value) drawn done = (value, sym (ap value_in done))
taken-whole s article holder (Err used_up) drawn done = absurd cc

drawn-whole : (s : SubscriberTables) (article : ℕ) (values : List Setting) (found : Option Holder) → at_number s.held article ≡ found → (column : Option ℕ) → is_some found ≡ is_some column
    → (drawn : Value × List (ℕ × Holder)) → subscriber_drawn s (Insert article values) ≡ Ok drawn → IsIdentity column drawn.0
drawn-whole s article values found is None same drawn done = tt
drawn-whole s article values None is (Some column) same drawn done = absurd cc
drawn-whole s article values (Some holder) is (Some column) same drawn done = taken-whole s article holder (answer_to_take holder) drawn (rw (subscriber_drawn, is) at done)

pub drawn-identity : (publication : Publication) (s : SubscriberTables) → AreRanged publication s.held → (change : Change) (drawn : Value × List (ℕ × Holder)) → subscriber_drawn s change ≡ Ok drawn → HasIdentity publication change drawn.0
unfolding AreRanged
drawn-identity publication s ranged (Insert article values) drawn done = drawn-whole s article values (at_number s.held article) refl (identity_column publication article) (ranged article) drawn done
drawn-identity publication s ranged (Update article row values) drawn done = tt
drawn-identity publication s ranged (Delete article row) drawn done = tt

-- ranges are held of the same articles as before
same-article : (article key : ℕ) (held : List (ℕ × Holder)) (here : Bool) → is_at (nat_cmp key) article ≡ here → (holder : Holder) → is_some (at_number held article) ≡ true
    → is_some (let found : Option Holder = cond here (Some holder) (at_number held key) in found) ≡ is_some (at_number held key)
same-article article key held true at holder some = let same : article ≡ key = grind (arith, nat_tests, at) in sym (subst (λ (k : ℕ). is_some (at_number held k) ≡ true) same some)
same-article article key held false at holder some = refl

pub put-ranged : (publication : Publication) (held : List (ℕ × Holder)) → AreRanged publication held → (article : ℕ) (holder : Holder) → is_some (at_number held article) ≡ true → AreRanged publication (put_number held article holder)
unfolding AreRanged
put-ranged publication held ranged article holder some key =
    ap is_some (lookup-insert_entry nat_cmp nat_cmp_total article key holder held)
    ∙ same-article article key held (is_at (nat_cmp key) article) refl holder some
    ∙ ranged key

taken-ranged : (publication : Publication) (s : SubscriberTables) → AreRanged publication s.held → (article : ℕ) (holder : Holder) → is_some (at_number s.held article) ≡ true → (answer : Result ℤ IdentityEnd) (drawn : Value × List (ℕ × Holder)) → taken_value s article holder answer ≡ Ok drawn
    → AreRanged publication drawn.1
taken-ranged publication s ranged article holder some (Ok value) drawn done = subst (λ (held : List (ℕ × Holder)). AreRanged publication held) (ap (held_in s.held) done) (put-ranged publication s.held ranged article (after_take holder) some)
taken-ranged publication s ranged article holder some (Err used_up) drawn done = absurd cc

insert-ranged : (publication : Publication) (s : SubscriberTables) → AreRanged publication s.held → (article : ℕ) (values : List Setting) (found : Option Holder) → at_number s.held article ≡ found → (drawn : Value × List (ℕ × Holder)) → subscriber_drawn s (Insert article values) ≡ Ok drawn
    → AreRanged publication drawn.1
insert-ranged publication s ranged article values None is drawn done = subst (λ (held : List (ℕ × Holder)). AreRanged publication held) (ap (held_in s.held) (rw (subscriber_drawn, is) at done)) ranged
insert-ranged publication s ranged article values (Some holder) is drawn done = taken-ranged publication s ranged article holder (ap is_some is) (answer_to_take holder) drawn (rw (subscriber_drawn, is) at done)

pub drawn-ranged : (publication : Publication) (s : SubscriberTables) → AreRanged publication s.held → (change : Change) (drawn : Value × List (ℕ × Holder)) → subscriber_drawn s change ≡ Ok drawn → AreRanged publication drawn.1
drawn-ranged publication s ranged (Insert article values) drawn done = insert-ranged publication s ranged article values (at_number s.held article) refl drawn done
drawn-ranged publication s ranged (Update article row values) drawn done = subst (λ (held : List (ℕ × Holder)). AreRanged publication held) (ap (held_in s.held) done) ranged
drawn-ranged publication s ranged (Delete article row) drawn done = subst (λ (held : List (ℕ × Holder)). AreRanged publication held) (ap (held_in s.held) done) ranged

-- The step of the machine.

pub local-refused : (publication : Publication) (now : Moment) (change : Change) (s : SubscriberTables) (refusal : Refusal) → subscriber_local_refusal publication change s ≡ Some refusal → subscriber_local publication now change s ≡ Err refusal
local-refused publication now change s refusal is = rw (subscriber_local, is) refl

pub local-undrawn : (publication : Publication) (now : Moment) (change : Change) (s : SubscriberTables) (refusal : Refusal) → subscriber_local_refusal publication change s ≡ None → subscriber_drawn s change ≡ Err refusal → subscriber_local publication now change s ≡ Err refusal
local-undrawn publication now change s refusal passes is = rw (subscriber_local, passes, is) refl

pub local-made : (publication : Publication) (now : Moment) (change : Change) (s : SubscriberTables) → subscriber_local_refusal publication change s ≡ None
    → (identity : Value) (held : List (ℕ × Holder)) → subscriber_drawn s change ≡ Ok (identity, held) → (key : RowKey) (row : SubscriberRow) (index : List (Edit IndexEntry (Unit {0}))) → IsChanged publication s change identity key row index
    → (latest : Moment) → latest ≡ later now s.latest → (made : SubscriberTables) → made ≡ with_change key row held latest s → subscriber_local publication now change s ≡ Ok (made, key.row)
local-made publication now change s passes identity held drawn key row index changed latest late made is =
    let kept : (let r : SubscriberRow = record { version = row.version; generations = with_open (subscriber_last_closed s + 1) (generations_at s (changed_key s change)) } in r) ≡ row = ap (λ (g : List ℕ). (let r : SubscriberRow = record { version = row.version; generations = g } in r)) (sym changed.generations) in
    let after : with_change (changed_key s change) (record { version = row.version; generations = with_open (subscriber_last_closed s + 1) (generations_at s (changed_key s change)) }) held (later now s.latest) s ≡ made =
    rw (is, late, changed.at) (ap (λ (r : SubscriberRow). with_change (changed_key s change) r held (later now s.latest) s) kept) in
    rw (subscriber_local, passes, drawn, changed.version, changed.at) (ap (λ (t : SubscriberTables). (let done : Result (SubscriberTables × RowId) Refusal = Ok (t, (changed_key s change).row) in done)) after)

-- a change that is refused by the row
pub change-refused : (publication : Publication) (change : Change) (s : SubscriberTables) (result : Result (Unit {0}) Refusal) → s.is_joined ≡ true → counter_end (subscriber_counters s) ≡ None
    → (held : Option Version) → held ≡ subscriber_version_at s (changed_key s change) → (rows : ℕ) → rows ≡ length s.rows → IfErr result (λ refusal. (dot : Dot) → change_refusal publication dot change held rows ≡ Some refusal)
    → IfErr result (λ refusal. subscriber_local_refusal publication change s ≡ Some refusal)
change-refused publication change s (Ok done) joined below held is rows all refused = tt
change-refused publication change s (Err refusal) joined below held is rows all refused =
    let why : change_refusal publication (subscriber_next_dot s) change (subscriber_version_at s (changed_key s change)) (length s.rows) ≡ Some refusal = rw (sym is, sym all) (refused (subscriber_next_dot s)) in
    rw (joined, below, why) refl

-- The same for what is held.

pub draw-identity : (h now : Held) → h ≡ now → IsSound h.publication (tables_of h) h.unsent.entries → (change : Change) (drawn : Value × List (ℕ × Holder)) → subscriber_drawn (tables_of now) change ≡ Ok drawn → HasIdentity now.publication change drawn.0
draw-identity h now view sound change drawn done =
    let there : IsSound now.publication (tables_of now) now.unsent.entries = subst (λ (x : Held). IsSound x.publication (tables_of x) x.unsent.entries) view sound in
    drawn-identity now.publication (tables_of now) there.ranged change drawn done

pub draw-ranged : (h now : Held) → h ≡ now → IsSound h.publication (tables_of h) h.unsent.entries → (change : Change) (drawn : Value × List (ℕ × Holder)) → subscriber_drawn (tables_of now) change ≡ Ok drawn → AreRanged now.publication drawn.1
draw-ranged h now view sound change drawn done =
    let there : IsSound now.publication (tables_of now) now.unsent.entries = subst (λ (x : Held). IsSound x.publication (tables_of x) x.unsent.entries) view sound in
    drawn-ranged now.publication (tables_of now) there.ranged change drawn done

pub version-asked : (h now : Held) → h ≡ now → IsSound h.publication (tables_of h) h.unsent.entries → (change : Change) → has_article now.publication (article_of change) ≡ true → ColumnsAscend (settings_of change)
    → CanBeAsked now.publication change (subscriber_version_at (tables_of now) (changed_key (tables_of now) change))
version-asked h now view sound change place ascend =
    let there : IsSound now.publication (tables_of now) now.unsent.entries = subst (λ (x : Held). IsSound x.publication (tables_of x) x.unsent.entries) view sound in
    can-be-asked now.publication (tables_of now) now.unsent.entries there change place ascend

pub version-new : (h now : Held) → h ≡ now → IsSound h.publication (tables_of h) h.unsent.entries → (change : Change) → IsNewAt (subscriber_next_dot (tables_of now)) (subscriber_version_at (tables_of now) (changed_key (tables_of now) change))
version-new h now view sound change =
    let there : IsSound now.publication (tables_of now) now.unsent.entries = subst (λ (x : Held). IsSound x.publication (tables_of x) x.unsent.entries) view sound in
    is-new now.publication (tables_of now) now.unsent.entries there (changed_key (tables_of now) change)

pub change-sound : (h now : Held) → h ≡ now → IsSound h.publication (tables_of h) h.unsent.entries → (change : Change) (identity : Value) → HasIdentity now.publication change identity
    → (held : List (ℕ × Holder)) → AreRanged now.publication held → (key : RowKey) (row : SubscriberRow) (index : List (Edit IndexEntry (Unit {0}))) → IsChanged now.publication (tables_of now) change identity key row index → (latest : Moment) → now.gens.book.filling.last_closed < counter_limit → now.gens.book.filling.filled < entry_limit
    → IsSound now.publication (with_change key row held latest (tables_of now)) (entries_after_all now.unsent.entries index)
change-sound h now view sound change identity whole held ranged key row index changed latest closed filled =
    let there : IsSound now.publication (tables_of now) now.unsent.entries = subst (λ (x : Held). IsSound x.publication (tables_of x) x.unsent.entries) view sound in
    local-sound now.publication (tables_of now) now.unsent.entries there change identity whole held ranged key row index changed latest closed filled

pub check-refused : (h now : Held) → h ≡ now → (change : Change) (result : Result (Unit {0}) Refusal) → now.state.is_joined ≡ true → counter_end (subscriber_counters (tables_of now)) ≡ None
    → (held : Option Version) → held ≡ subscriber_version_at (tables_of now) (changed_key (tables_of now) change) → (rows : ℕ) → rows ≡ length now.rows.rows → IfErr result (λ refusal. (dot : Dot) → change_refusal h.publication dot change held rows ≡ Some refusal)
    → IfErr result (λ refusal. subscriber_local_refusal now.publication change (tables_of now) ≡ Some refusal)
check-refused h now view change result joined below held is rows all refused =
    change-refused now.publication change (tables_of now) result joined below held is rows all
    (subst (λ (x : Held). IfErr result (λ refusal. (dot : Dot) → change_refusal x.publication dot change held rows ≡ Some refusal)) view refused)
