-- The tables that a subscriber keeps, and what it holds with them.
use Rattle.std.specs.Prelude.{◌≡◌, ◌+◌, ◌<◌, ◌≤◌, ◌&&◌, ◌||◌, ℕ, Bool, true, false, List, [], ◌∷◌, None, Option, Some, cond, filter, length, map, refl}
use Rattle.std.specs.BTreeMap.{is_at}
use Rattle.std.specs.FinSet as set
use Rattle.std.specs.List.{AllByRecursion, list_any}
use Rattle.std.specs.List.Sorted.{IsStrictlySortedBy}
use Rattle.std.specs.Map.{keys_of}
use Rattle.std.specs.Ordering.{nat_cmp}
use Rattle.std.proofs.Common.{ap, drop, get_or, subst, sym, ◌∙◌}
use Rattle.std.proofs.lemmas.Cmp.{nat_cmp_total}
use Rattle.std.proofs.lemmas.Map.Keys.{sorted_tail}
use Rattle.std.proofs.lemmas.Map.Lookups.{exact_unsigned}
use Rattle.std.proofs.lemmas.Map.Made.{is_some-lookup}
use Rattle.merge_types.specs.RowKeys.{key_cmp}
use Rattle.merge_types.specs.declared.row_key.RowKey.{RowKey}
use Rattle.merge_table.proofs.Given.{same-filters}
use Rattle.merge_lineage.specs.Lineage.{number_of}
use Rattle.merge_units.specs.declared.site_row.SubscriberRow.{SubscriberRow}
use Rattle.merge_gens.specs.Book as gens
use Rattle.merge_gens.specs.Entries.{entry_cmp}
use Rattle.merge_gens.specs.Index.{entries_after_all}
use Rattle.merge_ident.specs.Holders.{Holder}
use Rattle.merge_conflict.specs.Rising.{AreRising}
use Rattle.merge_schema.specs.Valid.{IsValid}
use Rattle.merge_schema.specs.declared.publication.Publication.{Publication}
use Rattle.merge_batch.specs.Articles.{fits_article}
use Rattle.merge_model.proofs.Lists.Finding.{all-weaker}
use Rattle.merge_model.proofs.Lists.KeyLookUps.{key-test, keys-exact, none-behind}
use Rattle.merge_model.proofs.Lists.{all-three}
use Rattle.merge_model.specs.Tables.Keys.{row_at, same_key}
use Rattle.merge_model.specs.Publisher.{new_holders}
use Rattle.merge_model.specs.Tables.{SubscriberTables}
use Rattle.merge_sub.proofs.Anewly.{rows-found, some_keeps}
use Rattle.merge_sub.proofs.Begun.{begun-ranged, holders-ascend}
use Rattle.merge_sub.proofs.Indexed.{entries-append, is_among, put-all}
use Rattle.merge_sub.proofs.Steps.{rest-at}
use Rattle.merge_sub.specs.Held.{AreFitting, AreIndexed, AreMade, AreNumbered, AreRanged, EachRow, HaveOpened, Held, IsSound, KeepOpened, entry_behind, keeps, tables_of}
use Rattle.merge_sub.specs.Local.{put_entry}
use Rattle.merge_sub.specs.Restoring.{CanStand, RowCanStand, row_puts, rows_puts}

abbrev Rows : Type 0
Rows = List (RowKey × SubscriberRow)

abbrev Entries : Type 0
Entries = set.FinSet entry_cmp

-- The rows by the generations that they keep.

pub index-more : (rows : Rows) (at : ℕ) (row : RowKey × SubscriberRow) → at < length rows → row ≡ get_or rows at row → (generations : List ℕ) → generations ≡ row.1.generations
    → (entries all next : Entries) → entries_after_all entries (rows_puts (drop at rows)) ≡ all → next ≡ entries_after_all entries (map (put_entry row.0) generations) → entries_after_all next (rows_puts (drop (at + 1) rows)) ≡ all
index-more rows at row less there generations kept entries all next so_far is =
    let one : next ≡ entries_after_all entries (row_puts (get_or rows at row)) =
    is ∙ ap (λ (gs : List ℕ). entries_after_all entries (map (put_entry row.0) gs)) kept ∙ ap (λ (r : RowKey × SubscriberRow). entries_after_all entries (row_puts r)) there in
    ap (λ (e : Entries). entries_after_all e (rows_puts (drop (at + 1) rows))) one
    ∙ sym (entries-append entries (row_puts (get_or rows at row)) (rows_puts (drop (at + 1) rows)))
    ∙ ap (λ (xs : Rows). entries_after_all entries (rows_puts xs)) (sym (rest-at rows at row less))
    ∙ so_far

or-none : (b : Bool) → (b || false) ≡ b
or-none true = refl
or-none false = refl

or-turned : (some here found : Bool) → (some || (here || found)) ≡ ((here || some) || found)
or-turned true true found = refl
or-turned true false found = refl
or-turned false true found = refl
or-turned false false found = refl

rows-put : (rows : Rows) (s : Entries) (k : RowKey) (g : ℕ) → set.contains (entries_after_all s (rows_puts rows)) (entry_behind g k) ≡ (some_keeps k g rows || set.contains s (entry_behind g k))
rows-put [] s k g = refl
rows-put (row ∷ rows) s k g =
    ap (λ (e : Entries). set.contains e (entry_behind g k)) (entries-append s (row_puts row) (rows_puts rows))
    ∙ rows-put rows (entries_after_all s (row_puts row)) k g
    ∙ ap (λ (b : Bool). some_keeps k g rows || b) (put-all row.0 row.1.generations s k g)
    ∙ or-turned (some_keeps k g rows) (same_key k row.0 && is_among g row.1.generations) (set.contains s (entry_behind g k))

kept-here : (g : ℕ) (row : SubscriberRow) (behind : Option SubscriberRow) (rest here : Bool) → (here ≡ true → behind ≡ None) → rest ≡ keeps behind g
    → ((here && is_among g row.generations) || rest) ≡ keeps (let found : Option SubscriberRow = cond here (Some row) behind in found) g
kept-here g row behind rest true none is = let no : rest ≡ false = is ∙ ap (λ (o : Option SubscriberRow). keeps o g) (none refl) in rw no (or-none (is_among g row.generations))
kept-here g row behind rest false none is = is

some-kept : (rows : Rows) → IsStrictlySortedBy key_cmp (keys_of rows) → (k : RowKey) (g : ℕ) → some_keeps k g rows ≡ keeps (row_at rows k) g
some-kept [] sorted k g = refl
some-kept (row ∷ rows) sorted k g =
    let test : is_at (key_cmp k) row.0 ≡ same_key k row.0 = key-test k row.0 in
    kept-here g row.1 (row_at rows k) (some_keeps k g rows) (same_key k row.0) (λ same. none-behind k row rows sorted (test ∙ same)) (some-kept rows (sorted_tail key_cmp row.0 (keys_of rows) sorted) k g)
    ∙ ap (λ (b : Bool). keeps (let found : Option SubscriberRow = cond b (Some row.1) (row_at rows k) in found) g) (sym test)

pub restored-indexed : (rows : Rows) → IsStrictlySortedBy key_cmp (keys_of rows) → (entries : Entries) → entries ≡ entries_after_all set.empty (rows_puts rows) → AreIndexed rows entries
unfolding AreIndexed
restored-indexed rows sorted entries is = λ k g.
    ap (λ (e : Entries). set.contains e (entry_behind g k)) is
    ∙ rows-put rows set.empty k g
    ∙ ap (λ (b : Bool). some_keeps k g rows || b) (set.contains-empty entry_cmp (entry_behind g k))
    ∙ or-none (some_keeps k g rows)
    ∙ some-kept rows sorted k g

-- What holds of all rows, and of the row at each key.

found-in : (P : RowKey → SubscriberRow → Type 0) (first : RowKey × SubscriberRow) (behind : Option SubscriberRow) (key : RowKey) (row : SubscriberRow) → P first.0 first.1 → (behind ≡ Some row → P key row)
    → (here : Bool) → is_at (key_cmp key) first.0 ≡ here → (let found : Option SubscriberRow = cond here (Some first.1) behind in found) ≡ Some row → P key row
found-in P first behind key row holds more true is found =
    let at : key ≡ first.0 = keys-exact key first.0 is in
    let it : first.1 ≡ row = cc in
    subst (λ (r : SubscriberRow). P key r) it (subst (λ (k : RowKey). P k first.1) (sym at) holds)
found-in P first behind key row holds more false is found = more found

pub all-each : (P : RowKey → SubscriberRow → Type 0) (rows : Rows) → AllByRecursion (λ (row : RowKey × SubscriberRow). P row.0 row.1) rows → EachRow P rows
all-each P [] all key row found = absurd cc
all-each P (first ∷ rows) all key row found = found-in P first (row_at rows key) key row all.0 (λ more. all-each P rows all.1 key row more) (is_at (key_cmp key) first.0) refl found

pub each-all : (P : RowKey → SubscriberRow → Type 0) (rows : Rows) → IsStrictlySortedBy key_cmp (keys_of rows) → EachRow P rows → AllByRecursion (λ (row : RowKey × SubscriberRow). P row.0 row.1) rows
each-all P rows sorted each =
    all-weaker (λ (row : RowKey × SubscriberRow). row_at rows row.0 ≡ Some row.1) (λ (row : RowKey × SubscriberRow). P row.0 row.1) (λ row found. each row.0 row.1 found) rows (rows-found rows sorted)

-- The articles of which ranges are held.

pub held-ranged : (publication : Publication) (held : List (ℕ × Holder)) → keys_of held ≡ keys_of (new_holders publication) → AreRanged publication held
unfolding AreRanged
held-ranged publication held same = λ article.
    is_some-lookup (is_at (nat_cmp article)) held
    ∙ ap (λ (keys : List ℕ). list_any (is_at (nat_cmp article)) keys) same
    ∙ sym (is_some-lookup (is_at (nat_cmp article)) (new_holders publication))
    ∙ begun-ranged publication article

pub held-ascends : (publication : Publication) (s : SubscriberTables) → CanStand publication s → IsStrictlySortedBy nat_cmp (keys_of s.held)
held-ascends publication s stands = rw stands.ranged (holders-ascend 0 publication.articles)

all-pass : (xs : List ℕ) → filter (λ (x : ℕ). true) xs ≡ xs
all-pass [] = refl
all-pass (x ∷ xs) = ap (λ (rest : List ℕ). x ∷ rest) (all-pass xs)

ranged-held : (publication : Publication) (held : List (ℕ × Holder)) → IsStrictlySortedBy nat_cmp (keys_of held) → AreRanged publication held → keys_of held ≡ keys_of (new_holders publication)
unfolding AreRanged
ranged-held publication held sorted ranged =
    let new : AreRanged publication (new_holders publication) = begun-ranged publication in
    sym (all-pass (keys_of held))
    ∙ same-filters nat_cmp nat_cmp_total exact_unsigned (λ (x : ℕ). true) (keys_of held) (keys_of (new_holders publication)) sorted (holders-ascend 0 publication.articles)
    (λ article passes.
    sym (is_some-lookup (is_at (nat_cmp article)) held)
    ∙ ranged article
    ∙ sym (new article)
    ∙ is_some-lookup (is_at (nat_cmp article)) (new_holders publication))
    ∙ all-pass (keys_of (new_holders publication))

-- What is held with tables that can stand is sound.

abbrev Fits : Publication → RowKey → SubscriberRow → Type 0
Fits publication key row = fits_article publication key.article row.version.body ≡ true

abbrev Made : SubscriberTables → RowKey → SubscriberRow → Type 0
Made s key row = number_of row.version.lineage s.site.0 ≤ s.changes

abbrev Opened : SubscriberTables → RowKey → SubscriberRow → Type 0
Opened s key row = HaveOpened s.gens.filling.last_closed row.generations

abbrev OfRow : (RowKey → SubscriberRow → Type 0) → RowKey × SubscriberRow → Type 0
OfRow P row = P row.0 row.1

pub restored-sound : (publication : Publication) → ((resolvers : ℕ) × IsValid resolvers publication) → (kept : SubscriberTables) → CanStand publication kept → (s : SubscriberTables) → s ≡ kept
    → (entries : Entries) → entries ≡ entries_after_all set.empty (rows_puts kept.rows) → IsSound publication s entries
unfolding AreFitting AreMade AreNumbered KeepOpened
restored-sound publication valid kept stands s same entries is = rw same (record {
  valid = valid;
  indexed = restored-indexed kept.rows stands.ascending entries is;
  fitting = all-each (Fits publication) kept.rows (all-weaker (RowCanStand publication kept) (OfRow (Fits publication)) (λ row stand. stand.fits) kept.rows stands.rows);
  made = all-each (Made kept) kept.rows (all-weaker (RowCanStand publication kept) (OfRow (Made kept)) (λ row stand. stand.made) kept.rows stands.rows);
  opened = all-each (Opened kept) kept.rows (all-weaker (RowCanStand publication kept) (OfRow (Opened kept)) (λ row stand. stand.opened) kept.rows stands.rows);
  within = stands.within;
  limited = stands.limited;
  ranged = held-ranged publication kept.held stands.ranged;
  numbered = stands.numbered;
})

-- And the tables of what is held can stand.
pub held-stands : (h now : Held) → h ≡ now → IsSound h.publication (tables_of h) h.unsent.entries → IsStrictlySortedBy key_cmp (keys_of h.rows.rows) → IsStrictlySortedBy nat_cmp (keys_of h.held.rows) → gens.IsSound h.gens.book → AreRising h.conflicts.rows
    → CanStand now.publication (tables_of now)
unfolding AreFitting AreMade AreNumbered KeepOpened
held-stands h now view sound rows held book rising = rw (← view) (record {
  ascending = rows;
  rows = all-three (OfRow (Fits h.publication)) (OfRow (Made (tables_of h))) (OfRow (Opened (tables_of h))) (RowCanStand h.publication (tables_of h)) (λ row fits made opened. record { fits = fits; made = made; opened = opened }) h.rows.rows
      (each-all (Fits h.publication) h.rows.rows rows sound.fitting) (each-all (Made (tables_of h)) h.rows.rows rows sound.made) (each-all (Opened (tables_of h)) h.rows.rows rows sound.opened);
  gens = book;
  within = sound.within;
  limited = sound.limited;
  ranged = ranged-held h.publication h.held.rows held sound.ranged;
  rising = rising;
  numbered = sound.numbered;
})
