-- Rows by the generations that they keep, as one row keeps others.
use Rattle.std.specs.Prelude.{◌≡◌, ◌+◌, ◌==◌, ◌&&◌, ◌||◌, ◌++◌, ℕ, Bool, true, false, not, List, [], ◌∷◌, None, Option, Some, cond, if◌then◌else◌, map, refl}
use Rattle.std.specs.FinSet as set
use Rattle.std.specs.List.{flat_map, list_any}
use Rattle.std.specs.Ordering.{eq_by_cmp}
use Rattle.std.proofs.Common.{ap, arith, sym, ◌∙◌}
use Rattle.std.proofs.lemmas.Bool.Decides.{nat_tests}
use Rattle.merge_types.specs.declared.row_key.RowKey.{RowKey}
use Rattle.merge_table.specs.declared.edit.Edit.{Edit}
use Rattle.merge_units.specs.declared.site_row.SubscriberRow.{SubscriberRow}
use Rattle.merge_gens.specs.Entries.{entry_cmp, entry_of}
use Rattle.merge_gens.specs.Index.{entries_after, entries_after_all}
use Rattle.merge_gens.specs.declared.index.IndexEntry.{IndexEntry}
use Rattle.merge_gens.proofs.EntryLists.{entry_total}
use Rattle.merge_model.specs.Tables.Keys.{put_row, row_at, same_key}
use Rattle.merge_model.proofs.Lists.KeyLookUps.{keys-same, row-put}
use Rattle.merge_sub.specs.Held.{AreIndexed, entry_behind, keeps, kept_by}
use Rattle.merge_sub.specs.Local.{put_entry, reindexing, take_entry}

abbrev Entries : Type 0
Entries = set.FinSet entry_cmp

abbrev Edits : Type 0
Edits = List (Edit IndexEntry (Unit {0}))

-- whether a generation is among these
abbrev pub is_among : ℕ → List ℕ → Bool
is_among generation kept = list_any (λ (k : ℕ). k == generation) kept

pub entries-append : (entries : Entries) (xs ys : Edits) → entries_after_all entries (xs ++ ys) ≡ entries_after_all (entries_after_all entries xs) ys
entries-append entries [] ys = refl
entries-append entries (x ∷ xs) ys = entries-append (entries_after entries x) xs ys

same-behind : (g h : ℕ) → ((h + 1) == (g + 1)) ≡ (h == g)
same-behind g h = grind (arith, nat_tests)

entry-of : (k key : RowKey) (g h : ℕ) → eq_by_cmp entry_cmp (entry_of g k) (entry_of h key) ≡ ((h == g) && same_key k key)
entry-of k key g h = grind (arith, nat_tests)

entry-is : (k key : RowKey) (g h : ℕ) → eq_by_cmp entry_cmp (entry_behind g k) (entry_behind h key) ≡ ((h == g) && same_key k key)
entry-is k key g h = entry-of k key (g + 1) (h + 1) ∙ ap (λ (b : Bool). b && same_key k key) (same-behind g h)

put-one : (k key : RowKey) (g h : ℕ) (s : Entries) → set.contains (set.insert s (entry_behind h key)) (entry_behind g k) ≡ (((h == g) && same_key k key) || set.contains s (entry_behind g k))
put-one k key g h s = set.contains-insert entry_total s (entry_behind h key) (entry_behind g k) ∙ ap (λ (b : Bool). b || set.contains s (entry_behind g k)) (entry-is k key g h)

take-one : (k key : RowKey) (g h : ℕ) (s : Entries) → set.contains (set.remove s (entry_behind h key)) (entry_behind g k) ≡ (not ((h == g) && same_key k key) && set.contains s (entry_behind g k))
take-one k key g h s = set.contains-remove entry_total s (entry_behind h key) (entry_behind g k) ∙ ap (λ (b : Bool). not b && set.contains s (entry_behind g k)) (entry-is k key g h)

take-tests : (same any here found : Bool) → (not (same && any) && (not (here && same) && found)) ≡ (not (same && (here || any)) && found)
take-tests false any true found = refl
take-tests false any false found = refl
take-tests true true true found = refl
take-tests true true false found = refl
take-tests true false true found = refl
take-tests true false false found = refl

put-tests : (same any here found : Bool) → ((same && any) || ((here && same) || found)) ≡ ((same && (here || any)) || found)
put-tests false any true found = refl
put-tests false any false found = refl
put-tests true true true found = refl
put-tests true true false found = refl
put-tests true false true found = refl
put-tests true false false found = refl

pub taken-all : (key : RowKey) (hs : List ℕ) (s : Entries) (k : RowKey) (g : ℕ) → set.contains (entries_after_all s (map (take_entry key) hs)) (entry_behind g k) ≡ (not (same_key k key && is_among g hs) && set.contains s (entry_behind g k))
taken-all key [] s k g = none (same_key k key) (set.contains s (entry_behind g k))
  where
    none : (same found : Bool) → found ≡ (not (same && false) && found)
    none true found = refl
    none false found = refl
taken-all key (h ∷ hs) s k g =
    taken-all key hs (set.remove s (entry_behind h key)) k g
    ∙ ap (λ (b : Bool). not (same_key k key && is_among g hs) && b) (take-one k key g h s)
    ∙ take-tests (same_key k key) (is_among g hs) (h == g) (set.contains s (entry_behind g k))

drop-tests : (here there found : Bool) → (not there && (not here && found)) ≡ (not (here || there) && found)
drop-tests true true found = refl
drop-tests true false found = refl
drop-tests false true found = refl
drop-tests false false found = refl

-- the same of several, each with its key and the generations that it loses
pub taken-each : {X : Type 0} (key : X → RowKey) (kept : X → List ℕ) (xs : List X) (s : Entries) (k : RowKey) (g : ℕ)
    → set.contains (entries_after_all s (flat_map (λ (x : X). map (take_entry (key x)) (kept x)) xs)) (entry_behind g k) ≡ (not (list_any (λ (x : X). same_key k (key x) && is_among g (kept x)) xs) && set.contains s (entry_behind g k))
taken-each key kept [] s k g = refl
taken-each {X} key kept (x ∷ xs) s k g =
    ap (λ (e : Entries). set.contains e (entry_behind g k)) (entries-append s (map (take_entry (key x)) (kept x)) (flat_map (λ (y : X). map (take_entry (key y)) (kept y)) xs))
    ∙ taken-each key kept xs (entries_after_all s (map (take_entry (key x)) (kept x))) k g
    ∙ ap (λ (b : Bool). not (list_any (λ (y : X). same_key k (key y) && is_among g (kept y)) xs) && b) (taken-all (key x) (kept x) s k g)
    ∙ drop-tests (same_key k (key x) && is_among g (kept x)) (list_any (λ (y : X). same_key k (key y) && is_among g (kept y)) xs) (set.contains s (entry_behind g k))

pub put-all : (key : RowKey) (hs : List ℕ) (s : Entries) (k : RowKey) (g : ℕ) → set.contains (entries_after_all s (map (put_entry key) hs)) (entry_behind g k) ≡ ((same_key k key && is_among g hs) || set.contains s (entry_behind g k))
put-all key [] s k g = none (same_key k key) (set.contains s (entry_behind g k))
  where
    none : (same found : Bool) → found ≡ ((same && false) || found)
    none true found = refl
    none false found = refl
put-all key (h ∷ hs) s k g =
    put-all key hs (set.insert s (entry_behind h key)) k g
    ∙ ap (λ (b : Bool). (same_key k key && is_among g hs) || b) (put-one k key g h s)
    ∙ put-tests (same_key k key) (is_among g hs) (h == g) (set.contains s (entry_behind g k))

-- what is found once one row keeps others
kept-test : (same any : Bool) (g : ℕ) (found : Option SubscriberRow) (row : SubscriberRow) → is_among g row.generations ≡ any
    → ((same && any) || (not (same && keeps found g) && keeps found g)) ≡ keeps (if same then Some row else found) g
kept-test true any g found row is = rw is (turned any (keeps found g))
  where
    turned : (any before : Bool) → ((true && any) || (not (true && before) && before)) ≡ any
    turned true before = refl
    turned false true = refl
    turned false false = refl
kept-test false any g found row is = refl

own-kept : (same : Bool) (g : ℕ) (own found : Option SubscriberRow) → (same ≡ true → own ≡ found) → (same && is_among g (kept_by own)) ≡ (same && keeps found g)
own-kept true g own found is = ap (λ (o : Option SubscriberRow). keeps o g) (is refl)
own-kept false g own found is = refl

pub replaced-indexed : (rows : List (RowKey × SubscriberRow)) (entries : Entries) (key : RowKey) (row : SubscriberRow) → AreIndexed rows entries
    → AreIndexed (put_row rows key row) (entries_after_all entries (reindexing key (kept_by (row_at rows key)) row.generations))
unfolding AreIndexed
replaced-indexed rows entries key row indexed = λ k g.
    let before : List ℕ = kept_by (row_at rows key) in
    let left : Entries = entries_after_all entries (map (take_entry key) before) in
    ap (λ (e : Entries). set.contains e (entry_behind g k)) (entries-append entries (map (take_entry key) before) (map (put_entry key) row.generations))
    ∙ put-all key row.generations left k g
    ∙ ap (λ (b : Bool). (same_key k key && is_among g row.generations) || b) (taken-all key before entries k g ∙ ap (λ (b : Bool). not (same_key k key && is_among g before) && b) (indexed k g))
    ∙ ap (λ (b : Bool). (same_key k key && is_among g row.generations) || (not b && keeps (row_at rows k) g)) (own-kept (same_key k key) g (row_at rows key) (row_at rows k) (λ same. ap (row_at rows) (sym (keys-same k key same))))
    ∙ kept-test (same_key k key) (is_among g row.generations) g (row_at rows k) row refl
    ∙ sym (ap (λ (o : Option SubscriberRow). keeps o g) (row-put rows key row k))
