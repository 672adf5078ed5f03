-- What the publisher has taken is let go: rows keep no generation up to one, and are found by none.
use Rattle.std.specs.BTreeMap.{is_at}
use Rattle.std.specs.FinSet as set
use Rattle.std.specs.List.{cons_option, flat_map, list_any}
use Rattle.std.specs.List.Sorted.{IsStrictlySortedBy}
use Rattle.std.specs.Map.{keys_of}
use Rattle.std.specs.Prelude.{◌≡◌, ◌+◌, ◌==◌, ◌&&◌, ◌||◌, ℕ, Bool, true, false, not, List, [], ◌∷◌, None, Option, Some, cond, filter, filter_map, if◌then◌else◌, map, nat_le, nat_lt, option_map, refl}
use Rattle.std.proofs.Common.{ap, arith, subst, sym, ◌∙◌}
use Rattle.std.proofs.lemmas.Bool.Decides.{nat_tests}
use Rattle.merge_types.specs.RowKeys.{key_cmp}
use Rattle.merge_types.specs.declared.row_key.RowKey.{RowKey}
use Rattle.merge_table.specs.Edits.{rows_after_all}
use Rattle.merge_table.specs.declared.edit.Edit.{Edit}
use Rattle.merge_table.specs.declared.edit.Edit.TheVariants.{Put}
use Rattle.merge_table.proofs.LookUps.{rows_from_look_ups}
use Rattle.merge_table.proofs.Sorted.{sorted_after_all}
use Rattle.merge_units.specs.declared.site_row.SubscriberRow.{SubscriberRow}
use Rattle.merge_gens.specs.Entries.{entry_cmp}
use Rattle.merge_gens.specs.Index.{entries_after_all}
use Rattle.merge_model.specs.Tables.Keys.{put_row, row_at, same_key}
use Rattle.merge_model.specs.Subscriber.Taking.{row_above}
use Rattle.merge_model.proofs.Lists.KeyLookUps.{key-test, keys-same, keys-tied, row-put}
use Rattle.merge_model.proofs.Lists.{any-same}
use Rattle.merge_model.proofs.Publishers.Sorted.{key_total}
use Rattle.merge_sub.proofs.ChangedRows.{has-kept}
use Rattle.merge_sub.proofs.Indexed.{is_among, taken-each}
use Rattle.merge_sub.specs.Held.{AreIndexed, entry_behind, keeps, kept_by}
use Rattle.merge_sub.specs.Local.{take_entry}
use Rattle.merge_sub.specs.Sent.{AreKeeping, is_in, keeps_in}
use Rattle.merge_sub.specs.Taking.{entries_let_go, kept_above, let_go}

abbrev Rows : Type 0
Rows = List (RowKey × SubscriberRow)

pub and-none : (b : Bool) → (b && false) ≡ false
and-none true = refl
and-none false = refl

-- What is found once rows let go.

abbrev let_go_if : Bool → ℕ → Option SubscriberRow → Option SubscriberRow
let_go_if here received row = if here then option_map (kept_above received) row else row

abbrev LetGo : ℕ → Rows → Rows → (RowKey → Bool) → Type 0
LetGo received all rows gone = (k : RowKey) → row_at rows k ≡ let_go_if (gone k) received (row_at all k)

-- with a row more
abbrev with_key : RowKey → (RowKey → Bool) → RowKey → Bool
with_key key gone k = is_at (key_cmp k) key || gone k

or-turned : (a b c : Bool) → (a || (b || c)) ≡ ((b || a) || c)
or-turned true true c = refl
or-turned true false c = refl
or-turned false true c = refl
or-turned false false c = refl

put-by : (received : ℕ) (all rows : Rows) (gone : RowKey → Bool) → LetGo received all rows gone → (key : RowKey) (row : SubscriberRow) → row_at all key ≡ Some row → (k : RowKey) (same : Bool) → same_key k key ≡ same
    → (let found : Option SubscriberRow = if same then Some (kept_above received row) else row_at rows k in found) ≡ let_go_if (same || gone k) received (row_at all k)
put-by received all rows gone so_far key row is k true same =
    let at : k ≡ key = keys-same k key same in
    sym (ap (λ (q : RowKey). option_map (kept_above received) (row_at all q)) at ∙ ap (option_map (kept_above received)) is)
put-by received all rows gone so_far key row is k false same = so_far k

put-gone : (received : ℕ) (all rows : Rows) (gone : RowKey → Bool) → LetGo received all rows gone → (key : RowKey) (row : SubscriberRow) → row_at all key ≡ Some row → LetGo received all (put_row rows key (kept_above received row)) (with_key key gone)
put-gone received all rows gone so_far key row is k =
    row-put rows key (kept_above received row) k
    ∙ put-by received all rows gone so_far key row is k (same_key k key) refl
    ∙ ap (λ (b : Bool). let_go_if (b || gone k) received (row_at all k)) (sym (key-test k key))

none-let-go : (here : Bool) (received : ℕ) (found : Option SubscriberRow) → found ≡ None → let_go_if here received found ≡ None
none-let-go true received found is = ap (option_map (kept_above received)) is
none-let-go false received found is = is

none-by : (received : ℕ) (all rows : Rows) (gone : RowKey → Bool) → LetGo received all rows gone → (key : RowKey) → row_at all key ≡ None → (k : RowKey) (same : Bool) → is_at (key_cmp k) key ≡ same → row_at rows k ≡ let_go_if (same || gone k) received (row_at all k)
none-by received all rows gone so_far key is k true same =
    let at : k ≡ key = keys-same k key (sym (key-test k key) ∙ same) in
    let none : row_at all k ≡ None = ap (row_at all) at ∙ is in
    so_far k ∙ none-let-go (gone k) received (row_at all k) none ∙ sym (none-let-go true received (row_at all k) none)
none-by received all rows gone so_far key is k false same = so_far k

found-step : (received : ℕ) (all rows : Rows) (keys : List RowKey) (gone : RowKey → Bool) → LetGo received all rows gone
    → ((next : Rows) (more : RowKey → Bool) → LetGo received all next more → (k : RowKey) → row_at (rows_after_all key_cmp next (filter_map (let_go all received) keys)) k ≡ let_go_if (list_any (is_at (key_cmp k)) keys || more k) received (row_at all k))
    → (key : RowKey) (found : Option SubscriberRow) → row_at all key ≡ found → (k : RowKey)
    → row_at (rows_after_all key_cmp rows (let edit : Option (Edit RowKey SubscriberRow) = option_map (λ (row : SubscriberRow). Put key (kept_above received row)) found in cons_option edit (filter_map (let_go all received) keys))) k
    ≡ let_go_if ((is_at (key_cmp k) key || list_any (is_at (key_cmp k)) keys) || gone k) received (row_at all k)
found-step received all rows keys gone so_far rest key None is k =
    rest rows (with_key key gone) (λ q. none-by received all rows gone so_far key is q (is_at (key_cmp q) key) refl) k
    ∙ ap (λ (b : Bool). let_go_if b received (row_at all k)) (or-turned (list_any (is_at (key_cmp k)) keys) (is_at (key_cmp k) key) (gone k))
found-step received all rows keys gone so_far rest key (Some row) is k =
    rest (put_row rows key (kept_above received row)) (with_key key gone) (put-gone received all rows gone so_far key row is) k
    ∙ ap (λ (b : Bool). let_go_if b received (row_at all k)) (or-turned (list_any (is_at (key_cmp k)) keys) (is_at (key_cmp k) key) (gone k))

found-let-go : (received : ℕ) (all : Rows) (keys : List RowKey) (rows : Rows) (gone : RowKey → Bool) → LetGo received all rows gone
    → (k : RowKey) → row_at (rows_after_all key_cmp rows (filter_map (let_go all received) keys)) k ≡ let_go_if (list_any (is_at (key_cmp k)) keys || gone k) received (row_at all k)
found-let-go received all [] rows gone so_far k = so_far k
found-let-go received all (key ∷ keys) rows gone so_far k = found-step received all rows keys gone so_far (found-let-go received all keys) key (row_at all key) refl k

-- a row with no generation up to one keeps all
none-inside : (received : ℕ) (generations : List ℕ) → list_any (is_in 0 (received + 1)) generations ≡ false → filter (λ (g : ℕ). nat_lt received g) generations ≡ generations
none-inside received [] none = refl
none-inside received (g ∷ generations) none =
    let first : nat_lt received g ≡ true = grind (arith, nat_tests, none) in
    let behind : list_any (is_in 0 (received + 1)) generations ≡ false = grind (arith, none) in
    rw first (ap (λ (xs : List ℕ). g ∷ xs) (none-inside received generations behind))

all-kept : (received : ℕ) (row : SubscriberRow) → list_any (is_in 0 (received + 1)) row.generations ≡ false → kept_above received row ≡ row
all-kept received row none = ap (λ (g : List ℕ). (let r : SubscriberRow = record { version = row.version; generations = g } in r)) (none-inside received row.generations none)

let-go-all : (received : ℕ) (found : Option SubscriberRow) (here : Bool) → here ≡ keeps_in 0 (received + 1) found → let_go_if (here || false) received found ≡ option_map (kept_above received) found
let-go-all received found true is = refl
let-go-all received None false is = refl
let-go-all received (Some row) false is = ap (λ (r : SubscriberRow). Some r) (sym (all-kept received row (sym is)))

above-step : (received : ℕ) (row : SubscriberRow) (here : Bool) (found above : Option SubscriberRow) → above ≡ option_map (kept_above received) found
    → (let kept : Option SubscriberRow = cond here (Some (kept_above received row)) above in kept) ≡ option_map (kept_above received) (let first : Option SubscriberRow = cond here (Some row) found in first)
above-step received row true found above is = refl
above-step received row false found above is = is

pub row-above : (received : ℕ) (rows : Rows) (k : RowKey) → row_at (map (row_above received) rows) k ≡ option_map (kept_above received) (row_at rows k)
row-above received [] k = refl
row-above received (row ∷ rows) k = above-step received row.1 (is_at (key_cmp k) row.0) (row_at rows k) (row_at (map (row_above received) rows) k) (row-above received rows k)

above-keys : (received : ℕ) (rows : Rows) → keys_of (map (row_above received) rows) ≡ keys_of rows
above-keys received [] = refl
above-keys received (row ∷ rows) = ap (λ (keys : List RowKey). row.0 ∷ keys) (above-keys received rows)

pub above-sorted : (received : ℕ) (rows : Rows) → IsStrictlySortedBy key_cmp (keys_of rows) → IsStrictlySortedBy key_cmp (keys_of (map (row_above received) rows))
above-sorted received rows sorted = subst (λ (keys : List RowKey). IsStrictlySortedBy key_cmp keys) (sym (above-keys received rows)) sorted

-- where all rows that keep a generation up to one let it go, each row does
pub rows-let-go : (received : ℕ) (all : Rows) (keys : List RowKey) → AreKeeping all 0 (received + 1) keys → rows_after_all key_cmp all (filter_map (let_go all received) keys) ≡ map (row_above received) all
rows-let-go received all keys keeping =
    rows_from_look_ups key_cmp key_total keys-tied (rows_after_all key_cmp all (filter_map (let_go all received) keys)) (map (row_above received) all)
    (sorted_after_all key_cmp key_total all (filter_map (let_go all received) keys) keeping.ordered) (above-sorted received all keeping.ordered)
    (λ k.
    found-let-go received all keys all (λ q. false) (λ q. refl) k
    ∙ let-go-all received (row_at all k) (list_any (is_at (key_cmp k)) keys) (keeping.each k)
    ∙ sym (row-above received all k))

-- What is found by generation.

filter-tests : (passes here p any found : Bool) → (here ≡ true → p ≡ passes) → found ≡ (p && any) → cond passes (here || found) found ≡ (p && (here || any))
filter-tests true true p any found same is = let passes : p ≡ true = same refl in rw passes refl
filter-tests true false p any found same is = is
filter-tests false true p any found same is = let fails : p ≡ false = same refl in is ∙ rw fails refl
filter-tests false false p any found same is = is

among-cond : (passes : Bool) (g x : ℕ) (xs : List ℕ) → is_among g (let kept : List ℕ = cond passes (x ∷ xs) xs in kept) ≡ cond passes ((x == g) || is_among g xs) (is_among g xs)
among-cond true g x xs = refl
among-cond false g x xs = refl

-- a generation is among those that a filter leaves where it passes
pub among-filter : (test : ℕ → Bool) (g : ℕ) (xs : List ℕ) → is_among g (filter test xs) ≡ (test g && is_among g xs)
among-filter test g [] = sym (and-none (test g))
among-filter test g (x ∷ xs) =
    among-cond (test x) g x (filter test xs)
    ∙ filter-tests (test x) (x == g) (test g) (is_among g xs) (is_among g (filter test xs)) (λ same. let at : g ≡ x = grind (arith, nat_tests, same) in ap test at) (among-filter test g xs)

key-tests : (same any first rest own : Bool) → (same ≡ true → first ≡ own) → rest ≡ (any && own) → ((same && first) || rest) ≡ ((same || any) && own)
key-tests true any first rest own is all = rw (is refl, all) (absorbed any own)
  where
    absorbed : (any own : Bool) → (own || (any && own)) ≡ own
    absorbed any true = refl
    absorbed true false = refl
    absorbed false false = refl
key-tests false any first rest own is all = all

any-at-key : (k : RowKey) (f : RowKey → Bool) (keys : List RowKey) → list_any (λ (key : RowKey). same_key k key && f key) keys ≡ (list_any (is_at (key_cmp k)) keys && f k)
any-at-key k f [] = refl
any-at-key k f (key ∷ keys) =
    key-tests (same_key k key) (list_any (is_at (key_cmp k)) keys) (f key) (list_any (λ (q : RowKey). same_key k q && f q) keys) (f k) (λ same. ap f (sym (keys-same k key same))) (any-at-key k f keys)
    ∙ ap (λ (b : Bool). (b || list_any (is_at (key_cmp k)) keys) && f k) (sym (key-test k key))

entries-let-go : (received : ℕ) (all : Rows) (keys : List RowKey) (s : set.FinSet entry_cmp) (k : RowKey) (g : ℕ)
    → set.contains (entries_after_all s (flat_map (entries_let_go all received) keys)) (entry_behind g k) ≡ (not (list_any (is_at (key_cmp k)) keys && (nat_le g received && keeps (row_at all k) g)) && set.contains s (entry_behind g k))
entries-let-go received all keys s k g =
    taken-each (λ (key : RowKey). key) (λ (key : RowKey). filter (λ (h : ℕ). nat_le h received) (kept_by (row_at all key))) keys s k g
    ∙ ap (λ (b : Bool). not b && set.contains s (entry_behind g k))
    (any-same (λ (key : RowKey). same_key k key && is_among g (filter (λ (h : ℕ). nat_le h received) (kept_by (row_at all key)))) (λ (key : RowKey). same_key k key && (nat_le g received && keeps (row_at all key) g))
    (λ key. ap (λ (b : Bool). same_key k key && b) (among-filter (λ (h : ℕ). nat_le h received) g (kept_by (row_at all key)))) keys
    ∙ any-at-key k (λ (key : RowKey). nat_le g received && keeps (row_at all key) g) keys)

gone-tests : (here keep low high : Bool) → high ≡ not low → (keep ≡ true → low ≡ true → here ≡ true) → (not (here && (low && keep)) && keep) ≡ (high && keep)
gone-tests true true true high is there = rw is refl
gone-tests true true false high is there = rw is refl
gone-tests true false true high is there = rw is refl
gone-tests true false false high is there = rw is refl
gone-tests false true true high is there = let no : false ≡ true = there refl refl in absurd cc
gone-tests false true false high is there = rw is refl
gone-tests false false true high is there = rw is refl
gone-tests false false false high is there = rw is refl

-- each row is found by the generations above one that it keeps
pub let-go-indexed : (received : ℕ) (all : Rows) (keys : List RowKey) (entries : set.FinSet entry_cmp) → AreIndexed all entries → AreKeeping all 0 (received + 1) keys
    → (k : RowKey) (g : ℕ) → set.contains (entries_after_all entries (flat_map (entries_let_go all received) keys)) (entry_behind g k) ≡ (nat_lt received g && keeps (row_at all k) g)
unfolding AreIndexed
let-go-indexed received all keys entries indexed keeping k g =
    entries-let-go received all keys entries k g
    ∙ ap (λ (b : Bool). not (list_any (is_at (key_cmp k)) keys && (nat_le g received && keeps (row_at all k) g)) && b) (indexed k g)
    ∙ gone-tests (list_any (is_at (key_cmp k)) keys) (keeps (row_at all k) g) (nat_le g received) (nat_lt received g) (grind (arith, nat_tests))
    (λ keep low. keeping.each k ∙ has-kept (row_at all k) 0 (received + 1) g (omega arith) (grind (arith, nat_tests, low)) keep)
