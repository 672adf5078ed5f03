-- How many rows are unsent, counted by the entries that find them.
use Rattle.std.specs.Prelude.{◌≡◌, ◌==◌, ◌+◌, ◌<◌, ◌&&◌, ◌||◌, ◌⊎◌, ◌↔◌, ◌^◌, ℕ, suc, Bool, true, false, IsTrue, List, [], ◌∷◌, None, Option, Some, cond, filter, is_some, length, map, nat_le, option_map, refl, unwrap_or}
use Rattle.std.specs.BTreeMap.{is_at}
use Rattle.std.specs.FinSet as set
use Rattle.std.specs.List.{AllByRecursion, Contains, IsDistinct, last_or, list_any}
use Rattle.std.specs.List.Sorted.{IsStrictlySortedBy}
use Rattle.std.specs.Map.{keys_of}
use Rattle.std.specs.Ordering.{eq_by_cmp}
use Rattle.std.specs.declared.cmp.Ordering.TheVariants.{Equal, Less}
use Rattle.std.proofs.Common.{ap, arith, inl, inr, subst, sym, ◌∙◌}
use Rattle.std.proofs.lemmas.Bool.Decides.{nat_tests}
use Rattle.std.proofs.lemmas.Cmp.{eq_by_cmp_equiv, tied_itself}
use Rattle.std.proofs.lemmas.List.Kept.{IsStrictlySortedBy-filter}
use Rattle.std.proofs.lemmas.Map.Entries.{length-keys_of}
use Rattle.std.proofs.lemmas.Map.Keys.{IsDistinct-from_sorted}
use Rattle.std.proofs.lemmas.Map.Made.{is_some-lookup, length-from_same_keys}
use Rattle.merge_types.specs.RowKeys.{key_cmp}
use Rattle.merge_types.specs.declared.row_key.RowKey.{RowKey}
use Rattle.merge_units.specs.declared.site_row.SubscriberRow.{SubscriberRow}
use Rattle.merge_gens.specs.Entries.{entry_cmp, entry_of, row_of}
use Rattle.merge_gens.specs.Index.{AreFrom}
use Rattle.merge_gens.specs.declared.index.IndexEntry.{IndexEntry}
use Rattle.merge_gens.proofs.EntryLists.{entry_total}
use Rattle.merge_schema.proofs.ListMembers.{any_at, any_found}
use Rattle.merge_model.specs.Judge.ByNumbers.{last_between}
use Rattle.merge_model.specs.Tables.Keys.{row_at}
use Rattle.merge_model.proofs.Lists.KeyLookUps.{keys-exact}
use Rattle.merge_model.proofs.Lists.{any-same}
use Rattle.merge_model.proofs.Publishers.Sorted.{key_total}
use Rattle.merge_sub.proofs.ChangedRows.{has-row, inside-in, is_inside, last-kept, same-bool, sent-count}
use Rattle.merge_sub.specs.Held.{AreIndexed, Held, entry_behind, keeps, kept_by, tables_of}
use Rattle.merge_sub.specs.Sent.{AreChanged, changed_count, is_in, is_last, keeps_in}
use Rattle.merge_model.specs.World.Reports.{unsent_count}

abbrev Rows : Type 0
Rows = List (RowKey × SubscriberRow)

both : (a b : Bool) → (a && b) ≡ true → (a ≡ true) × (b ≡ true)
both true true is = (refl, refl)
both true false is = absurd cc
both false b is = absurd cc

and-true : (a b : Bool) → a ≡ true → b ≡ true → (a && b) ≡ true
and-true true b first second = second
and-true false b first second = first

-- What a filter leaves of a list.

any-step : {X : Type 0} (row : X → RowKey) (test : RowKey → Bool) (x : X) (kept : List X) (passes rest : Bool) → list_any test (map row kept) ≡ rest
    → list_any test (map row (let left : List X = cond passes (x ∷ kept) kept in left)) ≡ ((passes && test (row x)) || rest)
any-step row test x kept true rest more = ap (λ (b : Bool). test (row x) || b) more
any-step row test x kept false rest more = more

any-kept : {X : Type 0} (p : X → Bool) (row : X → RowKey) (test : RowKey → Bool) (xs : List X) → list_any test (map row (filter p xs)) ≡ list_any (λ (x : X). p x && test (row x)) xs
any-kept p row test [] = refl
any-kept {X = X} p row test (x ∷ xs) = any-step row test x (filter p xs) (p x) (list_any (λ (y : X). p y && test (row y)) xs) (any-kept p row test xs)

pass-step : (p : IndexEntry → Bool) (e : IndexEntry) (es : List IndexEntry) (passes : Bool) → p e ≡ passes → AllByRecursion (λ (y : IndexEntry). p y ≡ true) (filter p es)
    → AllByRecursion (λ (y : IndexEntry). p y ≡ true) (let left : List IndexEntry = cond passes (e ∷ filter p es) (filter p es) in left)
pass-step p e es true is all = (is, all)
pass-step p e es false is all = all

all-pass : (p : IndexEntry → Bool) (es : List IndexEntry) → AllByRecursion (λ (y : IndexEntry). p y ≡ true) (filter p es)
all-pass p [] = tt
all-pass p (e ∷ es) = pass-step p e es (p e) refl (all-pass p es)

length-rows : (es : List IndexEntry) → length (map row_of es) ≡ length es
length-rows [] = refl
length-rows (e ∷ es) = ap (λ (n : ℕ). suc n) (length-rows es)

same-keys : (keys : List RowKey) → map (λ (key : RowKey). key) keys ≡ keys
same-keys [] = refl
same-keys (key ∷ keys) = ap (λ (rest : List RowKey). key ∷ rest) (same-keys keys)

-- The last of the generations that pass a test.

or-later : (a b : Bool) → b ≡ true → (a || b) ≡ true
or-later true b is = refl
or-later false b is = is

abbrev IsAmong : (ℕ → Bool) → List ℕ → ℕ → Type 0
IsAmong test xs m = (list_any (λ (kept : ℕ). kept == m) xs ≡ true) × (test m ≡ true)

last-step : (test : ℕ → Bool) (before : Option ℕ) (x : ℕ) (xs : List ℕ) (m : ℕ) (passes : Bool) → test x ≡ passes
    → ((from : Option ℕ) → last_or from (filter test xs) ≡ Some m → (from ≡ Some m) ⊎ IsAmong test xs m)
    → last_or before (let kept : List ℕ = cond passes (x ∷ filter test xs) (filter test xs) in kept) ≡ Some m → (before ≡ Some m) ⊎ IsAmong test (x ∷ xs) m
last-step test before x xs m true here more is = elim (more (Some x) is) [
  | inl same ↦
      let at : x ≡ m = ap (λ (o : Option ℕ). unwrap_or o 0) same in
      inr (ap (λ (b : Bool). b || list_any (λ (kept : ℕ). kept == m) xs) (let equal : (x == m) ≡ true = grind (arith, nat_tests, at) in equal), subst (λ (n : ℕ). test n ≡ true) at here)
  | inr later ↦ inr (or-later (x == m) (list_any (λ (kept : ℕ). kept == m) xs) later.0, later.1)
]
last-step test before x xs m false here more is = elim (more before is) [
  | inl same ↦ inl same
  | inr later ↦ inr (or-later (x == m) (list_any (λ (kept : ℕ). kept == m) xs) later.0, later.1)
]

last-among : (test : ℕ → Bool) (xs : List ℕ) (m : ℕ) (before : Option ℕ) → last_or before (filter test xs) ≡ Some m → (before ≡ Some m) ⊎ IsAmong test xs m
last-among test [] m before is = inl is
last-among test (x ∷ xs) m before is = last-step test before x xs m (test x) refl (last-among test xs m) is

some-of : (o : Option ℕ) → is_some o ≡ true → (m : ℕ) × (o ≡ Some m)
some-of None is = absurd cc
some-of (Some m) is = (m, refl)

-- the row keeps the last of those between
last-keeps : (row : Option SubscriberRow) (from to : ℕ) → keeps_in (from + 1) (to + 1) row ≡ true → (m : ℕ) × (last_between from to (kept_by row) ≡ Some m) × (keeps row m ≡ true) × (is_inside from to m ≡ true)
last-keeps row from to has =
    let there : list_any (is_inside from to) (kept_by row) ≡ true = any-same (is_inside from to) (is_in (from + 1) (to + 1)) (inside-in from to) (kept_by row) ∙ has in
    let last = some-of (last_between from to (kept_by row)) (last-kept (is_inside from to) (kept_by row) ∙ there) in
    elim (last-among (is_inside from to) (kept_by row) last.0 None last.1) [
      | inl none ↦ let no : None ≡ Some last.0 = none in absurd cc
      | inr among ↦ (last.0, last.1, among.0, among.1)
    ]

-- and keeps one between where there is a last
last-has : (row : Option SubscriberRow) (from to m : ℕ) → last_between from to (kept_by row) ≡ Some m → keeps_in (from + 1) (to + 1) row ≡ true
last-has row from to m is =
    sym (any-same (is_inside from to) (is_in (from + 1) (to + 1)) (inside-in from to) (kept_by row))
    ∙ sym (last-kept (is_inside from to) (kept_by row))
    ∙ ap (λ (o : Option ℕ). is_some o) is

-- The entries that are the last of their rows.

last-of : (o : Option ℕ) (generation : ℕ) → unwrap_or (option_map (λ (last : ℕ). generation == last + 1) o) false ≡ true → (m : ℕ) × (o ≡ Some m) × (generation ≡ m + 1)
last-of None generation is = absurd cc
last-of (Some m) generation is = (m, refl, (let same : generation ≡ m + 1 = grind (arith, nat_tests, is) in same))

module _ (rows : Rows) (from to : ℕ) where
  last-in : (e : IndexEntry) → is_last rows from to e ≡ true → (m : ℕ) × (last_between from to (kept_by (row_at rows e.key)) ≡ Some m) × (e.generation ≡ m + 1)
  last-in e is = last-of (last_between from to (kept_by (row_at rows e.key))) e.generation is

  -- a row has one at most
  same-generation : (e y : IndexEntry) → is_last rows from to e ≡ true → is_last rows from to y ≡ true → e.key ≡ y.key → e.generation ≡ y.generation
  same-generation e y one other same =
      let a = last-in e one in
      let b = last-in y other in
      let both_last : Some a.0 ≡ Some b.0 = sym a.1 ∙ ap (λ (k : RowKey). last_between from to (kept_by (row_at rows k))) same ∙ b.1 in
      let number : a.0 ≡ b.0 = ap (λ (o : Option ℕ). unwrap_or o 0) both_last in
      a.2 ∙ ap (λ (n : ℕ). n + 1) number ∙ sym b.2

  differ : (e y : IndexEntry) (same : Bool) → eq_by_cmp key_cmp e.key y.key ≡ same → entry_cmp e y ≡ Less → is_last rows from to e ≡ true → is_last rows from to y ≡ true → same ≡ false
  differ e y false at less one other = refl
  differ e y true at less one other =
      let keys : e.key ≡ y.key = keys-exact e.key y.key at in
      let generations : e.generation ≡ y.generation = same-generation e y one other keys in
      let no : entry_cmp y y ≡ Less = ap (λ (g : ℕ). entry_cmp (entry_of g y.key) y) (sym generations) ∙ ap (λ (k : RowKey). entry_cmp (entry_of e.generation k) y) (sym keys) ∙ less in
      let bad : Equal ≡ Less = sym (tied_itself entry_total y) ∙ no in
      absurd cc

  apart : (e : IndexEntry) (es : List IndexEntry) → is_last rows from to e ≡ true → AllByRecursion (λ (y : IndexEntry). entry_cmp e y ≡ Less) es → AllByRecursion (λ (y : IndexEntry). is_last rows from to y ≡ true) es
      → AllByRecursion (λ (key : RowKey). eq_by_cmp key_cmp e.key key ≡ false) (map row_of es)
  apart e [] one above all = tt
  apart e (y ∷ es) one above all = (differ e y (eq_by_cmp key_cmp e.key y.key) refl above.0 one all.0, apart e es one above.1 all.1)

  distinct : (es : List IndexEntry) → IsStrictlySortedBy entry_cmp es → AllByRecursion (λ (y : IndexEntry). is_last rows from to y ≡ true) es → IsDistinct (eq_by_cmp key_cmp) (map row_of es)
  unfolding IsDistinct IsStrictlySortedBy
  distinct [] sorted all = tt
  distinct (e ∷ es) sorted all = (apart e es all.0 sorted.0 all.1, distinct es sorted.1 all.1)

  -- they are of the rows that keep one between
  last-rows : (entries : set.FinSet entry_cmp) → AreIndexed rows entries → (es : List IndexEntry) → ((e : IndexEntry) → Contains es e ↔ (IsTrue (nat_le (from + 2) e.generation) × IsTrue (set.contains entries e)))
      → (key : RowKey) → list_any (is_at (key_cmp key)) (map row_of (filter (is_last rows from to) es)) ≡ keeps_in (from + 1) (to + 1) (row_at rows key)
  unfolding AreIndexed
  last-rows entries indexed es each key =
      same-bool (list_any (is_at (key_cmp key)) (map row_of (filter (is_last rows from to) es))) (keeps_in (from + 1) (to + 1) (row_at rows key))
      (λ there.
      let found = any_found (λ (e : IndexEntry). is_last rows from to e && is_at (key_cmp key) (row_of e)) es (sym (any-kept (is_last rows from to) row_of (is_at (key_cmp key)) es) ∙ there) in
      let passes = both (is_last rows from to found.0) (is_at (key_cmp key) (row_of found.0)) found.2 in
      let at : key ≡ row_of found.0 = keys-exact key (row_of found.0) passes.1 in
      let last = last-in found.0 passes.0 in
      last-has (row_at rows key) from to last.0 (ap (λ (k : RowKey). last_between from to (kept_by (row_at rows k))) at ∙ last.1))
      (λ has.
      let last = last-keeps (row_at rows key) from to has in
      let inside = last.3 in
      let e : IndexEntry = entry_behind last.0 key in
      let behind : nat_le (from + 2) (last.0 + 1) ≡ true = grind (arith, nat_tests, inside) in
      let there : Contains es e = (each e).1 (behind, indexed key last.0 ∙ last.2) in
      let same : ((last.0 + 1) == (last.0 + 1)) ≡ true = grind (arith, nat_tests) in
      let is : is_last rows from to e ≡ true = ap (λ (o : Option ℕ). unwrap_or (option_map (λ (n : ℕ). (last.0 + 1) == n + 1) o) false) last.1 ∙ same in
      any-kept (is_last rows from to) row_of (is_at (key_cmp key)) es
      ∙ any_at (λ (d : IndexEntry). is_last rows from to d && is_at (key_cmp key) (row_of d)) es e there (and-true (is_last rows from to e) (is_at (key_cmp key) key) is ((eq_by_cmp_equiv key_total).refl key)))

  abbrev has_between : RowKey → Bool
  has_between key = keeps_in (from + 1) (to + 1) (row_at rows key)

  -- the rows that keep one between
  rows-between : IsStrictlySortedBy key_cmp (keys_of rows) → AreChanged rows from to (filter has_between (keys_of rows))
  rows-between sorted = record {
    ordered = sorted;
    ascending = IsStrictlySortedBy-filter key_cmp has_between (keys_of rows) sorted;
    each = λ key.
        let kept : list_any (is_at (key_cmp key)) (filter has_between (keys_of rows)) ≡ list_any (λ (k : RowKey). has_between k && is_at (key_cmp key) k) (keys_of rows) =
        ap (λ (ks : List RowKey). list_any (is_at (key_cmp key)) ks) (sym (same-keys (filter has_between (keys_of rows)))) ∙ any-kept has_between (λ (k : RowKey). k) (is_at (key_cmp key)) (keys_of rows) in
        same-bool (list_any (is_at (key_cmp key)) (filter has_between (keys_of rows))) (has_between key)
        (λ there.
        let found = any_found (λ (k : RowKey). has_between k && is_at (key_cmp key) k) (keys_of rows) (sym kept ∙ there) in
        let passes = both (has_between found.0) (is_at (key_cmp key) found.0) found.2 in
        subst (λ (k : RowKey). has_between k ≡ true) (sym (keys-exact key found.0 passes.1)) passes.0)
        (λ has.
        let there : list_any (is_at (key_cmp key)) (keys_of rows) ≡ true = sym (is_some-lookup (is_at (key_cmp key)) rows) ∙ has-row (from + 1) (to + 1) (row_at rows key) has in
        let found = any_found (is_at (key_cmp key)) (keys_of rows) there in
        let at : key ≡ found.0 = keys-exact key found.0 found.2 in
        kept ∙ any_at (λ (k : RowKey). has_between k && is_at (key_cmp key) k) (keys_of rows) found.0 found.1 (and-true (has_between found.0) (is_at (key_cmp key) found.0) (subst (λ (k : RowKey). has_between k ≡ true) at has) found.2));
  }

  -- as many entries are the last of their rows as rows keep one between
  rows-counted : (entries : set.FinSet entry_cmp) → AreIndexed rows entries → IsStrictlySortedBy key_cmp (keys_of rows) → (es : List IndexEntry) → IsStrictlySortedBy entry_cmp es
      → ((e : IndexEntry) → Contains es e ↔ (IsTrue (nat_le (from + 2) e.generation) × IsTrue (set.contains entries e))) → length (filter (is_last rows from to) es) ≡ changed_count rows from to
  rows-counted entries indexed sorted es ascending each =
      let changed : AreChanged rows from to (filter has_between (keys_of rows)) = rows-between sorted in
      sym (length-rows (filter (is_last rows from to) es))
      ∙ length-from_same_keys (eq_by_cmp_equiv key_total) (map row_of (filter (is_last rows from to) es)) (filter has_between (keys_of rows))
      (distinct (filter (is_last rows from to) es) (IsStrictlySortedBy-filter entry_cmp (is_last rows from to) es ascending) (all-pass (is_last rows from to) es))
      (IsDistinct-from_sorted key_cmp (filter has_between (keys_of rows)) changed.ascending)
      (λ key. last-rows entries indexed es each key ∙ sym (changed.each key))
      ∙ sym (sent-count rows from to (filter has_between (keys_of rows)) changed)

-- The walk over the entries.

-- so many rows are counted, and these entries are left
pub record Counting (rows : Rows) (from to : ℕ) (entries : set.FinSet entry_cmp) (count : ℕ) (left : List IndexEntry) : Type 0 where
  pub all : List IndexEntry
  pub are : AreFrom entries (from + 2) all
  pub counted : count + length (filter (is_last rows from to) left) ≡ length (filter (is_last rows from to) all)
  pub few : count + length left < 2 ^ 63

pub begin_counting : (rows : Rows) (from to : ℕ) (entries : set.FinSet entry_cmp) (left : List (IndexEntry × Unit {0})) → AreFrom entries (from + 2) (keys_of left) → length left < 2 ^ 63 → Counting rows from to entries 0 (keys_of left)
begin_counting rows from to entries left are few = record {
  all = keys_of left;
  are = are;
  counted = omega arith;
  few = (let same = length-keys_of left in omega (arith, same, few));
}

count-on : (e : IndexEntry) (kept : List IndexEntry) (passes : Bool) (count next sum : ℕ) → next ≡ (let n : ℕ = cond passes (count + 1) count in n) → count + length (let more : List IndexEntry = cond passes (e ∷ kept) kept in more) ≡ sum → next + length kept ≡ sum
count-on e kept true count next sum is all = omega (arith, is, all)
count-on e kept false count next sum is all = omega (arith, is, all)

few-on : (passes : Bool) (count next rest most : ℕ) → next ≡ (let n : ℕ = cond passes (count + 1) count in n) → count + suc rest < most → next + rest < most
few-on true count next rest most is few = omega (arith, is, few)
few-on false count next rest most is few = omega (arith, is, few)

pub go_on_counting : (rows : Rows) (from to : ℕ) (entries : set.FinSet entry_cmp) (count next : ℕ) (e : IndexEntry) (left : List IndexEntry) → Counting rows from to entries count (e ∷ left)
    → next ≡ (let n : ℕ = cond (is_last rows from to e) (count + 1) count in n) → Counting rows from to entries next left
go_on_counting rows from to entries count next e left c is = record {
  all = c.all;
  are = c.are;
  counted = count-on e (filter (is_last rows from to) left) (is_last rows from to e) count next (length (filter (is_last rows from to) c.all)) is c.counted;
  few = few-on (is_last rows from to e) count next (length left) (2 ^ 63) is c.few;
}

pub end_counting : (rows : Rows) (from to : ℕ) (entries : set.FinSet entry_cmp) → AreIndexed rows entries → IsStrictlySortedBy key_cmp (keys_of rows) → (count : ℕ) → Counting rows from to entries count [] → count ≡ changed_count rows from to
end_counting rows from to entries indexed sorted count c =
    let none : count ≡ length (filter (is_last rows from to) c.all) = (let sum = c.counted in omega (arith, sum)) in
    none ∙ rows-counted rows from to entries indexed sorted c.all c.are.ascending c.are.each

-- the same for what is held
pub unsent_counted : (h now : Held) → h ≡ now → (count : ℕ) → count ≡ changed_count h.rows.rows h.state.received (h.gens.book.filling.last_closed + 1) → count ≡ unsent_count (tables_of now)
unsent_counted h now view count is = is ∙ ap (λ (x : Held). unsent_count (tables_of x)) view
