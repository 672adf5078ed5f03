-- The rows of index entries between two generations.
use Rattle.std.proofs.Common.{◌≡◌, ℕ, ◌+◌, ◌<◌, ◌≤◌, Bool, true, false, cond, ◌&&◌, nat_le, nat_lt, nat_eq, List, [], ◌∷◌, ◌++◌, map, zero, suc, ◌⊎◌, inl, inr, take, length, refl, sym, ap, subst, ◌∙◌, append_assoc, append-nil, arith}
use Rattle.std.specs.Prelude.{IsTrue, ◌↔◌}
use Rattle.std.specs.List.{filter, AllByRecursion, Contains, dedup}
use Rattle.std.specs.List.Sorted.{IsStrictlySortedBy, IsSorted, IsPermutation}
use Rattle.std.specs.FinSet as set
use Rattle.std.specs.Map.{keys_of}
use Rattle.std.specs.Cmp.{IsEquivalence, both_tied, unsigned_ties, and_equiv, on_equiv, nat_eq_equiv, Equal-is, eq_by_cmp_equiv}
use Rattle.std.specs.Ordering.{eq_by_cmp, nat_cmp}
use Rattle.std.specs.declared.cmp.Ordering.TheVariants.{Less}
use Rattle.std.proofs.lemmas.Bool.Decides.{nat_tests}
use Rattle.std.proofs.lemmas.List.Elements.{Contains-append_right}
use Rattle.std.proofs.lemmas.Map.Views.{Contains-from_any, list_any-from_Contains, tells_apart}
use Rattle.std.proofs.lemmas.List.Kept.{IsStrictlySortedBy-filter, IsStrictlySortedBy-dedup, Contains-dedup, Contains-from_dedup}
use Rattle.std.proofs.lemmas.List.Sorted.{Contains-permutation, IsPermutation-sym}
use Rattle.std.proofs.lemmas.List.{take-append-le, take_all}
use Rattle.std.specs.BTreeMap.Range.{range_contains, entries_between}
use Rattle.std.specs.declared.ops.Bound.TheVariants.{Included, Unbounded}
use Rattle.merge_types.specs.RowKeys.{key_cmp, key_exact}
use Rattle.merge_types.specs.declared.row_key.RowKey.{RowKey}
use Rattle.merge_gens.specs.declared.index.IndexEntry.{IndexEntry}
use Rattle.merge_gens.specs.Entries.{entry_cmp, entry_exact, entry_of, row_of, is_between}
use Rattle.merge_gens.specs.Index.{AddsRowsBetween, AreFrom, HasBetween}
use Rattle.merge_gens.proofs.EntryLists.{Rows, key_total, entry_total, entries_of}

abbrev same_row : RowKey → RowKey → Bool
same_row x y = nat_eq x.article y.article && nat_eq x.row.0 y.row.0

same_row_equiv : IsEquivalence same_row
same_row_equiv = and_equiv (on_equiv (λ (x : RowKey). x.article) nat_eq_equiv) (on_equiv (λ (x : RowKey). x.row.0) nat_eq_equiv)

same_row_ties : (x y : RowKey) → same_row x y ≡ eq_by_cmp key_cmp x y
same_row_ties x y = both_tied _ _ (nat_cmp x.article y.article) (nat_cmp x.row.0 y.row.0) (unsigned_ties x.article y.article) (unsigned_ties x.row.0 y.row.0)

same_row_exact : (x y : RowKey) → same_row x y ≡ true → x ≡ y
same_row_exact x y same = key_exact x y ((Equal-is (key_cmp x y)).0 (sym (same_row_ties x y) ∙ same))

-- what a sort and a removal of repeats leave
pub ascending_distinct : (xs : List RowKey) → IsSorted key_cmp xs → IsStrictlySortedBy key_cmp (dedup same_row xs)
ascending_distinct xs sorted = IsStrictlySortedBy-dedup key_total same_row_ties xs sorted

pub same_distinct : (xs ys : List RowKey) → IsPermutation xs ys → (key : RowKey) → Contains (dedup same_row ys) key ↔ Contains xs key
same_distinct xs ys moved key = (
  λ h. Contains-permutation ys xs key (IsPermutation-sym xs ys moved) (Contains-from_dedup same_row ys key h),
  λ h. Contains-dedup same_row_equiv same_row_exact ys key (Contains-permutation xs ys key moved h),
)

-- an entry that is above another has no smaller generation
generation_le : (a b : IndexEntry) → entry_cmp a b ≡ Less → a.generation ≤ b.generation
generation_le a b less = grind (arith, nat_tests)

-- behind an entry past the end, none is between
none_behind : (from to : ℕ) (e : IndexEntry) (ks : List IndexEntry) → to < e.generation → AllByRecursion (λ y. entry_cmp e y ≡ Less) ks → filter (is_between from to) ks ≡ []
none_behind from to e [] past above = refl
none_behind from to e (k ∷ ks) past above = grind (arith, nat_tests, generation_le e k above.0, none_behind from to e ks past above.1)

pub none_past : (from to : ℕ) (e : IndexEntry) (ks : List IndexEntry) → IsStrictlySortedBy entry_cmp (e ∷ ks) → to < e.generation → filter (is_between from to) (e ∷ ks) ≡ []
unfolding IsStrictlySortedBy
none_past from to e ks sorted past = grind (arith, nat_tests, none_behind from to e ks past sorted.0)

-- where the end is not behind the start, none is between
pub none_between : (from to : ℕ) (ks : List IndexEntry) → to ≤ from → filter (is_between from to) ks ≡ []
none_between from to [] h = refl
none_between from to (k ∷ ks) h = grind (arith, nat_tests, none_between from to ks h)

-- the entries from the first of a generation on
abbrev pub is_from : IndexEntry → IndexEntry → Bool
is_from first entry = range_contains entry_cmp (Included first) Unbounded entry

abbrev first_of : ℕ → IndexEntry
first_of generation = entry_of generation (record { article = 0; row = record { 0 = 0 } })

-- what is between stands from the first of the next generation on, and what stands there is behind the start
from_is : (from : ℕ) (e : IndexEntry) → is_from (first_of (from + 1)) e ≡ nat_lt from e.generation
from_is from e = grind (arith, nat_tests)

-- a walk through the entries, with these left: behind the list stand the rows so far, with those of what is left they make up all, and what is left ascends behind the start
pub record Walking (from to : ℕ) (all : List IndexEntry) (old found : List RowKey) (left : List IndexEntry) : Type 0 where
  pub rows : found ++ map row_of (filter (is_between from to) left) ≡ old ++ map row_of (filter (is_between from to) all)
  pub more : List RowKey
  pub behind_old : found ≡ old ++ more
  pub sorted : IsStrictlySortedBy entry_cmp left
  pub behind : AllByRecursion (λ (e : IndexEntry). from < e.generation) left

-- what stands from the first of the next generation on
start_step : (from to : ℕ) (e : IndexEntry) (u : Unit {0}) (es : List (IndexEntry × Unit {0}))
    → (filter (is_between from to) (keys_of (entries_between entry_cmp (Included (first_of (from + 1))) Unbounded es)) ≡ filter (is_between from to) (keys_of es))
    → filter (is_between from to) (keys_of (entries_between entry_cmp (Included (first_of (from + 1))) Unbounded ((e, u) ∷ es))) ≡ filter (is_between from to) (keys_of ((e, u) ∷ es))
start_step from to e u es ih = grind (arith, nat_tests, from_is from e, ih)

start_same : (from to : ℕ) (es : List (IndexEntry × Unit {0})) → filter (is_between from to) (keys_of (entries_between entry_cmp (Included (first_of (from + 1))) Unbounded es)) ≡ filter (is_between from to) (keys_of es)
start_same from to [] = refl
start_same from to ((e, u) ∷ es) = start_step from to e u es (start_same from to es)

start_behind : (from : ℕ) (es : List (IndexEntry × Unit {0})) → AllByRecursion (λ (e : IndexEntry). from < e.generation) (keys_of (entries_between entry_cmp (Included (first_of (from + 1))) Unbounded es))
start_behind from [] = tt
start_behind from ((e, u) ∷ es) = grind (arith, nat_tests, from_is from e, start_behind from es)

keys_filter : (p : IndexEntry → Bool) (es : List (IndexEntry × Unit {0})) → keys_of (filter (λ (e : IndexEntry × Unit {0}). p e.0) es) ≡ filter p (keys_of es)
keys_filter p [] = refl
keys_filter p ((e, u) ∷ es) = elim (p e) as (λ b. keys_of (cond b ((e, u) ∷ filter (λ (e : IndexEntry × Unit {0}). p e.0) es) (filter (λ (e : IndexEntry × Unit {0}). p e.0) es)) ≡ cond b (e ∷ filter p (keys_of es)) (filter p (keys_of es))) [
  | true ↦ ap (λ ks. e ∷ ks) (keys_filter p es)
  | false ↦ keys_filter p es
]

-- the walk begins at the first entry of the next generation
pub walk_start : (from to : ℕ) (es left : List (IndexEntry × Unit {0})) (old : List RowKey) → IsStrictlySortedBy entry_cmp (keys_of es) → left ≡ entries_between entry_cmp (Included (first_of (from + 1))) Unbounded es
    → Walking from to (keys_of es) old old (keys_of left)
walk_start from to es left old sorted is = rw is record {
  rows = ap (λ (ks : List IndexEntry). old ++ map row_of ks) (start_same from to es);
  more = [];
  behind_old = sym (append-nil old);
  sorted = rw (keys_filter (is_from (first_of (from + 1))) es) (IsStrictlySortedBy-filter entry_cmp (is_from (first_of (from + 1))) (keys_of es) sorted);
  behind = start_behind from es;
}

-- an entry that is not past the end is between
pub walk_step : (from to : ℕ) (all : List IndexEntry) (old found : List RowKey) (e : IndexEntry) (left : List IndexEntry) → e.generation ≤ to → Walking from to all old found (e ∷ left) → Walking from to all old (found ++ row_of e ∷ []) left
unfolding IsStrictlySortedBy
walk_step from to all old found e left le walking =
    let between : is_between from to e ≡ true = grind (arith, nat_tests, walking.behind.0) in
    record {
      rows = append_assoc found (row_of e ∷ []) (map row_of (filter (is_between from to) left)) ∙ (rw between at walking.rows);
      more = walking.more ++ row_of e ∷ [];
      behind_old = ap (λ l. l ++ row_of e ∷ []) walking.behind_old ∙ append_assoc old walking.more (row_of e ∷ []);
      sorted = walking.sorted.1;
      behind = walking.behind.1;
    }

-- at an entry past the end all are found
pub walk_stop : (from to : ℕ) (all : List IndexEntry) (old found : List RowKey) (e : IndexEntry) (left : List IndexEntry) → to < e.generation → Walking from to all old found (e ∷ left) → found ≡ old ++ map row_of (filter (is_between from to) all)
walk_stop from to all old found e left past walking = sym (append-nil found) ∙ (rw (none_past from to e left walking.sorted past) at walking.rows)

-- the old list comes back where what stands behind it is cut off
pub cut_back : (old new : List RowKey) → ((more : List RowKey) × (new ≡ old ++ more)) → take (length old) new ≡ old
cut_back old new (more, is) = ap (take (length old)) is ∙ take-append-le (length old) old more (omega arith) ∙ take_all (length old) old (omega arith)

contains_cases : {X : Type 0} (x : X) (xs : List X) (y : X) → Contains (x ∷ xs) y → (x ≡ y) ⊎ Contains xs y
contains_cases x xs y (zero, less, at) = inl at
contains_cases x xs y (suc k, less, at) = inr (k, omega arith, at)

contains_first : {X : Type 0} (x : X) (xs : List X) → Contains (x ∷ xs) x
contains_first x xs = (0, omega arith, refl)

contains_later : {X : Type 0} (x : X) (xs : List X) (y : X) → Contains xs y → Contains (x ∷ xs) y
contains_later x xs y h = Contains-append_right (x ∷ []) xs y h

contains_filter_step : (p : IndexEntry → Bool) (x : IndexEntry) (xs : List IndexEntry) (e : IndexEntry) (b : Bool) → p x ≡ b
    → (Contains (filter p xs) e → IsTrue (p e) × Contains xs e)
    → Contains (cond b (x ∷ filter p xs) (filter p xs)) e → IsTrue (p e) × Contains (x ∷ xs) e
contains_filter_step p x xs e false is rest h = let r = rest h in (r.0, contains_later x xs e r.1)
contains_filter_step p x xs e true is rest h =
    elim (contains_cases x (filter p xs) e h) [
      | inl same ↦ (subst (λ y. p y ≡ true) same is, subst (λ y. Contains (x ∷ xs) y) same (contains_first x xs))
      | inr later ↦ let r = rest later in (r.0, contains_later x xs e r.1)
    ]

-- what a filter keeps passes, and stood in the list
contains_filter : (p : IndexEntry → Bool) (xs : List IndexEntry) (e : IndexEntry) → Contains (filter p xs) e → IsTrue (p e) × Contains xs e
contains_filter p [] e (k, less, at) = absurd (omega (arith, less))
contains_filter p (x ∷ xs) e h = contains_filter_step p x xs e (p x) refl (contains_filter p xs e) h

kept_step : (p : IndexEntry → Bool) (x : IndexEntry) (xs : List IndexEntry) (e : IndexEntry) (b : Bool) → Contains (filter p xs) e → Contains (cond b (x ∷ filter p xs) (filter p xs)) e
kept_step p x xs e true h = contains_later x (filter p xs) e h
kept_step p x xs e false h = h

-- and what passes is kept
filter_contains : (p : IndexEntry → Bool) (xs : List IndexEntry) (e : IndexEntry) → IsTrue (p e) → Contains xs e → Contains (filter p xs) e
filter_contains p [] e passes (k, less, at) = absurd (omega (arith, less))
filter_contains p (x ∷ xs) e passes h =
    elim (contains_cases x xs e h) [
      | inl same ↦
          let here : p x ≡ true = subst (λ y. p y ≡ true) (sym same) passes in
          rw here (subst (λ y. Contains (x ∷ filter p xs) y) same (contains_first x (filter p xs)))
      | inr later ↦ kept_step p x xs e (p x) (filter_contains p xs e passes later)
    ]

-- what is found are the rows between
pub rows_between_are : (es : Rows) (from to : ℕ) (old new : List RowKey) → IsStrictlySortedBy entry_cmp (keys_of es) → new ≡ old ++ map row_of (filter (is_between from to) (keys_of es)) → AddsRowsBetween (entries_of es) from to old new
rows_between_are es from to old new sorted is =
    let held : (e : IndexEntry) → Contains (keys_of es) e → IsTrue (set.contains (entries_of es) e) = λ e h. set.contains-from_list entry_total (keys_of es) e ∙ list_any-from_Contains (eq_by_cmp_equiv entry_total) e (keys_of es) h in
    let holds : (e : IndexEntry) → IsTrue (set.contains (entries_of es) e) → Contains (keys_of es) e = λ e h. Contains-from_any (tells_apart entry_exact) e (keys_of es) (sym (set.contains-from_list entry_total (keys_of es) e) ∙ h) in
    record {
      between = filter (is_between from to) (keys_of es);
      ascending = IsStrictlySortedBy-filter entry_cmp (is_between from to) (keys_of es) sorted;
      each = λ e. (
        λ h. let r = contains_filter (is_between from to) (keys_of es) e h in (r.0, held e r.1),
        λ h. filter_contains (is_between from to) (keys_of es) e h.0 (holds e h.1),
      );
      added = is;
    }

has_later : (entries : set.FinSet entry_cmp) (from to : ℕ) (es : List IndexEntry) (key : RowKey) → ((e : IndexEntry) → Contains es e → IsTrue (is_between from to e) × IsTrue (set.contains entries e))
    → Contains (map row_of es) key → HasBetween entries from to key
has_later entries from to [] key each (k, less, at) = absurd (omega (arith, less))
has_later entries from to (e ∷ es) key each h =
    elim (contains_cases (row_of e) (map row_of es) key h) [
      | inl same ↦
          let here = each e (contains_first e es) in
          let between : is_between from to e ≡ true = here.0 in
          let lower : from < e.generation = grind (arith, nat_tests, between) in
          let upper : e.generation ≤ to = grind (arith, nat_tests, between) in
          (e.generation, lower, upper, subst (λ k. IsTrue (set.contains entries (entry_of e.generation k))) same here.1)
      | inr later ↦ has_later entries from to es key (λ d held. each d (contains_later e es d held)) later
    ]

contains_row : (es : List IndexEntry) (e : IndexEntry) → Contains es e → Contains (map row_of es) (row_of e)
contains_row [] e (k, less, at) = absurd (omega (arith, less))
contains_row (x ∷ es) e h =
    elim (contains_cases x es e h) [
      | inl same ↦ subst (λ y. Contains (row_of x ∷ map row_of es) (row_of y)) same (contains_first (row_of x) (map row_of es))
      | inr later ↦ contains_later (row_of x) (map row_of es) (row_of e) (contains_row es e later)
    ]

-- a row stands behind the old list just where it has a generation between
pub added_rows : (entries : set.FinSet entry_cmp) (from to : ℕ) (old new : List RowKey) (adds : AddsRowsBetween entries from to old new) (key : RowKey) → Contains (map row_of adds.between) key ↔ HasBetween entries from to key
added_rows entries from to old new adds key = (
  λ h. has_later entries from to adds.between key (λ e. (adds.each e).0) h,
  λ has.
      let between : is_between from to (entry_of has.0 key) ≡ true = grind (arith, nat_tests, has.1, has.2) in
      contains_row adds.between (entry_of has.0 key) ((adds.each (entry_of has.0 key)).1 (between, has.3)),
)

-- from the first entry of a generation on stands what has this one or a later one
first_is : (first : ℕ) (e : IndexEntry) → is_from (first_of first) e ≡ nat_le first e.generation
first_is first e = grind (arith, nat_tests)

pub entries_from_are : (es left : Rows) (first : ℕ) → IsStrictlySortedBy entry_cmp (keys_of es) → left ≡ entries_between entry_cmp (Included (first_of first)) Unbounded es → AreFrom (entries_of es) first (keys_of left)
entries_from_are es left first sorted is =
    let held : (e : IndexEntry) → Contains (keys_of es) e → IsTrue (set.contains (entries_of es) e) = λ e h. set.contains-from_list entry_total (keys_of es) e ∙ list_any-from_Contains (eq_by_cmp_equiv entry_total) e (keys_of es) h in
    let holds : (e : IndexEntry) → IsTrue (set.contains (entries_of es) e) → Contains (keys_of es) e = λ e h. Contains-from_any (tells_apart entry_exact) e (keys_of es) (sym (set.contains-from_list entry_total (keys_of es) e) ∙ h) in
    let kept : keys_of left ≡ filter (is_from (first_of first)) (keys_of es) = ap (λ (l : Rows). keys_of l) is ∙ keys_filter (is_from (first_of first)) es in
    rw kept record {
      ascending = IsStrictlySortedBy-filter entry_cmp (is_from (first_of first)) (keys_of es) sorted;
      each = λ e. (
        λ h. let r = contains_filter (is_from (first_of first)) (keys_of es) e h in (sym (first_is first e) ∙ r.0, held e r.1),
        λ h. filter_contains (is_from (first_of first)) (keys_of es) e (first_is first e ∙ h.0) (holds e h.1),
      );
    }
