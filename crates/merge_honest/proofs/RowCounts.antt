-- How many rows a step leaves, how many entries it makes, and how many generations close by it.
use Rattle.std.specs.BTreeMap.{insert_entry}
use Rattle.std.specs.List.{cons_option, fold, zip}
use Rattle.std.specs.List.Sorted.{IsStrictlySortedBy}
use Rattle.std.specs.Map.{keys_of, values_of}
use Rattle.std.specs.Ordering.{match_ordering, nat_cmp}
use Rattle.std.specs.Prelude.{Bool, List, None, Option, Some, [], cond, count_by, false, filter_map, flat_map, if◌then◌else◌, is_some, length, map, not, option_map, refl, suc, sum_by, true, unwrap_or, ℕ, ◌*◌, ◌+◌, ◌<◌, ◌≡◌, ◌≤◌, ◌∷◌}
use Rattle.std.specs.declared.cmp.Ordering.{Ordering}
use Rattle.std.specs.declared.cmp.Ordering.TheVariants.{Equal, Greater, Less}
use Rattle.std.proofs.Common.{ap, arith, length-append, sym, ◌∙◌}
use Rattle.std.proofs.lemmas.List.{length-map}
use Rattle.std.proofs.lemmas.List.Sums.{sum_by-cons}
use Rattle.std.proofs.lemmas.Map.Entries.{sum_by-insert_entry}
use Rattle.merge_table.proofs.Sorted.{sorted_put}
use Rattle.merge_types.specs.Limits.{counter_limit, entry_limit, item_limit, rows_limit}
use Rattle.merge_types.specs.RowKeys.{key_cmp}
use Rattle.merge_types.specs.declared.row_key.RowKey.{RowKey as Key}
use Rattle.merge_units.specs.declared.site_row.PublisherRow.{PublisherRow}
use Rattle.merge_units.specs.declared.version.Version.{Version}
use Rattle.merge_schema.specs.declared.publication.Publication.{Publication}
use Rattle.merge_schema.specs.declared.publication.Subscription.{Subscription}
use Rattle.merge_model.specs.Publisher.Entries as entry
use Rattle.merge_model.specs.Publisher.Entries.{Changing, Entries, Parts, Touched, changed_by, changing_entries, entry_count, move_at, parts_of, partition_keys, rows_after, touched_by, with_rows}
use Rattle.merge_model.specs.Judge.{PublisherJudge}
use Rattle.merge_model.specs.Tables.Keys.{put_number, put_row, row_at, same_key}
use Rattle.merge_model.specs.Tables.Publications.{by_site}
use Rattle.merge_model.specs.Publisher.{last_closed}
use Rattle.merge_model.specs.Tables.{PublisherTables}
use Rattle.merge_model.proofs.Lists.KeyLookUps.{row-put}
use Rattle.merge_model.proofs.Publishers.Sorted.{key_total}
use Rattle.merge_honest.specs.Bounded.{closing_limit}
use Rattle.merge_honest.proofs.EntriesFill.{all-counted, step_moves}

-- One entry more at most.
pub put-short : {K V : Type 0} (cmp : K → K → Ordering) (key : K) (value : V) (entries : List (K × V)) → length (insert_entry cmp entries key value) ≤ length entries + 1
put-short cmp key value [] = omega arith
put-short cmp key value (entry ∷ entries) =
    let rest = put-short cmp key value entries in
    elim (cmp key entry.0) as (λ order. length (match_ordering order ((key, value) ∷ entry ∷ entries) ((entry.0, value) ∷ entries) (entry ∷ insert_entry cmp entries key value)) ≤ length (entry ∷ entries) + 1) [
      | Less ↦ omega arith
      | Equal ↦ omega arith
      | Greater ↦ omega (arith, rest)
    ]

-- Counts of lists.

count-cons : {X : Type 0} (test : X → Bool) (x : X) (xs : List X) → count_by test (x ∷ xs) ≡ cond (test x) 1 0 + count_by test xs
count-cons test x xs = sum_by-cons (λ (y : _). cond (test y) 1 0) x xs

more-here : (a b : Bool) (n m : ℕ) → (a ≡ true → b ≡ true) → n ≤ m → cond a 1 0 + n ≤ cond b 1 0 + m
more-here true true n m same up = omega (arith, up)
more-here true false n m same up = absurd (let no : false ≡ true = same refl in cc)
more-here false true n m same up = omega (arith, up)
more-here false false n m same up = omega (arith, up)

count-more : {X : Type 0} (a b : X → Bool) → ((x : X) → a x ≡ true → b x ≡ true) → (xs : List X) → count_by a xs ≤ count_by b xs
count-more a b each [] = omega arith
count-more a b each (x ∷ xs) =
    let first = count-cons a x xs in
    let second = count-cons b x xs in
    let step = more-here (a x) (b x) (count_by a xs) (count_by b xs) (each x) (count-more a b each xs) in
    omega (arith, first, second, step)

pub given-short : {X Y : Type 0} (f : X → Option Y) (xs : List X) → length (filter_map f xs) ≤ length xs
given-short f [] = omega arith
given-short {Y = Y} f (x ∷ xs) = step (f x) (filter_map f xs) (length xs) (given-short f xs)
  where
    step : (found : Option Y) (ys : List Y) (n : ℕ) → length ys ≤ n → length (cons_option found ys) ≤ suc n
    step None ys n up = omega (arith, up)
    step (Some y) ys n up = omega (arith, up)

-- each piece has at most 63
flat-short : {X Y : Type 0} (f : X → List Y) → ((x : X) → length (f x) ≤ 63) → (xs : List X) → length (flat_map f xs) ≤ length xs * 63
flat-short f each [] = omega arith
flat-short f each (x ∷ xs) =
    let first = each x in
    let rest = flat-short f each xs in
    let all = length-append (f x) (flat_map f xs) in
    omega (arith, first, rest, all)

-- Rows that are put: one that was not held makes one more.

ones : (rows : List PublisherRow) → sum_by (λ (row : PublisherRow). 1) rows ≡ length rows
ones [] = refl
ones (row ∷ rows) = (let first = sum_by-cons (λ (x : PublisherRow). 1) row rows in let rest = ones rows in omega (arith, first, rest))

values-many : (rows : List (Key × PublisherRow)) → length (values_of rows) ≡ length rows
values-many [] = refl
values-many (row ∷ rows) = (let rest = values-many rows in omega (arith, rest))

held-one : (found : Option PublisherRow) → (let counted : ℕ = unwrap_or (option_map (λ (row : PublisherRow). 1) found) 0 in let one : ℕ = cond (is_some found) 1 0 in counted ≡ one)
held-one None = refl
held-one (Some row) = refl

put-many : (rows : List (Key × PublisherRow)) (key : Key) (row : PublisherRow) → IsStrictlySortedBy key_cmp (keys_of rows) → length (put_row rows key row) + cond (is_some (row_at rows key)) 1 0 ≡ length rows + 1
put-many rows key row sorted =
    let all = sum_by-insert_entry (λ (x : PublisherRow). 1) key_total rows key row sorted in
    let after = ones (values_of (put_row rows key row)) in
    let before = ones (values_of rows) in
    let after-all = values-many (put_row rows key row) in
    let before-all = values-many rows in
    let held = held-one (row_at rows key) in
    omega (arith, all, after, before, after-all, before-all, held)

-- a row that is not held
abbrev pub is_fresh : List (Key × PublisherRow) → Key → Bool
is_fresh rows key = not (is_some (row_at rows key))

fresh-by : (b : Bool) (row : PublisherRow) (found : Option PublisherRow) → not (is_some (let after : Option PublisherRow = if b then Some row else found in after)) ≡ true → not (is_some found) ≡ true
fresh-by true row found is = absurd cc
fresh-by false row found is = is

fresh-before : (rows : List (Key × PublisherRow)) (key : Key) (row : PublisherRow) (q : Key) → is_fresh (put_row rows key row) q ≡ true → is_fresh rows q ≡ true
fresh-before rows key row q is = fresh-by (same_key q key) row (row_at rows q) (ap (λ (found : Option PublisherRow). not (is_some found)) (sym (row-put rows key row q)) ∙ is)

one-held : (b : Bool) (n m : ℕ) → n + cond b 1 0 ≡ m + 1 → n ≤ m + cond (not b) 1 0
one-held true n m is = omega (arith, is)
one-held false n m is = omega (arith, is)

rows-grow : (changed : List ((Key × Version) × ℕ)) (rows : List (Key × PublisherRow)) → IsStrictlySortedBy key_cmp (keys_of rows) → length (with_rows rows changed) ≤ length rows + count_by (λ (x : (Key × Version) × ℕ). is_fresh rows x.0.0) changed
rows-grow [] rows sorted = omega arith
rows-grow (x ∷ changed) rows sorted =
    let row : PublisherRow = record { version = x.0.1; changed = x.1 } in
    let after : List (Key × PublisherRow) = put_row rows x.0.0 row in
    let rest = rows-grow changed after (sorted_put key_cmp key_total x.0.0 row rows sorted) in
    let fewer = count-more (λ (y : (Key × Version) × ℕ). is_fresh after y.0.0) (λ (y : (Key × Version) × ℕ). is_fresh rows y.0.0) (λ y is. fresh-before rows x.0.0 row y.0.0 is) changed in
    let one = one-held (is_some (row_at rows x.0.0)) (length after) (length rows) (put-many rows x.0.0 row sorted) in
    let all = count-cons (λ (y : (Key × Version) × ℕ). is_fresh rows y.0.0) x changed in
    omega (arith, rest, fewer, one, all)

rows-ascend : (changed : List ((Key × Version) × ℕ)) (rows : List (Key × PublisherRow)) → IsStrictlySortedBy key_cmp (keys_of rows) → IsStrictlySortedBy key_cmp (keys_of (with_rows rows changed))
rows-ascend [] rows sorted = sorted
rows-ascend (x ∷ changed) rows sorted = let row : PublisherRow = record { version = x.0.1; changed = x.1 } in rows-ascend changed (put_row rows x.0.0 row) (sorted_put key_cmp key_total x.0.0 row rows sorted)

numbered-few : (test : Key → Bool) (versions : List (Key × Version)) (generations : List ℕ) → count_by (λ (x : (Key × Version) × ℕ). test x.0.0) (zip versions generations) ≤ count_by (λ (v : Key × Version). test v.0) versions
numbered-few test [] generations = omega arith
numbered-few test (v ∷ versions) [] = omega arith
numbered-few test (v ∷ versions) (generation ∷ generations) =
    let first = count-cons (λ (x : (Key × Version) × ℕ). test x.0.0) (v, generation) (zip versions generations) in
    let second = count-cons (λ (x : Key × Version). test x.0) v versions in
    let rest = numbered-few test versions generations in
    let same : cond (test v.0) 1 0 ≤ cond (test v.0) 1 0 = omega arith in
    omega (arith, first, second, rest, same)

rows-short : (changed : List ((Key × Version) × ℕ)) (rows : List (Key × PublisherRow)) → length (with_rows rows changed) ≤ length rows + length changed
rows-short [] rows = omega arith
rows-short (x ∷ changed) rows =
    let row : PublisherRow = record { version = x.0.1; changed = x.1 } in
    let one = put-short key_cmp x.0.0 row rows in
    let rest = rows-short changed (put_row rows x.0.0 row) in
    omega (arith, one, rest)

keys-short : (keys : List Key) (entries : List (Key × Unit {0})) → length (fold (λ (others : List (Key × Unit {0})) (key : Key). put_row others key tt) entries keys) ≤ length entries + length keys
keys-short [] entries = omega arith
keys-short (key ∷ keys) entries =
    let one = put-short key_cmp key tt entries in
    let rest = keys-short keys (put_row entries key tt) in
    omega (arith, one, rest)

all-keys-short : (rows : List (Key × PublisherRow)) (acted : List Key) → length (entry.keys_of rows acted) ≤ length rows + length acted
all-keys-short rows acted =
    let entries : List (Key × Unit {0}) = map (λ (row : Key × PublisherRow). (row.0, tt)) rows in
    let few = keys-short acted entries in
    let keyed : Key × PublisherRow → Key × Unit {0} = λ (row : Key × PublisherRow). (row.0, tt) in
    let all = length-map rows keyed in
    let keys = length-map (fold (λ (others : List (Key × Unit {0})) (key : Key). put_row others key tt) entries acted) (λ (e : Key × Unit {0}). e.0) in
    omega (arith, few, all, keys)

-- The subscriptions by site are no more than there are.
sites-short : (subscriptions : List Subscription) (entries : List (ℕ × Subscription)) → length (fold (λ (others : List (ℕ × Subscription)) (s : Subscription). put_number others s.site.0 s) entries subscriptions) ≤ length entries + length subscriptions
sites-short [] entries = omega arith
sites-short (s ∷ subscriptions) entries =
    let one = put-short nat_cmp s.site.0 s entries in
    let rest = sites-short subscriptions (put_number entries s.site.0 s) in
    omega (arith, one, rest)

-- The entries of a step.
module _ (publication : Publication) (few : length publication.subscriptions ≤ 63) (judge : PublisherJudge) (changing : Changing) (p : PublisherTables) where
  abbrev parts : List Parts
  parts = parts_of publication p.rows (rows_after changing p.rows)

  parts-few : length parts ≤ 63
  parts-few =
      let sites = sites-short publication.subscriptions [] in
      let all = length-map (by_site publication) (λ (s : ℕ × Subscription). (let part : Parts = record { site = s.0; before = partition_keys publication s.1 p.rows; after = partition_keys publication s.1 (rows_after changing p.rows) } in part)) in
      omega (arith, sites, all, few)

  pub moves-few : length (step_moves publication judge changing p) ≤ (length p.rows + length changing.versions + length changing.acted) * 63
  moves-few =
      let touched : Touched = touched_by changing in
      let rows : List (Key × PublisherRow) = rows_after changing p.rows in
      let keys : List Key = entry.keys_of rows changing.acted in
      let flat = flat-short (λ (key : Key). filter_map (move_at touched key) parts) (λ key. (let given = given-short (move_at touched key) parts in let most = parts-few in omega (arith, given, most))) keys in
      let all = all-keys-short rows changing.acted in
      let more = rows-short (map (λ (row : Key × Version). (row, 0)) changing.versions) p.rows in
      let versions = length-map changing.versions (λ (row : Key × Version). (let x : (Key × Version) × ℕ = (row, 0) in x)) in
      omega (arith, flat, all, more, versions)

  entries-few : length p.rows ≤ rows_limit → length changing.versions ≤ item_limit → length changing.acted ≤ item_limit → entry_count (changing_entries publication judge changing p) ≤ 12_854_000
  entries-few rows versions acted =
      let counted = all-counted publication judge changing p in
      let moves = moves-few in
      let keys = length-map changing.versions (λ (row : Key × Version). row.0) in
      omega (arith, rows, versions, acted, counted, moves, keys)

  pub closings-few : length p.rows ≤ rows_limit → length changing.versions ≤ item_limit → length changing.acted ≤ item_limit → p.gens.filling.filled < entry_limit → last_closed p < counter_limit
      → last_closed (changed_by publication judge changing p) ≤ counter_limit + closing_limit
  closings-few rows versions acted low closed = (let entries = entries-few rows versions acted in omega (arith, entries, low, closed))

  pub rows-after : IsStrictlySortedBy key_cmp (keys_of p.rows) → length (changed_by publication judge changing p).rows ≤ length p.rows + count_by (λ (v : Key × Version). is_fresh p.rows v.0) changing.versions
  rows-after sorted =
      let entries : Entries = changing_entries publication judge changing p in
      let generations : List ℕ = map (λ (e : Key × ℕ). e.1) entries.changed in
      let grow = rows-grow (zip changing.versions generations) p.rows sorted in
      let numbered = numbered-few (is_fresh p.rows) changing.versions generations in
      omega (arith, grow, numbered)

  pub ascends-after : IsStrictlySortedBy key_cmp (keys_of p.rows) → IsStrictlySortedBy key_cmp (keys_of (changed_by publication judge changing p).rows)
  ascends-after sorted =
      let entries : Entries = changing_entries publication judge changing p in
      rows-ascend (zip changing.versions (map (λ (e : Key × ℕ). e.1) entries.changed)) p.rows sorted
