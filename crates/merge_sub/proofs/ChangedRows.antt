-- The rows that keep a generation of an interval: found by generation, and what is sent of them.
use Rattle.std.specs.BTreeMap.{is_at}
use Rattle.std.specs.FinSet as set
use Rattle.std.specs.List.{AllByRecursion, Contains, cons_option, last_or, list_any}
use Rattle.std.specs.List.Sorted.{IsStrictlySortedBy}
use Rattle.std.specs.Map.{keys_of}
use Rattle.std.specs.Option.{option_and_then}
use Rattle.std.specs.Prelude.{◌≡◌, ◌==◌, ◌&&◌, ◌||◌, ◌<◌, ◌≤◌, ◌↔◌, ◌+◌, ◌-◌, ◌++◌, ℕ, suc, Bool, true, false, List, [], ◌∷◌, IsTrue, None, Option, Some, cond, filter, filter_map, is_some, length, drop, map, nat_le, nat_lt, option_map, refl}
use Rattle.std.proofs.Common.{ap, arith, subst, sym, ◌∙◌}
use Rattle.std.proofs.lemmas.Bool.Decides.{nat_tests}
use Rattle.std.proofs.lemmas.Cmp.{eq_by_cmp_equiv}
use Rattle.std.proofs.lemmas.List.{append-nil, append_assoc}
use Rattle.std.proofs.lemmas.Map.Made.{is_some-lookup}
use Rattle.std.proofs.lemmas.Map.Views.{Contains-from_any, list_any-from_Contains}
use Rattle.merge_types.specs.RowKeys.{key_cmp, key_exact}
use Rattle.merge_types.specs.declared.row_key.RowKey.{RowKey}
use Rattle.merge_table.proofs.Given.{same-given}
use Rattle.merge_units.specs.declared.site_row.SubscriberRow.{SubscriberRow}
use Rattle.merge_units.specs.declared.version.Version.{Version}
use Rattle.merge_gens.specs.Entries.{entry_cmp, entry_of, row_of}
use Rattle.merge_gens.specs.Index.{AddsRowsBetween, HasBetween}
use Rattle.merge_gens.proofs.RowLists.{added_rows}
use Rattle.merge_schema.proofs.ListMembers.{any_at, any_found}
use Rattle.merge_batch.specs.declared.request.UploadItem.{UploadItem}
use Rattle.merge_model.specs.Judge.ByNumbers.{changed_between_by_rows, changed_row_between, last_between}
use Rattle.merge_model.specs.Tables.Keys.{row_at}
use Rattle.merge_model.specs.Subscriber.Sending.{upload_item}
use Rattle.merge_model.specs.Tables.{SubscriberTables}
use Rattle.merge_model.proofs.Lists.KeyLookUps.{keys-exact}
use Rattle.merge_model.proofs.Lists.{any-same}
use Rattle.merge_model.proofs.Publishers.Sorted.{key_total}
use Rattle.merge_sub.proofs.Anewly.{AreFound, rows-found}
use Rattle.merge_sub.specs.Held.{AreIndexed, entry_behind, keeps, kept_by}
use Rattle.merge_sub.specs.Sent.{AreChanged, AreKeeping, is_in, item_at, item_of, keeps_in, row_item}

abbrev Rows : Type 0
Rows = List (RowKey × SubscriberRow)

-- A row is found between just where it keeps a generation between.

pub same-bool : (a b : Bool) → (a ≡ true → b ≡ true) → (b ≡ true → a ≡ true) → a ≡ b
same-bool true b there back = sym (there refl)
same-bool false true there back = back refl
same-bool false false there back = refl

pub has-kept : (row : Option SubscriberRow) (first end generation : ℕ) → first ≤ generation → generation < end → keeps row generation ≡ true → keeps_in first end row ≡ true
has-kept row first end generation above below keep =
    let found = any_found (λ (kept : ℕ). kept == generation) (kept_by row) keep in
    let same : found.0 ≡ generation = (let is = found.2 in grind (arith, nat_tests, is)) in
    any_at (is_in first end) (kept_by row) found.0 found.1 (grind (arith, nat_tests, same, above, below))

kept-has : (row : Option SubscriberRow) (first end : ℕ) → keeps_in first end row ≡ true → (generation : ℕ) × (first ≤ generation) × (generation < end) × (keeps row generation ≡ true)
kept-has row first end has =
    let found = any_found (is_in first end) (kept_by row) has in
    let inside = found.2 in
    (found.0, grind (arith, nat_tests, inside), grind (arith, nat_tests, inside), any_at (λ (kept : ℕ). kept == found.0) (kept_by row) found.0 found.1 (grind (arith, nat_tests)))

-- a number behind one is that behind a generation
found-kept : (rows : Rows) (entries : set.FinSet entry_cmp) → AreIndexed rows entries → (first end : ℕ) (key : RowKey) → HasBetween entries first end key → keeps_in first end (row_at rows key) ≡ true
unfolding AreIndexed
found-kept rows entries indexed first end key (number, above, below, found) =
    let at : number ≡ (number - 1) + 1 = omega (arith, above) in
    let there : IsTrue (set.contains entries (entry_behind (number - 1) key)) = subst (λ (n : ℕ). IsTrue (set.contains entries (entry_of n key))) at found in
    has-kept (row_at rows key) first end (number - 1) (omega (arith, above)) (omega (arith, above, below)) (sym (indexed key (number - 1)) ∙ there)

kept-found : (rows : Rows) (entries : set.FinSet entry_cmp) → AreIndexed rows entries → (first end : ℕ) (key : RowKey) → keeps_in first end (row_at rows key) ≡ true → HasBetween entries first end key
unfolding AreIndexed
kept-found rows entries indexed first end key has =
    let found = kept-has (row_at rows key) first end has in
    (found.0 + 1, omega (arith, found.1), omega (arith, found.2), indexed key found.0 ∙ found.3)

keeping-each : (rows : Rows) (entries : set.FinSet entry_cmp) → AreIndexed rows entries → (first end : ℕ) (added : List RowKey) → AddsRowsBetween entries first end [] added
    → (keys : List RowKey) → ((key : RowKey) → Contains keys key ↔ Contains added key) → (key : RowKey) → list_any (is_at (key_cmp key)) keys ≡ keeps_in first end (row_at rows key)
keeping-each rows entries indexed first end added adds keys same key =
    let between = added_rows entries first end [] added adds key in
    same-bool (list_any (is_at (key_cmp key)) keys) (keeps_in first end (row_at rows key))
    (λ there.
    let inside : Contains (map row_of adds.between) key = subst (λ (ks : List RowKey). Contains ks key) adds.added ((same key).0 (Contains-from_any keys-exact key keys there)) in
    found-kept rows entries indexed first end key (between.0 inside))
    (λ has.
    let inside : Contains (map row_of adds.between) key = between.1 (kept-found rows entries indexed first end key has) in
    list_any-from_Contains (eq_by_cmp_equiv key_total) key keys ((same key).1 (subst (λ (ks : List RowKey). Contains ks key) (sym adds.added) inside)))

-- What is sent of the rows that are found is what is sent of all.

some-stays : (last : ℕ) (generations : List ℕ) → is_some (last_or (Some last) generations) ≡ true
some-stays last [] = refl
some-stays last (generation ∷ generations) = some-stays generation generations

last-step : (test : ℕ → Bool) (x : ℕ) (xs : List ℕ) (passes : Bool) → is_some (last_or None (filter test xs)) ≡ list_any test xs
    → is_some (last_or None (let kept : List ℕ = cond passes (x ∷ filter test xs) (filter test xs) in kept)) ≡ (passes || list_any test xs)
last-step test x xs true more = some-stays x (filter test xs)
last-step test x xs false more = more

pub last-kept : (test : ℕ → Bool) (xs : List ℕ) → is_some (last_or None (filter test xs)) ≡ list_any test xs
last-kept test [] = refl
last-kept test (x ∷ xs) = last-step test x xs (test x) (last-kept test xs)

mapped-some : {A B : Type 0} (f : A → B) (o : Option A) → is_some (option_map f o) ≡ is_some o
mapped-some f None = refl
mapped-some f (Some a) = refl

abbrev pub is_inside : ℕ → ℕ → ℕ → Bool
is_inside from to generation = nat_lt from generation && nat_le generation to

pub inside-in : (from to generation : ℕ) → is_inside from to generation ≡ is_in (from + 1) (to + 1) generation
inside-in from to generation = grind (arith, nat_tests)

-- an item is sent of just the rows that keep a generation between
item-there : (from to : ℕ) (key : RowKey) (row : Option SubscriberRow) → is_some (option_and_then (item_of from to key) row) ≡ keeps_in (from + 1) (to + 1) row
item-there from to key None = refl
item-there from to key (Some row) =
    mapped-some (row_item key row) (last_between from to row.generations)
    ∙ last-kept (is_inside from to) row.generations
    ∙ any-same (is_inside from to) (is_in (from + 1) (to + 1)) (inside-in from to) row.generations

abbrev item_with : RowKey → ℕ → Option Version → Option UploadItem
item_with key generation version = option_map (λ (version : Version). record { article = key.article; row = key.row; generation = generation; version = version }) version

item-step : (s : SubscriberTables) (from to : ℕ) (row : RowKey × SubscriberRow) (rows : Rows) (last : Option ℕ) → last_between from to row.1.generations ≡ last → row_at s.rows row.0 ≡ Some row.1
    → filter_map (upload_item s) (filter_map (changed_row_between from to) rows) ≡ filter_map (item_at s.rows from to) (keys_of rows)
    → filter_map (upload_item s) (cons_option (option_map (λ (generation : ℕ). (row.0, generation)) last) (filter_map (changed_row_between from to) rows)) ≡ cons_option (option_map (row_item row.0 row.1) last) (filter_map (item_at s.rows from to) (keys_of rows))
item-step s from to row rows None is found more = more
item-step s from to row rows (Some generation) is found more =
    ap (λ (o : Option SubscriberRow). (let item : Option UploadItem = item_with row.0 generation (option_map (λ (r : SubscriberRow). r.version) o) in cons_option item (filter_map (upload_item s) (filter_map (changed_row_between from to) rows)))) found
    ∙ ap (λ (items : List UploadItem). row_item row.0 row.1 generation ∷ items) more

pub items-sent : (s : SubscriberTables) (from to : ℕ) (rows : Rows) → AreFound s.rows rows → filter_map (upload_item s) (filter_map (changed_row_between from to) rows) ≡ filter_map (item_at s.rows from to) (keys_of rows)
items-sent s from to [] found = refl
items-sent s from to (row ∷ rows) found =
    item-step s from to row rows (last_between from to row.1.generations) refl found.0 (items-sent s from to rows found.1)
    ∙ ap (λ (o : Option SubscriberRow). cons_option (option_and_then (item_of from to row.0) o) (filter_map (item_at s.rows from to) (keys_of rows))) (sym found.0)

count-step : (from to : ℕ) (row : RowKey × SubscriberRow) (last : Option ℕ) (entries : List (RowKey × ℕ)) (items : List UploadItem) → length entries ≡ length items
    → length (cons_option (option_map (λ (generation : ℕ). (row.0, generation)) last) entries) ≡ length (cons_option (option_map (row_item row.0 row.1) last) items)
count-step from to row None entries items same = same
count-step from to row (Some generation) entries items same = ap (λ (n : ℕ). suc n) same

pub items-counted : (all : Rows) (from to : ℕ) (rows : Rows) → AreFound all rows → length (filter_map (changed_row_between from to) rows) ≡ length (filter_map (item_at all from to) (keys_of rows))
items-counted all from to [] found = refl
items-counted all from to (row ∷ rows) found =
    count-step from to row (last_between from to row.1.generations) (filter_map (changed_row_between from to) rows) (filter_map (item_at all from to) (keys_of rows)) (items-counted all from to rows found.1)
    ∙ ap (λ (o : Option SubscriberRow). length (cons_option (option_and_then (item_of from to row.0) o) (filter_map (item_at all from to) (keys_of rows)))) (sym found.0)

-- each key of a list is among its keys
or-right : (a b : Bool) → b ≡ true → (a || b) ≡ true
or-right true b is = refl
or-right false b is = is

among-more : (x : RowKey) (xs sub : List RowKey) → AllByRecursion (λ (key : RowKey). list_any (is_at (key_cmp key)) xs ≡ true) sub → AllByRecursion (λ (key : RowKey). list_any (is_at (key_cmp key)) (x ∷ xs) ≡ true) sub
among-more x xs [] all = tt
among-more x xs (key ∷ sub) all = (or-right (is_at (key_cmp key) x) (list_any (is_at (key_cmp key)) xs) all.0, among-more x xs sub all.1)

all-among : (keys : List RowKey) → AllByRecursion (λ (key : RowKey). list_any (is_at (key_cmp key)) keys ≡ true) keys
all-among [] = tt
all-among (key ∷ keys) =
    (ap (λ (b : Bool). b || list_any (is_at (key_cmp key)) keys) ((eq_by_cmp_equiv key_total).refl key), among-more key keys keys (all-among keys))

all-have : (rows : Rows) (from to : ℕ) (all keys : List RowKey) → AreChanged rows from to all → AllByRecursion (λ (key : RowKey). list_any (is_at (key_cmp key)) all ≡ true) keys
    → AllByRecursion (λ (key : RowKey). is_some (item_at rows from to key) ≡ true) keys
all-have rows from to all [] changed among = tt
all-have rows from to all (key ∷ keys) changed among =
    (item-there from to key (row_at rows key) ∙ sym (changed.each key) ∙ among.0, all-have rows from to all keys changed among.1)

given-step : {Y : Type 0} (y : Option Y) (rest : List Y) (n : ℕ) → is_some y ≡ true → length rest ≡ n → length (cons_option y rest) ≡ suc n
given-step None rest n some same = absurd cc
given-step (Some y) rest n some same = ap (λ (m : ℕ). suc m) same

all-given : {X Y : Type 0} (f : X → Option Y) (xs : List X) → AllByRecursion (λ (x : X). is_some (f x) ≡ true) xs → length (filter_map f xs) ≡ length xs
all-given f [] all = refl
all-given f (x ∷ xs) all = given-step (f x) (filter_map f xs) (length xs) all.0 (all-given f xs all.1)

pub has-row : (first end : ℕ) (row : Option SubscriberRow) → keeps_in first end row ≡ true → is_some row ≡ true
has-row first end None has = absurd cc
has-row first end (Some row) has = refl

sent-of-all : (rows : Rows) (from to : ℕ) (keys : List RowKey) → AreChanged rows from to keys → filter_map (item_at rows from to) (keys_of rows) ≡ filter_map (item_at rows from to) keys
sent-of-all rows from to keys changed =
    same-given key_cmp key_total key_exact (item_at rows from to) (keys_of rows) keys changed.ordered changed.ascending
    (λ key some.
    let has : keeps_in (from + 1) (to + 1) (row_at rows key) ≡ true = sym (item-there from to key (row_at rows key)) ∙ some in
    sym (is_some-lookup (is_at (key_cmp key)) rows) ∙ has-row (from + 1) (to + 1) (row_at rows key) has ∙ sym (changed.each key ∙ has))

-- the rows that were changed between, and what is sent of them
pub sent-items : (s : SubscriberTables) (from to : ℕ) (keys : List RowKey) → AreChanged s.rows from to keys → filter_map (upload_item s) (changed_between_by_rows s from to) ≡ filter_map (item_at s.rows from to) keys
sent-items s from to keys changed = items-sent s from to s.rows (rows-found s.rows changed.ordered) ∙ sent-of-all s.rows from to keys changed

pub all-sent : (rows : Rows) (from to : ℕ) (keys : List RowKey) → AreChanged rows from to keys → (items : List UploadItem) → items ≡ filter_map (item_at rows from to) keys → items ≡ filter_map (item_at rows from to) (keys_of rows)
all-sent rows from to keys changed items is = is ∙ sym (sent-of-all rows from to keys changed)

fewer-step : {Y : Type 0} (y : Option Y) (rest : List Y) (n : ℕ) → length rest ≤ n → length (cons_option y rest) ≤ suc n
fewer-step None rest n less = omega (arith, less)
fewer-step (Some y) rest n less = omega (arith, less)

no-more : (f : RowKey → Option UploadItem) (rows : Rows) → length (filter_map f (keys_of rows)) ≤ length rows
no-more f [] = omega arith
no-more f (row ∷ rows) = fewer-step (f row.0) (filter_map f (keys_of rows)) (length rows) (no-more f rows)

-- no more is sent than there are rows
pub sent-below : (rows : Rows) (from to most : ℕ) (items : List UploadItem) → items ≡ filter_map (item_at rows from to) (keys_of rows) → length rows < most → length items < most
sent-below rows from to most items is few =
    let same : length items ≡ length (filter_map (item_at rows from to) (keys_of rows)) = ap (λ (l : List UploadItem). length l) is in
    let less = no-more (item_at rows from to) rows in
    omega (arith, same, less, few)

pub sent-count : (rows : Rows) (from to : ℕ) (keys : List RowKey) → AreChanged rows from to keys → length (filter_map (changed_row_between from to) rows) ≡ length keys
sent-count rows from to keys changed =
    items-counted rows from to rows (rows-found rows changed.ordered)
    ∙ ap (λ (items : List UploadItem). length items) (sent-of-all rows from to keys changed)
    ∙ all-given (item_at rows from to) keys (all-have rows from to keys keys changed (all-among keys))

-- The later a batch ends, the more rows it has.

wider : (from a b : ℕ) → a ≤ b → (generations : List ℕ) → is_some (last_between from a generations) ≡ true → is_some (last_between from b generations) ≡ true
wider from a b less generations some =
    let found = any_found (is_inside from a) generations (sym (last-kept (is_inside from a) generations) ∙ some) in
    let inside = found.2 in
    last-kept (is_inside from b) generations ∙ any_at (is_inside from b) generations found.0 found.1 (grind (arith, nat_tests, inside, less))

rise-step : (key : RowKey) (x y : Option ℕ) (xs ys : List (RowKey × ℕ)) → (is_some x ≡ true → is_some y ≡ true) → length xs ≤ length ys
    → length (cons_option (option_map (λ (generation : ℕ). (key, generation)) x) xs) ≤ length (cons_option (option_map (λ (generation : ℕ). (key, generation)) y) ys)
rise-step key None None xs ys there less = less
rise-step key None (Some b) xs ys there less = omega (arith, less)
rise-step key (Some a) None xs ys there less = let no : false ≡ true = there refl in absurd cc
rise-step key (Some a) (Some b) xs ys there less = omega (arith, less)

pub count-rises : (rows : Rows) (from a b : ℕ) → a ≤ b → length (filter_map (changed_row_between from a) rows) ≤ length (filter_map (changed_row_between from b) rows)
count-rises [] from a b less = omega arith
count-rises (row ∷ rows) from a b less =
    rise-step row.0 (last_between from a row.1.generations) (last_between from b row.1.generations) (filter_map (changed_row_between from a) rows) (filter_map (changed_row_between from b) rows)
    (wider from a b less row.1.generations) (count-rises rows from a b less)

-- what an index finds
pub keeping_rows : (rows : Rows) (entries : set.FinSet entry_cmp) → AreIndexed rows entries → IsStrictlySortedBy key_cmp (keys_of rows) → (first end : ℕ) (old added : List RowKey) → old ≡ [] → AddsRowsBetween entries first end old added
    → (keys : List RowKey) → IsStrictlySortedBy key_cmp keys → ((key : RowKey) → Contains keys key ↔ Contains added key) → AreKeeping rows first end keys
keeping_rows rows entries indexed ordered first end old added none adds keys ascending same = record {
  ordered = ordered;
  ascending = ascending;
  each = keeping-each rows entries indexed first end added (subst (λ (o : List RowKey). AddsRowsBetween entries first end o added) none adds) keys same;
}

-- The items of rows, one after the other.

added-step : (items rest : List UploadItem) (item : Option UploadItem) → (items ++ cons_option item []) ++ rest ≡ items ++ cons_option item rest
added-step items rest None = ap (λ (front : List UploadItem). front ++ rest) (append-nil items)
added-step items rest (Some item) = append_assoc items (item ∷ []) rest

pub items-added : (f : RowKey → Option UploadItem) (keys : List RowKey) (index : ℕ) (key : RowKey) → drop index keys ≡ key ∷ drop (index + 1) keys → (items next : List UploadItem) → next ≡ items ++ cons_option (f key) []
    → (all : List UploadItem) → items ++ filter_map f (drop index keys) ≡ all → next ++ filter_map f (drop (index + 1) keys) ≡ all
items-added f keys index key split items next is all so_far =
    ap (λ (front : List UploadItem). front ++ filter_map f (drop (index + 1) keys)) is
    ∙ added-step items (filter_map f (drop (index + 1) keys)) (f key)
    ∙ ap (λ (rest : List RowKey). items ++ filter_map f rest) (sym split)
    ∙ so_far
