-- What is held beside the rows follows them: the live rows of a membership, and the index by generation.
use Rattle.std.specs.Prelude.{◌≡◌, ◌==◌, ◌&&◌, ◌||◌, ◌+◌, ◌≤◌, ℕ, zero, suc, List, [], ◌∷◌, Bool, true, false, not, Option, Some, None, refl, cond, filter, filter_map, map, option_map, unwrap_or, min, nat_le, ◌-◌}
use Rattle.std.specs.BTreeMap.{insert_entry, is_at}
use Rattle.std.specs.Cmp.{IsTotalOrder, then_total, on_total, nat_cmp_total, Equal-is}
use Rattle.std.specs.FinSet as set
use Rattle.std.specs.List.{AllByRecursion, cons_option, last_or, range_with_len}
use Rattle.std.specs.List.Sorted.{IsStrictlySortedBy}
use Rattle.std.specs.Map.{keys_of, lookup, remove_entry}
use Rattle.std.specs.Ordering.{eq_by_cmp, is_eq, match_ordering, nat_cmp}
use Rattle.std.specs.declared.cmp.Ordering.{Ordering}
use Rattle.std.specs.declared.cmp.Ordering.TheVariants.{Equal, Greater, Less}
use Rattle.std.proofs.Common.{arith, sym, ap, ◌∙◌, subst}
use Rattle.std.proofs.lemmas.Bool.Decides.{nat_tests}
use Rattle.merge_types.specs.declared.identifiers.RowId.{RowId}
use Rattle.merge_types.specs.declared.values.Value.{Value}
use Rattle.merge_units.specs.declared.version.Body.{Body}
use Rattle.merge_units.specs.declared.version.Body.TheVariants.{Dead, Live}
use Rattle.merge_table.proofs.LookUps.{lookup-insert_entry}
use Rattle.merge_table.proofs.Room.{AreAbove, all_above, rest_above}
use Rattle.std.proofs.lemmas.Map.Keys.{sorted_tail}
use Rattle.merge_table.specs.declared.edit.Edit.TheVariants.{Put, Take}
use Rattle.merge_gens.specs.Entries.{entry_cmp, entry_of}
use Rattle.merge_gens.specs.Index.{entries_after_all}
use Rattle.merge_gens.specs.declared.index.IndexEntry.{IndexEntry}
use Rattle.merge_part.specs.Live.{Live as LiveList, live_rows as listed, live_with}
use Rattle.merge_model.specs.Publisher.Entries.{live_row, live_rows}
use Rattle.merge_steps.specs.Indexed.{AreIndexed, is_changed}
use Rattle.merge_types.specs.RowKeys.{key_cmp, key_exact}
use Rattle.merge_model.specs.Tables.Keys.{put_row, row_at, same_key}
use Rattle.merge_steps.specs.LiveRows.{live_pair, live_pairs, values_in}
use Rattle.merge_types.specs.declared.row_key.RowKey.{RowKey as Key}
use Rattle.merge_units.specs.declared.site_row.PublisherRow.{PublisherRow}
use Rattle.merge_model.proofs.Publishers.Sorted.{key_total}
use Rattle.merge_model.proofs.Lists.KeyLookUps.{keys-same}

-- The live rows as pairs are the live rows.

one-listed : (key : Key) (body : Body) (rest : LiveList) → listed (cons_option (option_map (λ (values : List Value). (key, values)) (values_in body)) rest) ≡ cons_option (live_row key body) (listed rest)
one-listed key (Dead top) rest = refl
one-listed key (Live cells) rest = refl

pub pairs-listed : (rows : List (Key × PublisherRow)) → listed (live_pairs rows) ≡ live_rows rows
pairs-listed [] = refl
pairs-listed (row ∷ rows) = one-listed row.0 row.1.version.body (live_pairs rows) ∙ ap (λ (xs : List _). cons_option (live_row row.0 row.1.version.body) xs) (pairs-listed rows)

-- A row that is put.

-- the live pairs of rows above a key are above it
above-pairs : (key : Key) (rows : List (Key × PublisherRow)) → AreAbove key_cmp key (keys_of rows) → AreAbove key_cmp key (keys_of (live_pairs rows))
above-pairs key [] above = tt
above-pairs key (row ∷ rows) above = by (values_in row.1.version.body) (above-pairs key rows above.1)
  where
    by : (values : Option (List Value)) → AreAbove key_cmp key (keys_of (live_pairs rows)) → AreAbove key_cmp key (keys_of (cons_option (option_map (λ (vs : List Value). (row.0, vs)) values) (live_pairs rows)))
    by None rest = rest
    by (Some vs) rest = (above.0, rest)

-- below all keys, what is put comes first, and nothing is taken
with-above : (key : Key) (values : Option (List Value)) (live : LiveList) → AreAbove key_cmp key (keys_of live) → live_with live key values ≡ cons_option (option_map (λ (vs : List Value). (key, vs)) values) live
with-above key None [] above = refl
with-above key None (e ∷ live) above =
    let less : is_at (key_cmp key) e.0 ≡ false = ap (λ (r : Ordering). is_eq r) above.0 in
    ap (λ (b : Bool). (let left : LiveList = cond b live (e ∷ remove_entry (is_at (key_cmp key)) live) in left)) less ∙ ap (λ (rest : LiveList). e ∷ rest) (with-above key None live above.1)
with-above key (Some vs) [] above = refl
with-above key (Some vs) (e ∷ live) above = ap (λ (r : Ordering). (let new : LiveList = match_ordering r ((key, vs) ∷ e ∷ live) ((e.0, vs) ∷ live) (e ∷ insert_entry key_cmp live key vs) in new)) above.0

-- with a pair in front that is below it
with-behind : (key k : Key) (values found : Option (List Value)) (live : LiveList) → key_cmp key k ≡ Greater
    → live_with (cons_option (option_map (λ (vs : List Value). (k, vs)) found) live) key values ≡ cons_option (option_map (λ (vs : List Value). (k, vs)) found) (live_with live key values)
with-behind key k values None live greater = refl
with-behind key k None (Some ws) live greater =
    let other : is_at (key_cmp key) k ≡ false = ap (λ (r : Ordering). is_eq r) greater in
    ap (λ (b : Bool). (let left : LiveList = cond b live ((k, ws) ∷ remove_entry (is_at (key_cmp key)) live) in left)) other
with-behind key k (Some vs) (Some ws) live greater = ap (λ (r : Ordering). (let new : LiveList = match_ordering r ((key, vs) ∷ (k, ws) ∷ live) ((k, vs) ∷ live) ((k, ws) ∷ insert_entry key_cmp live key vs) in new)) greater

-- with its own pair in front
with-own : (key k : Key) (values found : Option (List Value)) (live : LiveList) → key_cmp key k ≡ Equal → AreAbove key_cmp key (keys_of live)
    → live_with (cons_option (option_map (λ (vs : List Value). (k, vs)) found) live) key values ≡ cons_option (option_map (λ (vs : List Value). (k, vs)) values) live
with-own key k values None live equal above = with-above key values live above ∙ ap (λ (x : Key). cons_option (option_map (λ (vs : List Value). (x, vs)) values) live) (key_exact key k equal)
with-own key k None (Some ws) live equal above =
    let at : is_at (key_cmp key) k ≡ true = ap (λ (r : Ordering). is_eq r) equal in
    ap (λ (b : Bool). (let left : LiveList = cond b live ((k, ws) ∷ remove_entry (is_at (key_cmp key)) live) in left)) at
with-own key k (Some vs) (Some ws) live equal above = ap (λ (r : Ordering). (let new : LiveList = match_ordering r ((key, vs) ∷ (k, ws) ∷ live) ((k, vs) ∷ live) ((k, ws) ∷ insert_entry key_cmp live key vs) in new)) equal

follows-step : (key : Key) (row : PublisherRow) (e : Key × PublisherRow) (rows : List (Key × PublisherRow)) (r : Ordering) → key_cmp key e.0 ≡ r → IsStrictlySortedBy key_cmp (keys_of (e ∷ rows))
    → live_with (live_pairs rows) key (values_in row.version.body) ≡ live_pairs (put_row rows key row)
    → live_with (live_pairs (e ∷ rows)) key (values_in row.version.body) ≡ live_pairs (match_ordering r ((key, row) ∷ e ∷ rows) ((e.0, row) ∷ rows) (e ∷ put_row rows key row))
follows-step key row e rows Less is sorted more = with-above key (values_in row.version.body) (live_pairs (e ∷ rows)) (above-pairs key (e ∷ rows) (all_above key_cmp key_total key e.0 (keys_of rows) sorted is))
follows-step key row e rows Equal is sorted more =
    with-own key e.0 (values_in row.version.body) (values_in e.1.version.body) (live_pairs rows) is (above-pairs key rows (rest_above key_cmp key_total key e.0 (keys_of rows) sorted is))
follows-step key row e rows Greater is sorted more =
    with-behind key e.0 (values_in row.version.body) (values_in e.1.version.body) (live_pairs rows) is
    ∙ ap (λ (live : LiveList). cons_option (live_pair e) live) more

-- a membership's rows after a row is put are the live rows then
pub live-follows : (key : Key) (row : PublisherRow) (rows : List (Key × PublisherRow)) → IsStrictlySortedBy key_cmp (keys_of rows)
    → live_with (live_pairs rows) key (values_in row.version.body) ≡ live_pairs (put_row rows key row)
live-follows key row [] sorted = with-above key (values_in row.version.body) [] tt
live-follows key row (e ∷ rows) sorted = follows-step key row e rows (key_cmp key e.0) refl sorted (live-follows key row rows (sorted_tail key_cmp e.0 (keys_of rows) sorted))

-- The index.

entry_total : IsTotalOrder entry_cmp
entry_total = then_total (on_total (λ (e : IndexEntry). e.generation) nat_cmp_total) (on_total (λ (e : IndexEntry). e.key) key_total)

abbrev pub entry_at : Key → ℕ → IndexEntry
entry_at key generation = entry_of generation key

entry-is : (k key : Key) (g h : ℕ) → eq_by_cmp entry_cmp (entry_at k g) (entry_at key h) ≡ ((g == h) && same_key k key)
entry-is k key g h = grind (arith, nat_tests)

key-is : (k key : Key) → is_at (key_cmp k) key ≡ same_key k key
key-is k key = grind (arith, nat_tests)

pub row-put : (rows : List (Key × PublisherRow)) (key : Key) (row : PublisherRow) (k : Key) → row_at (put_row rows key row) k ≡ cond (same_key k key) (Some row) (row_at rows k)
row-put rows key row k = lookup-insert_entry key_cmp key_total key k row rows ∙ ap (λ (b : Bool). (let found : Option PublisherRow = cond b (Some row) (row_at rows k) in found)) (key-is k key)

put-entry : (k key : Key) (g h : ℕ) (s : set.FinSet entry_cmp) → set.contains (set.insert s (entry_at key h)) (entry_at k g) ≡ (((g == h) && same_key k key) || set.contains s (entry_at k g))
put-entry k key g h s = set.contains-insert entry_total s (entry_at key h) (entry_at k g) ∙ ap (λ (b : Bool). b || set.contains s (entry_at k g)) (entry-is k key g h)

take-entry : (k key : Key) (g h : ℕ) (s : set.FinSet entry_cmp) → set.contains (set.remove s (entry_at key h)) (entry_at k g) ≡ (not ((g == h) && same_key k key) && set.contains s (entry_at k g))
take-entry k key g h s = set.contains-remove entry_total s (entry_at key h) (entry_at k g) ∙ ap (λ (b : Bool). not b && set.contains s (entry_at k g)) (entry-is k key g h)

-- a row that was not held
new-test : (same : Bool) (g h : ℕ) (found : Option PublisherRow) (row : PublisherRow) → row.changed ≡ h → (same ≡ true → found ≡ None) → (((g == h) && same) || is_changed found g) ≡ is_changed (let o : Option PublisherRow = cond same (Some row) found in o) g
new-test true g h found row is none = rw (none refl, is) (turned (g == h) (h == g) (grind (arith, nat_tests)))
  where
    turned : (a b : Bool) → a ≡ b → ((a && true) || false) ≡ b
    turned true b e = e
    turned false b e = e
new-test false g h found row is none = plain (g == h) (is_changed found g)
  where
    plain : (a b : Bool) → ((a && false) || b) ≡ b
    plain true b = refl
    plain false b = refl

pub new-indexed : (rows : List (Key × PublisherRow)) (entries : set.FinSet entry_cmp) (key : Key) (row : PublisherRow) → row_at rows key ≡ None → AreIndexed rows entries
    → AreIndexed (put_row rows key row) (entries_after_all entries (Put (entry_at key row.changed) tt ∷ []))
unfolding AreIndexed
new-indexed rows entries key row none indexed = λ k g.
    put-entry k key g row.changed entries
    ∙ ap (λ (b : Bool). ((g == row.changed) && same_key k key) || b) (indexed k g)
    ∙ new-test (same_key k key) g row.changed (row_at rows k) row refl (λ same. ap (row_at rows) (keys-same k key same) ∙ none)
    ∙ sym (ap (λ (o : Option PublisherRow). is_changed o g) (row-put rows key row k))

-- a row that was held
changed-test : (same : Bool) (g h old : ℕ) (found : Option PublisherRow) (row was : PublisherRow) → row.changed ≡ h → was.changed ≡ old → (same ≡ true → found ≡ Some was)
    → (((g == h) && same) || (not ((g == old) && same) && is_changed found g)) ≡ is_changed (let o : Option PublisherRow = cond same (Some row) found in o) g
changed-test true g h old found row was is then found_is = rw (found_is refl, is, then) (turned (g == h) (h == g) (g == old) (old == g) (grind (arith, nat_tests)) (grind (arith, nat_tests)))
  where
    turned : (a b c d : Bool) → a ≡ b → c ≡ d → ((a && true) || (not (c && true) && d)) ≡ b
    turned true b c d e f = e
    turned false b true d e f = e
    turned false b false d e f = sym f ∙ e
changed-test false g h old found row was is then found_is = plain (g == h) (g == old) (is_changed found g)
  where
    plain : (a c b : Bool) → ((a && false) || (not (c && false) && b)) ≡ b
    plain true true b = refl
    plain true false b = refl
    plain false true b = refl
    plain false false b = refl

pub changed-indexed : (rows : List (Key × PublisherRow)) (entries : set.FinSet entry_cmp) (key : Key) (row was : PublisherRow) → row_at rows key ≡ Some was → AreIndexed rows entries
    → AreIndexed (put_row rows key row) (entries_after_all entries (Take (entry_at key was.changed) ∷ Put (entry_at key row.changed) tt ∷ []))
unfolding AreIndexed
changed-indexed rows entries key row was held indexed = λ k g.
    put-entry k key g row.changed (set.remove entries (entry_at key was.changed))
    ∙ ap (λ (b : Bool). ((g == row.changed) && same_key k key) || b) (take-entry k key g was.changed entries)
    ∙ ap (λ (b : Bool). ((g == row.changed) && same_key k key) || (not ((g == was.changed) && same_key k key) && b)) (indexed k g)
    ∙ changed-test (same_key k key) g row.changed was.changed (row_at rows k) row was refl refl (λ same. ap (row_at rows) (keys-same k key same) ∙ held)
    ∙ sym (ap (λ (o : Option PublisherRow). is_changed o g) (row-put rows key row k))
