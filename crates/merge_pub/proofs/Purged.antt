-- What follows where rows go that don't live.
use Rattle.std.specs.Prelude.{◌≡◌, ◌==◌, ◌&&◌, ◌||◌, ◌+◌, ℕ, List, [], ◌∷◌, Bool, true, false, not, Option, Some, None, refl, cond, count_by, filter, length, map, option_map}
use Rattle.std.specs.FinSet as set
use Rattle.std.specs.List.{AllByRecursion, cons_option, list_any}
use Rattle.std.specs.List.Sorted.{IsStrictlySortedBy}
use Rattle.std.specs.Map.{keys_of}
use Rattle.std.specs.Ordering.{eq_by_cmp}
use Rattle.std.specs.declared.cmp.Ordering.TheVariants.{Less}
use Rattle.std.proofs.Common.{arith, sym, ap, ◌∙◌}
use Rattle.std.proofs.lemmas.Bool.Decides.{nat_tests}
use Rattle.std.proofs.lemmas.Map.Keys.{sorted_tail}
use Rattle.merge_types.specs.RowKeys.{key_cmp, key_exact}
use Rattle.merge_types.specs.declared.row_key.RowKey.{RowKey as Key}
use Rattle.merge_types.specs.declared.values.Value.{Value}
use Rattle.merge_table.specs.Edits.{takes_of}
use Rattle.merge_table.specs.declared.edit.Edit.{Edit}
use Rattle.merge_table.specs.declared.edit.Edit.TheVariants.{Take}
use Rattle.merge_table.proofs.Puts.{found-filter, kept}
use Rattle.merge_units.specs.Version.{is_live}
use Rattle.merge_units.specs.declared.site_row.PublisherRow.{PublisherRow}
use Rattle.merge_units.specs.declared.version.Body.{Body}
use Rattle.merge_units.specs.declared.version.Body.TheVariants.{Dead, Live}
use Rattle.merge_gens.specs.Entries.{entry_cmp, entry_of}
use Rattle.merge_gens.specs.Index.{entries_after_all}
use Rattle.merge_gens.specs.Moves.{row_site_cmp}
use Rattle.merge_gens.specs.declared.index.IndexEntry.{IndexEntry}
use Rattle.merge_gens.specs.declared.moves.Mapping.{Mapping}
use Rattle.merge_gens.specs.declared.moves.RowSite.{RowSite}
use Rattle.merge_gens.proofs.EntryLists.{entry_total}
use Rattle.merge_schema.specs.declared.publication.Publication.{Publication}
use Rattle.merge_model.specs.Tables.Keys.{row_at, same_key}
use Rattle.merge_model.specs.Tables.{PublisherTables}
use Rattle.merge_model.proofs.Lists.KeyLookUps.{key-test, none-behind}
use Rattle.merge_model.proofs.Lists.{all-filter}
use Rattle.merge_model.proofs.Publishers.Sorted.{key_total}
use Rattle.merge_steps.specs.Indexed.{AreIndexed, is_changed}
use Rattle.merge_steps.specs.Keeps.{KeepsRules, RowFits}
use Rattle.merge_steps.specs.LiveRows.{live_pair, live_pairs, values_in}
use Rattle.merge_steps.specs.Purging.{gone_entries, gone_entry, take_entry}
use Rattle.merge_steps.specs.Working.{AreApart, places_of}
use Rattle.merge_pub.proofs.BatchCounts.{count-cons}
use Rattle.merge_steps.proofs.MovesApart.{sorted-apart}

-- How many go.

takes-step : {K V : Type 0} (goes : K × V → Bool) (row : K × V) (rest : List (Edit K V)) (n : ℕ) (b : Bool) → length rest ≡ n → length (let edits : List (Edit K V) = cond (not b) rest (Take row.0 ∷ rest) in edits) ≡ cond b 1 0 + n
takes-step goes row rest n true same = grind (arith, same)
takes-step goes row rest n false same = grind (arith, same)

pub takes-count : {K V : Type 0} (goes : K × V → Bool) (rows : List (K × V)) → length (takes_of (λ (row : K × V). not (goes row)) rows) ≡ count_by goes rows
takes-count goes [] = refl
takes-count {K = K} {V = V} goes (row ∷ rows) =
    takes-step goes row (takes_of (λ (r : K × V). not (goes r)) rows) (count_by goes rows) (goes row) (takes-count goes rows) ∙ sym (count-cons goes row rows)

-- The live rows stay.

body-none : (body : Body) → is_live body ≡ false → values_in body ≡ None
body-none (Dead top) is = refl
body-none (Live cells) is = absurd cc

live-step : (b : Bool) (row : Key × PublisherRow) (rest more : List (Key × PublisherRow)) → live_pairs rest ≡ live_pairs more → (b ≡ false → live_pair row ≡ None) → live_pairs (let kept : List (Key × PublisherRow) = cond b (row ∷ rest) rest in kept) ≡ live_pairs (row ∷ more)
live-step true row rest more same dead = ap (λ (pairs : List (Key × List Value)). cons_option (live_pair row) pairs) same
live-step false row rest more same dead = same ∙ sym (ap (λ (pair : Option (Key × List Value)). cons_option pair (live_pairs more)) (dead refl))

pub live-kept : (keep : Key × PublisherRow → Bool) → ((row : Key × PublisherRow) → keep row ≡ false → is_live row.1.version.body ≡ false) → (rows : List (Key × PublisherRow)) → live_pairs (filter keep rows) ≡ live_pairs rows
live-kept keep dead [] = refl
live-kept keep dead (row ∷ rows) = live-step (keep row) row (filter keep rows) rows (live-kept keep dead rows)
    (λ gone. ap (λ (values : Option (List Value)). option_map (λ (vs : List Value). (row.0, vs)) values) (body-none row.1.version.body (dead row gone)))

-- The index follows.

entry-same : (k key : Key) (g h : ℕ) → eq_by_cmp entry_cmp (entry_of g k) (entry_of h key) ≡ ((g == h) && same_key k key)
entry-same k key g h = grind (arith, nat_tests)

not-or : (a b c : Bool) → (not b && (not a && c)) ≡ (not (a || b) && c)
not-or true true c = refl
not-or true false c = refl
not-or false true c = refl
not-or false false c = refl

pub takes-contain : (goes : List (Key × PublisherRow)) (entries : set.FinSet entry_cmp) (e : IndexEntry)
    → set.contains (entries_after_all entries (map take_entry goes)) e ≡ (not (list_any (λ (row : Key × PublisherRow). eq_by_cmp entry_cmp e (gone_entry row)) goes) && set.contains entries e)
takes-contain [] entries e = refl
takes-contain (row ∷ goes) entries e =
    takes-contain goes (set.remove entries (gone_entry row)) e
    ∙ ap (λ (b : Bool). not (list_any (λ (r : Key × PublisherRow). eq_by_cmp entry_cmp e (gone_entry r)) goes) && b) (set.contains-remove entry_total entries (gone_entry row) e)
    ∙ not-or (eq_by_cmp entry_cmp e (gone_entry row)) (list_any (λ (r : Key × PublisherRow). eq_by_cmp entry_cmp e (gone_entry r)) goes) (set.contains entries e)

-- whether a row goes that changed in a generation
abbrev goes_in : (Key × PublisherRow → Bool) → Key → ℕ → Option PublisherRow → Bool
goes_in goes k g None = false
goes_in goes k g (Some row) = goes (k, row) && (row.changed == g)

turned : (g h : ℕ) → (g == h) ≡ (h == g)
turned g h = grind (arith, nat_tests)

any-head : (e : IndexEntry) (b : Bool) (row : Key × PublisherRow) (rest : List (Key × PublisherRow)) → list_any (λ (r : Key × PublisherRow). eq_by_cmp entry_cmp e (gone_entry r)) (let kept : List (Key × PublisherRow) = cond b (row ∷ rest) rest in kept)
    ≡ ((b && eq_by_cmp entry_cmp e (gone_entry row)) || list_any (λ (r : Key × PublisherRow). eq_by_cmp entry_cmp e (gone_entry r)) rest)
any-head e true row rest = refl
any-head e false row rest = refl

any-step : (goes : Key × PublisherRow → Bool) (k : Key) (g : ℕ) (row : Key × PublisherRow) (rows : List (Key × PublisherRow)) (same : Bool) → same_key k row.0 ≡ same → (same ≡ true → row_at rows k ≡ None) → (same ≡ true → goes row ≡ goes (k, row.1))
    → list_any (λ (r : Key × PublisherRow). eq_by_cmp entry_cmp (entry_of g k) (gone_entry r)) (filter goes rows) ≡ goes_in goes k g (row_at rows k)
    → ((goes row && eq_by_cmp entry_cmp (entry_of g k) (gone_entry row)) || list_any (λ (r : Key × PublisherRow). eq_by_cmp entry_cmp (entry_of g k) (gone_entry r)) (filter goes rows))
    ≡ goes_in goes k g (let found : Option PublisherRow = cond same (Some row.1) (row_at rows k) in found)
any-step goes k g row rows true is none own rest =
    ap (λ (b : Bool). (goes row && eq_by_cmp entry_cmp (entry_of g k) (gone_entry row)) || b) (rest ∙ ap (goes_in goes k g) (none refl))
    ∙ ap (λ (b : Bool). (goes row && b) || false) (entry-same k row.0 g row.1.changed ∙ ap (λ (b : Bool). (g == row.1.changed) && b) is ∙ ap (λ (b : Bool). b && true) (turned g row.1.changed))
    ∙ ap (λ (b : Bool). (b && ((row.1.changed == g) && true)) || false) (own refl)
    ∙ plain (goes (k, row.1)) (row.1.changed == g)
  where
    plain : (a b : Bool) → ((a && (b && true)) || false) ≡ (a && b)
    plain true true = refl
    plain true false = refl
    plain false b = refl
any-step goes k g row rows false is none own rest =
    ap (λ (b : Bool). (goes row && b) || list_any (λ (r : Key × PublisherRow). eq_by_cmp entry_cmp (entry_of g k) (gone_entry r)) (filter goes rows)) (entry-same k row.0 g row.1.changed ∙ ap (λ (b : Bool). (g == row.1.changed) && b) is)
    ∙ plain (goes row) (g == row.1.changed) (list_any (λ (r : Key × PublisherRow). eq_by_cmp entry_cmp (entry_of g k) (gone_entry r)) (filter goes rows))
    ∙ rest
  where
    plain : (a b c : Bool) → ((a && (b && false)) || c) ≡ c
    plain true true c = refl
    plain true false c = refl
    plain false b c = refl

any-gone : (goes : Key × PublisherRow → Bool) (k : Key) (g : ℕ) (rows : List (Key × PublisherRow)) → IsStrictlySortedBy key_cmp (keys_of rows)
    → list_any (λ (r : Key × PublisherRow). eq_by_cmp entry_cmp (entry_of g k) (gone_entry r)) (filter goes rows) ≡ goes_in goes k g (row_at rows k)
any-gone goes k g [] sorted = refl
any-gone goes k g (row ∷ rows) sorted =
    any-head (entry_of g k) (goes row) row (filter goes rows)
    ∙ any-step goes k g row rows (same_key k row.0) refl (λ same. none-behind k row rows sorted (key-test k row.0 ∙ same)) (λ same. ap (λ (x : Key). goes (x, row.1)) (sym (own same))) (any-gone goes k g rows (sorted_tail key_cmp row.0 (keys_of rows) sorted))
    ∙ ap (λ (b : Bool). goes_in goes k g (let found : Option PublisherRow = cond b (Some row.1) (row_at rows k) in found)) (sym (key-test k row.0))
  where
    own : same_key k row.0 ≡ true → k ≡ row.0
    own same = key_exact k row.0 (grind (arith, nat_tests, same))

left-changed : (goes : Key × PublisherRow → Bool) (k : Key) (g : ℕ) (found : Option PublisherRow) → (not (goes_in goes k g found) && is_changed found g) ≡ is_changed (kept key_cmp key_total key_exact (λ (row : Key × PublisherRow). not (goes row)) k found) g
left-changed goes k g None = refl
left-changed goes k g (Some row) = by (goes (k, row)) (row.changed == g) refl
  where
    by : (a b : Bool) → (row.changed == g) ≡ b → (not (a && b) && b) ≡ is_changed (let left : Option PublisherRow = cond (not a) (Some row) None in left) g
    by true true e = refl
    by true false e = refl
    by false true e = sym e
    by false false e = sym e

pub index-kept : (goes : Key × PublisherRow → Bool) (rows : List (Key × PublisherRow)) (entries : set.FinSet entry_cmp) → IsStrictlySortedBy key_cmp (keys_of rows) → AreIndexed rows entries
    → AreIndexed (filter (λ (row : Key × PublisherRow). not (goes row)) rows) (entries_after_all entries (gone_entries goes rows))
unfolding AreIndexed
index-kept goes rows entries sorted indexed = λ k g.
    takes-contain (filter goes rows) entries (entry_of g k)
    ∙ ap (λ (b : Bool). not b && set.contains entries (entry_of g k)) (any-gone goes k g rows sorted)
    ∙ ap (λ (b : Bool). not (goes_in goes k g (row_at rows k)) && b) (indexed k g)
    ∙ left-changed goes k g (row_at rows k)
    ∙ sym (ap (λ (o : Option PublisherRow). is_changed o g) (found-filter key_cmp key_total key_exact (λ (row : Key × PublisherRow). not (goes row)) k rows sorted))

-- The mappings that go are at distinct places.

above-step : (p : RowSite) (entry : RowSite × Mapping) (edits : List (Edit RowSite Mapping)) (b : Bool) → row_site_cmp p entry.0 ≡ Less → AllByRecursion (λ (q : RowSite). row_site_cmp p q ≡ Less) (places_of edits)
    → AllByRecursion (λ (q : RowSite). row_site_cmp p q ≡ Less) (places_of (let all : List (Edit RowSite Mapping) = cond b edits (Take entry.0 ∷ edits) in all))
above-step p entry edits true less all = all
above-step p entry edits false less all = (less, all)

takes-above : (p : RowSite) (keep : RowSite × Mapping → Bool) (mappings : List (RowSite × Mapping)) → AllByRecursion (λ (q : RowSite). row_site_cmp p q ≡ Less) (keys_of mappings) → AllByRecursion (λ (q : RowSite). row_site_cmp p q ≡ Less) (places_of (takes_of keep mappings))
takes-above p keep [] all = tt
takes-above p keep (entry ∷ mappings) all = above-step p entry (takes_of keep mappings) (keep entry) all.0 (takes-above p keep mappings all.1)

sorted-step : (entry : RowSite × Mapping) (edits : List (Edit RowSite Mapping)) (b : Bool) → AllByRecursion (λ (q : RowSite). row_site_cmp entry.0 q ≡ Less) (places_of edits) → IsStrictlySortedBy row_site_cmp (places_of edits)
    → IsStrictlySortedBy row_site_cmp (places_of (let all : List (Edit RowSite Mapping) = cond b edits (Take entry.0 ∷ edits) in all))
unfolding IsStrictlySortedBy
sorted-step entry edits true above sorted = sorted
sorted-step entry edits false above sorted = (above, sorted)

takes-sorted : (keep : RowSite × Mapping → Bool) (mappings : List (RowSite × Mapping)) → IsStrictlySortedBy row_site_cmp (keys_of mappings) → IsStrictlySortedBy row_site_cmp (places_of (takes_of keep mappings))
unfolding IsStrictlySortedBy
takes-sorted keep [] sorted = tt
takes-sorted keep (entry ∷ mappings) sorted = sorted-step entry (takes_of keep mappings) (keep entry) (takes-above entry.0 keep mappings sorted.0) (takes-sorted keep mappings sorted.1)

pub takes-of-apart : (keep : RowSite × Mapping → Bool) (mappings : List (RowSite × Mapping)) → IsStrictlySortedBy row_site_cmp (keys_of mappings) → AreApart (places_of (takes_of keep mappings))
takes-of-apart keep mappings sorted = sorted-apart (places_of (takes_of keep mappings)) (takes-sorted keep mappings sorted)

-- What is kept of the rules.
pub purge-keeps : (publication : Publication) (p : PublisherTables) (keep : Key × PublisherRow → Bool) → KeepsRules publication p → KeepsRules publication (record p { rows = filter keep p.rows })
purge-keeps publication p keep keeps = record {
  rows = all-filter (RowFits publication p.changes) keep p.rows keeps.rows;
  rising = keeps.rising;
  conflicts = keeps.conflicts;
  held = keeps.held;
  heard = keeps.heard;
}
