-- How a reply to a download is made: few generations, few items, one for each row in order, up to a closed generation, and behind where
-- it begins where there is one.
use Rattle.std.specs.List.{cons_option, fold}
use Rattle.std.specs.List.Sorted.{IsStrictlySortedBy}
use Rattle.std.specs.Map.{keys_of}
use Rattle.std.specs.Prelude.{Bool, List, None, Option, Some, [], cond, count_by, false, filter, filter_map, length, map, nat_le, nat_lt, option_map, refl, true, ℕ, ◌&&◌, ◌+◌, ◌≡◌, ◌≤◌, ◌∷◌}
use Rattle.std.specs.declared.cmp.Ordering.TheVariants.{Less}
use Rattle.std.proofs.Common.{ap, arith, subst, sym, ◌∙◌}
use Rattle.std.proofs.lemmas.Bool.Decides.{nat_tests}
use Rattle.std.proofs.lemmas.List.{length-map}
use Rattle.std.proofs.lemmas.List.Sums.{length-filter, sum_by-cons}
use Rattle.merge_table.proofs.Room.{AreAbove}
use Rattle.merge_table.proofs.Sorted.{sorted_put}
use Rattle.merge_types.specs.Limits.{generation_limit, item_limit}
use Rattle.merge_types.specs.RowKeys.{key_cmp}
use Rattle.merge_types.specs.declared.identifiers.SiteId.{SiteId}
use Rattle.merge_types.specs.declared.row_key.RowKey.{RowKey as Key}
use Rattle.merge_units.specs.declared.site_row.PublisherRow.{PublisherRow}
use Rattle.merge_schema.specs.declared.publication.Publication.{Publication}
use Rattle.merge_batch.specs.declared.refusal.Refusal.TheVariants.{WrongWatermark}
use Rattle.merge_batch.specs.declared.request.Download.{Download}
use Rattle.merge_model.specs.Publisher.Entries as entry
use Rattle.merge_model.specs.Judge.ByHistory.{by_past}
use Rattle.merge_model.specs.History.{History, Past}
use Rattle.merge_model.specs.Judge.{PublisherJudge}
use Rattle.merge_model.specs.Tables.Keys.{has_key, put_row}
use Rattle.merge_model.specs.Publisher.{last_closed, site_refusal}
use Rattle.merge_model.specs.Publisher.PublisherDownload.{TouchedRow, batch_end, download_refusal, inside_keys, is_between, item_of, reply_to, tables_after_download, touched_row, touched_rows}
use Rattle.merge_model.specs.Tables.Refusals.{refused_if}
use Rattle.merge_model.specs.Tables.{PublisherTables}
use Rattle.merge_model.specs.Subscriber.Taking.{key_of_download}
use Rattle.merge_model.specs.World.{World}
use Rattle.merge_model.proofs.Runs.Refusals.{first-none}
use Rattle.merge_model.proofs.Publishers.Sorted.{key_total}
use Rattle.merge_laws.proofs.Received.Sendings.{batch-begin, batch-bound}
use Rattle.merge_laws.proofs.Received.Subscribing.{filling-rises}
use Rattle.merge_laws.proofs.Walking.{here}
use Rattle.merge_honest.specs.SentWell.{ReplyIsMadeWell, ReplyIsWell}
use Rattle.merge_honest.specs.Entered.{EntriesFill}
use Rattle.merge_honest.proofs.Batches.{batch-goes, batch-holds}
use Rattle.merge_honest.proofs.TouchedLines.{touched-few}

-- The rows that a reply goes over ascend.

firsts : (es : List (Key × Unit {0})) → map (λ (e : Key × Unit {0}). e.0) es ≡ keys_of es
firsts [] = refl
firsts (e ∷ es) = ap (λ (ks : List Key). e.0 ∷ ks) (firsts es)

abbrev unit_row : Key × PublisherRow → Key × Unit {0}
unit_row row = (row.0, tt)

row-keys : (rows : List (Key × PublisherRow)) → keys_of (map unit_row rows) ≡ keys_of rows
row-keys [] = refl
row-keys (row ∷ rows) = ap (λ (ks : List Key). row.0 ∷ ks) (row-keys rows)

put-ascends : (keys : List Key) (es : List (Key × Unit {0})) → IsStrictlySortedBy key_cmp (keys_of es) → IsStrictlySortedBy key_cmp (keys_of (fold (λ (others : List (Key × Unit {0})) (key : Key). put_row others key tt) es keys))
put-ascends [] es sorted = sorted
put-ascends (key ∷ keys) es sorted = put-ascends keys (put_row es key tt) (sorted_put key_cmp key_total key tt es sorted)

keys-ascend : (rows : List (Key × PublisherRow)) (keys : List Key) → IsStrictlySortedBy key_cmp (keys_of rows) → IsStrictlySortedBy key_cmp (entry.keys_of rows keys)
keys-ascend rows keys sorted =
    let es : List (Key × Unit {0}) = map unit_row rows in
    subst (IsStrictlySortedBy key_cmp) (sym (firsts (fold (λ (others : List (Key × Unit {0})) (key : Key). put_row others key tt) es keys)))
    (put-ascends keys es (subst (IsStrictlySortedBy key_cmp) (sym (row-keys rows)) sorted))

abbrev keys_touched : List TouchedRow → List Key
keys_touched rows = map (λ (row : TouchedRow). row.key) rows

-- those of them that were touched
above-touched : (k key : Key) (is_in : Bool) (found : Option ℕ) (rows : List TouchedRow) → key_cmp k key ≡ Less → AreAbove key_cmp k (keys_touched rows)
    → AreAbove key_cmp k (keys_touched (cons_option (option_map (λ (generation : ℕ). (let row : TouchedRow = record { key = key; is_in = is_in; generation = generation } in row)) found) rows))
above-touched k key is_in None rows first rest = rest
above-touched k key is_in (Some generation) rows first rest = (first, rest)

ascend-touched : (key : Key) (is_in : Bool) (found : Option ℕ) (rows : List TouchedRow) → AreAbove key_cmp key (keys_touched rows) → IsStrictlySortedBy key_cmp (keys_touched rows)
    → IsStrictlySortedBy key_cmp (keys_touched (cons_option (option_map (λ (generation : ℕ). (let row : TouchedRow = record { key = key; is_in = is_in; generation = generation } in row)) found) rows))
unfolding IsStrictlySortedBy
ascend-touched key is_in None rows above rest = rest
ascend-touched key is_in (Some generation) rows above rest = (above, rest)

module _ (judge : PublisherJudge) (site : SiteId) (inside : List Key) where
  all-above : (k : Key) (keys : List Key) → AreAbove key_cmp k keys → AreAbove key_cmp k (keys_touched (filter_map (touched_row judge site inside) keys))
  all-above k [] above = tt
  all-above k (key ∷ keys) above = above-touched k key (has_key inside key) (judge.touch key site.0 (has_key inside key)) (filter_map (touched_row judge site inside) keys) above.0 (all-above k keys above.1)

  touched-ascend : (keys : List Key) → IsStrictlySortedBy key_cmp keys → IsStrictlySortedBy key_cmp (keys_touched (filter_map (touched_row judge site inside) keys))
  unfolding IsStrictlySortedBy
  touched-ascend [] sorted = tt
  touched-ascend (key ∷ keys) sorted = ascend-touched key (has_key inside key) (judge.touch key site.0 (has_key inside key)) (filter_map (touched_row judge site inside) keys) (all-above key keys sorted.0) (touched-ascend keys sorted.1)

-- and those that are told
module _ (p : PublisherTables) (told : TouchedRow → Bool) where
  abbrev items_keys : List TouchedRow → List Key
  items_keys rows = map key_of_download (map (item_of p) rows)

  above-item : (k : Key) (row : TouchedRow) (rows : List TouchedRow) (b : Bool) → key_cmp k row.key ≡ Less → AreAbove key_cmp k (items_keys rows) → AreAbove key_cmp k (items_keys (cond b (row ∷ rows) rows))
  above-item k row rows true first rest = (first, rest)
  above-item k row rows false first rest = rest

  above-items : (k : Key) (rows : List TouchedRow) → AreAbove key_cmp k (keys_touched rows) → AreAbove key_cmp k (items_keys (filter told rows))
  above-items k [] above = tt
  above-items k (row ∷ rows) above = above-item k row (filter told rows) (told row) above.0 (above-items k rows above.1)

  ascend-item : (row : TouchedRow) (rows : List TouchedRow) (b : Bool) → AreAbove key_cmp row.key (items_keys rows) → IsStrictlySortedBy key_cmp (items_keys rows) → IsStrictlySortedBy key_cmp (items_keys (cond b (row ∷ rows) rows))
  unfolding IsStrictlySortedBy
  ascend-item row rows true above rest = (above, rest)
  ascend-item row rows false above rest = rest

  items-ascend : (rows : List TouchedRow) → IsStrictlySortedBy key_cmp (keys_touched rows) → IsStrictlySortedBy key_cmp (items_keys (filter told rows))
  unfolding IsStrictlySortedBy
  items-ascend [] sorted = tt
  items-ascend (row ∷ rows) sorted = ascend-item row (filter told rows) (told row) (above-items row.key rows sorted.0) (items-ascend rows sorted.1)

-- No row is told where the reply ends where it begins.

none-here : (from g n : ℕ) → n ≡ 0 → cond (nat_lt from g && nat_le g from) 1 0 + n ≡ 0
none-here from g n none = grind (arith, nat_tests, none)

none-between : (from : ℕ) (rows : List TouchedRow) → count_by (is_between from from) rows ≡ 0
none-between from [] = refl
none-between from (row ∷ rows) = sum_by-cons (λ (x : TouchedRow). cond (is_between from from x) 1 0) row rows ∙ none-here from row.generation (count_by (is_between from from) rows) (none-between from rows)

pub reply-made : (publication : Publication) (judge : PublisherJudge) (m : Download) (p : PublisherTables) → IsStrictlySortedBy key_cmp (keys_of p.rows) → m.from ≤ last_closed p → count_by (is_between m.from (m.from + 1)) (touched_rows publication judge m.site p) ≤ item_limit
    → ReplyIsMadeWell (reply_to publication judge m p)
reply-made publication judge m p sorted low next =
    let inside : List Key = inside_keys publication m.site p in
    let keys : List Key = entry.keys_of p.rows (judge.moved_rows m.site.0) in
    let rows : List TouchedRow = touched_rows publication judge m.site p in
    let items : ℕ → ℕ = λ (to : ℕ). count_by (is_between m.from to) rows in
    let to : ℕ = batch_end items m.from (last_closed p) in
    let few : items to ≤ item_limit = batch-holds (λ (k : ℕ). items k ≤ item_limit) items m.from (last_closed p) (let none = none-between m.from rows in omega (arith, none)) (λ k above up last is. grind (arith, nat_tests, is)) in
    let count : length (map (item_of p) (filter (is_between m.from to) rows)) ≡ items to = length-map (filter (is_between m.from to) rows) (item_of p) ∙ length-filter (is_between m.from to) rows in
    record {
      onward = batch-begin items m.from (last_closed p);
      closed = batch-bound items m.from (last_closed p) low;
      goes = λ more. batch-goes items m.from (last_closed p) more next;
      few_generations = batch-holds (λ (k : ℕ). k ≤ m.from + generation_limit) items m.from (last_closed p) (omega arith) (λ k above up last is. up);
      few_items = omega (arith, few, count);
      ascend = items-ascend p (is_between m.from to) rows (touched-ascend judge m.site inside keys (keys-ascend p.rows (judge.moved_rows m.site.0) sorted));
    }

-- The reply that the publisher makes.
below-last : (last from : ℕ) (b : Bool) → nat_lt last from ≡ b → b ≡ false → from ≤ last
below-last last from b is none = grind (arith, nat_tests, is, none)

pub told-well : (publication : Publication) (w : World) (h : History) (incoming : List (Key × Past)) (m : Download) → IsStrictlySortedBy key_cmp (keys_of w.publisher.rows) → EntriesFill w h → download_refusal publication w.moment m w.publisher ≡ None
    → (let q : PublisherTables = tables_after_download m (here w) in ReplyIsWell q (reply_to publication (by_past h incoming) m q))
told-well publication w h incoming m sorted fill fine =
    let judge : PublisherJudge = by_past h incoming in
    let q : PublisherTables = tables_after_download m (here w) in
    let all = first-none (site_refusal publication m.site m.seq w.moment w.publisher) _ fine in
    let mark = first-none (refused_if (nat_lt (last_closed w.publisher) m.from) (WrongWatermark m.from (last_closed w.publisher))) _ all.1 in
    let none = mark.0 in
    let low : m.from ≤ last_closed w.publisher = grind (arith, nat_tests, none) in
    let rise = filling-rises w.publisher.gens.filling in
    let touched = touched-few h judge m.site (inside_keys publication m.site q) (λ key is_in. refl) m.from (entry.keys_of q.rows (judge.moved_rows m.site.0)) (keys-ascend q.rows (judge.moved_rows m.site.0) sorted) in
    let few = fill.few (m.from + 1) in
    record { last = omega arith; made = reply-made publication judge m q sorted (omega (arith, low, rise)) (omega (arith, touched, few)) }
