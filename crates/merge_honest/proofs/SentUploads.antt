-- How an upload is made: few generations, few items, one for each row in order, each in a generation of the upload.
use Rattle.std.specs.List.{AllByRecursion, cons_option, fold}
use Rattle.std.specs.List.Sorted.{IsStrictlySortedBy}
use Rattle.std.specs.Map.{keys_of}
use Rattle.std.specs.Prelude.{Bool, List, None, Option, Some, [], cond, false, filter, filter_map, length, map, max, nat_le, option_map, refl, true, unwrap_or, ℕ, ◌+◌, ◌<◌, ◌≡◌, ◌≤◌, ◌∷◌}
use Rattle.std.specs.declared.cmp.Ordering.TheVariants.{Equal, Less}
use Rattle.std.proofs.Common.{ap, arith, subst, sym, ◌∙◌}
use Rattle.std.proofs.lemmas.Bool.Decides.{nat_tests}
use Rattle.merge_table.proofs.Room.{AreAbove}
use Rattle.merge_table.proofs.Sorted.{sorted_put}
use Rattle.merge_types.specs.Limits.{generation_limit, item_limit}
use Rattle.merge_types.specs.RowKeys.{key_cmp}
use Rattle.merge_types.specs.declared.row_key.RowKey.{RowKey as Key}
use Rattle.merge_units.specs.declared.version.Version.{Version}
use Rattle.merge_batch.specs.declared.request.Upload.{Upload}
use Rattle.merge_batch.specs.declared.request.UploadItem.{UploadItem}
use Rattle.merge_model.specs.Publisher.Acts.{key_of_item}
use Rattle.merge_model.specs.Judge.ByHistory.{by_made, changed_between_by_made, is_between_made, with_change_of}
use Rattle.merge_model.specs.History.{History, MadeChange, made_at}
use Rattle.merge_model.specs.Tables.Keys.{put_row, row_at}
use Rattle.merge_model.specs.Subscriber.Sending.{upload_end, upload_item, upload_sent}
use Rattle.merge_model.specs.Subscriber.{subscriber_last_closed, subscriber_version_at}
use Rattle.merge_model.specs.Tables.{SubscriberTables}
use Rattle.merge_model.proofs.Entries.EntryLists.{all-put}
use Rattle.merge_model.proofs.Lists.KeyLookUps.{keys-tied}
use Rattle.merge_model.proofs.Lists.{OfSome, all-filter_map, all-kept, all-of}
use Rattle.merge_model.proofs.Publishers.Sorted.{key_total}
use Rattle.merge_laws.proofs.Unsent.Changed.{fold-ascends, none-ascends}
use Rattle.merge_honest.specs.SentWell.{IsMadeWell, StandsIn}
use Rattle.merge_honest.proofs.Batches.{batch-holds}

-- The rows that were changed, each with a generation.

pub changed-ascend : (h : History) (s : SubscriberTables) (from to : ℕ) → IsStrictlySortedBy key_cmp (keys_of (changed_between_by_made h s.site from to))
changed-ascend h s from to = fold-ascends (filter (is_between_made from to) (made_at h s.site.0)) [] none-ascends

abbrev pub StandsBetween : ℕ → ℕ → ℕ → Type 0
StandsBetween from to generation = (from < generation) × (generation ≤ to)

abbrev EntryBetween : ℕ → ℕ → Key × ℕ → Type 0
EntryBetween from to entry = StandsBetween from to entry.1

greatest-between : (from to generation other : ℕ) → StandsBetween from to generation → (other ≤ to) → StandsBetween from to (max generation other)
greatest-between from to generation other here up = (
  (let low = here.0 in grind (arith, nat_tests, low)),
  (let high = here.1 in grind (arith, nat_tests, high, up)),
)

found-up : (from to : ℕ) (rows : List (Key × ℕ)) (key : Key) (found : Option ℕ) → row_at rows key ≡ found → OfSome (λ (generation : ℕ). generation ≤ to) found → unwrap_or found 0 ≤ to
found-up from to rows key None is up = omega arith
found-up from to rows key (Some generation) is up = up

-- what is found among entries that hold
found-holds : (P : ℕ → Type 0) (rows : List (Key × ℕ)) (key : Key) → AllByRecursion (λ (entry : Key × ℕ). P entry.1) rows → OfSome P (row_at rows key)
found-holds P [] key all = tt
found-holds P (row ∷ rows) key all = found-cond P _ row.1 (row_at rows key) all.0 (found-holds P rows key all.1)
  where
    found-cond : (P : ℕ → Type 0) (b : Bool) (generation : ℕ) (rest : Option ℕ) → P generation → OfSome P rest → OfSome P (let found : Option ℕ = cond b (Some generation) rest in found)
    found-cond P true generation rest here more = here
    found-cond P false generation rest here more = more

between-up : (from to : ℕ) (rows : List (Key × ℕ)) → AllByRecursion (EntryBetween from to) rows → AllByRecursion (λ (entry : Key × ℕ). entry.1 ≤ to) rows
between-up from to [] all = tt
between-up from to (row ∷ rows) all = (all.0.1, between-up from to rows all.1)

with-between : (from to : ℕ) (rows : List (Key × ℕ)) (c : MadeChange) → StandsBetween from to c.generation → AllByRecursion (EntryBetween from to) rows → AllByRecursion (EntryBetween from to) (with_change_of rows c)
with-between from to rows c here all =
    let up : unwrap_or (row_at rows c.key) 0 ≤ to = found-up from to rows c.key (row_at rows c.key) refl (found-holds (λ (generation : ℕ). generation ≤ to) rows c.key (between-up from to rows all)) in
    let new : StandsBetween from to (max c.generation (unwrap_or (row_at rows c.key) 0)) = greatest-between from to c.generation (unwrap_or (row_at rows c.key) 0) here up in
    all-put (EntryBetween from to) key_cmp c.key (max c.generation (unwrap_or (row_at rows c.key) 0)) (λ q tied. new) new rows all

fold-between : (from to : ℕ) (changes : List MadeChange) (rows : List (Key × ℕ)) → AllByRecursion (λ (c : MadeChange). StandsBetween from to c.generation) changes → AllByRecursion (EntryBetween from to) rows → AllByRecursion (EntryBetween from to) (fold with_change_of rows changes)
fold-between from to [] rows each all = all
fold-between from to (c ∷ changes) rows each all = fold-between from to changes (with_change_of rows c) each.1 (with-between from to rows c each.0 all)

made-between : (from to : ℕ) (c : MadeChange) → is_between_made from to c ≡ true → StandsBetween from to c.generation
made-between from to c is = (grind (arith, nat_tests, is), grind (arith, nat_tests, is))

pub changed-between : (h : History) (s : SubscriberTables) (from to : ℕ) → AllByRecursion (EntryBetween from to) (changed_between_by_made h s.site from to)
changed-between h s from to = fold-between from to (filter (is_between_made from to) (made_at h s.site.0)) []
    (all-kept (λ (c : MadeChange). StandsBetween from to c.generation) (is_between_made from to) (made_at h s.site.0) (all-of _ (λ c is. made-between from to c is) (made_at h s.site.0))) tt

none-between : (from : ℕ) (made : List MadeChange) → filter (is_between_made from from) made ≡ []
none-between from [] = refl
none-between from (c ∷ made) = cond-none (is_between_made from from c) c (filter (is_between_made from from) made) (grind (arith, nat_tests)) (none-between from made)
  where
    cond-none : (b : Bool) (c : MadeChange) (kept : List MadeChange) → b ≡ false → kept ≡ [] → (let all : List MadeChange = cond b (c ∷ kept) kept in all) ≡ []
    cond-none true c kept is none = absurd cc
    cond-none false c kept is none = none

none-changed : (h : History) (s : SubscriberTables) (from : ℕ) → changed_between_by_made h s.site from from ≡ []
none-changed h s from = ap (λ (changes : List MadeChange). fold with_change_of [] changes) (none-between from (made_at h s.site.0))

-- The items.

-- there are no more items than rows
cons-short : (item : Option UploadItem) (items : List UploadItem) (n : ℕ) → length items ≤ n → length (cons_option item items) ≤ n + 1
cons-short None items n up = omega (arith, up)
cons-short (Some item) items n up = grind (arith, up)

pub items-short : (s : SubscriberTables) (entries : List (Key × ℕ)) → length (filter_map (upload_item s) entries) ≤ length entries
items-short s [] = omega arith
items-short s (entry ∷ entries) =
    let up = cons-short (upload_item s entry) (filter_map (upload_item s) entries) (length entries) (items-short s entries) in
    omega (arith, up)

-- each is of its row, in its generation
item-between : (from to : ℕ) (s : SubscriberTables) (entry : Key × ℕ) (found : Option Version) → EntryBetween from to entry
    → OfSome (λ (item : UploadItem). StandsBetween from to item.generation) (option_map (λ (version : Version). (let item : UploadItem = record { article = entry.0.article; row = entry.0.row; generation = entry.1; version = version } in item)) found)
item-between from to s entry None here = tt
item-between from to s entry (Some version) here = here

items-between : (from to : ℕ) (s : SubscriberTables) (entries : List (Key × ℕ)) → AllByRecursion (EntryBetween from to) entries → AllByRecursion (λ (item : UploadItem). StandsBetween from to item.generation) (filter_map (upload_item s) entries)
items-between from to s entries all = all-filter_map (EntryBetween from to) (λ (item : UploadItem). StandsBetween from to item.generation) (upload_item s) (λ entry here. item-between from to s entry (subscriber_version_at s entry.0) here) entries all

above-item : (k : Key) (s : SubscriberTables) (entry : Key × ℕ) (found : Option Version) (items : List UploadItem) → key_cmp k entry.0 ≡ Less → AreAbove key_cmp k (map key_of_item items)
    → AreAbove key_cmp k (map key_of_item (cons_option (option_map (λ (version : Version). (let item : UploadItem = record { article = entry.0.article; row = entry.0.row; generation = entry.1; version = version } in item)) found) items))
above-item k s entry None items first rest = rest
above-item k s entry (Some version) items first rest = (first, rest)

items-above : (k : Key) (s : SubscriberTables) (entries : List (Key × ℕ)) → AreAbove key_cmp k (keys_of entries) → AreAbove key_cmp k (map key_of_item (filter_map (upload_item s) entries))
items-above k s [] above = tt
items-above k s (entry ∷ entries) above = above-item k s entry (subscriber_version_at s entry.0) (filter_map (upload_item s) entries) above.0 (items-above k s entries above.1)

ascend-item : (s : SubscriberTables) (entry : Key × ℕ) (found : Option Version) (items : List UploadItem) → AreAbove key_cmp entry.0 (map key_of_item items) → IsStrictlySortedBy key_cmp (map key_of_item items)
    → IsStrictlySortedBy key_cmp (map key_of_item (cons_option (option_map (λ (version : Version). (let item : UploadItem = record { article = entry.0.article; row = entry.0.row; generation = entry.1; version = version } in item)) found) items))
unfolding IsStrictlySortedBy
ascend-item s entry None items above rest = rest
ascend-item s entry (Some version) items above rest = (above, rest)

items-ascend : (s : SubscriberTables) (entries : List (Key × ℕ)) → IsStrictlySortedBy key_cmp (keys_of entries) → IsStrictlySortedBy key_cmp (map key_of_item (filter_map (upload_item s) entries))
unfolding IsStrictlySortedBy
items-ascend s [] sorted = tt
items-ascend s (entry ∷ entries) sorted = ascend-item s entry (subscriber_version_at s entry.0) (filter_map (upload_item s) entries) (items-above entry.0 s entries sorted.0) (items-ascend s entries sorted.1)

-- The upload that a subscriber sends.
pub sent-well : (h : History) (s : SubscriberTables) → IsMadeWell (upload_sent (by_made h s.site) s).1
sent-well h s =
    let to : ℕ = upload_end (by_made h s.site) s in
    let items : ℕ → ℕ = λ (k : ℕ). length (changed_between_by_made h s.site s.received k) in
    let few : items to ≤ item_limit = batch-holds (λ (k : ℕ). items k ≤ item_limit) items s.received (subscriber_last_closed s)
    (subst (λ (entries : List (Key × ℕ)). length entries ≤ item_limit) (sym (none-changed h s s.received)) (omega arith)) (λ k low up last is. grind (arith, nat_tests, is)) in
    let short = items-short s (changed_between_by_made h s.site s.received to) in
    record {
      few_generations = batch-holds (λ (k : ℕ). k ≤ s.received + generation_limit) items s.received (subscriber_last_closed s) (omega arith) (λ k low up last is. up);
      few_items = omega (arith, few, short);
      ascend = items-ascend s (changed_between_by_made h s.site s.received to) (changed-ascend h s s.received to);
      stand = items-between s.received to s (changed_between_by_made h s.site s.received to) (changed-between h s s.received to);
    }
