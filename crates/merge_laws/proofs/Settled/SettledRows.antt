-- Rows by their keys: those for which there is a value, those that a reply leaves, and that those of a partition are live.
use Rattle.std.specs.Prelude.{◌≡◌, ℕ, List, [], ◌∷◌, Bool, true, false, Option, Some, None, refl, if◌then◌else◌, cond, map, option_map}
use Rattle.std.specs.List.{cons_option, fold, list_any}
use Rattle.std.specs.Option.{option_and_then}
use Rattle.std.specs.BTreeMap.{is_at}
use Rattle.std.specs.List.Sorted.{IsStrictlySortedBy}
use Rattle.std.specs.Map.{keys_of}
use Rattle.std.specs.declared.cmp.Ordering.TheVariants.{Less}
use Rattle.std.proofs.Common.{arith, sym, ap, ◌∙◌}
use Rattle.std.proofs.lemmas.Map.Keys.{sorted_tail}
use Rattle.merge_types.specs.declared.identifiers.SiteId.{SiteId}
use Rattle.merge_units.specs.Version.{is_live}
use Rattle.merge_units.specs.declared.version.Body.{Body}
use Rattle.merge_units.specs.declared.version.Body.TheVariants.{Dead, Live}
use Rattle.merge_units.specs.declared.version.Version.{Version}
use Rattle.merge_schema.specs.Partition.{LiveRow, partition_of}
use Rattle.merge_schema.specs.declared.publication.Publication.{Publication}
use Rattle.merge_schema.specs.declared.publication.Subscription.{Subscription}
use Rattle.merge_table.proofs.Room.{AreAbove}
use Rattle.merge_batch.specs.declared.reply.Act.{Act as Order}
use Rattle.merge_batch.specs.declared.reply.Act.TheVariants as order
use Rattle.merge_batch.specs.declared.reply.DownloadItem.{DownloadItem}
use Rattle.merge_model.specs.Publisher.Entries.{key_of_live, live_row, live_rows, partition_keys}
use Rattle.merge_model.specs.Judge.{SubscriberJudge}
use Rattle.merge_types.specs.RowKeys.{key_cmp}
use Rattle.merge_model.specs.Tables.Keys.{has_key, row_at, same_key}
use Rattle.merge_model.specs.Laws.{AreSorted}
use Rattle.merge_resolve.specs.Priorities.{subscription_at}
use Rattle.merge_model.specs.Publisher.PublisherDownload.{inside_keys}
use Rattle.merge_types.specs.declared.row_key.RowKey.{RowKey as Key}
use Rattle.merge_units.specs.declared.site_row.PublisherRow.{PublisherRow}
use Rattle.merge_units.specs.declared.site_row.SubscriberRow.{SubscriberRow}
use Rattle.merge_model.specs.Tables.{PublisherTables}
use Rattle.merge_model.specs.Subscriber.Taking.{key_of_download, row_above, with_item, with_order}
use Rattle.merge_laws.specs.Facts.Settled.{held_by, live_only, said_of, said_over}
use Rattle.merge_model.proofs.Entries.Downloads.{any-map, inside-live}
use Rattle.merge_model.proofs.Lists.KeyLookUps.{keys-same, row-dropped, row-put, key-test, keys-exact, none-behind}
use Rattle.merge_laws.proofs.Unsent.Unsending.{order-sorted}

-- Rows for which there is a value, with it.

abbrev pub with_value : {B : Type 0} → Key → Option B → List (Key × B) → List (Key × B)
with_value key None rest = rest
with_value key (Some value) rest = (key, value) ∷ rest

module _ {A B : Type 0} (f : Key → A → Option B) where
  abbrev pub kept_rows : List (Key × A) → List (Key × B)
  kept_rows [] = []
  kept_rows (row ∷ rows) = with_value row.0 (f row.0 row.1) (kept_rows rows)

  value-step : (q : Key) (row : Key × A) (rows : List (Key × A)) (kept : List (Key × B)) (found : Option B) (here : Bool) → f row.0 row.1 ≡ found → is_at (key_cmp q) row.0 ≡ here → (here ≡ true → row_at rows q ≡ None) → (here ≡ true → q ≡ row.0)
      → row_at kept q ≡ option_and_then (f q) (row_at rows q) → row_at (with_value row.0 found kept) q ≡ option_and_then (f q) (let x : Option A = cond here (Some row.1) (row_at rows q) in x)
  value-step q row rows kept None true is at none same h = h ∙ ap (λ (x : Option A). option_and_then (f q) x) (none refl) ∙ sym (ap (λ (k : Key). f k row.1) (same refl) ∙ is)
  value-step q row rows kept None false is at none same h = h
  value-step q row rows kept (Some value) true is at none same h = ap (λ (b : Bool). (let x : Option B = cond b (Some value) (row_at kept q) in x)) at ∙ sym (ap (λ (k : Key). f k row.1) (same refl) ∙ is)
  value-step q row rows kept (Some value) false is at none same h = ap (λ (b : Bool). (let x : Option B = cond b (Some value) (row_at kept q) in x)) at ∙ h

  pub kept-at : (q : Key) (rows : List (Key × A)) → IsStrictlySortedBy key_cmp (keys_of rows) → row_at (kept_rows rows) q ≡ option_and_then (f q) (row_at rows q)
  kept-at q [] sorted = refl
  kept-at q (row ∷ rows) sorted = value-step q row rows (kept_rows rows) (f row.0 row.1) (is_at (key_cmp q) row.0) refl refl (λ here. none-behind q row rows sorted here) (λ here. keys-exact q row.0 here) (kept-at q rows (sorted_tail key_cmp row.0 (keys_of rows) sorted))

  above-value : (k key : Key) (found : Option B) (kept : List (Key × B)) → key_cmp k key ≡ Less → AreAbove key_cmp k (keys_of kept) → AreAbove key_cmp k (keys_of (with_value key found kept))
  above-value k key None kept first rest = rest
  above-value k key (Some value) kept first rest = (first, rest)

  above-kept : (k : Key) (rows : List (Key × A)) → AreAbove key_cmp k (keys_of rows) → AreAbove key_cmp k (keys_of (kept_rows rows))
  above-kept k [] above = tt
  above-kept k (row ∷ rows) above = above-value k row.0 (f row.0 row.1) (kept_rows rows) above.0 (above-kept k rows above.1)

  ascend-value : (key : Key) (found : Option B) (kept : List (Key × B)) → AreAbove key_cmp key (keys_of kept) → IsStrictlySortedBy key_cmp (keys_of kept) → IsStrictlySortedBy key_cmp (keys_of (with_value key found kept))
  unfolding IsStrictlySortedBy
  ascend-value key None kept above rest = rest
  ascend-value key (Some value) kept above rest = (above, rest)

  pub kept-ascend : (rows : List (Key × A)) → IsStrictlySortedBy key_cmp (keys_of rows) → IsStrictlySortedBy key_cmp (keys_of (kept_rows rows))
  unfolding IsStrictlySortedBy
  kept-ascend [] sorted = tt
  kept-ascend (row ∷ rows) sorted = ascend-value row.0 (f row.0 row.1) (kept_rows rows) (above-kept row.0 rows sorted.0) (kept-ascend rows sorted.1)

-- What a subscriber's rows hold.

abbrev pub version_in : List (Key × SubscriberRow) → Key → Option Version
version_in rows key = option_map (λ (row : SubscriberRow). row.version) (row_at rows key)

abbrev version_of : Option SubscriberRow → Option Version
version_of found = option_map (λ (row : SubscriberRow). row.version) found

row-step : (b : Bool) (row other : SubscriberRow) (rest more : Option SubscriberRow) → other.version ≡ row.version → version_of more ≡ version_of rest
    → version_of (let found : Option SubscriberRow = cond b (Some other) more in found) ≡ version_of (let found : Option SubscriberRow = cond b (Some row) rest in found)
row-step true row other rest more same h = ap Some same
row-step false row other rest more same h = h

pub received-versions : (received : ℕ) (rows : List (Key × SubscriberRow)) (key : Key) → version_in (map (row_above received) rows) key ≡ version_in rows key
received-versions received [] key = refl
received-versions received (row ∷ rows) key =
    row-step (is_at (key_cmp key) row.0) row.1 (row_above received row).1 (row_at rows key) (row_at (map (row_above received) rows) key) refl (received-versions received rows key)

-- One item of a reply, and all of them.

put-version : (b : Bool) (row : SubscriberRow) (rest : Option SubscriberRow) → version_of (if b then Some row else rest) ≡ (if b then Some row.version else version_of rest)
put-version true row rest = refl
put-version false row rest = refl

drop-version : (b : Bool) (rest : Option SubscriberRow) → version_of (if b then None else rest) ≡ (if b then None else version_of rest)
drop-version true rest = refl
drop-version false rest = refl

order-version : (key k : Key) (o : Order) (rows : List (Key × SubscriberRow)) → IsStrictlySortedBy key_cmp (keys_of rows) → version_in (with_order k o rows) key ≡ (if same_key key k then held_by o else version_in rows key)
order-version key k (order.Put lineage live) rows sorted =
    let row : SubscriberRow = record { version = record { lineage = lineage; body = Live live }; generations = [] } in
    ap version_of (row-put rows k row key) ∙ put-version (same_key key k) row (row_at rows key)
order-version key k order.RemoveDeleted rows sorted = ap version_of (row-dropped rows k key sorted) ∙ drop-version (same_key key k) (row_at rows key)
order-version key k order.RemoveLeft rows sorted = ap version_of (row-dropped rows k key sorted) ∙ drop-version (same_key key k) (row_at rows key)

abbrev pub over : Option Order → Option Version → Option Version
over (Some o) held = held_by o
over None held = held

over-order : (said : Option Order) (here : Bool) (o : Order) (held : Option Version) → over said (if here then held_by o else held) ≡ over (said_over said here o) held
over-order (Some later) here o held = refl
over-order None true o held = refl
over-order None false o held = refl

module _ (judge : SubscriberJudge) (received : ℕ) (key : Key) (taken : judge.is_unsent received key ≡ false) where
  item-version : (item : DownloadItem) (rows : List (Key × SubscriberRow)) (unsent here : Bool) → judge.is_unsent received (key_of_download item) ≡ unsent → same_key key (key_of_download item) ≡ here → IsStrictlySortedBy key_cmp (keys_of rows)
      → version_in (if unsent then rows else with_order (key_of_download item) item.act rows) key ≡ (if here then held_by item.act else version_in rows key)
  item-version item rows true true is at sorted = (
      let same : key ≡ key_of_download item = keys-same key (key_of_download item) at in
      let other = ap (λ (k : Key). judge.is_unsent received k) same in
      absurd (grind (arith, is, other, taken)))
  item-version item rows true false is at sorted = refl
  item-version item rows false here is at sorted = order-version key (key_of_download item) item.act rows sorted ∙ ap (λ (b : Bool). (let x : Option Version = if b then held_by item.act else version_in rows key in x)) at

  item-sorted : (item : DownloadItem) (rows : List (Key × SubscriberRow)) (unsent : Bool) → IsStrictlySortedBy key_cmp (keys_of rows) → IsStrictlySortedBy key_cmp (keys_of (if unsent then rows else with_order (key_of_download item) item.act rows))
  item-sorted item rows true sorted = sorted
  item-sorted item rows false sorted = order-sorted (key_of_download item) item.act rows sorted

  pub items-version : (items : List DownloadItem) (rows : List (Key × SubscriberRow)) → IsStrictlySortedBy key_cmp (keys_of rows) → version_in (fold (with_item judge received) rows items) key ≡ over (said_of items key) (version_in rows key)
  items-version [] rows sorted = refl
  items-version (item ∷ items) rows sorted =
      let unsent : Bool = judge.is_unsent received (key_of_download item) in
      let here : Bool = same_key key (key_of_download item) in
      items-version items (with_item judge received rows item) (item-sorted item rows unsent sorted)
      ∙ ap (λ (held : Option Version). over (said_of items key) held) (item-version item rows unsent here refl refl sorted)
      ∙ over-order (said_of items key) here item.act (version_in rows key)

-- where nothing is said, and where something is
pub said-nothing : (said : Option Order) (held : Option Version) → said ≡ None → over said held ≡ held
said-nothing said held is = ap (λ (x : Option Order). over x held) is

live-held-by : (o : Order) → live_only (held_by o) ≡ held_by o
live-held-by (order.Put lineage live) = refl
live-held-by order.RemoveDeleted = refl
live-held-by order.RemoveLeft = refl

pub said-something : (said : Option Order) (held owed : Option Version) → option_map held_by said ≡ Some owed → live_only (over said held) ≡ owed
said-something None held owed is = absurd (grind (arith, is))
said-something (Some o) held owed is = live-held-by o ∙ (let same : held_by o ≡ owed = cc in same)

-- A row of a partition is live.

abbrev pub IsLiveAt : Option PublisherRow → Type 0
IsLiveAt found = (row : PublisherRow) × ((found ≡ Some row) × (is_live row.version.body ≡ true))

live-step : (key at : Key) (row : PublisherRow) (body : Body) (live : List LiveRow) (rest : Option PublisherRow) (here : Bool) → row.version.body ≡ body → same_key key at ≡ here → (here ≡ true → rest ≡ None)
    → (list_any (λ (x : LiveRow). same_key key (key_of_live x)) live ≡ true → IsLiveAt rest) → list_any (λ (x : LiveRow). same_key key (key_of_live x)) (cons_option (live_row at body) live) ≡ true
    → IsLiveAt (let found : Option PublisherRow = cond here (Some row) rest in found)
live-step key at row (Dead top) live rest true is same none each any = (let there = (each any).1.0 in absurd (grind (arith, none refl, there)))
live-step key at row (Dead top) live rest false is same none each any = each any
live-step key at row (Live cells) live rest true is same none each any = (row, (refl, ap is_live is))
live-step key at row (Live cells) live rest false is same none each any = each (grind (arith, any, same))

live-at : (key : Key) (rows : List (Key × PublisherRow)) → IsStrictlySortedBy key_cmp (keys_of rows) → list_any (λ (x : LiveRow). same_key key (key_of_live x)) (live_rows rows) ≡ true → IsLiveAt (row_at rows key)
live-at key [] sorted any = absurd (grind (arith, any))
live-at key (row ∷ rows) sorted any =
    live-step key row.0 row.1 row.1.version.body (live_rows rows) (row_at rows key) (is_at (key_cmp key) row.0) refl (sym (key-test key row.0)) (λ here. none-behind key row rows sorted here)
    (λ there. live-at key rows (sorted_tail key_cmp row.0 (keys_of rows) sorted) there) any

partition-live : (publication : Publication) (subscription : Subscription) (key : Key) (rows : List (Key × PublisherRow)) → IsStrictlySortedBy key_cmp (keys_of rows) → has_key (partition_keys publication subscription rows) key ≡ true → IsLiveAt (row_at rows key)
partition-live publication subscription key rows sorted is =
    let test : LiveRow → Bool = λ x. same_key key (key_of_live x) in
    live-at key rows sorted (inside-live publication subscription.host (live_rows rows) test (sym (any-map (same_key key) key_of_live (partition_of publication subscription.host (live_rows rows))) ∙ is))

subscribed-live : (publication : Publication) (found : Option Subscription) (key : Key) (p : PublisherTables) → IsStrictlySortedBy key_cmp (keys_of p.rows)
    → (let keys : List Key = elim found [ None ↦ [] | Some subscription ↦ partition_keys publication subscription p.rows ] in has_key keys key ≡ true) → IsLiveAt (row_at p.rows key)
subscribed-live publication None key p sorted is = absurd (grind (arith, is))
subscribed-live publication (Some subscription) key p sorted is = partition-live publication subscription key p.rows sorted is

pub inside-is-live : (publication : Publication) (site : SiteId) (p : PublisherTables) (key : Key) → AreSorted p → has_key (inside_keys publication site p) key ≡ true → IsLiveAt (row_at p.rows key)
inside-is-live publication site p key sorted is = subscribed-live publication (subscription_at publication site.0) key p sorted.rows_ascend is
