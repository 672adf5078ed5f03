-- What a local change, a reply and an upload do to the rows that are held and to their pasts: all know their makers.
use Rattle.std.specs.Prelude.{◌≡◌, ◌||◌, ℕ, List, [], ◌∷◌, Bool, true, false, not, Option, Some, None, refl, cond, filter, filter_map, if◌then◌else◌, is_some, map, option_map}
use Rattle.std.specs.List.{AllByRecursion, cons_option, fold}
use Rattle.std.specs.List.Sorted.{IsStrictlySortedBy}
use Rattle.std.specs.BTreeMap.{is_at}
use Rattle.std.specs.Map.{keys_of}
use Rattle.std.proofs.Common.{arith, subst, sym, ap, ◌∙◌}
use Rattle.merge_units.specs.Version.{is_live}
use Rattle.merge_units.specs.declared.version.Version.{Version}
use Rattle.merge_batch.specs.declared.reply.Act.{Act as Order}
use Rattle.merge_batch.specs.declared.reply.Act.TheVariants as order
use Rattle.merge_batch.specs.declared.reply.DownloadItem.{DownloadItem}
use Rattle.merge_batch.specs.declared.request.UploadItem.{UploadItem}
use Rattle.merge_table.proofs.Sorted.{sorted_put, sorted_take}
use Rattle.merge_model.specs.Publisher.Acts.{key_of_item}
use Rattle.merge_model.specs.History.{History, Past, past_in, pasts_at}
use Rattle.merge_model.specs.Judge.{SubscriberJudge}
use Rattle.merge_types.specs.RowKeys.{key_cmp}
use Rattle.merge_model.specs.Tables.Keys.{drop_row, has_key, put_row, row_at, same_key}
use Rattle.merge_model.specs.History.Noting
use Rattle.merge_model.specs.Publisher.PublisherDownload.{TouchedRow, item_of}
use Rattle.merge_batch.specs.Orders.{order_by}
use Rattle.merge_model.specs.Subscriber.Sending.{upload_item}
use Rattle.merge_types.specs.declared.row_key.RowKey.{RowKey as Key}
use Rattle.merge_units.specs.declared.site_row.PublisherRow.{PublisherRow}
use Rattle.merge_units.specs.declared.site_row.SubscriberRow.{SubscriberRow}
use Rattle.merge_model.specs.Tables.{PublisherTables, SubscriberTables}
use Rattle.merge_model.specs.Subscriber.Taking.{key_of_download, row_above, with_item, with_order}
use Rattle.merge_model.proofs.Publishers.Sorted.{key_total}
use Rattle.merge_laws.specs.Invariants.KnownMakers.{Ascend, HeldKnow, KnowsMaker}
use Rattle.merge_laws.specs.Facts.LineagesStand.{OfOrder}
use Rattle.merge_laws.proofs.Pasts.HeldRows.{above-held}
use Rattle.merge_model.proofs.Lists.KeyLookUps.{key-test, keys-exact, keys-same}
use Rattle.merge_model.proofs.Lists.PlaceLookUps.{kept, lookup-filter}
use Rattle.merge_laws.proofs.Letters.LetterPasts.{removed-order}
use Rattle.merge_laws.proofs.Pasts.PastLists.{know-dropped, know-put}
use Rattle.merge_laws.proofs.Pasts.PastLookUps.{past-put, put-here, rows_in}
use Rattle.merge_laws.proofs.Pasts.PastNotes.{Purged}
use Rattle.merge_model.proofs.Lists.Tests.{if-false, if-true}

-- A row more is held, and its past is put.
more-either : {A : Type 0} (rows : List (Key × A)) (pasts : List (Key × Past)) (key q : Key) (past : Past) (same : Bool) → same_key q key ≡ same → KnowsMaker key past.known → HeldKnow rows pasts → (is_some (row_at rows q) || same_key q key) ≡ true
    → KnowsMaker q (if same_key q key then past else past_in pasts q).known
more-either rows pasts key q past true same new old is =
    subst (λ (x : Past). KnowsMaker q x.known) (sym (if-true (same_key q key) past (past_in pasts q) same)) (subst (λ (k : Key). KnowsMaker k past.known) (sym (keys-same q key same)) new)
more-either rows pasts key q past false differs new old is =
    subst (λ (x : Past). KnowsMaker q x.known) (sym (if-false (same_key q key) past (past_in pasts q) differs)) (old q (grind (arith, is, differs)))

pub know-more : {A B : Type 0} (rows : List (Key × A)) (more : List (Key × B)) (pasts : List (Key × Past)) (key : Key) (past : Past) → KnowsMaker key past.known → ((q : Key) → is_some (row_at more q) ≡ true → (is_some (row_at rows q) || same_key q key) ≡ true)
    → HeldKnow rows pasts → HeldKnow more (put_row pasts key past)
know-more rows more pasts key past new held old q is = subst (λ (x : Past). KnowsMaker q x.known) (sym (past-put pasts key past q)) (more-either rows pasts key q past (same_key q key) refl new old (held q is))

pub above-know : (received : ℕ) (rows : List (Key × SubscriberRow)) (pasts : List (Key × Past)) → HeldKnow rows pasts → HeldKnow (map (row_above received) rows) pasts
above-know received rows pasts old q is = old q (sym (above-held received rows q) ∙ is)

-- A reply puts and drops rows with their pasts.

pub record Beside (n : ℕ) (rows : List (Key × SubscriberRow)) (h : History) : Type 0 where
  pub rows_sorted : IsStrictlySortedBy key_cmp (keys_of rows)
  pub sorted : Ascend (pasts_at h n)
  pub know : HeldKnow rows (pasts_at h n)

module _ (judge : SubscriberJudge) (received n : ℕ) (incoming : List (Key × Past)) where
  order-beside : (key : Key) (o : Order) (rows : List (Key × SubscriberRow)) (h : History) → OfOrder (λ (k : Key) (version : Version) (past : Past). KnowsMaker k past.known) key (past_in incoming key) o → Beside n rows h
      → Beside n (with_order key o rows) (Noting.with_order_past n incoming key o h)
  order-beside key (order.Put lineage live) rows h new b =
      let here : pasts_at (Noting.with_order_past n incoming key (order.Put lineage live) h) n ≡ put_row (pasts_at h n) key (past_in incoming key) = put-here h.pasts n (put_row (pasts_at h n) key (past_in incoming key)) in
      record {
        rows_sorted = sorted_put key_cmp key_total key _ rows b.rows_sorted;
        sorted = subst (λ (x : List (Key × Past)). Ascend x) (sym here) (sorted_put key_cmp key_total key (past_in incoming key) (pasts_at h n) b.sorted);
        know = subst (λ (x : List (Key × Past)). HeldKnow (with_order key (order.Put lineage live) rows) x) (sym here) (know-put rows (pasts_at h n) key _ (past_in incoming key) new b.know);
      }
  order-beside key order.RemoveDeleted rows h new b =
      let here : pasts_at (Noting.without_past n key h) n ≡ drop_row (pasts_at h n) key = put-here h.pasts n (drop_row (pasts_at h n) key) in
      record {
        rows_sorted = sorted_take key_cmp key_total (is_at (key_cmp key)) rows b.rows_sorted;
        sorted = subst (λ (x : List (Key × Past)). Ascend x) (sym here) (sorted_take key_cmp key_total (is_at (key_cmp key)) (pasts_at h n) b.sorted);
        know = subst (λ (x : List (Key × Past)). HeldKnow (drop_row rows key) x) (sym here) (know-dropped rows (pasts_at h n) key b.rows_sorted b.sorted b.know);
      }
  order-beside key order.RemoveLeft rows h new b =
      let here : pasts_at (Noting.without_past n key h) n ≡ drop_row (pasts_at h n) key = put-here h.pasts n (drop_row (pasts_at h n) key) in
      record {
        rows_sorted = sorted_take key_cmp key_total (is_at (key_cmp key)) rows b.rows_sorted;
        sorted = subst (λ (x : List (Key × Past)). Ascend x) (sym here) (sorted_take key_cmp key_total (is_at (key_cmp key)) (pasts_at h n) b.sorted);
        know = subst (λ (x : List (Key × Past)). HeldKnow (drop_row rows key) x) (sym here) (know-dropped rows (pasts_at h n) key b.rows_sorted b.sorted b.know);
      }

  if-beside : (b : Bool) (rows more : List (Key × SubscriberRow)) (x y : History) → Beside n rows x → Beside n more y → Beside n (if b then rows else more) (if b then x else y)
  if-beside true rows more x y one other = one
  if-beside false rows more x y one other = other

  pub reply-beside : (items : List DownloadItem) (rows : List (Key × SubscriberRow)) (h : History)
      → AllByRecursion (λ (item : DownloadItem). OfOrder (λ (k : Key) (version : Version) (past : Past). KnowsMaker k past.known) (key_of_download item) (past_in incoming (key_of_download item)) item.act) items
      → Beside n rows h → Beside n (fold (with_item judge received) rows items) (fold (Noting.with_item_past judge received n incoming) h items)
  reply-beside [] rows h all b = b
  reply-beside (item ∷ items) rows h all b = reply-beside items (with_item judge received rows item) (Noting.with_item_past judge received n incoming h item) all.1
      (if-beside (judge.is_unsent received (key_of_download item)) rows (with_order (key_of_download item) item.act rows) h (Noting.with_order_past n incoming (key_of_download item) item.act h) b (order-beside (key_of_download item) item.act rows h all.0 b))

-- A row that stays after a purge has its past.

keys-step : {A : Type 0} (b same : Bool) (row : A) (rest : Option A) (more : Bool) → b ≡ same → more ≡ is_some rest → (same || more) ≡ is_some (let found : Option A = cond b (Some row) rest in found)
keys-step true same row rest more e is = grind (arith, e)
keys-step false same row rest more e is = grind (arith, e, is)

keys-held : {A : Type 0} (rows : List (Key × A)) (q : Key) → has_key (map (λ (row : Key × A). row.0) rows) q ≡ is_some (row_at rows q)
keys-held [] q = refl
keys-held {A = A} (row ∷ rows) q = keys-step (is_at (key_cmp q) row.0) (same_key q row.0) row.1 (row_at rows q) (has_key (map (λ (x : Key × A). x.0) rows) q) (key-test q row.0) (keys-held rows q)

apart-step : (keep old : Bool) (row : PublisherRow) → keep ≡ not old → is_some (let found : Option PublisherRow = cond keep (Some row) None in found) ≡ true → is_some (let found : Option PublisherRow = cond old (Some row) None in found) ≡ false
apart-step keep true row apart is = absurd (grind (arith, apart, is))
apart-step keep false row apart is = refl

kept-apart : (keep old : Key × PublisherRow → Bool) (q : Key) (found : Option PublisherRow) → ((row : Key × PublisherRow) → keep row ≡ not (old row)) → is_some (kept keep q found) ≡ true → is_some (kept old q found) ≡ false
kept-apart keep old q None apart is = refl
kept-apart keep old q (Some row) apart is = apart-step (keep (q, row)) (old (q, row)) row (apart (q, row)) is

kept-before : (keep : Key × PublisherRow → Bool) (q : Key) (found : Option PublisherRow) → is_some (kept keep q found) ≡ true → is_some found ≡ true
kept-before keep q None is = is
kept-before keep q (Some row) is = refl

pub stays-held : (old : Key × PublisherRow → Bool) (rows : List (Key × PublisherRow)) (q : Key) → IsStrictlySortedBy key_cmp (keys_of rows) → is_some (row_at (filter (λ (row : Key × PublisherRow). not (old row)) rows) q) ≡ true
    → (is_some (row_at rows q) ≡ true) × (has_key (map (λ (row : Key × PublisherRow). row.0) (filter old rows)) q ≡ false)
stays-held old rows q sorted is =
    let keep : Key × PublisherRow → Bool = λ row. not (old row) in
    let found = lookup-filter key_cmp key_total keys-exact keep q rows sorted in
    let gone = lookup-filter key_cmp key_total keys-exact old q rows sorted in
    let here : is_some (kept keep q (row_at rows q)) ≡ true = sym (ap (λ (x : Option PublisherRow). is_some x) found) ∙ is in
    (kept-before keep q (row_at rows q) here, keys-held (filter old rows) q ∙ ap (λ (x : Option PublisherRow). is_some x) gone ∙ kept-apart keep old q (row_at rows q) (λ row. refl) here)

pub purged-know : (old : Key × PublisherRow → Bool) (rows : List (Key × PublisherRow)) (before after : List (ℕ × List (Key × Past))) → IsStrictlySortedBy key_cmp (keys_of rows) → Purged (map (λ (row : Key × PublisherRow). row.0) (filter old rows)) before after
    → HeldKnow rows (rows_in before 0) → HeldKnow (filter (λ (row : Key × PublisherRow). not (old row)) rows) (rows_in after 0)
purged-know old rows before after sorted purged know q is =
    let stays = stays-held old rows q sorted is in
    subst (λ (past : Past). KnowsMaker q past.known) (sym (purged.here q stays.1)) (know q stays.0)

-- The items of an upload are of rows that are held, and what a reply puts is.

item-knows : (s : SubscriberTables) (entry : Key × ℕ) (pasts : List (Key × Past)) (items : List UploadItem) (found : Option SubscriberRow) → row_at s.rows entry.0 ≡ found → HeldKnow s.rows pasts
    → AllByRecursion (λ (item : UploadItem). KnowsMaker (key_of_item item) (past_in pasts (key_of_item item)).known) items
    → AllByRecursion (λ (item : UploadItem). KnowsMaker (key_of_item item) (past_in pasts (key_of_item item)).known)
    (cons_option (option_map (λ (version : Version). (let item : UploadItem = record { article = entry.0.article; row = entry.0.row; generation = entry.1; version = version } in item)) (option_map (λ (row : SubscriberRow). row.version) found)) items)
item-knows s entry pasts items None at know all = all
item-knows s entry pasts items (Some row) at know all = (know entry.0 (ap (λ (x : Option SubscriberRow). is_some x) at), all)

pub items-know : (s : SubscriberTables) (pasts : List (Key × Past)) (entries : List (Key × ℕ)) → HeldKnow s.rows pasts → AllByRecursion (λ (item : UploadItem). KnowsMaker (key_of_item item) (past_in pasts (key_of_item item)).known) (filter_map (upload_item s) entries)
items-know s pasts [] know = tt
items-know s pasts (entry ∷ entries) know = item-knows s entry pasts (filter_map (upload_item s) entries) (row_at s.rows entry.0) refl know (items-know s pasts entries know)

order-knows : (key : Key) (is_in : Bool) (found : Option PublisherRow) (past : Past) → (is_some found ≡ true → KnowsMaker key past.known)
    → OfOrder (λ (k : Key) (version : Version) (x : Past). KnowsMaker k x.known) key past (order_by is_in (option_map (λ (row : PublisherRow). row.version) found))
order-knows key true None past know = tt
order-knows key false None past know = tt
order-knows key true (Some row) past know = know refl
order-knows key false (Some row) past know = removed-order (λ (k : Key) (version : Version) (x : Past). KnowsMaker k x.known) key past (is_live row.version.body)

pub orders-know : (p : PublisherTables) (pasts : List (Key × Past)) (rows : List TouchedRow) → HeldKnow p.rows pasts
    → AllByRecursion (λ (item : DownloadItem). OfOrder (λ (key : Key) (version : Version) (past : Past). KnowsMaker key past.known) (key_of_download item) (past_in pasts (key_of_download item)) item.act) (map (item_of p) rows)
orders-know p pasts [] know = tt
orders-know p pasts (row ∷ rows) know = (order-knows row.key row.is_in (row_at p.rows row.key) (past_in pasts row.key) (λ some. know row.key some), orders-know p pasts rows know)
