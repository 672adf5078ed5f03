-- A reply puts and drops rows and their pasts in parallel; making anew moves the unsent ones to the conflict table.
use Rattle.std.specs.Prelude.{◌≡◌, ◌++◌, ◌+◌, ℕ, List, [], ◌∷◌, Bool, true, false, Option, Some, None, refl, if◌then◌else◌, cond, map, option_map}
use Rattle.std.specs.BTreeMap.{is_at}
use Rattle.std.specs.List.{AllByRecursion, fold}
use Rattle.std.specs.List.Sorted.{IsStrictlySortedBy}
use Rattle.std.specs.Map.{keys_of}
use Rattle.std.proofs.Common.{subst, sym}
use Rattle.std.proofs.lemmas.List.{append-nil, append_assoc}
use Rattle.merge_table.proofs.Sorted.{sorted_put, sorted_take}
use Rattle.merge_units.specs.declared.version.Body.TheVariants.{Live}
use Rattle.merge_units.specs.declared.version.Version.{Version}
use Rattle.merge_conflict.specs.declared.row.ConflictRow.{ConflictRow}
use Rattle.merge_batch.specs.declared.reply.Act.{Act as Order}
use Rattle.merge_batch.specs.declared.reply.Act.TheVariants as order
use Rattle.merge_batch.specs.declared.reply.DownloadItem.{DownloadItem}
use Rattle.merge_model.specs.History.{History, Past, past_at, past_in}
use Rattle.merge_model.specs.Judge.{SubscriberJudge}
use Rattle.merge_types.specs.RowKeys.{key_cmp}
use Rattle.merge_model.specs.Tables.Keys.{drop_row, put_row, row_at}
use Rattle.merge_model.specs.History.Noting
use Rattle.merge_model.specs.Subscriber.Reinit.{discarded_row, discarded_rows_from, discarded_versions}
use Rattle.merge_types.specs.declared.row_key.RowKey.{RowKey as Key}
use Rattle.merge_units.specs.declared.site_row.SubscriberRow.{SubscriberRow}
use Rattle.merge_model.specs.Tables.{SubscriberTables}
use Rattle.merge_model.specs.Subscriber.Taking.{key_of_download, row_above, with_item, with_order}
use Rattle.merge_model.proofs.Publishers.Sorted.{key_total}
use Rattle.merge_laws.specs.Facts.LineagesStand.{OfOrder}
use Rattle.merge_model.proofs.Lists.{OfSome, all-filter_map}
use Rattle.merge_laws.proofs.Told.ToldHistories.{Goes, goes-dropped, goes-emptied, goes-lost, goes-put, goes-same}
use Rattle.merge_laws.proofs.Told.ToldRows.{drop_version, found-dropped, found-put, found_in, put_version}
use Rattle.merge_laws.proofs.Told.ToldSites.{own_version}

-- what is received leaves the versions
above-step : (b : Bool) (received : ℕ) (row : Key × SubscriberRow) (rest more : Option SubscriberRow) → option_map own_version more ≡ option_map own_version rest
    → option_map own_version (let found : Option SubscriberRow = cond b (Some (row_above received row).1) more in found) ≡ option_map own_version (let found : Option SubscriberRow = cond b (Some row.1) rest in found)
above-step true received row rest more same = refl
above-step false received row rest more same = same

pub versions-above : (received : ℕ) (rows : List (Key × SubscriberRow)) (q : Key) → found_in own_version (map (row_above received) rows) q ≡ found_in own_version rows q
versions-above received [] q = refl
versions-above received (row ∷ rows) q = above-step (is_at (key_cmp q) row.0) received row (row_at rows q) (row_at (map (row_above received) rows) q) (versions-above received rows q)

module _ (P : Key → Version → Past → Type 0) (n : ℕ) (before : History) (conflicts : List ConflictRow) where
  -- rows in order, with their pasts
  abbrev pub OwnGo : List (Key × SubscriberRow) → History → Type 0
  OwnGo rows h = IsStrictlySortedBy key_cmp (keys_of rows) × Goes P n before (found_in own_version rows) conflicts h

  module _ (incoming : List (Key × Past)) where
    dropped-goes : (key : Key) (rows : List (Key × SubscriberRow)) (h : History) → OwnGo rows h → OwnGo (drop_row rows key) (Noting.without_past n key h)
    dropped-goes key rows h g = (
      sorted_take key_cmp key_total (is_at (key_cmp key)) rows g.0,
      goes-same P n before conflicts (drop_version (found_in own_version rows) key) (found_in own_version (drop_row rows key)) (Noting.without_past n key h) (λ q. found-dropped own_version rows key q g.0)
          (goes-dropped P n before conflicts (found_in own_version rows) h g.1 key),
    )

    order-goes : (key : Key) (o : Order) (rows : List (Key × SubscriberRow)) (h : History) → OfOrder P key (past_in incoming key) o → OwnGo rows h → OwnGo (with_order key o rows) (Noting.with_order_past n incoming key o h)
    order-goes key (order.Put lineage live) rows h new g =
        let version : Version = record { lineage = lineage; body = Live live } in
        let row : SubscriberRow = record { version = version; generations = [] } in (
          sorted_put key_cmp key_total key row rows g.0,
          goes-same P n before conflicts (put_version (found_in own_version rows) (key, version)) (found_in own_version (put_row rows key row)) (Noting.with_past n key (past_in incoming key) h) (λ q. found-put own_version rows key row q)
              (goes-put P n before conflicts (found_in own_version rows) h g.1 key version (past_in incoming key) new),
        )
    order-goes key order.RemoveDeleted rows h new g = dropped-goes key rows h g
    order-goes key order.RemoveLeft rows h new g = dropped-goes key rows h g

    if-goes : (b : Bool) (rows other : List (Key × SubscriberRow)) (h k : History) → OwnGo rows h → OwnGo other k → OwnGo (if b then rows else other) (if b then h else k)
    if-goes true rows other h k one two = one
    if-goes false rows other h k one two = two

    pub items-go : (judge : SubscriberJudge) (received : ℕ) (items : List DownloadItem) (rows : List (Key × SubscriberRow)) (h : History) → AllByRecursion (λ (item : DownloadItem). OfOrder P (key_of_download item) (past_in incoming (key_of_download item)) item.act) items
        → OwnGo rows h → OwnGo (fold (with_item judge received) rows items) (fold (Noting.with_item_past judge received n incoming) h items)
    items-go judge received [] rows h all g = g
    items-go judge received (item ∷ items) rows h all g =
        let key : Key = key_of_download item in
        items-go judge received items (with_item judge received rows item) (Noting.with_item_past judge received n incoming h item) all.1
        (if-goes (judge.is_unsent received key) rows (with_order key item.act rows) h (Noting.with_order_past n incoming key item.act h) g (order-goes key item.act rows h all.0 g))

-- Making anew.
module _ (P : Key → Version → Past → Type 0) (s : SubscriberTables) (before : History) where
  abbrev Discarded : List (Key × Version) → Type 0
  Discarded rows = AllByRecursion (λ (row : Key × Version). P row.0 row.1 (past_at before s.site.0 row.0)) rows

  discarded-step : (b : Bool) (row : Key × SubscriberRow) → P row.0 row.1.version (past_at before s.site.0 row.0)
      → (let found : Option (Key × Version) = if b then Some (row.0, row.1.version) else None in OfSome (λ (row : Key × Version). P row.0 row.1 (past_at before s.site.0 row.0)) found)
  discarded-step true row fits = fits
  discarded-step false row fits = tt

  discarded-fit : (judge : SubscriberJudge) → AllByRecursion (λ (row : Key × SubscriberRow). P row.0 row.1.version (past_at before s.site.0 row.0)) s.rows → Discarded (discarded_versions judge s)
  discarded-fit judge all = all-filter_map (λ (row : Key × SubscriberRow). P row.0 row.1.version (past_at before s.site.0 row.0)) (λ (row : Key × Version). P row.0 row.1 (past_at before s.site.0 row.0))
      (λ (row : Key × SubscriberRow). if judge.is_unsent s.received row.0 then Some (row.0, row.1.version) else None) (λ row fits. discarded-step (judge.is_unsent s.received row.0) row fits) s.rows all

  -- each has the past that it had, since pasts stay until all are lost
  rows-lost : (c : SubscriberTables) (found : Key → Option Version) (number : ℕ) (rows : List (Key × Version)) (conflicts : List ConflictRow) (h : History) → ((q : Key) → past_at h s.site.0 q ≡ past_at before s.site.0 q) → Discarded rows
      → Goes P s.site.0 before found conflicts h → Goes P s.site.0 before found (conflicts ++ discarded_rows_from c number rows) (fold (Noting.with_discarded s.site) h rows)
  rows-lost c found number [] conflicts h same all g = subst (λ (cs : List ConflictRow). Goes P s.site.0 before found cs h) (sym (append-nil conflicts)) g
  rows-lost c found number (row ∷ rows) conflicts h same all g =
      let new : ConflictRow = discarded_row c number row.0 row.1 in
      let rest : List ConflictRow = discarded_rows_from c (number + 1) rows in
      let after : History = Noting.with_discarded s.site h row in
      let fits : P row.0 row.1 (past_at h s.site.0 row.0) = subst (λ (past : Past). P row.0 row.1 past) (sym (same row.0)) all.0 in
      subst (λ (cs : List ConflictRow). Goes P s.site.0 before found cs (fold (Noting.with_discarded s.site) after rows)) (append_assoc conflicts (new ∷ []) rest)
      (rows-lost c found (number + 1) rows (conflicts ++ new ∷ []) after same all.1 (goes-lost P s.site.0 before conflicts found h g new row.0 (past_at h s.site.0 row.0) fits))

  pub anew-goes : (c : SubscriberTables) (judge : SubscriberJudge) (number : ℕ) (found : Key → Option Version) → AllByRecursion (λ (row : Key × SubscriberRow). P row.0 row.1.version (past_at before s.site.0 row.0)) s.rows
      → Goes P s.site.0 before found s.conflicts before
      → Goes P s.site.0 before (λ (key : Key). None) (s.conflicts ++ discarded_rows_from c number (discarded_versions judge s)) (Noting.noted_anew judge s before)
  anew-goes c judge number found all g =
      goes-emptied P s.site.0 before (s.conflicts ++ discarded_rows_from c number (discarded_versions judge s)) found (fold (Noting.with_discarded s.site) before (discarded_versions judge s))
      (rows-lost c found number (discarded_versions judge s) s.conflicts before (λ q. refl) (discarded-fit judge all) g)
