-- What each step leaves of a subscriber's rows.
use Rattle.std.specs.BTreeMap.{is_at}
use Rattle.std.specs.List.{AllByRecursion, fold}
use Rattle.std.specs.List.Sorted.{IsStrictlySortedBy}
use Rattle.std.specs.Map.{keys_of, remove_entry}
use Rattle.std.specs.Prelude.{Bool, List, None, Option, Some, [], cond, false, filter, if◌then◌else◌, map, nat_lt, refl, true, ℕ, ◌+◌, ◌<◌, ◌==◌, ◌≡◌, ◌≤◌, ◌∷◌}
use Rattle.std.proofs.Common.{ap, arith, subst, sym}
use Rattle.std.proofs.lemmas.Bool.Decides.{nat_tests}
use Rattle.merge_types.specs.Limits.{entry_limit}
use Rattle.merge_types.specs.RowKeys.{key_cmp}
use Rattle.merge_types.specs.declared.row_key.RowKey.{RowKey as Key}
use Rattle.merge_table.proofs.Sorted.{sorted_put, sorted_take}
use Rattle.merge_units.specs.declared.site_row.SubscriberRow.{SubscriberRow}
use Rattle.merge_units.specs.declared.version.Body.TheVariants.{Live}
use Rattle.merge_units.specs.declared.version.Version.{Version}
use Rattle.merge_gens.specs.Filling as fill
use Rattle.merge_gens.specs.declared.filling.Filling.{Filling}
use Rattle.merge_ident.specs.Holders.{Holder}
use Rattle.merge_schema.specs.declared.publication.Publication.{Publication}
use Rattle.merge_batch.specs.declared.reply.Act.{Act as Order}
use Rattle.merge_batch.specs.declared.reply.Act.TheVariants as order
use Rattle.merge_batch.specs.declared.reply.DownloadItem.{DownloadItem}
use Rattle.merge_batch.specs.declared.reply.Downloaded.{Downloaded}
use Rattle.merge_record.specs.Rows.{numbers_ascend}
use Rattle.merge_model.specs.Judge.{SubscriberJudge}
use Rattle.merge_model.specs.Subscriber.Taking.{key_of_download, row_above, with_item, with_items, with_order, with_received}
use Rattle.merge_model.specs.Subscriber.{generations_at, subscriber_closed, subscriber_last_closed, with_open, with_version_if}
use Rattle.merge_model.specs.Tables.Keys.{put_row}
use Rattle.merge_model.specs.Tables.{SubscriberTables}
use Rattle.merge_model.proofs.Entries.EntryLists.{all-put}
use Rattle.merge_model.proofs.Lists.Finding.{all-weaker}
use Rattle.merge_model.proofs.Lists.KeyLookUps.{keys-tied}
use Rattle.merge_model.proofs.Lists.{all-append, all-filter, all-kept, all-map, all-of}
use Rattle.merge_model.proofs.Publishers.Sorted.{key_total}
use Rattle.merge_typed.specs.Typed.{BodyIsTyped}
use Rattle.merge_stored.specs.Entries.{Ascends, room_of, times_kept, total_kept}
use Rattle.merge_stored.proofs.Generations.{kept-ascends, open-ascends, times-open, times-weigh}
use Rattle.merge_stored.proofs.Outstanding.{closed-up}
use Rattle.merge_stored.proofs.SubscriberRows.{Rows, above-shrinks, closed-room, entered-room, gens-ascend, items-shrink, put-total}
use Rattle.merge_stored.proofs.AnyReply.Rows.{HasOpened, Opened, RowIs, RowsStand}
use Rattle.merge_stored.proofs.AnyReply.Versions.{OwnStands, own-later}

opened-later : (last later : ℕ) → last ≤ later → (xs : List ℕ) → Opened last xs → Opened later xs
opened-later last later up xs opened = (opened.0, all-weaker (HasOpened last) (HasOpened later) (λ g low. omega (arith, low, up)) xs opened.1)

module _ (publication : Publication) where
  abbrev Is : ℕ → ℕ → ℕ → Key × SubscriberRow → Type 0
  Is site changes last row = RowIs publication site changes last row

  pub rows-later : (site changes more last later : ℕ) → changes ≤ more → last ≤ later → (rows : Rows) → AllByRecursion (Is site changes last) rows → AllByRecursion (Is site more later) rows
  rows-later site changes more last later counted up rows all = all-weaker (Is site changes last) (Is site more later)
      (λ row is. (own-later publication site changes more counted row.0 row.1.version is.0, (is.1.0, opened-later last later up row.1.generations is.1.1))) rows all

  -- A generation closes.

  pub closed-rows : (s : SubscriberTables) → s.gens.filling.filled < entry_limit → RowsStand publication s → RowsStand publication (subscriber_closed s)
  closed-rows s low b = record {
    ascending = b.ascending;
    each = rows-later s.site.0 s.changes s.changes (subscriber_last_closed s) (fill.filling_after_close s.gens.filling).last_closed (omega arith) (closed-up s.gens.filling) s.rows b.each;
    room = λ g above. (let up = b.room g above in let room = closed-room s.gens.filling g low in omega (arith, up, room));
  }

  -- How far the publisher is.

  above-keys : (received : ℕ) (rows : Rows) → keys_of (map (row_above received) rows) ≡ keys_of rows
  above-keys received [] = refl
  above-keys received (row ∷ rows) = ap (λ (ks : List Key). row.0 ∷ ks) (above-keys received rows)

  above-each : (site changes last received : ℕ) (rows : Rows) → AllByRecursion (Is site changes last) rows → AllByRecursion (Is site changes last) (map (row_above received) rows)
  above-each site changes last received rows all =
      let keep : ℕ → Bool = λ g. nat_lt received g in
      all-map (Is site changes last) (Is site changes last) (row_above received)
      (λ row is. (is.0, (is.1.0, (kept-ascends keep row.1.generations is.1.1.0, all-filter (HasOpened last) keep row.1.generations is.1.1.1)))) rows all

  pub received-rows : (received : ℕ) (s : SubscriberTables) → s.received ≤ received → RowsStand publication s → RowsStand publication (with_received received s)
  received-rows received s up b = record {
    ascending = subst (λ (ks : List Key). IsStrictlySortedBy key_cmp ks) (sym (above-keys received s.rows)) b.ascending;
    each = above-each s.site.0 s.changes (subscriber_last_closed s) received s.rows b.each;
    room = λ g above. (
        let low = b.room g (omega (arith, up, above)) in
        let sums = (above-shrinks received s.rows).sums (times_kept g) (times-weigh g) in omega (arith, low, sums));
  }

  -- Rows that are put and dropped.

  dropped-by : (P : Key × SubscriberRow → Type 0) (b : Bool) (row : Key × SubscriberRow) (rows more : Rows) → P row → AllByRecursion P rows → AllByRecursion P more → AllByRecursion P (cond b rows (row ∷ more))
  dropped-by P true row rows more here all others = all
  dropped-by P false row rows more here all others = (here, others)

  all-dropped : (P : Key × SubscriberRow → Type 0) (test : Key → Bool) (rows : Rows) → AllByRecursion P rows → AllByRecursion P (remove_entry test rows)
  all-dropped P test [] all = tt
  all-dropped P test (row ∷ rows) all = dropped-by P (test row.0) row rows (remove_entry test rows) all.0 all.1 (all-dropped P test rows all.1)

  row-put : (site changes last : ℕ) (key : Key) (row : SubscriberRow) (rows : Rows) → Is site changes last (key, row) → AllByRecursion (Is site changes last) rows → AllByRecursion (Is site changes last) (put_row rows key row)
  row-put site changes last key row rows new all = all-put (Is site changes last) key_cmp key row (λ q tied. subst (λ (k : Key). Is site changes last (k, row)) (keys-tied key q tied) new) new rows all

  -- what is put by an order
  abbrev pub OrderStands : ℕ → ℕ → Key → Order → Type 0
  OrderStands site changes key (order.Put lineage live) = OwnStands publication site changes key (record { lineage = lineage; body = Live live }) × BodyIsTyped (Live live)
  OrderStands site changes key order.RemoveDeleted = Unit {0}
  OrderStands site changes key order.RemoveLeft = Unit {0}

  ordered-each : (site changes last : ℕ) (key : Key) (act : Order) (rows : Rows) → OrderStands site changes key act → AllByRecursion (Is site changes last) rows → AllByRecursion (Is site changes last) (with_order key act rows)
  ordered-each site changes last key (order.Put lineage live) rows new all = row-put site changes last key (record { version = record { lineage = lineage; body = Live live }; generations = [] }) rows (new.0, (new.1, (refl, tt))) all
  ordered-each site changes last key order.RemoveDeleted rows new all = all-dropped (Is site changes last) (is_at (key_cmp key)) rows all
  ordered-each site changes last key order.RemoveLeft rows new all = all-dropped (Is site changes last) (is_at (key_cmp key)) rows all

  ordered-sorted : (key : Key) (act : Order) (rows : Rows) → IsStrictlySortedBy key_cmp (keys_of rows) → IsStrictlySortedBy key_cmp (keys_of (with_order key act rows))
  ordered-sorted key (order.Put lineage live) rows sorted = sorted_put key_cmp key_total key _ rows sorted
  ordered-sorted key order.RemoveDeleted rows sorted = sorted_take key_cmp key_total (is_at (key_cmp key)) rows sorted
  ordered-sorted key order.RemoveLeft rows sorted = sorted_take key_cmp key_total (is_at (key_cmp key)) rows sorted

  if-holds : (P : Rows → Type 0) (b : Bool) (one other : Rows) → P one → P other → P (if b then one else other)
  if-holds P true one other is more = is
  if-holds P false one other is more = more

  items-each : (site changes last : ℕ) (judge : SubscriberJudge) (received : ℕ) (items : List DownloadItem) (rows : Rows) → AllByRecursion (λ (item : DownloadItem). OrderStands site changes (key_of_download item) item.act) items → AllByRecursion (Is site changes last) rows
      → AllByRecursion (Is site changes last) (fold (with_item judge received) rows items)
  items-each site changes last judge received [] rows news all = all
  items-each site changes last judge received (item ∷ items) rows news all = items-each site changes last judge received items (with_item judge received rows item) news.1
      (if-holds (λ (rs : Rows). AllByRecursion (Is site changes last) rs) (judge.is_unsent received (key_of_download item)) rows (with_order (key_of_download item) item.act rows) all (ordered-each site changes last (key_of_download item) item.act rows news.0 all))

  items-sorted : (judge : SubscriberJudge) (received : ℕ) (items : List DownloadItem) (rows : Rows) → IsStrictlySortedBy key_cmp (keys_of rows) → IsStrictlySortedBy key_cmp (keys_of (fold (with_item judge received) rows items))
  items-sorted judge received [] rows sorted = sorted
  items-sorted judge received (item ∷ items) rows sorted = items-sorted judge received items (with_item judge received rows item)
      (if-holds (λ (rs : Rows). IsStrictlySortedBy key_cmp (keys_of rs)) (judge.is_unsent received (key_of_download item)) rows (with_order (key_of_download item) item.act rows) sorted (ordered-sorted (key_of_download item) item.act rows sorted))

  pub items-rows : (judge : SubscriberJudge) (m : Downloaded) (s : SubscriberTables) → AllByRecursion (λ (item : DownloadItem). OrderStands s.site.0 s.changes (key_of_download item) item.act) m.items → RowsStand publication s → RowsStand publication (with_items judge m s)
  items-rows judge m s news b = record {
    ascending = items-sorted judge m.received m.items s.rows b.ascending;
    each = items-each s.site.0 s.changes (subscriber_last_closed s) judge m.received m.items s.rows news b.each;
    room = λ g above. (let low = b.room g above in let sums = (items-shrink judge m.received m.items s.rows).sums (times_kept g) (times-weigh g) in omega (arith, low, sums));
  }

  -- A local change.

  entered-rises : (filling : Filling) → filling.last_closed ≤ (fill.filled_by filling 1).last_closed
  entered-rises filling = omega arith

  open-opened : (last later : ℕ) (xs : List ℕ) → last ≤ later → numbers_ascend xs ≡ true → Opened later (with_open (last + 1) xs)
  open-opened last later xs up ascend = (
    open-ascends (last + 1) xs ascend,
    all-append (HasOpened later) (filter (λ (g : ℕ). nat_lt g (last + 1)) xs) ((last + 1) ∷ [])
        (all-kept (HasOpened later) (λ (g : ℕ). nat_lt g (last + 1)) xs (all-of (λ (g : ℕ). nat_lt g (last + 1) ≡ true → HasOpened later g) (λ g low. (let less : g < last + 1 = grind (arith, nat_tests, low) in omega (arith, less, up))) xs))
        ((let here : last + 1 ≤ later + 1 = omega (arith, up) in here), tt),
  )

  -- the version that it makes, where it makes one
  abbrev pub OfVersion : ℕ → ℕ → Key → Option Version → Type 0
  OfVersion site changes key None = Unit {0}
  OfVersion site changes key (Some version) = OwnStands publication site changes key version × BodyIsTyped version.body

  pub changed-rows : (key : Key) (found : Option Version) (held : List (ℕ × Holder)) (s : SubscriberTables) → s.gens.filling.filled < entry_limit → OfVersion s.site.0 (s.changes + 1) key found → RowsStand publication s
      → (let u : SubscriberTables = record s { changes = s.changes + 1; held = held } in RowsStand publication (with_version_if key found u))
  changed-rows key None held s low new b = record {
    ascending = b.ascending;
    each = rows-later s.site.0 s.changes (s.changes + 1) (subscriber_last_closed s) (subscriber_last_closed s) (omega arith) (omega arith) s.rows b.each;
    room = b.room;
  }
  changed-rows key (Some version) held s low new b =
      let current : ℕ = subscriber_last_closed s + 1 in
      let later : ℕ = (fill.filled_by s.gens.filling 1).last_closed in
      let gens : List ℕ = generations_at s key in
      let ascend : numbers_ascend gens ≡ true = gens-ascend key s.rows (all-weaker (Is s.site.0 s.changes (subscriber_last_closed s)) Ascends (λ row is. is.1.1.0) s.rows b.each) in
      let row : SubscriberRow = record { version = version; generations = with_open current gens } in
      record {
        ascending = sorted_put key_cmp key_total key row s.rows b.ascending;
        each = row-put s.site.0 (s.changes + 1) later key row s.rows (new.0, (new.1, open-opened (subscriber_last_closed s) later gens (entered-rises s.gens.filling) ascend))
            (rows-later s.site.0 s.changes (s.changes + 1) (subscriber_last_closed s) later (omega arith) (entered-rises s.gens.filling) s.rows b.each);
        room = λ g above. (
            let sums = put-total (times_kept g) (cond (g == current) 1 0) key version current s.rows b.ascending refl (times-open g current gens) in
            let up = b.room g above in
            let room = entered-room s.gens.filling g low in omega (arith, sums, up, room));
      }

-- All is dropped.

pub no-rows : (publication : Publication) (t : SubscriberTables) → t.rows ≡ [] → RowsStand publication t
unfolding IsStrictlySortedBy
no-rows publication t none = record {
  ascending = subst (λ (rows : Rows). IsStrictlySortedBy key_cmp (keys_of rows)) (sym none) tt;
  each = subst (λ (rows : Rows). AllByRecursion (RowIs publication t.site.0 t.changes (subscriber_last_closed t)) rows) (sym none) tt;
  room = λ g above. subst (λ (rows : Rows). total_kept (times_kept g) rows ≤ room_of t.gens.filling g) (sym none) (omega arith);
}
