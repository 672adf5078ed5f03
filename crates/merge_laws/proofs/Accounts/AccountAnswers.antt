-- The publisher answers an ask: what it puts lives, with the chains that the publisher has of it.
use Rattle.std.specs.Prelude.{◌≡◌, ℕ, List, [], ◌∷◌, Bool, true, false, Option, Some, None, refl, cond, filter_map, is_some, option_map}
use Rattle.std.specs.BTreeMap.{is_at}
use Rattle.std.specs.List.{AllByRecursion, cons_option, list_any}
use Rattle.std.specs.List.Sorted.{IsStrictlySortedBy}
use Rattle.std.specs.Map.{keys_of}
use Rattle.std.proofs.Common.{arith, sym, ap, ◌∙◌}
use Rattle.std.proofs.lemmas.Map.Keys.{sorted_tail}
use Rattle.merge_types.specs.declared.identifiers.SiteId.{SiteId}
use Rattle.merge_units.specs.Version.{cells_of, is_live}
use Rattle.merge_units.specs.declared.version.Body.{Body}
use Rattle.merge_units.specs.declared.version.Body.TheVariants.{Dead, Live}
use Rattle.merge_units.specs.declared.version.Version.{Version}
use Rattle.merge_schema.specs.Partition.{LiveRow, partition_of}
use Rattle.merge_schema.specs.declared.publication.Publication.{Publication}
use Rattle.merge_schema.specs.declared.publication.Subscription.{Subscription}
use Rattle.merge_batch.specs.declared.reply.DownloadItem.{DownloadItem}
use Rattle.merge_batch.specs.declared.reply.Downloaded.{Downloaded}
use Rattle.merge_batch.specs.declared.reply.Reply.TheVariants as reply
use Rattle.merge_batch.specs.declared.request.Download.{Download}
use Rattle.merge_model.specs.Judge.ByHistory.{by_past}
use Rattle.merge_model.specs.Publisher.Entries.{key_of_live, keys_of as all_keys, live_row, live_rows, partition_keys}
use Rattle.merge_model.specs.History.{Chains, History, OfCells, OfDead, Past, past_at, pasts_at, pasts_with}
use Rattle.merge_model.specs.Judge.{PublisherJudge}
use Rattle.merge_types.specs.RowKeys.{key_cmp}
use Rattle.merge_model.specs.Tables.Keys.{has_key, row_at, same_key}
use Rattle.merge_model.specs.History.Model.{put_past}
use Rattle.merge_model.specs.History.Pasts.{cell_count}
use Rattle.merge_resolve.specs.Priorities.{subscription_at}
use Rattle.merge_model.specs.Publisher.PublisherDownload.{TouchedRow, inside_keys, item_of, reply_to, tables_after_download, touched_row}
use Rattle.merge_batch.specs.Orders.{order_by}
use Rattle.merge_model.specs.Publisher.PublisherLocal.{version_at}
use Rattle.merge_types.specs.declared.row_key.RowKey.{RowKey as Key}
use Rattle.merge_units.specs.declared.site_row.PublisherRow.{PublisherRow}
use Rattle.merge_model.specs.Tables.{PublisherTables}
use Rattle.merge_model.specs.Subscriber.Taking.{key_of_download}
use Rattle.merge_model.specs.World.{World, with_publisher}
use Rattle.merge_model.specs.declared.letter.Message.TheVariants.{Replies}
use Rattle.merge_laws.specs.Facts.Accounts.{Grown, GrownAlone, IsTraced, OfAccounts}
use Rattle.merge_laws.specs.Facts.LineagesStand.{OfOrder}
use Rattle.merge_laws.proofs.Accounts.AccountBase.{Base}
use Rattle.merge_laws.proofs.Accounts.AccountNotes.{none-traced, post-accounts}
use Rattle.merge_model.proofs.Entries.Downloads.{any-map, inside-live, live-held}
use Rattle.merge_model.proofs.Lists.Finding.{some_same}
use Rattle.merge_model.proofs.Lists.KeyLookUps.{key-test, none-behind}
use Rattle.merge_laws.proofs.Letters.LetterPasts.{orders-past, orders-sent, removed-order}
use Rattle.merge_model.proofs.Lists.{OfSome, all-filter, all-filter_map, all-map, all-unit}
use Rattle.merge_laws.proofs.Walking.{Sends, here}

-- A row in a partition lives.

abbrev is_among : Key → List LiveRow → Bool
is_among key live = list_any (λ (row : LiveRow). same_key key (key_of_live row)) live

head-lives : (key at : Key) (row found : PublisherRow) (body : Body) (live : List LiveRow) (rest : Option PublisherRow) (b : Bool) → is_at (key_cmp key) at ≡ b → row.version.body ≡ body → (b ≡ true → rest ≡ None) → (is_among key live ≡ true → is_some rest ≡ true)
    → (is_among key live ≡ true → rest ≡ Some found → is_live found.version.body ≡ true) → is_among key (cons_option (live_row at body) live) ≡ true → (let first : Option PublisherRow = cond b (Some row) rest in first ≡ Some found) → is_live found.version.body ≡ true
head-lives key at row found (Live cells) live rest true is lives none held more among same =
    let one : row ≡ found = some_same row found same in ap (λ (x : PublisherRow). is_live x.version.body) (sym one) ∙ ap is_live lives
head-lives key at row found (Dead top) live rest true is lives none held more among same = absurd (let no = none refl in let there = held among in grind (arith, no, there))
head-lives key at row found (Live cells) live rest false is lives none held more among same = more (grind (arith, key-test key at, is, among)) same
head-lives key at row found (Dead top) live rest false is lives none held more among same = more among same

pub among-lives : (key : Key) (rows : List (Key × PublisherRow)) (found : PublisherRow) → IsStrictlySortedBy key_cmp (keys_of rows) → is_among key (live_rows rows) ≡ true → row_at rows key ≡ Some found → is_live found.version.body ≡ true
among-lives key [] found sorted is at = absurd cc
among-lives key (row ∷ rows) found sorted is at = head-lives key row.0 row.1 found row.1.version.body (live_rows rows) (row_at rows key) (is_at (key_cmp key) row.0) refl refl (none-behind key row rows sorted) (live-held key rows)
    (among-lives key rows found (sorted_tail key_cmp row.0 (keys_of rows) sorted)) is at

inside-among : (publication : Publication) (found : Option Subscription) (key : Key) (rows : List (Key × PublisherRow)) → (let keys : List Key = elim found [ None ↦ [] | Some subscription ↦ partition_keys publication subscription rows ] in has_key keys key ≡ true)
    → is_among key (live_rows rows) ≡ true
inside-among publication None key rows is = absurd cc
inside-among publication (Some subscription) key rows is =
    let test : LiveRow → Bool = λ x. same_key key (key_of_live x) in
    inside-live publication subscription.host (live_rows rows) test (sym (any-map (same_key key) key_of_live (partition_of publication subscription.host (live_rows rows))) ∙ is)

module _ (publication : Publication) (w : World) (h : History) (number : ℕ) (site : SiteId) (m : Download) (b : Base publication w h) (a : OfAccounts publication w h) where
  abbrev judge : PublisherJudge
  judge = by_past h (pasts_with h number)

  abbrev q : PublisherTables
  q = tables_after_download m (here w)

  abbrev r : Downloaded
  r = reply_to publication judge m q

  abbrev P : Key → Version → Past → Type 0
  P key version past = GrownAlone (cell_count publication key.article) h.made key version.body past.chains

  -- a row that is put
  lives-grown : (cells : ℕ) (key : Key) (body : Body) (chains : Chains) → is_live body ≡ true → Grown cells h.made key body chains → GrownAlone cells h.made key (Live (cells_of body)) chains
  lives-grown cells key (Live body) (OfCells chains) lives grown = (grown, tt)
  lives-grown cells key (Live body) (OfDead chain) lives grown = absurd grown
  lives-grown cells key (Dead top) chains lives grown = absurd cc

  row-order : (key : Key) (is_in : Bool) (found : Option PublisherRow) → row_at q.rows key ≡ found → (is_in ≡ true → has_key (inside_keys publication m.site q) key ≡ true)
      → OfOrder P key (past_at h 0 key) (order_by is_in (option_map (λ (row : PublisherRow). row.version) found))
  row-order key true None at inside = tt
  row-order key false None at inside = tt
  row-order key false (Some row) at inside = removed-order P key (past_at h 0 key) (is_live row.version.body)
  row-order key true (Some row) at inside =
      let lives : is_live row.version.body ≡ true = among-lives key q.rows row b.0.sorted.rows_ascend (inside-among publication (subscription_at publication m.site.0) key q.rows (inside refl)) at in
      lives-grown (cell_count publication key.article) key row.version.body (past_at h 0 key).chains lives (a.publisher key row.version (ap (λ (found : Option PublisherRow). option_map (λ (x : PublisherRow). x.version) found) at))

  abbrev IsInside : TouchedRow → Type 0
  IsInside row = row.is_in ≡ true → has_key (inside_keys publication m.site q) row.key ≡ true

  touched-inside : (key : Key) (found : Option ℕ) → (let row : Option TouchedRow = option_map (λ (generation : ℕ). record { key = key; is_in = has_key (inside_keys publication m.site q) key; generation = generation }) found in OfSome IsInside row)
  touched-inside key None = tt
  touched-inside key (Some generation) = λ is. is

  orders : AllByRecursion (λ (item : DownloadItem). OfOrder P (key_of_download item) (past_at h 0 (key_of_download item)) item.act) r.items
  orders = all-map IsInside (λ (item : DownloadItem). OfOrder P (key_of_download item) (past_at h 0 (key_of_download item)) item.act) (item_of q) (λ row inside. row-order row.key row.is_in (row_at q.rows row.key) refl inside) _
      (all-filter IsInside _ _ (all-filter_map (λ (key : Key). Unit {0}) IsInside (touched_row judge m.site (inside_keys publication m.site q)) (λ key none. touched-inside key (judge.touch key m.site.0 (has_key (inside_keys publication m.site q) key)))
      (all_keys q.rows (judge.moved_rows m.site.0)) (all-unit (all_keys q.rows (judge.moved_rows m.site.0)))))

  abbrev sent_pasts : List (Key × Past)
  sent_pasts = filter_map (put_past (pasts_at h 0)) r.items

  pub answer-accounts : Sends (OfAccounts publication) site (Replies (reply.Downloaded r)) (with_publisher q w) h
  answer-accounts = post-accounts publication (version_at w.publisher) w.subscribers w.pool h a site (Replies (reply.Downloaded r))
      (orders-sent P (pasts_at h 0) r.items orders)
      (λ key. orders-past (λ (past : Past). IsTraced h key past) (pasts_at h 0) key r.items (none-traced publication (version_at w.publisher) w.subscribers w.pool h a key) (a.held 0 key)) tt
