-- Rows with their pasts: what is known of each, where some are put, dropped and found.
use Rattle.std.specs.Prelude.{◌≡◌, ℕ, zero, suc, List, [], ◌∷◌, Bool, true, false, Option, Some, None, refl, cond, map, filter_map, unwrap_or, slice_get}
use Rattle.std.specs.List.{AllByRecursion}
use Rattle.std.specs.BTreeMap.{is_at}
use Rattle.std.specs.Ordering.{is_eq, nat_cmp}
use Rattle.std.proofs.Common.{subst, sym, ap}
use Rattle.merge_types.specs.declared.identifiers.SiteId.{SiteId}
use Rattle.merge_batch.specs.declared.reply.Act.{Act as Order}
use Rattle.merge_batch.specs.declared.reply.Act.TheVariants as order
use Rattle.merge_batch.specs.declared.reply.DownloadItem.{DownloadItem}
use Rattle.merge_batch.specs.declared.reply.Reply.TheVariants as reply
use Rattle.merge_batch.specs.declared.request.Request.TheVariants as request
use Rattle.merge_batch.specs.declared.request.UploadItem.{UploadItem}
use Rattle.merge_model.proofs.Entries.EntryLists.{all-put}
use Rattle.merge_model.specs.Publisher.Acts.{key_of_item}
use Rattle.merge_model.specs.History.{History, MadeChange, Past, no_past, past_at, past_in, pasts_at, pasts_with}
use Rattle.merge_types.specs.RowKeys.{key_cmp}
use Rattle.merge_model.specs.Tables.Keys.{at_number, drop_row, put_number, put_row, row_at}
use Rattle.merge_model.specs.History.Model.{past_of_item, pasts_in, put_past}
use Rattle.merge_types.specs.declared.row_key.RowKey.{RowKey as Key}
use Rattle.merge_model.specs.Subscriber.Taking.{key_of_download}
use Rattle.merge_model.specs.declared.letter.Message.TheVariants.{Asks, Replies}
use Rattle.merge_model.specs.declared.letter.Message.{Message}
use Rattle.merge_laws.specs.Facts.Knowledge.{AllKnow, Knowledge, Knows, RowKnows}
use Rattle.merge_model.proofs.Lists.Finding.{all-at}
use Rattle.merge_model.proofs.Lists.KeyLookUps.{keys-exact}
use Rattle.merge_laws.proofs.Known.Knowing.{knows-nothing}

drop-test : {X : Type 0} (P : X → Type 0) (b : Bool) (e : X) (rest more : List X) → P e → AllByRecursion P rest → AllByRecursion P more → AllByRecursion P (cond b rest (e ∷ more))
drop-test P true e rest more here all others = all
drop-test P false e rest more here all others = (here, others)

module _ (made : List MadeChange) where
  pub put-know : (key : Key) (past : Past) (rows : List (Key × Past)) → Knows made key past.known → AllKnow made rows → AllKnow made (put_row rows key past)
  put-know key past rows knows all = all-put (RowKnows made) key_cmp key past (λ q is. subst (λ (k : Key). Knows made k past.known) (keys-exact key q (ap is_eq is)) knows) knows rows all

  pub drop-know : (key : Key) (rows : List (Key × Past)) → AllKnow made rows → AllKnow made (drop_row rows key)
  drop-know key [] all = tt
  drop-know key (row ∷ rows) all = drop-test (RowKnows made) (is_at (key_cmp key) row.0) row rows (drop_row rows key) all.0 all.1 (drop-know key rows all.1)

  past-test : (b : Bool) (key : Key) (row : Key × Past) (rest : Option Past) → is_at (key_cmp key) row.0 ≡ b → RowKnows made row → Knows made key (unwrap_or rest no_past).known
      → Knows made key (let found : Option Past = cond b (Some row.1) rest in unwrap_or found no_past).known
  past-test true key row rest is knows more = subst (λ (k : Key). Knows made k row.1.known) (sym (keys-exact key row.0 is)) knows
  past-test false key row rest is knows more = more

  pub past-knows : (key : Key) (rows : List (Key × Past)) → AllKnow made rows → Knows made key (past_in rows key).known
  past-knows key [] all = knows-nothing made key
  past-knows key (row ∷ rows) all = past-test (is_at (key_cmp key) row.0) key row (row_at rows key) refl all.0 (past-knows key rows all.1)

  abbrev pub SitesKnow : List (ℕ × List (Key × Past)) → Type 0
  SitesKnow sites = AllByRecursion (λ (site : ℕ × List (Key × Past)). AllKnow made site.1) sites

  pub put-sites : (site : ℕ) (rows : List (Key × Past)) (sites : List (ℕ × List (Key × Past))) → AllKnow made rows → SitesKnow sites → SitesKnow (put_number sites site rows)
  put-sites site rows sites know all = all-put (λ (entry : ℕ × List (Key × Past)). AllKnow made entry.1) nat_cmp site rows (λ q is. know) know sites all

  site-test : (b : Bool) (rows : List (Key × Past)) (rest : Option (List (Key × Past))) → AllKnow made rows → AllKnow made (unwrap_or rest []) → AllKnow made (let found : Option (List (Key × Past)) = cond b (Some rows) rest in unwrap_or found [])
  site-test true rows rest know more = know
  site-test false rows rest know more = more

  pub site-know : (site : ℕ) (sites : List (ℕ × List (Key × Past))) → SitesKnow sites → AllKnow made (unwrap_or (at_number sites site) [])
  site-know site [] all = tt
  site-know site (entry ∷ sites) all = site-test (is_at (nat_cmp site) entry.0) entry.1 (at_number sites site) all.0 (site-know site sites all.1)

  -- the rows of a letter
  items-know : (pasts : List (Key × Past)) → AllKnow made pasts → (items : List UploadItem) → AllKnow made (map (past_of_item pasts) items)
  items-know pasts all [] = tt
  items-know pasts all (item ∷ items) = (past-knows (key_of_item item) pasts all, items-know pasts all items)

  order-knows : (pasts : List (Key × Past)) (item : DownloadItem) (items : List DownloadItem) (act : Order) → AllKnow made pasts → AllKnow made (filter_map (put_past pasts) items)
      → AllKnow made (filter_map (put_past pasts) (record item { act = act } ∷ items))
  order-knows pasts item items (order.Put lineage live) all rest = (past-knows (key_of_download item) pasts all, rest)
  order-knows pasts item items order.RemoveDeleted all rest = rest
  order-knows pasts item items order.RemoveLeft all rest = rest

  orders-know : (pasts : List (Key × Past)) → AllKnow made pasts → (items : List DownloadItem) → AllKnow made (filter_map (put_past pasts) items)
  orders-know pasts all [] = tt
  orders-know pasts all (item ∷ items) = order-knows pasts item items item.act all (orders-know pasts all items)

  letters-know : (pasts : Option (List (Key × Past))) → (letters : List (List (Key × Past))) (k : ℕ) → slice_get letters k ≡ pasts → AllByRecursion (AllKnow made) letters → AllKnow made (unwrap_or pasts [])
  letters-know None letters k is all = tt
  letters-know (Some pasts) letters k is all = all-at (AllKnow made) letters k pasts is all

-- what a site's rows know, those that a message takes with it, and those that come with a message
pub held-knows : (h : History) (site : ℕ) (key : Key) → Knowledge h → Knows h.made key (past_at h site key).known
held-knows h site key k = past-knows h.made key (pasts_at h site) (site-know h.made site h.pasts k.held)

pub message-knows : (h : History) (site : SiteId) (message : Message) → Knowledge h → AllKnow h.made (pasts_in h site message)
message-knows h site (Asks (request.Upload m)) k = items-know h.made (pasts_at h site.0) (site-know h.made site.0 h.pasts k.held) m.items
message-knows h site (Asks (request.Join m)) k = tt
message-knows h site (Asks (request.Ranges m)) k = tt
message-knows h site (Asks (request.Download m)) k = tt
message-knows h site (Replies (reply.Downloaded m)) k = orders-know h.made (pasts_at h 0) (site-know h.made 0 h.pasts k.held) m.items
message-knows h site (Replies (reply.Joined m)) k = tt
message-knows h site (Replies (reply.Uploaded m)) k = tt
message-knows h site (Replies (reply.Ranged m)) k = tt
message-knows h site (Replies (reply.Refused number values)) k = tt

pub letter-knows : (h : History) (number : ℕ) → Knowledge h → AllKnow h.made (pasts_with h number)
letter-knows h zero k = tt
letter-knows h (suc n) k = letters-know h.made (slice_get h.letters n) h.letters n refl k.sent
