-- What is said of the versions in letters, with the pasts that the history has of them.
use Rattle.std.specs.Prelude.{◌≡◌, ℕ, zero, suc, List, [], Option, Some, None, refl, slice_get, unwrap_or}
use Rattle.std.specs.List.{AllByRecursion}
use Rattle.std.proofs.Common.{sym, ap, ◌∙◌}
use Rattle.merge_units.specs.declared.version.Body.TheVariants.{Live}
use Rattle.merge_units.specs.declared.version.Version.{Version}
use Rattle.merge_types.specs.declared.identifiers.SiteId.{SiteId}
use Rattle.merge_batch.specs.declared.reply.Act.{Act as Order}
use Rattle.merge_batch.specs.declared.reply.Act.TheVariants as order
use Rattle.merge_batch.specs.declared.reply.DownloadItem.{DownloadItem}
use Rattle.merge_batch.specs.declared.reply.Reply.TheVariants as reply
use Rattle.merge_batch.specs.declared.request.Request.TheVariants as request
use Rattle.merge_batch.specs.declared.request.UploadItem.{UploadItem}
use Rattle.merge_model.specs.Publisher.Acts.{key_of_item}
use Rattle.merge_model.specs.History.{History, Past, past_in, pasts_with}
use Rattle.merge_types.specs.declared.row_key.RowKey.{RowKey as Key}
use Rattle.merge_model.specs.Tables.{SubscriberTables}
use Rattle.merge_model.specs.Tables.Keys.{at_number}
use Rattle.merge_model.specs.Subscriber.Taking.{key_of_download}
use Rattle.merge_model.specs.World.{World}
use Rattle.merge_model.specs.declared.letter.Message.TheVariants.{Asks, Replies}
use Rattle.merge_model.specs.declared.letter.Letter.{Letter}
use Rattle.merge_model.specs.declared.letter.Message.{Message}
use Rattle.merge_laws.specs.Facts.LineagesStand.{OfMessage, OfOrder}
use Rattle.merge_laws.specs.Facts.Received.{MessageFits, Received, joined_at}
use Rattle.merge_model.proofs.Lists.Finding.{all-at, all-weaker}

got-all : (P : List (Key × Past) → Type 0) (found : Option (List (Key × Past))) (letters : List (List (Key × Past))) (k : ℕ) → slice_get letters k ≡ found → P [] → AllByRecursion P letters → P (unwrap_or found [])
got-all P None letters k at none all = none
got-all P (Some pasts) letters k at none all = all-at P letters k pasts at all

-- the pasts with it
pub pasts-all : (P : List (Key × Past) → Type 0) (h : History) (number : ℕ) → P [] → AllByRecursion P h.letters → P (pasts_with h number)
pasts-all P h zero none all = none
pasts-all P h (suc k) none all = got-all P (slice_get h.letters k) h.letters k refl none all

-- The versions of a message.
module _ (P Q : Key → Version → Past → Type 0) (weaker : (key : Key) (version : Version) (past : Past) → P key version past → Q key version past) where
  order-weaker : (key : Key) (past : Past) (o : Order) → OfOrder P key past o → OfOrder Q key past o
  order-weaker key past (order.Put lineage live) is = weaker key (record { lineage = lineage; body = Live live }) past is
  order-weaker key past order.RemoveDeleted is = tt
  order-weaker key past order.RemoveLeft is = tt

  pub message-weaker : (pasts : List (Key × Past)) (message : Message) → OfMessage P pasts message → OfMessage Q pasts message
  message-weaker pasts (Asks (request.Upload m)) all = all-weaker (λ (item : UploadItem). P (key_of_item item) item.version (past_in pasts (key_of_item item))) (λ (item : UploadItem). Q (key_of_item item) item.version (past_in pasts (key_of_item item)))
      (λ item is. weaker (key_of_item item) item.version (past_in pasts (key_of_item item)) is) m.items all
  message-weaker pasts (Replies (reply.Downloaded m)) all =
      all-weaker (λ (item : DownloadItem). OfOrder P (key_of_download item) (past_in pasts (key_of_download item)) item.act) (λ (item : DownloadItem). OfOrder Q (key_of_download item) (past_in pasts (key_of_download item)) item.act)
      (λ item is. order-weaker (key_of_download item) (past_in pasts (key_of_download item)) item.act is) m.items all
  message-weaker pasts (Asks (request.Join m)) all = tt
  message-weaker pasts (Asks (request.Ranges m)) all = tt
  message-weaker pasts (Asks (request.Download m)) all = tt
  message-weaker pasts (Replies (reply.Joined m)) all = tt
  message-weaker pasts (Replies (reply.Uploaded m)) all = tt
  message-weaker pasts (Replies (reply.Ranged m)) all = tt
  message-weaker pasts (Replies (reply.Refused number values)) all = tt

-- No upload in the pool is the publisher's.
abbrev pub IsOfSite : Message → Type 0
IsOfSite (Asks (request.Upload m)) = m.site.0 ≡ 0 → ⊥
IsOfSite message = Unit {0}

upload-away : (joined : ℕ) (site : SiteId) (found : Option SubscriberTables) (message : Message) → (site.0 ≡ 0 → found ≡ None) → MessageFits joined site found message → IsOfSite message
upload-away joined site None (Asks (request.Upload m)) none fits = absurd fits
upload-away joined site (Some s) (Asks (request.Upload m)) none fits = λ zero. absurd (let no : Some s ≡ None = none (sym (ap (λ (x : SiteId). x.0) fits.0) ∙ zero) in cc)
upload-away joined site found (Asks (request.Join m)) none fits = tt
upload-away joined site found (Asks (request.Ranges m)) none fits = tt
upload-away joined site found (Asks (request.Download m)) none fits = tt
upload-away joined site found (Replies m) none fits = tt

pub uploads-away : (w : World) (h : History) → Received w h → at_number w.subscribers 0 ≡ None → AllByRecursion (λ (letter : Letter). IsOfSite letter.message) w.pool
uploads-away w h r none = all-weaker (λ (letter : Letter). MessageFits (joined_at w.publisher letter.site) letter.site (at_number w.subscribers letter.site.0) letter.message) (λ (letter : Letter). IsOfSite letter.message)
    (λ letter fits. upload-away (joined_at w.publisher letter.site) letter.site (at_number w.subscribers letter.site.0) letter.message (λ zero. ap (λ (n : ℕ). at_number w.subscribers n) zero ∙ none) fits) w.pool r.letters
