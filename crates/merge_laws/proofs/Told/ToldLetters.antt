-- The versions in letters with their pasts, as letters are made of rows.
use Rattle.std.specs.Prelude.{◌≡◌, ℕ, List, Bool, true, false, Option, Some, None, filter_map, map, option_map}
use Rattle.std.specs.List.{AllByRecursion, AllZip}
use Rattle.merge_units.specs.Version.{cells_of, is_live}
use Rattle.merge_units.specs.declared.version.Body.TheVariants.{Live}
use Rattle.merge_units.specs.declared.version.Version.{Version}
use Rattle.merge_batch.specs.declared.reply.DownloadItem.{DownloadItem}
use Rattle.merge_batch.specs.declared.request.UploadItem.{UploadItem}
use Rattle.merge_model.specs.Publisher.Acts.{key_of_item}
use Rattle.merge_model.specs.History.{History, Past, past_in, pasts_with}
use Rattle.merge_model.specs.History.Model.{past_of_item, put_past}
use Rattle.merge_model.specs.Publisher.PublisherDownload.{TouchedRow, item_of}
use Rattle.merge_batch.specs.Orders.{order_by}
use Rattle.merge_model.specs.Publisher.PublisherLocal.{version_at}
use Rattle.merge_model.specs.Subscriber.Sending.{upload_item}
use Rattle.merge_model.specs.Subscriber.{subscriber_version_at}
use Rattle.merge_types.specs.declared.row_key.RowKey.{RowKey as Key}
use Rattle.merge_model.specs.Tables.{PublisherTables, SubscriberTables}
use Rattle.merge_model.specs.Subscriber.Taking.{key_of_download}
use Rattle.merge_model.specs.World.{World, letter_at}
use Rattle.merge_model.specs.declared.letter.Letter.{Letter}
use Rattle.merge_laws.specs.Facts.LineagesStand.{OfMessage, OfOrder}
use Rattle.merge_model.proofs.Lists.Finding.{letter-zip}
use Rattle.merge_laws.proofs.Letters.LetterPasts.{items-sent, orders-sent, removed-order}
use Rattle.merge_model.proofs.Lists.{OfSome, all-filter_map, all-map, all-unit}
use Rattle.merge_laws.proofs.Told.ToldRows.{AllFit, HeldFits}

module _ (P : Key → Version → Past → Type 0) where
  -- Uploads.

  abbrev ItemFits : List (Key × Past) → UploadItem → Type 0
  ItemFits pasts item = P (key_of_item item) item.version (past_in pasts (key_of_item item))

  item-made : (s : SubscriberTables) (pasts : List (Key × Past)) (entry : Key × ℕ) (found : Option Version) → HeldFits P entry.0 found (past_in pasts entry.0)
      → OfSome (ItemFits pasts) (option_map (λ (version : Version). record { article = entry.0.article; row = entry.0.row; generation = entry.1; version = version }) found)
  item-made s pasts entry None fits = tt
  item-made s pasts entry (Some version) fits = fits

  -- the items that a site makes of its rows
  pub sent-fit : (s : SubscriberTables) (pasts : List (Key × Past)) (rows : List (Key × ℕ)) → AllFit P (subscriber_version_at s) (past_in pasts)
      → (let items : List UploadItem = filter_map (upload_item s) rows in AllByRecursion (ItemFits (map (past_of_item pasts) items)) items)
  sent-fit s pasts rows fits =
      items-sent (λ (item : UploadItem) (past : Past). P (key_of_item item) item.version past) pasts (filter_map (upload_item s) rows)
      (all-filter_map (λ (row : Key × ℕ). Unit {0}) (ItemFits pasts) (upload_item s) (λ row unit. item-made s pasts row (subscriber_version_at s row.0) (fits row.0)) rows (all-unit rows))

  -- Replies.

  abbrev OrderFits : List (Key × Past) → DownloadItem → Type 0
  OrderFits pasts item = OfOrder P (key_of_download item) (past_in pasts (key_of_download item)) item.act

  module _ (put : (key : Key) (version : Version) (past : Past) → P key version past → P key (record { lineage = version.lineage; body = Live (cells_of version.body) }) past) where
    order-made : (key : Key) (past : Past) (is_in : Bool) (found : Option Version) → HeldFits P key found past → OfOrder P key past (order_by is_in found)
    order-made key past true (Some version) fits = put key version past fits
    order-made key past false (Some version) fits = removed-order P key past (is_live version.body)
    order-made key past true None fits = tt
    order-made key past false None fits = tt

    -- the items that the publisher makes of its rows
    pub put-fit : (p : PublisherTables) (pasts : List (Key × Past)) (rows : List TouchedRow) → AllFit P (version_at p) (past_in pasts)
        → (let items : List DownloadItem = map (item_of p) rows in AllByRecursion (OrderFits (filter_map (put_past pasts) items)) items)
    put-fit p pasts rows fits =
        orders-sent P pasts (map (item_of p) rows)
        (all-map (λ (row : TouchedRow). Unit {0}) (OrderFits pasts) (item_of p) (λ row unit. order-made row.key (past_in pasts row.key) row.is_in (version_at p row.key) (fits row.key)) rows (all-unit rows))

  -- The letter that comes.

  pub letter-fits : (w : World) (h : History) (number : ℕ) (letter : Letter) → letter_at w number ≡ Some letter → AllZip (λ (x : Letter) (pasts : List (Key × Past)). OfMessage P pasts x.message) w.pool h.letters
      → OfMessage P (pasts_with h number) letter.message
  letter-fits w h number letter at all = letter-zip (λ (x : Letter) (pasts : List (Key × Past)). OfMessage P pasts x.message) w h number letter all at
