-- From what every version tells, and from what was known where changes were made: lineages stand for what is known.
use Rattle.std.specs.Prelude.{◌==◌, ℕ, List, [], ◌∷◌}
use Rattle.std.specs.List.{AllByRecursion, AllZip}
use Rattle.merge_units.specs.declared.version.Body.TheVariants.{Live}
use Rattle.merge_units.specs.declared.version.Version.{Version}
use Rattle.merge_conflict.specs.declared.row.ConflictRow.{ConflictRow}
use Rattle.merge_batch.specs.declared.reply.Act.{Act as Order}
use Rattle.merge_batch.specs.declared.reply.Act.TheVariants as order
use Rattle.merge_batch.specs.declared.reply.DownloadItem.{DownloadItem}
use Rattle.merge_batch.specs.declared.reply.Reply.TheVariants as reply
use Rattle.merge_batch.specs.declared.request.Request.TheVariants as request
use Rattle.merge_batch.specs.declared.request.UploadItem.{UploadItem}
use Rattle.merge_model.specs.Publisher.Acts.{key_of_item}
use Rattle.merge_model.specs.History.{History, Past, past_at, past_in}
use Rattle.merge_model.specs.History.Model.{Model}
use Rattle.merge_types.specs.declared.row_key.RowKey.{RowKey as Key}
use Rattle.merge_units.specs.declared.site_row.PublisherRow.{PublisherRow}
use Rattle.merge_units.specs.declared.site_row.SubscriberRow.{SubscriberRow}
use Rattle.merge_model.specs.Subscriber.Taking.{key_of_download}
use Rattle.merge_model.specs.declared.letter.Message.TheVariants.{Asks, Replies}
use Rattle.merge_model.specs.declared.letter.Letter.{Letter}
use Rattle.merge_model.specs.declared.letter.Message.{Message}
use Rattle.merge_laws.specs.Facts.Knowledge.{AllKnow, Knowledge, Knows, RowKnows}
use Rattle.merge_laws.specs.Facts.LineagesStand.{AllTold, EveryVersion, LineagesStand, OfMessage, OfOrder, Owns, counts_in, lost_at}
use Rattle.merge_laws.specs.Facts.Standing.{StandsFor, Told}
use Rattle.merge_model.proofs.Lists.Finding.{all-weaker}
use Rattle.merge_laws.proofs.Known.KnownRows.{held-knows, past-knows}
use Rattle.merge_model.proofs.Lists.{all-filter}
use Rattle.merge_laws.proofs.Lineages.Standing.{telling-stands}

-- A fact of every version, under what its past knows.
module _ (h : History) (k : Knowledge h) (P Q : Key → Version → Past → Type 0) (each : (key : Key) (version : Version) (past : Past) → Knows h.made key past.known → P key version past → Q key version past) where
  order-each : (key : Key) (past : Past) (o : Order) → Knows h.made key past.known → OfOrder P key past o → OfOrder Q key past o
  order-each key past (order.Put lineage live) knows p = each key (record { lineage = lineage; body = Live live }) past knows p
  order-each key past order.RemoveDeleted knows p = tt
  order-each key past order.RemoveLeft knows p = tt

  message-each : (pasts : List (Key × Past)) (message : Message) → AllKnow h.made pasts → OfMessage P pasts message → OfMessage Q pasts message
  message-each pasts (Asks (request.Upload m)) all p =
      all-weaker (λ (item : UploadItem). P (key_of_item item) item.version (past_in pasts (key_of_item item))) (λ (item : UploadItem). Q (key_of_item item) item.version (past_in pasts (key_of_item item)))
      (λ item here. each (key_of_item item) item.version (past_in pasts (key_of_item item)) (past-knows h.made (key_of_item item) pasts all) here) m.items p
  message-each pasts (Asks (request.Join m)) all p = tt
  message-each pasts (Asks (request.Ranges m)) all p = tt
  message-each pasts (Asks (request.Download m)) all p = tt
  message-each pasts (Replies (reply.Downloaded m)) all p =
      all-weaker (λ (item : DownloadItem). OfOrder P (key_of_download item) (past_in pasts (key_of_download item)) item.act) (λ (item : DownloadItem). OfOrder Q (key_of_download item) (past_in pasts (key_of_download item)) item.act)
      (λ item here. order-each (key_of_download item) (past_in pasts (key_of_download item)) item.act (past-knows h.made (key_of_download item) pasts all) here) m.items p
  message-each pasts (Replies (reply.Joined m)) all p = tt
  message-each pasts (Replies (reply.Uploaded m)) all p = tt
  message-each pasts (Replies (reply.Ranged m)) all p = tt
  message-each pasts (Replies (reply.Refused number values)) all p = tt

  letters-each : (pool : List Letter) (letters : List (List (Key × Past))) → AllByRecursion (AllKnow h.made) letters
      → AllZip (λ (letter : Letter) (pasts : List (Key × Past)). OfMessage P pasts letter.message) pool letters → AllZip (λ (letter : Letter) (pasts : List (Key × Past)). OfMessage Q pasts letter.message) pool letters
  letters-each [] [] all p = tt
  letters-each [] (pasts ∷ letters) all p = p
  letters-each (letter ∷ pool) [] all p = p
  letters-each (letter ∷ pool) (pasts ∷ letters) all p = (message-each pasts letter.message all.0 p.0, letters-each pool letters all.1 p.1)

  lost-each : (rows : List ConflictRow) (lost : List (ℕ × (Key × Past))) → AllByRecursion (λ (entry : ℕ × (Key × Past)). RowKnows h.made entry.1) lost
      → AllZip (λ (row : ConflictRow) (entry : ℕ × (Key × Past)). P entry.1.0 row.losing entry.1.1) rows lost → AllZip (λ (row : ConflictRow) (entry : ℕ × (Key × Past)). Q entry.1.0 row.losing entry.1.1) rows lost
  lost-each [] [] all p = tt
  lost-each [] (entry ∷ lost) all p = p
  lost-each (row ∷ rows) [] all p = p
  lost-each (row ∷ rows) (entry ∷ lost) all p = (each entry.1.0 row.losing entry.1.1 all.0 p.0, lost-each rows lost all.1 p.1)

  lost-known : (site : ℕ) → AllByRecursion (λ (entry : ℕ × (Key × Past)). RowKnows h.made entry.1) (lost_at h site)
  lost-known site = all-filter (λ (entry : ℕ × (Key × Past)). RowKnows h.made entry.1) (λ (entry : ℕ × (Key × Past)). entry.0 == site) h.lost k.lost

every-each : (m : Model) (P Q : Key → Version → Past → Type 0) → Knowledge m.history → ((key : Key) (version : Version) (past : Past) → Knows m.history.made key past.known → P key version past → Q key version past)
    → EveryVersion P m → EveryVersion Q m
every-each m P Q k each e = record {
  publisher = all-weaker (λ (row : Key × PublisherRow). P row.0 row.1.version (past_at m.history 0 row.0)) (λ (row : Key × PublisherRow). Q row.0 row.1.version (past_at m.history 0 row.0))
      (λ row p. each row.0 row.1.version (past_at m.history 0 row.0) (held-knows m.history 0 row.0 k) p) m.world.publisher.rows e.publisher;
  subscribers = λ n s at. all-weaker (λ (row : Key × SubscriberRow). P row.0 row.1.version (past_at m.history n row.0)) (λ (row : Key × SubscriberRow). Q row.0 row.1.version (past_at m.history n row.0))
      (λ row p. each row.0 row.1.version (past_at m.history n row.0) (held-knows m.history n row.0 k) p) s.rows (e.subscribers n s at);
  letters = letters-each m.history k P Q each m.world.pool m.history.letters k.sent e.letters;
  conflicts = lost-each m.history k P Q each m.world.publisher.conflicts (lost_at m.history 0) (lost-known m.history k P Q each 0) e.conflicts;
  discards = λ n s at. lost-each m.history k P Q each s.conflicts (lost_at m.history n) (lost-known m.history k P Q each n) (e.discards n s at);
}

-- The law from the two parts of the invariant.
pub lineages-stand : (m : Model) → Knowledge m.history → AllTold m → Owns m → LineagesStand m
lineages-stand m k told owns = every-each m (λ (key : Key) (version : Version) (past : Past). Told version past.known) (λ (key : Key) (version : Version) (past : Past). StandsFor m.history.made (counts_in m) key version.lineage past.known) k
    (λ key version past knows t. telling-stands m.history.made (counts_in m) key version.lineage past.known knows t.tells owns.known.making) told
