-- What is said of every lineage, wherever it is kept.
use Rattle.std.specs.Prelude.{◌≡◌, ◌≤◌, ℕ, List, Some}
use Rattle.std.specs.List.{AllByRecursion}
use Rattle.merge_types.specs.declared.identifiers.Dot.{Dot}
use Rattle.merge_lineage.specs.Lineage.{IsAscending, number_of}
use Rattle.merge_conflict.specs.declared.row.ConflictRow.{ConflictRow}
use Rattle.merge_batch.specs.declared.reply.Act.{Act as Order}
use Rattle.merge_batch.specs.declared.reply.Act.TheVariants as order
use Rattle.merge_batch.specs.declared.reply.DownloadItem.{DownloadItem}
use Rattle.merge_batch.specs.declared.reply.Reply.TheVariants as reply
use Rattle.merge_batch.specs.declared.request.Request.TheVariants as request
use Rattle.merge_batch.specs.declared.request.UploadItem.{UploadItem}
use Rattle.merge_model.specs.Tables.Keys.{at_number}
use Rattle.merge_types.specs.declared.row_key.RowKey.{RowKey as Key}
use Rattle.merge_units.specs.declared.site_row.PublisherRow.{PublisherRow}
use Rattle.merge_units.specs.declared.site_row.SubscriberRow.{SubscriberRow}
use Rattle.merge_model.specs.Tables.{PublisherTables, SubscriberTables}
use Rattle.merge_laws.specs.Facts.Knowledge.{changes_of}
use Rattle.merge_model.specs.World.{World}
use Rattle.merge_model.specs.declared.letter.Message.TheVariants.{Asks, Replies}
use Rattle.merge_model.specs.declared.letter.Letter.{Letter}
use Rattle.merge_model.specs.declared.letter.Message.{Message}

-- the sites ascend, and of none is a change known that it did not make
pub record IsOfMade (made : ℕ → ℕ) (lineage : List Dot) : Type 0 where
  pub ascends : IsAscending lineage
  pub within : (n : ℕ) → number_of lineage n ≤ made n

-- at the publisher and at a subscriber: of rows, and of versions that lost
abbrev pub OfLost : (List Dot → Type 0) → List ConflictRow → Type 0
OfLost Q conflicts = AllByRecursion (λ (row : ConflictRow). Q row.losing.lineage) conflicts

pub record OfPublisher (Q : List Dot → Type 0) (p : PublisherTables) : Type 0 where
  pub rows : AllByRecursion (λ (row : Key × PublisherRow). Q row.1.version.lineage) p.rows
  pub lost : OfLost Q p.conflicts

pub record OfSubscriber (Q : List Dot → Type 0) (s : SubscriberTables) : Type 0 where
  pub rows : AllByRecursion (λ (row : Key × SubscriberRow). Q row.1.version.lineage) s.rows
  pub lost : OfLost Q s.conflicts

-- in a message
abbrev pub OfOrder : (List Dot → Type 0) → Order → Type 0
OfOrder Q (order.Put lineage live) = Q lineage
OfOrder Q order.RemoveDeleted = Unit {0}
OfOrder Q order.RemoveLeft = Unit {0}

abbrev pub OfMessage : (List Dot → Type 0) → Message → Type 0
OfMessage Q (Asks (request.Upload m)) = AllByRecursion (λ (item : UploadItem). Q item.version.lineage) m.items
OfMessage Q (Replies (reply.Downloaded m)) = AllByRecursion (λ (item : DownloadItem). OfOrder Q item.act) m.items
OfMessage Q message = Unit {0}

pub record OfLineages (Q : List Dot → Type 0) (w : World) : Type 0 where
  pub publisher : OfPublisher Q w.publisher
  pub subscribers : (n : ℕ) (s : SubscriberTables) → at_number w.subscribers n ≡ Some s → OfSubscriber Q s
  pub letters : AllByRecursion (λ (letter : Letter). OfMessage Q letter.message) w.pool

abbrev pub LineagesAreMade : World → Type 0
LineagesAreMade w = OfLineages (IsOfMade (changes_of w)) w
