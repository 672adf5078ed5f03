-- Messages within the limits of the product, and how long their bodies are at the most.
use Rattle.std.specs.Prelude.{ℕ, ◌≤◌, List, All, length}
use Rattle.merge_types.specs.Limits.{row_limit, item_limit}
use Rattle.merge_units.specs.Length.{stored_length, value_count}
use Rattle.merge_units.specs.declared.version.Body.{Body}
use Rattle.merge_units.specs.declared.version.Body.TheVariants.{Live, Dead}
use Rattle.merge_units.specs.declared.version.Cell.{Cell}
use Rattle.merge_types.specs.declared.identifiers.Dot.{Dot}
use Rattle.merge_batch.specs.declared.request.Request.{Request}
use Rattle.merge_batch.specs.declared.request.Request.TheVariants as request
use Rattle.merge_batch.specs.declared.request.UploadItem.{UploadItem}
use Rattle.merge_batch.specs.declared.reply.Reply.{Reply}
use Rattle.merge_batch.specs.declared.reply.Reply.TheVariants as reply
use Rattle.merge_batch.specs.declared.reply.DownloadItem.{DownloadItem}
use Rattle.merge_batch.specs.declared.reply.Act.{Act as Order}
use Rattle.merge_batch.specs.declared.reply.Act.TheVariants as order

-- the most bytes that a body has: those that a message over HTTP may have
abbrev pub body_limit : ℕ
body_limit = 134_217_728

-- there is the publisher, and at most 63 subscribers
abbrev pub IsShortLineage : List Dot → Type 0
IsShortLineage dots = length dots ≤ 64

-- an article has at most 64 columns
pub record AreShortCells (cells : List Cell) : Type 0 where
  pub few : length cells ≤ 64
  pub few_values : value_count cells ≤ 64
  pub short : stored_length cells ≤ row_limit

abbrev pub IsShortBody : Body → Type 0
IsShortBody (Live cells) = AreShortCells cells
IsShortBody (Dead top) = Unit {0}

abbrev pub IsShortItem : UploadItem → Type 0
IsShortItem i = IsShortLineage i.version.lineage × IsShortBody i.version.body

abbrev pub IsShortOrder : Order → Type 0
IsShortOrder (order.Put lineage cells) = IsShortLineage lineage × AreShortCells cells
IsShortOrder _ = Unit {0}

abbrev pub IsShortDownloadItem : DownloadItem → Type 0
IsShortDownloadItem i = IsShortOrder i.act

-- there are at most 32 articles
abbrev pub IsShortRequest : Request → Type 0
IsShortRequest (request.Upload upload) = (length upload.items ≤ item_limit) × All IsShortItem upload.items
IsShortRequest (request.Ranges ask) = length ask.wants ≤ 32
IsShortRequest _ = Unit {0}

abbrev pub IsShortReply : Reply → Type 0
IsShortReply (reply.Downloaded downloaded) = (length downloaded.items ≤ item_limit) × All IsShortDownloadItem downloaded.items
IsShortReply (reply.Ranged ranged) = (length ranged.grants ≤ 32) × (length ranged.ended ≤ 32)
IsShortReply _ = Unit {0}
