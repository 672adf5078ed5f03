-- What the types of a message give, whoever made it: values are of their types, and so are the ends and the numbers of ranges and the
-- identifiers of rows. Neither lengths nor days are asked, nor that anything in it is true.
use Rattle.std.specs.List.{AllByRecursion}
use Rattle.std.specs.Prelude.{◌<◌, ◌^◌}
use Rattle.merge_units.specs.declared.version.Body.{Body}
use Rattle.merge_units.specs.declared.version.Body.TheVariants.{Dead, Live}
use Rattle.merge_units.specs.declared.version.Cell.{Cell}
use Rattle.merge_batch.specs.declared.reply.Act.{Act as Order}
use Rattle.merge_batch.specs.declared.reply.Act.TheVariants as order
use Rattle.merge_batch.specs.declared.reply.DownloadItem.{DownloadItem}
use Rattle.merge_batch.specs.declared.reply.Reply.{Reply}
use Rattle.merge_batch.specs.declared.reply.Reply.TheVariants as reply
use Rattle.merge_batch.specs.declared.request.Request.{Request}
use Rattle.merge_batch.specs.declared.request.Request.TheVariants as request
use Rattle.merge_batch.specs.declared.request.UploadItem.{UploadItem}
use Rattle.merge_typed.specs.Messages.{ToldIsTyped}
use Rattle.merge_typed.specs.Outside.{ValueIsTyped}

abbrev pub CellHasTypes : Cell → Type 0
CellHasTypes cell = AllByRecursion ValueIsTyped cell.values

-- to a publisher

abbrev pub BodyHasTypes : Body → Type 0
BodyHasTypes (Live cells) = AllByRecursion CellHasTypes cells
BodyHasTypes (Dead top) = Unit {0}

abbrev pub SentHasTypes : UploadItem → Type 0
SentHasTypes item = BodyHasTypes item.version.body

abbrev pub RequestHasTypes : Request → Type 0
RequestHasTypes (request.Upload m) = AllByRecursion SentHasTypes m.items
RequestHasTypes m = Unit {0}

-- to a subscriber

abbrev pub OrderHasTypes : Order → Type 0
OrderHasTypes (order.Put lineage live) = AllByRecursion CellHasTypes live
OrderHasTypes order.RemoveDeleted = Unit {0}
OrderHasTypes order.RemoveLeft = Unit {0}

abbrev pub ItemHasTypes : DownloadItem → Type 0
ItemHasTypes item = (item.row.0 < 2 ^ 128) × OrderHasTypes item.act

abbrev pub ReplyHasTypes : Reply → Type 0
ReplyHasTypes (reply.Ranged m) = AllByRecursion ToldIsTyped m.grants
ReplyHasTypes (reply.Downloaded m) = AllByRecursion ItemHasTypes m.items
ReplyHasTypes m = Unit {0}
