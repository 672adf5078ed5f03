-- Messages that have a form: their days lie in the calendar's years, and their refusals are told.
use Rattle.std.specs.Prelude.{◌≡◌, All, Some, length}
use Rattle.merge_types.specs.Literal.{IsProper}
use Rattle.merge_units.specs.declared.version.Cell.{Cell}
use Rattle.merge_units.specs.declared.version.Body.{Body}
use Rattle.merge_units.specs.declared.version.Body.TheVariants.{Live, Dead}
use Rattle.merge_batch.specs.declared.request.Request.{Request}
use Rattle.merge_batch.specs.declared.request.Request.TheVariants as request
use Rattle.merge_batch.specs.declared.request.UploadItem.{UploadItem}
use Rattle.merge_batch.specs.declared.reply.Reply.{Reply}
use Rattle.merge_batch.specs.declared.reply.Reply.TheVariants as reply
use Rattle.merge_batch.specs.declared.reply.DownloadItem.{DownloadItem}
use Rattle.merge_batch.specs.declared.reply.Act.{Act as Order}
use Rattle.merge_batch.specs.declared.reply.Act.TheVariants as order
use Rattle.merge_json.specs.Replies.{field_count}

abbrev pub HasProperDays : Cell → Type 0
HasProperDays cell = All IsProper cell.values

abbrev pub IsProperBody : Body → Type 0
IsProperBody (Live cells) = All HasProperDays cells
IsProperBody (Dead top) = Unit {0}

abbrev pub IsProperItem : UploadItem → Type 0
IsProperItem i = IsProperBody i.version.body

abbrev pub IsProperAct : Order → Type 0
IsProperAct (order.Put lineage live) = All HasProperDays live
IsProperAct _ = Unit {0}

abbrev pub IsProperOrder : DownloadItem → Type 0
IsProperOrder i = IsProperAct i.act

abbrev pub IsSendableRequest : Request → Type 0
IsSendableRequest (request.Upload upload) = All IsProperItem upload.items
IsSendableRequest _ = Unit {0}

-- a refusal that is told has as many values as fields
abbrev pub IsSendableReply : Reply → Type 0
IsSendableReply (reply.Downloaded downloaded) = All IsProperOrder downloaded.items
IsSendableReply (reply.Refused n values) = field_count n ≡ Some (length values)
IsSendableReply _ = Unit {0}
