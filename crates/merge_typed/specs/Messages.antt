-- Messages of which values and ranges are those of their types.
use Rattle.std.specs.List.{AllByRecursion}
use Rattle.std.specs.Prelude.{◌<◌, ◌^◌}
use Rattle.merge_ident.specs.declared.grants.Range.{Range}
use Rattle.merge_batch.specs.declared.reply.Act.{Act as Order}
use Rattle.merge_batch.specs.declared.reply.Act.TheVariants as order
use Rattle.merge_batch.specs.declared.reply.DownloadItem.{DownloadItem}
use Rattle.merge_batch.specs.declared.reply.RangeGrant.{RangeGrant}
use Rattle.merge_batch.specs.declared.reply.Reply.{Reply}
use Rattle.merge_batch.specs.declared.reply.Reply.TheVariants as reply
use Rattle.merge_batch.specs.declared.request.Request.{Request}
use Rattle.merge_batch.specs.declared.request.Request.TheVariants as request
use Rattle.merge_batch.specs.declared.request.UploadItem.{UploadItem}
use Rattle.merge_record.specs.Tables.{IsRange}
use Rattle.merge_model.specs.declared.letter.Letter.{Letter}
use Rattle.merge_model.specs.declared.letter.Message.{Message}
use Rattle.merge_model.specs.declared.letter.Message.TheVariants.{Asks, Replies}
use Rattle.merge_typed.specs.Typed.{BodyIsTyped, CellIsTyped}

-- the rows that a site sends, and that it is told to put
abbrev pub ItemIsTyped : UploadItem → Type 0
ItemIsTyped item = BodyIsTyped item.version.body

abbrev pub OrderIsTyped : Order → Type 0
OrderIsTyped (order.Put lineage live) = AllByRecursion CellIsTyped live
OrderIsTyped order.RemoveDeleted = Unit {0}
OrderIsTyped order.RemoveLeft = Unit {0}

-- a range that was granted, and its number
abbrev pub told_range : RangeGrant → Range
told_range told = record { begin = told.begin; end = told.end }

abbrev pub ToldIsTyped : RangeGrant → Type 0
ToldIsTyped told = IsRange (told_range told) × (told.number < 2 ^ 64)

abbrev pub RequestIsTyped : Request → Type 0
RequestIsTyped (request.Upload m) = AllByRecursion ItemIsTyped m.items
RequestIsTyped m = Unit {0}

abbrev pub ReplyIsTyped : Reply → Type 0
ReplyIsTyped (reply.Ranged m) = AllByRecursion ToldIsTyped m.grants
ReplyIsTyped (reply.Downloaded m) = AllByRecursion (λ (item : DownloadItem). OrderIsTyped item.act) m.items
ReplyIsTyped m = Unit {0}

abbrev pub MessageIsTyped : Message → Type 0
MessageIsTyped (Asks m) = RequestIsTyped m
MessageIsTyped (Replies m) = ReplyIsTyped m

abbrev pub LetterIsTyped : Letter → Type 0
LetterIsTyped letter = MessageIsTyped letter.message
