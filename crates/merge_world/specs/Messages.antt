-- The messages that a subscriber makes, as requests.
use Rattle.std.specs.Prelude.{Err, None, Ok, Option, Result, Some}
use Rattle.merge_types.specs.declared.identifiers.Moment.{Moment}
use Rattle.merge_batch.specs.declared.refusal.Refusal.{Refusal}
use Rattle.merge_batch.specs.declared.request.Request.{Request}
use Rattle.merge_batch.specs.declared.request.Request.TheVariants as request
use Rattle.merge_model.specs.Judge.ByNumbers.{by_rows}
use Rattle.merge_model.specs.Subscriber.Sending.{make_ask, make_join, make_ranges, make_upload}
use Rattle.merge_model.specs.World.Steps.{SendDownload, SendJoin, SendRanges, SendUpload, Sending}
use Rattle.merge_model.specs.Tables.{SubscriberTables}
use Rattle.merge_world.specs.declared.sending.Sending.{Sending as Told}
use Rattle.merge_world.specs.declared.sending.Sending.TheVariants as told

-- what is sent, in the model's word
abbrev pub sending_of : Told → Sending
sending_of told.Join = SendJoin
sending_of told.Upload = SendUpload
sending_of told.Ranges = SendRanges
sending_of told.Download = SendDownload

abbrev pub as_any_request : {T A : Type 0} → (A → Request) → Option (T × A) → Option (T × Request)
as_any_request message None = None
as_any_request message (Some made) = Some (made.0, message made.1)

abbrev pub as_request : {T A : Type 0} → (A → Request) → Result (Option (T × A)) Refusal → Result (Option (T × Request)) Refusal
as_request message (Ok made) = Ok (as_any_request message made)
as_request message (Err refusal) = Err refusal

abbrev pub some_if_made : {T A : Type 0} → Result (T × A) Refusal → Result (Option (T × A)) Refusal
some_if_made (Ok made) = Ok (Some made)
some_if_made (Err refusal) = Err refusal

-- the request that a subscriber makes, and its tables behind it, where it has one to make
abbrev pub request_of_sending : Sending → Moment → SubscriberTables → Result (Option (SubscriberTables × Request)) Refusal
request_of_sending SendJoin now s = as_request request.Join (make_join s)
request_of_sending SendUpload now s = as_request request.Upload (make_upload (by_rows s) now s)
request_of_sending SendRanges now s = as_request request.Ranges (make_ranges s)
request_of_sending SendDownload now s = as_request request.Download (some_if_made (make_ask s))
