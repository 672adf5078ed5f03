-- Requests of the pool as they come to the publisher, and what they are refused for.
use Rattle.std.specs.Prelude.{Bool, Option, Some, false, true, ◌==◌, ◌≡◌, ℕ}
use Rattle.merge_types.specs.declared.identifiers.Moment.{Moment}
use Rattle.merge_types.specs.declared.identifiers.SiteId.{SiteId}
use Rattle.merge_schema.specs.declared.publication.Publication.{Publication}
use Rattle.merge_batch.specs.declared.refusal.Refusal.{Refusal}
use Rattle.merge_batch.specs.declared.refusal.Refusal.TheVariants.{BadBatch, CounterEnd, Expired, Gap, NotJoined, Stale, TooManyRows, UnknownSite, WrongWatermark}
use Rattle.merge_batch.specs.declared.request.Request.{Request}
use Rattle.merge_batch.specs.declared.request.Request.TheVariants as request
use Rattle.merge_model.specs.Judge.{PublisherJudge}
use Rattle.merge_model.specs.History.Model.{Model}
use Rattle.merge_model.specs.Publisher.PublisherDownload.{download_refusal}
use Rattle.merge_model.specs.Publisher.PublisherJoin.{join_refusal}
use Rattle.merge_model.specs.Publisher.PublisherRanges.{ranges_refusal}
use Rattle.merge_model.specs.Publisher.PublisherUpload.{upload_refusal}
use Rattle.merge_model.specs.Tables.{PublisherTables}
use Rattle.merge_model.specs.World.{Saying, letter_at}
use Rattle.merge_model.specs.declared.letter.Message.TheVariants.{Asks}
use Rattle.merge_model.specs.declared.outcome.Outcome.TheVariants.{Refuses}
use Rattle.merge_laws.specs.Laws.ActsOnce.{step_of_delivery}
use Rattle.merge_laws.specs.Laws.Effects.{history_judge}

-- a letter of the pool is a request
abbrev pub IsRequest : Model → ℕ → SiteId → Request → Type 0
IsRequest m number site r = letter_at m.world number ≡ Some (record { site = site; message = Asks r })

-- why the publisher refuses a request, none where it takes it
abbrev pub refusal_of : Publication → PublisherJudge → Moment → Request → PublisherTables → Option Refusal
refusal_of publication judge now (request.Join m) p = join_refusal publication m p
refusal_of publication judge now (request.Upload m) p = upload_refusal publication judge now m p
refusal_of publication judge now (request.Ranges m) p = ranges_refusal publication judge now m p
refusal_of publication judge now (request.Download m) p = download_refusal publication now m p

-- No delivery of a request of the pool is refused for what a test says.
abbrev pub NoneIsRefusedFor : (Refusal → Bool) → Publication → Saying → Model → Type 0
NoneIsRefusedFor test publication says m = (number : ℕ) (site : SiteId) (r : Request) (why : Refusal) → IsRequest m number site r → (step_of_delivery publication says m number).1 ≡ Refuses why → test why ≡ false

-- the tests

abbrev pub is_gap : Refusal → Bool
is_gap (Gap from received) = true
is_gap other = false

abbrev pub is_wrong_watermark : Refusal → Bool
is_wrong_watermark (WrongWatermark from last) = true
is_wrong_watermark other = false

abbrev pub is_unknown_site : Refusal → Bool
is_unknown_site (UnknownSite site) = true
is_unknown_site other = false

abbrev pub is_not_joined : Refusal → Bool
is_not_joined NotJoined = true
is_not_joined other = false

-- this rule of messages is broken
abbrev pub breaks : ℕ → Refusal → Bool
breaks rule (BadBatch item broken) = broken == rule
breaks rule other = false

-- What a request may not be refused for: anything but expiry, a join behind it, too many rows, and a counter's end.
abbrev pub is_unexpected : Refusal → Bool
is_unexpected (Expired last_sync now) = false
is_unexpected (Stale seq joined_at) = false
is_unexpected (TooManyRows count) = false
is_unexpected (CounterEnd value) = false
is_unexpected other = true

-- A delivery that is refused tells the first of the publisher's reasons.
abbrev pub FirstReasonIsTold : Type 0
FirstReasonIsTold = (publication : Publication) (says : Saying) (m : Model) (number : ℕ) (site : SiteId) (r : Request) (why : Refusal) → IsRequest m number site r
    → (step_of_delivery publication says m number).1 ≡ Refuses why → refusal_of publication (history_judge m number) m.world.moment r m.world.publisher ≡ Some why
