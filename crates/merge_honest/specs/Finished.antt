-- How sessions end: with nothing refused, or where there are too many rows or a counter has come to its end.
use Rattle.std.specs.Prelude.{None, Option, Some, [], false, length, true, ℕ, ◌≡◌}
use Rattle.std.proofs.Common.{◌⊎◌}
use Rattle.merge_types.specs.declared.identifiers.SiteId.{SiteId}
use Rattle.merge_schema.specs.declared.publication.Publication.{Publication}
use Rattle.merge_batch.specs.declared.refusal.Refusal.{Refusal}
use Rattle.merge_batch.specs.declared.refusal.Refusal.TheVariants.{CounterEnd, TooManyRows}
use Rattle.merge_batch.specs.declared.request.Request.TheVariants as request
use Rattle.merge_batch.specs.declared.request.Upload.{Upload}
use Rattle.merge_model.specs.Publisher.Acts.{acts_of}
use Rattle.merge_model.specs.Failing.{Faulty, Slips, faulty, faulty_stepping}
use Rattle.merge_model.specs.History.Model.{Model, model}
use Rattle.merge_model.specs.Laws.Promises.{IsSettled, is_expired_at}
use Rattle.merge_model.specs.Publisher.{counters}
use Rattle.merge_model.specs.Publisher.PublisherUpload.{too_many_new}
use Rattle.merge_model.specs.Tables.Refusals.{counter_end}
use Rattle.merge_model.specs.World.Session.{Session, session}
use Rattle.merge_model.specs.Laws.SlipLaws.{is_slip}
use Rattle.merge_model.specs.Subscriber.{subscriber_counters}
use Rattle.merge_model.specs.Tables.{SubscriberTables}
use Rattle.merge_model.specs.World.{Saying, subscriber_at}
use Rattle.merge_laws.specs.Laws.Effects.{history_judge}
use Rattle.merge_honest.specs.Delivered.{IsRequest}

-- a counter of the site has come to its end
pub record OwnCounterEnds (k : Model) (site : SiteId) (value : ℕ) : Type 0 where
  pub tables : SubscriberTables
  pub here : subscriber_at k.world site ≡ Some tables
  pub ends : counter_end (subscriber_counters tables) ≡ Some (CounterEnd value)

-- the new rows of the upload that was sent last, by this site, would be too many
pub record UploadIsTooMuch (k : Model) (site : SiteId) (rows : ℕ) : Type 0 where
  pub number : ℕ
  pub upload : Upload
  pub at : IsRequest k number site (request.Upload upload)
  pub last : number ≡ length k.world.pool
  pub many : too_many_new (acts_of (history_judge k number) upload [] k.world.publisher) k.world.publisher ≡ Some (TooManyRows rows)

-- what a session of the site may be refused for, in the model in which it stopped
abbrev pub EndsFor : Model → SiteId → Refusal → Type 0
EndsFor k site (CounterEnd value) = (counter_end (counters k.world.publisher) ≡ Some (CounterEnd value)) ⊎ OwnCounterEnds k site value
EndsFor k site (TooManyRows rows) = UploadIsTooMuch k site rows
EndsFor k site refusal = ⊥

abbrev pub EndsBy : Model → SiteId → Option Refusal → Type 0
EndsBy k site None = Unit {0}
EndsBy k site (Some why) = EndsFor k site why

-- a site that has joined is not expired; one that has not may be
abbrev pub MayBegin : Publication → Model → SubscriberTables → Type 0
MayBegin publication m s = s.is_joined ≡ true → is_expired_at publication m.world s.site ≡ false

abbrev pub SessionFinishes : Publication → Saying → Model → Type 0
SessionFinishes publication says m = (s : SubscriberTables) → subscriber_at m.world s.site ≡ Some s → MayBegin publication m s
    → (let done : Session Model = session (model publication says) s.site m in EndsBy done.world s.site done.stop)

-- The same of a session in which steps may fail, which then ends with that.
abbrev pub EndsOrFails : Model → SiteId → Option Refusal → Type 0
EndsOrFails k site None = Unit {0}
EndsOrFails k site (Some why) = EndsFor k site why ⊎ (is_slip why ≡ true)

abbrev pub FailingSessionFinishes : Publication → Saying → Model → Type 0
FailingSessionFinishes publication says m = (slips : Slips) (s : SubscriberTables) → subscriber_at m.world s.site ≡ Some s → MayBegin publication m s
    → (let done : Session (Faulty Model) = session (faulty_stepping publication (model publication says)) s.site (faulty m slips) in EndsOrFails done.world.world s.site done.stop)

-- and one that ends without a refusal leaves its site settled
abbrev pub FailingSessionSettles : Publication → Saying → Model → Type 0
FailingSessionSettles publication says m = (slips : Slips) (s t : SubscriberTables) → subscriber_at m.world s.site ≡ Some s
    → (let done : Session (Faulty Model) = session (faulty_stepping publication (model publication says)) s.site (faulty m slips) in done.stop ≡ None → subscriber_at done.world.world.world s.site ≡ Some t → IsSettled publication done.world.world t)
