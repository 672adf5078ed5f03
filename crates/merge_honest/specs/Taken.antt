-- Which requests of the pool are taken: all but those of a site that expired, those made before the site's last join, those with too
-- many new rows, and those that come behind a counter's end.
use Rattle.std.specs.Prelude.{List, None, Option, Some, [], nat_le, nat_lt, ◌≡◌, ◌∷◌, ℕ}
use Rattle.merge_types.specs.declared.identifiers.Moment.{Moment}
use Rattle.merge_types.specs.declared.identifiers.SiteId.{SiteId}
use Rattle.merge_schema.specs.declared.publication.Publication.{Publication}
use Rattle.merge_batch.specs.declared.refusal.Refusal.{Refusal}
use Rattle.merge_batch.specs.declared.refusal.Refusal.TheVariants.{Expired, Stale}
use Rattle.merge_batch.specs.declared.request.Request.{Request}
use Rattle.merge_batch.specs.declared.request.Request.TheVariants as request
use Rattle.merge_gens.specs.Retention.{is_expired}
use Rattle.merge_model.specs.Publisher.Acts.{acts_of}
use Rattle.merge_model.specs.Judge.{PublisherJudge}
use Rattle.merge_model.specs.History.Model.{Model}
use Rattle.merge_model.specs.Publisher.{counters, later, state_of}
use Rattle.merge_model.specs.Publisher.PublisherUpload.{too_many_new}
use Rattle.merge_model.specs.Tables.Refusals.{counter_end, first_refusal, refused_if}
use Rattle.merge_model.specs.Tables.{PublisherTables}
use Rattle.merge_model.specs.World.{Saying}
use Rattle.merge_model.specs.declared.outcome.Outcome.{Outcome}
use Rattle.merge_model.specs.declared.outcome.Outcome.TheVariants.{Posted, Refuses}
use Rattle.merge_laws.specs.Laws.ActsOnce.{step_of_delivery}
use Rattle.merge_laws.specs.Laws.Effects.{history_judge}
use Rattle.merge_honest.specs.Delivered.{IsRequest}

-- the site has been silent for the retention time. A join may come then
abbrev pub expiry : Publication → Moment → SiteId → PublisherTables → Option Refusal
expiry publication now site p = let last : Moment = record { 0 = (state_of p site).last_sync } in
    refused_if (is_expired last (later now p.latest) publication.retention_days) (Expired last (later now p.latest))

-- the site joined behind the message, or by it
abbrev pub staleness : ℕ → SiteId → PublisherTables → Option Refusal
staleness seq site p = refused_if (nat_le seq (state_of p site).joined_at) (Stale seq (state_of p site).joined_at)

-- The reasons in their order, of each kind of request.
abbrev pub reasons : Publication → PublisherJudge → Moment → Request → PublisherTables → List (Option Refusal)
reasons publication judge now (request.Join m) p = refused_if (nat_lt m.seq (state_of p m.site).joined_at) (Stale m.seq (state_of p m.site).joined_at) ∷ counter_end (counters p) ∷ []
reasons publication judge now (request.Upload m) p = expiry publication now m.site p ∷ staleness m.seq m.site p ∷ too_many_new (acts_of judge m [] p) p ∷ counter_end (counters p) ∷ []
reasons publication judge now (request.Ranges m) p = expiry publication now m.site p ∷ staleness m.seq m.site p ∷ counter_end (counters p) ∷ []
reasons publication judge now (request.Download m) p = expiry publication now m.site p ∷ staleness m.seq m.site p ∷ counter_end (counters p) ∷ []

-- the first of them is told; where there is none the request is answered
abbrev pub IsAnswered : Option Refusal → Outcome → Type 0
IsAnswered None outcome = (number : ℕ) × (outcome ≡ Posted number)
IsAnswered (Some why) outcome = outcome ≡ Refuses why

abbrev pub HonestAreTaken : Publication → Saying → Model → Type 0
HonestAreTaken publication says m = (number : ℕ) (site : SiteId) (r : Request) → IsRequest m number site r
    → IsAnswered (first_refusal (reasons publication (history_judge m number) m.world.moment r m.world.publisher)) (step_of_delivery publication says m number).1
