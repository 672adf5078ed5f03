-- Models behind runs that have used up their slips. Each that is behind a run is one, and so is one a step of a session further.
use Rattle.std.specs.Prelude.{Bool, List, None, Option, Some, [], false, map, refl, take, true, ℕ, ◌++◌, ◌≡◌, ◌∷◌, if◌then◌else◌}
use Rattle.std.proofs.Common.{ap, subst, ◌∙◌}
use Rattle.std.proofs.Math.Seq.{take-nil}
use Rattle.merge_types.specs.declared.identifiers.SiteId.{SiteId}
use Rattle.merge_resolve.specs.Asked.{tallies_after}
use Rattle.merge_resolve.specs.declared.case.ConflictCase.{ConflictCase}
use Rattle.merge_schema.specs.Places.{is_subscription}
use Rattle.merge_schema.specs.Valid.{IsValid}
use Rattle.merge_schema.specs.declared.publication.Publication.{Publication}
use Rattle.merge_model.specs.declared.outcome.Outcome.TheVariants.{Passed}
use Rattle.merge_batch.specs.declared.refusal.Refusal.TheVariants.{UnknownSite}
use Rattle.merge_model.specs.World.Events.{after, answered_action, answered_look, answered_unless_refused, happens}
use Rattle.merge_model.specs.Failing.{Faulty, Slip, Slips, faulty, faulty_stepping, is_allowed, slip_if}
use Rattle.merge_model.specs.History.Model.{Model, empty_model, model, model_step}
use Rattle.merge_model.specs.Failing.Runs.{model_behind}
use Rattle.merge_model.specs.World.Session.{Stepping}
use Rattle.merge_model.specs.World.Steps.{Deliver, Look, Send, SendDownload, SendJoin, SendRanges, SendUpload, Sending}
use Rattle.merge_model.specs.World.{Saying}
use Rattle.merge_model.specs.declared.answer.Answer.{Answer}
use Rattle.merge_model.specs.declared.answer.Answer.TheVariants.{Fine, Refused}
use Rattle.merge_model.specs.declared.event.Event.{Event}
use Rattle.merge_model.specs.declared.event.Event.TheVariants as event
use Rattle.merge_laws.specs.Laws.{OfEveryValidRun}

after-append : {W : Type 0} (publication : Publication) (stepping : Stepping W) (w : W) (first second : List Event) → after publication stepping w (first ++ second) ≡ after publication stepping (after publication stepping w first) second
after-append publication stepping w [] second = refl
after-append publication stepping w (e ∷ first) second = after-append publication stepping (happens publication stepping w e).0 first second

module _ (publication : Publication) (says : Saying) where
  abbrev world_fails : Stepping (Faulty Model)
  world_fails = faulty_stepping publication (model publication says)

  abbrev run_of : List ℕ → Slips → List Event → Faulty Model
  run_of tallies slips events = after publication world_fails (faulty (empty_model publication tallies) slips) events

  pub record IsBehind (m : Model) : Type 0 where
    pub tallies : List ℕ
    pub slips : Slips
    pub events : List Event
    pub is : run_of tallies slips events ≡ faulty m []

  -- what holds behind every run
  pub law-behind : (resolvers : ℕ) → IsValid resolvers publication → (X : Publication → Saying → Model → Type 0) → OfEveryValidRun X → (m : Model) → IsBehind m → X publication says m
  law-behind resolvers valid X law m b = subst (X publication says) (ap (λ (f : Faulty Model). f.world) b.is) (law resolvers publication valid says b.tallies b.slips b.events)

  -- A report takes a slip and leaves the model.

  report : Event
  report = event.Restart (record { 0 = 0 })

  same-tallies : (m : Model) (asked : ℕ) → (let questions : List (ℕ × ConflictCase) = take asked [] in record m { world = record m.world { tallies = tallies_after m.world.tallies questions } } ≡ m)
  same-tallies m asked = ap (λ (questions : List (ℕ × ConflictCase)). (let n : Model = record m { world = record m.world { tallies = tallies_after m.world.tallies questions } } in n)) (take-nil asked)

  drops : (slip : Option Slip) (rest : Slips) (m : Model) → (happens publication world_fails (faulty m (slip ∷ rest)) report).0 ≡ faulty m rest
  unfolding report
  drops None rest m = refl
  drops (Some slip) rest m = elim (is_allowed publication m.world Look slip Passed)
      as (λ (b : Bool). (answered_unless_refused publication world_fails (λ (f : Faulty Model). Fine) (slip_if publication (model publication says) b rest slip Look m (m, Passed))).0 ≡ faulty m rest) [
        | true ↦ ap (λ (n : Model). (let f : Faulty Model = faulty n rest in f)) (same-tallies m slip.asked)
        | false ↦ refl
      ]

  drain : (slips : Slips) (m : Model) → after publication world_fails (faulty m slips) (map (λ (slip : Option Slip). report) slips) ≡ faulty m []
  drain [] m = refl
  drain (slip ∷ slips) m = ap (λ (f : Faulty Model). after publication world_fails f (map (λ (other : Option Slip). report) slips)) (drops slip slips m) ∙ drain slips m

  pub run-behind : (tallies : List ℕ) (slips : Slips) (events : List Event) → IsBehind (model_behind publication says tallies slips events)
  run-behind tallies slips events =
      let f : Faulty Model = run_of tallies slips events in
      let more : List Event = map (λ (slip : Option Slip). report) f.slips in
      record {
        tallies = tallies;
        slips = slips;
        events = events ++ more;
        is = after-append publication world_fails (faulty (empty_model publication tallies) slips) events more ∙ drain f.slips f.world;
      }

  -- One event more.

  event-behind : (m n : Model) (e : Event) → (happens publication world_fails (faulty m []) e).0 ≡ faulty n [] → IsBehind m → IsBehind n
  event-behind m n e same b = record {
    tallies = b.tallies;
    slips = b.slips;
    events = b.events ++ e ∷ [];
    is = after-append publication world_fails (faulty (empty_model publication b.tallies) b.slips) b.events (e ∷ []) ∙ ap (λ (f : Faulty Model). (happens publication world_fails f e).0) b.is ∙ same;
  }

  pub deliver-behind : (m : Model) (number : ℕ) → IsBehind m → IsBehind (model_step publication says m (Deliver number)).0
  deliver-behind m number b = event-behind m (model_step publication says m (Deliver number)).0 (event.Deliver number) refl b

  sends : Sending → SiteId → Event
  sends SendJoin site = event.SendJoin site
  sends SendUpload site = event.SendUpload site
  sends SendRanges site = event.SendRanges site
  sends SendDownload site = event.SendDownload site

  where-there : (b : Bool) (x y : Faulty Model × Answer) (f : Faulty Model) → b ≡ true → x.0 ≡ f → (if b then x else y).0 ≡ f
  where-there true x y f is same = same
  where-there false x y f is same = absurd cc

  sent-by : (m : Model) (site : SiteId) (sending : Sending) → is_subscription publication site.0 ≡ true
      → (if is_subscription publication site.0 then answered_action publication world_fails 0 (Send site sending) (faulty m []) else answered_look publication world_fails (λ (f : Faulty Model). Refused (UnknownSite site)) (faulty m [])).0 ≡ faulty (model_step publication says m (Send site sending)).0 []
  sent-by m site sending is =
      let f : Faulty Model = faulty m [] in
      where-there (is_subscription publication site.0) (answered_action publication world_fails 0 (Send site sending) f) (answered_look publication world_fails (λ (g : Faulty Model). Refused (UnknownSite site)) f) (faulty (model_step publication says m (Send site sending)).0 []) is refl

  sent-same : (m : Model) (site : SiteId) (sending : Sending) → is_subscription publication site.0 ≡ true → (happens publication world_fails (faulty m []) (sends sending site)).0 ≡ faulty (model_step publication says m (Send site sending)).0 []
  unfolding sends
  sent-same m site SendJoin is = sent-by m site SendJoin is
  sent-same m site SendUpload is = sent-by m site SendUpload is
  sent-same m site SendRanges is = sent-by m site SendRanges is
  sent-same m site SendDownload is = sent-by m site SendDownload is

  pub send-behind : (m : Model) (site : SiteId) (sending : Sending) → is_subscription publication site.0 ≡ true → IsBehind m → IsBehind (model_step publication says m (Send site sending)).0
  send-behind m site sending is b = event-behind m (model_step publication says m (Send site sending)).0 (sends sending site) (sent-same m site sending is) b
