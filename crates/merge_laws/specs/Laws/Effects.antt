-- No generation of a site takes effect twice: not at two deliveries, wherever in a run they come.
use Rattle.std.specs.Prelude.{◌≡◌, ◌≤◌, ◌<◌, ◌+◌, ◌-◌, ◌↔◌, ℕ, Bool, List, true, false, not}
use Rattle.std.specs.List.{AllByRecursion, list_any, range_with_len}
use Rattle.merge_types.specs.declared.identifiers.SiteId.{SiteId}
use Rattle.merge_schema.specs.declared.publication.Publication.{Publication}
use Rattle.merge_batch.specs.declared.request.Upload.{Upload}
use Rattle.merge_batch.specs.declared.request.UploadItem.{UploadItem}
use Rattle.merge_model.specs.Publisher.Acts.{acting_items}
use Rattle.merge_model.specs.Judge.ByHistory.{by_past}
use Rattle.merge_model.specs.Judge.ByNumbers.{by_numbers}
use Rattle.merge_model.specs.World.Events.{after}
use Rattle.merge_model.specs.Failing.{Faulty, Slips, fails, faulty, faulty_stepping}
use Rattle.merge_model.specs.History.{is_done, pasts_with}
use Rattle.merge_model.specs.Judge.{PublisherJudge}
use Rattle.merge_model.specs.History.Model.{Model, did_something, empty_model, model}
use Rattle.merge_model.specs.Publisher.PublisherUpload.{brings_news}
use Rattle.merge_model.specs.Failing.Runs.{after_actions}
use Rattle.merge_model.specs.World.Steps.{Action, Deliver}
use Rattle.merge_model.specs.World.{Saying}
use Rattle.merge_model.specs.declared.event.Event.{Event}
use Rattle.merge_laws.specs.Laws.ActsOnce.{IsUpload, step_of_delivery}

-- Steps one after the other, of which some may fail.
abbrev pub behind_actions : Publication → Saying → Faulty Model → List Action → Faulty Model
behind_actions publication says f actions = after_actions (faulty_stepping publication (model publication says)) f actions

-- Every list of events is such steps, since a session is.
abbrev pub RunsAreSteps : Type 0
RunsAreSteps = (publication : Publication) (says : Saying) (f : Faulty Model) (events : List Event)
    → (actions : List Action) × (behind_actions publication says f actions ≡ after publication (faulty_stepping publication (model publication says)) f events)

-- Where an upload is taken, this generation of it takes effect: the upload is more than answered, and the generation is one of its
-- own that has not acted, by what the publisher decides by.
pub record TakesEffect (judge : PublisherJudge) (u : Upload) (generation : ℕ) : Type 0 where
  pub news : brings_news judge u ≡ true
  pub above : u.from < generation
  pub within : generation ≤ u.to
  pub unmet : judge.has_acted u.site.0 generation ≡ false

abbrev pub history_judge : Model → ℕ → PublisherJudge
history_judge m number = by_past m.history (pasts_with m.history number)

-- where the letter with this number comes to the publisher, and is not refused
pub record EffectAt (publication : Publication) (says : Saying) (f : Faulty Model) (number : ℕ) (u : Upload) (generation : ℕ) : Type 0 where
  pub site : SiteId
  pub sent : IsUpload f.world number site u
  pub made : did_something (fails publication (model publication says) f (Deliver number)).1 ≡ true
  pub effect : TakesEffect (history_judge f.world number) u generation

-- Of two deliveries of uploads of a site, the same or others, one after the other, no generation takes effect at both.
abbrev pub NoneTakesEffectTwice : Type 0
NoneTakesEffectTwice = (publication : Publication) (says : Saying) (tallies : List ℕ) (slips : Slips) (before between : List Action) (first second : ℕ) (u v : Upload) (generation : ℕ)
    → (let f : Faulty Model = behind_actions publication says (faulty (empty_model publication tallies) slips) before in
    let g : Faulty Model = behind_actions publication says (fails publication (model publication says) f (Deliver first)).0 between in
    v.site.0 ≡ u.site.0 → EffectAt publication says f first u generation → EffectAt publication says g second v generation → ⊥)

-- Each item of an upload that does something stands in a generation that takes effect.
abbrev pub ActingTakeEffect : Type 0
ActingTakeEffect = (publication : Publication) (says : Saying) (m : Model) (number : ℕ) (site : SiteId) (u : Upload) → IsUpload m number site u → did_something (step_of_delivery publication says m number).1 ≡ true
    → (let judge : PublisherJudge = history_judge m number in brings_news judge u ≡ true → AllByRecursion (λ (item : UploadItem). TakesEffect judge u item.generation) (acting_items judge u))

-- By the publisher's numbers the same generations take effect.
abbrev pub NumbersTakeEffect : Model → Type 0
NumbersTakeEffect m = (number : ℕ) (u : Upload) (generation : ℕ) → TakesEffect (by_numbers m.world.publisher) u generation ↔ TakesEffect (history_judge m number) u generation

-- An upload is more than answered where some generation of it has not acted.
abbrev pub some_unmet : Model → Upload → Bool
some_unmet m u = list_any (λ (generation : ℕ). not (is_done m.history u.site.0 generation)) (range_with_len (u.from + 1) (u.to - u.from))

abbrev pub NewsIsUnmet : Model → Type 0
NewsIsUnmet m = (number : ℕ) (u : Upload) → u.from < u.to → brings_news (history_judge m number) u ≡ some_unmet m u
