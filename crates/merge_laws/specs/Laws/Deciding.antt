-- Lineages decide as histories do: what is said of cases, of steps and of runs.
use Rattle.std.specs.Prelude.{◌≡◌, ◌<◌, ℕ, List, Some}
use Rattle.std.specs.List.{AllByRecursion}
use Rattle.merge_types.specs.declared.identifiers.SiteId.{SiteId}
use Rattle.merge_schema.specs.Valid.{IsValid}
use Rattle.merge_schema.specs.declared.publication.Publication.{Publication}
use Rattle.merge_batch.specs.declared.request.Request.TheVariants as request
use Rattle.merge_batch.specs.declared.request.Upload.{Upload}
use Rattle.merge_batch.specs.declared.request.UploadItem.{UploadItem}
use Rattle.merge_model.specs.Failing.{Slips}
use Rattle.merge_model.specs.Failing.Runs.{model_behind, world_behind, machine_says, model_says}
use Rattle.merge_model.specs.Publisher.Acts.{key_of_item}
use Rattle.merge_model.specs.Laws.Bridge.{CaseDecidesAlike, StepsAlike}
use Rattle.merge_model.specs.World.Events.{after, machine, machine_answers}
use Rattle.merge_model.specs.History.{pasts_with}
use Rattle.merge_model.specs.Tables.Keys.{row_at}
use Rattle.merge_model.specs.History.Model.{Model, empty_model, model, model_answers}
use Rattle.merge_model.specs.World.Steps.{Action}
use Rattle.merge_units.specs.declared.site_row.PublisherRow.{PublisherRow}
use Rattle.merge_model.specs.World.{Saying, empty_world, letter_at}
use Rattle.merge_model.specs.declared.letter.Message.TheVariants.{Asks}
use Rattle.merge_model.specs.declared.event.Event.{Event}
use Rattle.merge_laws.specs.Facts.Received.{joined_at}

-- Of each item of an upload that was made since its site last joined, and that meets a row: which case it is and what is news.
-- An older upload is refused, and decides nothing.
abbrev pub CasesDecideAlike : Model → Type 0
CasesDecideAlike m = (number : ℕ) (site : SiteId) (upload : Upload) → letter_at m.world number ≡ Some (record { site = site; message = Asks (request.Upload upload) }) → joined_at m.world.publisher upload.site < upload.seq
    → AllByRecursion (λ (item : UploadItem). (held : PublisherRow) → row_at m.world.publisher.rows (key_of_item item) ≡ Some held → CaseDecidesAlike m (pasts_with m.history number) (key_of_item item) held.version item.version) upload.items

-- Each step that the machine takes from the tables is the model's, with the history left out.
abbrev pub EachStepAlike : Publication → Saying → Model → Type 0
EachStepAlike publication says m = (action : Action) → StepsAlike publication says m action

-- So is every run: the machine answers what the model answers, and has its tables,
abbrev pub AnswersAlike : Type 0
AnswersAlike = (resolvers : ℕ) (publication : Publication) → IsValid resolvers publication → (says : Saying) (tallies : List ℕ) (events : List Event) → machine_answers publication says tallies events ≡ model_answers publication says tallies events

abbrev pub TablesAlike : Type 0
TablesAlike = (resolvers : ℕ) (publication : Publication) → IsValid resolvers publication → (says : Saying) (tallies : List ℕ) (events : List Event)
    → after publication (machine publication says) (empty_world publication tallies) events ≡ (after publication (model publication says) (empty_model publication tallies) events).world

-- also where the same steps fail in both.
abbrev pub FailingAnswersAlike : Type 0
FailingAnswersAlike = (resolvers : ℕ) (publication : Publication) → IsValid resolvers publication → (says : Saying) (tallies : List ℕ) (slips : Slips) (events : List Event)
    → machine_says publication says tallies slips events ≡ model_says publication says tallies slips events

abbrev pub FailingTablesAlike : Type 0
FailingTablesAlike = (resolvers : ℕ) (publication : Publication) → IsValid resolvers publication → (says : Saying) (tallies : List ℕ) (slips : Slips) (events : List Event)
    → world_behind publication says tallies slips events ≡ (model_behind publication says tallies slips events).world
