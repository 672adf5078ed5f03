-- What is said of lists of actions beside the forms of merge_laws: what the machine does, and what fails.
use Rattle.std.specs.List.{list_any}
use Rattle.std.specs.Prelude.{List, false, ℕ, ◌≡◌}
use Rattle.merge_schema.specs.Valid.{IsValid}
use Rattle.merge_schema.specs.declared.publication.Publication.{Publication}
use Rattle.merge_model.specs.Failing.{Slips, faulty, faulty_stepping}
use Rattle.merge_model.specs.History.Model.{Model}
use Rattle.merge_model.specs.Laws.Promises.{AllAccounted, OldIsPast, RepliesStayInside, SettledHoldsPartition}
use Rattle.merge_model.specs.Failing.Reach.{AreNone}
use Rattle.merge_model.specs.Failing.Runs.{after_actions, machine_does, model_behind_actions, model_does, outcomes, world_behind_actions}
use Rattle.merge_model.specs.World.Session.{Stepping}
use Rattle.merge_model.specs.Laws.SlipLaws.{is_slip, refused_for}
use Rattle.merge_model.specs.World.Steps.{Action}
use Rattle.merge_model.specs.World.{Saying}
use Rattle.merge_laws.specs.Laws.Promised.{HasPromises}

-- The machine does what the model does, where the same steps fail in both, and it has the model's tables.

abbrev pub MachineDoesAlike : Type 0
MachineDoesAlike = (resolvers : ℕ) (publication : Publication) → IsValid resolvers publication → (says : Saying) (tallies : List ℕ) (slips : Slips) (actions : List Action)
    → machine_does publication says tallies slips actions ≡ model_does publication says tallies slips actions

abbrev pub TablesAlikeBehindActions : Type 0
TablesAlikeBehindActions = (resolvers : ℕ) (publication : Publication) → IsValid resolvers publication → (says : Saying) (tallies : List ℕ) (slips : Slips) (actions : List Action)
    → world_behind_actions publication says tallies slips actions ≡ (model_behind_actions publication says tallies slips actions).world

-- So its tables are those of a model of which all is promised.
abbrev pub MachineHasPromisesBehindActions : Type 0
MachineHasPromisesBehindActions = (resolvers : ℕ) (publication : Publication) → IsValid resolvers publication → (says : Saying) (tallies : List ℕ) (slips : Slips) (actions : List Action)
    → HasPromises publication says (world_behind_actions publication says tallies slips actions)

-- The same comes of actions as where none can fail.
abbrev pub DoesPlainly : {W : Type 0} → Publication → Stepping W → W → Slips → List Action → Type 0
DoesPlainly publication stepping w slips actions =
    (outcomes (faulty_stepping publication stepping) (faulty w slips) actions ≡ outcomes stepping w actions)
    × ((after_actions (faulty_stepping publication stepping) (faulty w slips) actions).world ≡ after_actions stepping w actions)

-- So it is where no step fails,
abbrev pub NoActionFails : {W : Type 0} → (Publication → Saying → Stepping W) → Type 0
NoActionFails {W = W} stepping = (publication : Publication) (says : Saying) (w : W) (slips : Slips) (actions : List Action) → AreNone slips → DoesPlainly publication (stepping publication says) w slips actions

-- and where no outcome tells of want of memory or of a fault of the store.
abbrev pub FailuresShowInOutcomes : {W : Type 0} → (Publication → Saying → Stepping W) → Type 0
FailuresShowInOutcomes {W = W} stepping = (publication : Publication) (says : Saying) (w : W) (slips : Slips) (actions : List Action)
    → list_any (refused_for is_slip) (outcomes (faulty_stepping publication (stepping publication says)) (faulty w slips) actions) ≡ false → DoesPlainly publication (stepping publication says) w slips actions

-- Promises, of the model behind actions.

abbrev pub NoneIsLost : Publication → Saying → Model → Type 0
NoneIsLost publication says m = AllAccounted m

abbrev pub SettledHold : Publication → Saying → Model → Type 0
SettledHold publication says m = SettledHoldsPartition publication m

abbrev pub DownloadsStayInside : Publication → Saying → Model → Type 0
DownloadsStayInside publication says m = RepliesStayInside publication m

abbrev pub PurgesTakeThePast : Publication → Saying → Model → Type 0
PurgesTakeThePast publication says m = OldIsPast publication m
