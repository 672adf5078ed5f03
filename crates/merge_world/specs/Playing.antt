-- Events one after the other.
use Rattle.std.specs.Prelude.{List, count_by, ℕ, ◌+◌, ◌≡◌, ◌≤◌}
use Rattle.merge_schema.specs.declared.publication.Publication.{Publication}
use Rattle.merge_model.specs.Failing.{Slips, faulty}
use Rattle.merge_model.specs.Failing.Reach.{Reaches, is_store_fault, run}
use Rattle.merge_model.specs.Failing.Runs.{machine_says, world_behind}
use Rattle.merge_model.specs.World.{Saying, World, empty_world}
use Rattle.merge_model.specs.declared.answer.Answer.{Answer}
use Rattle.merge_model.specs.declared.event.Event.{Event}
use Rattle.merge_world.specs.Views.{HandedView, SitesView, world_of}

-- a run over events, with some slips: what was answered, and the world behind it
unfoldable pub Runs : Publication → Saying → List Event → World → World → List Answer → ℕ → ℕ → Type 0
Runs publication says events w v said before after = Reaches (λ slips. run publication says (faulty w slips) events) (λ slips. (said, faulty v slips)) before after

pub record AllHappened (events : List Event) (old new : SitesView) (before after : HandedView) (said : List Answer) : Type 0 where
  pub runs : Runs old.publication before.says events (world_of old before.tallies) (world_of new after.tallies) said old.faults new.faults
  pub publication : new.publication ≡ old.publication
  pub sites : new.sites ≡ old.sites
  pub publications : new.publications ≡ old.publications
  pub says : after.says ≡ before.says

-- events that were played from nothing, and a run with slips that has the same answers and the same world
abbrev pub PlayedRuns : Type 0
PlayedRuns = (events : List Event) (old new : SitesView) (before after : HandedView) (said : List Answer) → AllHappened events old new before after said
    → world_of old before.tallies ≡ empty_world old.publication before.tallies
    → (slips : Slips) × (machine_says old.publication before.says before.tallies slips events ≡ said)
    × (world_behind old.publication before.says before.tallies slips events ≡ world_of new after.tallies)
    × (old.faults + count_by is_store_fault slips ≤ new.faults)
