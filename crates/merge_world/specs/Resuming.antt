-- A restart of one of all sites.
use Rattle.std.specs.Prelude.{List, Result, true, ℕ, ◌≡◌}
use Rattle.merge_types.specs.declared.identifiers.SiteId.{SiteId}
use Rattle.merge_batch.specs.declared.refusal.Refusal.{Refusal}
use Rattle.merge_model.specs.World.Events.{is_site}
use Rattle.merge_model.specs.declared.event.Event.{Event}
use Rattle.merge_model.specs.declared.event.Event.TheVariants as event
use Rattle.merge_world.specs.Restarts.{IsLost, RestartEnds}
use Rattle.merge_world.specs.Views.{SitesView, Stays, world_of}

pub record Resumes (old new : SitesView) (result : Result Unit Refusal) : Type 0 where
  pub restarted : (tallies : List ℕ) → RestartEnds (world_of old tallies) (world_of new tallies) old.faults new.faults result
  pub stays : Stays old new

-- a run ends where a site that is restarted is not seen again, and all that there was stays as it was
pub record EndsRun (e : Event) (old new : SitesView) (why : Refusal) : Type 0 where
  pub site : SiteId
  pub restarts : e ≡ event.Restart site
  pub known : is_site old.publication site ≡ true
  pub lost : IsLost why old.faults new.faults
  pub same : (tallies : List ℕ) → world_of new tallies ≡ world_of old tallies
  pub stays : Stays old new
