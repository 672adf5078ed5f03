-- Runs of the sites of a publication, and what was written of them.
use Rattle.std.specs.List.{list_any}
use Rattle.std.specs.Prelude.{List, Option, count_by, false, ℕ, ◌≡◌}
use Rattle.merge_schema.specs.declared.publication.Publication.{Publication}
use Rattle.merge_model.specs.Failing.{Slips}
use Rattle.merge_model.specs.Failing.Reach.{is_store_fault}
use Rattle.merge_model.specs.Failing.Runs.{machine_says}
use Rattle.merge_model.specs.Laws.SlipLaws.{is_slip, shows_refusal}
use Rattle.merge_model.specs.World.Events.{machine_answers}
use Rattle.merge_model.specs.declared.answer.Answer.{Answer}
use Rattle.merge_model.specs.declared.event.Event.{Event}
use Rattle.merge_world.specs.Views.{HandedView}
use Rattle.merge_promises.specs.Promises.{RunPromised}
use Rattle.merge_program.specs.Stores.{RoseBy}

-- what the output told of its bytes before and behind a run, and how often the stores of sites had failed by then
pub record Sides : Type 0 where
  pub was : Option (List ℕ)
  pub written : Option (List ℕ)
  pub before : ℕ
  pub after : ℕ

-- These answers are given in a run of the sites from nothing, each decision is what the resolvers say that were handed in, at their tallies, and no more steps fail by a store than stores failed.
-- All is promised of this run: where the same steps fail in the model, over the same events, it answers alike and has its tables, and all is promised of it.
pub record IsRun (publication : Publication) (handed : HandedView) (events : List Event) (answers : List Answer) (before after : ℕ) : Type 0 where
  pub slips : Slips
  pub said : machine_says publication handed.says handed.tallies slips events ≡ answers
  pub few : RoseBy (count_by is_store_fault slips) before after
  pub promised : RunPromised publication handed.says handed.tallies slips events
  -- Where no answer tells of want of memory or of a fault of the store, they are the answers of a run in which no step can fail.
  pub plain : list_any (shows_refusal is_slip) answers ≡ false → machine_answers publication handed.says handed.tallies events ≡ answers
