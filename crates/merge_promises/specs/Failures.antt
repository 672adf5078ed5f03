-- What a step leaves that fails, or that is refused for whatever else: all tables as they were, and so the history. Of the
-- questions of an upload the first few may have been asked already, which the tallies of resolvers count.
use Rattle.std.specs.Prelude.{take, ℕ, ◌≡◌}
use Rattle.merge_resolve.specs.Asked.{tallies_after}
use Rattle.merge_schema.specs.declared.publication.Publication.{Publication}
use Rattle.merge_batch.specs.declared.refusal.Refusal.{Refusal}
use Rattle.merge_model.specs.Failing.{Faulty, fails, questions_by}
use Rattle.merge_model.specs.History.Model.{Model, model}
use Rattle.merge_model.specs.World.Events.{machine}
use Rattle.merge_model.specs.World.Session.{Stepping}
use Rattle.merge_model.specs.World.Steps.{Action}
use Rattle.merge_model.specs.World.{Saying, World}
use Rattle.merge_model.specs.declared.outcome.Outcome.{Outcome}
use Rattle.merge_model.specs.declared.outcome.Outcome.TheVariants.{Refuses}

-- Behind the step is the world before it, where so many of the step's questions were asked, or none.
pub record OnlyAsks {W : Type 0} (publication : Publication) (stepping : Stepping W) (before : W) (action : Action) (after : W) : Type 0 where
  pub asked : ℕ
  pub same : after ≡ stepping.retally (tallies_after (stepping.look before).tallies (take asked (questions_by publication (stepping.look before) action (stepping.act before action).1))) before

-- so it is of each step that is refused in a world where steps may fail, with want of memory and faults of the store among the reasons
abbrev pub RefusedOnlyAsk : {W : Type 0} → (Publication → Saying → Stepping W) → Type 0
RefusedOnlyAsk {W = W} stepping = (publication : Publication) (says : Saying) (f : Faulty W) (action : Action) (why : Refusal)
    → (let done : Faulty W × Outcome = fails publication (stepping publication says) f action in done.1 ≡ Refuses why → OnlyAsks publication (stepping publication says) f.world action done.0.world)

-- The tables, the messages and the moment are those before.
pub record KeepsTables (before after : World) : Type 0 where
  pub publisher : after.publisher ≡ before.publisher
  pub subscribers : after.subscribers ≡ before.subscribers
  pub pool : after.pool ≡ before.pool
  pub moment : after.moment ≡ before.moment

abbrev pub RefusedKeepTables : Type 0
RefusedKeepTables = (publication : Publication) (says : Saying) (f : Faulty World) (action : Action) (why : Refusal)
    → (let done : Faulty World × Outcome = fails publication (machine publication says) f action in done.1 ≡ Refuses why → KeepsTables f.world done.0.world)

-- In the model so is the history.
abbrev pub RefusedKeepHistory : Type 0
RefusedKeepHistory = (publication : Publication) (says : Saying) (f : Faulty Model) (action : Action) (why : Refusal)
    → (let done : Faulty Model × Outcome = fails publication (model publication says) f action in done.1 ≡ Refuses why → KeepsTables f.world.world done.0.world.world × (done.0.world.history ≡ f.world.history))
