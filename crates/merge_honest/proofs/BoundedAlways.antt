-- Every list of events keeps counters below the limit, but for one step of each.
use Rattle.std.specs.Prelude.{List, ℕ}
use Rattle.std.proofs.Common.{arith}
use Rattle.merge_schema.specs.Valid.{IsValid}
use Rattle.merge_schema.specs.declared.publication.Publication.{Publication}
use Rattle.merge_model.specs.Judge.ByHistory.{by_history}
use Rattle.merge_model.specs.Failing.{Slips}
use Rattle.merge_model.specs.History.{History}
use Rattle.merge_model.specs.History.Model.{Model, model_step}
use Rattle.merge_model.specs.Failing.Runs.{model_behind}
use Rattle.merge_model.specs.World.Steps.{Action}
use Rattle.merge_model.specs.Tables.{SubscriberTables}
use Rattle.merge_model.specs.World.{Saying, World, empty_world}
use Rattle.merge_model.specs.declared.event.Event.{Event}
use Rattle.merge_laws.proofs.Runs.Ground.{Ground, grounded-always}
use Rattle.merge_laws.proofs.Received.Models.{begins-with}
use Rattle.merge_honest.specs.Bounded.{AreBounded, IsBounded}
use Rattle.merge_honest.proofs.Bounded.{calls-bounded}
use Rattle.merge_honest.proofs.PublisherBounded.{step-within}
use Rattle.merge_honest.proofs.CallWalk.{call-step}

bounded-step : (publication : Publication) (says : Saying) (m : Model) (action : Action) → Ground publication m.world m.history → AreBounded m.world → AreBounded (model_step publication says m action).0.world
bounded-step publication says m action g b = record {
  publisher = (step-within publication g.valid.1.few_subscriptions says (by_history m.history) m.world action (b.publisher, g.sorted.rows_ascend, g.sorted.generations_ascend.unfilled)).0;
  subscribers = call-step publication IsBounded m.world b.subscribers (calls-bounded publication) says (by_history m.history) action;
}

bounded-begins : (publication : Publication) (tallies : List ℕ) → AreBounded (empty_world publication tallies)
bounded-begins publication tallies = record {
  publisher = record { changes = omega arith; closed = omega arith; rows = omega arith };
  subscribers = λ n s at. begins-with publication (λ (k : ℕ) (t : SubscriberTables). IsBounded t) (λ k site keyed. record { changes = omega arith; closed = omega arith; seq = omega arith; unfilled = omega arith }) n s at;
}

pub bounded-always : (publication : Publication) (says : Saying) (tallies : List ℕ) (slips : Slips) (events : List Event) → (resolvers : ℕ) × IsValid resolvers publication → AreBounded (model_behind publication says tallies slips events).world
bounded-always publication says tallies slips events valid =
    (grounded-always publication says tallies slips events valid (λ (w : World) (h : History). AreBounded w) (λ m action g b. bounded-step publication says m action g b)
    (λ w h others b. record { publisher = b.publisher; subscribers = b.subscribers }) (bounded-begins publication tallies)).1
