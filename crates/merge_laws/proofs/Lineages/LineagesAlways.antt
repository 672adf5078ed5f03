-- Lineages decide as histories do, after every list of actions and of events: the whole invariant, and what follows from it.
use Rattle.std.specs.Prelude.{◌≡◌, ℕ, List, Some}
use Rattle.std.proofs.Common.{arith}
use Rattle.std.proofs.lemmas.Bool.Decides.{nat_tests}
use Rattle.merge_schema.specs.Valid.{IsValid}
use Rattle.merge_schema.specs.declared.publication.Publication.{Publication}
use Rattle.merge_batch.specs.declared.request.UploadItem.{UploadItem}
use Rattle.merge_model.specs.Publisher.Acts.{key_of_item}
use Rattle.merge_model.specs.Laws.Bridge.{CaseDecidesAlike, PublisherDecidesAlike, StepsAlike}
use Rattle.merge_model.specs.World.Events.{after, machine, machine_answers}
use Rattle.merge_model.specs.Failing.{Slips, faulty}
use Rattle.merge_model.specs.History.{past_in, pasts_with}
use Rattle.merge_model.specs.Tables.Keys.{row_at}
use Rattle.merge_model.specs.History.Model.{Model, empty_model, model, model_answers, model_step}
use Rattle.merge_model.specs.Laws.Promises.{AllStand}
use Rattle.merge_model.specs.Failing.Runs.{machine_does, machine_says, model_behind, model_behind_actions, model_does, model_says, world_behind, world_behind_actions}
use Rattle.merge_model.specs.World.Steps.{Action}
use Rattle.merge_units.specs.declared.site_row.PublisherRow.{PublisherRow}
use Rattle.merge_model.specs.World.{Saying, empty_world}
use Rattle.merge_model.specs.declared.event.Event.{Event}
use Rattle.merge_model.proofs.Runs.Actions.{failing-actions-keep}
use Rattle.merge_laws.specs.Invariants.Accepted.{AllAccepted}
use Rattle.merge_laws.specs.Laws.Deciding.{CasesDecideAlike, EachStepAlike}
use Rattle.merge_laws.specs.Laws.{OfEveryValidActions}
use Rattle.merge_laws.specs.Facts.LineagesStand.{AllTold, LineagesStand, OwnKnown, Owns}
use Rattle.merge_laws.specs.Invariants.TablesAgree.{TablesAgree}
use Rattle.merge_laws.proofs.Accepted.AcceptedParts.{tallies-accepted}
use Rattle.merge_laws.proofs.Accepted.AcceptedSteps.{accepted-step, all-begin}
use Rattle.merge_laws.proofs.Alike.AlikeCases.{Meets, held-meets, items-meet}
use Rattle.merge_laws.proofs.Alike.AlikeDecisions.{case-decides-alike, publisher-decides-alike}
use Rattle.merge_laws.proofs.Alike.AlikeRuns.{after-alike, answers-alike, failing-actions-alike, failing-alike}
use Rattle.merge_laws.proofs.Alike.AlikeSteps.{steps-alike}
use Rattle.merge_laws.proofs.Lineages.AllStand.{all-stand}
use Rattle.merge_model.proofs.Lists.Finding.{all-weaker}
use Rattle.merge_laws.proofs.Runs.Ground.{Ground, ground-tallied}
use Rattle.merge_laws.proofs.Lineages.LineagesStand.{lineages-stand}
use Rattle.merge_laws.proofs.Own.OwnParts.{OwnRest}
use Rattle.merge_laws.proofs.Own.OwnQuiet.{quiet}
use Rattle.merge_laws.proofs.Own.OwnSteps.{Grounded, grounded-begins, grounded-step, own-begins, own-step}
use Rattle.merge_laws.proofs.Seen.SeenKept.{HasSeen, seen-begins, seen-step}
use Rattle.merge_laws.proofs.ConflictTables.TablesAgree.{tables-begin, tables-step}
use Rattle.merge_laws.proofs.Runs.Tallied.{makers-tallied, order-tallied, tables-tallied}
use Rattle.merge_laws.proofs.Told.ToldSteps.{OfTold, told-begins, told-keeps}
use Rattle.merge_laws.proofs.Walking.{step-keeps}
use Rattle.merge_laws.proofs.Runs.OfActions.{of-events}

pub record Kept (publication : Publication) (m : Model) : Type 0 where
  pub grounded : Grounded publication m
  -- what versions tell,
  pub told : AllTold m
  -- who knows which of a site's own changes, and what is accepted, given up or has acted of what is known
  pub own : OwnKnown m
  pub accepted : AllAccepted m.world m.history
  -- conflict tables have the rows that were lost
  pub tables : TablesAgree m.world m.history
  -- what the publisher has met
  pub seen : HasSeen m.world m.history

module _ (publication : Publication) (m : Model) (k : Kept publication m) where
  pub ground : Ground publication m.world m.history
  ground = k.grounded.0

  pub owns : Owns m
  owns = record { known = k.own; counts = k.accepted.accepted.counts }

  pub stand : LineagesStand m
  stand = lineages-stand m ground.known.knowledge k.told owns

  pub kept-step : (says : Saying) (action : Action) → Kept publication (model_step publication says m action).0
  kept-step says action = record {
    grounded = grounded-step publication says m action k.grounded k.accepted.accepted.counts;
    told = step-keeps publication says (Ground publication) OfTold (λ w h g. g.received) (told-keeps publication says) m action ground k.told;
    own = own-step publication says m action k.grounded k.accepted.accepted.counts k.own;
    accepted = accepted-step publication says m action ground k.own k.accepted;
    tables = tables-step publication says m action ground k.tables;
    seen = seen-step publication says m action ground k.told owns k.seen;
  }

  -- What follows.

  pub all-stands : AllStand m
  all-stands = all-stand m stand k.tables

  pub publisher-alike : PublisherDecidesAlike m
  publisher-alike = publisher-decides-alike publication m ground k.seen

  met-alike : (number : ℕ) (item : UploadItem) → Meets m (key_of_item item) item.version (past_in (pasts_with m.history number) (key_of_item item)) → (held : PublisherRow) → row_at m.world.publisher.rows (key_of_item item) ≡ Some held
      → CaseDecidesAlike m (pasts_with m.history number) (key_of_item item) held.version item.version
  met-alike number item meets held at = case-decides-alike publication m ground (pasts_with m.history number) (key_of_item item) held.version item.version (held-meets m ground.known.knowledge k.told stand owns (key_of_item item) held at) meets

  pub cases-alike : CasesDecideAlike m
  cases-alike number site upload at since = all-weaker (λ (item : UploadItem). Meets m (key_of_item item) item.version (past_in (pasts_with m.history number) (key_of_item item)))
      (λ (item : UploadItem). (held : PublisherRow) → row_at m.world.publisher.rows (key_of_item item) ≡ Some held → CaseDecidesAlike m (pasts_with m.history number) (key_of_item item) held.version item.version)
      (λ item meets held at_row. met-alike number item meets held at_row) upload.items
      (items-meet m ground.known.knowledge k.told stand owns number site upload at (grind (arith, nat_tests, since)))

  pub alike-step : (says : Saying) (action : Action) → StepsAlike publication says m action
  alike-step says action = steps-alike publication says m action ground k.told stand owns k.seen

kept-begins : (publication : Publication) (says : Saying) (tallies : List ℕ) → (resolvers : ℕ) × IsValid resolvers publication → Kept publication (empty_model publication tallies)
kept-begins publication says tallies valid = record {
  grounded = grounded-begins publication says tallies valid;
  told = told-begins publication tallies;
  own = own-begins publication tallies;
  accepted = all-begin publication tallies;
  tables = tables-begin publication tallies;
  seen = seen-begins publication tallies;
}

-- Other tallies keep it.

abbrev with_tallies : List ℕ → Model → Model
with_tallies tallies m = record m { world = record m.world { tallies = tallies } }

told-tallied : (m : Model) (others : List ℕ) → AllTold m → AllTold (with_tallies others m)
told-tallied m others t = record { publisher = t.publisher; subscribers = t.subscribers; letters = t.letters; conflicts = t.conflicts; discards = t.discards }

own-tallied : (m : Model) (others : List ℕ) → OwnKnown m → OwnKnown (with_tallies others m)
own-tallied m others o =
    let rest : OwnRest (with_tallies others m) = quiet m.world m.history m.world.publisher others m.world.moment m.history.done m.history.lines m.history.bases (λ c is. is) (λ site. omega arith)
    (record { making = o.making; own = o.own; uploads = o.uploads; replies = o.replies }) in
    record { making = rest.making; own = rest.own; acted = o.acted; uploads = rest.uploads; replies = rest.replies }

pub kept-tallied : (publication : Publication) (m : Model) (others : List ℕ) → Kept publication m → Kept publication (with_tallies others m)
kept-tallied publication m others k = record {
  grounded = (ground-tallied publication m.world m.history others k.grounded.0, k.grounded.1);
  told = told-tallied m others k.told;
  own = own-tallied m others k.own;
  accepted = record {
    order = order-tallied m.world others k.accepted.order;
    makers = makers-tallied m.world others m.history k.accepted.makers;
    accepted = tallies-accepted m.world m.history others k.accepted.accepted;
  };
  tables = tables-tallied m.world others m.history k.tables;
  seen = k.seen;
}

pub kept-by-actions : (publication : Publication) → (resolvers : ℕ) × IsValid resolvers publication → (says : Saying) (tallies : List ℕ) (slips : Slips) (actions : List Action) → Kept publication (model_behind_actions publication says tallies slips actions)
kept-by-actions publication valid says tallies slips actions = failing-actions-keep publication (model publication says) (Kept publication) (λ m action k. kept-step publication m k says action) (λ m others k. kept-tallied publication m others k) actions
    (faulty (empty_model publication tallies) slips) (kept-begins publication says tallies valid)

pub all-alike : OfEveryValidActions (λ publication says m. AllStand m)
all-alike resolvers publication valid says tallies slips actions = all-stands publication (model_behind_actions publication says tallies slips actions) (kept-by-actions publication (resolvers, valid) says tallies slips actions)

pub publishers-alike : OfEveryValidActions (λ publication says m. PublisherDecidesAlike m)
publishers-alike resolvers publication valid says tallies slips actions = publisher-alike publication (model_behind_actions publication says tallies slips actions) (kept-by-actions publication (resolvers, valid) says tallies slips actions)

pub cases-decided : OfEveryValidActions (λ publication says m. CasesDecideAlike m)
cases-decided resolvers publication valid says tallies slips actions = cases-alike publication (model_behind_actions publication says tallies slips actions) (kept-by-actions publication (resolvers, valid) says tallies slips actions)

pub all-steps : OfEveryValidActions EachStepAlike
all-steps resolvers publication valid says tallies slips actions action = alike-step publication (model_behind_actions publication says tallies slips actions) (kept-by-actions publication (resolvers, valid) says tallies slips actions) says action

-- the machine does what the model does, and has its tables
pub actions-same : (publication : Publication) → (resolvers : ℕ) × IsValid resolvers publication → (says : Saying) (tallies : List ℕ) (slips : Slips) (actions : List Action)
    → (machine_does publication says tallies slips actions ≡ model_does publication says tallies slips actions) × (world_behind_actions publication says tallies slips actions ≡ (model_behind_actions publication says tallies slips actions).world)
actions-same publication valid says tallies slips actions = failing-actions-alike publication says (Kept publication) (λ m action k. kept-step publication m k says action) (λ m action k. alike-step publication m k says action) (λ m others k. kept-tallied publication m others k) slips actions
    (empty_model publication tallies) (kept-begins publication says tallies valid)

module _ (publication : Publication) (valid : (resolvers : ℕ) × IsValid resolvers publication) (says : Saying) (tallies : List ℕ) (slips : Slips) (events : List Event) where
  pub kept-always : Kept publication (model_behind publication says tallies slips events)
  kept-always = of-events publication says tallies slips events (Kept publication) (kept-by-actions publication valid says tallies slips)

  runs-same : (machine_says publication says tallies slips events ≡ model_says publication says tallies slips events) × (world_behind publication says tallies slips events ≡ (model_behind publication says tallies slips events).world)
  runs-same = failing-alike publication says (Kept publication) (λ m action k. kept-step publication m k says action) (λ m action k. alike-step publication m k says action) (λ m others k. kept-tallied publication m others k) slips events
      (empty_model publication tallies) (kept-begins publication says tallies valid)

  pub answers-same : machine_says publication says tallies slips events ≡ model_says publication says tallies slips events
  answers-same = runs-same.0

  pub worlds-same : world_behind publication says tallies slips events ≡ (model_behind publication says tallies slips events).world
  worlds-same = runs-same.1

-- and where no step can fail
module _ (publication : Publication) (valid : (resolvers : ℕ) × IsValid resolvers publication) (says : Saying) (tallies : List ℕ) (events : List Event) where
  pub plain-answers-same : machine_answers publication says tallies events ≡ model_answers publication says tallies events
  plain-answers-same = answers-alike publication says (Kept publication) (λ m action k. kept-step publication m k says action) (λ m action k. alike-step publication m k says action) events (empty_model publication tallies) (kept-begins publication says tallies valid)

  pub plain-worlds-same : after publication (machine publication says) (empty_world publication tallies) events ≡ (after publication (model publication says) (empty_model publication tallies) events).world
  plain-worlds-same = after-alike publication says (Kept publication) (λ m action k. kept-step publication m k says action) (λ m action k. alike-step publication m k says action) events (empty_model publication tallies) (kept-begins publication says tallies valid)
