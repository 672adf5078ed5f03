-- The closed generations that the sites keep, after every list of events.
use Rattle.std.specs.List.{AllByRecursion}
use Rattle.std.specs.Prelude.{List, Some, [], true, ℕ, ◌++◌, ◌+◌, ◌<◌, ◌≡◌, ◌≤◌, ◌∷◌}
use Rattle.std.proofs.Common.{arith}
use Rattle.std.proofs.lemmas.Bool.Decides.{nat_tests}
use Rattle.merge_types.specs.Limits.{number_limit}
use Rattle.merge_gens.specs.Book.{moment_of}
use Rattle.merge_gens.specs.declared.closings.Closing.{Closing}
use Rattle.merge_schema.specs.declared.publication.Publication.{Publication}
use Rattle.merge_keeper.specs.PublisherStart as start_publisher
use Rattle.merge_keeper.specs.Start.{KeepOneByOne}
use Rattle.merge_keeper.specs.SubscriberRules.{Run, with_closings}
use Rattle.merge_keeper.specs.SubscriberStart as start_subscriber
use Rattle.merge_keeper.specs.SubscriberStart.{last_number}
use Rattle.merge_model.specs.History.{MadeChange, made_at}
use Rattle.merge_model.specs.History.Model.{Model}
use Rattle.merge_model.specs.Publisher.{new_holders}
use Rattle.merge_model.specs.Failing.Runs.{model_behind}
use Rattle.merge_model.specs.Subscriber.{subscriber_last_closed}
use Rattle.merge_model.specs.Tables.{PublisherTables, SubscriberTables}
use Rattle.merge_model.proofs.Lists.Finding.{found-named}
use Rattle.merge_model.proofs.Lists.{all-three}
use Rattle.merge_typed.specs.Typed.{MomentFits}
use Rattle.merge_laws.specs.Laws.{OfEveryValidRun}
use Rattle.merge_laws.specs.Facts.Numbered.{last_of}
use Rattle.merge_laws.proofs.Numbered.Through.{last-rises, order-within}
use Rattle.merge_honest.proofs.Rules.{Known, known-always}
use Rattle.merge_stored.specs.Closings.{ClosingsLoad, PublisherClosingLoads, SubscriberClosingLoads, SubscriberClosingsLoad}
use Rattle.merge_stored.specs.Stored.{subscriber_stored}
use Rattle.merge_stored.proofs.ClosingLists.{IsFromOne, last-of-more, run-keeps}
use Rattle.merge_stored.proofs.PublisherClosings.{closings-from}
use Rattle.merge_stored.proofs.States.{closed-low}
use Rattle.merge_stored.proofs.SubscriberClosings.{ClosingsRun, closings-run}

-- The publisher.

pub closing-sound : (p : PublisherTables) (closing : Closing) → 1 ≤ closing.generation → closing.generation ≤ p.gens.filling.last_closed → start_publisher.closing_is_sound p.gens.filling.last_closed closing ≡ true
unfolding start_publisher.closing_is_sound
closing-sound p closing from low = grind (arith, nat_tests, from, low)

closing-loads : (p : PublisherTables) (closing : Closing) → p.gens.filling.last_closed < number_limit → MomentFits p.latest → 1 ≤ closing.generation → closing.generation ≤ p.gens.filling.last_closed → closing.moment.0 ≤ p.latest.0 → PublisherClosingLoads p closing
closing-loads p closing closed latest from low been = (omega (arith, low, closed), omega (arith, been, latest), closing-sound p closing from low)

-- A subscriber.

module _ (publication : Publication) (s : SubscriberTables) (keep : ℕ → ℕ) (rises : (low high : ℕ) → low ≤ high → keep low ≤ keep high) (within : (generation : ℕ) → keep generation ≤ s.changes) (changes : s.changes < number_limit) (closed : subscriber_last_closed s < number_limit) where
  abbrev Sound : List Closing → Closing → Type 0
  Sound front closing = start_subscriber.closing_is_sound (with_closings (subscriber_stored s) (new_holders publication) front) closing ≡ true

  one-sound : (front : List Closing) (closing : Closing) → s.received < closing.generation → closing.generation ≤ subscriber_last_closed s → last_number front ≤ closing.moment.0 → closing.moment.0 ≤ s.changes → Sound front closing
  unfolding start_subscriber.closing_is_sound
  one-sound front closing above low rise up = grind (arith, nat_tests, above, low, rise, up)

  each-loads : (front closings : List Closing) (next : ℕ) → s.received < next → Run (subscriber_last_closed s) next closings → AllByRecursion (λ (c : Closing). c.moment.0 ≡ keep c.generation) closings → last_number front ≤ keep next → KeepOneByOne (SubscriberClosingLoads publication s) front closings
  each-loads front [] next above run kept rise = tt
  each-loads front (closing ∷ closings) next above run kept rise =
      let same : closing.generation ≡ next = run.0 in
      let low : next ≤ subscriber_last_closed s = (let is = run.1 in grind (arith, nat_tests, is)) in
      let here : closing.moment.0 ≡ keep closing.generation = kept.0 in
      let at : keep next ≤ keep closing.generation = rises next closing.generation (omega (arith, same)) in
      let up = within closing.generation in
      let later : keep closing.generation ≤ keep (next + 1) = rises closing.generation (next + 1) (omega (arith, same)) in
      let more = last-of-more front closing in (
        (omega (arith, same, low, closed), omega (arith, here, up, changes), one-sound front closing (omega (arith, same, above)) (omega (arith, same, low)) (omega (arith, rise, at, here)) (omega (arith, here, up))),
        each-loads (front ++ closing ∷ []) closings (next + 1) (omega (arith, above)) run.2 kept.1 (omega (arith, more, here, later)),
      )

  all-load : ClosingsRun s → ((generation : ℕ) → s.received + 1 ≤ generation → generation ≤ subscriber_last_closed s → moment_of s.gens.closings generation ≡ Some (keep generation)) → SubscriberClosingsLoad publication s
  all-load run found = record {
    each = each-loads [] s.gens.closings (s.received + 1) (omega arith) run (run-keeps (subscriber_last_closed s) (s.received + 1) keep s.gens.closings run found) (omega arith);
    run = run;
  }

pub closings-load : OfEveryValidRun ClosingsLoad
closings-load resolvers publication valid says tallies slips events =
    let m : Model = model_behind publication says tallies slips events in
    let k : Known publication m = known-always publication says tallies slips events (resolvers, valid) in
    let p : PublisherTables = m.world.publisher in
    let closed = closed-low p k.bounded.publisher in record {
      publisher = λ latest. (let order = k.whole.0.0.in_step.closings in
          all-three IsFromOne (λ (c : Closing). c.generation ≤ p.gens.filling.last_closed) (λ (c : Closing). c.moment.0 ≤ p.latest.0) (PublisherClosingLoads p) (λ c from low been. closing-loads p c closed latest from low been) p.gens.closings
          (closings-from publication says tallies slips events (resolvers, valid)) order.closed order.been);
      subscribers = λ n s at. (
          let made : List MadeChange = made_at m.history n in
          let tells = k.whole.0.0.numbered.subscribers n s at in
          let order = tells.order (found-named m.world.subscribers n s k.whole.0.0.none at) in
          let b = k.bounded.subscribers n s at in
          all-load publication s (λ (g : ℕ). last_of g made) (λ low high up. last-rises low high made up) (λ g. order-within g s.changes (subscriber_last_closed s + 1) made order)
          (let low = b.changes in omega (arith, low)) (let low = b.closed in omega (arith, low)) (closings-run publication says tallies slips events (resolvers, valid) n s at)
          (λ g above low. tells.keeps g (omega (arith, above)) low));
    }
