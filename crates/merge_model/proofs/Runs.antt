-- From steps to every list of events.
-- The room holds the way from steps to sessions, events and lists of actions, refusals and reports, and worlds that answer alike.
pub mod Kept
pub mod Events
pub mod Actions
pub mod Refusals
pub mod Refused
pub mod Reports
pub mod Alike
use Rattle.std.specs.Prelude.{ℕ, List, [], ◌∷◌, All, map}
use Rattle.std.specs.List.Sorted.{IsStrictlySortedBy}
use Rattle.std.proofs.Common.{arith}
use Rattle.merge_ident.specs.declared.grants.Rule.{Rule}
use Rattle.merge_ident.specs.Grants.{AreDisjoint}
use Rattle.merge_ident.specs.Books.{IsBook, IsRule}
use Rattle.merge_ident.proofs.Stored.{no_grants}
use Rattle.merge_schema.specs.declared.publication.Publication.{Publication}
use Rattle.merge_model.specs.declared.event.Event.{Event}
use Rattle.merge_types.specs.declared.identifiers.SiteId.{SiteId}
use Rattle.merge_schema.specs.declared.publication.Subscription.{Subscription}
use Rattle.merge_model.specs.Subscriber.{empty_subscriber}
use Rattle.merge_model.specs.Tables.Publications.{rules_of, by_site}
use Rattle.merge_model.specs.Publisher.{empty_publisher}
use Rattle.merge_model.specs.World.{World, Saying, empty_world, by_tables}
use Rattle.merge_model.specs.World.Events.{machine}
use Rattle.merge_model.specs.Judge.ByHistory.{by_history}
use Rattle.merge_model.specs.History.Model.{Model, model, empty_model}
use Rattle.merge_model.specs.Laws.{AreSorted, SubscriberIsSorted}
use Rattle.merge_model.specs.Failing.{Slips, faulty}
use Rattle.merge_model.specs.Failing.Runs.{model_behind, world_behind}
use Rattle.merge_model.proofs.Failing.KeptFailing.{runs-keep}
use Rattle.merge_model.proofs.Publishers.{step-book}
use Rattle.merge_model.proofs.Publishers.Sorted.{step-sorted}
use Rattle.merge_model.proofs.Subscribers.SubscriberSteps.{AllHold}
use Rattle.merge_model.proofs.Subscribers.{step-sub-sorted}

no_book : (rules : List Rule) → All IsRule rules → IsBook rules []
no_book rules fit = record { rules_fit = fit; grants_fit = no_grants; in_order = tt }

pub ranges_never_overlap : (publication : Publication) → All IsRule (rules_of publication) → (says : Saying) (tallies : List ℕ) (slips : Slips) (events : List Event)
    → AreDisjoint (world_behind publication says tallies slips events).publisher.grants
ranges_never_overlap publication fit says tallies slips events =
    let book : IsBook (rules_of publication) (world_behind publication says tallies slips events).publisher.grants =
    runs-keep publication (machine publication says) (λ (w : World). IsBook (rules_of publication) w.publisher.grants)
    (λ w action h. step-book publication says (by_tables w) w action h) (λ w others h. h) events (faulty (empty_world publication tallies) slips) (no_book (rules_of publication) fit) in
    book.grants_fit.disjoint

pub model_ranges_never_overlap : (publication : Publication) → All IsRule (rules_of publication) → (says : Saying) (tallies : List ℕ) (slips : Slips) (events : List Event)
    → AreDisjoint (model_behind publication says tallies slips events).world.publisher.grants
model_ranges_never_overlap publication fit says tallies slips events =
    let book : IsBook (rules_of publication) (model_behind publication says tallies slips events).world.publisher.grants =
    runs-keep publication (model publication says) (λ (m : Model). IsBook (rules_of publication) m.world.publisher.grants)
    (λ m action h. step-book publication says (by_history m.history) m.world action h) (λ m others h. h) events (faulty (empty_model publication tallies) slips) (no_book (rules_of publication) fit) in
    book.grants_fit.disjoint

nothing_sorted : (publication : Publication) → AreSorted (empty_publisher publication)
unfolding IsStrictlySortedBy
nothing_sorted publication = record {
  rows_ascend = tt;
  mappings_ascend = tt;
  sites_ascend = tt;
  generations_ascend = record { unfilled = omega arith; ascending = λ i j d before within. absurd (omega arith); closed = λ k d within. absurd (omega arith) };
}

pub publisher_stays_sorted : (publication : Publication) (says : Saying) (tallies : List ℕ) (slips : Slips) (events : List Event)
    → AreSorted (world_behind publication says tallies slips events).publisher
publisher_stays_sorted publication says tallies slips events =
    runs-keep publication (machine publication says) (λ (w : World). AreSorted w.publisher) (λ w action h. step-sorted publication says (by_tables w) w action h) (λ w others h. h) events
    (faulty (empty_world publication tallies) slips) (nothing_sorted publication)

new_sorted : (publication : Publication) (site : SiteId) → SubscriberIsSorted (empty_subscriber publication site)
unfolding IsStrictlySortedBy
new_sorted publication site = record {
  rows_ascend = tt;
  generations_ascend = record { unfilled = omega arith; ascending = λ i j d before within. absurd (omega arith); closed = λ i d within. absurd (omega arith) };
}

all_new : (publication : Publication) (entries : List (ℕ × Subscription)) → AllHold SubscriberIsSorted (map (λ (s : ℕ × Subscription). (s.0, empty_subscriber publication s.1.site)) entries)
all_new publication [] = tt
all_new publication (entry ∷ entries) = (new_sorted publication entry.1.site, all_new publication entries)

pub subscribers_stay_sorted : (publication : Publication) (says : Saying) (tallies : List ℕ) (slips : Slips) (events : List Event)
    → AllHold SubscriberIsSorted (world_behind publication says tallies slips events).subscribers
subscribers_stay_sorted publication says tallies slips events =
    runs-keep publication (machine publication says) (λ (w : World). AllHold SubscriberIsSorted w.subscribers) (λ w action h. step-sub-sorted publication says (by_tables w) w action h) (λ w others h. h) events
    (faulty (empty_world publication tallies) slips) (all_new publication (by_site publication))
