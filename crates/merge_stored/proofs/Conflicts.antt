-- What is stored of conflicts, after every list of events.
use Rattle.std.specs.Prelude.{List, Some, refl, true, ℕ, ◌<◌, ◌≡◌}
use Rattle.std.proofs.Common.{arith, subst, sym}
use Rattle.merge_types.specs.Limits.{number_limit}
use Rattle.merge_schema.specs.Places.{is_subscription}
use Rattle.merge_schema.specs.Valid.{IsValid}
use Rattle.merge_schema.specs.declared.publication.Publication.{Publication}
use Rattle.merge_batch.specs.Lineages.{is_site}
use Rattle.merge_model.specs.Judge.ByHistory.{by_history}
use Rattle.merge_model.specs.Failing.{Slips}
use Rattle.merge_model.specs.History.{History}
use Rattle.merge_model.specs.Tables.Keys.{at_number}
use Rattle.merge_model.specs.History.Model.{Model}
use Rattle.merge_model.specs.Failing.Runs.{model_behind}
use Rattle.merge_model.specs.Tables.{SubscriberTables}
use Rattle.merge_model.specs.World.{Saying, World}
use Rattle.merge_model.specs.declared.event.Event.{Event}
use Rattle.merge_model.proofs.Lists.Finding.{all-weaker}
use Rattle.merge_laws.specs.Laws.{OfEveryValidRun}
use Rattle.merge_laws.proofs.Runs.Ground.{grounded-always}
use Rattle.merge_laws.proofs.Received.Models.{begins-with}
use Rattle.merge_honest.proofs.CallWalk.{Holds, call-step}
use Rattle.merge_honest.proofs.Rules.{Known, known-always}
use Rattle.merge_stored.specs.Conflicts.{AllConflictsAreKept, ConflictsAreKept, ConflictsLoad, LostAt}
use Rattle.merge_stored.proofs.PublisherConflicts.{PublisherConflicts, publisher-conflicts}
use Rattle.merge_stored.proofs.SubscriberConflicts.{OwnLost, SubscriberConflicts, conflicts-keep}
use Rattle.merge_stored.proofs.SubscriberRows.{rows-have-room}

pub own-conflicts : (publication : Publication) (says : Saying) (tallies : List ℕ) (slips : Slips) (events : List Event) → (resolvers : ℕ) × IsValid resolvers publication
    → (n : ℕ) (s : SubscriberTables) → at_number (model_behind publication says tallies slips events).world.subscribers n ≡ Some s → SubscriberConflicts s
own-conflicts publication says tallies slips events valid =
    (grounded-always publication says tallies slips events valid (λ (w : World) (h : History). Holds publication SubscriberConflicts w) (λ m action g b. call-step publication SubscriberConflicts m.world b (conflicts-keep publication) says (by_history m.history) action)
    (λ w h others b. b) (λ n s at. begins-with publication (λ (k : ℕ) (t : SubscriberTables). SubscriberConflicts t) (λ k site keyed. record { numbered = refl; each = tt }) n s at)).1

site-is : (publication : Publication) (site : ℕ) → is_subscription publication site ≡ true → is_site publication site ≡ true
site-is publication site is = grind (arith, is)

own-kept : (publication : Publication) (s : SubscriberTables) → is_subscription publication s.site.0 ≡ true → s.conflict_count < number_limit → SubscriberConflicts s → ConflictsAreKept publication s.latest.0 s.conflict_count s.conflicts
own-kept publication s subscribes low b = record {
  numbered = b.numbered;
  each = all-weaker (OwnLost s.site.0 s.latest.0) (LostAt publication s.latest.0) (λ row own. (subst (λ (n : ℕ). is_site publication n ≡ true) (sym own.0) (site-is publication s.site.0 subscribes), own.1)) s.conflicts b.each;
  low = low;
}

pub conflicts-kept : (publication : Publication) (says : Saying) (tallies : List ℕ) (slips : Slips) (events : List Event) → (resolvers : ℕ) × IsValid resolvers publication → AllConflictsAreKept publication (model_behind publication says tallies slips events)
conflicts-kept publication says tallies slips events valid =
    let m : Model = model_behind publication says tallies slips events in
    let k : Known publication m = known-always publication says tallies slips events valid in
    let p : PublisherConflicts publication m.world.publisher = publisher-conflicts publication says tallies slips events valid in
    record {
      publisher = record { numbered = p.numbered; each = p.each; low = (let few = p.few in omega (arith, few)) };
      subscribers = λ n s at. own-kept publication s
          (subst (λ (x : ℕ). is_subscription publication x ≡ true) (sym (k.whole.0.0.received.subscribers n s at).keyed) (k.whole.1.known n s at).subscribes)
          (let few = (rows-have-room publication says tallies slips events valid n s at).few in let low = (k.bounded.subscribers n s at).changes in omega (arith, few, low))
          (own-conflicts publication says tallies slips events valid n s at);
    }

pub conflicts-load : OfEveryValidRun ConflictsLoad
conflicts-load resolvers publication valid says tallies slips events = conflicts-kept publication says tallies slips events (resolvers, valid)
