-- Any reply, and any other step, keeps the rules of a start; every subscriber begins with them, and every start gives them.
use Rattle.std.specs.List.{AllByRecursion}
use Rattle.std.specs.Prelude.{Err, List, None, Ok, Option, Result, Some, [], map, refl, true, ℕ, ◌≡◌, ◌∷◌}
use Rattle.std.proofs.Common.{arith, subst, sym}
use Rattle.merge_types.specs.declared.identifiers.SiteId.{SiteId}
use Rattle.merge_ident.specs.Holders.{Holder}
use Rattle.merge_schema.specs.Places.{is_subscription}
use Rattle.merge_schema.specs.declared.publication.Identity.{Identity}
use Rattle.merge_schema.specs.declared.publication.Publication.{Publication}
use Rattle.merge_batch.specs.declared.refusal.Refusal.{Refusal}
use Rattle.merge_keeper.specs.Given.{IsBeginning}
use Rattle.merge_keeper.proofs.SubscriberBack.{loaded_articles, loaded_keeps, loaded_ordered}
use Rattle.merge_model.specs.Judge.ByNumbers.{by_rows}
use Rattle.merge_model.specs.Publisher.{holder_for, new_holders}
use Rattle.merge_model.specs.Subscriber.Reinit.{reinitialise}
use Rattle.merge_model.specs.Subscriber.Sending.{make_ask, make_join, make_ranges, make_upload}
use Rattle.merge_model.specs.Subscriber.Taking.{take_reply}
use Rattle.merge_model.specs.Subscriber.{close_subscriber_generation, empty_subscriber, subscriber_local}
use Rattle.merge_model.specs.Tables.Publications.{identities}
use Rattle.merge_model.specs.Tables.{SubscriberTables}
use Rattle.merge_honest.proofs.HeldRanges.{new-well}
use Rattle.merge_stored.specs.AnyReply.{AnyReplyKeepsRules, LeavesRules, SendsWithRules, SubscriberCallsKeep, SubscriberKeeps}
use Rattle.merge_stored.specs.AnySteps.{AfterAnySteps, AsksForRanges, AsksForRows, BeginsAnewAt, Changes, ClosesAt, Joins, NewSubscribersKeepRules, StartedSubscribersKeepRules, Step, StepFits, Takes, UploadsAt, after_step, unless_refused, where_made}
use Rattle.merge_stored.specs.Stored.{subscriber_stored}
use Rattle.merge_stored.proofs.RangeRule.{key-new}
use Rattle.merge_stored.proofs.Sites.{subscription-low}
use Rattle.merge_stored.proofs.AnyReply.Calls.{asks-ranges, asks-rows, begins-anew, changes, closes, joins, takes-reply, uploads}
use Rattle.merge_stored.proofs.AnyReply.Holders.{new-holders-stand}
use Rattle.merge_stored.proofs.AnyReply.Parts.{parts-load}
use Rattle.merge_stored.proofs.AnyReply.RowSteps.{no-rows}
use Rattle.merge_stored.proofs.AnyReply.States.{none-sent}

pub calls-keep : AnyReplyKeepsRules
calls-keep resolvers publication valid s k = record {
  of_reply = λ now m fits types. takes-reply resolvers publication valid s k (by_rows s) now m fits types;
  of_change = λ now change fits typed exists. changes resolvers publication valid s k now change fits typed exists;
  of_closing = λ now fits. closes resolvers publication valid s k now fits;
  of_join = joins resolvers publication valid s k;
  of_upload = λ now fits. uploads resolvers publication valid s k (by_rows s) now fits;
  of_ranges = asks-ranges resolvers publication valid s k;
  of_ask = asks-rows resolvers publication valid s k;
  of_anew = λ now fits few. begins-anew resolvers publication valid s k (by_rows s) now fits few;
}

pub new-keep : NewSubscribersKeepRules
new-keep resolvers publication valid site subscribes =
    let low = subscription-low resolvers publication valid site.0 subscribes in
    parts-load publication resolvers valid (empty_subscriber publication site) (record {
      subscribes = subscribes;
      state = record { site = omega (arith, low); changes = omega arith; closed = omega arith; conflict_count = omega arith; unfilled = omega arith; latest = omega arith; seq = omega arith; own = omega arith; mark = omega arith; sent = none-sent };
      closings = record { run = refl; rise = tt; made = tt };
      conflicts = record { numbered = refl; lost = tt };
      rows = no-rows publication (empty_subscriber publication site) refl;
    }) (new-holders-stand publication)

-- What a start is given.

new-none : (places : List (ℕ × Identity)) → AllByRecursion (λ (p : ℕ × Holder). p.1.have ≡ 0) (map holder_for places)
new-none [] = tt
new-none (place ∷ places) = (refl, new-none places)

new-beginning : (publication : Publication) → IsBeginning publication (new_holders publication)
new-beginning publication = record { ascends = (new-well publication 0).ascend; none = new-none (identities publication); each = λ article some. key-new publication article some }

pub started-keep : StartedSubscribersKeepRules
started-keep resolvers publication valid site subscribes es given s loads =
    let low = subscription-low resolvers publication valid site.0 subscribes in
    let begins = new-beginning publication in
    let same : s.site ≡ site = (loaded_articles publication site (new_holders publication) es (subscriber_stored s) given begins loads).0 in
    record {
      subscribes = subst (λ (k : SiteId). is_subscription publication k.0 ≡ true) (sym same) subscribes;
      ascending = (loaded_ordered publication site (new_holders publication) es (subscriber_stored s) given begins loads).rows;
      rules = loaded_keeps publication site (new_holders publication) es (subscriber_stored s) (omega (arith, low)) given begins loads;
    }

-- One step after the other.

module _ (publication : Publication) where
  refused-keeps : {A : Type 0} (s : SubscriberTables) (done : Result (SubscriberTables × A) Refusal) → SubscriberKeeps publication s → LeavesRules publication done → SubscriberKeeps publication (unless_refused s done)
  refused-keeps s (Ok done) k after = after
  refused-keeps s (Err refusal) k after = k

  made-keeps : {A : Type 0} (s : SubscriberTables) (done : Result (Option (SubscriberTables × A)) Refusal) → SubscriberKeeps publication s → SendsWithRules publication done → SubscriberKeeps publication (where_made s done)
  made-keeps s (Ok (Some made)) k after = after
  made-keeps s (Ok None) k after = k
  made-keeps s (Err refusal) k after = k

  step-keeps : (s : SubscriberTables) (step : Step) → SubscriberCallsKeep publication s → StepFits publication s step → SubscriberKeeps publication s → SubscriberKeeps publication (after_step publication s step)
  step-keeps s (Takes now m) calls fit k = refused-keeps s (take_reply publication (by_rows s) now m s) k (calls.of_reply now m fit.0 fit.1)
  step-keeps s (Changes now change) calls fit k = refused-keeps s (subscriber_local publication now change s) k (calls.of_change now change fit.0 fit.1 fit.2)
  step-keeps s (ClosesAt now) calls fit k = refused-keeps s (close_subscriber_generation now s) k (calls.of_closing now fit)
  step-keeps s Joins calls fit k = made-keeps s (make_join s) k calls.of_join
  step-keeps s (UploadsAt now) calls fit k = made-keeps s (make_upload (by_rows s) now s) k (calls.of_upload now fit)
  step-keeps s AsksForRanges calls fit k = made-keeps s (make_ranges s) k calls.of_ranges
  step-keeps s AsksForRows calls fit k = refused-keeps s (make_ask s) k calls.of_ask
  step-keeps s (BeginsAnewAt now) calls fit k = refused-keeps s (reinitialise (by_rows s) now s) k (calls.of_anew now fit.0 fit.1)

pub steps-keep : AfterAnySteps SubscriberKeeps
steps-keep resolvers publication valid s k [] fit = k
steps-keep resolvers publication valid s k (step ∷ steps) fit =
    steps-keep resolvers publication valid (after_step publication s step) (step-keeps publication s step (calls-keep resolvers publication valid s k) fit.0 k) steps fit.1
