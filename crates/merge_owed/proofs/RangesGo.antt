-- What a range request of a session leaves, where nothing was refused.
use Rattle.std.specs.List.{fold, last_or, list_all}
use Rattle.std.specs.Prelude.{Bool, List, None, Option, Some, [], false, length, map, refl, true, ℕ, ◌++◌, ◌+◌, ◌≡◌, ◌∷◌}
use Rattle.std.proofs.Common.{arith}
use Rattle.merge_ident.specs.Answers.{grants_with_all}
use Rattle.merge_ident.specs.Holders.{Holder}
use Rattle.merge_schema.specs.declared.publication.Publication.{Publication}
use Rattle.merge_batch.specs.Asks.{broken_by_ranges, want_fits, wanted_article}
use Rattle.merge_batch.specs.Replies.{broken_by_reply, grant_fits, granted_article}
use Rattle.merge_batch.specs.Search.{are_distinct, broken_by_message}
use Rattle.merge_batch.specs.declared.reply.Ranged.{Ranged}
use Rattle.merge_batch.specs.declared.reply.Reply.TheVariants as reply
use Rattle.merge_batch.specs.declared.request.Outstanding.TheVariants as ask
use Rattle.merge_batch.specs.declared.request.RangeAsk.{RangeAsk}
use Rattle.merge_batch.specs.declared.request.Request.TheVariants as request
use Rattle.merge_model.specs.Judge.ByHistory.{by_made, by_past}
use Rattle.merge_model.specs.World.Faults.{fault_of, heard_by, known_by, ranges_fault, reply_fault}
use Rattle.merge_model.specs.History.{History, pasts_with}
use Rattle.merge_model.specs.Judge.{PublisherJudge, SubscriberJudge}
use Rattle.merge_model.specs.History.Model.{Model, model}
use Rattle.merge_model.specs.Tables.Publications.{rules_of}
use Rattle.merge_model.specs.Publisher.{site_refusal}
use Rattle.merge_model.specs.Publisher.PublisherRanges.{plans, ranges_refusal, reply_to_ranges, with_grants}
use Rattle.merge_model.specs.Subscriber.Sending.{ranges_made, sending_refusal, want_of, with_message}
use Rattle.merge_model.specs.World.Session.{ask as asking}
use Rattle.merge_model.specs.World.Steps.{SendRanges, post, post_if_made}
use Rattle.merge_model.specs.Tables.{PublisherTables, SubscriberTables}
use Rattle.merge_model.specs.Subscriber.Taking.{tables_after_reply, with_grant as receives}
use Rattle.merge_model.specs.World.{Saying, World, subscriber_at, with_publisher, with_subscriber}
use Rattle.merge_model.specs.declared.letter.Letter.{Letter}
use Rattle.merge_model.specs.declared.letter.Message.{Message}
use Rattle.merge_model.specs.declared.letter.Message.TheVariants.{Asks, Replies}
use Rattle.merge_model.specs.declared.outcome.Outcome.{Outcome}
use Rattle.merge_types.specs.declared.identifiers.Moment.{Moment}
use Rattle.merge_model.proofs.Lists.Finding.{at_put_same}
use Rattle.merge_model.proofs.Runs.Refusals.{first-none}
use Rattle.merge_laws.proofs.Sessions.SessionSteps.{After, Answered, Sent, back-step, comes-step, post-step, posted_model, reply-step, send-step, unless-step}
use Rattle.merge_laws.proofs.Walking.{here}
use Rattle.merge_laws.proofs.Sessions.SessionExchanges.{last-posted}
use Rattle.merge_owed.proofs.RangeAnswers.{and-both, articles_in, brought, planned}

-- The request was for distinct articles, its reply was posted last and brings what was planned, each range with a value, and the site
-- received it
pub record RangesGo (publication : Publication) (m : Model) (s : SubscriberTables) (k : Model) : Type 0 where
  pub tables : SubscriberTables
  pub told : Ranged
  pub here : subscriber_at k.world s.site ≡ Some tables
  pub posted : last_or None (map (λ (letter : Letter). letter.message) k.world.pool) ≡ Some (Replies (reply.Ranged told))
  pub brings : told.grants ≡ brought (planned (rules_of publication) s.site m.world.publisher.grants s.held)
  pub held : tables.held ≡ fold receives s.held (brought (planned (rules_of publication) s.site m.world.publisher.grants s.held))
  pub granted : k.world.publisher.grants ≡ grants_with_all m.world.publisher.grants (planned (rules_of publication) s.site m.world.publisher.grants s.held)
  pub distinct : are_distinct (articles_in s.held) ≡ true
  pub fits : list_all (grant_fits (heard_by s)) (brought (planned (rules_of publication) s.site m.world.publisher.grants s.held)) ≡ true

rule-holds : (rule : ℕ) (b : Bool) → fault_of (broken_by_message ((rule, b) ∷ [])) ≡ None → b ≡ true
rule-holds rule true none = refl
rule-holds rule false none = absurd (grind (arith, none))

pub asks-distinct : (publication : Publication) (judge : PublisherJudge) (now : Moment) (m : RangeAsk) (p : PublisherTables) → ranges_refusal publication judge now m p ≡ None → are_distinct (map wanted_article m.wants) ≡ true
unfolding broken_by_ranges
asks-distinct publication judge now m p none =
    let rest = (first-none (site_refusal publication m.site m.seq now p) _ none).1 in
    let fits = rule-holds 13 _ (first-none (ranges_fault publication judge m p) _ rest).0 in
    (and-both (list_all (want_fits publication (known_by publication judge p) m.site.0) m.wants) (are_distinct (map wanted_article m.wants)) fits).1

pub reply-fits : (publication : Publication) (d : Ranged) (s : SubscriberTables) → reply_fault publication ask.Ranges (reply.Ranged d) s ≡ None → list_all (grant_fits (heard_by s)) d.grants ≡ true
unfolding broken_by_reply
reply-fits publication d s none = (and-both (list_all (grant_fits (heard_by s)) d.grants) (are_distinct (map granted_article d.grants)) (rule-holds 0 _ none)).0

module _ (publication : Publication) (says : Saying) (m : Model) (s : SubscriberTables) (at : subscriber_at m.world s.site ≡ Some s) where
  abbrev w : World
  w = m.world

  abbrev h : History
  h = m.history

  pub ranges-go : Answered publication says (RangesGo publication m s) (λ k. Unit {0}) s.site (asking (model publication says) s.site SendRanges m)
  ranges-go =
      let Acts : Model → Type 0 = RangesGo publication m s in
      let Rests : Model → Type 0 = λ k. Unit {0} in
      let u : SubscriberTables = with_message ask.Ranges s in
      let a : RangeAsk = record { site = s.site; seq = s.seq + 1; wants = map want_of s.held } in
      let v : World = with_subscriber u w in
      let k : Model = posted_model s.site (Asks (request.Ranges a)) v h in
      let judge : PublisherJudge = by_past k.history (pasts_with k.history (length v.pool + 1)) in
      let q : PublisherTables = with_grants (plans publication a w.publisher) (here k.world) in
      let d : Ranged = reply_to_ranges a (plans publication a w.publisher) in
      let x : World = with_publisher q k.world in
      let n : Model = posted_model s.site (Replies (reply.Ranged d)) x k.history in
      let own : SubscriberJudge = by_made n.history s.site in
      let there : subscriber_at v s.site ≡ Some u = at_put_same s.site.0 u w.subscribers in
      let act : Option (SubscriberTables × RangeAsk) → World × Outcome = post_if_made s.site (λ (y : RangeAsk). request.Ranges y) w in
      send-step publication says Acts Rests s.site m s SendRanges at
      (unless-step (Sent publication says Acts Rests s.site) w h (λ why. tt) (sending_refusal s) (ranges_made s) act h (λ fine.
      elim s.held as (λ (held : List (ℕ × Holder)). (let made : Option (SubscriberTables × RangeAsk) = elim held [ [] ↦ None | entry ∷ entries ↦ Some (u, a) ] in After (Sent publication says Acts Rests s.site) (act made) h h)) [
        | [] ↦ tt
        | entry ∷ entries ↦
            post-step (Sent publication says Acts Rests s.site) s.site (Asks (request.Ranges a)) v h h
            (comes-step publication says Acts Rests s.site (Answered publication says Acts Rests s.site) s.site (Asks (request.Ranges a)) v h
            (unless-step (Answered publication says Acts Rests s.site) k.world k.history (λ why. tt) (ranges_refusal publication judge w.moment a w.publisher) (q, d) (λ (made : PublisherTables × Ranged). post s.site (Replies (reply.Ranged made.1)) (with_publisher made.0 k.world)) k.history (λ taken_in.
            post-step (Answered publication says Acts Rests s.site) s.site (Replies (reply.Ranged d)) x k.history k.history
            (back-step publication says Acts Rests s.site x k.history u (reply.Ranged d) there
            (reply-step publication says Acts Rests s.site n.world n.history own u (reply.Ranged d) ask.Ranges n.history (λ none. record {
              tables = tables_after_reply own w.moment (reply.Ranged d) u;
              told = d;
              here = at_put_same s.site.0 (tables_after_reply own w.moment (reply.Ranged d) u) n.world.subscribers;
              posted = last-posted None x.pool (record { site = s.site; message = Replies (reply.Ranged d) });
              brings = refl;
              held = refl;
              granted = refl;
              distinct = asks-distinct publication judge w.moment a w.publisher taken_in;
              fits = reply-fits publication d u none;
            }))))))
      ]))
