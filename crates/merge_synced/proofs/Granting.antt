-- A session's requests for ranges are answered with a range only so often: each one comes nearer to the end.
use Rattle.std.specs.List.{fold, list_all}
use Rattle.std.specs.Prelude.{Bool, Err, List, None, Ok, Option, Some, [], false, int_le, length, map, nat_lt, refl, suc, true, zero, ℕ, ◌≡◌, ◌≤◌, ◌≤ℤ◌, ◌∷◌}
use Rattle.std.proofs.Common.{ap, arith, inl, inr, subst, sym, ◌∙◌, ◌⊎◌}
use Rattle.std.proofs.lemmas.Bool.Decides.{nat_tests}
use Rattle.std.proofs.lemmas.Int.{ints}
use Rattle.std.proofs.lemmas.List.Sums.{count_by-le-length}
use Rattle.merge_types.specs.declared.identifiers.Moment.{Moment}
use Rattle.merge_types.specs.declared.identifiers.SiteId.{SiteId}
use Rattle.merge_ident.specs.Answers.{Answer, grants_with_all}
use Rattle.merge_ident.specs.Grants.{is_of}
use Rattle.merge_ident.specs.Holders.{Holder, size_of}
use Rattle.merge_ident.specs.declared.grants.Grant.{Grant}
use Rattle.merge_ident.specs.declared.grants.GrantAnswer.TheVariants.{Granted, Kept, NotDue}
use Rattle.merge_ident.specs.declared.grants.GrantPlan.{GrantPlan}
use Rattle.merge_ident.specs.declared.grants.Range.{Range}
use Rattle.merge_ident.specs.declared.grants.Rule.{Rule}
use Rattle.merge_ident.proofs.Taken.{unused_has_values}
use Rattle.merge_schema.specs.declared.publication.Publication.{Publication}
use Rattle.merge_batch.specs.Asks.{broken_by_ranges, want_fits, wanted_article}
use Rattle.merge_batch.specs.Replies.{Heard, broken_by_reply, grant_fits, granted_article}
use Rattle.merge_batch.specs.Search.{are_distinct, broken_by_message}
use Rattle.merge_batch.specs.declared.reply.RangeGrant.{RangeGrant}
use Rattle.merge_batch.specs.declared.reply.Ranged.{Ranged}
use Rattle.merge_batch.specs.declared.reply.Reply.TheVariants as reply
use Rattle.merge_batch.specs.declared.request.Outstanding.TheVariants as ask
use Rattle.merge_batch.specs.declared.request.RangeAsk.{RangeAsk}
use Rattle.merge_model.specs.Judge.{PublisherJudge}
use Rattle.merge_model.specs.Publisher.PublisherRanges.{granted_by, ranges_refusal}
use Rattle.merge_model.specs.Publisher.{site_refusal}
use Rattle.merge_model.specs.Subscriber.Taking.{with_grant as receives}
use Rattle.merge_model.specs.Tables.Keys.{at_number}
use Rattle.merge_model.specs.Tables.{PublisherTables, SubscriberTables}
use Rattle.merge_model.specs.World.Faults.{fault_of, heard_by, known_by, ranges_fault, reply_fault}
use Rattle.merge_model.proofs.Lists.Finding.{some_same}
use Rattle.merge_model.proofs.Runs.Refusals.{first-none}
use Rattle.merge_owed.proofs.HeldThresholds.{AreThresholds}
use Rattle.merge_owed.proofs.RangeAnswers.{FitsIfAny, OwnAfter, and-both, answered, articles_in, brought, none-brought, none-without, others-held, own-after, own-found, planned, received}
use Rattle.merge_owed.proofs.RangeSteps.{Goes, HasSome, Stuck, goes-on}
use Rattle.merge_owed.proofs.RangesEnough.{fits-some}

-- Of all articles that a site holds: at most so many more requests bring a range.
abbrev pub AllGo : List Rule → ℕ → SiteId → List Grant → List (ℕ × Holder) → Type 0
AllGo rules n site grants held = (article : ℕ) (holder : Holder) → at_number held article ≡ Some holder → Goes rules n site grants article holder

module _ (rules : List Rule) (site : SiteId) (heard : Heard) (grants : List Grant) (held : List (ℕ × Holder)) (distinct : are_distinct (articles_in held) ≡ true) where
  abbrev plans_here : List GrantPlan
  plans_here = planned rules site grants held

  one-goes : (n article : ℕ) (new : Holder) (found : Option Holder) → list_all (grant_fits heard) (brought plans_here) ≡ true → at_number held article ≡ found → AllGo rules (suc n) site grants held → at_number (fold receives held (brought plans_here)) article ≡ Some new
      → Goes rules n site (grants_with_all grants plans_here) article new
  one-goes n article new None fits at all now =
      let gone : at_number (fold receives held (brought plans_here)) article ≡ None = others-held rules site article held grants held (none-without article held at) ∙ at in
      absurd cc
  one-goes n article new (Some holder) fits at all now =
      let answer : Answer = answered rules site grants article holder in
      let after : OwnAfter article site.0 holder answer grants (grants_with_all grants plans_here) (brought plans_here) = own-after rules site article holder held grants (own-found article holder held distinct at) in
      let is : received answer holder ≡ new = some_same (received answer holder) new (sym (after.held held at) ∙ now) in
      subst (λ (x : Holder). Goes rules n site (grants_with_all grants plans_here) article x) is
      (goes-on rules site article holder grants (grants_with_all grants plans_here) (brought plans_here) n answer refl after (fits-some heard article answer (after.fits (grant_fits heard) fits)) (all article holder at))

  pub all-go : (n : ℕ) → list_all (grant_fits heard) (brought plans_here) ≡ true → AllGo rules (suc n) site grants held → AllGo rules n site (grants_with_all grants plans_here) (fold receives held (brought plans_here))
  all-go n fits all article holder at = one-goes n article holder (at_number held article) fits refl all at

  stuck-of : (article : ℕ) (holder : Holder) → Stuck rules site grants article holder ⊎ ⊥ → Stuck rules site grants article holder
  stuck-of article holder (inl stuck) = stuck
  stuck-of article holder (inr never) = absurd never

  -- at the end no range comes
  pub none-left : AllGo rules zero site grants held → nat_lt 0 (length (brought plans_here)) ≡ true → ⊥
  none-left all some =
      let none : brought plans_here ≡ [] = none-brought rules site held grants distinct (λ article holder at. stuck-of article holder (all article holder at).within) in
      let no : nat_lt 0 (length (brought plans_here)) ≡ false = ap (λ (g : List RangeGrant). nat_lt 0 (length g)) none in
      absurd cc

-- At the beginning there are as many as were granted, and two more.
pub all-begin : (rules : List Rule) (site : SiteId) (grants : List Grant) (held : List (ℕ × Holder)) → AreThresholds held → AllGo rules (suc (suc (length grants))) site grants held
all-begin rules site grants held thresholds article holder at = record {
  threshold = thresholds article holder at;
  within = inr (let most = count_by-le-length (is_of article site.0) grants in omega (arith, most));
}
