-- A session's range requests end before their bound.
use Rattle.std.specs.List.{fold}
use Rattle.std.specs.Prelude.{Bool, Err, List, None, Ok, Option, Some, [], false, if◌then◌else◌, int_le, length, nat_lt, refl, suc, true, zero, ℕ, ◌+◌, ◌≡◌, ◌≤◌, ◌≤ℤ◌}
use Rattle.std.proofs.Common.{ap, arith, inl, inr, subst, sym, ◌∙◌, ◌⊎◌}
use Rattle.std.proofs.lemmas.Bool.Decides.{nat_tests}
use Rattle.std.proofs.lemmas.Int.{ints}
use Rattle.std.proofs.lemmas.List.Sums.{count_by-le-length}
use Rattle.merge_types.specs.declared.identifiers.SiteId.{SiteId}
use Rattle.merge_ident.specs.Answers.{Answer, grants_with_all}
use Rattle.merge_ident.specs.Grants.{is_of}
use Rattle.merge_ident.specs.Holders.{Holder, size_of}
use Rattle.merge_ident.specs.declared.grants.Grant.{Grant}
use Rattle.merge_ident.specs.declared.grants.GrantAnswer.TheVariants.{Granted, Kept, NotDue}
use Rattle.merge_ident.specs.declared.grants.GrantPlan.{GrantPlan}
use Rattle.merge_ident.specs.declared.grants.Range.{Range}
use Rattle.merge_ident.proofs.Taken.{unused_has_values}
use Rattle.merge_schema.specs.declared.publication.Publication.{Publication}
use Rattle.merge_batch.specs.Replies.{Heard, grant_fits}
use Rattle.merge_batch.specs.declared.reply.RangeGrant.{RangeGrant}
use Rattle.merge_model.specs.World.Faults.{heard_by}
use Rattle.merge_model.specs.Tables.Keys.{at_number}
use Rattle.merge_model.specs.History.Model.{Model, model, model_step}
use Rattle.merge_model.specs.Tables.Publications.{rules_of}
use Rattle.merge_model.specs.Publisher.PublisherRanges.{granted_by}
use Rattle.merge_model.specs.Failing.Runs.{model_behind_actions}
use Rattle.merge_model.specs.World.Session.{Session, answered_as, as_it_is, ask, exchange, has_grant, last_message, range_requests_up_to, session_after_reply}
use Rattle.merge_model.specs.World.Steps.{Deliver, Send, SendRanges, Sending}
use Rattle.merge_model.specs.Tables.{SubscriberTables}
use Rattle.merge_model.specs.Subscriber.Taking.{with_grant as receives}
use Rattle.merge_model.specs.World.{Saying}
use Rattle.merge_model.specs.declared.letter.Message.{Message}
use Rattle.merge_model.specs.declared.outcome.Outcome.{Outcome}
use Rattle.merge_model.specs.declared.outcome.Outcome.TheVariants.{NoPost, Posted, Refuses, Took}
use Rattle.merge_model.proofs.Lists.Finding.{some_same}
use Rattle.merge_laws.specs.Laws.Bounds.{under_way}
use Rattle.merge_laws.specs.Laws.{OfEveryValidActions}
use Rattle.merge_laws.proofs.Sessions.BoundsEnough.{exchange-same}
use Rattle.merge_laws.proofs.Sessions.SessionLaw.{At, Known, at_next, deliver-known, ends-here, own, same-site, step-known}
use Rattle.merge_laws.proofs.Sessions.SessionSteps.{Answered, Ends}
use Rattle.merge_laws.proofs.Settled.SettledLaw.{settled-by-actions}
use Rattle.merge_owed.specs.Ranges.{RangesAreEnough}
use Rattle.merge_owed.proofs.HeldThresholds.{AreThresholds, thresholds-by-actions}
use Rattle.merge_owed.proofs.RangeAnswers.{FitsIfAny, OwnAfter, and-both, answered, brought, none-brought, none-without, others-held, own-after, own-found, planned, received}
use Rattle.merge_owed.proofs.RangeSteps.{Goes, HasSome, Stuck, goes-on}
use Rattle.merge_owed.proofs.RangesGo.{RangesGo, ranges-go}

-- A range that fits has a value.
has-values : (range : Range) → int_le range.begin range.end ≡ true → 1 ≤ size_of range
has-values range is =
    let some : range.begin ≤ℤ range.end = grind (arith, ints, nat_tests, is) in
    let used = unused_has_values range some in
    grind (arith, nat_tests, used)

pub fits-some : (heard : Heard) (article : ℕ) (answer : Answer) → FitsIfAny (grant_fits heard) (granted_by article answer) → HasSome answer
fits-some heard article (Ok (Granted number range)) fits = has-values range (and-both _ (int_le range.begin range.end) fits).1
fits-some heard article (Ok (Kept number range)) fits = has-values range (and-both _ (int_le range.begin range.end) fits).1
fits-some heard article (Ok NotDue) fits = tt
fits-some heard article (Err fault) fits = tt

-- Of all articles that a site holds.
abbrev AllGo : Publication → ℕ → SiteId → List Grant → List (ℕ × Holder) → Type 0
AllGo publication n site grants held = (article : ℕ) (holder : Holder) → at_number held article ≡ Some holder → Goes (rules_of publication) n site grants article holder

if-true-same : {X : Type 0} (b : Bool) (x y z : X) → (b ≡ true → x ≡ y) → (if b then x else z) ≡ (if b then y else z)
if-true-same true x y z same = same refl
if-true-same false x y z same = refl

module _ (publication : Publication) (m : Model) (s : SubscriberTables) (k : Model) (l : RangesGo publication m s k) where
  abbrev grants : List Grant
  grants = m.world.publisher.grants

  abbrev plans_here : List GrantPlan
  plans_here = planned (rules_of publication) s.site grants s.held

  one-goes : (n article : ℕ) (new : Holder) (found : Option Holder) → at_number s.held article ≡ found → AllGo publication (suc n) s.site grants s.held → at_number (fold receives s.held (brought plans_here)) article ≡ Some new
      → Goes (rules_of publication) n s.site (grants_with_all grants plans_here) article new
  one-goes n article new None at all now =
      let gone : at_number (fold receives s.held (brought plans_here)) article ≡ None = others-held (rules_of publication) s.site article s.held grants s.held (none-without article s.held at) ∙ at in
      absurd cc
  one-goes n article new (Some holder) at all now =
      let answer : Answer = answered (rules_of publication) s.site grants article holder in
      let after : OwnAfter article s.site.0 holder answer grants (grants_with_all grants plans_here) (brought plans_here) = own-after (rules_of publication) s.site article holder s.held grants (own-found article holder s.held l.distinct at) in
      let is : received answer holder ≡ new = some_same (received answer holder) new (sym (after.held s.held at) ∙ now) in
      subst (λ (x : Holder). Goes (rules_of publication) n s.site (grants_with_all grants plans_here) article x) is
      (goes-on (rules_of publication) s.site article holder grants (grants_with_all grants plans_here) (brought plans_here) n answer refl after (fits-some (heard_by s) article answer (after.fits (grant_fits (heard_by s)) l.fits)) (all article holder at))

  -- each request comes one nearer to the end
  all-go : (n : ℕ) → AllGo publication (suc n) s.site grants s.held → AllGo publication n s.site k.world.publisher.grants l.tables.held
  all-go n all article holder at =
      subst (λ (g : List Grant). Goes (rules_of publication) n s.site g article holder) (sym l.granted)
      (one-goes n article holder (at_number s.held article) refl all (ap (λ (held : List (ℕ × Holder)). at_number held article) (sym l.held) ∙ at))

  stuck-of : (article : ℕ) (holder : Holder) → Stuck (rules_of publication) s.site grants article holder ⊎ ⊥ → Stuck (rules_of publication) s.site grants article holder
  stuck-of article holder (inl stuck) = stuck
  stuck-of article holder (inr never) = absurd never

  -- at which no range comes
  none-left : AllGo publication zero s.site grants s.held → nat_lt 0 (length l.told.grants) ≡ true → ⊥
  none-left all some =
      let none : l.told.grants ≡ [] = l.brings ∙ none-brought (rules_of publication) s.site s.held grants l.distinct (λ article holder at. stuck-of article holder (all article holder at).within) in
      let no : nat_lt 0 (length l.told.grants) ≡ false = ap (λ (g : List RangeGrant). nat_lt 0 (length g)) none in
      absurd cc

one-more : (count more : ℕ) → suc count + more ≡ suc (count + more)
one-more count more = omega arith

module _ (publication : Publication) (says : Saying) (site : SiteId) where
  -- one turn, where the later ones are the same
  asking-turn : (count more n : ℕ) (k : Model) (v : Session Model) (a : At publication says site k) → AllGo publication n site k.world.publisher.grants a.tables.held → n ≤ count → Known publication says site v.world
      → (l : RangesGo publication k a.tables v.world) → nat_lt 0 (length l.told.grants) ≡ true
      → ((next : ℕ) (e : At publication says site v.world) → AllGo publication next site v.world.world.publisher.grants e.tables.held → next + 1 ≤ count → range_requests_up_to (model publication says) site (count + more) v ≡ range_requests_up_to (model publication says) site count v)
      → range_requests_up_to (model publication says) site (count + more) v ≡ range_requests_up_to (model publication says) site count v
  asking-turn count more zero k v a all enough g l some later =
      absurd (none-left publication k a.tables v.world l (subst (λ (x : SiteId). AllGo publication zero x k.world.publisher.grants a.tables.held) (sym (same-site publication says site k a)) all) some)
  asking-turn count more (suc n) k v a all enough g l some later =
      let same : a.tables.site ≡ site = same-site publication says site k a in
      later n (at_next publication says site k v.world a l.tables g l.here)
      (subst (λ (x : SiteId). AllGo publication n x v.world.world.publisher.grants l.tables.held) same
      (all-go publication k a.tables v.world l n (subst (λ (x : SiteId). AllGo publication (suc n) x k.world.publisher.grants a.tables.held) (sym same) all)))
      (omega (arith, enough))

  asking-same : (count more n : ℕ) (u : Session Model) (a : At publication says site u.world) → AllGo publication n site u.world.world.publisher.grants a.tables.held → n + 1 ≤ count
      → range_requests_up_to (model publication says) site (count + more) u ≡ range_requests_up_to (model publication says) site count u
  asking-same zero more n u a all enough = absurd (omega (arith, enough))
  asking-same (suc count) more n u a all enough =
      let k : Model = u.world in
      let s : SubscriberTables = a.tables in
      let last : Model → Option Message = λ (x : Model). last_message (model publication says) site x in
      let some : Option Message → Bool = λ (message : Option Message). has_grant (model publication says) site message in
      let more_asks : Session Model → Session Model = λ (t : Session Model). if some (last t.world) then range_requests_up_to (model publication says) site (count + more) t else t in
      let asks : Session Model → Session Model = λ (t : Session Model). if some (last t.world) then range_requests_up_to (model publication says) site count t else t in
      ap (λ (j : ℕ). range_requests_up_to (model publication says) site j u) (one-more count more)
      ∙ exchange-same publication says site (RangesGo publication k s) (λ x. Unit {0}) SendRanges u (as_it_is (model publication says) site) more_asks asks
      (ends-here publication says site (RangesGo publication k s) (λ x. Unit {0}) SendRanges k a (ranges-go publication says k s (own publication says site k a)))
      a.known
      (λ v g l. if-true-same (some (last v.world)) (range_requests_up_to (model publication says) site (count + more) v) (range_requests_up_to (model publication says) site count v) v
      (λ is. asking-turn count more n k v a all (omega (arith, enough)) g l (sym (ap some l.posted) ∙ is) (λ next e go left. asking-same count more next v e go left)))

-- At the beginning there are as many as were granted, and two more.
all-begin : (publication : Publication) (site : SiteId) (grants : List Grant) (held : List (ℕ × Holder)) → AreThresholds held → AllGo publication (suc (suc (length grants))) site grants held
all-begin publication site grants held thresholds article holder at = record {
  threshold = thresholds article holder at;
  within = inr (let most = count_by-le-length (is_of article site.0) grants in omega (arith, most));
}

pub ranges-enough : OfEveryValidActions RangesAreEnough
ranges-enough resolvers publication valid says tallies slips actions s uploads downloads more at =
    let m : Model = model_behind_actions publication says tallies slips actions in
    let g = (settled-by-actions publication says tallies slips actions (resolvers, valid)).0 in
    let thresholds : AreThresholds s.held = thresholds-by-actions publication says tallies slips actions (resolvers, valid) s.site.0 s at in
    let grants : List Grant = m.world.publisher.grants in
    asking-same publication says s.site (length grants + 4) more (suc (suc (length grants))) (under_way m uploads downloads) (record { tables = s; known = (g.received, g.numbered); here = at })
    (all-begin publication s.site grants s.held thresholds) (omega arith)
