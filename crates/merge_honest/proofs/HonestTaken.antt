-- A request that has none of the few reasons against it is answered, and one that has tells the first.
use Rattle.std.specs.Prelude.{Bool, List, None, Option, Some, [], false, nat_le, nat_lt, not, refl, true, unwrap_or, ℕ, ◌≡◌, ◌∷◌}
use Rattle.std.proofs.Common.{ap, arith, subst, sym, ◌∙◌}
use Rattle.merge_types.specs.declared.identifiers.Moment.{Moment}
use Rattle.merge_types.specs.declared.identifiers.SiteId.{SiteId}
use Rattle.merge_gens.specs.Retention.{is_expired}
use Rattle.merge_gens.specs.declared.sites.SiteState.{SiteState}
use Rattle.merge_schema.specs.Places.{is_subscription}
use Rattle.merge_schema.specs.declared.publication.Publication.{Publication}
use Rattle.merge_batch.specs.declared.refusal.Refusal.{Refusal}
use Rattle.merge_batch.specs.declared.refusal.Refusal.TheVariants.{BadBatch, Expired, Gap, NotJoined, Stale, UnknownSite, WrongWatermark}
use Rattle.merge_batch.specs.declared.request.Request.{Request}
use Rattle.merge_batch.specs.declared.request.Request.TheVariants as request
use Rattle.merge_batch.specs.declared.rules.BrokenRule.{BrokenRule}
use Rattle.merge_model.specs.Publisher.Acts.{acts_of}
use Rattle.merge_model.specs.Judge.ByHistory.{by_history}
use Rattle.merge_model.specs.World.Faults.{fault_of, join_fault, ranges_fault, upload_fault}
use Rattle.merge_model.specs.Judge.{PublisherJudge}
use Rattle.merge_model.specs.Tables.Keys.{at_number}
use Rattle.merge_model.specs.History.Model.{Model}
use Rattle.merge_model.specs.Publisher.{counters, last_closed, later, no_state, site_refusal, state_of, state_refusal, unknown_site}
use Rattle.merge_model.specs.Publisher.PublisherUpload.{too_many_new}
use Rattle.merge_model.specs.Tables.Refusals.{counter_end, first_refusal, refused_if, unless}
use Rattle.merge_model.specs.Failing.Runs.{model_behind}
use Rattle.merge_model.specs.World.Steps.{deliver_letter, deliver_request, unless_refused}
use Rattle.merge_model.specs.Tables.{PublisherTables}
use Rattle.merge_model.specs.World.{Saying, World}
use Rattle.merge_model.specs.declared.letter.Letter.{Letter}
use Rattle.merge_model.specs.declared.outcome.Outcome.{Outcome}
use Rattle.merge_model.specs.declared.outcome.Outcome.TheVariants.{NoLetter, Posted, Refuses}
use Rattle.merge_laws.specs.Laws.ActsOnce.{step_of_delivery}
use Rattle.merge_laws.specs.Laws.Effects.{history_judge}
use Rattle.merge_laws.specs.Laws.{OfEveryValidRun}
use Rattle.merge_honest.specs.Delivered.{IsRequest, NoneIsRefusedFor, is_unexpected, refusal_of}
use Rattle.merge_honest.specs.Taken.{HonestAreTaken, IsAnswered, expiry, reasons, staleness}
use Rattle.merge_honest.proofs.FewReasons.{IsKept, none-unexpected}

-- A reason that no refusal can be goes out of the list.

abbrev Odd : Option Refusal → Type 0
Odd x = (why : Refusal) → x ≡ Some why → is_unexpected why ≡ true

abbrev Few : List (Option Refusal) → Type 0
Few xs = (why : Refusal) → first_refusal xs ≡ Some why → is_unexpected why ≡ false

not-both : {X : Type 0} (b : Bool) → b ≡ true → b ≡ false → X
not-both true one other = absurd cc
not-both false one other = absurd cc

drop : (x : Option Refusal) (xs : List (Option Refusal)) → Odd x → Few (x ∷ xs) → first_refusal (x ∷ xs) ≡ first_refusal xs
drop None xs odd few = refl
drop (Some why) xs odd few = not-both (is_unexpected why) (odd why refl) (few why refl)

dropped : (x : Option Refusal) (xs : List (Option Refusal)) → Odd x → Few (x ∷ xs) → Few xs
dropped None xs odd few = few
dropped (Some why) xs odd few = not-both (is_unexpected why) (odd why refl) (few why refl)

under : (x : Option Refusal) (xs ys : List (Option Refusal)) → (Few xs → first_refusal xs ≡ first_refusal ys) → Few (x ∷ xs) → first_refusal (x ∷ xs) ≡ first_refusal (x ∷ ys)
under None xs ys same few = same few
under (Some why) xs ys same few = refl

refused-odd : (b : Bool) (refusal : Refusal) → is_unexpected refusal ≡ true → Odd (refused_if b refusal)
refused-odd true refusal is why e = (let same : refusal ≡ why = cc in subst (λ (r : Refusal). is_unexpected r ≡ true) same is)
refused-odd false refusal is why e = absurd cc

fault-odd : (found : Option BrokenRule) → Odd (fault_of found)
fault-odd None why e = absurd cc
fault-odd (Some broken) why e = (let bad : Refusal = BadBatch broken.item broken.rule in let same : bad ≡ why = cc in subst (λ (r : Refusal). is_unexpected r ≡ true) same refl)

-- The state of a site.

flat : (e t : Option Refusal) (rest : List (Option Refusal)) → first_refusal (first_refusal (first_refusal (e ∷ t ∷ []) ∷ []) ∷ rest) ≡ first_refusal (e ∷ t ∷ rest)
flat None None rest = refl
flat None (Some why) rest = refl
flat (Some why) t rest = refl

module _ (publication : Publication) (seq : ℕ) (now : Moment) (rest : List (Option Refusal)) where
  abbrev told : SiteState → List (Option Refusal)
  told state = (let last : Moment = record { 0 = state.last_sync } in refused_if (is_expired last now publication.retention_days) (Expired last now) ∷ refused_if (nat_le seq state.joined_at) (Stale seq state.joined_at) ∷ rest)

  found-same : (u : Option Refusal) (found : Option SiteState) → Odd u → Few (first_refusal (u ∷ state_refusal publication seq now found ∷ []) ∷ rest) → first_refusal (first_refusal (u ∷ state_refusal publication seq now found ∷ []) ∷ rest) ≡ first_refusal (told (unwrap_or found no_state))
  found-same (Some why) found odd few = not-both (is_unexpected why) (odd why refl) (few why refl)
  found-same None None odd few = not-both (is_unexpected NotJoined) refl (few NotJoined refl)
  found-same None (Some state) odd few = (let last : Moment = record { 0 = state.last_sync } in flat (refused_if (is_expired last now publication.retention_days) (Expired last now)) (refused_if (nat_le seq state.joined_at) (Stale seq state.joined_at)) rest)

site-same : (publication : Publication) (site : SiteId) (seq : ℕ) (now : Moment) (p : PublisherTables) (rest : List (Option Refusal)) → Few (site_refusal publication site seq now p ∷ rest)
    → first_refusal (site_refusal publication site seq now p ∷ rest) ≡ first_refusal (expiry publication now site p ∷ staleness seq site p ∷ rest)
site-same publication site seq now p rest few = found-same publication seq (later now p.latest) rest (unknown_site publication site) (at_number p.sites site.0) (refused-odd (not (is_subscription publication site.0)) (UnknownSite site) refl) few

-- what goes behind the state of a site
after-site : (publication : Publication) (site : SiteId) (seq : ℕ) (now : Moment) (p : PublisherTables) (xs ys : List (Option Refusal)) → (Few xs → first_refusal xs ≡ first_refusal ys) → Few (site_refusal publication site seq now p ∷ xs)
    → first_refusal (site_refusal publication site seq now p ∷ xs) ≡ first_refusal (expiry publication now site p ∷ staleness seq site p ∷ ys)
after-site publication site seq now p xs ys same few =
    let first = site-same publication site seq now p xs few in
    let few_there : Few (expiry publication now site p ∷ staleness seq site p ∷ xs) = λ why e. few why (first ∙ e) in
    first ∙ under (expiry publication now site p) (staleness seq site p ∷ xs) (staleness seq site p ∷ ys) (λ left. under (staleness seq site p) xs ys same left) few_there

-- Each kind of request.

same-reasons : (publication : Publication) (judge : PublisherJudge) (now : Moment) (r : Request) (p : PublisherTables) → ((why : Refusal) → refusal_of publication judge now r p ≡ Some why → is_unexpected why ≡ false) → refusal_of publication judge now r p ≡ first_refusal (reasons publication judge now r p)
same-reasons publication judge now (request.Join m) p few =
    let stale : Option Refusal = refused_if (nat_lt m.seq (state_of p m.site).joined_at) (Stale m.seq (state_of p m.site).joined_at) in
    let ends : List (Option Refusal) = counter_end (counters p) ∷ [] in
    let unknown : Odd (unknown_site publication m.site) = refused-odd (not (is_subscription publication m.site.0)) (UnknownSite m.site) refl in
    drop (unknown_site publication m.site) (stale ∷ join_fault m ∷ ends) unknown few
    ∙ under stale (join_fault m ∷ ends) ends (λ left. drop (join_fault m) ends (fault-odd _) left) (dropped (unknown_site publication m.site) (stale ∷ join_fault m ∷ ends) unknown few)
same-reasons publication judge now (request.Upload m) p few =
    let gap : Option Refusal = refused_if (judge.is_gap m.site.0 m.from) (Gap m.from (judge.received m.site.0)) in
    let rest : List (Option Refusal) = too_many_new (acts_of judge m [] p) p ∷ counter_end (counters p) ∷ [] in
    let odd : Odd gap = refused-odd (judge.is_gap m.site.0 m.from) (Gap m.from (judge.received m.site.0)) refl in
    after-site publication m.site m.seq now p (gap ∷ upload_fault publication judge m p ∷ rest) rest
    (λ left. drop gap (upload_fault publication judge m p ∷ rest) odd left ∙ drop (upload_fault publication judge m p) rest (fault-odd _) (dropped gap (upload_fault publication judge m p ∷ rest) odd left)) few
same-reasons publication judge now (request.Ranges m) p few =
    let ends : List (Option Refusal) = counter_end (counters p) ∷ [] in
    after-site publication m.site m.seq now p (ranges_fault publication judge m p ∷ ends) ends (λ left. drop (ranges_fault publication judge m p) ends (fault-odd _) left) few
same-reasons publication judge now (request.Download m) p few =
    let ends : List (Option Refusal) = counter_end (counters p) ∷ [] in
    let wrong : Option Refusal = refused_if (nat_lt (last_closed p) m.from) (WrongWatermark m.from (last_closed p)) in
    after-site publication m.site m.seq now p (wrong ∷ ends) ends (λ left. drop wrong ends (refused-odd (nat_lt (last_closed p) m.from) (WrongWatermark m.from (last_closed p)) refl) left) few

-- What a delivery answers.

unless-answered : {A : Type 0} (w : World) (refusal : Option Refusal) (a : A) (act : A → World × Outcome) → ((number : ℕ) × ((act a).1 ≡ Posted number)) → IsAnswered refusal (unless_refused w (unless refusal a) act).1
unless-answered w (Some why) a act posts = refl
unless-answered w None a act posts = posts

request-answered : (publication : Publication) (says : Saying) (judge : PublisherJudge) (site : SiteId) (r : Request) (w : World) → IsAnswered (refusal_of publication judge w.moment r w.publisher) (deliver_request publication says judge site r w).1
request-answered publication says judge site (request.Join m) w = unless-answered w _ _ _ (_, refl)
request-answered publication says judge site (request.Upload m) w = unless-answered w _ _ _ (_, refl)
request-answered publication says judge site (request.Ranges m) w = unless-answered w _ _ _ (_, refl)
request-answered publication says judge site (request.Download m) w = unless-answered w _ _ _ (_, refl)

delivered-answered : (publication : Publication) (says : Saying) (m : Model) (number : ℕ) (site : SiteId) (r : Request) → IsRequest m number site r → IsAnswered (refusal_of publication (history_judge m number) m.world.moment r m.world.publisher) (step_of_delivery publication says m number).1
delivered-answered publication says m number site r at =
    let w : World = m.world in
    let is : (step_of_delivery publication says m number).1 ≡ (deliver_request publication says (history_judge m number) site r w).1 =
    ap (λ (found : Option Letter). (let done : World × Outcome = elim found [ None ↦ (w, NoLetter) | Some letter ↦ deliver_letter publication says (by_history m.history) number w letter ] in done.1)) at in
    subst (IsAnswered (refusal_of publication (history_judge m number) w.moment r w.publisher)) (sym is) (request-answered publication says (history_judge m number) site r w)

refuses-why : (found : Option Refusal) (outcome : Outcome) (why : Refusal) → IsAnswered found outcome → found ≡ Some why → outcome ≡ Refuses why
refuses-why None outcome why answered is = absurd cc
refuses-why (Some other) outcome why answered is = (let same : other ≡ why = cc in answered ∙ ap (λ (r : Refusal). Refuses r) same)

taken-in : (publication : Publication) (says : Saying) (m : Model) → NoneIsRefusedFor is_unexpected publication says m → HonestAreTaken publication says m
taken-in publication says m few number site r at =
    let judge : PublisherJudge = history_judge m number in
    let answered = delivered-answered publication says m number site r at in
    let same = same-reasons publication judge m.world.moment r m.world.publisher (λ why is. few number site r why at (refuses-why (refusal_of publication judge m.world.moment r m.world.publisher) (step_of_delivery publication says m number).1 why answered is)) in
    subst (λ (found : Option Refusal). IsAnswered found (step_of_delivery publication says m number).1) same answered

pub honest-taken : IsKept 12 → OfEveryValidRun HonestAreTaken
honest-taken twelve resolvers publication valid says tallies slips events = taken-in publication says (model_behind publication says tallies slips events) (none-unexpected twelve resolvers publication valid says tallies slips events)
