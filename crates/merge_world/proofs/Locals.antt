-- Local changes, closings, purges and subscribers that begin anew, as actions.
use Rattle.std.proofs.Common.{◌≡◌, ◌==◌, ℕ, Bool, true, false, List, Option, Some, None, Result, Ok, get_or, if◌then◌else◌, map, set, refl, ap, sym, subst, ◌∙◌, arith}
use Rattle.std.specs.List.{position}
use Rattle.std.proofs.lemmas.Bool.Decides.{nat_tests}
use Rattle.std.proofs.lemmas.List.{map-set}
use Rattle.merge_types.specs.declared.changes.Change.{Change}
use Rattle.merge_types.specs.declared.identifiers.Moment.{Moment}
use Rattle.merge_types.specs.declared.identifiers.RowId.{RowId}
use Rattle.merge_types.specs.declared.identifiers.SiteId.{SiteId}
use Rattle.merge_schema.specs.declared.publication.Publication.{Publication}
use Rattle.merge_batch.specs.declared.refusal.Refusal.{Refusal}
use Rattle.merge_batch.specs.declared.refusal.Refusal.TheVariants.{NoMemory, UnknownSite}
use Rattle.merge_model.specs.Judge.ByNumbers.{by_numbers, by_rows}
use Rattle.merge_model.specs.World.Calls.{always_commits, closing_commits}
use Rattle.merge_model.specs.Failing.{closing_at_subscriber, commits}
use Rattle.merge_model.specs.Publisher.{close_generation}
use Rattle.merge_model.specs.Publisher.PublisherLocal.{local}
use Rattle.merge_model.specs.Publisher.PublisherPurge.{purge}
use Rattle.merge_model.specs.Subscriber.Reinit.{reinitialise}
use Rattle.merge_model.specs.World.Steps.{Action, CloseAt, Forget, Make, MakeAnew, at_subscriber, close_publisher, close_subscriber, make_anew, make_at_publisher, make_at_subscriber, step, unless_refused}
use Rattle.merge_model.specs.Subscriber.{close_subscriber_generation, subscriber_local}
use Rattle.merge_model.specs.Tables.{SubscriberTables}
use Rattle.merge_model.specs.World.{Saying, World, by_tables, subscriber_at, with_subscriber}
use Rattle.merge_model.specs.declared.letter.Letter.{Letter}
use Rattle.merge_model.specs.declared.outcome.Forgotten.{Forgotten}
use Rattle.merge_model.specs.declared.outcome.Outcome.{Outcome}
use Rattle.merge_model.specs.declared.outcome.Outcome.TheVariants.{Closes, Discards, Forgot, Made, Refuses}
use Rattle.merge_model.proofs.Failing.Calling.{made, outcome_by, takes, wants}
use Rattle.merge_world.specs.Views.{Does, IsOrdered, PublisherCall, PublisherView, SitesView, Stays, SubscriberCall, SubscriberView, sites_view, world_of}
use Rattle.merge_world.proofs.Doing.{publisher-does, same-count, subscriber-does}
use Rattle.merge_world.proofs.Finding.{at-place, found-place, is_of, placed, publication-place, unfound, within}

-- nothing changes but what is counted
pub stays-same : (v : SitesView) → Stays v v
stays-same v = record { publication = refl; sites = refl; publications = refl; moment = refl }

-- an action that is made and changes nothing
pub made-here : (action : Action) → takes action ≡ true → (v : SitesView) (outcome : Outcome)
    → ((says : Saying) (tallies : List ℕ) → step v.publication says (world_of v tallies) action ≡ (world_of v tallies, outcome)) → Does action v v outcome
made-here action is v outcome step = record {
  acts = λ says tallies. made v.publication says action is (world_of v tallies) (world_of v tallies) outcome v.faults v.faults (same-count v.faults) (step says tallies);
  stays = stays-same v;
}

-- memory is wanting
pub wants-room : (action : Action) → takes action ≡ true → (v v' : SitesView) → v' ≡ v → Does action v v' (Refuses NoMemory)
wants-room action is v v' same = subst (λ (u : SitesView). Does action v u (Refuses NoMemory)) (sym same) (record {
  acts = λ says tallies. wants v.publication says action is (world_of v tallies) (world_of v tallies) 0 v.faults v.faults (same-count v.faults) refl;
  stays = stays-same v;
})

-- At the publisher.
module _ (ss : List SubscriberView) (pool : List Letter) (moment : Moment) (p p' : PublisherView) (same : p'.publication ≡ p.publication) where
  pub closes-publisher : (r : Result ℕ Refusal) → PublisherCall (close_generation moment p.tables) (closing_commits moment p.tables.latest p.tables.gens) p p' r
      → Does (CloseAt (record { 0 = 0 })) (sites_view p ss pool moment) (sites_view p' ss pool moment) (outcome_by Closes r)
  closes-publisher r called = publisher-does ss pool moment (CloseAt (record { 0 = 0 })) refl p p' same (close_generation moment p.tables) Closes (closing_commits moment p.tables.latest p.tables.gens)
      (λ tallies x commit. commit) (λ says tallies. refl) r called

  pub makes-publisher : (change : Change) (r : Result RowId Refusal) → PublisherCall (local p.publication (by_numbers p.tables) moment change p.tables) always_commits p p' r
      → Does (Make (record { 0 = 0 }) change) (sites_view p ss pool moment) (sites_view p' ss pool moment) (outcome_by Made r)
  makes-publisher change r called = publisher-does ss pool moment (Make (record { 0 = 0 }) change) refl p p' same (local p.publication (by_numbers p.tables) moment change p.tables) Made always_commits
      (λ tallies x commit. refl) (λ says tallies. refl) r called

  pub forgets : (r : Result Forgotten Refusal) → PublisherCall (Ok (purge p.publication moment p.tables)) always_commits p p' r
      → Does Forget (sites_view p ss pool moment) (sites_view p' ss pool moment) (outcome_by Forgot r)
  forgets r called = publisher-does ss pool moment Forget refl p p' same (Ok (purge p.publication moment p.tables)) Forgot always_commits
      (λ tallies x commit. refl) (λ says tallies. refl) r called

-- the publisher's site by its number
pub at-zero : (P : SiteId → Type 0) (site : SiteId) → site.0 ≡ 0 → P (record { 0 = 0 }) → P site
at-zero P site is here = subst (λ (n : ℕ). P (record { 0 = n })) (sym is) here

not-zero : (n : ℕ) → (n ≡ 0 → ⊥) → (n == 0) ≡ false
not-zero n off = by (n == 0) refl
  where
    by : (b : Bool) → (n == 0) ≡ b → (n == 0) ≡ false
    by true e = absurd (off (grind (arith, nat_tests)))
    by false e = e

-- At a subscriber.
module _ {S : Type 0} (f : S → SubscriberView) (p : PublisherView) (pool : List Letter) (moment : Moment) (items : List S) where
  abbrev here : SitesView
  here = sites_view p (map f items) pool moment

  pub does-at : {A : Type 0} (action : Action) → takes action ≡ true → (i : ℕ) (s s' : S) (site : SiteId) → IsOrdered here → Some i ≡ position (is_of f site.0) items → s ≡ get_or items i s
      → (f s').tables.site ≡ (f s).tables.site → (f s').publication ≡ (f s).publication → (by : Result (SubscriberTables × A) Refusal) (out : A → Outcome) (is_commit : A → Bool)
      → ((tallies : List ℕ) (x : A) → is_commit x ≡ true → commits p.publication (world_of here tallies) action (out x) ≡ true)
      → ((says : Saying) (tallies : List ℕ) → step p.publication says (world_of here tallies) action
      ≡ unless_refused (world_of here tallies) by (λ (done : SubscriberTables × A). (with_subscriber done.0 (world_of here tallies), out done.1)))
      → (r : Result A Refusal) → SubscriberCall by is_commit (f s) (f s') r
      → Does action here (sites_view p (map f (set items i s')) pool moment) (outcome_by out r)
  does-at action is i s s' site ordered found at same_site same_publication by out is_commit commit step r called =
      let place = placed f items i s site.0 found at in
      subst (λ (l : List SubscriberView). Does action here (sites_view p l pool moment) (outcome_by out r)) (sym (map-set f items i s'))
      (subscriber-does p pool moment action is (map f items) i (f s) (f s') ordered (within f items i place.0) (at-place f items i s place.0 at) same_site same_publication by out is_commit commit step r called)

  -- what each action does, by whether its site is the publisher and by the subscriber that is found
  abbrev closed-if : World → SiteId → Bool → World × Outcome
  closed-if w site at_publisher = if at_publisher then close_publisher w else at_subscriber site w (close_subscriber w)

  abbrev closed-found : World → SiteId → Option SubscriberTables → World × Outcome
  closed-found w site found = elim found [
    | None ↦ (w, Refuses (UnknownSite site))
    | Some t ↦ close_subscriber w t
  ]

  abbrev made-if : World → SiteId → Change → Bool → World × Outcome
  made-if w site change at_publisher = if at_publisher then make_at_publisher p.publication (by_tables w) change w else at_subscriber site w (make_at_subscriber p.publication change w)

  abbrev made-found : World → SiteId → Change → Option SubscriberTables → World × Outcome
  made-found w site change found = elim found [
    | None ↦ (w, Refuses (UnknownSite site))
    | Some t ↦ make_at_subscriber p.publication change w t
  ]

  abbrev anew-found : World → SiteId → Option SubscriberTables → World × Outcome
  anew-found w site found = elim found [
    | None ↦ (w, Refuses (UnknownSite site))
    | Some t ↦ make_anew (by_tables w) w t
  ]

  closing-step : (w : World) (site : SiteId) (t : SubscriberTables) (says : Saying) → (site.0 == 0) ≡ false → subscriber_at w site ≡ Some t
      → step p.publication says w (CloseAt site) ≡ unless_refused w (close_subscriber_generation w.moment t) (λ (done : SubscriberTables × ℕ). (with_subscriber done.0 w, Closes done.1))
  closing-step w site t says off found = ap (closed-if w site) off ∙ ap (closed-found w site) found

  closing-commit : (w : World) (site : SiteId) (t : SubscriberTables) (generation : ℕ) → (site.0 == 0) ≡ false → subscriber_at w site ≡ Some t → closing_commits w.moment t.latest t.gens generation ≡ true
      → commits p.publication w (CloseAt site) (Closes generation) ≡ true
  closing-commit w site t generation off found commit = ap (λ (b : Bool). if b then closing_commits w.moment w.publisher.latest w.publisher.gens generation else closing_at_subscriber w (subscriber_at w site) generation) off
      ∙ (ap (λ (o : Option SubscriberTables). closing_at_subscriber w o generation) found ∙ commit)

  pub closes-subscriber : (i : ℕ) (s s' : S) (site : SiteId) → IsOrdered here → (site.0 ≡ 0 → ⊥) → Some i ≡ position (is_of f site.0) items → s ≡ get_or items i s
      → (f s').tables.site ≡ (f s).tables.site → (f s').publication ≡ (f s).publication
      → (r : Result ℕ Refusal) → SubscriberCall (close_subscriber_generation moment (f s).tables) (closing_commits moment (f s).tables.latest (f s).tables.gens) (f s) (f s') r
      → Does (CloseAt site) here (sites_view p (map f (set items i s')) pool moment) (outcome_by Closes r)
  closes-subscriber i s s' site ordered off found at same_site same_publication r called =
      does-at (CloseAt site) refl i s s' site ordered found at same_site same_publication (close_subscriber_generation moment (f s).tables) Closes (closing_commits moment (f s).tables.latest (f s).tables.gens)
      (λ tallies x commit. closing-commit (world_of here tallies) site (f s).tables x (not-zero site.0 off) (found-place f p pool moment items i s site tallies ordered found at) commit)
      (λ says tallies. closing-step (world_of here tallies) site (f s).tables says (not-zero site.0 off) (found-place f p pool moment items i s site tallies ordered found at)) r called

  making-step : (w : World) (site : SiteId) (change : Change) (t : SubscriberTables) (says : Saying) → (site.0 == 0) ≡ false → subscriber_at w site ≡ Some t
      → step p.publication says w (Make site change) ≡ unless_refused w (subscriber_local p.publication w.moment change t) (λ (done : SubscriberTables × RowId). (with_subscriber done.0 w, Made done.1))
  making-step w site change t says off found = ap (made-if w site change) off ∙ ap (made-found w site change) found

  pub makes-subscriber : (i : ℕ) (s s' : S) (site : SiteId) (change : Change) → IsOrdered here → (site.0 ≡ 0 → ⊥) → Some i ≡ position (is_of f site.0) items → s ≡ get_or items i s
      → (f s').tables.site ≡ (f s).tables.site → (f s').publication ≡ (f s).publication
      → (r : Result RowId Refusal) → SubscriberCall (subscriber_local (f s).publication moment change (f s).tables) always_commits (f s) (f s') r
      → Does (Make site change) here (sites_view p (map f (set items i s')) pool moment) (outcome_by Made r)
  makes-subscriber i s s' site change ordered off found at same_site same_publication r called =
      let place = placed f items i s site.0 found at in
      does-at (Make site change) refl i s s' site ordered found at same_site same_publication (subscriber_local p.publication moment change (f s).tables) Made always_commits
      (λ tallies x commit. refl)
      (λ says tallies. making-step (world_of here tallies) site change (f s).tables says (not-zero site.0 off) (found-place f p pool moment items i s site tallies ordered found at)) r
      (subst (λ (q : Publication). SubscriberCall (subscriber_local q moment change (f s).tables) always_commits (f s) (f s') r) (publication-place f p pool moment items i s ordered place.0 at) called)

  anew-step : (w : World) (site : SiteId) (t : SubscriberTables) (says : Saying) → subscriber_at w site ≡ Some t
      → step p.publication says w (MakeAnew site) ≡ unless_refused w (reinitialise (by_rows t) w.moment t) (λ (done : SubscriberTables × ℕ). (with_subscriber done.0 w, Discards done.1))
  anew-step w site t says found = ap (anew-found w site) found

  pub begins-anew : (i : ℕ) (s s' : S) (site : SiteId) → IsOrdered here → Some i ≡ position (is_of f site.0) items → s ≡ get_or items i s
      → (f s').tables.site ≡ (f s).tables.site → (f s').publication ≡ (f s).publication
      → (r : Result ℕ Refusal) → SubscriberCall (reinitialise (by_rows (f s).tables) moment (f s).tables) always_commits (f s) (f s') r
      → Does (MakeAnew site) here (sites_view p (map f (set items i s')) pool moment) (outcome_by Discards r)
  begins-anew i s s' site ordered found at same_site same_publication r called =
      does-at (MakeAnew site) refl i s s' site ordered found at same_site same_publication (reinitialise (by_rows (f s).tables) moment (f s).tables) Discards always_commits
      (λ tallies x commit. refl)
      (λ says tallies. anew-step (world_of here tallies) site (f s).tables says (found-place f p pool moment items i s site tallies ordered found at)) r called

  -- no subscriber has the site
  closing-nowhere : (w : World) (site : SiteId) (says : Saying) → (site.0 == 0) ≡ false → subscriber_at w site ≡ None → step p.publication says w (CloseAt site) ≡ (w, Refuses (UnknownSite site))
  closing-nowhere w site says off none = ap (closed-if w site) off ∙ ap (closed-found w site) none

  pub closes-nowhere : (site : SiteId) → (site.0 ≡ 0 → ⊥) → None ≡ position (is_of f site.0) items → Does (CloseAt site) here here (Refuses (UnknownSite site))
  closes-nowhere site off none = made-here (CloseAt site) refl here (Refuses (UnknownSite site))
      (λ says tallies. closing-nowhere (world_of here tallies) site says (not-zero site.0 off) (unfound f p pool moment items site tallies none))

  making-nowhere : (w : World) (site : SiteId) (change : Change) (says : Saying) → (site.0 == 0) ≡ false → subscriber_at w site ≡ None → step p.publication says w (Make site change) ≡ (w, Refuses (UnknownSite site))
  making-nowhere w site change says off none = ap (made-if w site change) off ∙ ap (made-found w site change) none

  pub makes-nowhere : (site : SiteId) (change : Change) → (site.0 ≡ 0 → ⊥) → None ≡ position (is_of f site.0) items → Does (Make site change) here here (Refuses (UnknownSite site))
  makes-nowhere site change off none = made-here (Make site change) refl here (Refuses (UnknownSite site))
      (λ says tallies. making-nowhere (world_of here tallies) site change says (not-zero site.0 off) (unfound f p pool moment items site tallies none))

  anew-nowhere : (w : World) (site : SiteId) (says : Saying) → subscriber_at w site ≡ None → step p.publication says w (MakeAnew site) ≡ (w, Refuses (UnknownSite site))
  anew-nowhere w site says none = ap (anew-found w site) none

  pub anew-unfound : (site : SiteId) → None ≡ position (is_of f site.0) items → Does (MakeAnew site) here here (Refuses (UnknownSite site))
  anew-unfound site none = made-here (MakeAnew site) refl here (Refuses (UnknownSite site))
      (λ says tallies. anew-nowhere (world_of here tallies) site says (unfound f p pool moment items site tallies none))
