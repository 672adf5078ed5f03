-- What a call of a site does to all sites.
use Rattle.std.proofs.Common.{◌≡◌, ◌≤◌, ◌<◌, ◌+◌, ℕ, Bool, true, List, Result, Some, get_or, length, map, set, sum_by, refl, ap, sym, subst, ◌∙◌, arith}
use Rattle.std.proofs.lemmas.List.{get_or-map, length-map, set-get_or}
use Rattle.std.proofs.lemmas.List.Sums.{sum_by-set}
use Rattle.std.proofs.Math.Seq.{map-set_same}
use Rattle.merge_types.specs.declared.identifiers.Moment.{Moment}
use Rattle.merge_types.specs.declared.identifiers.SiteId.{SiteId}
use Rattle.merge_batch.specs.declared.refusal.Refusal.{Refusal}
use Rattle.merge_model.specs.Failing.{commits}
use Rattle.merge_model.specs.Tables.Keys.{put_number}
use Rattle.merge_model.specs.Failing.Reach.{Acts}
use Rattle.merge_model.specs.World.Steps.{Action, step, unless_refused}
use Rattle.merge_model.specs.Tables.{PublisherTables, SubscriberTables}
use Rattle.merge_model.specs.World.{Saying, subscriber_at, with_publisher, with_subscriber}
use Rattle.merge_model.specs.declared.letter.Letter.{Letter}
use Rattle.merge_model.specs.declared.outcome.Outcome.{Outcome}
use Rattle.merge_model.proofs.Failing.Calling.{acts-all, calls-plainly, outcome_by, takes}
use Rattle.merge_model.proofs.Lists.Places.{found-in-place, put-in-place}
use Rattle.merge_world.specs.Views.{Does, IsOrdered, PublisherCall, PublisherView, SitesView, Stays, SubscriberCall, SubscriberView, entry_of, faults_of, publication_of, site_of, sites_view, world_of}

-- sums and orders, over plain numbers
pub same-count : (n : ℕ) → n ≤ n
same-count n = omega arith

pub both-same : (a b c : ℕ) → b + (a + c) ≡ a + (b + c)
both-same a b c = omega arith

pub both-rise : (a b c : ℕ) → b + (a + c) ≤ a + (b + c)
both-rise a b c = omega arith

-- The publisher's calls that ask nobody.
module _ (ss : List SubscriberView) (pool : List Letter) (moment : Moment) where
  pub publisher-does : {A : Type 0} (action : Action) → takes action ≡ true → (p p' : PublisherView) → p'.publication ≡ p.publication
      → (by : Result (PublisherTables × A) Refusal) (out : A → Outcome) (is_commit : A → Bool)
      → ((tallies : List ℕ) (x : A) → is_commit x ≡ true → commits p.publication (world_of (sites_view p ss pool moment) tallies) action (out x) ≡ true)
      → ((says : Saying) (tallies : List ℕ) → step p.publication says (world_of (sites_view p ss pool moment) tallies) action
      ≡ unless_refused (world_of (sites_view p ss pool moment) tallies) by (λ (done : PublisherTables × A). (with_publisher done.0 (world_of (sites_view p ss pool moment) tallies), out done.1)))
      → (r : Result A Refusal) → PublisherCall by is_commit p p' r
      → Does action (sites_view p ss pool moment) (sites_view p' ss pool moment) (outcome_by out r)
  publisher-does action is p p' same by out is_commit commit step r called = record {
    acts = λ says tallies. acts-all p.publication says action (world_of (sites_view p ss pool moment) tallies) (world_of (sites_view p' ss pool moment) tallies) (outcome_by out r)
        p.faults p'.faults (p.faults + sum_by faults_of ss) (p'.faults + sum_by faults_of ss) (both-rise p.faults p'.faults (sum_by faults_of ss))
        (calls-plainly p.publication says action is (world_of (sites_view p ss pool moment) tallies) (λ (t : PublisherTables). with_publisher t (world_of (sites_view p ss pool moment) tallies)) p.tables p'.tables refl by out is_commit
        (commit tallies) (step says tallies) p.faults p'.faults r called);
    stays = record { publication = same; sites = refl; publications = refl; moment = refl };
  }

-- A subscriber's calls.
module _ (p : PublisherView) (pool : List Letter) (moment : Moment) where
  abbrev all : List SubscriberView → SitesView
  all ss = sites_view p ss pool moment

  site-at : (ss : List SubscriberView) (k : ℕ) (d : SubscriberView) → k < length ss → get_or (map site_of ss) k 0 ≡ site_of (get_or ss k d)
  site-at ss k d lt = get_or-map site_of ss k d 0 lt

  below : (ss : List SubscriberView) (i : ℕ) (d : SubscriberView) → IsOrdered (all ss) → i < length ss → (k : ℕ) → k < i → site_of (get_or ss k d) < site_of (get_or ss i d)
  below ss i d ordered lt k less =
      let long : i < length (map site_of ss) = omega (arith, length-map ss site_of) in
      let under : k < length ss = omega (arith, less, lt) in
      subst (λ (n : ℕ). site_of (get_or ss k d) < n) (site-at ss i d lt) (subst (λ (n : ℕ). n < get_or (map site_of ss) i 0) (site-at ss k d under) (ordered.ascending k i less long))

  -- the subscriber at a place is found by its site
  pub found-at : (ss : List SubscriberView) (i : ℕ) (s : SubscriberView) (tallies : List ℕ) → IsOrdered (all ss) → i < length ss → s ≡ get_or ss i s → (site : SiteId) → site.0 ≡ site_of s
      → subscriber_at (world_of (all ss) tallies) site ≡ Some s.tables
  found-at ss i s tallies ordered lt here site is =
      let found = found-in-place (λ (x : SubscriberView). x.tables) ss i s lt (below ss i s ordered lt) in
      subst (λ (n : ℕ). subscriber_at (world_of (all ss) tallies) (record { 0 = n }) ≡ Some s.tables) (sym is)
      (subst (λ (x : SubscriberView). subscriber_at (world_of (all ss) tallies) (record { 0 = x.tables.site.0 }) ≡ Some x.tables) (sym here) found)

  pub put-at : (ss : List SubscriberView) (i : ℕ) (s s' : SubscriberView) → IsOrdered (all ss) → i < length ss → s ≡ get_or ss i s → s'.tables.site ≡ s.tables.site
      → put_number (map entry_of ss) s'.tables.site.0 s'.tables ≡ map entry_of (set ss i s')
  put-at ss i s s' ordered lt here same =
      let at : site_of (get_or ss i s') ≡ site_of s' = sym (site-at ss i s' lt) ∙ (site-at ss i s lt ∙ (ap site_of (sym here) ∙ ap (λ (x : SiteId). x.0) (sym same))) in
      put-in-place (λ (x : SubscriberView). x.tables) ss i s' lt at (λ k less. subst (λ (n : ℕ). site_of (get_or ss k s') < n) at (below ss i s' ordered lt k less))

  -- nothing changes where it is put back
  pub put-back : (ss : List SubscriberView) (i : ℕ) (s : SubscriberView) → IsOrdered (all ss) → i < length ss → s ≡ get_or ss i s → put_number (map entry_of ss) s.tables.site.0 s.tables ≡ map entry_of ss
  put-back ss i s ordered lt here = put-at ss i s s ordered lt here refl ∙ ap (map entry_of) (ap (λ (x : SubscriberView). set ss i x) here ∙ set-get_or ss i s)

  pub publication-at : (ss : List SubscriberView) (i : ℕ) (s : SubscriberView) → IsOrdered (all ss) → i < length ss → s ≡ get_or ss i s → s.publication ≡ p.publication
  publication-at ss i s ordered lt here = ap publication_of here ∙ (sym (get_or-map publication_of ss i s p.publication lt) ∙ ordered.same i (omega (arith, length-map ss publication_of)))

  pub stays-at : (ss : List SubscriberView) (i : ℕ) (s s' : SubscriberView) (pool' : List Letter) → s ≡ get_or ss i s → s'.tables.site ≡ s.tables.site → s'.publication ≡ s.publication
      → Stays (all ss) (sites_view p (set ss i s') pool' moment)
  stays-at ss i s s' pool' here site publication = record {
    publication = refl;
    sites = map-set_same site_of ss i s' s (ap (λ (x : SiteId). x.0) site ∙ ap site_of here);
    publications = map-set_same publication_of ss i s' s (publication ∙ ap publication_of here);
    moment = refl;
  }

  -- its faults are among those of all
  pub faults-same : (ss : List SubscriberView) (i : ℕ) (s s' : SubscriberView) → i < length ss → s ≡ get_or ss i s
      → s'.faults + (p.faults + sum_by faults_of ss) ≡ s.faults + (p.faults + sum_by faults_of (set ss i s'))
  faults-same ss i s s' lt here = let sums = sum_by-set faults_of ss i s' s lt in let old = ap faults_of here in omega (arith, sums, old)

  pub faults-at : (ss : List SubscriberView) (i : ℕ) (s s' : SubscriberView) → i < length ss → s ≡ get_or ss i s
      → s'.faults + (p.faults + sum_by faults_of ss) ≤ s.faults + (p.faults + sum_by faults_of (set ss i s'))
  faults-at ss i s s' lt here = let sums = sum_by-set faults_of ss i s' s lt in let old = ap faults_of here in omega (arith, sums, old)

  pub subscriber-does : {A : Type 0} (action : Action) → takes action ≡ true → (ss : List SubscriberView) (i : ℕ) (s s' : SubscriberView) → IsOrdered (all ss) → i < length ss → s ≡ get_or ss i s
      → s'.tables.site ≡ s.tables.site → s'.publication ≡ s.publication → (by : Result (SubscriberTables × A) Refusal) (out : A → Outcome) (is_commit : A → Bool)
      → ((tallies : List ℕ) (x : A) → is_commit x ≡ true → commits p.publication (world_of (all ss) tallies) action (out x) ≡ true)
      → ((says : Saying) (tallies : List ℕ) → step p.publication says (world_of (all ss) tallies) action
      ≡ unless_refused (world_of (all ss) tallies) by (λ (done : SubscriberTables × A). (with_subscriber done.0 (world_of (all ss) tallies), out done.1)))
      → (r : Result A Refusal) → SubscriberCall by is_commit s s' r
      → Does action (all ss) (all (set ss i s')) (outcome_by out r)
  subscriber-does action is ss i s s' ordered lt here site publication by out is_commit commit step r called = record {
    acts = λ says tallies. acts-all p.publication says action (world_of (all ss) tallies) (world_of (all (set ss i s')) tallies) (outcome_by out r)
        s.faults s'.faults (p.faults + sum_by faults_of ss) (p.faults + sum_by faults_of (set ss i s')) (faults-at ss i s s' lt here)
        (subst (λ (l : List (ℕ × SubscriberTables)). Acts p.publication says action (world_of (all ss) tallies) (record (world_of (all ss) tallies) { subscribers = l }) (outcome_by out r) s.faults s'.faults)
        (put-at ss i s s' ordered lt here site)
        (calls-plainly p.publication says action is (world_of (all ss) tallies) (λ (t : SubscriberTables). with_subscriber t (world_of (all ss) tallies)) s.tables s'.tables
        (ap (λ (l : List (ℕ × SubscriberTables)). record (world_of (all ss) tallies) { subscribers = l }) (put-back ss i s ordered lt here)) by out is_commit
        (commit tallies) (step says tallies) s.faults s'.faults r called));
    stays = stays-at ss i s s' pool here site publication;
  }
