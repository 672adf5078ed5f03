-- Restarts, as events.
use Rattle.std.proofs.Common.{◌≡◌, ◌≤◌, ◌+◌, ℕ, true, false, List, [], Some, Result, Ok, Err, get_or, length, map, set, sum_by, ◌<◌, refl, ap, sym, subst, ◌∙◌, arith, inl, inr}
use Rattle.std.specs.List.{position}
use Rattle.std.specs.Prelude.{Contains, IfErr, IfOk}
use Rattle.std.proofs.lemmas.List.{get_or-set_same, length-set, map-set}
use Rattle.std.proofs.lemmas.List.Elements.{Contains-get_or}
use Rattle.std.proofs.lemmas.Result.{IfErr-at_err}
use Rattle.std.proofs.Math.Seq.{map-set_same}
use Rattle.merge_types.specs.declared.identifiers.Moment.{Moment}
use Rattle.merge_types.specs.declared.identifiers.SiteId.{SiteId}
use Rattle.merge_batch.specs.declared.refusal.Refusal.{Refusal}
use Rattle.merge_batch.specs.declared.refusal.Refusal.TheVariants.{Damaged, NoMemory, UnknownSite}
use Rattle.merge_model.specs.World.Events.{answered_look, happens, is_site}
use Rattle.merge_model.specs.Failing.{Faulty, Slips, faulty}
use Rattle.merge_model.specs.Failing.Reach.{stepping}
use Rattle.merge_model.specs.Tables.{PublisherTables, SubscriberTables}
use Rattle.merge_model.specs.World.{Saying, World}
use Rattle.merge_model.specs.declared.answer.Answer.{Answer}
use Rattle.merge_model.specs.declared.answer.Answer.TheVariants.{Fine, Refused}
use Rattle.merge_model.specs.declared.event.Event.{Event}
use Rattle.merge_model.specs.declared.event.Event.TheVariants as event
use Rattle.merge_model.specs.declared.letter.Letter.{Letter}
use Rattle.merge_model.proofs.Failing.Calling.{stayed}
use Rattle.merge_world.proofs.Doing.{both-same, faults-same, stays-at}
use Rattle.merge_world.proofs.Finding.{at-place, is_of, placed, within}
use Rattle.merge_world.proofs.Happenings.{looks-on, so-refused, unknown-site, wants-on, where-if}
use Rattle.merge_world.proofs.Locals.{stays-same}
use Rattle.merge_world.specs.Happenings.{Happened, Proceeds}
use Rattle.merge_world.specs.Restarts.{IsDamagedAt, IsLost, RestartEnds}
use Rattle.merge_world.specs.Resuming.{EndsRun, Resumes}
use Rattle.merge_world.specs.Views.{HandedView, PublisherView, SitesView, SubscriberView, entry_of, faults_of, sites_view, world_of}

-- one site among all: what was the same is the same, and its faults are among those of all
lost-among : (why : Refusal) (a b c d : ℕ) → b + c ≤ a + d → IsLost why a b → IsLost why c d
lost-among why a b c d le (inl (is, more)) = inl (is, omega (arith, le, more))
lost-among why a b c d le (inr (is, more)) = inr (is, omega (arith, le, more))

restarted-among : {T U : Type 0} (old new : T) (old' new' : U) → (new ≡ old → new' ≡ old') → (a b c d : ℕ) → b + c ≡ a + d → (r : Result Unit Refusal) → RestartEnds old new a b r → RestartEnds old' new' c d r
restarted-among old new old' new' same a b c d all (Ok done) (is, still) = (same is, omega (arith, all, still))
restarted-among old new old' new' same a b c d all (Err why) (is, inl (wants, still)) = (same is, inl (wants, omega (arith, all, still)))
restarted-among old new old' new' same a b c d all (Err why) (is, inr lost) = (same is, inr (lost-among why a b c d (omega (arith, all)) lost))

pub resumes-publisher : (ss : List SubscriberView) (pool : List Letter) (moment : Moment) (p p' : PublisherView) → p'.publication ≡ p.publication → (r : Result Unit Refusal) → RestartEnds p.tables p'.tables p.faults p'.faults r
    → Resumes (sites_view p ss pool moment) (sites_view p' ss pool moment) r
resumes-publisher ss pool moment p p' same r restarted = record {
  restarted = λ tallies. restarted-among p.tables p'.tables (world_of (sites_view p ss pool moment) tallies) (world_of (sites_view p' ss pool moment) tallies)
      (ap (λ (t : PublisherTables). record (world_of (sites_view p ss pool moment) tallies) { publisher = t })) p.faults p'.faults (sites_view p ss pool moment).faults (sites_view p' ss pool moment).faults
      (both-same p.faults p'.faults (sum_by faults_of ss)) r restarted;
  stays = record { publication = same; sites = refl; publications = refl; moment = refl };
}

pub resumes-nowhere : (v : SitesView) → Resumes v v (Ok tt)
resumes-nowhere v = record { restarted = λ tallies. (refl, refl); stays = stays-same v }

module _ (p : PublisherView) (pool : List Letter) (moment : Moment) where
  abbrev all : List SubscriberView → SitesView
  all ss = sites_view p ss pool moment

  entry-same : (t t' : SubscriberView) → t'.tables ≡ t.tables → entry_of t' ≡ entry_of t
  entry-same t t' same = ap (λ (s : SubscriberTables). (s.site.0, s)) same

  among : (ss : List SubscriberView) (i : ℕ) (t t' : SubscriberView) → i < length ss → t ≡ get_or ss i t → t'.tables.site ≡ t.tables.site → t'.publication ≡ t.publication
      → (r : Result Unit Refusal) → RestartEnds t.tables t'.tables t.faults t'.faults r → Resumes (all ss) (all (set ss i t')) r
  among ss i t t' lt here same_site same_publication r restarted = record {
    restarted = λ tallies. restarted-among t.tables t'.tables (world_of (all ss) tallies) (world_of (all (set ss i t')) tallies)
        (λ same. ap (λ (l : List (ℕ × SubscriberTables)). record (world_of (all ss) tallies) { subscribers = l }) (map-set_same entry_of ss i t' t (entry-same t t' same ∙ ap entry_of here)))
        t.faults t'.faults (all ss).faults (all (set ss i t')).faults (faults-same p pool moment ss i t t' lt here) r restarted;
    stays = stays-at p pool moment ss i t t' pool here same_site same_publication;
  }

module _ {S : Type 0} (f : S → SubscriberView) (p : PublisherView) (pool : List Letter) (moment : Moment) (items : List S) where
  pub resumes-subscriber : (i : ℕ) (s s' : S) (site : ℕ) → Some i ≡ position (is_of f site) items → s ≡ get_or items i s → (f s').tables.site ≡ (f s).tables.site → (f s').publication ≡ (f s).publication
      → (r : Result Unit Refusal) → RestartEnds (f s).tables (f s').tables (f s).faults (f s').faults r → Resumes (sites_view p (map f items) pool moment) (sites_view p (map f (set items i s')) pool moment) r
  resumes-subscriber i s s' site found at same_site same_publication r restarted =
      let place = placed f items i s site found at in
      subst (λ (l : List SubscriberView). Resumes (sites_view p (map f items) pool moment) (sites_view p l pool moment) r) (sym (map-set f items i s'))
      (among p pool moment (map f items) i (f s) (f s') (within f items i place.0) (at-place f items i s place.0 at) same_site same_publication r restarted)

-- a record that is damaged at the subscriber of a site is so among all
pub damaged-among : {P S : Type 0} (f : S → SubscriberView) (publisher : P → ℕ → List ℕ → Type 0) (subscriber : S → ℕ → List ℕ → Type 0) (p : P) (items : List S) (i : ℕ) (s s' : S) (site : SiteId)
    → Some i ≡ position (is_of f site.0) items → s ≡ get_or items i s → (f s').tables.site ≡ (f s).tables.site → (table : ℕ) (key : List ℕ) → subscriber s' table key
    → IsDamagedAt publisher subscriber (λ (x : S). (f x).tables.site.0) p (set items i s') site table key
damaged-among {P} {S} f publisher subscriber p items i s s' site found here same table key damage =
    let place = placed f items i s site.0 found here in
    let lt : i < length (set items i s') = omega (arith, place.0, length-set items i s') in record {
      damage = inr (s', subst (λ (x : S). Contains (set items i s') x) (get_or-set_same items i s' s' place.0) (Contains-get_or (set items i s') i s' lt), ap (λ (x : SiteId). x.0) same ∙ sym place.1, damage);
    }

-- a run that ends by a damaged record met it
pub damaged-so : (why : Refusal) (table : ℕ) (key : List ℕ) (r : Result Answer Refusal) → IfErr r (λ other. (other ≡ why) × (why ≡ NoMemory → ⊥)) → r ≡ Err (Damaged table key)
    → (let met : Result Unit Refusal = Err why in met) ≡ Err (Damaged table key)
damaged-so why table key r ended is = ap (λ (x : Refusal). (let met : Result Unit Refusal = Err x in met)) (sym (IfErr-at_err (λ (other : Refusal). (other ≡ why) × (why ≡ NoMemory → ⊥)) is ended).0)

-- an event restarts one site
abbrev restarted_in : Event → SiteId → SiteId
restarted_in (event.Restart site) other = site
restarted_in e other = other

pub restarts-same : (e : Event) (a b : SiteId) → e ≡ event.Restart a → e ≡ event.Restart b → b ≡ a
restarts-same e a b one other = ap (λ (x : Event). restarted_in x a) (sym other ∙ one)

-- As events.
module _ (site : SiteId) (u v : SitesView) where
  at-known : is_site u.publication site ≡ true → (says : Saying) (tallies : List ℕ) (l : Slips) → happens u.publication (stepping u.publication says) (faulty (world_of u tallies) l) (event.Restart site)
      ≡ answered_look u.publication (stepping u.publication says) (λ (w : Faulty World). Fine) (faulty (world_of u tallies) l)
  at-known known says tallies l = ap (where-if u.publication says site (faulty (world_of u tallies) l) (answered_look u.publication (stepping u.publication says) (λ (w : Faulty World). Fine))) known

  pub restart-fine : Resumes u v (Ok tt) → is_site u.publication site ≡ true → (h : HandedView) → Happened (event.Restart site) u v h h Fine
  restart-fine resumes known h = looks-on (event.Restart site) u Fine refl (λ says w. Fine) (λ says tallies l. refl) (at-known known) v (λ tallies. (resumes.restarted tallies).0) (stayed u.faults v.faults (resumes.restarted []).1) resumes.stays h

  wanted : {T : Type 0} (old new : T) (a b : ℕ) (why : Refusal) → why ≡ NoMemory → RestartEnds old new a b (Err why) → (new ≡ old) × (a ≤ b)
  wanted old new a b why wants (same, inl (is, still)) = (same, stayed a b still)
  wanted old new a b why wants (same, inr (inl (is, more))) = absurd (cc (is, wants))
  wanted old new a b why wants (same, inr (inr ((table, key, is), later))) = absurd (cc (is, wants))

  want-of : (tallies : List ℕ) (why : Refusal) → why ≡ NoMemory → Resumes u v (Err why) → (world_of v tallies ≡ world_of u tallies) × (u.faults ≤ v.faults)
  want-of tallies why wants resumes = wanted (world_of u tallies) (world_of v tallies) u.faults v.faults why wants (resumes.restarted tallies)

  pub restart-wants : (why : Refusal) → why ≡ NoMemory → Resumes u v (Err why) → is_site u.publication site ≡ true → (h : HandedView) → Happened (event.Restart site) u v h h (Refused NoMemory)
  restart-wants why wants resumes known h = wants-on (event.Restart site) u Fine refl (λ says w. Fine) (λ says tallies l. refl) (at-known known) v
      (λ tallies. (want-of tallies why wants resumes).0) (want-of [] why wants resumes).1 resumes.stays h

  lost-of : {T : Type 0} (old new : T) (a b : ℕ) (why : Refusal) → (why ≡ NoMemory → ⊥) → RestartEnds old new a b (Err why) → IsLost why a b
  lost-of old new a b why other (same, inl (is, still)) = absurd (other is)
  lost-of old new a b why other (same, inr lost) = lost

  restart-ends : (why : Refusal) → (why ≡ NoMemory → ⊥) → Resumes u v (Err why) → is_site u.publication site ≡ true → EndsRun (event.Restart site) u v why
  restart-ends why other resumes known = record {
    site = site;
    restarts = refl;
    known = known;
    lost = lost-of (world_of u []) (world_of v []) u.faults v.faults why other (resumes.restarted []);
    same = λ tallies. (resumes.restarted tallies).0;
    stays = resumes.stays;
  }

  pub restart-fails : (why : Refusal) → Resumes u v (Err why) → is_site u.publication site ≡ true → (r : Result Answer Refusal)
      → IfOk r (λ answer. (answer ≡ Refused NoMemory) × (why ≡ NoMemory)) → IfErr r (λ other. (other ≡ why) × (why ≡ NoMemory → ⊥)) → (h : HandedView) → Proceeds (event.Restart site) u v h h r
  restart-fails why resumes known (Ok answer) wanting ended h = subst (λ (a : Answer). Happened (event.Restart site) u v h h a) (sym wanting.0) (restart-wants why wanting.1 resumes known h)
  restart-fails why resumes known (Err other) wanting ended h = (subst (λ (r : Refusal). EndsRun (event.Restart site) u v r) (sym ended.0) (restart-ends why ended.1 resumes known), refl)

pub restart-nowhere : (u : SitesView) (site : SiteId) (why : Refusal) → why ≡ UnknownSite site → is_site u.publication site ≡ false → (h : HandedView) → Happened (event.Restart site) u u h h (Refused why)
restart-nowhere u site why is off h = so-refused (event.Restart site) u h site why is (unknown-site (event.Restart site) u site refl
    (λ says tallies l. ap (where-if u.publication says site (faulty (world_of u tallies) l) (answered_look u.publication (stepping u.publication says) (λ (w : Faulty World). Fine))) off) h)
