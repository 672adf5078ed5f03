-- Events at the moments of a clock, one after the other.
use Rattle.std.proofs.Common.{◌≡◌, ◌++◌, ◌∷◌, [], ℕ, true, List, Option, arith, refl, ap, subst, ◌∙◌}
use Rattle.std.specs.Prelude.{IfSome, option_map}
use Rattle.merge_types.specs.declared.identifiers.Moment.{Moment}
use Rattle.merge_types.specs.declared.identifiers.SiteId.{SiteId}
use Rattle.merge_link.specs.Moments.{Moments, later_moments, next_moment}
use Rattle.merge_schema.specs.declared.publication.Publication.{Publication}
use Rattle.merge_model.specs.Failing.{Faulty, faulty}
use Rattle.merge_model.specs.World.{Saying, World}
use Rattle.merge_model.specs.declared.answer.Answer.{Answer}
use Rattle.merge_model.specs.declared.event.Event.{Event}
use Rattle.merge_model.proofs.Failing.Reached.{same-start, stays, then, under}
use Rattle.merge_world.proofs.Happenings.{event-so}
use Rattle.merge_world.proofs.Shows.{nobody}
use Rattle.merge_world.specs.Happenings.{Comes, Happened}
use Rattle.merge_world.specs.Views.{HandedView, IsOrdered, SitesView, world_of}
use Rattle.merge_command.specs.Clocked.{AllHappenedAt, AreTold, EventIsTaken, HappenedAt, RunsAt, TimedEvent, at_moment, happens_at, run_at, sites_at}
use Rattle.merge_command.specs.Taken.{is_taken}

-- one moment more
pub told-more : (moments : List Moment) (a b c : Option Moments) (moment : Moment) → AreTold moments a b → AreTold (moment ∷ []) b c → AreTold (moments ++ moment ∷ []) a c
told-more [] a b c moment none more = subst (λ (o : Option Moments). AreTold (moment ∷ []) o c) none more
told-more (first ∷ moments) a b c moment told more = (told.0, told-more moments (option_map later_moments a) b c moment told.1 more)

-- the sites stay in their order
pub ordered-at : (moment : Moment) (v : SitesView) → IsOrdered v → IsOrdered (sites_at moment v)
ordered-at moment v ordered = record { ascending = ordered.ascending; same = ordered.same }

pub ordered-so : (u v : SitesView) → v.publication ≡ u.publication → v.sites ≡ u.sites → v.publications ≡ u.publications → IsOrdered u → IsOrdered v
ordered-so u v publication sites publications ordered = record {
  ascending = rw sites ordered.ascending;
  same = rw (publications, publication) ordered.same;
}

-- an event of a site that happened
pub took-so : (here : SiteId) (e e' : Event) (u v : SitesView) (moment : Moment) (began told : Option Moments) (answer : Answer) → is_taken here e ≡ true → e ≡ e'
    → ((h : HandedView) → Happened e' (sites_at moment u) v h h answer) → IfSome began (λ (m : Moments). moment ≡ next_moment m) → told ≡ option_map later_moments began → EventIsTaken here e u v began told answer
took-so here e e' u v moment began told answer own is happened next later = record {
  own = own;
  moment = moment;
  happened = λ h. event-so e e' (sites_at moment u) v h h answer is (happened h);
  clock = (next, later);
}

-- Runs.
module _ (p : Publication) (says : Saying) where
  abbrev add : List Answer × Faulty World → TimedEvent → List Answer × Faulty World
  add ran timed = let done = happens_at p says ran.1 timed in (ran.0 ++ done.1 ∷ [], done.0)

  run-more : (f : Faulty World) (events : List TimedEvent) (timed : TimedEvent) → run_at p says f (events ++ timed ∷ []) ≡ add (run_at p says f events) timed
  run-more f [] timed = refl
  run-more f (first ∷ events) timed = ap (λ (ran : List Answer × Faulty World). ((happens_at p says f first).1 ∷ ran.0, ran.1)) (run-more (happens_at p says f first).0 events timed)

  none-run : (w : World) (a : ℕ) → RunsAt p says [] w w [] a a
  unfolding RunsAt
  none-run w a = stays (λ l. ([], faulty w l)) a a (omega arith)

  one-more : (events : List TimedEvent) (timed : TimedEvent) (first w v : World) (said : List Answer) (answer : Answer) (a b c : ℕ) → RunsAt p says events first w said a b → Comes p says (at_moment timed.0 w) timed.1 v answer b c
      → RunsAt p says (events ++ timed ∷ []) first v (said ++ answer ∷ []) a c
  unfolding RunsAt Comes
  one-more events timed first w v said answer a b c so_far comes = same-start (λ l. run_at p says (faulty first l) (events ++ timed ∷ [])) (λ l. add (run_at p says (faulty first l) events) timed) (λ l. (said ++ answer ∷ [], faulty v l)) a c
      (λ l. run-more (faulty first l) events timed)
      (then (λ l. add (run_at p says (faulty first l) events) timed) (λ l. add (said, faulty w l) timed) (λ l. (said ++ answer ∷ [], faulty v l)) a b c
      (under (λ (ran : List Answer × Faulty World). add ran timed) (λ l. run_at p says (faulty first l) events) (λ l. (said, faulty w l)) a b so_far)
      (under (λ (done : Faulty World × Answer). (said ++ done.1 ∷ [], done.0)) (λ l. happens_at p says (faulty w l) timed) (λ l. (faulty v l, answer)) b c comes))

-- before the first event
pub nothing-yet : (u : SitesView) → AllHappenedAt [] u u []
nothing-yet u = record {
  runs = λ h. none-run u.publication h.says (world_of u h.tallies) u.faults;
  publication = refl;
  sites = refl;
  publications = refl;
}

-- one event more
pub and-then : (events : List TimedEvent) (u v w : SitesView) (said : List Answer) (timed : TimedEvent) (answer : Answer) → AllHappenedAt events u v said → HappenedAt timed v w answer
    → AllHappenedAt (events ++ timed ∷ []) u w (said ++ answer ∷ [])
and-then events u v w said timed answer all one = record {
  runs = λ h. one-more u.publication h.says events timed (world_of u h.tallies) (world_of v h.tallies) (world_of w h.tallies) said answer u.faults v.faults w.faults (all.runs h)
      (subst (λ (p : Publication). Comes p h.says (at_moment timed.0 (world_of v h.tallies)) timed.1 (world_of w h.tallies) answer v.faults w.faults) all.publication (one h).comes);
  publication = (one nobody).publication ∙ all.publication;
  sites = (one nobody).sites ∙ all.sites;
  publications = (one nobody).publications ∙ all.publications;
}
