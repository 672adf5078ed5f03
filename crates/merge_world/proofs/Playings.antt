-- Events one after the other.
use Rattle.std.proofs.Common.{◌≡◌, ◌≤◌, ◌+◌, ◌++◌, ◌∷◌, [], ℕ, List, count_by, refl, ap, sym, subst, ◌∙◌}
use Rattle.std.proofs.lemmas.List.{append-nil}
use Rattle.merge_schema.specs.declared.publication.Publication.{Publication}
use Rattle.merge_model.specs.Failing.{Faulty, Slips, faulty}
use Rattle.merge_model.specs.Failing.Reach.{is_store_fault, run}
use Rattle.merge_model.specs.World.{Saying, World, empty_world}
use Rattle.merge_model.specs.declared.answer.Answer.{Answer}
use Rattle.merge_model.specs.declared.event.Event.{Event}
use Rattle.merge_model.proofs.Failing.Reached.{stays}
use Rattle.merge_model.proofs.Failing.ReachedEvents.{run-on}
use Rattle.merge_world.proofs.Doing.{same-count}
use Rattle.merge_world.proofs.Sessions.{still-ordered}
use Rattle.merge_world.specs.Happenings.{Comes, Happened}
use Rattle.merge_world.specs.Playing.{AllHappened, PlayedRuns, Runs}
use Rattle.merge_world.specs.Views.{HandedView, IsOrdered, SitesView, world_of}

-- sites in their order stay so
ordered-so : (u v : SitesView) → v.publication ≡ u.publication → v.sites ≡ u.sites → v.publications ≡ u.publications → IsOrdered u → IsOrdered v
ordered-so u v publication sites publications ordered = record { ascending = still.ascending; same = still.same }
  where
    still : IsOrdered (record v { moment = u.moment })
    still = still-ordered u (record v { moment = u.moment }) (record { publication = publication; sites = sites; publications = publications; moment = refl }) ordered

pub ordered-behind : (events : List Event) (u v : SitesView) (g h : HandedView) (said : List Answer) → AllHappened events u v g h said → IsOrdered u → IsOrdered v
ordered-behind events u v g h said all ordered = ordered-so u v all.publication all.sites all.publications ordered

none-run : (p : Publication) (says : Saying) (w : World) (a : ℕ) → Runs p says [] w w [] a a
unfolding Runs
none-run p says w a = stays (λ l. ([], faulty w l)) a a (same-count a)

one-more : (p : Publication) (says : Saying) (events : List Event) (e : Event) (first w v : World) (said : List Answer) (answer : Answer) (a b c : ℕ) → Runs p says events first w said a b → Comes p says w e v answer b c
    → Runs p says (events ++ e ∷ []) first v (said ++ answer ∷ []) a c
unfolding Runs Comes
one-more p says events e first w v said answer a b c so_far comes = run-on p says events e first w v said answer a b c so_far comes

-- before the first
pub nothing-yet : (u : SitesView) (h : HandedView) → AllHappened [] u u h h []
nothing-yet u h = record {
  runs = none-run u.publication h.says (world_of u h.tallies) u.faults;
  publication = refl;
  sites = refl;
  publications = refl;
  says = refl;
}

-- one event more
pub and-then : (events : List Event) (u v w : SitesView) (g h k : HandedView) (said : List Answer) (e : Event) (answer : Answer) → AllHappened events u v g h said → Happened e v w h k answer
    → AllHappened (events ++ e ∷ []) u w g k (said ++ answer ∷ [])
and-then events u v w g h k said e answer all one = record {
  runs = one-more u.publication g.says events e (world_of u g.tallies) (world_of v h.tallies) (world_of w k.tallies) said answer u.faults v.faults w.faults all.runs
      (subst (λ (p : Publication). Comes p g.says (world_of v h.tallies) e (world_of w k.tallies) answer v.faults w.faults) all.publication
      (subst (λ (says : Saying). Comes v.publication says (world_of v h.tallies) e (world_of w k.tallies) answer v.faults w.faults) all.says one.comes));
  publication = one.publication ∙ all.publication;
  sites = one.sites ∙ all.sites;
  publications = one.publications ∙ all.publications;
  says = one.says ∙ all.says;
}

-- a run from nothing
run-of : (p : Publication) (says : Saying) (events : List Event) (w v : World) (said : List Answer) (a b : ℕ) → Runs p says events w v said a b
    → (slips : Slips) × (run p says (faulty w slips) events ≡ (said, faulty v [])) × (a + count_by is_store_fault slips ≤ b)
unfolding Runs
run-of p says events w v said a b r = (r.slips ++ [], r.goes [], subst (λ (l : Slips). a + count_by is_store_fault l ≤ b) (sym (append-nil r.slips)) r.few)

pub played-runs : PlayedRuns
played-runs events old new before after said all empty =
    let ran = run-of old.publication before.says events (empty_world old.publication before.tallies) (world_of new after.tallies) said old.faults new.faults
    (subst (λ (w : World). Runs old.publication before.says events w (world_of new after.tallies) said old.faults new.faults) empty all.runs) in
    (ran.0, ap (λ (done : List Answer × Faulty World). done.0) ran.1, ap (λ (done : List Answer × Faulty World). done.1.world) ran.1, ran.2)
