-- Parts of a session one after the other.
use Rattle.std.proofs.Common.{◌≡◌, ℕ, ◌+◌, ◌≤◌, ◌-◌, List, [], ◌∷◌, ◌++◌, flat_map, refl, sym, subst, arith, append_assoc}
use Rattle.std.proofs.lemmas.Grind.{flat_map-append}
use Rattle.merge_types.specs.declared.identifiers.Moment.{Moment}
use Rattle.merge_schema.specs.declared.publication.Publication.{Publication}
use Rattle.merge_batch.specs.declared.reply.Reply.{Reply}
use Rattle.merge_model.specs.Tables.{SubscriberTables}
use Rattle.merge_ports.specs.Faults.{Rose}
use Rattle.merge_link.specs.declared.link.Exchange.{Exchange}
use Rattle.merge_agent.specs.Meetings.{Meeting, Passes}
use Rattle.merge_agent.specs.Sessions.{Fails, Follows, IsUnderWay, Leads, Session, Stage, Step, Skip, Take, session_behind_reply, at, exchanges_of, moments_of, session_at_next_stage, sending_in, stage_behind}
use Rattle.merge_agent.specs.Turns.{Breaks, Broke, HasCauses, Skips, Turns, exchanges_in, moments_in}
use Rattle.merge_agent.specs.declared.fault.SessionFault.{SessionFault}
use Rattle.merge_agent.proofs.Passing.{passes-none, passes-then}

follows-then : (p : Publication) (address : List ℕ) (xs ys : List Step) (s t u : Session) → Follows p address xs s t → Follows p address ys t u → Follows p address (xs ++ ys) s u
follows-then p address [] ys s t u f g = subst (λ (v : Session). Follows p address ys v u) f g
follows-then p address (x ∷ xs) ys s t u f g = (f.0, f.1, f.2, follows-then p address xs ys f.0 t u f.3 g)

of-publication : (p q : Publication) (address : List ℕ) (xs : List Step) (s t : Session) → q ≡ p → Follows q address xs s t → Follows p address xs s t
of-publication p q address xs s t e f = subst (λ (r : Publication). Follows r address xs s t) e f

passes-both : (xs ys : List Step) (a b c : Meeting) → Passes (flat_map exchanges_of xs) (flat_map moments_of xs) a b → Passes (flat_map exchanges_of ys) (flat_map moments_of ys) b c
    → Passes (flat_map exchanges_of (xs ++ ys)) (flat_map moments_of (xs ++ ys)) a c
passes-both xs ys a b c p q = rw (flat_map-append exchanges_of xs ys, flat_map-append moments_of xs ys) (passes-then _ _ _ _ a b c p q)

pub leads-none : (address : List ℕ) (s : Session) (m : Meeting) → m.tables ≡ s.tables → Leads address s s m m
leads-none address s m same = record { steps = []; follows = refl; tables = same; passes = passes-none m }

pub leads-then : (address : List ℕ) (s t u : Session) (a b c : Meeting) → Leads address s t a b → Leads address t u b c → Leads address s u a c
leads-then address s t u a b c l k = record {
  steps = l.steps ++ k.steps;
  follows = follows-then a.publication address l.steps k.steps s t u l.follows (of-publication a.publication b.publication address k.steps t u l.passes.publication k.follows);
  tables = k.tables;
  passes = passes-both l.steps k.steps a b c l.passes k.passes;
}

rose-later : (a b c : ℕ) → a ≤ b → Rose b c → Rose a c
rose-later a b c later rose = omega (arith, later, rose)

later-causes : (a b c : Meeting) (why : SessionFault) (es : List Exchange) (ms : List Moment) → Passes es ms a b → HasCauses b c why → HasCauses a c why
later-causes a b c why es ms p h = record {
  store = λ e. omega (arith, p.faults, h.store e);
  link = λ e. rose-later a.links b.links c.links p.links (h.link e);
}

passes-broken : (xs ys : List Step) (es : List Exchange) (ms : List Moment) (a b c : Meeting) → Passes (flat_map exchanges_of xs) (flat_map moments_of xs) a b → Passes (flat_map exchanges_of ys ++ es) (flat_map moments_of ys ++ ms) b c
    → Passes (flat_map exchanges_of (xs ++ ys) ++ es) (flat_map moments_of (xs ++ ys) ++ ms) a c
passes-broken xs ys es ms a b c p q =
    rw (flat_map-append exchanges_of xs ys, flat_map-append moments_of xs ys, append_assoc (flat_map exchanges_of xs) (flat_map exchanges_of ys) es, append_assoc (flat_map moments_of xs) (flat_map moments_of ys) ms)
    (passes-then _ _ _ _ a b c p q)

pub leads-fails : (address : List ℕ) (s t : Session) (a b c : Meeting) (why : SessionFault) → Leads address s t a b → Fails address t b c why → Fails address s a c why
leads-fails address s t a b c why l f = record {
  steps = l.steps ++ f.steps;
  last = f.last;
  at = f.at;
  follows = follows-then a.publication address l.steps f.steps s t f.last l.follows (of-publication a.publication b.publication address f.steps t f.last l.passes.publication f.follows);
  under_way = f.under_way;
  breaks = subst (λ (r : Publication). Breaks r address (sending_in f.last.stage) f.last.tables c.tables f.at why) l.passes.publication f.breaks;
  passes = passes-broken l.steps f.steps (exchanges_in f.at) (moments_in f.at) a b c l.passes f.passes;
  causes = later-causes a b c why _ _ l.passes f.causes;
}

-- One turn of a stage.

pub turned : (address : List ℕ) (stage : Stage) (x y : ℕ) (a b : Meeting) (m : Reply) → IsUnderWay stage → Turns address (sending_in stage) a b m
    → (b.tables ≡ (session_behind_reply (at stage a.tables x y) b.tables m stage).tables) → Leads address (at stage a.tables x y) (session_behind_reply (at stage a.tables x y) b.tables m stage) a b
turned address stage x y a b m way t same = record {
  steps = Take t.made t.turn ∷ [];
  follows = (session_behind_reply (at stage a.tables x y) b.tables m stage, way, record { tables = b.tables; reply = m; takes = t.takes; next = refl }, refl);
  tables = same;
  passes = t.passes;
}

pub skipped : (address : List ℕ) (stage : Stage) (x y : ℕ) (a b : Meeting) → IsUnderWay stage → Skips (sending_in stage) a b → Leads address (at stage a.tables x y) (at (stage_behind stage) b.tables x y) a b
skipped address stage x y a b way k =
    subst (λ (tables : SubscriberTables). Leads address (at stage a.tables x y) (at (stage_behind stage) tables x y) a b) (sym k.same) (record {
      steps = Skip k.made ∷ [];
      follows = (session_at_next_stage (at stage a.tables x y), way, (k.none, refl), refl);
      tables = k.same;
      passes = k.passes;
    })

pub broken : (address : List ℕ) (stage : Stage) (x y : ℕ) (a b : Meeting) (why : SessionFault) → IsUnderWay stage → Broke address (sending_in stage) a b why → Fails address (at stage a.tables x y) a b why
broken address stage x y a b why way k = record {
  steps = [];
  last = at stage a.tables x y;
  at = k.at;
  follows = refl;
  under_way = way;
  breaks = k.breaks;
  passes = k.passes;
  causes = k.causes;
}
