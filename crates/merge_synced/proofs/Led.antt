-- Steps of the agent one after the other lead the model's session on.
use Rattle.std.specs.Prelude.{All, List, None, Ok, [], flat_map, refl, ℕ, ◌∷◌, ◌≡◌}
use Rattle.std.proofs.Common.{ap, subst, sym, ◌∙◌}
use Rattle.std.proofs.lemmas.List.Elements.{All-head, All-tail}
use Rattle.merge_types.specs.declared.identifiers.Moment.{Moment}
use Rattle.merge_types.specs.declared.identifiers.SiteId.{SiteId}
use Rattle.merge_schema.specs.declared.publication.Publication.{Publication}
use Rattle.merge_batch.specs.declared.request.Request.{Request}
use Rattle.merge_model.specs.World.{Saying, World}
use Rattle.merge_world.specs.Messages.{request_of_sending}
use Rattle.merge_wire.specs.Written.{IsVisible}
use Rattle.merge_agent.specs.Sessions.{Does, Follows, IsUnderWay, Session, Skip, Stage, Step, Take, at as standing, exchanges_of, moments_of, sending_in, session_at_next_stage, session_behind_reply}
use Rattle.merge_agent.specs.Turns.{Turn}
use Rattle.merge_synced.specs.Answering.{Answers, AreRead, AreTold, Serving, behind, reply_by, serving_in}
use Rattle.merge_synced.specs.Courses.{Course, stage_of}
use Rattle.merge_synced.proofs.Courses.{Enough, Onward, StandsAt, skip-on, turn-on}
use Rattle.merge_synced.proofs.ShortRequests.{made-short}
use Rattle.merge_synced.proofs.Stands.{behind-short}
use Rattle.merge_synced.proofs.Turns.{Turned, turned}

module _ (publication : Publication) (says : Saying) (site : SiteId) (now : Moment) (address : List ℕ) (visible : IsVisible address) where
  abbrev Goes : Course → World → ℕ → ℕ → Session → Serving → Type 0
  Goes c v i j t q = Onward publication says site now c v i j t q

  -- one step, where its session stands at a course
  skipped : (c : Course) (v : World) (a mid : Session) (made : Moment) → a.stage ≡ stage_of c → StandsAt publication site now v a.tables → Enough publication site c v a.tables → IsUnderWay a.stage → made ≡ now → Does publication address (Skip made) a mid
      → Goes c v a.uploads a.downloads mid (serving_in v)
  skipped c v a mid made is h e going at does =
      let none : request_of_sending (sending_in (stage_of c)) now a.tables ≡ Ok None =
      subst (λ (x : Stage). request_of_sending (sending_in x) now a.tables ≡ Ok None) is (subst (λ (x : Moment). request_of_sending (sending_in a.stage) x a.tables ≡ Ok None) at does.0) in
      let there : mid ≡ session_at_next_stage (standing (stage_of c) a.tables a.uploads a.downloads) = does.1 ∙ ap (λ (x : Stage). session_at_next_stage (standing x a.tables a.uploads a.downloads)) is in
      subst (λ (x : Session). Goes c v a.uploads a.downloads x (serving_in v)) (sym there)
      (skip-on publication says site now c v a.tables a.uploads a.downloads h e (subst IsUnderWay is going) none)

  took-turn : (c : Course) (v : World) (a mid : Session) (made : Moment) (turn : Turn) (r : Request) → a.stage ≡ stage_of c → StandsAt publication site now v a.tables → Enough publication site c v a.tables → IsUnderWay a.stage → made ≡ now → turn.now ≡ now
      → AreRead turn.carried.request r → AreTold turn.carried.response (reply_by publication says now r (serving_in v)) → Does publication address (Take made turn) a mid
      → Goes c v a.uploads a.downloads mid (behind publication says now r (serving_in v))
  took-turn c v a mid made turn r is h e going at then read tells does =
      let t : Turned publication says now (sending_in a.stage) a.tables does.tables does.reply (serving_in v) (behind publication says now r (serving_in v)) =
      turned publication says now address visible (sending_in a.stage) made turn a.tables does.tables does.reply (serving_in v) r at then does.takes
      (λ sent q asked. made-short (sending_in a.stage) now a.tables sent q (behind-short publication v site a.tables h.behind h.here) asked) read tells in
      let there : mid ≡ session_behind_reply (standing (stage_of c) a.tables a.uploads a.downloads) does.tables does.reply (stage_of c) =
      does.next ∙ ap (λ (x : Stage). session_behind_reply (standing x a.tables a.uploads a.downloads) does.tables does.reply x) is in
      subst (λ (x : Session). Goes c v a.uploads a.downloads x (behind publication says now r (serving_in v))) (sym there)
      (turn-on publication says site now c v a.tables does.tables does.reply a.uploads a.downloads (behind publication says now r (serving_in v)) h e (subst IsUnderWay is going)
      (subst (λ (x : Stage). Turned publication says now (sending_in x) a.tables does.tables does.reply (serving_in v) (behind publication says now r (serving_in v))) is t))

  -- one and then more
  onward : (c : Course) (v : World) (i j : ℕ) (mid last : Session) (p q : Serving) → (one : Goes c v i j mid p) → Goes one.course one.world mid.uploads mid.downloads last q → Goes c v i j last q
  onward c v i j mid last p q one more = record {
    course = more.course;
    world = more.world;
    stage = more.stage;
    here = more.here;
    enough = more.enough;
    serving = more.serving;
    same = one.same ∙ more.same;
  }

  pub led : (steps : List Step) (c : Course) (v : World) (a last : Session) (q : Serving) → a.stage ≡ stage_of c → StandsAt publication site now v a.tables → Enough publication site c v a.tables → Follows publication address steps a last
      → All (λ (moment : Moment). moment ≡ now) (flat_map moments_of steps) → Answers publication says now (flat_map exchanges_of steps) (serving_in v) q
      → Goes c v a.uploads a.downloads last q
  led [] c v a last q is h e follows moments answers =
      subst (λ (x : Session). Goes c v a.uploads a.downloads x q) (sym follows) (record { course = c; world = v; stage = is; here = h; enough = e; serving = sym answers; same = refl })
  led (Skip made ∷ steps) c v a last q is h e follows moments answers =
      let mid : Session = follows.0 in
      let one : Goes c v a.uploads a.downloads mid (serving_in v) = skipped c v a mid made is h e follows.1 (All-head (λ (moment : Moment). moment ≡ now) made (flat_map moments_of steps) moments) follows.2 in
      onward c v a.uploads a.downloads mid last (serving_in v) q one
      (led steps one.course one.world mid last q one.stage one.here one.enough follows.3 (All-tail (λ (moment : Moment). moment ≡ now) made (flat_map moments_of steps) moments)
      (subst (λ (x : Serving). Answers publication says now (flat_map exchanges_of steps) x q) (sym one.serving) answers))
  led (Take made turn ∷ steps) c v a last q is h e follows moments answers =
      let mid : Session = follows.0 in
      let later : All (λ (moment : Moment). moment ≡ now) (turn.now ∷ flat_map moments_of steps) = All-tail (λ (moment : Moment). moment ≡ now) made (turn.now ∷ flat_map moments_of steps) moments in
      let p : Serving = behind publication says now answers.0 (serving_in v) in
      let one : Goes c v a.uploads a.downloads mid p = took-turn c v a mid made turn answers.0 is h e follows.1
      (All-head (λ (moment : Moment). moment ≡ now) made (turn.now ∷ flat_map moments_of steps) moments) (All-head (λ (moment : Moment). moment ≡ now) turn.now (flat_map moments_of steps) later)
      answers.1 answers.2 follows.2 in
      onward c v a.uploads a.downloads mid last p q one
      (led steps one.course one.world mid last q one.stage one.here one.enough follows.3 (All-tail (λ (moment : Moment). moment ≡ now) turn.now (flat_map moments_of steps) later)
      (subst (λ (x : Serving). Answers publication says now (flat_map exchanges_of steps) x q) (sym one.serving) answers.3))
