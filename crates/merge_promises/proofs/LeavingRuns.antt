-- Behind every list of actions, and of events, each line that says that a row left was written where a step saw it.
use Rattle.std.specs.List.{AllByRecursion, fold}
use Rattle.std.specs.Prelude.{List, [], refl, ◌++◌, ◌≡◌, ◌⊎◌, ◌∷◌, ℕ}
use Rattle.std.proofs.Common.{ap, append_assoc, inl, inr, subst, sym, ◌∙◌}
use Rattle.merge_schema.specs.Valid.{IsValid}
use Rattle.merge_schema.specs.declared.publication.Publication.{Publication}
use Rattle.merge_model.specs.Failing.{Faulty, fails, faulty, faulty_stepping}
use Rattle.merge_model.specs.History.{LeftFor, Line}
use Rattle.merge_model.specs.History.Model.{Model, empty_model, model}
use Rattle.merge_model.specs.World.Steps.{Action}
use Rattle.merge_model.specs.World.{Saying}
use Rattle.merge_model.specs.declared.event.Event.{Event}
use Rattle.merge_model.proofs.Failing.KeptFailing.{fails-keep, runs-keep}
use Rattle.merge_model.proofs.Runs.Actions.{events-are-actions}
use Rattle.merge_laws.specs.Facts.Received.{Received}
use Rattle.merge_laws.proofs.LastLines.LastLineAdded.{added}
use Rattle.merge_laws.proofs.Received.Models.{model-fine, received-always}
use Rattle.merge_laws.proofs.Runs.Tallied.{received-tallied}
use Rattle.merge_laws.specs.Laws.Effects.{behind_actions}
use Rattle.merge_owed.specs.Purged.{model_behind_events}
use Rattle.merge_owed.proofs.MappingLines.{never-or}
use Rattle.merge_promises.specs.Leavings.{ActionLeavingsWereSeen, LeavingsWereSeen, RunLeavingsWereSeen, WasSeen, WasSeenByActions}
use Rattle.merge_promises.proofs.LeavingSteps.{Adds, SeenLine, fails-add}

-- Of each line, with those that are older.

abbrev OfEachLine : (List Line → Line → Type 0) → List Line → Type 0
OfEachLine P [] = Unit {0}
OfEachLine P (line ∷ older) = P older line × OfEachLine P older

each-weaker : (P Q : List Line → Line → Type 0) → ((older : List Line) (line : Line) → P older line → Q older line) → (lines : List Line) → OfEachLine P lines → OfEachLine Q lines
each-weaker P Q weaker [] all = tt
each-weaker P Q weaker (line ∷ older) all = (weaker older line all.0, each-weaker P Q weaker older all.1)

each-cut : (P : List Line → Line → Type 0) (newer older : List Line) (line : Line) → OfEachLine P (newer ++ line ∷ older) → P older line
each-cut P [] older line all = all.0
each-cut P (first ∷ newer) older line all = each-cut P newer older line all.1

-- lines that are added stand above the others
folded : (more lines : List Line) → (newer : List Line) × (fold added lines more ≡ newer ++ lines)
folded [] lines = ([], refl)
folded (line ∷ more) lines =
    let rest : (newer : List Line) × (fold added (line ∷ lines) more ≡ newer ++ line ∷ lines) = folded more (line ∷ lines) in
    (rest.0 ++ line ∷ [], rest.1 ∙ sym (append_assoc rest.0 (line ∷ []) lines))

-- what is said of each line that says that a row left
abbrev Was : (List Line → Line → ℕ → Type 0) → List Line → Line → Type 0
Was Seen older line = (site : ℕ) → line.kind ≡ LeftFor site → Seen older line site

abbrev AllSeen : (List Line → Line → ℕ → Type 0) → Model → Type 0
AllSeen Seen m = OfEachLine (Was Seen) m.history.lines

more-seen : (Seen More : List Line → Line → ℕ → Type 0) (m : Model) → ((older : List Line) (line : Line) (site : ℕ) → Seen older line site → More older line site) → AllSeen Seen m → AllSeen More m
more-seen Seen More m grows all = each-weaker (Was Seen) (Was More) (λ older line was site is. grows older line site (was site is)) m.history.lines all

seen-cut : (Seen : List Line → Line → ℕ → Type 0) (m : Model) → AllSeen Seen m → LeavingsWereSeen Seen m
seen-cut Seen m all newer older line site are is = each-cut (Was Seen) newer older line (subst (λ (lines : List Line). OfEachLine (Was Seen) lines) are all) site is

-- seen before, or by one of the actions or events
abbrev SeenOr : Publication → Saying → (List Line → Line → ℕ → Type 0) → Faulty Model → List Action → List Line → Line → ℕ → Type 0
SeenOr publication says Seen f actions older line site = Seen older line site ⊎ WasSeenByActions publication says f actions older line site

abbrev SeenIn : Publication → Saying → (List Line → Line → ℕ → Type 0) → Faulty Model → List Event → List Line → Line → ℕ → Type 0
SeenIn publication says Seen f events older line site = Seen older line site ⊎ WasSeen publication says f events older line site

module _ (resolvers : ℕ) (publication : Publication) (valid : IsValid resolvers publication) (says : Saying) where
  abbrev Next : Faulty Model → Action → Faulty Model
  Next f action = (fails publication (model publication says) f action).0

  -- what the received numbers say stays
  abbrev OfReceived : Model → Type 0
  OfReceived m = Received m.world m.history

  received-next : (f : Faulty Model) (action : Action) → OfReceived f.world → OfReceived (Next f action).world
  received-next f action r = fails-keep publication (model publication says) OfReceived (λ m act of. model-fine publication says m act of) (λ m others of. received-tallied m.world others m.history of) f action r

  received-event : (f : Faulty Model) (e : Event) → OfReceived f.world → OfReceived (model_behind_events publication says f (e ∷ [])).world
  received-event f e r = runs-keep publication (model publication says) OfReceived (λ m act of. model-fine publication says m act of) (λ m others of. received-tallied m.world others m.history of) (e ∷ []) f r

  -- Behind one action.

  one-written : (Seen : List Line → Line → ℕ → Type 0) (f : Faulty Model) (action : Action) (actions : List Action) (newer beside : List Line) (line : Line)
      → (let g : Faulty Model = Next f action in
      g.world.history.lines ≡ newer ++ line ∷ (beside ++ f.world.history.lines) → SeenLine publication f.world action g.world.world.publisher line
      → Was (SeenOr publication says Seen f (action ∷ actions)) (beside ++ f.world.history.lines) line)
  one-written Seen f action actions newer beside line written seen = λ site is. inr (record {
    before = [];
    action = action;
    later = actions;
    parts = refl;
    newer = newer;
    written = written;
    beside = beside;
    had = refl;
    saw = seen site is;
  })

  all-written : (Seen : List Line → Line → ℕ → Type 0) (f : Faulty Model) (action : Action) (actions : List Action) (more beside : List Line)
      → (let g : Faulty Model = Next f action in
      let Here : List Line → Line → Type 0 = Was (SeenOr publication says Seen f (action ∷ actions)) in
      g.world.history.lines ≡ fold added (beside ++ f.world.history.lines) more → OfEachLine Here (beside ++ f.world.history.lines)
      → AllByRecursion (SeenLine publication f.world action g.world.world.publisher) more → OfEachLine Here (fold added (beside ++ f.world.history.lines) more))
  all-written Seen f action actions [] beside are old new = old
  all-written Seen f action actions (line ∷ more) beside are old new =
      let above : (newer : List Line) × (fold added (line ∷ (beside ++ f.world.history.lines)) more ≡ newer ++ line ∷ (beside ++ f.world.history.lines)) = folded more (line ∷ (beside ++ f.world.history.lines)) in
      all-written Seen f action actions more (line ∷ beside) are (one-written Seen f action actions above.0 beside line (are ∙ above.1) new.0, old) new.1

  one-action : (Seen : List Line → Line → ℕ → Type 0) (f : Faulty Model) (action : Action) (actions : List Action) → OfReceived f.world → AllSeen Seen f.world → AllSeen (SeenOr publication says Seen f (action ∷ actions)) (Next f action).world
  one-action Seen f action actions r all =
      let g : Faulty Model = Next f action in
      let More : List Line → Line → ℕ → Type 0 = SeenOr publication says Seen f (action ∷ actions) in
      let adds : Adds f.world.history.lines (SeenLine publication f.world action g.world.world.publisher) g.world.history.lines = fails-add resolvers publication valid says f.world r f.slips action in
      subst (λ (lines : List Line). OfEachLine (Was More) lines) (sym adds.are)
      (all-written Seen f action actions adds.more [] adds.are (more-seen Seen More f.world (λ older line site seen. inl seen) all) adds.seen)

  -- Behind a list of actions.

  later-seen : (f : Faulty Model) (action : Action) (actions : List Action) (older : List Line) (line : Line) (site : ℕ)
      → WasSeenByActions publication says (Next f action) actions older line site → WasSeenByActions publication says f (action ∷ actions) older line site
  later-seen f action actions older line site was = record {
    before = action ∷ was.before;
    action = was.action;
    later = was.later;
    parts = ap (λ (rest : List Action). action ∷ rest) was.parts;
    newer = was.newer;
    written = was.written;
    beside = was.beside;
    had = was.had;
    saw = was.saw;
  }

  or-later : (Seen : List Line → Line → ℕ → Type 0) (f : Faulty Model) (action : Action) (actions : List Action) (older : List Line) (line : Line) (site : ℕ)
      → SeenOr publication says (SeenOr publication says Seen f (action ∷ actions)) (Next f action) actions older line site → SeenOr publication says Seen f (action ∷ actions) older line site
  or-later Seen f action actions older line site (inl seen) = seen
  or-later Seen f action actions older line site (inr was) = inr (later-seen f action actions older line site was)

  seen-actions : (actions : List Action) (Seen : List Line → Line → ℕ → Type 0) (f : Faulty Model) → OfReceived f.world → AllSeen Seen f.world → AllSeen (SeenOr publication says Seen f actions) (behind_actions publication says f actions).world
  seen-actions [] Seen f r all = more-seen Seen (SeenOr publication says Seen f []) f.world (λ older line site seen. inl seen) all
  seen-actions (action ∷ actions) Seen f r all =
      let Then : List Line → Line → ℕ → Type 0 = SeenOr publication says Seen f (action ∷ actions) in
      more-seen (SeenOr publication says Then (Next f action) actions) Then (behind_actions publication says (Next f action) actions).world (or-later Seen f action actions)
      (seen-actions actions Then (Next f action) (received-next f action r) (one-action Seen f action actions r all))

  -- And of events.

  in-event : (Seen : List Line → Line → ℕ → Type 0) (f : Faulty Model) (e : Event) (events : List Event) (steps : List Action) → behind_actions publication says f steps ≡ model_behind_events publication says f (e ∷ []) → (older : List Line) (line : Line) (site : ℕ)
      → SeenOr publication says Seen f steps older line site → SeenIn publication says Seen f (e ∷ events) older line site
  in-event Seen f e events steps are older line site (inl seen) = inl seen
  in-event Seen f e events steps are older line site (inr was) = inr (record {
    before = [];
    one = e;
    later = events;
    parts = refl;
    steps = steps;
    are = are;
    seen = was;
  })

  one-event : (Seen : List Line → Line → ℕ → Type 0) (f : Faulty Model) (e : Event) (events : List Event) → OfReceived f.world → AllSeen Seen f.world → AllSeen (SeenIn publication says Seen f (e ∷ events)) (model_behind_events publication says f (e ∷ [])).world
  one-event Seen f e events r all =
      let made : (steps : List Action) × (behind_actions publication says f steps ≡ model_behind_events publication says f (e ∷ [])) = events-are-actions (faulty_stepping publication (model publication says)) publication (e ∷ []) f in
      subst (λ (g : Faulty Model). AllSeen (SeenIn publication says Seen f (e ∷ events)) g.world) made.1
      (more-seen (SeenOr publication says Seen f made.0) (SeenIn publication says Seen f (e ∷ events)) (behind_actions publication says f made.0).world (in-event Seen f e events made.0 made.1) (seen-actions made.0 Seen f r all))

  later-in : (f : Faulty Model) (e : Event) (events : List Event) (older : List Line) (line : Line) (site : ℕ)
      → WasSeen publication says (model_behind_events publication says f (e ∷ [])) events older line site → WasSeen publication says f (e ∷ events) older line site
  later-in f e events older line site was = record {
    before = e ∷ was.before;
    one = was.one;
    later = was.later;
    parts = ap (λ (rest : List Event). e ∷ rest) was.parts;
    steps = was.steps;
    are = was.are;
    seen = was.seen;
  }

  or-later-event : (Seen : List Line → Line → ℕ → Type 0) (f : Faulty Model) (e : Event) (events : List Event) (older : List Line) (line : Line) (site : ℕ)
      → SeenIn publication says (SeenIn publication says Seen f (e ∷ events)) (model_behind_events publication says f (e ∷ [])) events older line site → SeenIn publication says Seen f (e ∷ events) older line site
  or-later-event Seen f e events older line site (inl seen) = seen
  or-later-event Seen f e events older line site (inr was) = inr (later-in f e events older line site was)

  seen-events : (events : List Event) (Seen : List Line → Line → ℕ → Type 0) (f : Faulty Model) → OfReceived f.world → AllSeen Seen f.world → AllSeen (SeenIn publication says Seen f events) (model_behind_events publication says f events).world
  seen-events [] Seen f r all = more-seen Seen (SeenIn publication says Seen f []) f.world (λ older line site seen. inl seen) all
  seen-events (e ∷ events) Seen f r all =
      let Then : List Line → Line → ℕ → Type 0 = SeenIn publication says Seen f (e ∷ events) in
      let g : Faulty Model = model_behind_events publication says f (e ∷ []) in
      more-seen (SeenIn publication says Then g events) Then (model_behind_events publication says g events).world (or-later-event Seen f e events)
      (seen-events events Then g (received-event f e r) (one-event Seen f e events r all))

-- The laws.

abbrev Nothing : List Line → Line → ℕ → Type 0
Nothing older line site = ⊥

pub seen-by-actions : ActionLeavingsWereSeen
seen-by-actions resolvers publication valid says tallies slips actions =
    let start : Faulty Model = faulty (empty_model publication tallies) slips in
    seen-cut (WasSeenByActions publication says start actions) (behind_actions publication says start actions).world
    (more-seen (SeenOr publication says Nothing start actions) (WasSeenByActions publication says start actions) (behind_actions publication says start actions).world (λ older line site seen. never-or seen)
    (seen-actions resolvers publication valid says actions Nothing start (received-always publication says tallies [] []) tt))

pub seen-always : RunLeavingsWereSeen
seen-always resolvers publication valid says tallies slips events =
    let start : Faulty Model = faulty (empty_model publication tallies) slips in
    seen-cut (WasSeen publication says start events) (model_behind_events publication says start events).world
    (more-seen (SeenIn publication says Nothing start events) (WasSeen publication says start events) (model_behind_events publication says start events).world (λ older line site seen. never-or seen)
    (seen-events resolvers publication valid says events Nothing start (received-always publication says tallies [] []) tt))
