-- Behind every list of actions, and of events, each move that a line tells is kept as a mapping, or went.
use Rattle.std.specs.List.{AllByRecursion, fold}
use Rattle.std.specs.Prelude.{Bool, List, None, Option, Some, [], false, flat_map, map, refl, take, true, ◌+◌, ◌≡◌, ◌⊎◌, ◌∷◌, ℕ}
use Rattle.std.proofs.Common.{ap, inl, inr, subst, sym, ◌∙◌}
use Rattle.merge_types.specs.declared.changes.Change.{Change}
use Rattle.merge_types.specs.declared.identifiers.SiteId.{SiteId}
use Rattle.merge_types.specs.declared.row_key.RowKey.{RowKey as Key}
use Rattle.merge_gens.specs.declared.moves.Mapping.{Mapping}
use Rattle.merge_gens.specs.declared.moves.RowSite.{RowSite}
use Rattle.merge_resolve.specs.Asked.{tallies_after}
use Rattle.merge_schema.specs.declared.publication.Publication.{Publication}
use Rattle.merge_batch.specs.declared.request.Join.{Join}
use Rattle.merge_batch.specs.declared.request.Upload.{Upload}
use Rattle.merge_model.specs.Publisher.Acts.{Act}
use Rattle.merge_model.specs.Judge.ByHistory.{by_history, by_made, by_past}
use Rattle.merge_model.specs.Publisher.Entries.{Entries}
use Rattle.merge_model.specs.Failing.{Faulty, Slip, Slips, acting_with, fails, faulty, is_allowed, questions_by, slip_if}
use Rattle.merge_model.specs.History.{History, Line, Past, pasts_with}
use Rattle.merge_model.specs.Judge.{PublisherJudge}
use Rattle.merge_model.specs.Tables.Keys.{put_number}
use Rattle.merge_model.specs.History.Model.{Model, empty_model, model, model_step}
use Rattle.merge_model.specs.History.Noting
use Rattle.merge_model.specs.Tables.Publications.{by_site}
use Rattle.merge_model.specs.Publisher.{last_closed}
use Rattle.merge_model.specs.Publisher.PublisherJoin.{join_taken}
use Rattle.merge_model.specs.Publisher.PublisherLocal.{Drawn, changing_locally, made_locally, next_dot, with_draw}
use Rattle.merge_model.specs.Publisher.PublisherPurge.{after_purge}
use Rattle.merge_model.specs.Publisher.PublisherUpload.{changing_by, taken_in, with_acts}
use Rattle.merge_model.specs.World.Steps.{Action, CloseAt, Deliver, Forget, Look, Make, MakeAnew, Pass, Send}
use Rattle.merge_model.specs.Tables.{PublisherTables}
use Rattle.merge_model.specs.World.{Saying, World}
use Rattle.merge_model.specs.declared.event.Event.{Event}
use Rattle.merge_model.proofs.Lists.Finding.{all-weaker}
use Rattle.merge_model.proofs.Entries.StepParts.{CanBeSaid}
use Rattle.merge_laws.proofs.LastLines.LastLineAdded.{added, lines-with}
use Rattle.merge_laws.proofs.LastLines.LastLineNotes.{acts-lines, anew-lines, purged-lines, taken-lines}
use Rattle.merge_laws.proofs.LastLines.LastLineSteps.{LinesBase}
use Rattle.merge_laws.proofs.Walking.{StepsKeep, acts_in, here, join_noted, own_noted, step-keeps}
use Rattle.merge_owed.specs.Mappings.{IsKeptOrGone, OfEveryGoingActions, OfEveryGoingRun, ToldAreKeptOrGone, Went, WentByActions, kept_at}
use Rattle.merge_laws.specs.Laws.Effects.{behind_actions}
use Rattle.merge_owed.specs.Purged.{model_behind_events}
use Rattle.merge_owed.proofs.MappingRuns.{Based, Parted, based-begins, based-event, based-fails, parted, later-gone, later-went, stepping}
use Rattle.merge_owed.proofs.MappingSteps.{Ends, fails-end}
use Rattle.merge_owed.proofs.MappingTold.{IsTold, entries-told, gone-told}

-- The lines that a step adds tell what is kept behind it.

pub record Adds (before : List Line) (p : PublisherTables) (lines : List Line) : Type 0 where
  pub more : List Line
  pub are : lines ≡ fold added before more
  pub told : AllByRecursion (IsTold p) more

adds-none : (before : List Line) (p : PublisherTables) (lines : List Line) → lines ≡ before → Adds before p lines
adds-none before p lines same = record { more = []; are = same; told = tt }

module _ (publication : Publication) (valid : CanBeSaid publication) (says : Saying) (before : List Line) where
  abbrev FromHere : World → History → Type 0
  FromHere w h = LinesBase w h × (h.lines ≡ before)

  abbrev AddsHere : World → History → Type 0
  AddsHere w h = Adds before w.publisher h.lines

  adds-lines : (p : PublisherTables) (more : List Line) (h k : History) → k.lines ≡ before → h.lines ≡ fold added k.lines more → AllByRecursion (IsTold p) more → Adds before p h.lines
  adds-lines p more h k same are told = record { more = more; are = are ∙ ap (λ (ls : List Line). fold added ls more) same; told = told }

  module _ (w : World) (h : History) (b : FromHere w h) where
    own-adds : (judge : PublisherJudge) (change : Change) (d : Drawn) → Adds before (made_locally publication judge change d (here w)).0 (own_noted publication judge change d (here w) h).lines
    own-adds judge change d =
        let more : List Line = Noting.lines_of_entries (last_closed (here w) + 1) (Noting.drawn_entries publication judge change (here w) d) in
        let k : History = Noting.with_change publication (next_dot (here w)) (last_closed (here w) + 1) change d.value h in
        adds-lines (made_locally publication judge change d (here w)).0 more (Noting.with_lines more k) k b.1 (lines-with more k)
        (entries-told publication valid judge (changing_locally publication change d.value (here w)) (with_draw d (here w)) b.0.1.rows_ascend b.0.1.mappings_ascend (last_closed (here w) + 1))

    join-adds : (incoming : List (Key × Past)) (m : Join) → Adds before (join_taken m (here w)) (join_noted (by_past h incoming) m w.publisher h).lines
    join-adds incoming m =
        let places : List RowSite = map (Noting.gone_for m.site) (Noting.left_rows (by_past h incoming) m.site) in
        let more : List Line = map (Noting.gone_line (last_closed w.publisher + 1)) places in
        let k : History = record (Noting.with_done m.site.0 0 m.generation h) { bases = put_number h.bases m.site.0 (last_closed w.publisher) } in
        adds-lines (join_taken m (here w)) more (Noting.with_lines more k) k b.1 (lines-with more k) (gone-told (join_taken m (here w)) (last_closed w.publisher + 1) places)

    upload-adds : (judge : PublisherJudge) (incoming : List (Key × Past)) (m : Upload) (acts : List Act) → Adds before (taken_in publication judge m acts (here w)) (Noting.with_acts_noted publication judge m acts incoming (here w) h).lines
    upload-adds judge incoming m acts =
        let entries : Entries = Noting.acts_entries publication judge m acts (here w) in
        let more : List Line = Noting.lines_of_entries (last_closed (here w) + 1) entries in
        let acted : History = fold (Noting.with_act incoming entries) h acts in
        adds-lines (taken_in publication judge m acts (here w)) more (Noting.with_acts_noted publication judge m acts incoming (here w) h) acted (acts-lines incoming entries acts h ∙ b.1) (lines-with more acted)
        (entries-told publication valid judge (changing_by m acts) (with_acts publication m acts (here w)) b.0.1.rows_ascend b.0.1.mappings_ascend (last_closed (here w) + 1))

    purge-adds : Adds before (after_purge publication (here w)) (Noting.noted_purge publication (by_past h (pasts_with h 0)) (here w) h).lines
    purge-adds =
        let places : List RowSite = flat_map (Noting.old_left publication (by_past h (pasts_with h 0)) (here w)) (map Noting.site_of_subscription (by_site publication)) in
        let more : List Line = map (Noting.gone_line (last_closed (here w) + 1)) places in
        let k : History = fold Noting.with_purged h (Noting.old_tombstones publication (here w)) in
        adds-lines (after_purge publication (here w)) more (Noting.with_lines more k) k (purged-lines (Noting.old_tombstones publication (here w)) h ∙ b.1) (lines-with more k) (gone-told (after_purge publication (here w)) (last_closed (here w) + 1) places)

    adds-same : (p : PublisherTables) → Adds before p h.lines
    adds-same p = adds-none before p h.lines b.1

  steps-add : StepsKeep publication says FromHere AddsHere
  steps-add = record {
    moment = λ w h now b adds. adds-same w h b w.publisher;
    own_change = λ w h change d b adds fine is. own-adds w h b (by_past h (pasts_with h 0)) change d;
    own_closing = λ w h b adds. adds-same w h b _;
    forgetting = λ w h b adds. purge-adds w h b;
    same = λ w h s b adds at. adds-same w h b _;
    subscriber_change = λ w h s change d b adds at named fine is. adds-same w h b _;
    subscriber_closing = λ w h s b adds at. adds-same w h b _;
    anew = λ w h s b adds at. adds-none before w.publisher _ (anew-lines (by_history h) s.site (Some s) h ∙ b.1);
    sends_join = λ w h s b adds at joining. adds-same w h b _;
    sends_upload = λ w h s b adds at fine. adds-same w h b _;
    sends_ranges = λ w h s b adds at fine. adds-same w h b _;
    sends_ask = λ w h s b adds at fine. adds-same w h b _;
    joins = λ w h number m b adds at fine acts. join-adds w h b (pasts_with h number) m;
    joins_again = λ w h number m b adds at acts. adds-same w h b _;
    uploads = λ w h number m b adds at fine news. upload-adds w h b (by_past h (pasts_with h number)) (pasts_with h number) m (acts_in publication says (by_past h (pasts_with h number)) m w);
    uploads_again = λ w h number m b adds at none. adds-same w h b _;
    answers_ranges = λ w h site m b adds. adds-same w h b _;
    answers_ask = λ w h number site m b adds at fine. adds-same w h b _;
    replies = λ w h s number m sent b adds at there out none. adds-none before w.publisher _ (taken-lines (by_history h) s.site (pasts_with h number) m (Some s) h ∙ b.1);
  }

-- What holds of old lines and of those that are added.
all-added : (P : Line → Type 0) (lines more : List Line) → AllByRecursion P lines → AllByRecursion P more → AllByRecursion P (fold added lines more)
all-added P lines [] old new = old
all-added P lines (line ∷ more) old new = all-added P (line ∷ lines) more (new.0, old) new.1

-- What holds behind a step, and of other tallies, holds behind one that may fail.
module _ (publication : Publication) (says : Saying) (P : Model → Type 0) (m : Model) (same : (others : List ℕ) → P (record m { world = record m.world { tallies = others } })) where
  slip-holds : (allowed : Bool) (slips : Slips) (slip : Slip) (action : Action) → P (model_step publication says m action).0 → P (slip_if publication (model publication says) allowed slips slip action m (model_step publication says m action)).0.world
  slip-holds true slips slip action made = same (tallies_after m.world.tallies (take slip.asked (questions_by publication m.world action (model_step publication says m action).1)))
  slip-holds false slips slip action made = made

  acting-holds : (slips : Slips) (action : Action) → P (model_step publication says m action).0 → P (acting_with publication (model publication says) slips action m (model_step publication says m action)).0.world
  acting-holds [] action made = made
  acting-holds (None ∷ slips) action made = made
  acting-holds (Some slip ∷ slips) action made = slip-holds (is_allowed publication m.world action slip (model_step publication says m action).1) slips slip action made

  fails-hold : (slips : Slips) (action : Action) → P (model_step publication says m action).0 → P (fails publication (model publication says) (faulty m slips) action).0.world
  fails-hold slips (Pass seconds) made = made
  fails-hold slips (Make site change) made = acting-holds slips (Make site change) made
  fails-hold slips (CloseAt site) made = acting-holds slips (CloseAt site) made
  fails-hold slips (Send site sending) made = acting-holds slips (Send site sending) made
  fails-hold slips (Deliver number) made = acting-holds slips (Deliver number) made
  fails-hold slips (MakeAnew site) made = acting-holds slips (MakeAnew site) made
  fails-hold slips Forget made = acting-holds slips Forget made
  fails-hold slips Look made = acting-holds slips Look made

kept-or : (K S M : Type 0) → (S → M) → K ⊎ S → K ⊎ M
kept-or K S M grows (inl is) = inl is
kept-or K S M grows (inr so) = inr (grows so)

-- lines that tell what is kept or gone, where more is gone
more-gone : (So More : RowSite → Mapping → Type 0) (m : Model) → ((place : RowSite) (move : Mapping) → So place move → More place move) → ToldAreKeptOrGone So m → ToldAreKeptOrGone More m
more-gone So More m grows all = all-weaker (IsKeptOrGone So m) (IsKeptOrGone More m)
    (λ line so site move at is. kept-or (kept_at m.world.publisher (record { key = line.key; site = site }) ≡ Some move) (So (record { key = line.key; site = site }) move) (More (record { key = line.key; site = site }) move) (grows (record { key = line.key; site = site }) move) (so site move at is)) m.history.lines all

module _ (publication : Publication) (valid : CanBeSaid publication) (says : Saying) where
  step-adds : (m : Model) (action : Action) → Based publication m → (let n : Model = (model_step publication says m action).0 in Adds m.history.lines n.world.publisher n.history.lines)
  step-adds m action based = step-keeps publication says (FromHere publication valid says m.history.lines) (AddsHere publication valid says m.history.lines) (λ w h b. b.0.0) (steps-add publication valid says m.history.lines) m action
      (based.0, refl) (adds-none m.history.lines m.world.publisher m.history.lines refl)

  abbrev Next : Faulty Model → Action → Faulty Model
  Next f action = ((stepping publication says).act f action).0

  -- a step that fails adds none
  fails-add : (f : Faulty Model) (action : Action) → Based publication f.world → Adds f.world.history.lines (Next f action).world.world.publisher (Next f action).world.history.lines
  fails-add f action based = fails-hold publication says (λ (n : Model). Adds f.world.history.lines n.world.publisher n.history.lines) f.world (λ others. adds-none f.world.history.lines f.world.world.publisher f.world.history.lines refl) f.slips action (step-adds f.world action based)

  -- Behind one action.

  abbrev GoneOr : (RowSite → Mapping → Type 0) → Faulty Model → List Action → RowSite → Mapping → Type 0
  GoneOr Gone f actions place move = Gone place move ⊎ WentByActions publication says f actions place move

  goes-on : (Gone : RowSite → Mapping → Type 0) (f : Faulty Model) (action : Action) (actions : List Action) (based : Based publication f.world) (place : RowSite) (move : Mapping) (held : kept_at f.world.world.publisher place ≡ Some move)
      → Ends publication valid says f.world place move held based.0.1 based.1.moves action (Next f action).world.world.publisher
      → (kept_at (Next f action).world.world.publisher place ≡ Some move) ⊎ GoneOr Gone f (action ∷ actions) place move
  goes-on Gone f action actions based place move held (inl is) = inl is
  goes-on Gone f action actions based place move held (inr goes) = inr (inr (record {
    before = [];
    action = action;
    later = actions;
    parts = refl;
    held = held;
    goes = goes;
  }))

  one-line : (Gone : RowSite → Mapping → Type 0) (f : Faulty Model) (action : Action) (actions : List Action) → Based publication f.world → (place : RowSite) (move : Mapping) → (kept_at f.world.world.publisher place ≡ Some move) ⊎ Gone place move
      → (kept_at (Next f action).world.world.publisher place ≡ Some move) ⊎ GoneOr Gone f (action ∷ actions) place move
  one-line Gone f action actions based place move (inr gone) = inr (inl gone)
  one-line Gone f action actions based place move (inl held) = goes-on Gone f action actions based place move held (fails-end publication valid says f.world place move held based.0.1 based.1.moves f.slips action)

  one-action : (Gone : RowSite → Mapping → Type 0) (f : Faulty Model) (action : Action) (actions : List Action) → Based publication f.world → ToldAreKeptOrGone Gone f.world → ToldAreKeptOrGone (GoneOr Gone f (action ∷ actions)) (Next f action).world
  one-action Gone f action actions based all =
      let g : Faulty Model = Next f action in
      let adds : Adds f.world.history.lines g.world.world.publisher g.world.history.lines = fails-add f action based in
      subst (λ (lines : List Line). AllByRecursion (IsKeptOrGone (GoneOr Gone f (action ∷ actions)) g.world) lines) (sym adds.are)
      (all-added (IsKeptOrGone (GoneOr Gone f (action ∷ actions)) g.world) f.world.history.lines adds.more
      (all-weaker (IsKeptOrGone Gone f.world) (IsKeptOrGone (GoneOr Gone f (action ∷ actions)) g.world)
      (λ line so site move at is. one-line Gone f action actions based (record { key = line.key; site = site }) move (so site move at is)) f.world.history.lines all)
      (all-weaker (IsTold g.world.world.publisher) (IsKeptOrGone (GoneOr Gone f (action ∷ actions)) g.world) (λ line told site move at is. inl (told site move at is)) adds.more adds.told))

  -- Behind a list of actions.

  or-later : (Gone : RowSite → Mapping → Type 0) (f : Faulty Model) (action : Action) (actions : List Action) (place : RowSite) (move : Mapping)
      → GoneOr (GoneOr Gone f (action ∷ actions)) (Next f action) actions place move → GoneOr Gone f (action ∷ actions) place move
  or-later Gone f action actions place move (inl gone) = gone
  or-later Gone f action actions place move (inr went) = inr (later-went publication says place move f action actions went)

  told-actions : (actions : List Action) (Gone : RowSite → Mapping → Type 0) (f : Faulty Model) → Based publication f.world → ToldAreKeptOrGone Gone f.world → ToldAreKeptOrGone (GoneOr Gone f actions) (behind_actions publication says f actions).world
  told-actions [] Gone f based all = more-gone Gone (GoneOr Gone f []) f.world (λ place move gone. inl gone) all
  told-actions (action ∷ actions) Gone f based all = more-gone (GoneOr (GoneOr Gone f (action ∷ actions)) (Next f action) actions) (GoneOr Gone f (action ∷ actions)) (behind_actions publication says (Next f action) actions).world
      (or-later Gone f action actions) (told-actions actions (GoneOr Gone f (action ∷ actions)) (Next f action) (based-fails publication says f action based) (one-action Gone f action actions based all))

  -- And of events.

  abbrev GoneIn : (RowSite → Mapping → Type 0) → Faulty Model → List Event → RowSite → Mapping → Type 0
  GoneIn Gone f events place move = Gone place move ⊎ Went publication says f events place move

  in-event : (Gone : RowSite → Mapping → Type 0) (f : Faulty Model) (e : Event) (events : List Event) (parts : Parted publication says f e) (place : RowSite) (move : Mapping) → GoneOr Gone f parts.steps place move → GoneIn Gone f (e ∷ events) place move
  in-event Gone f e events parts place move (inl gone) = inl gone
  in-event Gone f e events parts place move (inr went) = inr (record {
    before = [];
    one = e;
    later = events;
    parts = refl;
    steps = parts.steps;
    are = parts.are;
    purge = parts.purge;
    went = went;
  })

  one-event : (Gone : RowSite → Mapping → Type 0) (f : Faulty Model) (e : Event) (events : List Event) → Based publication f.world → ToldAreKeptOrGone Gone f.world → ToldAreKeptOrGone (GoneIn Gone f (e ∷ events)) (model_behind_events publication says f (e ∷ [])).world
  one-event Gone f e events based all =
      let parts : Parted publication says f e = parted publication says f e in
      subst (λ (g : Faulty Model). ToldAreKeptOrGone (GoneIn Gone f (e ∷ events)) g.world) parts.are
      (more-gone (GoneOr Gone f parts.steps) (GoneIn Gone f (e ∷ events)) (behind_actions publication says f parts.steps).world (in-event Gone f e events parts) (told-actions parts.steps Gone f based all))

  or-later-event : (Gone : RowSite → Mapping → Type 0) (f : Faulty Model) (e : Event) (events : List Event) (place : RowSite) (move : Mapping)
      → GoneIn (GoneIn Gone f (e ∷ events)) (model_behind_events publication says f (e ∷ [])) events place move → GoneIn Gone f (e ∷ events) place move
  or-later-event Gone f e events place move (inl gone) = gone
  or-later-event Gone f e events place move (inr went) = inr (later-gone publication says place move f e events went)

  told-events : (events : List Event) (Gone : RowSite → Mapping → Type 0) (f : Faulty Model) → Based publication f.world → ToldAreKeptOrGone Gone f.world → ToldAreKeptOrGone (GoneIn Gone f events) (model_behind_events publication says f events).world
  told-events [] Gone f based all = more-gone Gone (GoneIn Gone f []) f.world (λ place move gone. inl gone) all
  told-events (e ∷ events) Gone f based all = more-gone (GoneIn (GoneIn Gone f (e ∷ events)) (model_behind_events publication says f (e ∷ [])) events) (GoneIn Gone f (e ∷ events)) (model_behind_events publication says (model_behind_events publication says f (e ∷ [])) events).world
      (or-later-event Gone f e events) (told-events events (GoneIn Gone f (e ∷ events)) (model_behind_events publication says f (e ∷ [])) (based-event publication says f e based) (one-event Gone f e events based all))

-- The laws.

abbrev Nothing : RowSite → Mapping → Type 0
Nothing place move = ⊥

pub never-or : {G : Type 0} → ⊥ ⊎ G → G
never-or (inl none) = absurd none
never-or (inr gone) = gone

pub told-by-actions : OfEveryGoingActions ToldAreKeptOrGone
told-by-actions resolvers publication valid says tallies slips actions =
    let start : Faulty Model = faulty (empty_model publication tallies) slips in
    more-gone (GoneOr publication (resolvers, valid) says Nothing start actions) (WentByActions publication says start actions) (behind_actions publication says start actions).world (λ place move gone. never-or gone)
    (told-actions publication (resolvers, valid) says actions Nothing start (based-begins publication says tallies) tt)

pub told-always : OfEveryGoingRun ToldAreKeptOrGone
told-always resolvers publication valid says tallies slips events =
    let start : Faulty Model = faulty (empty_model publication tallies) slips in
    more-gone (GoneIn publication (resolvers, valid) says Nothing start events) (Went publication says start events) (model_behind_events publication says start events).world (λ place move gone. never-or gone)
    (told-events publication (resolvers, valid) says events Nothing start (based-begins publication says tallies) tt)
