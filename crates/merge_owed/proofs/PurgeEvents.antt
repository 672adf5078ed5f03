-- The rows that the history has as purged are those that a purge among the events took.
use Rattle.std.specs.Prelude.{Bool, Err, List, None, Ok, Option, Result, Some, [], false, flat_map, map, refl, true, ◌++◌, ◌+◌, ◌==◌, ◌||◌, ◌≡◌, ◌⊎◌, ◌∷◌, ℕ}
use Rattle.std.specs.List.{fold}
use Rattle.std.proofs.Common.{ap, arith, inl, inr, sym, ◌∙◌}
use Rattle.merge_types.specs.declared.changes.Change.{Change}
use Rattle.merge_types.specs.declared.identifiers.SiteId.{SiteId}
use Rattle.merge_types.specs.declared.row_key.RowKey.{RowKey as Key}
use Rattle.merge_types.specs.declared.values.Value.{Value}
use Rattle.merge_units.specs.declared.site_row.PublisherRow.{PublisherRow}
use Rattle.merge_ident.specs.Holders.{Holder}
use Rattle.merge_schema.specs.declared.publication.Publication.{Publication}
use Rattle.merge_batch.specs.declared.refusal.Refusal.{Refusal}
use Rattle.merge_batch.specs.declared.request.Request.{Request}
use Rattle.merge_batch.specs.declared.request.Request.TheVariants as request
use Rattle.merge_model.specs.Publisher.Acts.{Act, acts_of}
use Rattle.merge_model.specs.Judge.ByHistory.{by_history}
use Rattle.merge_model.specs.Publisher.Entries.{Entries}
use Rattle.merge_model.specs.World.Events.{happens}
use Rattle.merge_model.specs.Failing.{Faulty, Slip, Slips, faulty, faulty_stepping, is_allowed, slip_if}
use Rattle.merge_model.specs.History.{History, Line, Past, pasts_with}
use Rattle.merge_model.specs.Judge.{PublisherJudge}
use Rattle.merge_model.specs.Tables.Keys.{has_key, row_at}
use Rattle.merge_model.specs.Laws.{AreSorted}
use Rattle.merge_model.specs.History.Model.{Model, did_something, model, model_step, noted_action, noted_if, noted_letter, noted_make, noted_request, with_letter, with_posted}
use Rattle.merge_model.specs.History.Noting
use Rattle.merge_model.specs.Tables.Publications.{by_site}
use Rattle.merge_model.specs.Publisher.{at_moment, last_closed}
use Rattle.merge_model.specs.Publisher.PublisherJoin.{join_acts}
use Rattle.merge_model.specs.Publisher.PublisherLocal.{Drawn, draw_for_change, next_dot}
use Rattle.merge_model.specs.Publisher.PublisherPurge.{is_old_tombstone}
use Rattle.merge_model.specs.Publisher.PublisherUpload.{brings_news}
use Rattle.merge_model.specs.World.Session.{Stepping}
use Rattle.merge_model.specs.World.Steps.{Action, CloseAt, Deliver, Forget, Look, Make, MakeAnew, Pass, Send, kept_decisions, step_by, upload_questions}
use Rattle.merge_model.specs.Subscriber.{subscriber_drawn, subscriber_last_closed, subscriber_next_dot}
use Rattle.merge_model.specs.Tables.{PublisherTables, SubscriberTables}
use Rattle.merge_model.specs.World.{Judges, Saying, World, letter_at, subscriber_at}
use Rattle.merge_model.specs.declared.event.Event.{Event}
use Rattle.merge_model.specs.declared.event.Event.TheVariants as event
use Rattle.merge_model.specs.declared.letter.Letter.{Letter}
use Rattle.merge_model.specs.declared.letter.Message.{Message}
use Rattle.merge_model.specs.declared.letter.Message.TheVariants.{Asks, Replies}
use Rattle.merge_model.specs.declared.outcome.Outcome.{Outcome}
use Rattle.merge_model.specs.declared.outcome.Outcome.TheVariants.{Passed, Posted}
use Rattle.merge_model.proofs.Failing.KeptFailing.{fails-keep, runs-keep}
use Rattle.merge_model.proofs.Runs.Events.{event-keeps}
use Rattle.merge_model.proofs.Publishers.Sorted.{step-sorted}
use Rattle.merge_laws.proofs.Walking.NotesLeave.{acts-leave, anew-leave, fold-leave, if-leave, taker-leave}
use Rattle.merge_owed.specs.Forgotten.{going_over}
use Rattle.merge_owed.specs.Purged.{WasPurged, model_behind_events}
use Rattle.merge_owed.proofs.PurgedRows.{Dropped, is-among, keys_old, purged-has, was-dropped}

-- What a step notes that is no purge leaves the rows that were purged.

abbrev purged_of : History → List Key
purged_of h = h.purged

lines-leave : (lines : List Line) (h : History) → (Noting.with_lines lines h).purged ≡ h.purged
lines-leave lines h = fold-leave purged_of Noting.with_line (λ x line. refl) lines h

own-leaves : (publication : Publication) (judge : PublisherJudge) (change : Change) (p : PublisherTables) (draw : Result Drawn Refusal) (h : History)
    → (let k : History = elim draw [
      | Err refusal ↦ h
      | Ok d ↦ Noting.with_lines (Noting.lines_of_entries (last_closed p + 1) (Noting.drawn_entries publication judge change p d)) (Noting.with_change publication (next_dot p) (last_closed p + 1) change d.value h)
    ] in k.purged ≡ h.purged)
own-leaves publication judge change p (Err refusal) h = refl
own-leaves publication judge change p (Ok d) h = lines-leave (Noting.lines_of_entries (last_closed p + 1) (Noting.drawn_entries publication judge change p d)) (Noting.with_change publication (next_dot p) (last_closed p + 1) change d.value h)

sub-leaves : (publication : Publication) (change : Change) (s : SubscriberTables) (draw : Result (Value × List (ℕ × Holder)) Refusal) (h : History)
    → (let k : History = elim draw [
      | Err refusal ↦ h
      | Ok d ↦ Noting.with_change publication (subscriber_next_dot s) (subscriber_last_closed s + 1) change d.0 h
    ] in k.purged ≡ h.purged)
sub-leaves publication change s (Err refusal) h = refl
sub-leaves publication change s (Ok d) h = refl

found-leaves : (publication : Publication) (change : Change) (found : Option SubscriberTables) (h : History) → (let k : History = elim found [ None ↦ h | Some s ↦ Noting.noted_at_subscriber publication change s h ] in k.purged ≡ h.purged)
found-leaves publication change None h = refl
found-leaves publication change (Some s) h = sub-leaves publication change s (subscriber_drawn s change) h

make-leaves : (publication : Publication) (judges : Judges) (site : SiteId) (change : Change) (w : World) (h : History) → (noted_make publication judges site change w h).purged ≡ h.purged
make-leaves publication judges site change w h =
    if-leave purged_of (site.0 == 0) (Noting.noted_at_publisher publication (judges.publisher 0) change (at_moment w.moment w.publisher) h)
    (let k : History = elim (subscriber_at w site) [ None ↦ h | Some s ↦ Noting.noted_at_subscriber publication change s h ] in k) h
    (own-leaves publication (judges.publisher 0) change (at_moment w.moment w.publisher) (draw_for_change publication (at_moment w.moment w.publisher) change) h)
    (found-leaves publication change (subscriber_at w site) h)

request-leaves : (publication : Publication) (says : Saying) (judge : PublisherJudge) (incoming : List (Key × Past)) (w : World) (m : Request) (h : History) → (noted_request publication says judge incoming w m h).purged ≡ h.purged
request-leaves publication says judge incoming w (request.Join m) h =
    if-leave purged_of (join_acts m w.publisher) _ h h (lines-leave (map (Noting.gone_line (last_closed w.publisher + 1)) (map (Noting.gone_for m.site) (Noting.left_rows judge m.site))) _) refl
request-leaves publication says judge incoming w (request.Upload m) h =
    let p : PublisherTables = at_moment w.moment w.publisher in
    let acts : List Act = acts_of judge m (kept_decisions says w.tallies (upload_questions publication judge w.moment m w.publisher)) p in
    let entries : Entries = Noting.acts_entries publication judge m acts p in
    if-leave purged_of (brings_news judge m) (Noting.with_acts_noted publication judge m acts incoming p h) h h
    (lines-leave (Noting.lines_of_entries (last_closed p + 1) entries) (fold (Noting.with_act incoming entries) h acts) ∙ acts-leave purged_of (λ x lost. refl) (λ x made pasts. refl) (λ x more. refl) incoming entries acts h) refl
request-leaves publication says judge incoming w (request.Ranges m) h = refl
request-leaves publication says judge incoming w (request.Download m) h = refl

message-leaves : (publication : Publication) (says : Saying) (judges : Judges) (number : ℕ) (w : World) (site : SiteId) (message : Message) (h : History) → (noted_letter publication says judges number w (record { site = site; message = message }) h).purged ≡ h.purged
message-leaves publication says judges number w site (Asks m) h = request-leaves publication says (judges.publisher number) (pasts_with h number) w m h
message-leaves publication says judges number w site (Replies m) h = taker-leave purged_of (λ x pasts. refl) judges site (pasts_with h number) m (subscriber_at w site) h

letter-leaves : (publication : Publication) (says : Saying) (judges : Judges) (number : ℕ) (w : World) (found : Option Letter) (h : History) → (let k : History = elim found [ None ↦ h | Some letter ↦ noted_letter publication says judges number w letter h ] in k.purged ≡ h.purged)
letter-leaves publication says judges number w None h = refl
letter-leaves publication says judges number w (Some letter) h = message-leaves publication says judges number w letter.site letter.message h

posted-found : (found : Option Letter) (h : History) → (let k : History = elim found [ None ↦ h | Some letter ↦ with_letter letter h ] in k.purged ≡ h.purged)
posted-found None h = refl
posted-found (Some letter) h = refl

posted-leaves : (w : World) (outcome : Outcome) (h : History) → (with_posted w outcome h).purged ≡ h.purged
posted-leaves w (Posted number) h = posted-found (letter_at w number) h
posted-leaves w outcome h = grind (arith)

noted-leaves : (b : Bool) (after before : History) → after.purged ≡ before.purged → (noted_if b after before).purged ≡ before.purged
noted-leaves true after before same = same
noted-leaves false after before same = refl

-- Only an event that purges makes the step of a purge. So where others happen, it may as well do nothing.

abbrev pub act_without : {W : Type 0} → Stepping W → W → Action → W × Outcome
act_without stepping w (Pass seconds) = stepping.act w (Pass seconds)
act_without stepping w (Make site change) = stepping.act w (Make site change)
act_without stepping w (CloseAt site) = stepping.act w (CloseAt site)
act_without stepping w (Send site sending) = stepping.act w (Send site sending)
act_without stepping w (Deliver number) = stepping.act w (Deliver number)
act_without stepping w (MakeAnew site) = stepping.act w (MakeAnew site)
act_without stepping w Forget = (w, Passed)
act_without stepping w Look = stepping.act w Look

abbrev pub without_purges : {W : Type 0} → Stepping W → Stepping W
without_purges stepping = record stepping { act = act_without stepping }

abbrev pub IsOther : Event → Type 0
IsOther event.Purge = ⊥
IsOther e = Unit {0}

module _ (publication : Publication) (says : Saying) where
  abbrev pub stepping : Stepping (Faulty Model)
  stepping = faulty_stepping publication (model publication says)

  abbrev pub steps_without : Stepping (Faulty Model)
  steps_without = faulty_stepping publication (without_purges (model publication says))

  step-leaves : (m : Model) (action : Action) → (let judges : Judges = by_history m.history in (noted_action publication says judges m.world action m.history).purged ≡ m.history.purged) → (model_step publication says m action).0.history.purged ≡ m.history.purged
  step-leaves m action same =
      let judges : Judges = by_history m.history in
      let done : World × Outcome = step_by publication says judges m.world action in
      let new : History = noted_action publication says judges m.world action m.history in
      posted-leaves done.0 done.1 (noted_if (did_something done.1) new m.history) ∙ noted-leaves (did_something done.1) new m.history same

  pub act-leaves : (m : Model) (action : Action) → (act_without (model publication says) m action).0.history.purged ≡ m.history.purged
  act-leaves m (Pass seconds) = step-leaves m (Pass seconds) refl
  act-leaves m (Make site change) = step-leaves m (Make site change) (make-leaves publication (by_history m.history) site change m.world m.history)
  act-leaves m (CloseAt site) = step-leaves m (CloseAt site) refl
  act-leaves m (Send site sending) = step-leaves m (Send site sending) refl
  act-leaves m (Deliver number) = step-leaves m (Deliver number) (letter-leaves publication says (by_history m.history) number m.world (letter_at m.world number) m.history)
  act-leaves m (MakeAnew site) = step-leaves m (MakeAnew site) (anew-leave purged_of (λ x pasts. refl) (λ x lost. refl) (by_history m.history) site (subscriber_at m.world site) m.history)
  act-leaves m Forget = refl
  act-leaves m Look = step-leaves m Look refl

  abbrev pub behind_event : Stepping (Faulty Model) → Faulty Model → Event → Faulty Model
  behind_event steps f e = (happens publication steps f e).0

  pub other-same : (f : Faulty Model) (e : Event) → IsOther e → behind_event steps_without f e ≡ behind_event stepping f e
  other-same f (event.Wait seconds) other = refl
  other-same f (event.Insert site article values) other = refl
  other-same f (event.Update site article row values) other = refl
  other-same f (event.Delete site article row) other = refl
  other-same f (event.Close site) other = refl
  other-same f (event.Sync site) other = refl
  other-same f (event.SendJoin site) other = refl
  other-same f (event.SendUpload site) other = refl
  other-same f (event.SendRanges site) other = refl
  other-same f (event.SendDownload site) other = refl
  other-same f (event.Deliver number) other = refl
  other-same f (event.Reinit site) other = refl
  other-same f event.Purge other = absurd other
  other-same f (event.Restart site) other = refl
  other-same f (event.Show site article) other = refl
  other-same f (event.Partition site) other = refl
  other-same f (event.Conflicts site) other = refl
  other-same f (event.Ranges site) other = refl
  other-same f (event.Generations site) other = refl
  other-same f (event.Count site) other = refl

  without-leaves : (f : Faulty Model) (e : Event) → (behind_event steps_without f e).world.history.purged ≡ f.world.history.purged
  without-leaves f e = event-keeps publication steps_without (λ (g : Faulty Model). g.world.history.purged ≡ f.world.history.purged)
      (λ g action same. fails-keep publication (without_purges (model publication says)) (λ (m : Model). m.history.purged ≡ f.world.history.purged) (λ m act kept. act-leaves m act ∙ kept) (λ m tallies kept. kept) g action same) f e refl

  other-leaves : (f : Faulty Model) (e : Event) → IsOther e → (behind_event stepping f e).world.history.purged ≡ f.world.history.purged
  other-leaves f e other = ap (λ (g : Faulty Model). g.world.history.purged) (sym (other-same f e other)) ∙ without-leaves f e

  -- A purge, which may fail: either it leaves all rows and what was purged, or it is made.

  abbrev pub IsMade : Model → Model → Type 0
  IsMade m n = n ≡ (model_step publication says m Forget).0

  abbrev pub IsLeft : Model → Model → Type 0
  IsLeft m n = (n.history.purged ≡ m.history.purged) × (n.world.publisher.rows ≡ m.world.publisher.rows)

  pub slip-either : (allowed : Bool) (slips : Slips) (slip : Slip) (m : Model) → (let n : Model = (slip_if publication (model publication says) allowed slips slip Forget m (model_step publication says m Forget)).0.world in IsMade m n ⊎ IsLeft m n)
  slip-either true slips slip m = inr (refl, refl)
  slip-either false slips slip m = inl refl

  purge-either : (slips : Slips) (m : Model) → (let n : Model = (behind_event stepping (faulty m slips) event.Purge).world in IsMade m n ⊎ IsLeft m n)
  purge-either [] m = inl refl
  purge-either (None ∷ slips) m = inl refl
  purge-either (Some slip ∷ slips) m = slip-either (is_allowed publication m.world Forget slip (model_step publication says m Forget).1) slips slip m

  abbrev pub old_in : Model → Key × PublisherRow → Bool
  old_in m = is_old_tombstone publication (going_over m)

  pub made-purged : (m : Model) (key : Key) → has_key (model_step publication says m Forget).0.history.purged key ≡ (has_key (keys_old (old_in m) m.world.publisher.rows) key || has_key m.history.purged key)
  made-purged m key =
      let p : PublisherTables = at_moment m.world.moment m.world.publisher in
      let keys : List Key = Noting.old_tombstones publication p in
      let lines : List Line = map (Noting.gone_line (last_closed p + 1)) (flat_map (Noting.old_left publication ((by_history m.history).publisher 0) p) (map Noting.site_of_subscription (by_site publication))) in
      ap (λ (purged : List Key). has_key purged key) (lines-leave lines (fold Noting.with_purged m.history keys)) ∙ purged-has keys m.history key

  -- Behind one event.

  sorted-behind : (f : Faulty Model) (e : Event) → AreSorted f.world.world.publisher → AreSorted (behind_event stepping f e).world.world.publisher
  sorted-behind f e sorted = runs-keep publication (model publication says) (λ (m : Model). AreSorted m.world.publisher) (λ m action s. step-sorted publication says (by_history m.history) m.world action s) (λ m others s. s) (e ∷ []) f sorted

  abbrev Purged : Faulty Model → List Event → Key → Type 0
  Purged f events key = WasPurged publication says f events key

  later-purged : (f : Faulty Model) (e : Event) (events : List Event) (key : Key) → Purged (behind_event stepping f e) events key → Purged f (e ∷ events) key
  later-purged f e events key p = record {
    before = e ∷ p.before;
    later = p.later;
    parts = ap (λ (rest : List Event). e ∷ rest) p.parts;
    row = p.row;
    held = p.held;
    old = p.old;
    gone = p.gone;
  }

  first-purged : (f : Faulty Model) (events : List Event) (key : Key) → IsMade f.world (behind_event stepping f event.Purge).world → Dropped (old_in f.world) f.world.world.publisher.rows key → Purged f (event.Purge ∷ events) key
  first-purged f events key made d = record {
    before = [];
    later = events;
    parts = refl;
    row = d.row;
    held = d.held;
    old = d.is_old;
    gone = ap (λ (m : Model). row_at m.world.publisher.rows key) made ∙ d.gone;
  }

  purge-took : (f : Faulty Model) (events : List Event) (key : Key) → AreSorted f.world.world.publisher → (let n : Model = (behind_event stepping f event.Purge).world in IsMade f.world n ⊎ IsLeft f.world n)
      → has_key (behind_event stepping f event.Purge).world.history.purged key ≡ true → (has_key f.world.history.purged key ≡ true) ⊎ Purged f (event.Purge ∷ events) key
  purge-took f events key sorted (inr left) is = inl (ap (λ (purged : List Key). has_key purged key) (sym left.0) ∙ is)
  purge-took f events key sorted (inl made) is =
      let now : (has_key (keys_old (old_in f.world) f.world.world.publisher.rows) key || has_key f.world.history.purged key) ≡ true = sym (made-purged f.world key) ∙ ap (λ (m : Model). has_key m.history.purged key) (sym made) ∙ is in
      elim (has_key (keys_old (old_in f.world) f.world.world.publisher.rows) key) as (λ (b : Bool). has_key (keys_old (old_in f.world) f.world.world.publisher.rows) key ≡ b → (has_key f.world.history.purged key ≡ true) ⊎ Purged f (event.Purge ∷ events) key) [
        | true ↦ (λ e. inr (first-purged f events key made (was-dropped (old_in f.world) f.world.world.publisher.rows key sorted.rows_ascend e)))
        | false ↦ (λ e. inl (grind (arith, now, e)))
      ] refl

  event-took : (f : Faulty Model) (e : Event) (events : List Event) (key : Key) → AreSorted f.world.world.publisher → has_key (behind_event stepping f e).world.history.purged key ≡ true → (has_key f.world.history.purged key ≡ true) ⊎ Purged f (e ∷ events) key
  event-took f event.Purge events key sorted is = purge-took f events key sorted (purge-either f.slips f.world) is
  event-took f e events key sorted is = inl (ap (λ (purged : List Key). has_key purged key) (sym (other-leaves f e tt)) ∙ is)

  -- Behind a list of events: what is purged was so before, or one of them took it.

  or-later : (f : Faulty Model) (e : Event) (events : List Event) (key : Key) → AreSorted f.world.world.publisher → (has_key (behind_event stepping f e).world.history.purged key ≡ true) ⊎ Purged (behind_event stepping f e) events key → (has_key f.world.history.purged key ≡ true) ⊎ Purged f (e ∷ events) key
  or-later f e events key sorted (inl is) = event-took f e events key sorted is
  or-later f e events key sorted (inr p) = inr (later-purged f e events key p)

  pub purged-by : (events : List Event) (f : Faulty Model) (key : Key) → AreSorted f.world.world.publisher → has_key (model_behind_events publication says f events).world.history.purged key ≡ true → (has_key f.world.history.purged key ≡ true) ⊎ Purged f events key
  purged-by [] f key sorted is = inl is
  purged-by (e ∷ events) f key sorted is = or-later f e events key sorted (purged-by events (behind_event stepping f e) key (sorted-behind f e sorted) is)

  -- And what a purge took is purged from then on.

  pub step-has : (key : Key) (m : Model) (action : Action) → has_key m.history.purged key ≡ true → has_key (model_step publication says m action).0.history.purged key ≡ true
  step-has key m Forget is = (let now = made-purged m key in grind (arith, now, is))
  step-has key m action is = ap (λ (purged : List Key). has_key purged key) (act-leaves m action) ∙ is

  behind-parts : (before later : List Event) (f : Faulty Model) → model_behind_events publication says f (before ++ event.Purge ∷ later) ≡ model_behind_events publication says (behind_event stepping (model_behind_events publication says f before) event.Purge) later
  behind-parts [] later f = refl
  behind-parts (e ∷ before) later f = behind-parts before later (behind_event stepping f e)

  pub purge-has : (m n : Model) (key : Key) (row : PublisherRow) → AreSorted m.world.publisher → row_at m.world.publisher.rows key ≡ Some row → old_in m (key, row) ≡ true → row_at n.world.publisher.rows key ≡ None → IsMade m n ⊎ IsLeft m n
      → has_key n.history.purged key ≡ true
  purge-has m n key row sorted held old gone (inr left) = absurd (let still : row_at n.world.publisher.rows key ≡ Some row = ap (λ (rows : List (Key × PublisherRow)). row_at rows key) left.1 ∙ held in cc (still, gone))
  purge-has m n key row sorted held old gone (inl made) =
      let among = is-among (old_in m) m.world.publisher.rows key sorted.rows_ascend row held old in
      let now = made-purged m key in
      ap (λ (k : Model). has_key k.history.purged key) made ∙ grind (arith, now, among)

  pub purged-stays : (events : List Event) (f : Faulty Model) (key : Key) → AreSorted f.world.world.publisher → Purged f events key → has_key (model_behind_events publication says f events).world.history.purged key ≡ true
  purged-stays events f key sorted p =
      let g : Faulty Model = model_behind_events publication says f p.before in
      let n : Faulty Model = behind_event stepping g event.Purge in
      let before : AreSorted g.world.world.publisher = runs-keep publication (model publication says) (λ (m : Model). AreSorted m.world.publisher) (λ m action s. step-sorted publication says (by_history m.history) m.world action s) (λ m others s. s) p.before f sorted in
      let here : has_key n.world.history.purged key ≡ true = purge-has g.world n.world key p.row before p.held p.old p.gone (purge-either g.slips g.world) in
      let later : has_key (model_behind_events publication says n p.later).world.history.purged key ≡ true = runs-keep publication (model publication says) (λ (m : Model). has_key m.history.purged key ≡ true) (λ m action is. step-has key m action is) (λ m others is. is) p.later n here in
      ap (λ (k : Faulty Model). has_key k.world.history.purged key) (ap (λ (es : List Event). model_behind_events publication says f es) p.parts ∙ behind-parts p.before p.later f) ∙ later
