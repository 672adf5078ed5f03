-- The lines that a step of the model adds: each that says that a row left, the step saw.
use Rattle.std.specs.List.{AllByRecursion, fold}
use Rattle.std.specs.Prelude.{Bool, Err, List, None, Ok, Option, Result, Some, [], false, flat_map, if◌then◌else◌, map, max, refl, true, ◌&&◌, ◌++◌, ◌+◌, ◌==◌, ◌||◌, ◌≡◌, ◌⊎◌, ◌∷◌, ℕ}
use Rattle.std.proofs.Common.{ap, arith, inl, inr, subst, sym, ◌∙◌}
use Rattle.merge_types.specs.declared.changes.Change.{Change}
use Rattle.merge_types.specs.declared.changes.Change.TheVariants.{Delete, Insert, Update}
use Rattle.merge_types.specs.declared.identifiers.Moment.{Moment}
use Rattle.merge_types.specs.declared.identifiers.RowId.{RowId}
use Rattle.merge_types.specs.declared.identifiers.SiteId.{SiteId}
use Rattle.merge_types.specs.declared.row_key.RowKey.{RowKey as Key}
use Rattle.merge_types.specs.declared.values.Value.{Value}
use Rattle.merge_units.specs.declared.result.Decision.{Decision}
use Rattle.merge_gens.specs.declared.moves.MoveKind.{MoveKind}
use Rattle.merge_gens.specs.declared.moves.MoveKind.TheVariants.{Entered, Left}
use Rattle.merge_gens.specs.declared.moves.RowSite.{RowSite}
use Rattle.merge_ident.specs.Holders.{Holder}
use Rattle.merge_schema.specs.Valid.{IsValid}
use Rattle.merge_schema.specs.declared.publication.Publication.{Publication}
use Rattle.merge_batch.specs.declared.refusal.Refusal.{Refusal}
use Rattle.merge_batch.specs.declared.reply.Uploaded.{Uploaded}
use Rattle.merge_batch.specs.declared.request.Join.{Join}
use Rattle.merge_batch.specs.declared.request.Request.{Request}
use Rattle.merge_batch.specs.declared.request.Request.TheVariants as request
use Rattle.merge_batch.specs.declared.request.Upload.{Upload}
use Rattle.merge_model.specs.Failing.{Slip, Slips, acting_with, fails, faulty, is_allowed, slip_if}
use Rattle.merge_model.specs.History.{Changed, EnteredFor, GoneFor, History, LeftFor, Line, pasts_with}
use Rattle.merge_model.specs.History.Model.{Model, did_something, model, model_step, noted_action, noted_anew_at, noted_if, noted_letter, noted_request, with_letter, with_posted}
use Rattle.merge_model.specs.History.Noting
use Rattle.merge_model.specs.History.Noting.{changed_line, gone_line, lines_of_entries, moved_line}
use Rattle.merge_model.specs.Judge.ByHistory.{by_history, by_past}
use Rattle.merge_model.specs.Judge.{PublisherJudge}
use Rattle.merge_model.specs.Publisher.Acts.{Act, acting_items, acts_of, key_of_item}
use Rattle.merge_model.specs.Publisher.Entries.{Changing, Entries, changed_by, changing_entries}
use Rattle.merge_model.specs.Publisher.PublisherJoin.{join_acts}
use Rattle.merge_model.specs.Publisher.PublisherLocal.{Drawn, changing_locally, draw_for_change, local_refusal, made_locally, next_dot, with_draw}
use Rattle.merge_model.specs.Publisher.PublisherUpload.{brings_news, changing_by, tables_after_upload, taken_in, upload_refusal, with_acts}
use Rattle.merge_model.specs.Publisher.{at_moment, last_closed}
use Rattle.merge_model.specs.Subscriber.{subscriber_drawn, subscriber_last_closed, subscriber_next_dot}
use Rattle.merge_model.specs.Tables.Keys.{at_number, has_key, put_number}
use Rattle.merge_model.specs.Tables.Publications.{by_site}
use Rattle.merge_model.specs.Tables.Refusals.{unless}
use Rattle.merge_model.specs.Tables.{PublisherTables, SubscriberTables}
use Rattle.merge_model.specs.World.Steps.{Action, CloseAt, Deliver, Forget, Look, Make, MakeAnew, Pass, Send, after_upload, at_subscriber, deliver_letter, deliver_reply, deliver_request, kept_decisions, make_at, make_at_publisher, make_at_subscriber, step_by, unless_refused, upload_questions}
use Rattle.merge_model.specs.World.{Judges, Saying, World, letter_at, subscriber_at, with_publisher}
use Rattle.merge_model.specs.declared.letter.Letter.{Letter}
use Rattle.merge_model.specs.declared.letter.Message.{Message}
use Rattle.merge_model.specs.declared.letter.Message.TheVariants.{Asks, Replies}
use Rattle.merge_model.specs.declared.outcome.Outcome.{Outcome}
use Rattle.merge_model.specs.declared.outcome.Outcome.TheVariants.{Made, NoLetter, Posted, Refuses}
use Rattle.merge_model.proofs.Lists.{all-append, all-map}
use Rattle.merge_model.proofs.Lists.Finding.{pool-at}
use Rattle.merge_model.proofs.Lists.Tests.{numbers-same}
use Rattle.merge_laws.specs.Facts.Received.{LetterFits, Received}
use Rattle.merge_laws.specs.Laws.ActsOnce.{IsUpload}
use Rattle.merge_laws.specs.Laws.Effects.{history_judge}
use Rattle.merge_laws.specs.Laws.Leavings.{LeavesHere}
use Rattle.merge_laws.proofs.LastLines.LastLineAdded.{added, lines-with}
use Rattle.merge_laws.proofs.LastLines.LastLineNotes.{acts-lines, anew-lines, purged-lines, taken-lines}
use Rattle.merge_laws.proofs.LastLines.LeavingsSeen.{leavings-seen}
use Rattle.merge_laws.proofs.Received.MessageFacts.{upload-site}
use Rattle.merge_laws.proofs.Touched.TouchUploads.{acts-keys}
use Rattle.merge_laws.proofs.Walking.{from-later as draw-later, here, join_noted, own_noted}
use Rattle.merge_owed.specs.Mappings.{is_inside}
use Rattle.merge_promises.specs.Leavings.{ItsUploadActs, SawLeave}

-- a line that says that a row left was written where the step saw it
abbrev pub SeenLine : Publication → Model → Action → PublisherTables → Line → Type 0
SeenLine publication m action after line = (site : ℕ) → line.kind ≡ LeftFor site → SawLeave publication m action after (record { key = line.key; site = site })

-- lines are added above others
pub record Adds (before : List Line) (Seen : Line → Type 0) (lines : List Line) : Type 0 where
  pub more : List Line
  pub are : lines ≡ fold added before more
  pub seen : AllByRecursion Seen more

adds-none : (before : List Line) (Seen : Line → Type 0) (lines : List Line) → lines ≡ before → Adds before Seen lines
adds-none before Seen lines same = record { more = []; are = same; seen = tt }

-- Kinds of lines.

left-same : (a b : ℕ) → LeftFor a ≡ LeftFor b → a ≡ b
left-same a b is = cc

changed-not : (site : ℕ) → Changed ≡ LeftFor site → ⊥
changed-not site is = cc

entered-not : (other site : ℕ) → EnteredFor other ≡ LeftFor site → ⊥
entered-not other site is = cc

gone-not : (other site : ℕ) → GoneFor other ≡ LeftFor site → ⊥
gone-not other site is = cc

-- a row that is told to leave, and on which no item acted, was inside
or-none : (was own : Bool) → (was || (own && false)) ≡ true → was ≡ true
or-none true own is = refl
or-none false true is = absurd cc
or-none false false is = absurd cc

-- A message that is posted is no line.

posted-found : (found : Option Letter) (h : History) → (let k : History = elim found [ None ↦ h | Some letter ↦ with_letter letter h ] in k.lines ≡ h.lines)
posted-found None h = refl
posted-found (Some letter) h = refl

posted-lines : (w : World) (outcome : Outcome) (h : History) → (with_posted w outcome h).lines ≡ h.lines
posted-lines w (Posted number) h = posted-found (letter_at w number) h
posted-lines w outcome h = grind (arith)

module _ (resolvers : ℕ) (publication : Publication) (valid : IsValid resolvers publication) (says : Saying) (m : Model) (r : Received m.world m.history) where
  abbrev w : World
  w = m.world

  abbrev judges : Judges
  judges = by_history m.history

  abbrev AddsHere : Action → PublisherTables → List Line → Type 0
  AddsHere action after lines = Adds m.history.lines (SeenLine publication m action after) lines

  none-here : (action : Action) (after : PublisherTables) (lines : List Line) → lines ≡ m.history.lines → AddsHere action after lines
  none-here action after lines same = adds-none m.history.lines (SeenLine publication m action after) lines same

  -- after a step, with what it notes where it did something
  abbrev After : Action → World × Outcome → History → Type 0
  After action done new = AddsHere action done.0.publisher (with_posted done.0 done.1 (noted_if (did_something done.1) new m.history)).lines

  noted-adds : (action : Action) (did : Bool) (after : PublisherTables) (new : History) → AddsHere action after new.lines → AddsHere action after (noted_if did new m.history).lines
  noted-adds action true after new adds = adds
  noted-adds action false after new adds = none-here action after m.history.lines refl

  after-adds : (action : Action) (done : World × Outcome) (new : History) → AddsHere action done.0.publisher new.lines → After action done new
  after-adds action done new adds =
      subst (λ (lines : List Line). AddsHere action done.0.publisher lines) (sym (posted-lines done.0 done.1 (noted_if (did_something done.1) new m.history)))
      (noted-adds action (did_something done.1) done.0.publisher new adds)

  -- a step that notes no line adds none, nor does one that is refused
  quiet : (action : Action) (done : World × Outcome) (new : History) → new.lines ≡ m.history.lines → After action done new
  quiet action done new same = after-adds action done new (none-here action done.0.publisher new.lines same)

  refused : (action : Action) (why : Refusal) (new : History) → After action (w, Refuses why) new
  refused action why new = none-here action m.world.publisher m.history.lines refl

  if-adds : (action : Action) (b : Bool) (x y : World × Outcome) (first second : History) → After action x first → After action y second → After action (if b then x else y) (if b then first else second)
  if-adds action true x y first second one other = one
  if-adds action false x y first second one other = other

  -- Lines that say that a leaving is no longer told.

  gone-seen : (action : Action) (after : PublisherTables) (generation : ℕ) (places : List RowSite) → AllByRecursion (SeenLine publication m action after) (map (gone_line generation) places)
  gone-seen action after generation [] = tt
  gone-seen action after generation (place ∷ places) = ((λ site is. absurd (gone-not place.site site is)), gone-seen action after generation places)

  gone-adds : (action : Action) (after : PublisherTables) (generation : ℕ) (places : List RowSite) (k : History) → k.lines ≡ m.history.lines → AddsHere action after (Noting.with_lines (map (gone_line generation) places) k).lines
  gone-adds action after generation places k same = record {
    more = map (gone_line generation) places;
    are = lines-with (map (gone_line generation) places) k ∙ ap (λ (ls : List Line). fold added ls (map (gone_line generation) places)) same;
    seen = gone-seen action after generation places;
  }

  -- The lines of a step's entries.

  changed-seen : (action : Action) (after : PublisherTables) (changes : List (Key × ℕ)) → AllByRecursion (SeenLine publication m action after) (map changed_line changes)
  changed-seen action after [] = tt
  changed-seen action after (change ∷ changes) = ((λ site is. absurd (changed-not site is)), changed-seen action after changes)

  moved-seen : (action : Action) (after : PublisherTables) (place : RowSite) (kind : MoveKind) (generation : ℕ) → (kind ≡ Left → SawLeave publication m action after place) → SeenLine publication m action after (moved_line ((place, kind), generation))
  moved-seen action after place Entered generation saw = λ site is. absurd (entered-not place.site site is)
  moved-seen action after place Left generation saw = λ site is. subst (λ (n : ℕ). SawLeave publication m action after (record { key = place.key; site = n })) (left-same place.site site is) (saw refl)

  entries-seen : (action : Action) (judge : PublisherJudge) (changing : Changing) (before : PublisherTables) (generation : ℕ)
      → (let after : PublisherTables = changed_by publication judge changing before in
      ((place : RowSite) → LeavesHere publication changing before after place → SawLeave publication m action after place)
      → AllByRecursion (SeenLine publication m action after) (lines_of_entries generation (changing_entries publication judge changing before)))
  entries-seen action judge changing before generation saw =
      let after : PublisherTables = changed_by publication judge changing before in
      let entries : Entries = changing_entries publication judge changing before in
      all-append (SeenLine publication m action after) (map changed_line entries.changed ++ map moved_line entries.moved) (map (gone_line generation) entries.gone)
      (all-append (SeenLine publication m action after) (map changed_line entries.changed) (map moved_line entries.moved) (changed-seen action after entries.changed)
      (all-map (λ (entry : (RowSite × MoveKind) × ℕ). entry.0.1 ≡ Left → LeavesHere publication changing before after entry.0.0) (SeenLine publication m action after) moved_line
      (λ entry leaves. moved-seen action after entry.0.0 entry.0.1 entry.1 (λ is. saw entry.0.0 (leaves is))) entries.moved (leavings-seen resolvers publication valid judge changing before)))
      (gone-seen action after generation entries.gone)

  -- Local changes.

  own-saw : (action : Action) (change : Change) (d : Drawn) (after : PublisherTables) (place : RowSite)
      → LeavesHere publication (changing_locally publication change d.value (here w)) (with_draw d (here w)) after place → SawLeave publication m action after place
  own-saw action change d after place leaves = record {
    outside = leaves.outside;
    seen = inl (or-none (is_inside publication m.world.publisher place) (place.site == 0) leaves.seen);
  }

  own-adds : (action : Action) (change : Change) (d : Drawn)
      → (let judge : PublisherJudge = by_past m.history (pasts_with m.history 0) in AddsHere action (made_locally publication judge change d (here w)).0 (own_noted publication judge change d (here w) m.history).lines)
  own-adds action change d =
      let judge : PublisherJudge = by_past m.history (pasts_with m.history 0) in
      let after : PublisherTables = (made_locally publication judge change d (here w)).0 in
      let more : List Line = lines_of_entries (last_closed (here w) + 1) (Noting.drawn_entries publication judge change (here w) d) in
      let k : History = Noting.with_change publication (next_dot (here w)) (last_closed (here w) + 1) change d.value m.history in
      record {
        more = more;
        are = lines-with more k;
        seen = entries-seen action judge (changing_locally publication change d.value (here w)) (with_draw d (here w)) (last_closed (here w) + 1) (λ place leaves. own-saw action change d after place leaves);
      }

  own-drawn : (action : Action) (change : Change) (draw : Result Drawn Refusal)
      → (let judge : PublisherJudge = by_past m.history (pasts_with m.history 0) in
      let done : Result (PublisherTables × RowId) Refusal = elim draw [ Err refusal ↦ Err refusal | Ok d ↦ Ok (made_locally publication judge change d (here w)) ] in
      let new : History = elim draw [ Err refusal ↦ m.history | Ok d ↦ own_noted publication judge change d (here w) m.history ] in
      After action (unless_refused w done (λ (made : PublisherTables × RowId). (with_publisher made.0 w, Made made.1))) new)
  own-drawn action change (Err why) = refused action why m.history
  own-drawn action change (Ok d) =
      let judge : PublisherJudge = by_past m.history (pasts_with m.history 0) in
      let made : PublisherTables × RowId = made_locally publication judge change d (here w) in
      after-adds action (with_publisher made.0 w, Made made.1) (own_noted publication judge change d (here w) m.history) (own-adds action change d)

  own-refused : (action : Action) (change : Change) (refusal : Option Refusal)
      → (let judge : PublisherJudge = by_past m.history (pasts_with m.history 0) in
      let done : Result (PublisherTables × RowId) Refusal = elim refusal [
        | Some why ↦ Err why
        | None ↦ elim (draw_for_change publication w.publisher change) [ Err why ↦ Err why | Ok d ↦ Ok (made_locally publication judge change d (here w)) ]
      ] in
      let new : History = elim (draw_for_change publication w.publisher change) [ Err why ↦ m.history | Ok d ↦ own_noted publication judge change d (here w) m.history ] in
      After action (unless_refused w done (λ (made : PublisherTables × RowId). (with_publisher made.0 w, Made made.1))) new)
  own-refused action change (Some why) =
      let judge : PublisherJudge = by_past m.history (pasts_with m.history 0) in
      refused action why (let new : History = elim (draw_for_change publication w.publisher change) [ Err reason ↦ m.history | Ok d ↦ own_noted publication judge change d (here w) m.history ] in new)
  own-refused action change None = own-drawn action change (draw_for_change publication w.publisher change)

  own-after : (action : Action) (change : Change) → After action (make_at_publisher publication judges change w) (Noting.noted_at_publisher publication (by_past m.history (pasts_with m.history 0)) change (here w) m.history)
  own-after action change =
      let judge : PublisherJudge = by_past m.history (pasts_with m.history 0) in
      subst (λ (draw : Result Drawn Refusal). (let new : History = elim draw [ Err why ↦ m.history | Ok d ↦ own_noted publication judge change d (here w) m.history ] in After action (make_at_publisher publication judges change w) new))
      (sym (draw-later publication w.moment w.publisher change)) (own-refused action change (local_refusal publication change w.publisher))

  sub-lines : (change : Change) (s : SubscriberTables) (draw : Result (Value × List (ℕ × Holder)) Refusal)
      → (let k : History = elim draw [
        | Err refusal ↦ m.history
        | Ok d ↦ Noting.with_change publication (subscriber_next_dot s) (subscriber_last_closed s + 1) change d.0 m.history
      ] in k.lines ≡ m.history.lines)
  sub-lines change s (Err refusal) = refl
  sub-lines change s (Ok d) = refl

  found-lines : (change : Change) (found : Option SubscriberTables) → (let k : History = elim found [ None ↦ m.history | Some s ↦ Noting.noted_at_subscriber publication change s m.history ] in k.lines ≡ m.history.lines)
  found-lines change None = refl
  found-lines change (Some s) = sub-lines change s (subscriber_drawn s change)

  make-adds : (site : SiteId) (change : Change) → After (Make site change) (make_at publication judges site change w) (noted_action publication says judges w (Make site change) m.history)
  make-adds site change =
      let action : Action = Make site change in
      let found : History = elim (subscriber_at w site) [ None ↦ m.history | Some s ↦ Noting.noted_at_subscriber publication change s m.history ] in
      if-adds action (site.0 == 0) (make_at_publisher publication judges change w) (at_subscriber site w (make_at_subscriber publication change w))
      (Noting.noted_at_publisher publication (by_past m.history (pasts_with m.history 0)) change (here w) m.history) found
      (own-after action change) (quiet action (at_subscriber site w (make_at_subscriber publication change w)) found (found-lines change (subscriber_at w site)))

  -- Messages that come to the publisher.

  join-adds : (number : ℕ) (after : PublisherTables) (j : Join) (b : Bool)
      → (let new : History = if b then join_noted (history_judge m number) j w.publisher m.history else m.history in AddsHere (Deliver number) after new.lines)
  join-adds number after j true =
      let places : List RowSite = map (Noting.gone_for j.site) (Noting.left_rows (history_judge m number) j.site) in
      let k : History = record (Noting.with_done j.site.0 0 j.generation m.history) { bases = put_number m.history.bases j.site.0 (last_closed w.publisher) } in
      gone-adds (Deliver number) after (last_closed w.publisher + 1) places k refl
  join-adds number after j false = none-here (Deliver number) after m.history.lines refl

  -- the site that an upload names sent it
  sent-by : (number : ℕ) (from : SiteId) (u : Upload) → IsUpload m number from u → u.site ≡ from
  sent-by number from u at = upload-site u from (at_number w.subscribers from.0) (pool-at (LetterFits w.subscribers w.publisher) w number (record { site = from; message = Asks (request.Upload u) }) at r.letters)

  -- a row on which an item of the upload acts, or that was inside
  upload-seen : (number : ℕ) (u : Upload) → IsUpload m number u.site u → brings_news (history_judge m number) u ≡ true → (place : RowSite) (was own acted : Bool)
      → is_inside publication m.world.publisher place ≡ was → (place.site == u.site.0) ≡ own
      → (acted ≡ true → has_key (map key_of_item (acting_items (history_judge m number) u)) place.key ≡ true) → (was || (own && acted)) ≡ true
      → (is_inside publication m.world.publisher place ≡ true) ⊎ ItsUploadActs m (Deliver number) place
  upload-seen number u sent news place true own acted inside there acts seen = inl inside
  upload-seen number u sent news place false true true inside there acts seen = inr (record {
    number = number;
    upload = u;
    delivered = refl;
    sent = sent;
    own = sym (numbers-same place.site u.site.0 there);
    news = news;
    acts = acts refl;
  })
  upload-seen number u sent news place false true false inside there acts seen = absurd cc
  upload-seen number u sent news place false false acted inside there acts seen = absurd cc

  upload-saw : (number : ℕ) (u : Upload) (decisions : List Decision) (after : PublisherTables) → IsUpload m number u.site u → brings_news (history_judge m number) u ≡ true → (place : RowSite)
      → (let acts : List Act = acts_of (history_judge m number) u decisions (here w) in LeavesHere publication (changing_by u acts) (with_acts publication u acts (here w)) after place → SawLeave publication m (Deliver number) after place)
  upload-saw number u decisions after sent news place leaves =
      let judge : PublisherJudge = history_judge m number in
      let acts : List Act = acts_of judge u decisions (here w) in
      record {
        outside = leaves.outside;
        seen = upload-seen number u sent news place (is_inside publication m.world.publisher place) (place.site == u.site.0) (has_key (map (λ (act : Act). act.key) acts) place.key) refl refl
            (λ is. ap (λ (keys : List Key). has_key keys place.key) (sym (acts-keys judge u.site (here w) ((here w).changes + 1) decisions (acting_items judge u))) ∙ is) leaves.seen;
      }

  upload-adds : (number : ℕ) (u : Upload) (decisions : List Decision) → IsUpload m number u.site u → brings_news (history_judge m number) u ≡ true
      → (let judge : PublisherJudge = history_judge m number in
      let acts : List Act = acts_of judge u decisions (here w) in
      AddsHere (Deliver number) (taken_in publication judge u acts (here w)) (Noting.with_acts_noted publication judge u acts (pasts_with m.history number) (here w) m.history).lines)
  upload-adds number u decisions sent news =
      let judge : PublisherJudge = history_judge m number in
      let acts : List Act = acts_of judge u decisions (here w) in
      let after : PublisherTables = taken_in publication judge u acts (here w) in
      let entries : Entries = Noting.acts_entries publication judge u acts (here w) in
      let more : List Line = lines_of_entries (last_closed (here w) + 1) entries in
      let acted : History = fold (Noting.with_act (pasts_with m.history number) entries) m.history acts in
      record {
        more = more;
        are = lines-with more acted ∙ ap (λ (ls : List Line). fold added ls more) (acts-lines (pasts_with m.history number) entries acts m.history);
        seen = entries-seen (Deliver number) judge (changing_by u acts) (with_acts publication u acts (here w)) (last_closed (here w) + 1) (λ place leaves. upload-saw number u decisions after sent news place leaves);
      }

  news-adds : (number : ℕ) (u : Upload) (decisions : List Decision) (b : Bool) → IsUpload m number u.site u → brings_news (history_judge m number) u ≡ b
      → (let judge : PublisherJudge = history_judge m number in
      let acts : List Act = acts_of judge u decisions (here w) in
      let q : PublisherTables = if b then taken_in publication judge u acts (here w) else here w in
      let new : History = if b then Noting.with_acts_noted publication judge u acts (pasts_with m.history number) (here w) m.history else m.history in
      AddsHere (Deliver number) q new.lines)
  news-adds number u decisions true sent news = upload-adds number u decisions sent news
  news-adds number u decisions false sent news = none-here (Deliver number) (here w) m.history.lines refl

  upload-after : (number : ℕ) (from : SiteId) (u : Upload) (decisions : List Decision) (refusal : Option Refusal) → IsUpload m number u.site u
      → (let judge : PublisherJudge = history_judge m number in
      let made : PublisherTables × Uploaded = (tables_after_upload publication judge u decisions (here w), record { seq = u.seq; received = max u.to (judge.received u.site.0) }) in
      After (Deliver number) (after_upload publication says judge from u w (unless refusal made)) (Noting.noted_upload publication judge u decisions (pasts_with m.history number) (here w) m.history))
  upload-after number from u decisions (Some why) sent = refused (Deliver number) why (Noting.noted_upload publication (history_judge m number) u decisions (pasts_with m.history number) (here w) m.history)
  upload-after number from u decisions None sent =
      let judge : PublisherJudge = history_judge m number in
      let made : PublisherTables × Uploaded = (tables_after_upload publication judge u decisions (here w), record { seq = u.seq; received = max u.to (judge.received u.site.0) }) in
      after-adds (Deliver number) (after_upload publication says judge from u w (Ok made)) (Noting.noted_upload publication judge u decisions (pasts_with m.history number) (here w) m.history)
      (news-adds number u decisions (brings_news judge u) sent refl)

  request-adds : (number : ℕ) (from : SiteId) (ask : Request) → letter_at w number ≡ Some (record { site = from; message = Asks ask })
      → After (Deliver number) (deliver_request publication says (history_judge m number) from ask w) (noted_request publication says (history_judge m number) (pasts_with m.history number) w ask m.history)
  request-adds number from (request.Join j) at =
      let done : World × Outcome = deliver_request publication says (history_judge m number) from (request.Join j) w in
      after-adds (Deliver number) done (Noting.noted_join (history_judge m number) j w.publisher m.history) (join-adds number done.0.publisher j (join_acts j w.publisher))
  request-adds number from (request.Upload u) at =
      let judge : PublisherJudge = history_judge m number in
      upload-after number from u (kept_decisions says w.tallies (upload_questions publication judge w.moment u w.publisher)) (upload_refusal publication judge w.moment u w.publisher)
      (subst (λ (x : SiteId). IsUpload m number x u) (sym (sent-by number from u at)) at)
  request-adds number from (request.Ranges a) at = quiet (Deliver number) (deliver_request publication says (history_judge m number) from (request.Ranges a) w) m.history refl
  request-adds number from (request.Download a) at = quiet (Deliver number) (deliver_request publication says (history_judge m number) from (request.Download a) w) m.history refl

  message-adds : (number : ℕ) (from : SiteId) (message : Message)
      → (let letter : Letter = record { site = from; message = message } in letter_at w number ≡ Some letter → After (Deliver number) (deliver_letter publication says judges number w letter) (noted_letter publication says judges number w letter m.history))
  message-adds number from (Asks ask) at = request-adds number from ask at
  message-adds number from (Replies answer) at =
      let new : History = elim (subscriber_at w from) [ None ↦ m.history | Some s ↦ Noting.noted_reply (judges.subscriber from s) from (pasts_with m.history number) answer m.history ] in
      quiet (Deliver number) (at_subscriber from w (deliver_reply publication judges answer w)) new (taken-lines judges from (pasts_with m.history number) answer (subscriber_at w from) m.history)

  letter-adds : (number : ℕ) (found : Option Letter) → letter_at w number ≡ found
      → (let done : World × Outcome = elim found [ None ↦ (w, NoLetter) | Some letter ↦ deliver_letter publication says judges number w letter ] in
      let new : History = elim found [ None ↦ m.history | Some letter ↦ noted_letter publication says judges number w letter m.history ] in After (Deliver number) done new)
  letter-adds number None at = quiet (Deliver number) (w, NoLetter) m.history refl
  letter-adds number (Some letter) at = message-adds number letter.site letter.message at

  -- A purge.

  forget-adds : After Forget (step_by publication says judges w Forget) (noted_action publication says judges w Forget m.history)
  forget-adds =
      let done : World × Outcome = step_by publication says judges w Forget in
      let places : List RowSite = flat_map (Noting.old_left publication (history_judge m 0) (here w)) (map Noting.site_of_subscription (by_site publication)) in
      let k : History = fold Noting.with_purged m.history (Noting.old_tombstones publication (here w)) in
      after-adds Forget done (Noting.noted_purge publication (history_judge m 0) (here w) m.history)
      (gone-adds Forget done.0.publisher (last_closed (here w) + 1) places k (purged-lines (Noting.old_tombstones publication (here w)) m.history))

  -- Every step.

  abbrev StepAdds : Action → Type 0
  StepAdds action = After action (step_by publication says judges w action) (noted_action publication says judges w action m.history)

  step-adds : (action : Action) → StepAdds action
  step-adds (Pass seconds) = quiet (Pass seconds) (step_by publication says judges w (Pass seconds)) m.history refl
  step-adds (Make site change) = make-adds site change
  step-adds (CloseAt site) = quiet (CloseAt site) (step_by publication says judges w (CloseAt site)) m.history refl
  step-adds (Send site sending) = quiet (Send site sending) (step_by publication says judges w (Send site sending)) m.history refl
  step-adds (Deliver number) = letter-adds number (letter_at w number) refl
  step-adds (MakeAnew site) = quiet (MakeAnew site) (step_by publication says judges w (MakeAnew site)) (noted_anew_at judges site w m.history) (anew-lines judges site (subscriber_at w site) m.history)
  step-adds Forget = forget-adds
  step-adds Look = quiet Look (step_by publication says judges w Look) m.history refl

  -- And one that may fail.

  slip-adds : (allowed : Bool) (slips : Slips) (slip : Slip) (action : Action)
      → (let n : Model = (slip_if publication (model publication says) allowed slips slip action m (model_step publication says m action)).0.world in AddsHere action n.world.publisher n.history.lines)
  slip-adds true slips slip action = none-here action m.world.publisher m.history.lines refl
  slip-adds false slips slip action = step-adds action

  acting-adds : (slips : Slips) (action : Action)
      → (let n : Model = (acting_with publication (model publication says) slips action m (model_step publication says m action)).0.world in AddsHere action n.world.publisher n.history.lines)
  acting-adds [] action = step-adds action
  acting-adds (None ∷ slips) action = step-adds action
  acting-adds (Some slip ∷ slips) action = slip-adds (is_allowed publication m.world action slip (model_step publication says m action).1) slips slip action

  pub fails-add : (slips : Slips) (action : Action)
      → (let n : Model = (fails publication (model publication says) (faulty m slips) action).0.world in Adds m.history.lines (SeenLine publication m action n.world.publisher) n.history.lines)
  fails-add slips (Pass seconds) = step-adds (Pass seconds)
  fails-add slips (Make site change) = acting-adds slips (Make site change)
  fails-add slips (CloseAt site) = acting-adds slips (CloseAt site)
  fails-add slips (Send site sending) = acting-adds slips (Send site sending)
  fails-add slips (Deliver number) = acting-adds slips (Deliver number)
  fails-add slips (MakeAnew site) = acting-adds slips (MakeAnew site)
  fails-add slips Forget = acting-adds slips Forget
  fails-add slips Look = acting-adds slips Look
