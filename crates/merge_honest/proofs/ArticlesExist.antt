-- The article of each row that was made exists, behind every list of events: local changes are of articles that there are.
use Rattle.std.specs.List.{AllByRecursion, fold}
use Rattle.std.specs.Prelude.{Bool, Err, List, None, Ok, Option, Result, Some, false, flat_map, if◌then◌else◌, map, refl, true, ℕ, [], ◌++◌, ◌+◌, ◌==◌, ◌≡◌, ◌∷◌}
use Rattle.std.proofs.Common.{subst, sym, ◌∙◌}
use Rattle.merge_types.specs.declared.changes.Change.{Change}
use Rattle.merge_types.specs.declared.changes.Change.TheVariants.{Delete, Insert, Update}
use Rattle.merge_types.specs.declared.identifiers.Dot.{Dot}
use Rattle.merge_types.specs.declared.identifiers.SiteId.{SiteId}
use Rattle.merge_types.specs.declared.row_key.RowKey.{RowKey as Key}
use Rattle.merge_types.specs.declared.values.Value.{Value}
use Rattle.merge_ident.specs.Holders.{Holder}
use Rattle.merge_schema.specs.Valid.{IsValid}
use Rattle.merge_schema.specs.declared.publication.Publication.{Publication}
use Rattle.merge_batch.specs.Articles.{has_article}
use Rattle.merge_batch.specs.LocalChanges.{article_of, key_of}
use Rattle.merge_batch.specs.declared.refusal.Refusal.{Refusal}
use Rattle.merge_batch.specs.declared.request.Join.{Join}
use Rattle.merge_batch.specs.declared.request.Request.{Request}
use Rattle.merge_batch.specs.declared.request.Request.TheVariants as request
use Rattle.merge_batch.specs.declared.request.Upload.{Upload}
use Rattle.merge_model.specs.Publisher.Acts.{acts_of}
use Rattle.merge_model.specs.Judge.ByHistory.{by_history}
use Rattle.merge_model.specs.Failing.{Slips, faulty}
use Rattle.merge_model.specs.History.{History, Line, MadeChange, Past, past_at, pasts_with}
use Rattle.merge_model.specs.Judge.{PublisherJudge}
use Rattle.merge_model.specs.Tables.Keys.{put_number}
use Rattle.merge_model.specs.History.Model.{Model, did_something, empty_model, model, model_step, noted_action, noted_anew_at, noted_if, noted_letter, noted_make, noted_request, pasts_in, with_posted}
use Rattle.merge_model.specs.History.Noting
use Rattle.merge_model.specs.History.Pasts.{past_after}
use Rattle.merge_model.specs.Tables.Publications.{by_site}
use Rattle.merge_model.specs.Publisher.{at_moment, last_closed}
use Rattle.merge_model.specs.Publisher.PublisherJoin.{join_acts}
use Rattle.merge_model.specs.Publisher.PublisherLocal.{Drawn, draw_for_change, next_dot}
use Rattle.merge_model.specs.Publisher.PublisherUpload.{brings_news}
use Rattle.merge_model.specs.Failing.Runs.{model_behind}
use Rattle.merge_model.specs.World.Steps.{Action, CloseAt, Deliver, Forget, Look, Make, MakeAnew, Pass, Send, kept_decisions, step_by, upload_questions}
use Rattle.merge_model.specs.Subscriber.{subscriber_drawn, subscriber_last_closed, subscriber_next_dot}
use Rattle.merge_model.specs.Tables.{PublisherTables, SubscriberTables}
use Rattle.merge_model.specs.World.{Judges, Saying, World, letter_at, subscriber_at}
use Rattle.merge_model.specs.declared.event.Event.{Event}
use Rattle.merge_model.specs.declared.letter.Letter.{Letter}
use Rattle.merge_model.specs.declared.letter.Message.{Message}
use Rattle.merge_model.specs.declared.letter.Message.TheVariants.{Asks, Replies}
use Rattle.merge_model.specs.declared.outcome.Outcome.{Outcome}
use Rattle.merge_model.specs.declared.outcome.Outcome.TheVariants.{Posted}
use Rattle.merge_laws.proofs.Lineages.LineagesAlways.{Kept, kept-always, kept-step, kept-tallied}
use Rattle.merge_laws.proofs.Walking.NotesLeave.{anew-leave, fold-leave, taker-leave}
use Rattle.merge_honest.proofs.SaidRuns.{IsSaid, runs-said}
use Rattle.merge_honest.proofs.TookValues.{OfMakers, acts-keep-makers, lines-on}

-- A change that made a row made it of an article that there is.
abbrev Exists : Publication → MadeChange → Type 0
Exists publication change = has_article publication change.key.article ≡ true

abbrev pub AllExist : Publication → List MadeChange → Type 0
AllExist publication made = AllByRecursion (OfMakers (Exists publication)) made

change-exists : (publication : Publication) (dot : Dot) (generation : ℕ) (change : Change) (value : Value) (past : Past) → has_article publication (article_of change) ≡ true → OfMakers (Exists publication) (Noting.made_change publication dot generation change value (key_of dot change) past)
change-exists publication dot generation (Insert article values) value past has = λ maker. has
change-exists publication dot generation (Update article row values) value past has = λ maker. has
change-exists publication dot generation (Delete article row) value past has = λ maker. has

module _ (publication : Publication) where
  abbrev Fine : History → Type 0
  Fine h = AllExist publication h.made

  if-fine : (b : Bool) (x y : History) → Fine x → Fine y → Fine (if b then x else y)
  if-fine true x y one other = one
  if-fine false x y one other = other

  same-fine : (h k : History) → k.made ≡ h.made → Fine h → Fine k
  same-fine h k same fine = subst (AllExist publication) (sym same) fine

  -- a local change
  own-fine : (judge : PublisherJudge) (change : Change) (p : PublisherTables) (h : History) (draw : Result Drawn Refusal) → has_article publication (article_of change) ≡ true → Fine h
      → (let k : History = elim draw [
        | Err refusal ↦ h
        | Ok d ↦ Noting.with_lines (Noting.lines_of_entries (last_closed p + 1) (Noting.drawn_entries publication judge change p d)) (Noting.with_change publication (next_dot p) (last_closed p + 1) change d.value h)
      ] in Fine k)
  own-fine judge change p h (Err refusal) has fine = fine
  own-fine judge change p h (Ok d) has fine =
      let k : History = Noting.with_change publication (next_dot p) (last_closed p + 1) change d.value h in
      let lines : List Line = Noting.lines_of_entries (last_closed p + 1) (Noting.drawn_entries publication judge change p d) in
      same-fine k (Noting.with_lines lines k) (lines-on lines k) (change-exists publication (next_dot p) (last_closed p + 1) change d.value (past_after publication (next_dot p) change (past_at h 0 (key_of (next_dot p) change))) has, fine)

  sub-fine : (change : Change) (s : SubscriberTables) (h : History) (draw : Result (Value × List (ℕ × Holder)) Refusal) → has_article publication (article_of change) ≡ true → Fine h
      → (let k : History = elim draw [ Err refusal ↦ h | Ok d ↦ Noting.with_change publication (subscriber_next_dot s) (subscriber_last_closed s + 1) change d.0 h ] in Fine k)
  sub-fine change s h (Err refusal) has fine = fine
  sub-fine change s h (Ok d) has fine = (change-exists publication (subscriber_next_dot s) (subscriber_last_closed s + 1) change d.0 (past_after publication (subscriber_next_dot s) change (past_at h s.site.0 (key_of (subscriber_next_dot s) change))) has, fine)

  there-fine : (change : Change) (found : Option SubscriberTables) (h : History) → has_article publication (article_of change) ≡ true → Fine h → (let k : History = elim found [ None ↦ h | Some s ↦ Noting.noted_at_subscriber publication change s h ] in Fine k)
  there-fine change None h has fine = fine
  there-fine change (Some s) h has fine = sub-fine change s h (subscriber_drawn s change) has fine

  module _ (says : Saying) (m : Model) (b : Kept publication m) (fine : Fine m.history) where
    abbrev w : World
    w = m.world

    abbrev h : History
    h = m.history

    abbrev judges : Judges
    judges = by_history h

    make-fine : (site : SiteId) (change : Change) → has_article publication (article_of change) ≡ true → Fine (noted_make publication judges site change w h)
    make-fine site change has = (let p : PublisherTables = at_moment w.moment w.publisher in
        if-fine (site.0 == 0) (Noting.noted_at_publisher publication (judges.publisher 0) change p h) (let k : History = elim (subscriber_at w site) [ None ↦ h | Some s ↦ Noting.noted_at_subscriber publication change s h ] in k)
        (own-fine (judges.publisher 0) change p h (draw_for_change publication p change) has fine) (there-fine change (subscriber_at w site) h has fine))

    join-fine : (judge : PublisherJudge) (j : Join) → Fine (Noting.noted_join judge j w.publisher h)
    join-fine judge j =
        let joined : History = record (Noting.with_done j.site.0 0 j.generation h) { bases = put_number h.bases j.site.0 (last_closed w.publisher) } in
        let lines : List Line = map (Noting.gone_line (last_closed w.publisher + 1)) (map (Noting.gone_for j.site) (Noting.left_rows judge j.site)) in
        if-fine (join_acts j w.publisher) (Noting.with_lines lines joined) h (same-fine h (Noting.with_lines lines joined) (lines-on lines joined) fine) fine

    request-fine : (number : ℕ) (site : SiteId) (r : Request) → letter_at w number ≡ Some (record { site = site; message = Asks r }) → Fine (noted_request publication says (judges.publisher number) (pasts_with h number) w r h)
    request-fine number site (request.Join j) at = join-fine (judges.publisher number) j
    request-fine number site (request.Upload u) at = (let decisions = kept_decisions says w.tallies (upload_questions publication (judges.publisher number) w.moment u w.publisher) in let p : PublisherTables = at_moment w.moment w.publisher in
        if-fine (brings_news (judges.publisher number) u) (Noting.with_acts_noted publication (judges.publisher number) u (acts_of (judges.publisher number) u decisions p) (pasts_with h number) p h) h
        (acts-keep-makers (Exists publication) publication (judges.publisher number) decisions w h number site u b at fine) fine)
    request-fine number site (request.Ranges a) at = fine
    request-fine number site (request.Download d) at = fine

    letter-fine : (number : ℕ) (letter : Letter) → letter_at w number ≡ Some letter → Fine (noted_letter publication says judges number w letter h)
    letter-fine number letter at = by-message letter.message at
      where
        by-message : (message : Message) → letter_at w number ≡ Some (record { site = letter.site; message = message }) → Fine (noted_letter publication says judges number w (record { site = letter.site; message = message }) h)
        by-message (Asks r) at = request-fine number letter.site r at
        by-message (Replies r) at = same-fine h (noted_letter publication says judges number w (record { site = letter.site; message = Replies r }) h) (taker-leave (λ (x : History). x.made) (λ x pasts. refl) judges letter.site (pasts_with h number) r (subscriber_at w letter.site) h) fine

    found-fine : (number : ℕ) (found : Option Letter) → letter_at w number ≡ found → (let k : History = elim found [ None ↦ h | Some letter ↦ noted_letter publication says judges number w letter h ] in Fine k)
    found-fine number None at = fine
    found-fine number (Some letter) at = letter-fine number letter at

    purge-fine : Fine (Noting.noted_purge publication (judges.publisher 0) (at_moment w.moment w.publisher) h)
    purge-fine =
        let p : PublisherTables = at_moment w.moment w.publisher in
        let keys : List Key = Noting.old_tombstones publication p in
        let lines : List Line = map (Noting.gone_line (last_closed p + 1)) (flat_map (Noting.old_left publication (judges.publisher 0) p) (map Noting.site_of_subscription (by_site publication))) in
        same-fine h (Noting.with_lines lines (fold Noting.with_purged h keys)) (lines-on lines (fold Noting.with_purged h keys) ∙ fold-leave (λ (x : History). x.made) Noting.with_purged (λ x key. refl) keys h) fine

    notes-fine : (action : Action) → IsSaid publication action → Fine (noted_action publication says judges w action h)
    notes-fine (Make site change) said = make-fine site change said
    notes-fine (Deliver number) said = found-fine number (letter_at w number) refl
    notes-fine (MakeAnew site) said = same-fine h (noted_anew_at judges site w h) (anew-leave (λ (x : History). x.made) (λ x pasts. refl) (λ x lost. refl) judges site (subscriber_at w site) h) fine
    notes-fine Forget said = purge-fine
    notes-fine (Pass seconds) said = fine
    notes-fine (CloseAt site) said = fine
    notes-fine (Send site sending) said = fine
    notes-fine Look said = fine

    noted-fine : (did : Bool) (after : History) → Fine after → Fine (noted_if did after h)
    noted-fine true after is = is
    noted-fine false after is = fine

    letter-posted : (found : Option Letter) (k : History) → Fine k → (let after : History = elim found [ None ↦ k | Some letter ↦ record k { letters = k.letters ++ pasts_in k letter.site letter.message ∷ [] } ] in Fine after)
    letter-posted None k is = is
    letter-posted (Some letter) k is = is

    posted-fine : (v : World) (outcome : Outcome) (k : History) → Fine k → Fine (with_posted v outcome k)
    posted-fine v (Posted number) k is = letter-posted (letter_at v number) k is
    posted-fine v outcome k is = is

    step-fine : (action : Action) → IsSaid publication action → Fine (model_step publication says m action).0.history
    step-fine action said =
        let done : World × Outcome = step_by publication says judges w action in
        posted-fine done.0 done.1 (noted_if (did_something done.1) (noted_action publication says judges w action h) h) (noted-fine (did_something done.1) (noted_action publication says judges w action h) (notes-fine action said))

  pub exist-always : (says : Saying) (tallies : List ℕ) (slips : Slips) (events : List Event) → (resolvers : ℕ) × IsValid resolvers publication → AllExist publication (model_behind publication says tallies slips events).history.made
  exist-always says tallies slips events valid = (runs-said publication (model publication says) (λ (m : Model). Kept publication m × Fine m.history)
      (λ m action said both. (kept-step publication m both.0 says action, step-fine says m both.0 both.1 action said)) (λ m others both. (kept-tallied publication m others both.0, both.1)) events (faulty (empty_model publication tallies) slips)
      (kept-always publication valid says tallies [] [], tt)).1
