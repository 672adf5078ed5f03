-- What has acted stays so and letters stay in the pool, so that an upload that was taken once is only answered afterwards, or refused.
use Rattle.std.specs.Prelude.{◌≡◌, ◌<◌, ◌==◌, ◌+◌, ◌++◌, ◌&&◌, ◌||◌, ℕ, zero, suc, List, [], ◌∷◌, Bool, true, false, Option, Some, None, refl, if◌then◌else◌, map}
use Rattle.std.specs.List.{fold, list_any}
use Rattle.std.proofs.Common.{arith, sym, subst, ap, ◌∙◌}
use Rattle.std.proofs.lemmas.Bool.Decides.{nat_tests}
use Rattle.std.proofs.lemmas.List.Folds.{list_any-append}
use Rattle.std.proofs.lemmas.Option.{slice_get_within}
use Rattle.merge_types.specs.declared.identifiers.SiteId.{SiteId}
use Rattle.merge_schema.specs.declared.publication.Publication.{Publication}
use Rattle.merge_batch.specs.declared.refusal.Refusal.{Refusal}
use Rattle.merge_batch.specs.declared.request.Join.{Join}
use Rattle.merge_batch.specs.declared.request.Request.TheVariants as request
use Rattle.merge_batch.specs.declared.request.Upload.{Upload}
use Rattle.merge_batch.proofs.Values.{slice_get-append_within}
use Rattle.merge_model.specs.Failing.{Slips, faulty}
use Rattle.merge_model.specs.Failing.Runs.{model_after_actions, model_behind_actions}
use Rattle.merge_model.specs.Publisher.Acts.{Act}
use Rattle.merge_model.specs.Judge.ByHistory.{by_made, by_past}
use Rattle.merge_model.specs.Publisher.Entries.{Entries}
use Rattle.merge_model.specs.History.{History, is_done, pasts_with}
use Rattle.merge_model.specs.Judge.{PublisherJudge}
use Rattle.merge_model.specs.Tables.Keys.{put_number}
use Rattle.merge_model.specs.History.Model.{Model, did_something, model}
use Rattle.merge_model.specs.History.Noting
use Rattle.merge_model.specs.Publisher.{last_closed}
use Rattle.merge_model.specs.Publisher.PublisherUpload.{brings_news}
use Rattle.merge_model.specs.World.Steps.{Action, Deliver, kept_decisions, upload_questions}
use Rattle.merge_model.specs.declared.outcome.Outcome.{Outcome}
use Rattle.merge_model.specs.Tables.{PublisherTables}
use Rattle.merge_model.specs.World.{Saying, World, letter_at}
use Rattle.merge_model.specs.declared.letter.Message.TheVariants.{Asks}
use Rattle.merge_model.specs.declared.letter.Letter.{Letter}
use Rattle.merge_model.specs.declared.letter.Message.{Message}
use Rattle.merge_model.proofs.Runs.Actions.{failing-actions-keep}
use Rattle.merge_laws.proofs.Runs.Tallied.{received-tallied}
use Rattle.merge_laws.specs.Laws.{OfEveryActions}
use Rattle.merge_laws.specs.Laws.ActsOnce.{AllActed, DoneStays, DoneStaysByActions, LettersStay, LettersStayByActions, OnlyAnswers, TakenHaveActed, TakenOnlyAnswer, TakenOnlyAnswerByActions, step_of_delivery}
use Rattle.merge_laws.specs.Facts.Received.{Received}
use Rattle.merge_laws.proofs.ActsOnce.ActsOnceSteps.{acted-uploads-only-answer, delivered-by, is-fine, judge, refusal, taken_by}
use Rattle.merge_laws.proofs.Received.Models.{model-fine, received-by-actions}
use Rattle.merge_laws.proofs.Walking.Noted.{NotesKeep, acts-keep, acts-own, anew-keep, lines-keep, own-keep, purge-keep, reply-keep}
use Rattle.merge_laws.proofs.Received.Publishing.{done-joins}
use Rattle.merge_laws.proofs.Walking.{Sends, StepsKeep, acts_in, here, join_noted, step-keeps}
use Rattle.merge_laws.proofs.Received.Worlds.{received-is}
use Rattle.merge_laws.proofs.Runs.OfActions.{of-later-events}

-- a letter stays where one more comes
letter-more : (w : World) (number : ℕ) (letter other : Letter) → letter_at w number ≡ Some letter → letter_at (record w { pool = w.pool ++ other ∷ [] }) number ≡ Some letter
letter-more w zero letter other at = at
letter-more w (suc k) letter other at = slice_get-append_within w.pool (other ∷ []) k (slice_get_within w.pool k letter at) ∙ at

-- Each step keeps the letters that there were at their numbers, and what had acted.

module _ (before : Model) where
  abbrev pub Grows : History → Type 0
  Grows h = (site generation : ℕ) → is_done before.history site generation ≡ true → is_done h site generation ≡ true

  notes-grow : NotesKeep Grows
  notes-grow = record {
    of_lines = λ h lines g. g;
    of_pasts = λ h pasts g. g;
    of_lost = λ h lost g. g;
    of_accepted = λ h accepted g. g;
    of_purged = λ h purged g. g;
    of_made = λ h change own g. g;
  }

  done-grows : (h : History) (n from to : ℕ) → Grows h → Grows (Noting.with_done n from to h)
  done-grows h n from to g site generation is =
      let new : List (ℕ × ℕ) = map (λ (x : ℕ). (n, x)) (Noting.new_generations h n from to) in
      let test : ℕ × ℕ → Bool = λ (entry : ℕ × ℕ). (entry.0 == site) && (entry.1 == generation) in
      list_any-append test h.done new ∙ ap (λ (b : Bool). b || list_any test new) (g site generation is)

  join-grows : (h : History) (j : PublisherJudge) (m : Join) (p : PublisherTables) → Grows h → Grows (join_noted j m p h)
  join-grows h j m p g =
      let done : History = record (Noting.with_done m.site.0 0 m.generation h) { bases = put_number h.bases m.site.0 (last_closed p) } in
      lines-keep Grows notes-grow (map (Noting.gone_line (last_closed p + 1)) (map (Noting.gone_for m.site) (Noting.left_rows j m.site))) done (done-grows h m.site.0 0 m.generation g)

  abbrev pub KeepsLetters : World → Type 0
  KeepsLetters w = (number : ℕ) (letter : Letter) → letter_at before.world number ≡ Some letter → letter_at w number ≡ Some letter

  abbrev pub Stays : World → History → Type 0
  Stays w h = KeepsLetters w × Grows h

  module _ (publication : Publication) (says : Saying) where
    upload-grows : (w : World) (h : History) (n : ℕ) (u : Upload) → Grows h
        → (let j : PublisherJudge = by_past h (pasts_with h n) in Grows (Noting.with_acts_noted publication j u (acts_in publication says j u w) (pasts_with h n) (here w) h))
    upload-grows w h n u g =
        let j : PublisherJudge = by_past h (pasts_with h n) in
        let acts : List Act = acts_in publication says j u w in
        let entries : Entries = Noting.acts_entries publication j u acts (here w) in
        let acted : History = fold (Noting.with_act (pasts_with h n) entries) h acts in
        let lined : History = Noting.with_lines (Noting.lines_of_entries (last_closed (here w) + 1) entries) acted in
        done-grows lined u.site.0 u.from u.to (lines-keep Grows notes-grow (Noting.lines_of_entries (last_closed (here w) + 1) entries) acted
        (acts-keep Grows notes-grow (pasts_with h n) entries acts h (acts-own j u (kept_decisions says w.tallies (upload_questions publication j w.moment u w.publisher)) (here w)) g))

    sent-stays : (site : SiteId) (message : Message) (w : World) (h : History) → KeepsLetters w → Grows h → Sends Stays site message w h
    sent-stays site message w h kept g = (λ number letter at. letter-more w number letter (record { site = site; message = message }) (kept number letter at), g)

    pub stays-keep : StepsKeep publication says Received Stays
    stays-keep = record {
      moment = λ w h now r p. p;
      own_change = λ w h change d r p fine draws. (p.0, own-keep Grows notes-grow publication (by_past h (pasts_with h 0)) change d (here w) h p.1);
      own_closing = λ w h r p. p;
      forgetting = λ w h r p. (p.0, purge-keep Grows notes-grow publication (by_past h (pasts_with h 0)) (here w) h p.1);
      same = λ w h s r p at. p;
      subscriber_change = λ w h s change d r p at named fine draws. p;
      subscriber_closing = λ w h s r p at. p;
      anew = λ w h s r p at. (p.0, anew-keep Grows notes-grow (by_made h s.site) s h p.1);
      sends_join = λ w h s r p at waits. sent-stays s.site _ w h p.0 p.1;
      sends_upload = λ w h s r p at fine. sent-stays s.site _ w h p.0 p.1;
      sends_ranges = λ w h s r p at fine. sent-stays s.site _ w h p.0 p.1;
      sends_ask = λ w h s r p at fine. sent-stays s.site _ w h p.0 p.1;
      joins = λ w h n m r p at fine acts. sent-stays m.site _ w (join_noted (by_past h (pasts_with h n)) m w.publisher h) p.0 (join-grows h (by_past h (pasts_with h n)) m w.publisher p.1);
      joins_again = λ w h n m r p at acts. sent-stays m.site _ w h p.0 p.1;
      uploads = λ w h n m r p at fine news. sent-stays m.site _ w (Noting.with_acts_noted publication (by_past h (pasts_with h n)) m (acts_in publication says (by_past h (pasts_with h n)) m w) (pasts_with h n) (here w) h) p.0 (upload-grows w h n m p.1);
      uploads_again = λ w h n m r p at news. sent-stays m.site _ w h p.0 p.1;
      answers_ranges = λ w h site m r p. sent-stays site _ w h p.0 p.1;
      answers_ask = λ w h n site m r p at fine. sent-stays site _ w h p.0 p.1;
      replies = λ w h s n m sent r p at comes out fits. (p.0, reply-keep Grows notes-grow (by_made h s.site) s.site (pasts_with h n) m h p.1);
    }

module _ (publication : Publication) (says : Saying) where
  both-stay : (m : Model) → Received m.world m.history → (slips : Slips) (more : List Action)
      → (let later : Model = model_after_actions publication says m slips more in Received later.world later.history × Stays m later.world later.history)
  both-stay m r slips more = failing-actions-keep publication (model publication says) (λ (n : Model). Received n.world n.history × Stays m n.world n.history)
      (λ n action both. (
        model-fine publication says n action both.0,
        step-keeps publication says Received (Stays m) (λ w h r. r) (stays-keep m publication says) n action both.0 both.1,
      )) (λ n others both. (received-tallied n.world others n.history both.0, both.1)) more (faulty m slips) (r, (λ number letter at. at, λ site generation is. is))

  -- What was delivered has acted.

  news-acted : (m : Model) (number : ℕ) (site : SiteId) (u : Upload) → Received m.world m.history → (news : Bool) → (let j : PublisherJudge = judge publication says m number site u in brings_news j u ≡ news → u.from < u.to
      → (let h : History = if news then Noting.with_acts_noted publication j u (acts_in publication says j u m.world) (pasts_with m.history number) (here m.world) m.history else m.history in AllActed h u))
  news-acted m number site u r true is up generation above within =
      let j : PublisherJudge = judge publication says m number site u in
      let acts : List Act = acts_in publication says j u m.world in
      let entries : Entries = Noting.acts_entries publication j u acts (here m.world) in
      let acted : History = fold (Noting.with_act (pasts_with m.history number) entries) m.history acts in
      let lined : History = Noting.with_lines (Noting.lines_of_entries (last_closed (here m.world) + 1) entries) acted in
      grind (arith, nat_tests, done-joins lined u.site.0 u.from u.to u.site.0 generation (omega (arith, up)), above, within)
  news-acted m number site u r false is up generation above within =
      grind (arith, nat_tests, is, received-is m.history m.world.publisher u.site.0 r.done, r.done u.site.0 generation (omega (arith, above)), within)

  taken-acted : (m : Model) (number : ℕ) (site : SiteId) (u : Upload) → Received m.world m.history → (why : Option Refusal) → refusal publication says m number site u ≡ why
      → (let done : Model × Outcome = taken_by publication says m number site u why in did_something done.1 ≡ true → AllActed done.0.history u)
  taken-acted m number site u r (Some why) is did = absurd (cc did)
  taken-acted m number site u r None is did = news-acted m number site u r (brings_news (judge publication says m number site u) u) refl (is-fine publication says m number site u is).0

  pub delivered-acted : (m : Model) → Received m.world m.history → TakenHaveActed publication says m
  delivered-acted m r number site u at = subst (λ (done : Model × Outcome). did_something done.1 ≡ true → AllActed done.0.history u) (sym (delivered-by publication says m number site u at))
      (taken-acted m number site u r (refusal publication says m number site u) refl)

  -- So another delivery is only answered, or refused.

  again-answers : (m : Model) → Received m.world m.history → TakenOnlyAnswerByActions publication says m
  again-answers m r number site u at did slips more =
      let done : Model = (step_of_delivery publication says m number).0 in
      let there = step-keeps publication says Received (Stays m) (λ w h r. r) (stays-keep m publication says) m (Deliver number) r (λ k letter is. is, λ n generation is. is) in
      let later = both-stay done (model-fine publication says m (Deliver number) r) slips more in
      let acted : AllActed done.history u = delivered-acted m r number site u at did in
      acted-uploads-only-answer publication says (model_after_actions publication says done slips more) number site u (later.1.0 number (record { site = site; message = Asks (request.Upload u) }) (there.0 number (record { site = site; message = Asks (request.Upload u) }) at))
      (λ generation above within. later.1.1 u.site.0 generation (acted generation above within))

pub taken-have-acted : OfEveryActions TakenHaveActed
taken-have-acted publication says tallies slips actions = delivered-acted publication says (model_behind_actions publication says tallies slips actions) (received-by-actions publication says tallies slips actions)

pub done-stays-by-actions : OfEveryActions DoneStaysByActions
done-stays-by-actions publication says tallies slips actions site generation acted others more =
    (both-stay publication says (model_behind_actions publication says tallies slips actions) (received-by-actions publication says tallies slips actions) others more).1.1 site generation acted

pub letters-stay-by-actions : OfEveryActions LettersStayByActions
letters-stay-by-actions publication says tallies slips actions number letter at others more =
    (both-stay publication says (model_behind_actions publication says tallies slips actions) (received-by-actions publication says tallies slips actions) others more).1.0 number letter at

pub taken-only-answer-by-actions : OfEveryActions TakenOnlyAnswerByActions
taken-only-answer-by-actions publication says tallies slips actions =
    again-answers publication says (model_behind_actions publication says tallies slips actions) (received-by-actions publication says tallies slips actions)

-- So it is where events come afterwards.

pub done-stays : OfEveryActions DoneStays
done-stays publication says tallies slips actions site generation acted others more =
    of-later-events publication says (model_behind_actions publication says tallies slips actions) others more (λ (n : Model). is_done n.history site generation ≡ true)
    (done-stays-by-actions publication says tallies slips actions site generation acted others)

pub letters-stay : OfEveryActions LettersStay
letters-stay publication says tallies slips actions number letter at others more =
    of-later-events publication says (model_behind_actions publication says tallies slips actions) others more (λ (n : Model). letter_at n.world number ≡ Some letter)
    (letters-stay-by-actions publication says tallies slips actions number letter at others)

pub taken-only-answer : OfEveryActions TakenOnlyAnswer
taken-only-answer publication says tallies slips actions number site u at did others more =
    of-later-events publication says (step_of_delivery publication says (model_behind_actions publication says tallies slips actions) number).0 others more (λ (n : Model). OnlyAnswers site u n (step_of_delivery publication says n number))
    (taken-only-answer-by-actions publication says tallies slips actions number site u at did others)
