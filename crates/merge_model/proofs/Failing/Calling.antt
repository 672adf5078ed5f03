-- What one action does to a world that may fail.
use Rattle.std.proofs.Common.{◌≡◌, ◌≤◌, ◌+◌, ◌++◌, ℕ, Bool, true, false, List, [], ◌∷◌, Option, Some, None, Result, Ok, Err, length, map, zero, suc, length-append, take, refl, ap, sym, subst, ◌∙◌, arith, inl, inr, ◌⊎◌}
use Rattle.merge_types.specs.declared.identifiers.Moment.{Moment}
use Rattle.merge_types.specs.declared.identifiers.SiteId.{SiteId}
use Rattle.merge_resolve.specs.Asked.{tallies_after}
use Rattle.merge_schema.specs.declared.publication.Publication.{Publication}
use Rattle.merge_batch.specs.declared.refusal.Refusal.{Refusal}
use Rattle.merge_batch.specs.declared.refusal.Refusal.TheVariants as refusal
use Rattle.merge_batch.specs.declared.reply.Reply.{Reply}
use Rattle.merge_batch.specs.declared.reply.Reply.TheVariants as reply
use Rattle.merge_batch.specs.declared.request.Request.{Request}
use Rattle.merge_batch.specs.declared.request.Request.TheVariants as request
use Rattle.merge_model.specs.Failing.{acting_with, commits, faulty, is_made, made_with, posting_by, questions_by}
use Rattle.merge_model.specs.World.Events.{machine}
use Rattle.merge_model.specs.World.Steps.{Action, CloseAt, Deliver, Forget, Look, Make, MakeAnew, Pass, Send, after_upload, post_reply, deliver_letter, deliver_reply, deliver_request, kept_decisions, post_if_made, send_from, SendDownload, Sending, step, unless_refused, upload_questions}
use Rattle.merge_model.specs.declared.outcome.Outcome.TheVariants.{Closes, NoLetter, NoPost, Posted, Refuses, Took}
use Rattle.merge_model.specs.declared.outcome.Outcome.{Outcome}
use Rattle.merge_model.specs.declared.outcome.Taken.{Taken}
use Rattle.merge_model.specs.Tables.{PublisherTables, SubscriberTables}
use Rattle.merge_model.specs.World.{Saying, World, by_tables, letter_at, subscriber_at, with_publisher}
use Rattle.merge_model.specs.Tables.Keys.{put_number}
use Rattle.merge_model.specs.Subscriber.Sending.{make_ask}
use Rattle.merge_model.specs.Subscriber.Taking.{take_reply}
use Rattle.merge_batch.specs.declared.request.Download.{Download}
use Rattle.merge_model.specs.Publisher.{close_generation}
use Rattle.merge_model.specs.Judge.ByNumbers.{by_numbers, by_rows}
use Rattle.merge_model.specs.Publisher.PublisherDownload.{download}
use Rattle.merge_model.specs.Publisher.PublisherJoin.{join}
use Rattle.merge_model.specs.Publisher.PublisherRanges.{ranges}
use Rattle.merge_model.specs.Publisher.PublisherUpload.{upload}
use Rattle.merge_batch.specs.declared.reply.Downloaded.{Downloaded}
use Rattle.merge_batch.specs.declared.reply.Joined.{Joined}
use Rattle.merge_batch.specs.declared.reply.Ranged.{Ranged}
use Rattle.merge_batch.specs.declared.reply.Uploaded.{Uploaded}
use Rattle.merge_model.specs.declared.letter.Letter.{Letter}
use Rattle.merge_model.specs.declared.letter.Message.TheVariants.{Asks, Replies}
use Rattle.merge_model.specs.Failing.Reach.{Acts, Reaches, stepping, with_outcome}
use Rattle.merge_model.specs.World.Calls.{Called, Counted, always_commits, as_reply, closing_commits, message_commits, message_or_none, questions_on, reply_commits, request_commits, result_of_request, taken_commits}
use Rattle.merge_model.specs.World.Parts.{after_result, letter_in_pool, world_of}
use Rattle.merge_resolve.specs.declared.case.ConflictCase.{ConflictCase}
use Rattle.merge_model.specs.declared.letter.Message.{Message}
use Rattle.merge_model.specs.Failing.{Slips}

-- a count that stayed did not fall
pub stayed : (before after : ℕ) → after ≡ before → before ≤ after
stayed before after same = omega (arith, same)

-- a count rises by as many at least
rises : {A : Type 0} (x y : Slips → A) (a b c d : ℕ) → b + c ≤ a + d → Reaches x y a b → Reaches x y c d
rises x y a b c d le r = record { slips = r.slips; goes = r.goes; few = let few = r.few in omega (arith, le, few) }

pub acts-all : (p : Publication) (says : Saying) (action : Action) (w v : World) (outcome : Outcome) (a b c d : ℕ) → b + c ≤ a + d → Acts p says action w v outcome a b → Acts p says action w v outcome c d
unfolding Acts
acts-all p says action w v outcome a b c d le r = rises (λ l. (stepping p says).act (faulty w l) action) (with_outcome p says v outcome) a b c d le r

-- whether an action takes one of the slips
abbrev pub takes : Action → Bool
takes (Pass seconds) = false
takes action = true

module _ (p : Publication) (says : Saying) where
  abbrev next : World → Action → World × Outcome
  next w action = step p says w action

  takes-one : (action : Action) → takes action ≡ true → (w : World) (l : Slips) → (stepping p says).act (faulty w l) action ≡ acting_with p (machine p says) l action w (next w action)
  takes-one (Pass seconds) is w l = absurd (cc)
  takes-one (Make site change) is w l = refl
  takes-one (CloseAt site) is w l = refl
  takes-one (Send site sending) is w l = refl
  takes-one (Deliver number) is w l = refl
  takes-one (MakeAnew site) is w l = refl
  takes-one Forget is w l = refl
  takes-one Look is w l = refl

  -- the step is made
  pub made : (action : Action) → takes action ≡ true → (w v : World) (outcome : Outcome) (a b : ℕ) → a ≤ b → next w action ≡ (v, outcome) → Acts p says action w v outcome a b
  unfolding Acts
  made action is w v outcome a b le e = record {
    slips = None ∷ [];
    goes = λ rest. takes-one action is w (None ∷ rest) ∙ ap (λ (done : World × Outcome). made_with p (machine p says) rest done) e;
    few = grind (arith, le);
  }

  -- memory is wanting, where some first questions were asked
  pub wants : (action : Action) → takes action ≡ true → (w v : World) (n a b : ℕ) → a ≤ b → v ≡ record w { tallies = tallies_after w.tallies (take n (questions_by p w action (next w action).1)) }
      → Acts p says action w v (Refuses refusal.NoMemory) a b
  unfolding Acts
  wants action is w v n a b le e = record {
    slips = Some (record { is_fault = false; asked = n }) ∷ [];
    goes = λ rest. takes-one action is w (Some (record { is_fault = false; asked = n }) ∷ rest) ∙ ap (λ (u : World). (faulty u rest, Refuses refusal.NoMemory)) (sym e);
    few = grind (arith, le);
  }

  if-true : {A : Type 0} (f : Bool → A) (b : Bool) → b ≡ true → f b ≡ f true
  if-true f b e = ap f e

  -- the commit failed
  pub faults : (action : Action) → takes action ≡ true → (w v : World) (n a b : ℕ) → a + 1 ≤ b → commits p w action (next w action).1 ≡ true → v ≡ record w { tallies = tallies_after w.tallies (take n (questions_by p w action (next w action).1)) }
      → Acts p says action w v (Refuses refusal.StoreFault) a b
  unfolding Acts
  faults action is w v n a b le commit e = record {
    slips = Some (record { is_fault = true; asked = n }) ∷ [];
    goes = λ rest. takes-one action is w (Some (record { is_fault = true; asked = n }) ∷ rest)
        ∙ (rw commit refl ∙ ap (λ (u : World). (faulty u rest, Refuses refusal.StoreFault)) (sym e));
    few = grind (arith, le);
  }

-- The publisher's calls.
module _ (p : Publication) (says : Saying) where
  -- what a request leaves, and is answered
  abbrev replied : SiteId → Request → World → PublisherTables × Reply → World × Outcome
  replied site m w done = (
    record w {
      publisher = done.0;
      tallies = tallies_after w.tallies (questions_on p w.moment m w.publisher);
      pool = w.pool ++ record { site = site; message = Replies done.1 } ∷ [];
    },
    Posted (length w.pool + 1),
  )

  abbrev after_call : SiteId → Request → World → Result (PublisherTables × Reply) Refusal → World × Outcome
  after_call site m w (Ok done) = replied site m w done
  after_call site m w (Err why) = (w, Refuses why)

  request-step : (site : SiteId) (number : ℕ) (m : Request) (w : World) → deliver_request p says (by_numbers w.publisher) site m w ≡ after_call site m w (result_of_request p says w.tallies w.moment m w.publisher)
  request-step site number (request.Join m) w = by (join p w.moment m w.publisher)
    where
      by : (done : Result (PublisherTables × Joined) Refusal) → post_reply site (λ (made : Joined). reply.Joined made) w done ≡ after_call site (request.Join m) w (as_reply reply.Joined done)
      by (Ok done) = refl
      by (Err why) = refl
  request-step site number (request.Upload m) w = by (upload p (by_numbers w.publisher) w.moment m (kept_decisions says w.tallies (upload_questions p (by_numbers w.publisher) w.moment m w.publisher)) w.publisher)
    where
      by : (done : Result (PublisherTables × Uploaded) Refusal) → after_upload p says (by_numbers w.publisher) site m w done ≡ after_call site (request.Upload m) w (as_reply reply.Uploaded done)
      by (Ok done) = refl
      by (Err why) = refl
  request-step site number (request.Ranges m) w = by (ranges p (by_numbers w.publisher) w.moment m w.publisher)
    where
      by : (done : Result (PublisherTables × Ranged) Refusal) → post_reply site (λ (made : Ranged). reply.Ranged made) w done ≡ after_call site (request.Ranges m) w (as_reply reply.Ranged done)
      by (Ok done) = refl
      by (Err why) = refl
  request-step site number (request.Download m) w = by (download p (by_numbers w.publisher) w.moment m w.publisher)
    where
      by : (done : Result (PublisherTables × Downloaded) Refusal) → post_reply site (λ (made : Downloaded). reply.Downloaded made) w done ≡ after_call site (request.Download m) w (as_reply reply.Downloaded done)
      by (Ok done) = refl
      by (Err why) = refl

  abbrev delivered : World → ℕ → Option Letter → World × Outcome
  delivered w number found = elim found [
    | None ↦ (w, NoLetter)
    | Some letter ↦ deliver_letter p says (by_tables w) number w letter
  ]

  -- a request of the pool
  pub delivers : (w : World) (number : ℕ) (site : SiteId) (m : Request) → letter_at w number ≡ Some (record { site = site; message = Asks m })
      → next p says w (Deliver number) ≡ after_call site m w (result_of_request p says w.tallies w.moment m w.publisher)
  delivers w number site m found = ap (delivered w number) found ∙ request-step site number m w

  questions-here : (w : World) (number : ℕ) (site : SiteId) (m : Request) (outcome : Outcome) → letter_at w number ≡ Some (record { site = site; message = Asks m }) → is_made outcome ≡ true
      → questions_by p w (Deliver number) outcome ≡ questions_on p w.moment m w.publisher
  questions-here w number site m outcome found is = rw (is, found) refl

  -- a call of the publisher is an action of the world
  pub calls : (w : World) (number : ℕ) (site : SiteId) (m : Request) (new : PublisherTables) (tallies : List ℕ) (a b : ℕ) (r : Result Reply Refusal) → letter_at w number ≡ Some (record { site = site; message = Asks m })
      → Called (result_of_request p says w.tallies w.moment m w.publisher) (request_commits p w.moment m w.publisher) w.publisher new a b r → Counted (result_of_request p says w.tallies w.moment m w.publisher) (questions_on p w.moment m w.publisher) w.tallies tallies r
      → Acts p says (Deliver number) w (after_result r site w new tallies).0 (after_result r site w new tallies).1 a b
  calls w number site m new tallies a b (Ok done) found called counted = made p says (Deliver number) refl w (after_result (Ok done) site w new tallies).0 (Posted (length w.pool + 1)) a b (stayed a b called.1)
      (delivers w number site m found ∙ (ap (after_call site m w) called.0 ∙ ap (λ (t : List ℕ). (record w { publisher = new; tallies = t; pool = w.pool ++ record { site = site; message = Replies done } ∷ [] }, Posted (length w.pool + 1))) (sym counted)))
  calls w number site m new tallies a b (Err why) found called counted = fails-by (result_of_request p says w.tallies w.moment m w.publisher) refl called.1
    where
      refused-from : (t : List ℕ) → tallies ≡ t → record w { publisher = new; tallies = tallies } ≡ record w { tallies = t }
      refused-from t e = ap (λ (q : PublisherTables). record w { publisher = q; tallies = tallies }) called.0 ∙ ap (λ (t : List ℕ). record w { tallies = t }) e

      -- the questions are asked of a call that is not refused
      asks-here : (done : PublisherTables × Reply) → result_of_request p says w.tallies w.moment m w.publisher ≡ Ok done
          → record w { publisher = new; tallies = tallies } ≡ record w { tallies = tallies_after w.tallies (take counted.0.0 (questions_by p w (Deliver number) (next p says w (Deliver number)).1)) }
      asks-here done is = refused-from (tallies_after w.tallies (take counted.0.0 (questions_by p w (Deliver number) (next p says w (Deliver number)).1)))
          (counted.0.1 ∙ ap (λ (qs : List (ℕ × ConflictCase)). tallies_after w.tallies (take counted.0.0 qs))
          (sym (questions-here w number site m (next p says w (Deliver number)).1 found (ap (λ (x : World × Outcome). is_made x.1) (delivers w number site m found ∙ ap (after_call site m w) is)))))

      commits-here : (done : PublisherTables × Reply) → result_of_request p says w.tallies w.moment m w.publisher ≡ Ok done → request_commits p w.moment m w.publisher done.1 ≡ true → commits p w (Deliver number) (next p says w (Deliver number)).1 ≡ true
      commits-here done is commit = ap (λ (x : World × Outcome). commits p w (Deliver number) x.1) (delivers w number site m found ∙ ap (after_call site m w) is)
          ∙ (ap (λ (letter : Option Letter). posting_by p w letter (length w.pool + 1)) found ∙ commit)

      fails-by : (by : Result (PublisherTables × Reply) Refusal) → result_of_request p says w.tallies w.moment m w.publisher ≡ by
          → ((by ≡ Err why) × (b ≡ a) ⊎ ((why ≡ refusal.NoMemory) × (b ≡ a) ⊎ (why ≡ refusal.StoreFault) × ((done : PublisherTables × Reply) × (by ≡ Ok done) × (request_commits p w.moment m w.publisher done.1 ≡ true)) × (a + 1 ≤ b)))
          → Acts p says (Deliver number) w (after_result (Err why) site w new tallies).0 (after_result (Err why) site w new tallies).1 a b
      fails-by by is (inl refused) = let same = refused-from w.tallies (counted.1 why (is ∙ refused.0)) in
          made p says (Deliver number) refl w (record w { publisher = new; tallies = tallies }) (Refuses why) a b (stayed a b refused.1)
          (delivers w number site m found ∙ (ap (after_call site m w) (is ∙ refused.0) ∙ ap (λ (u : World). (u, Refuses why)) (sym same)))
      fails-by (Ok done) is (inr (inl wanted)) = subst (λ (r : Refusal). Acts p says (Deliver number) w (record w { publisher = new; tallies = tallies }) (Refuses r) a b) (sym wanted.0)
          (wants p says (Deliver number) refl w (record w { publisher = new; tallies = tallies }) counted.0.0 a b (stayed a b wanted.1) (asks-here done is))
      fails-by (Err other) is (inr (inl wanted)) = subst (λ (r : Refusal). Acts p says (Deliver number) w (record w { publisher = new; tallies = tallies }) (Refuses r) a b) (sym wanted.0)
          (wants p says (Deliver number) refl w (record w { publisher = new; tallies = tallies }) 0 a b (stayed a b wanted.1) (refused-from w.tallies (counted.1 other is)))
      fails-by by is (inr (inr fault)) = subst (λ (r : Refusal). Acts p says (Deliver number) w (record w { publisher = new; tallies = tallies }) (Refuses r) a b) (sym fault.0)
          (faults p says (Deliver number) refl w (record w { publisher = new; tallies = tallies }) counted.0.0 a b fault.2 (commits-here fault.1.0 (is ∙ fault.1.1) fault.1.2) (asks-here fault.1.0 (is ∙ fault.1.1)))

  -- the same, whatever is counted since
  pub calls-since : (w : World) (number : ℕ) (site : SiteId) (m : Request) (new : PublisherTables) (tallies : List ℕ) (a b n : ℕ) (r : Result Reply Refusal) → letter_at w number ≡ Some (record { site = site; message = Asks m })
      → Called (result_of_request p says w.tallies w.moment m w.publisher) (request_commits p w.moment m w.publisher) w.publisher new a b r → b ≤ n → Counted (result_of_request p says w.tallies w.moment m w.publisher) (questions_on p w.moment m w.publisher) w.tallies tallies r
      → Acts p says (Deliver number) w (after_result r site w new tallies).0 (after_result r site w new tallies).1 a n
  calls-since w number site m new tallies a b n r found called later counted =
      acts-all p says (Deliver number) w (after_result r site w new tallies).0 (after_result r site w new tallies).1 a b a n (omega (arith, later)) (calls w number site m new tallies a b r found called counted)

-- The same of the parts of a program's world.
module _ {P S R : Type 0} (tables : P → PublisherTables) (subscriber_tables : S → SubscriberTables) (tally : R → ℕ) where
  abbrev here : P → List S → List R → List Letter → Moment → World
  here p ss rs pool moment = world_of tables subscriber_tables tally p ss rs pool moment

  found-at : (p : P) (ss : List S) (rs : List R) (pool : List Letter) (moment : Moment) (number : ℕ) → letter_at (here p ss rs pool moment) number ≡ letter_in_pool pool number
  found-at p ss rs pool moment zero = refl
  found-at p ss rs pool moment (suc number) = refl

  pub room-wanted : (publication : Publication) (says : Saying) (action : Action) → takes action ≡ true → (p : P) (ss : List S) (rs : List R) (pool pool' : List Letter) (moment : Moment) (a : ℕ) → pool' ≡ pool
      → Acts publication says action (here p ss rs pool moment) (here p ss rs pool' moment) (Refuses refusal.NoMemory) a a
  room-wanted publication says action is p ss rs pool pool' moment a e = wants publication says action is (here p ss rs pool moment) (here p ss rs pool' moment) 0 a a (omega arith) (ap (λ (l : List Letter). here p ss rs l moment) e)

  pub no-letter : (publication : Publication) (says : Saying) (number : ℕ) (p : P) (ss : List S) (rs : List R) (pool pool' : List Letter) (moment : Moment) (a : ℕ) → pool' ≡ pool → None ≡ letter_in_pool pool' number
      → Acts publication says (Deliver number) (here p ss rs pool moment) (here p ss rs pool' moment) NoLetter a a
  no-letter publication says number p ss rs pool pool' moment a e none = let w = here p ss rs pool moment in made publication says (Deliver number) refl w (here p ss rs pool' moment) NoLetter a a (omega arith)
      (ap (delivered publication says w number) (found-at p ss rs pool moment number ∙ (ap (λ (l : List Letter). letter_in_pool l number) (sym e) ∙ sym none)) ∙ ap (λ (l : List Letter). (here p ss rs l moment, NoLetter)) (sym e))

  pub answered-call : (publication : Publication) (says : Saying) (number : ℕ) (p p' : P) (ss : List S) (rs rs' : List R) (pool pool' pool'' : List Letter) (moment : Moment) (a b n : ℕ) (letter : Letter) (m : Request) (done : Reply)
      → pool' ≡ pool → Some letter ≡ letter_in_pool pool' number → letter.message ≡ Asks m
      → Called (result_of_request publication says (map tally rs) moment m (tables p)) (request_commits publication moment m (tables p)) (tables p) (tables p') a b (Ok done) → Counted (result_of_request publication says (map tally rs) moment m (tables p)) (questions_on publication moment m (tables p)) (map tally rs) (map tally rs') (Ok done)
      → pool'' ≡ pool' ++ record { site = letter.site; message = Replies done } ∷ [] → n ≡ length pool''
      → Acts publication says (Deliver number) (here p ss rs pool moment) (here p' ss rs' pool'' moment) (Posted n) a b
  answered-call publication says number p p' ss rs rs' pool pool' pool'' moment a b n letter m done e is asks called counted more count =
      let all : pool'' ≡ pool ++ record { site = letter.site; message = Replies done } ∷ [] = more ∙ ap (λ (l : List Letter). l ++ record { site = letter.site; message = Replies done } ∷ []) e in
      let long : n ≡ length pool + 1 = count ∙ (ap length all ∙ length-append pool (record { site = letter.site; message = Replies done } ∷ [])) in
      let found : letter_at (here p ss rs pool moment) number ≡ Some (record { site = letter.site; message = Asks m }) = found-at p ss rs pool moment number ∙ (ap (λ (l : List Letter). letter_in_pool l number) (sym e) ∙ (sym is ∙ ap (λ (x : Message). Some (record { site = letter.site; message = x })) asks)) in
      subst (λ (l : List Letter). Acts publication says (Deliver number) (here p ss rs pool moment) (here p' ss rs' l moment) (Posted n) a b) (sym all)
      (subst (λ (k : ℕ). Acts publication says (Deliver number) (here p ss rs pool moment) (here p' ss rs' (pool ++ record { site = letter.site; message = Replies done } ∷ []) moment) (Posted k) a b) (sym long)
      (calls publication says (here p ss rs pool moment) number letter.site m (tables p') (map tally rs') a b (Ok done) found called counted))

  pub failed-call : (publication : Publication) (says : Saying) (number : ℕ) (p p' : P) (ss : List S) (rs rs' : List R) (pool pool' : List Letter) (moment : Moment) (a b : ℕ) (letter : Letter) (m : Request) (why : Refusal)
      → pool' ≡ pool → Some letter ≡ letter_in_pool pool' number → letter.message ≡ Asks m
      → Called (result_of_request publication says (map tally rs) moment m (tables p)) (request_commits publication moment m (tables p)) (tables p) (tables p') a b (Err why) → Counted (result_of_request publication says (map tally rs) moment m (tables p)) (questions_on publication moment m (tables p)) (map tally rs) (map tally rs') (Err why)
      → Acts publication says (Deliver number) (here p ss rs pool moment) (here p' ss rs' pool' moment) (Refuses why) a b
  failed-call publication says number p p' ss rs rs' pool pool' moment a b letter m why e is asks called counted =
      let found : letter_at (here p ss rs pool moment) number ≡ Some (record { site = letter.site; message = Asks m }) = found-at p ss rs pool moment number ∙ (ap (λ (l : List Letter). letter_in_pool l number) (sym e) ∙ (sym is ∙ ap (λ (x : Message). Some (record { site = letter.site; message = x })) asks)) in
      subst (λ (l : List Letter). Acts publication says (Deliver number) (here p ss rs pool moment) (here p' ss rs' l moment) (Refuses why) a b) (sym e)
      (calls publication says (here p ss rs pool moment) number letter.site m (tables p') (map tally rs') a b (Err why) found called counted)

-- Calls that ask nobody, of the publisher or of a subscriber. The call's answer may show in the world: `put` puts the
-- tables and the answer there, and `back` the tables of a call that failed.
abbrev pub outcome_by : {A : Type 0} → (A → Outcome) → Result A Refusal → Outcome
outcome_by out (Ok done) = out done
outcome_by out (Err why) = Refuses why

abbrev pub world_by : {T A : Type 0} → (T → A → World) → (T → World) → T → Result A Refusal → World
world_by put back new (Ok done) = put new done
world_by put back new (Err why) = back new

module _ (p : Publication) (says : Saying) where
  abbrev leads : {T A : Type 0} → World → (T → A → World) → (A → Outcome) → Result (T × A) Refusal → World × Outcome
  leads {T} {A} w put out by = unless_refused w by (λ (done : T × A). (put done.0 done.1, out done.1))

  pub calls-anyhow : {T A : Type 0} (action : Action) → takes action ≡ true → (w : World) (put : T → A → World) (back : T → World) (old new : T) → back old ≡ w → (by : Result (T × A) Refusal) (out : A → Outcome) (is_commit : A → Bool)
      → ((x : A) → is_commit x ≡ true → commits p w action (out x) ≡ true) → next p says w action ≡ leads w put out by → (a b : ℕ) (r : Result A Refusal) → Called by is_commit old new a b r
      → Acts p says action w (world_by put back new r) (outcome_by out r) a b
  calls-anyhow action is w put back old new same by out is_commit commit step a b (Ok done) called = made p says action is w (put new done) (out done) a b (stayed a b called.1) (step ∙ ap (leads w put out) called.0)
  calls-anyhow {T} {A} action is w put back old new same by out is_commit commit step a b (Err why) called = of by refl called.1
    where
      kept : back new ≡ w
      kept = ap back called.0 ∙ same

      of : (by' : Result (T × A) Refusal) → by ≡ by' → ((by' ≡ Err why) × (b ≡ a) ⊎ ((why ≡ refusal.NoMemory) × (b ≡ a) ⊎ (why ≡ refusal.StoreFault) × ((done : T × A) × (by' ≡ Ok done) × (is_commit done.1 ≡ true)) × (a + 1 ≤ b))) → Acts p says action w (back new) (Refuses why) a b
      of by' e (inl refused) = made p says action is w (back new) (Refuses why) a b (stayed a b refused.1) (step ∙ (ap (leads w put out) (e ∙ refused.0) ∙ ap (λ (u : World). (u, Refuses why)) (sym kept)))
      of by' e (inr (inl wanted)) = subst (λ (r : Refusal). Acts p says action w (back new) (Refuses r) a b) (sym wanted.0) (wants p says action is w (back new) 0 a b (stayed a b wanted.1) kept)
      of by' e (inr (inr fault)) = subst (λ (r : Refusal). Acts p says action w (back new) (Refuses r) a b) (sym fault.0)
          (faults p says action is w (back new) 0 a b fault.2 (ap (λ (x : World × Outcome). commits p w action x.1) (step ∙ ap (leads w put out) (e ∙ fault.1.1)) ∙ commit fault.1.0.1 fault.1.2) kept)

  -- the same where the answer does not show in the world
  pub calls-plainly : {T A : Type 0} (action : Action) → takes action ≡ true → (w : World) (put : T → World) (old new : T) → put old ≡ w → (by : Result (T × A) Refusal) (out : A → Outcome) (is_commit : A → Bool)
      → ((x : A) → is_commit x ≡ true → commits p w action (out x) ≡ true) → next p says w action ≡ leads w (λ (t : T) (x : A). put t) out by → (a b : ℕ) (r : Result A Refusal) → Called by is_commit old new a b r
      → Acts p says action w (put new) (outcome_by out r) a b
  calls-plainly {T} {A} action is w put old new same by out is_commit commit step a b (Ok done) called = calls-anyhow action is w (λ (t : T) (x : A). put t) put old new same by out is_commit commit step a b (Ok done) called
  calls-plainly {T} {A} action is w put old new same by out is_commit commit step a b (Err why) called = calls-anyhow action is w (λ (t : T) (x : A). put t) put old new same by out is_commit commit step a b (Err why) called

-- The publisher closes its generation.
module _ {P S R : Type 0} (tables : P → PublisherTables) (subscriber_tables : S → SubscriberTables) (tally : R → ℕ) where
  pub closes : (publication : Publication) (says : Saying) (p p' : P) (ss : List S) (rs : List R) (pool : List Letter) (moment : Moment) (a b : ℕ) (r : Result ℕ Refusal)
      → Called (close_generation moment (tables p)) (closing_commits moment (tables p).latest (tables p).gens) (tables p) (tables p') a b r
      → Acts publication says (CloseAt (record { 0 = 0 })) (world_of tables subscriber_tables tally p ss rs pool moment) (world_of tables subscriber_tables tally p' ss rs pool moment) (outcome_by Closes r) a b
  closes publication says p p' ss rs pool moment a b r called = let w = world_of tables subscriber_tables tally p ss rs pool moment in
      calls-plainly publication says (CloseAt (record { 0 = 0 })) refl w (λ (t : PublisherTables). with_publisher t w) (tables p) (tables p') refl (close_generation moment (tables p)) Closes
      (closing_commits moment (tables p).latest (tables p).gens) (λ x commit. commit) refl a b r called

-- A subscriber makes a message, or has none to make, and takes a reply.
module _ (p : Publication) (says : Saying) where
  abbrev pub with_letter : {A : Type 0} → World → SiteId → (A → Request) → SubscriberTables → A → World
  with_letter w site message tables m = record w { subscribers = put_number w.subscribers tables.site.0 tables; pool = w.pool ++ record { site = site; message = Asks (message m) } ∷ [] }

  abbrev pub with_letter_if : {A : Type 0} → World → SiteId → (A → Request) → SubscriberTables → Option A → World
  with_letter_if w site message tables None = w
  with_letter_if w site message tables (Some m) = with_letter w site message tables m

  abbrev pub posting_out : {A : Type 0} → World → Option A → Outcome
  posting_out w None = NoPost
  posting_out w (Some m) = Posted (length w.pool + 1)

  posted-as : {A : Type 0} (w : World) (site : SiteId) (message : A → Request) (old : SubscriberTables) (by : Result (Option (SubscriberTables × A)) Refusal)
      → unless_refused w by (post_if_made site message w) ≡ leads p says w (with_letter_if w site message) (posting_out w) (message_or_none old by)
  posted-as w site message old (Ok None) = refl
  posted-as w site message old (Ok (Some made)) = refl
  posted-as w site message old (Err why) = refl

  message-commits : {A : Type 0} (w : World) (site : SiteId) (sending : Sending) (made : Option A) → message_commits made ≡ true → commits p w (Send site sending) (posting_out w made) ≡ true
  message-commits w site sending None is = absurd (cc)
  message-commits w site sending (Some m) is = refl

  abbrev sent : World → SiteId → Sending → Option SubscriberTables → World × Outcome
  sent w site sending found = elim found [
    | None ↦ (w, Refuses (refusal.UnknownSite site))
    | Some s ↦ send_from (by_tables w) sending w s
  ]

  -- a join, an upload or a request for ranges: `by` is what makes it
  pub sends-message : {A : Type 0} (sending : Sending) (message : A → Request) (w : World) (site : SiteId) (old new : SubscriberTables) (by : Result (Option (SubscriberTables × A)) Refusal)
      → subscriber_at w site ≡ Some old → put_number w.subscribers old.site.0 old ≡ w.subscribers → send_from (by_tables w) sending w old ≡ unless_refused w by (post_if_made old.site message w)
      → (a b : ℕ) (r : Result (Option A) Refusal) → Called (message_or_none old by) message_commits old new a b r
      → Acts p says (Send site sending) w (world_by (with_letter_if w old.site message) (λ (t : SubscriberTables). record w { subscribers = put_number w.subscribers t.site.0 t }) new r) (outcome_by (posting_out w) r) a b
  sends-message sending message w site old new by found same step a b r called = calls-anyhow p says (Send site sending) refl w (with_letter_if w old.site message)
      (λ (t : SubscriberTables). record w { subscribers = put_number w.subscribers t.site.0 t }) old new (ap (λ (l : List (ℕ × SubscriberTables)). record w { subscribers = l }) same) (message_or_none old by) (posting_out w) message_commits
      (λ x commit. message-commits w site sending x commit) (ap (sent w site sending) found ∙ (step ∙ posted-as w old.site message old by)) a b r called

  pub sends-download : (w : World) (site : SiteId) (old new : SubscriberTables) → subscriber_at w site ≡ Some old → put_number w.subscribers old.site.0 old ≡ w.subscribers
      → (a b : ℕ) (r : Result Download Refusal) → Called (make_ask old) always_commits old new a b r
      → Acts p says (Send site SendDownload) w (world_by (with_letter w old.site (λ (m : Download). request.Download m)) (λ (t : SubscriberTables). record w { subscribers = put_number w.subscribers t.site.0 t }) new r)
      (outcome_by (λ (m : Download). Posted (length w.pool + 1)) r) a b
  sends-download w site old new found same a b r called = calls-anyhow p says (Send site SendDownload) refl w (with_letter w old.site (λ (m : Download). request.Download m))
      (λ (t : SubscriberTables). record w { subscribers = put_number w.subscribers t.site.0 t }) old new (ap (λ (l : List (ℕ × SubscriberTables)). record w { subscribers = l }) same) (make_ask old) (λ (m : Download). Posted (length w.pool + 1)) always_commits
      (λ x commit. refl) (ap (sent w site SendDownload) found) a b r called

  reply-acts : (m : Reply) (taken : Taken) → reply_commits m taken ≡ true → taken_commits taken ≡ true
  reply-acts (reply.Joined m) taken is = is
  reply-acts (reply.Uploaded m) taken is = is
  reply-acts (reply.Ranged m) taken is = is
  reply-acts (reply.Downloaded m) taken is = is
  reply-acts (reply.Refused number values) taken is = absurd (cc)

  abbrev replied_at : World → Reply → SiteId → Option SubscriberTables → World × Outcome
  replied_at w m site found = elim found [
    | None ↦ (w, Refuses (refusal.UnknownSite site))
    | Some s ↦ deliver_reply p (by_tables w) m w s
  ]

  -- a reply of the pool
  pub takes-reply : (w : World) (number : ℕ) (site : SiteId) (m : Reply) (old new : SubscriberTables) → letter_at w number ≡ Some (record { site = site; message = Replies m })
      → subscriber_at w site ≡ Some old → put_number w.subscribers old.site.0 old ≡ w.subscribers
      → (a b : ℕ) (r : Result Taken Refusal) → Called (take_reply p (by_rows old) w.moment m old) (reply_commits m) old new a b r
      → Acts p says (Deliver number) w (record w { subscribers = put_number w.subscribers new.site.0 new }) (outcome_by Took r) a b
  takes-reply w number site m old new found here same a b r called = calls-plainly p says (Deliver number) refl w (λ (t : SubscriberTables). record w { subscribers = put_number w.subscribers t.site.0 t }) old new
      (ap (λ (l : List (ℕ × SubscriberTables)). record w { subscribers = l }) same) (take_reply p (by_rows old) w.moment m old) Took (reply_commits m) (λ x commit. reply-acts m x commit)
      (ap (delivered p says w number) found ∙ ap (replied_at w m site) here) a b r called
