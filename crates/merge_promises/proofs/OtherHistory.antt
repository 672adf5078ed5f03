-- A step at which no site changes a row, and none is made anew, leaves the changes that each subscriber made.
use Rattle.std.specs.Prelude.{Bool, List, None, Option, Some, [], false, filter, if◌then◌else◌, refl, true, ℕ, ◌==◌, ◌∷◌, ◌≡◌}
use Rattle.std.proofs.Common.{ap, ◌∙◌}
use Rattle.merge_types.specs.declared.identifiers.SiteId.{SiteId}
use Rattle.merge_schema.specs.declared.publication.Publication.{Publication}
use Rattle.merge_batch.specs.declared.request.Request.{Request}
use Rattle.merge_batch.specs.declared.request.Request.TheVariants as request
use Rattle.merge_model.specs.Failing.{Slip, Slips, acting_with, fails, faulty, is_allowed, slip_if}
use Rattle.merge_model.specs.History.Model.{Model, did_something, model, model_step, noted_action, noted_if, noted_letter, noted_request, with_letter, with_posted}
use Rattle.merge_model.specs.History.Noting
use Rattle.merge_model.specs.History.{History, MadeChange, made_at, pasts_with}
use Rattle.merge_model.specs.Judge.ByHistory.{by_history, by_past}
use Rattle.merge_model.specs.Judge.{PublisherJudge}
use Rattle.merge_model.specs.Publisher.PublisherJoin.{join_acts}
use Rattle.merge_model.specs.Publisher.PublisherUpload.{brings_news}
use Rattle.merge_model.specs.World.Steps.{Action, CloseAt, Deliver, Forget, Look, Make, MakeAnew, Pass, Send, step_by}
use Rattle.merge_model.specs.World.{Judges, Saying, World, letter_at, subscriber_at}
use Rattle.merge_model.specs.declared.letter.Letter.{Letter}
use Rattle.merge_model.specs.declared.letter.Message.{Message}
use Rattle.merge_model.specs.declared.letter.Message.TheVariants.{Asks, Replies}
use Rattle.merge_model.specs.declared.outcome.Outcome.{Outcome}
use Rattle.merge_model.specs.declared.outcome.Outcome.TheVariants.{Posted}
use Rattle.merge_laws.proofs.Identities.IdentityNotes.{purge-made, taker-made}
use Rattle.merge_laws.proofs.Numbered.Tellings.{joined-alike, uploaded-alike}
use Rattle.merge_laws.proofs.Walking.{acts_in, here, join_noted}
use Rattle.merge_laws.proofs.Sessions.RoundStays.{if-made}
use Rattle.merge_promises.specs.SpacedRounds.{is_other}

-- what is posted is no change
letter-made : (k : History) (found : Option Letter) → (let x : History = elim found [ None ↦ k | Some letter ↦ with_letter letter k ] in x.made ≡ k.made)
letter-made k None = refl
letter-made k (Some letter) = refl

posted-made : (w : World) (outcome : Outcome) (k : History) → (with_posted w outcome k).made ≡ k.made
posted-made w (Posted number) k = letter-made k (letter_at w number)
posted-made w outcome k = refl

noted-made : (b : Bool) (x y : History) (n : ℕ) → made_at x n ≡ made_at y n → made_at (noted_if b x y) n ≡ made_at y n
noted-made true x y n same = same
noted-made false x y n same = refl

of-made : (x y : History) (n : ℕ) → x.made ≡ y.made → made_at x n ≡ made_at y n
of-made x y n same = ap (λ (made : List MadeChange). filter (λ (change : MadeChange). change.dot.site.0 == n) made) same

module _ (publication : Publication) (says : Saying) (m : Model) (n : ℕ) (named : n ≡ 0 → ⊥) where
  abbrev w : World
  w = m.world

  abbrev h : History
  h = m.history

  abbrev judges : Judges
  judges = by_history m.history

  request-made : (number : ℕ) (r : Request) → made_at (noted_request publication says (judges.publisher number) (pasts_with h number) w r h) n ≡ made_at h n
  request-made number (request.Join j) =
      let judge : PublisherJudge = by_past h (pasts_with h number) in
      if-made (join_acts j w.publisher) (join_noted judge j w.publisher h) h n ((joined-alike publication says h judge j w.publisher).made n named)
  request-made number (request.Upload u) =
      let judge : PublisherJudge = by_past h (pasts_with h number) in
      if-made (brings_news judge u) (Noting.with_acts_noted publication judge u (acts_in publication says judge u w) (pasts_with h number) (here w) h) h n ((uploaded-alike publication says judge u (pasts_with h number) w h).made n named)
  request-made number (request.Ranges r) = refl
  request-made number (request.Download r) = refl

  message-made : (number : ℕ) (site : SiteId) (message : Message) → (let letter : Letter = record { site = site; message = message } in made_at (noted_letter publication says judges number w letter h) n ≡ made_at h n)
  message-made number site (Asks r) = request-made number r
  message-made number site (Replies r) = of-made (noted_letter publication says judges number w (record { site = site; message = Replies r }) h) h n (taker-made judges site (pasts_with h number) r (subscriber_at w site) h)

  found-made : (number : ℕ) (found : Option Letter) → (let x : History = elim found [ None ↦ h | Some letter ↦ noted_letter publication says judges number w letter h ] in made_at x n ≡ made_at h n)
  found-made number None = refl
  found-made number (Some letter) = message-made number letter.site letter.message

  noted-same : (action : Action) → is_other action ≡ true → made_at (noted_action publication says judges w action h) n ≡ made_at h n
  noted-same (Pass seconds) other = refl
  noted-same (Make site change) other = absurd (cc other)
  noted-same (CloseAt site) other = refl
  noted-same (Send site sending) other = refl
  noted-same (Deliver number) other = found-made number (letter_at w number)
  noted-same (MakeAnew site) other = absurd (cc other)
  noted-same Forget other = of-made (noted_action publication says judges w Forget h) h n (purge-made publication (judges.publisher 0) (here w) h)
  noted-same Look other = refl

  step-made : (action : Action) → is_other action ≡ true → made_at (model_step publication says m action).0.history n ≡ made_at h n
  step-made action other =
      let done : World × Outcome = step_by publication says judges w action in
      let more : History = noted_action publication says judges w action h in
      of-made (with_posted done.0 done.1 (noted_if (did_something done.1) more h)) (noted_if (did_something done.1) more h) n (posted-made done.0 done.1 (noted_if (did_something done.1) more h))
      ∙ noted-made (did_something done.1) more h n (noted-same action other)

  -- And so does one that may fail.

  slip-made : (allowed : Bool) (slips : Slips) (slip : Slip) (action : Action) → is_other action ≡ true → made_at (slip_if publication (model publication says) allowed slips slip action m (model_step publication says m action)).0.world.history n ≡ made_at h n
  slip-made true slips slip action other = refl
  slip-made false slips slip action other = step-made action other

  acting-made : (slips : Slips) (action : Action) → is_other action ≡ true → made_at (acting_with publication (model publication says) slips action m (model_step publication says m action)).0.world.history n ≡ made_at h n
  acting-made [] action other = step-made action other
  acting-made (None ∷ slips) action other = step-made action other
  acting-made (Some slip ∷ slips) action other = slip-made (is_allowed publication m.world action slip (model_step publication says m action).1) slips slip action other

  pub fails-made : (slips : Slips) (action : Action) → is_other action ≡ true → made_at (fails publication (model publication says) (faulty m slips) action).0.world.history n ≡ made_at h n
  fails-made slips (Pass seconds) other = step-made (Pass seconds) other
  fails-made slips (Make site change) other = absurd (cc other)
  fails-made slips (CloseAt site) other = acting-made slips (CloseAt site) other
  fails-made slips (Send site sending) other = acting-made slips (Send site sending) other
  fails-made slips (Deliver number) other = acting-made slips (Deliver number) other
  fails-made slips (MakeAnew site) other = absurd (cc other)
  fails-made slips Forget other = acting-made slips Forget other
  fails-made slips Look other = acting-made slips Look other
