-- An exchange of a session, step by step: a message is made, it comes to the publisher, and the reply comes back. Nothing else
-- happens in between, so that what comes is what was posted last.
use Rattle.std.specs.Prelude.{◌≡◌, ◌+◌, ℕ, suc, Bool, Option, Some, None, Result, Ok, if◌then◌else◌, length, refl}
use Rattle.std.proofs.Common.{arith, subst, sym, ap, ◌∙◌}
use Rattle.merge_types.specs.declared.identifiers.SiteId.{SiteId}
use Rattle.merge_schema.specs.declared.publication.Publication.{Publication}
use Rattle.merge_batch.specs.declared.refusal.Refusal.{Refusal}
use Rattle.merge_batch.specs.declared.refusal.Refusal.TheVariants.{UnknownSite}
use Rattle.merge_batch.specs.declared.reply.Reply.{Reply}
use Rattle.merge_batch.specs.declared.request.Outstanding.{Outstanding}
use Rattle.merge_model.specs.Judge.ByHistory.{by_history, by_made}
use Rattle.merge_model.specs.World.Faults.{reply_fault}
use Rattle.merge_model.specs.History.{History, pasts_with}
use Rattle.merge_model.specs.Judge.{SubscriberJudge}
use Rattle.merge_model.specs.History.Model.{Model, did_something, model, model_step, noted_if, noted_letter, with_letter, with_posted}
use Rattle.merge_model.specs.History.Noting.{noted_reply}
use Rattle.merge_model.specs.Tables.Refusals.{unless}
use Rattle.merge_model.specs.World.Session.{ask, then_deliver}
use Rattle.merge_model.specs.World.Steps.{Deliver, Sending, deliver_letter, deliver_reply, post, send_from, unless_refused}
use Rattle.merge_model.specs.declared.outcome.Outcome.TheVariants.{NoLetter, NoPost, Posted, Refuses, Took}
use Rattle.merge_model.specs.declared.outcome.Outcome.{Outcome}
use Rattle.merge_model.specs.Tables.{SubscriberTables}
use Rattle.merge_model.specs.Subscriber.Taking.{met_by, seq_of, tables_after_reply}
use Rattle.merge_model.specs.declared.outcome.Taken.TheVariants.{Acted, Missed}
use Rattle.merge_model.specs.declared.outcome.Taken.{Taken}
use Rattle.merge_model.specs.World.{World, letter_at, subscriber_at, with_subscriber}
use Rattle.merge_model.specs.declared.letter.Letter.{Letter}
use Rattle.merge_model.specs.declared.letter.Message.{Message}
use Rattle.merge_model.specs.declared.letter.Message.TheVariants.{Replies}
use Rattle.merge_model.specs.World.{Saying}
use Rattle.merge_model.proofs.Lists.Tests.{number-itself}
use Rattle.merge_laws.proofs.Walking.{letter-last}

-- how an exchange ends: its reply acted, something was refused, or there was no message to make
abbrev pub Ends : (Model → Type 0) → (Model → Type 0) → Model × Outcome → Type 0
Ends Acts Rests (k, Took taken) = Acts k
Ends Acts Rests (k, Refuses refusal) = Unit {0}
Ends Acts Rests (k, NoPost) = Rests k
Ends Acts Rests (k, outcome) = ⊥

-- what is said of a model behind a step, with what the step notes where it did something
abbrev pub After : (Model × Outcome → Type 0) → World × Outcome → History → History → Type 0
After K done noting before = K (record { world = done.0; history = with_posted done.0 done.1 (noted_if (did_something done.1) noting before) }, done.1)

-- behind a message that was posted
abbrev pub posted_model : SiteId → Message → World → History → Model
posted_model site message w h = record { world = (post site message w).0; history = with_letter (record { site = site; message = message }) h }

pub letter-there : (site : SiteId) (message : Message) (w : World) → letter_at (post site message w).0 (length w.pool + 1) ≡ Some (record { site = site; message = message })
letter-there site message w =
    let next : length w.pool + 1 ≡ suc (length w.pool) = omega arith in
    ap (λ (k : ℕ). letter_at (post site message w).0 k) next ∙ letter-last w.pool (record { site = site; message = message })

pub post-step : (K : Model × Outcome → Type 0) (site : SiteId) (message : Message) (w : World) (noting before : History) → K (posted_model site message w noting, Posted (length w.pool + 1)) → After K (post site message w) noting before
post-step K site message w noting before holds =
    subst (λ (found : Option Letter). (let h : History = elim found [ None ↦ noting | Some letter ↦ with_letter letter noting ] in K (record { world = (post site message w).0; history = h }, Posted (length w.pool + 1))))
    (sym (letter-there site message w)) holds

pub unless-step : {A : Type 0} (K : Model × Outcome → Type 0) (w : World) (h : History) → ((why : Refusal) → K (record { world = w; history = h }, Refuses why))
    → (fault : Option Refusal) (a : A) (act : A → World × Outcome) (noting : History) → (fault ≡ None → After K (act a) noting h) → After K (unless_refused w (unless fault a) act) noting h
unless-step K w h refused (Some why) a act noting holds = refused why
unless-step K w h refused None a act noting holds = holds refl

module _ (publication : Publication) (says : Saying) (Acts Rests : Model → Type 0) (site : SiteId) where
  -- behind the reply, behind the answer, and behind the message
  abbrev pub Ended : Model × Outcome → Type 0
  Ended done = Ends Acts Rests done

  abbrev pub Answered : Model × Outcome → Type 0
  Answered (k, Posted number) = Ended (model_step publication says k (Deliver number))
  Answered (k, Refuses refusal) = Unit {0}
  Answered (k, NoPost) = Rests k
  Answered (k, outcome) = ⊥

  abbrev pub Sent : Model × Outcome → Type 0
  Sent done = Answered (then_deliver (model publication says) site done)

  pub send-step : (m : Model) (s : SubscriberTables) (sending : Sending) → subscriber_at m.world site ≡ Some s → After Sent (send_from (by_history m.history) sending m.world s) m.history m.history
      → Answered (ask (model publication says) site sending m)
  send-step m s sending at holds =
      subst (λ (found : Option SubscriberTables). (let done : World × Outcome = elim found [ None ↦ (m.world, Refuses (UnknownSite site)) | Some t ↦ send_from (by_history m.history) sending m.world t ] in After Sent done m.history m.history)) (sym at) holds

  -- the letter that was posted last comes
  pub comes-step : (K : Model × Outcome → Type 0) (from : SiteId) (message : Message) (w : World) (h : History)
      → (let k : Model = posted_model from message w h in let letter : Letter = record { site = from; message = message } in
      After K (deliver_letter publication says (by_history k.history) (length w.pool + 1) k.world letter) (noted_letter publication says (by_history k.history) (length w.pool + 1) k.world letter k.history) k.history)
      → K (then_deliver (model publication says) site (posted_model from message w h, Posted (length w.pool + 1)))
  comes-step K from message w h holds =
      let k : Model = posted_model from message w h in
      subst (λ (found : Option Letter). (
      let done : World × Outcome = elim found [ None ↦ (k.world, NoLetter) | Some letter ↦ deliver_letter publication says (by_history k.history) (length w.pool + 1) k.world letter ] in
      let noting : History = elim found [ None ↦ k.history | Some letter ↦ noted_letter publication says (by_history k.history) (length w.pool + 1) k.world letter k.history ] in
      After K done noting k.history))
      (sym (letter-there from message w)) holds

  -- a reply that was posted comes to its site
  pub back-step : (w : World) (h : History) (t : SubscriberTables) (m : Reply) → subscriber_at w t.site ≡ Some t
      → (let k : Model = posted_model t.site (Replies m) w h in After Ended (deliver_reply publication (by_history k.history) m k.world t) (noted_reply (by_made k.history t.site) t.site (pasts_with k.history (length w.pool + 1)) m k.history) k.history)
      → Answered (posted_model t.site (Replies m) w h, Posted (length w.pool + 1))
  back-step w h t m at holds =
      let k : Model = posted_model t.site (Replies m) w h in
      comes-step Ended t.site (Replies m) w h (subst (λ (found : Option SubscriberTables). (
      let done : World × Outcome = elim found [ None ↦ (k.world, Refuses (UnknownSite t.site)) | Some u ↦ deliver_reply publication (by_history k.history) m k.world u ] in
      let noting : History = elim found [ None ↦ k.history | Some u ↦ noted_reply (by_made k.history t.site) t.site (pasts_with k.history (length w.pool + 1)) m k.history ] in
      After Ended done noting k.history)) (sym at) holds)

  -- and acts where it fits, since it answers the outstanding message
  pub reply-step : (w : World) (h : History) (judge : SubscriberJudge) (t : SubscriberTables) (m : Reply) (sent : Outstanding) (noting : History)
      → (reply_fault publication sent m t ≡ None → Acts (record { world = with_subscriber (tables_after_reply judge w.moment m t) w; history = noting }))
      → After Ended (unless_refused w (met_by publication judge w.moment m t (Some (seq_of m, sent))) (λ (done : SubscriberTables × Taken). (with_subscriber done.0 w, Took done.1))) noting h
  reply-step w h judge t m sent noting acts =
      let act : SubscriberTables × Taken → World × Outcome = λ (done : SubscriberTables × Taken). (with_subscriber done.0 w, Took done.1) in
      subst (λ (b : Bool). (
      let done : Result (SubscriberTables × Taken) Refusal = if b then unless (reply_fault publication sent m t) (tables_after_reply judge w.moment m t, Acted) else Ok (t, Missed (seq_of m) (seq_of m)) in
      After Ended (unless_refused w done act) noting h)) (sym (number-itself (seq_of m)))
      (unless-step Ended w h (λ why. tt) (reply_fault publication sent m t) (tables_after_reply judge w.moment m t, Acted) act noting acts)
