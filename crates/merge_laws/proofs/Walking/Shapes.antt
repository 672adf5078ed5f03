-- The shapes that a step can have, for what is said of a step without a look at what it writes. An answer about ranges comes
-- with the ask that it answers.
use Rattle.std.specs.Prelude.{◌≡◌, ◌==◌, ◌+◌, ℕ, List, Bool, true, false, Option, Some, None, Result, Ok, Err, refl, if◌then◌else◌}
use Rattle.std.proofs.Common.{subst, sym}
use Rattle.merge_types.specs.declared.identifiers.SiteId.{SiteId}
use Rattle.merge_batch.specs.declared.refusal.Refusal.{Refusal}
use Rattle.merge_batch.specs.declared.refusal.Refusal.TheVariants.{UnknownSite}
use Rattle.merge_batch.specs.declared.reply.Ranged.{Ranged}
use Rattle.merge_batch.specs.declared.reply.Reply.{Reply}
use Rattle.merge_batch.specs.declared.reply.Reply.TheVariants as reply
use Rattle.merge_batch.specs.declared.request.Join.{Join}
use Rattle.merge_batch.specs.declared.request.RangeAsk.{RangeAsk}
use Rattle.merge_batch.specs.declared.request.Request.{Request}
use Rattle.merge_batch.specs.declared.request.Request.TheVariants as request
use Rattle.merge_batch.specs.declared.request.Upload.{Upload}
use Rattle.merge_schema.specs.declared.publication.Publication.{Publication}
use Rattle.merge_model.specs.Judge.ByHistory.{by_history, by_past}
use Rattle.merge_model.specs.History.{History, pasts_with}
use Rattle.merge_model.specs.Judge.{PublisherJudge}
use Rattle.merge_model.specs.History.Model.{did_something, noted_action, noted_if, noted_letter, noted_request, with_posted}
use Rattle.merge_model.specs.Publisher.{close_generation}
use Rattle.merge_model.specs.Publisher.PublisherDownload.{download}
use Rattle.merge_model.specs.Publisher.PublisherJoin.{join}
use Rattle.merge_model.specs.Publisher.PublisherLocal.{local}
use Rattle.merge_model.specs.Publisher.PublisherRanges.{plans, ranges_refusal, reply_to_ranges, with_grants}
use Rattle.merge_model.specs.Publisher.PublisherUpload.{upload}
use Rattle.merge_model.specs.Tables.Refusals.{unless}
use Rattle.merge_model.specs.Subscriber.Reinit.{reinitialise}
use Rattle.merge_model.specs.Subscriber.Sending.{make_ask, make_join, make_ranges, make_upload}
use Rattle.merge_model.specs.World.Steps.{Action, CloseAt, Deliver, Forget, Look, Make, MakeAnew, Pass, Send, SendDownload, SendJoin, SendRanges, SendUpload, Sending, at_subscriber, close_publisher, close_subscriber, deliver_letter, deliver_reply, deliver_request, kept_decisions, make_anew, make_at_publisher, make_at_subscriber, post, post_if_made, post_reply, send_from, step_by, unless_refused, upload_questions}
use Rattle.merge_model.specs.declared.outcome.Outcome.TheVariants.{NoLetter, Refuses}
use Rattle.merge_model.specs.declared.outcome.Outcome.{Outcome}
use Rattle.merge_model.specs.Subscriber.{close_subscriber_generation, subscriber_local}
use Rattle.merge_model.specs.Tables.{PublisherTables, SubscriberTables}
use Rattle.merge_model.specs.Subscriber.Taking.{take_reply}
use Rattle.merge_model.specs.World.{Saying, World, letter_at, subscriber_at, with_publisher, with_subscriber}
use Rattle.merge_model.specs.declared.letter.Message.TheVariants.{Asks, Replies}
use Rattle.merge_model.specs.declared.letter.Letter.{Letter}
use Rattle.merge_model.specs.declared.letter.Message.{Message}
use Rattle.merge_laws.proofs.Walking.{Sends, comes, here, posted-noted}

abbrev pub is_ranged : Reply → Bool
is_ranged (reply.Ranged m) = true
is_ranged m = false

pub record Shapes (publication : Publication) (w : World) (h : History) (S : World → History → Type 0) : Type 0 where
  -- it is refused, or there is nothing to do
  pub nothing : (k : History) → S w k
  pub passes : (seconds : ℕ) (k : History) → S (record w { moment = record { 0 = w.moment.0 + seconds } }) k
  pub publisher : (q : PublisherTables) (k : History) → S (with_publisher q w) k
  pub subscriber : (t : SubscriberTables) (k : History) → S (with_subscriber t w) k
  pub asks : (t : SubscriberTables) (site : SiteId) (m : Request) (k : History) → S (post site (Asks m) (with_subscriber t w)).0 k
  pub answers : (q : PublisherTables) (tallies : List ℕ) (site : SiteId) (m : Reply) (k : History) → is_ranged m ≡ false → S (post site (Replies m) (record w { publisher = q; tallies = tallies })).0 k
  pub ranges : (number : ℕ) (site : SiteId) (m : RangeAsk) → comes w number site (Asks (request.Ranges m))
      → Sends S site (Replies (reply.Ranged (reply_to_ranges m (plans publication m w.publisher)))) (with_publisher (with_grants (plans publication m w.publisher) (here w)) w) h

module _ (publication : Publication) (says : Saying) (w : World) (h : History) (S : World → History → Type 0) (shapes : Shapes publication w h S) where
  if-shaped : (b : Bool) (x y : World × Outcome) (k : History) → S x.0 k → S y.0 k → S (if b then x else y).0 k
  if-shaped true x y k one other = one
  if-shaped false x y k one other = other

  unless-shaped : {A : Type 0} (done : Result A Refusal) (act : A → World × Outcome) (k : History) → ((a : A) → S (act a).0 k) → S (unless_refused w done act).0 k
  unless-shaped (Err why) act k each = shapes.nothing k
  unless-shaped (Ok a) act k each = each a

  found-shaped : (site : SiteId) (found : Option SubscriberTables) (act : SubscriberTables → World × Outcome) (k : History) → ((s : SubscriberTables) → S (act s).0 k)
      → (let done : World × Outcome = elim found [ None ↦ (w, Refuses (UnknownSite site)) | Some s ↦ act s ] in S done.0 k)
  found-shaped site None act k each = shapes.nothing k
  found-shaped site (Some s) act k each = each s

  posted-shaped : {A : Type 0} (site : SiteId) (message : A → Request) (made : Option (SubscriberTables × A)) (k : History) → S (post_if_made site message w made).0 k
  posted-shaped site message None k = shapes.nothing k
  posted-shaped site message (Some made) k = shapes.asks made.0 site (message made.1) k

  send-shaped : (sending : Sending) (s : SubscriberTables) (k : History) → S (send_from (by_history h) sending w s).0 k
  send-shaped SendJoin s k = unless-shaped (make_join s) _ k (λ a. posted-shaped s.site (λ (m : Join). request.Join m) a k)
  send-shaped SendUpload s k = unless-shaped (make_upload ((by_history h).subscriber s.site s) w.moment s) _ k (λ a. posted-shaped s.site (λ (m : Upload). request.Upload m) a k)
  send-shaped SendRanges s k = unless-shaped (make_ranges s) _ k (λ a. posted-shaped s.site (λ (m : RangeAsk). request.Ranges m) a k)
  send-shaped SendDownload s k = unless-shaped (make_ask s) _ k (λ a. shapes.asks a.0 s.site (request.Download a.1) k)

  -- Deliveries, with what they note.

  abbrev After : World × Outcome → History → Type 0
  After done after = S done.0 (with_posted done.0 done.1 (noted_if (did_something done.1) after h))

  ranges-shaped : (number : ℕ) (site : SiteId) (m : RangeAsk) (refusal : Option Refusal) → comes w number site (Asks (request.Ranges m))
      → (let done : Result (PublisherTables × Ranged) Refusal = unless refusal (with_grants (plans publication m w.publisher) (here w), reply_to_ranges m (plans publication m w.publisher)) in After (post_reply site (λ (made : Ranged). reply.Ranged made) w done) h)
  ranges-shaped number site m (Some why) at = shapes.nothing h
  ranges-shaped number site m None at =
      let v : World = with_publisher (with_grants (plans publication m w.publisher) (here w)) w in
      let message : Message = Replies (reply.Ranged (reply_to_ranges m (plans publication m w.publisher))) in
      subst (λ (k : History). S (post site message v).0 k) (sym (posted-noted site message v h)) (shapes.ranges number site m at)

  request-shaped : (number : ℕ) (site : SiteId) (m : Request) → comes w number site (Asks m)
      → (let judge : PublisherJudge = by_past h (pasts_with h number) in After (deliver_request publication says judge site m w) (noted_request publication says judge (pasts_with h number) w m h))
  request-shaped number site (request.Join m) at = unless-shaped (join publication w.moment m w.publisher) _ _ (λ a. shapes.answers a.0 w.tallies site (reply.Joined a.1) _ refl)
  request-shaped number site (request.Upload m) at =
      let judge : PublisherJudge = by_past h (pasts_with h number) in
      unless-shaped (upload publication judge w.moment m (kept_decisions says w.tallies (upload_questions publication judge w.moment m w.publisher)) w.publisher) _ _ (λ a. shapes.answers a.0 _ site (reply.Uploaded a.1) _ refl)
  request-shaped number site (request.Ranges m) at = ranges-shaped number site m (ranges_refusal publication (by_past h (pasts_with h number)) w.moment m w.publisher) at
  request-shaped number site (request.Download m) at =
      unless-shaped (download publication (by_past h (pasts_with h number)) w.moment m w.publisher) _ _ (λ a. shapes.answers a.0 w.tallies site (reply.Downloaded a.1) _ refl)

  message-shaped : (number : ℕ) (site : SiteId) (message : Message) → comes w number site message
      → (let letter : Letter = record { site = site; message = message } in After (deliver_letter publication says (by_history h) number w letter) (noted_letter publication says (by_history h) number w letter h))
  message-shaped number site (Asks m) at = request-shaped number site m at
  message-shaped number site (Replies m) at =
      found-shaped site (subscriber_at w site) (deliver_reply publication (by_history h) m w) _ (λ s. unless-shaped (take_reply publication ((by_history h).subscriber s.site s) w.moment m s) _ _ (λ a. shapes.subscriber a.0 _))

  letter-shaped : (number : ℕ) (found : Option Letter) → letter_at w number ≡ found
      → (let done : World × Outcome = elim found [ None ↦ (w, NoLetter) | Some letter ↦ deliver_letter publication says (by_history h) number w letter ] in
      let after : History = elim found [ None ↦ h | Some letter ↦ noted_letter publication says (by_history h) number w letter h ] in After done after)
  letter-shaped number None at = shapes.nothing h
  letter-shaped number (Some letter) at = message-shaped number letter.site letter.message at

  -- every step
  pub step-shaped : (action : Action) → After (step_by publication says (by_history h) w action) (noted_action publication says (by_history h) w action h)
  step-shaped (Pass seconds) = shapes.passes seconds _
  step-shaped (Make site change) = if-shaped (site.0 == 0) (make_at_publisher publication (by_history h) change w) (at_subscriber site w (make_at_subscriber publication change w)) _
      (unless-shaped (local publication ((by_history h).publisher 0) w.moment change w.publisher) _ _ (λ a. shapes.publisher a.0 _))
      (found-shaped site (subscriber_at w site) (make_at_subscriber publication change w) _ (λ s. unless-shaped (subscriber_local publication w.moment change s) _ _ (λ a. shapes.subscriber a.0 _)))
  step-shaped (CloseAt site) = if-shaped (site.0 == 0) (close_publisher w) (at_subscriber site w (close_subscriber w)) _
      (unless-shaped (close_generation w.moment w.publisher) _ _ (λ a. shapes.publisher a.0 _))
      (found-shaped site (subscriber_at w site) (close_subscriber w) _ (λ s. unless-shaped (close_subscriber_generation w.moment s) _ _ (λ a. shapes.subscriber a.0 _)))
  step-shaped (Send site sending) = found-shaped site (subscriber_at w site) (send_from (by_history h) sending w) _ (λ s. send-shaped sending s _)
  step-shaped (Deliver number) = letter-shaped number (letter_at w number) refl
  step-shaped (MakeAnew site) = found-shaped site (subscriber_at w site) (make_anew (by_history h) w) _ (λ s. unless-shaped (reinitialise ((by_history h).subscriber s.site s) w.moment s) _ _ (λ a. shapes.subscriber a.0 _))
  step-shaped Forget = shapes.publisher _ _
  step-shaped Look = shapes.nothing _
