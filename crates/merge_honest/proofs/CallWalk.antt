-- What each call of a subscriber keeps that is not refused, every step of the world keeps of all subscribers.
use Rattle.std.specs.Prelude.{Bool, Err, IfOk, None, Ok, Option, Result, Some, false, refl, if◌then◌else◌, true, ℕ, ◌==◌, ◌≡◌}
use Rattle.merge_types.specs.declared.changes.Change.{Change}
use Rattle.merge_types.specs.declared.identifiers.Moment.{Moment}
use Rattle.merge_types.specs.declared.identifiers.RowId.{RowId}
use Rattle.merge_types.specs.declared.identifiers.SiteId.{SiteId}
use Rattle.merge_schema.specs.declared.publication.Publication.{Publication}
use Rattle.merge_batch.specs.declared.refusal.Refusal.{Refusal}
use Rattle.merge_batch.specs.declared.refusal.Refusal.TheVariants.{UnknownSite}
use Rattle.merge_batch.specs.declared.reply.Downloaded.{Downloaded}
use Rattle.merge_batch.specs.declared.reply.Joined.{Joined}
use Rattle.merge_batch.specs.declared.reply.Ranged.{Ranged}
use Rattle.merge_batch.specs.declared.reply.Reply.{Reply}
use Rattle.merge_batch.specs.declared.reply.Reply.TheVariants as reply
use Rattle.merge_batch.specs.declared.reply.Uploaded.{Uploaded}
use Rattle.merge_batch.specs.declared.request.Download.{Download}
use Rattle.merge_batch.specs.declared.request.Join.{Join}
use Rattle.merge_batch.specs.declared.request.RangeAsk.{RangeAsk}
use Rattle.merge_batch.specs.declared.request.Request.{Request}
use Rattle.merge_batch.specs.declared.request.Request.TheVariants as request
use Rattle.merge_batch.specs.declared.request.Upload.{Upload}
use Rattle.merge_model.specs.Judge.{PublisherJudge, SubscriberJudge}
use Rattle.merge_model.specs.Tables.Keys.{at_number}
use Rattle.merge_model.specs.Publisher.{close_generation}
use Rattle.merge_model.specs.Publisher.PublisherDownload.{download}
use Rattle.merge_model.specs.Publisher.PublisherJoin.{join}
use Rattle.merge_model.specs.Publisher.PublisherLocal.{local}
use Rattle.merge_model.specs.Publisher.PublisherRanges.{ranges}
use Rattle.merge_model.specs.Publisher.PublisherUpload.{upload}
use Rattle.merge_model.specs.Subscriber.Reinit.{reinitialise}
use Rattle.merge_model.specs.Subscriber.Sending.{make_ask, make_join, make_ranges, make_upload}
use Rattle.merge_model.specs.World.Steps.{Action, CloseAt, Deliver, Forget, Look, Make, MakeAnew, Pass, Send, SendDownload, SendJoin, SendRanges, SendUpload, Sending, after_upload, at_subscriber, close_at, close_publisher, close_subscriber, deliver_letter, deliver_reply, deliver_request, kept_decisions, make_anew, make_at, make_at_publisher, make_at_subscriber, post, post_if_made, post_reply, send_from, step_by, unless_refused, upload_questions}
use Rattle.merge_model.specs.Subscriber.{close_subscriber_generation, subscriber_local}
use Rattle.merge_model.specs.Tables.{PublisherTables, SubscriberTables}
use Rattle.merge_model.specs.Subscriber.Taking.{take_reply}
use Rattle.merge_model.specs.World.{Judges, Saying, World, letter_at, subscriber_at, with_publisher, with_subscriber}
use Rattle.merge_model.specs.declared.letter.Letter.{Letter}
use Rattle.merge_model.specs.declared.letter.Message.{Message}
use Rattle.merge_model.specs.declared.letter.Message.TheVariants.{Asks, Replies}
use Rattle.merge_model.specs.declared.outcome.Outcome.{Outcome}
use Rattle.merge_model.specs.declared.outcome.Outcome.TheVariants.{Closes, Discards, Made, NoLetter, Refuses, Took}
use Rattle.merge_model.specs.declared.outcome.Taken.{Taken}
use Rattle.merge_honest.proofs.PutFound.{put-each}

-- of a message that was made, where one was
abbrev pub OfMade : {A : Type 0} → (SubscriberTables → Type 0) → Option (SubscriberTables × A) → Type 0
OfMade S None = Unit {0}
OfMade S (Some made) = S made.0

module _ (publication : Publication) (S : SubscriberTables → Type 0) where
  -- what each call keeps
  pub record CallsKeep : Type 0 where
    pub of_local : (now : Moment) (change : Change) (s : SubscriberTables) → S s → IfOk (subscriber_local publication now change s) (λ done. S done.0)
    pub of_close : (now : Moment) (s : SubscriberTables) → S s → IfOk (close_subscriber_generation now s) (λ done. S done.0)
    pub of_join : (s : SubscriberTables) → S s → IfOk (make_join s) (λ made. OfMade S made)
    pub of_upload : (judge : SubscriberJudge) (now : Moment) (s : SubscriberTables) → S s → IfOk (make_upload judge now s) (λ made. OfMade S made)
    pub of_ranges : (s : SubscriberTables) → S s → IfOk (make_ranges s) (λ made. OfMade S made)
    pub of_ask : (s : SubscriberTables) → S s → IfOk (make_ask s) (λ done. S done.0)
    pub of_reply : (judge : SubscriberJudge) (now : Moment) (m : Reply) (s : SubscriberTables) → S s → IfOk (take_reply publication judge now m s) (λ done. S done.0)
    pub of_anew : (judge : SubscriberJudge) (now : Moment) (s : SubscriberTables) → S s → IfOk (reinitialise judge now s) (λ done. S done.0)

  abbrev pub Holds : World → Type 0
  Holds w = (n : ℕ) (s : SubscriberTables) → at_number w.subscribers n ≡ Some s → S s

  with-holds : (t : SubscriberTables) (w : World) → S t → Holds w → Holds (with_subscriber t w)
  with-holds t w new h = put-each (λ (n : ℕ) (s : SubscriberTables). S s) w.subscribers t t refl new h

  if-holds : (b : Bool) (x y : World × Outcome) → Holds x.0 → Holds y.0 → Holds (if b then x else y).0
  if-holds true x y one other = one
  if-holds false x y one other = other

  module _ (w : World) (h : Holds w) where
    -- a step of a subscriber that there is
    found-holds : (site : SiteId) (found : Option SubscriberTables) (act : SubscriberTables → World × Outcome) → subscriber_at w site ≡ found → ((s : SubscriberTables) → S s → Holds (act s).0)
        → (let done : World × Outcome = elim found [ None ↦ (w, Refuses (UnknownSite site)) | Some s ↦ act s ] in Holds done.0)
    found-holds site None act is each = h
    found-holds site (Some s) act is each = each s (h site.0 s is)

    there-holds : (site : SiteId) (act : SubscriberTables → World × Outcome) → ((s : SubscriberTables) → S s → Holds (act s).0) → Holds (at_subscriber site w act).0
    there-holds site act each = found-holds site (subscriber_at w site) act refl each

    -- a step of the publisher leaves the subscribers
    publisher-holds : {A : Type 0} (done : Result A Refusal) (act : A → World × Outcome) → ((a : A) → Holds (act a).0) → Holds (unless_refused w done act).0
    publisher-holds (Err refusal) act each = h
    publisher-holds (Ok a) act each = each a

    call-holds : {A : Type 0} (done : Result (SubscriberTables × A) Refusal) (act : SubscriberTables × A → World × Outcome) → IfOk done (λ a. S a.0) → ((a : SubscriberTables × A) → S a.0 → Holds (act a).0) → Holds (unless_refused w done act).0
    call-holds (Err refusal) act ok each = h
    call-holds (Ok a) act ok each = each a ok

    posted-holds : {A : Type 0} (site : SiteId) (message : A → Request) (made : Option (SubscriberTables × A)) → OfMade S made → Holds (post_if_made site message w made).0
    posted-holds site message None new = h
    posted-holds site message (Some made) new = with-holds made.0 w new h

    sent-holds : {A : Type 0} (site : SiteId) (message : A → Request) (done : Result (Option (SubscriberTables × A)) Refusal) → IfOk done (λ made. OfMade S made) → Holds (unless_refused w done (post_if_made site message w)).0
    sent-holds site message (Err refusal) new = h
    sent-holds site message (Ok made) new = posted-holds site message made new

    module _ (keeps : CallsKeep) (says : Saying) (judges : Judges) where
      make-holds : (site : SiteId) (change : Change) → Holds (make_at publication judges site change w).0
      make-holds site change = if-holds (site.0 == 0) (make_at_publisher publication judges change w) (at_subscriber site w (make_at_subscriber publication change w))
          (publisher-holds (local publication (judges.publisher 0) w.moment change w.publisher) (λ (done : PublisherTables × RowId). (with_publisher done.0 w, Made done.1)) (λ a. h))
          (there-holds site (make_at_subscriber publication change w)
          (λ s k. call-holds (subscriber_local publication w.moment change s) (λ (done : SubscriberTables × RowId). (with_subscriber done.0 w, Made done.1)) (keeps.of_local w.moment change s k) (λ a new. with-holds a.0 w new h)))

      close-holds : (site : SiteId) → Holds (close_at site w).0
      close-holds site = if-holds (site.0 == 0) (close_publisher w) (at_subscriber site w (close_subscriber w))
          (publisher-holds (close_generation w.moment w.publisher) (λ (done : PublisherTables × ℕ). (with_publisher done.0 w, Closes done.1)) (λ a. h))
          (there-holds site (close_subscriber w)
          (λ s k. call-holds (close_subscriber_generation w.moment s) (λ (done : SubscriberTables × ℕ). (with_subscriber done.0 w, Closes done.1)) (keeps.of_close w.moment s k) (λ a new. with-holds a.0 w new h)))

      send-holds : (sending : Sending) (s : SubscriberTables) → S s → Holds (send_from judges sending w s).0
      send-holds SendJoin s k = sent-holds s.site (λ (m : Join). request.Join m) (make_join s) (keeps.of_join s k)
      send-holds SendUpload s k = sent-holds s.site (λ (m : Upload). request.Upload m) (make_upload (judges.subscriber s.site s) w.moment s) (keeps.of_upload (judges.subscriber s.site s) w.moment s k)
      send-holds SendRanges s k = sent-holds s.site (λ (m : RangeAsk). request.Ranges m) (make_ranges s) (keeps.of_ranges s k)
      send-holds SendDownload s k = call-holds (make_ask s) (λ (made : SubscriberTables × Download). post s.site (Asks (request.Download made.1)) (with_subscriber made.0 w)) (keeps.of_ask s k) (λ a new. with-holds a.0 w new h)

      answered-holds : {A : Type 0} (site : SiteId) (message : A → Reply) (done : Result (PublisherTables × A) Refusal) → Holds (post_reply site message w done).0
      answered-holds {A = A} site message done = publisher-holds done (λ (made : PublisherTables × A). post site (Replies (message made.1)) (with_publisher made.0 w)) (λ a. h)

      upload-holds : (judge : PublisherJudge) (site : SiteId) (m : Upload) (done : Result (PublisherTables × Uploaded) Refusal) → Holds (after_upload publication says judge site m w done).0
      upload-holds judge site m (Err refusal) = h
      upload-holds judge site m (Ok made) = h

      request-holds : (judge : PublisherJudge) (site : SiteId) (m : Request) → Holds (deliver_request publication says judge site m w).0
      request-holds judge site (request.Join m) = answered-holds site (λ (made : Joined). reply.Joined made) (join publication w.moment m w.publisher)
      request-holds judge site (request.Upload m) = upload-holds judge site m (upload publication judge w.moment m (kept_decisions says w.tallies (upload_questions publication judge w.moment m w.publisher)) w.publisher)
      request-holds judge site (request.Ranges m) = answered-holds site (λ (made : Ranged). reply.Ranged made) (ranges publication judge w.moment m w.publisher)
      request-holds judge site (request.Download m) = answered-holds site (λ (made : Downloaded). reply.Downloaded made) (download publication judge w.moment m w.publisher)

      message-holds : (number : ℕ) (site : SiteId) (message : Message) → Holds (deliver_letter publication says judges number w (record { site = site; message = message })).0
      message-holds number site (Asks m) = request-holds (judges.publisher number) site m
      message-holds number site (Replies m) = there-holds site (deliver_reply publication judges m w)
          (λ s k. call-holds (take_reply publication (judges.subscriber s.site s) w.moment m s) (λ (done : SubscriberTables × Taken). (with_subscriber done.0 w, Took done.1)) (keeps.of_reply (judges.subscriber s.site s) w.moment m s k) (λ a new. with-holds a.0 w new h))

      letter-holds : (number : ℕ) (found : Option Letter) → (let done : World × Outcome = elim found [ None ↦ (w, NoLetter) | Some letter ↦ deliver_letter publication says judges number w letter ] in Holds done.0)
      letter-holds number None = h
      letter-holds number (Some letter) = message-holds number letter.site letter.message

      pub call-step : (action : Action) → Holds (step_by publication says judges w action).0
      call-step (Pass seconds) = h
      call-step (Make site change) = make-holds site change
      call-step (CloseAt site) = close-holds site
      call-step (Send site sending) = there-holds site (send_from judges sending w) (λ s k. send-holds sending s k)
      call-step (Deliver number) = letter-holds number (letter_at w number)
      call-step (MakeAnew site) = there-holds site (make_anew judges w)
          (λ s k. call-holds (reinitialise (judges.subscriber s.site s) w.moment s) (λ (done : SubscriberTables × ℕ). (with_subscriber done.0 w, Discards done.1)) (keeps.of_anew (judges.subscriber s.site s) w.moment s k) (λ a new. with-holds a.0 w new h))
      call-step Forget = h
      call-step Look = h
