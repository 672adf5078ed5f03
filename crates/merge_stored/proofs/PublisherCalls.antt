-- What each call of the publisher keeps that is not refused, every step keeps, whatever the sites decide by.
use Rattle.std.specs.Prelude.{Bool, Err, IfOk, List, None, Ok, Option, Result, Some, false, if◌then◌else◌, true, ℕ, ◌==◌}
use Rattle.merge_types.specs.declared.changes.Change.{Change}
use Rattle.merge_types.specs.declared.identifiers.Moment.{Moment}
use Rattle.merge_types.specs.declared.identifiers.RowId.{RowId}
use Rattle.merge_types.specs.declared.identifiers.SiteId.{SiteId}
use Rattle.merge_units.specs.declared.result.Decision.{Decision}
use Rattle.merge_schema.specs.declared.publication.Publication.{Publication}
use Rattle.merge_batch.specs.declared.refusal.Refusal.{Refusal}
use Rattle.merge_batch.specs.declared.refusal.Refusal.TheVariants.{UnknownSite}
use Rattle.merge_batch.specs.declared.reply.Downloaded.{Downloaded}
use Rattle.merge_batch.specs.declared.reply.Joined.{Joined}
use Rattle.merge_batch.specs.declared.reply.Ranged.{Ranged}
use Rattle.merge_batch.specs.declared.reply.Reply.{Reply}
use Rattle.merge_batch.specs.declared.reply.Reply.TheVariants as reply
use Rattle.merge_batch.specs.declared.reply.Uploaded.{Uploaded}
use Rattle.merge_batch.specs.declared.request.Download.{Download}
use Rattle.merge_batch.specs.declared.request.Join.{Join}
use Rattle.merge_batch.specs.declared.request.RangeAsk.{RangeAsk}
use Rattle.merge_batch.specs.declared.request.Request.{Request}
use Rattle.merge_batch.specs.declared.request.Request.TheVariants as request
use Rattle.merge_batch.specs.declared.request.Upload.{Upload}
use Rattle.merge_model.specs.Judge.{PublisherJudge}
use Rattle.merge_model.specs.Publisher.{close_generation}
use Rattle.merge_model.specs.Publisher.PublisherDownload.{download}
use Rattle.merge_model.specs.Publisher.PublisherJoin.{join}
use Rattle.merge_model.specs.Publisher.PublisherLocal.{local}
use Rattle.merge_model.specs.Publisher.PublisherPurge.{purge}
use Rattle.merge_model.specs.Publisher.PublisherRanges.{ranges}
use Rattle.merge_model.specs.Publisher.PublisherUpload.{upload}
use Rattle.merge_model.specs.Subscriber.Reinit.{reinitialise}
use Rattle.merge_model.specs.Subscriber.Sending.{make_ask, make_join, make_ranges, make_upload}
use Rattle.merge_model.specs.World.Steps.{Action, CloseAt, Deliver, Forget, Look, Make, MakeAnew, Pass, Send, SendDownload, SendJoin, SendRanges, SendUpload, Sending, after_upload, at_subscriber, close_at, close_publisher, close_subscriber, deliver_letter, deliver_reply, deliver_request, kept_decisions, make_anew, make_at, make_at_publisher, make_at_subscriber, post, post_if_made, post_reply, send_from, step_by, unless_refused, upload_questions}
use Rattle.merge_model.specs.Subscriber.{close_subscriber_generation, subscriber_local}
use Rattle.merge_model.specs.Tables.{PublisherTables, SubscriberTables}
use Rattle.merge_model.specs.Subscriber.Taking.{take_reply}
use Rattle.merge_model.specs.World.{Judges, Saying, World, letter_at, subscriber_at, with_publisher, with_subscriber}
use Rattle.merge_model.specs.declared.letter.Letter.{Letter}
use Rattle.merge_model.specs.declared.letter.Message.{Message}
use Rattle.merge_model.specs.declared.letter.Message.TheVariants.{Asks, Replies}
use Rattle.merge_model.specs.declared.outcome.Outcome.{Outcome}
use Rattle.merge_model.specs.declared.outcome.Outcome.TheVariants.{Closes, Discards, Made, NoLetter, Refuses, Took}
use Rattle.merge_model.specs.declared.outcome.Taken.{Taken}

module _ (publication : Publication) (S : PublisherTables → Type 0) where
  pub record PublisherCallsKeep : Type 0 where
    pub of_local : (judge : PublisherJudge) (now : Moment) (change : Change) (p : PublisherTables) → S p → IfOk (local publication judge now change p) (λ done. S done.0)
    pub of_close : (now : Moment) (p : PublisherTables) → S p → IfOk (close_generation now p) (λ done. S done.0)
    pub of_join : (now : Moment) (m : Join) (p : PublisherTables) → S p → IfOk (join publication now m p) (λ done. S done.0)
    pub of_upload : (judge : PublisherJudge) (now : Moment) (m : Upload) (decisions : List Decision) (p : PublisherTables) → S p → IfOk (upload publication judge now m decisions p) (λ done. S done.0)
    pub of_ranges : (judge : PublisherJudge) (now : Moment) (m : RangeAsk) (p : PublisherTables) → S p → IfOk (ranges publication judge now m p) (λ done. S done.0)
    pub of_ask : (judge : PublisherJudge) (now : Moment) (m : Download) (p : PublisherTables) → S p → IfOk (download publication judge now m p) (λ done. S done.0)
    pub of_purge : (now : Moment) (p : PublisherTables) → S p → S (purge publication now p).0

  abbrev Holds : World → Type 0
  Holds w = S w.publisher

  if-holds : (b : Bool) (x y : World × Outcome) → Holds x.0 → Holds y.0 → Holds (if b then x else y).0
  if-holds true x y one other = one
  if-holds false x y one other = other

  module _ (w : World) (h : Holds w) where
    -- a call of a subscriber leaves the publisher
    left-holds : {A : Type 0} (done : Result A Refusal) (act : A → World × Outcome) → ((a : A) → Holds (act a).0) → Holds (unless_refused w done act).0
    left-holds (Err refusal) act each = h
    left-holds (Ok a) act each = each a

    found-holds : (site : SiteId) (found : Option SubscriberTables) (act : SubscriberTables → World × Outcome) → ((s : SubscriberTables) → Holds (act s).0) → (let done : World × Outcome = elim found [ None ↦ (w, Refuses (UnknownSite site)) | Some s ↦ act s ] in Holds done.0)
    found-holds site None act each = h
    found-holds site (Some s) act each = each s

    there-holds : (site : SiteId) (act : SubscriberTables → World × Outcome) → ((s : SubscriberTables) → Holds (act s).0) → Holds (at_subscriber site w act).0
    there-holds site act each = found-holds site (subscriber_at w site) act each

    sent-holds : {A : Type 0} (site : SiteId) (message : A → Request) (made : Option (SubscriberTables × A)) → Holds (post_if_made site message w made).0
    sent-holds site message None = h
    sent-holds site message (Some made) = h

    -- a call of the publisher
    call-holds : {A : Type 0} (done : Result (PublisherTables × A) Refusal) (act : PublisherTables × A → World × Outcome) → IfOk done (λ a. S a.0) → ((a : PublisherTables × A) → S a.0 → Holds (act a).0) → Holds (unless_refused w done act).0
    call-holds (Err refusal) act ok each = h
    call-holds (Ok a) act ok each = each a ok

    module _ (keeps : PublisherCallsKeep) (says : Saying) (judges : Judges) where
      make-holds : (site : SiteId) (change : Change) → Holds (make_at publication judges site change w).0
      make-holds site change = if-holds (site.0 == 0) (make_at_publisher publication judges change w) (at_subscriber site w (make_at_subscriber publication change w))
          (call-holds (local publication (judges.publisher 0) w.moment change w.publisher) (λ (done : PublisherTables × RowId). (with_publisher done.0 w, Made done.1)) (keeps.of_local (judges.publisher 0) w.moment change w.publisher h) (λ a is. is))
          (there-holds site (make_at_subscriber publication change w) (λ s. left-holds (subscriber_local publication w.moment change s) (λ (done : SubscriberTables × RowId). (with_subscriber done.0 w, Made done.1)) (λ a. h)))

      close-holds : (site : SiteId) → Holds (close_at site w).0
      close-holds site = if-holds (site.0 == 0) (close_publisher w) (at_subscriber site w (close_subscriber w))
          (call-holds (close_generation w.moment w.publisher) (λ (done : PublisherTables × ℕ). (with_publisher done.0 w, Closes done.1)) (keeps.of_close w.moment w.publisher h) (λ a is. is))
          (there-holds site (close_subscriber w) (λ s. left-holds (close_subscriber_generation w.moment s) (λ (done : SubscriberTables × ℕ). (with_subscriber done.0 w, Closes done.1)) (λ a. h)))

      send-holds : (sending : Sending) (s : SubscriberTables) → Holds (send_from judges sending w s).0
      send-holds SendJoin s = left-holds (make_join s) (post_if_made s.site (λ (m : Join). request.Join m) w) (λ made. sent-holds s.site (λ (m : Join). request.Join m) made)
      send-holds SendUpload s = left-holds (make_upload (judges.subscriber s.site s) w.moment s) (post_if_made s.site (λ (m : Upload). request.Upload m) w) (λ made. sent-holds s.site (λ (m : Upload). request.Upload m) made)
      send-holds SendRanges s = left-holds (make_ranges s) (post_if_made s.site (λ (m : RangeAsk). request.Ranges m) w) (λ made. sent-holds s.site (λ (m : RangeAsk). request.Ranges m) made)
      send-holds SendDownload s = left-holds (make_ask s) (λ (made : SubscriberTables × Download). post s.site (Asks (request.Download made.1)) (with_subscriber made.0 w)) (λ a. h)

      answered-holds : {A : Type 0} (site : SiteId) (message : A → Reply) (done : Result (PublisherTables × A) Refusal) → IfOk done (λ a. S a.0) → Holds (post_reply site message w done).0
      answered-holds {A = A} site message done ok = call-holds done (λ (made : PublisherTables × A). post site (Replies (message made.1)) (with_publisher made.0 w)) ok (λ a is. is)

      upload-holds : (judge : PublisherJudge) (site : SiteId) (m : Upload) (done : Result (PublisherTables × Uploaded) Refusal) → IfOk done (λ a. S a.0) → Holds (after_upload publication says judge site m w done).0
      upload-holds judge site m (Err refusal) ok = h
      upload-holds judge site m (Ok made) ok = ok

      request-holds : (judge : PublisherJudge) (site : SiteId) (m : Request) → Holds (deliver_request publication says judge site m w).0
      request-holds judge site (request.Join m) = answered-holds site (λ (made : Joined). reply.Joined made) (join publication w.moment m w.publisher) (keeps.of_join w.moment m w.publisher h)
      request-holds judge site (request.Upload m) = (let decisions : List Decision = kept_decisions says w.tallies (upload_questions publication judge w.moment m w.publisher) in
          upload-holds judge site m (upload publication judge w.moment m decisions w.publisher) (keeps.of_upload judge w.moment m decisions w.publisher h))
      request-holds judge site (request.Ranges m) = answered-holds site (λ (made : Ranged). reply.Ranged made) (ranges publication judge w.moment m w.publisher) (keeps.of_ranges judge w.moment m w.publisher h)
      request-holds judge site (request.Download m) = answered-holds site (λ (made : Downloaded). reply.Downloaded made) (download publication judge w.moment m w.publisher) (keeps.of_ask judge w.moment m w.publisher h)

      message-holds : (number : ℕ) (site : SiteId) (message : Message) → Holds (deliver_letter publication says judges number w (record { site = site; message = message })).0
      message-holds number site (Asks m) = request-holds (judges.publisher number) site m
      message-holds number site (Replies m) = there-holds site (deliver_reply publication judges m w)
          (λ s. left-holds (take_reply publication (judges.subscriber s.site s) w.moment m s) (λ (done : SubscriberTables × Taken). (with_subscriber done.0 w, Took done.1)) (λ a. h))

      letter-holds : (number : ℕ) (found : Option Letter) → (let done : World × Outcome = elim found [ None ↦ (w, NoLetter) | Some letter ↦ deliver_letter publication says judges number w letter ] in Holds done.0)
      letter-holds number None = h
      letter-holds number (Some letter) = message-holds number letter.site letter.message

      pub publisher-step : (action : Action) → Holds (step_by publication says judges w action).0
      publisher-step (Pass seconds) = h
      publisher-step (Make site change) = make-holds site change
      publisher-step (CloseAt site) = close-holds site
      publisher-step (Send site sending) = there-holds site (send_from judges sending w) (λ s. send-holds sending s)
      publisher-step (Deliver number) = letter-holds number (letter_at w number)
      publisher-step (MakeAnew site) = there-holds site (make_anew judges w)
          (λ s. left-holds (reinitialise (judges.subscriber s.site s) w.moment s) (λ (done : SubscriberTables × ℕ). (with_subscriber done.0 w, Discards done.1)) (λ a. h))
      publisher-step Forget = keeps.of_purge w.moment w.publisher h
      publisher-step Look = h
