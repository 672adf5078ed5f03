-- What the publisher's own steps keep, every step of the world keeps.
use Rattle.std.specs.Prelude.{◌==◌, ℕ, List, Bool, true, false, Option, Some, None, Result, Ok, Err, if◌then◌else◌, IfOk}
use Rattle.merge_types.specs.declared.identifiers.SiteId.{SiteId}
use Rattle.merge_types.specs.declared.identifiers.Moment.{Moment}
use Rattle.merge_types.specs.declared.identifiers.RowId.{RowId}
use Rattle.merge_types.specs.declared.changes.Change.{Change}
use Rattle.merge_units.specs.declared.result.Decision.{Decision}
use Rattle.merge_batch.specs.declared.refusal.Refusal.{Refusal}
use Rattle.merge_batch.specs.declared.refusal.Refusal.TheVariants.{UnknownSite}
use Rattle.merge_batch.specs.declared.request.Join.{Join}
use Rattle.merge_batch.specs.declared.request.Upload.{Upload}
use Rattle.merge_batch.specs.declared.request.RangeAsk.{RangeAsk}
use Rattle.merge_batch.specs.declared.request.Download.{Download}
use Rattle.merge_batch.specs.declared.request.Request.{Request}
use Rattle.merge_batch.specs.declared.request.Request.TheVariants as request
use Rattle.merge_batch.specs.declared.reply.Reply.{Reply}
use Rattle.merge_batch.specs.declared.reply.Reply.TheVariants as reply
use Rattle.merge_batch.specs.declared.reply.Joined.{Joined}
use Rattle.merge_batch.specs.declared.reply.Uploaded.{Uploaded}
use Rattle.merge_batch.specs.declared.reply.Ranged.{Ranged}
use Rattle.merge_batch.specs.declared.reply.Downloaded.{Downloaded}
use Rattle.merge_schema.specs.declared.publication.Publication.{Publication}
use Rattle.merge_model.specs.Tables.{PublisherTables, SubscriberTables}
use Rattle.merge_model.specs.Judge.{PublisherJudge}
use Rattle.merge_model.specs.Publisher.{close_generation}
use Rattle.merge_model.specs.Publisher.PublisherLocal.{local}
use Rattle.merge_model.specs.Publisher.PublisherJoin.{join}
use Rattle.merge_model.specs.Publisher.PublisherUpload.{upload}
use Rattle.merge_model.specs.Publisher.PublisherRanges.{ranges}
use Rattle.merge_model.specs.Publisher.PublisherDownload.{download}
use Rattle.merge_model.specs.Publisher.PublisherPurge.{purge}
use Rattle.merge_model.specs.Subscriber.{subscriber_local, close_subscriber_generation}
use Rattle.merge_model.specs.Subscriber.Sending.{make_join, make_upload, make_ranges, make_ask}
use Rattle.merge_model.specs.Subscriber.Taking.{take_reply}
use Rattle.merge_model.specs.declared.outcome.Taken.{Taken}
use Rattle.merge_model.specs.Subscriber.Reinit.{reinitialise}
use Rattle.merge_model.specs.World.{World, Judges, Saying, letter_at, subscriber_at, with_publisher, with_subscriber}
use Rattle.merge_model.specs.declared.letter.Message.{Message}
use Rattle.merge_model.specs.declared.letter.Message.TheVariants.{Asks, Replies}
use Rattle.merge_model.specs.declared.letter.Letter.{Letter}
use Rattle.merge_model.specs.World.Steps.{Action, Pass, Make, CloseAt, Send, Deliver, MakeAnew, Forget, Look, Sending, SendJoin, SendUpload, SendRanges, SendDownload, post, post_if_made, unless_refused, at_subscriber, make_at, make_at_publisher, make_at_subscriber, close_at, close_publisher, close_subscriber, send_from, post_reply, after_upload, kept_decisions, upload_questions, deliver_request, deliver_reply, deliver_letter, make_anew, step_by}
use Rattle.merge_model.specs.declared.outcome.Outcome.{Outcome}
use Rattle.merge_model.specs.declared.outcome.Outcome.TheVariants.{Refuses, Made, Closes, Took, NoLetter, Discards}

module _ (publication : Publication) (Q : PublisherTables → Type 0)
    (of_local : (judge : PublisherJudge) (now : Moment) (change : Change) (p : PublisherTables) → Q p → IfOk (local publication judge now change p) (λ done. Q done.0))
    (of_close : (now : Moment) (p : PublisherTables) → Q p → IfOk (close_generation now p) (λ done. Q done.0))
    (of_join : (now : Moment) (m : Join) (p : PublisherTables) → Q p → IfOk (join publication now m p) (λ done. Q done.0))
    (of_upload : (judge : PublisherJudge) (now : Moment) (m : Upload) (decisions : List Decision) (p : PublisherTables) → Q p → IfOk (upload publication judge now m decisions p) (λ done. Q done.0))
    (of_ranges : (judge : PublisherJudge) (now : Moment) (m : RangeAsk) (p : PublisherTables) → Q p → IfOk (ranges publication judge now m p) (λ done. Q done.0))
    (of_download : (judge : PublisherJudge) (now : Moment) (m : Download) (p : PublisherTables) → Q p → IfOk (download publication judge now m p) (λ done. Q done.0))
    (of_purge : (now : Moment) (p : PublisherTables) → Q p → Q (purge publication now p).0) where
  abbrev Holds : World → Type 0
  Holds w = Q w.publisher

  if-holds : (b : Bool) (x y : World × Outcome) → Holds x.0 → Holds y.0 → Holds (if b then x else y).0
  if-holds true x y first second = first
  if-holds false x y first second = second

  found-holds : (w : World) (site : SiteId) (found : Option SubscriberTables) (act : SubscriberTables → World × Outcome) → Holds w → ((s : SubscriberTables) → Holds (act s).0)
      → (let done : World × Outcome = elim found [ None ↦ (w, Refuses (UnknownSite site)) | Some s ↦ act s ] in Holds done.0)
  found-holds w site None act h each = h
  found-holds w site (Some s) act h each = each s

  at_subscriber-holds : (site : SiteId) (w : World) (act : SubscriberTables → World × Outcome) → Holds w → ((s : SubscriberTables) → Holds (act s).0) → Holds (at_subscriber site w act).0
  at_subscriber-holds site w act h each = found-holds w site (subscriber_at w site) act h each

  -- a step of a subscriber leaves the publisher's tables
  sub-holds : {A : Type 0} (w : World) (done : Result A Refusal) (act : A → World × Outcome) → Holds w → ((a : A) → Holds (act a).0) → Holds (unless_refused w done act).0
  sub-holds w (Err refusal) act h each = h
  sub-holds w (Ok a) act h each = each a

  -- a step of the publisher puts its tables
  pub-holds : {A : Type 0} (w : World) (done : Result (PublisherTables × A) Refusal) (act : PublisherTables × A → World × Outcome) → Holds w
      → IfOk done (λ a. Q a.0) → ((a : PublisherTables × A) → Q a.0 → Holds (act a).0) → Holds (unless_refused w done act).0
  pub-holds w (Err refusal) act h ok each = h
  pub-holds w (Ok a) act h ok each = each a ok

  make-holds : (judges : Judges) (site : SiteId) (change : Change) (w : World) → Holds w → Holds (make_at publication judges site change w).0
  make-holds judges site change w h =
      if-holds (site.0 == 0) (make_at_publisher publication judges change w) (at_subscriber site w (make_at_subscriber publication change w))
      (pub-holds w (local publication (judges.publisher 0) w.moment change w.publisher) (λ (done : PublisherTables × RowId). (with_publisher done.0 w, Made done.1)) h
      (of_local (judges.publisher 0) w.moment change w.publisher h) (λ a k. k))
      (at_subscriber-holds site w (make_at_subscriber publication change w) h
      (λ s. sub-holds w (subscriber_local publication w.moment change s) (λ (done : SubscriberTables × RowId). (with_subscriber done.0 w, Made done.1)) h (λ a. h)))

  close-holds : (site : SiteId) (w : World) → Holds w → Holds (close_at site w).0
  close-holds site w h =
      if-holds (site.0 == 0) (close_publisher w) (at_subscriber site w (close_subscriber w))
      (pub-holds w (close_generation w.moment w.publisher) (λ (done : PublisherTables × ℕ). (with_publisher done.0 w, Closes done.1)) h (of_close w.moment w.publisher h) (λ a k. k))
      (at_subscriber-holds site w (close_subscriber w) h
      (λ s. sub-holds w (close_subscriber_generation w.moment s) (λ (done : SubscriberTables × ℕ). (with_subscriber done.0 w, Closes done.1)) h (λ a. h)))

  posted-holds : {A : Type 0} (site : SiteId) (message : A → Request) (w : World) (made : Option (SubscriberTables × A)) → Holds w → Holds (post_if_made site message w made).0
  posted-holds site message w None h = h
  posted-holds site message w (Some made) h = h

  send-holds : (judges : Judges) (sending : Sending) (w : World) (s : SubscriberTables) → Holds w → Holds (send_from judges sending w s).0
  send-holds judges SendJoin w s h = sub-holds w (make_join s) (post_if_made s.site (λ (m : Join). request.Join m) w) h (λ a. posted-holds s.site (λ (m : Join). request.Join m) w a h)
  send-holds judges SendUpload w s h = sub-holds w (make_upload (judges.subscriber s.site s) w.moment s) (post_if_made s.site (λ (m : Upload). request.Upload m) w) h (λ a. posted-holds s.site (λ (m : Upload). request.Upload m) w a h)
  send-holds judges SendRanges w s h = sub-holds w (make_ranges s) (post_if_made s.site (λ (m : RangeAsk). request.Ranges m) w) h (λ a. posted-holds s.site (λ (m : RangeAsk). request.Ranges m) w a h)
  send-holds judges SendDownload w s h = sub-holds w (make_ask s) (λ (made : SubscriberTables × Download). post s.site (Asks (request.Download made.1)) (with_subscriber made.0 w)) h (λ a. h)

  answered-holds : {A : Type 0} (site : SiteId) (message : A → Reply) (w : World) (done : Result (PublisherTables × A) Refusal) → Holds w → IfOk done (λ a. Q a.0) → Holds (post_reply site message w done).0
  answered-holds {A = A} site message w done h ok = pub-holds w done (λ (made : PublisherTables × A). post site (Replies (message made.1)) (with_publisher made.0 w)) h ok (λ a k. k)

  upload-holds : (says : Saying) (judge : PublisherJudge) (site : SiteId) (m : Upload) (w : World) (done : Result (PublisherTables × Uploaded) Refusal) → Holds w → IfOk done (λ a. Q a.0) → Holds (after_upload publication says judge site m w done).0
  upload-holds says judge site m w (Err refusal) h ok = h
  upload-holds says judge site m w (Ok made) h ok = ok

  request-holds : (says : Saying) (judge : PublisherJudge) (site : SiteId) (m : Request) (w : World) → Holds w → Holds (deliver_request publication says judge site m w).0
  request-holds says judge site (request.Join m) w h = answered-holds site (λ (made : Joined). reply.Joined made) w (join publication w.moment m w.publisher) h (of_join w.moment m w.publisher h)
  request-holds says judge site (request.Upload m) w h =
      let decisions : List Decision = kept_decisions says w.tallies (upload_questions publication judge w.moment m w.publisher) in
      upload-holds says judge site m w (upload publication judge w.moment m decisions w.publisher) h (of_upload judge w.moment m decisions w.publisher h)
  request-holds says judge site (request.Ranges m) w h = answered-holds site (λ (made : Ranged). reply.Ranged made) w (ranges publication judge w.moment m w.publisher) h (of_ranges judge w.moment m w.publisher h)
  request-holds says judge site (request.Download m) w h = answered-holds site (λ (made : Downloaded). reply.Downloaded made) w (download publication judge w.moment m w.publisher) h (of_download judge w.moment m w.publisher h)

  message-holds : (says : Saying) (judges : Judges) (number : ℕ) (w : World) (site : SiteId) (message : Message) → Holds w → Holds (deliver_letter publication says judges number w (record { site = site; message = message })).0
  message-holds says judges number w site (Asks m) h = request-holds says (judges.publisher number) site m w h
  message-holds says judges number w site (Replies m) h = at_subscriber-holds site w (deliver_reply publication judges m w) h
      (λ s. sub-holds w (take_reply publication (judges.subscriber s.site s) w.moment m s) (λ (done : SubscriberTables × Taken). (with_subscriber done.0 w, Took done.1)) h (λ a. h))

  letter-holds : (says : Saying) (judges : Judges) (number : ℕ) (w : World) (found : Option Letter) → Holds w
      → (let done : World × Outcome = elim found [ None ↦ (w, NoLetter) | Some letter ↦ deliver_letter publication says judges number w letter ] in Holds done.0)
  letter-holds says judges number w None h = h
  letter-holds says judges number w (Some letter) h = message-holds says judges number w letter.site letter.message h

  pub step-holds : (says : Saying) (judges : Judges) (w : World) (action : Action) → Holds w → Holds (step_by publication says judges w action).0
  step-holds says judges w (Pass seconds) h = h
  step-holds says judges w (Make site change) h = make-holds judges site change w h
  step-holds says judges w (CloseAt site) h = close-holds site w h
  step-holds says judges w (Send site sending) h = at_subscriber-holds site w (send_from judges sending w) h (λ s. send-holds judges sending w s h)
  step-holds says judges w (Deliver number) h = letter-holds says judges number w (letter_at w number) h
  step-holds says judges w (MakeAnew site) h = at_subscriber-holds site w (make_anew judges w) h
      (λ s. sub-holds w (reinitialise (judges.subscriber s.site s) w.moment s) (λ (done : SubscriberTables × ℕ). (with_subscriber done.0 w, Discards done.1)) h (λ a. h))
  step-holds says judges w Forget h = of_purge w.moment w.publisher h
  step-holds says judges w Look h = h
