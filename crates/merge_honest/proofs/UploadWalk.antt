-- What each upload has that a subscriber makes, every step of the world keeps of all uploads in the pool.
use Rattle.std.specs.List.{AllByRecursion}
use Rattle.std.specs.Prelude.{Bool, Err, None, Ok, Option, Result, Some, false, refl, if◌then◌else◌, true, ℕ, ◌==◌, ◌≡◌}
use Rattle.merge_types.specs.declared.identifiers.SiteId.{SiteId}
use Rattle.merge_schema.specs.declared.publication.Publication.{Publication}
use Rattle.merge_batch.specs.declared.refusal.Refusal.{Refusal}
use Rattle.merge_batch.specs.declared.refusal.Refusal.TheVariants.{UnknownSite}
use Rattle.merge_batch.specs.declared.reply.Downloaded.{Downloaded}
use Rattle.merge_batch.specs.declared.reply.Joined.{Joined}
use Rattle.merge_batch.specs.declared.reply.Ranged.{Ranged}
use Rattle.merge_batch.specs.declared.reply.Reply.TheVariants as reply
use Rattle.merge_batch.specs.declared.reply.Uploaded.{Uploaded}
use Rattle.merge_batch.specs.declared.request.Download.{Download}
use Rattle.merge_batch.specs.declared.request.Join.{Join}
use Rattle.merge_batch.specs.declared.request.RangeAsk.{RangeAsk}
use Rattle.merge_batch.specs.declared.request.Request.{Request}
use Rattle.merge_batch.specs.declared.request.Request.TheVariants as request
use Rattle.merge_batch.specs.declared.request.Upload.{Upload}
use Rattle.merge_model.specs.Judge.{PublisherJudge}
use Rattle.merge_model.specs.Publisher.{close_generation}
use Rattle.merge_model.specs.Publisher.PublisherDownload.{download}
use Rattle.merge_model.specs.Publisher.PublisherJoin.{join}
use Rattle.merge_model.specs.Publisher.PublisherLocal.{local}
use Rattle.merge_model.specs.Publisher.PublisherRanges.{ranges}
use Rattle.merge_model.specs.Publisher.PublisherUpload.{upload}
use Rattle.merge_model.specs.Subscriber.Reinit.{reinitialise}
use Rattle.merge_model.specs.Subscriber.Sending.{make_ask, make_join, make_ranges, make_upload}
use Rattle.merge_model.specs.World.Steps.{Action, CloseAt, Deliver, Forget, Look, Make, MakeAnew, Pass, Send, SendDownload, SendJoin, SendRanges, SendUpload, Sending, at_subscriber, close_publisher, close_subscriber, deliver_letter, deliver_reply, deliver_request, kept_decisions, make_anew, make_at_publisher, make_at_subscriber, post, post_if_made, send_from, step_by, unless_refused, upload_questions}
use Rattle.merge_model.specs.Subscriber.{close_subscriber_generation, subscriber_local}
use Rattle.merge_model.specs.Tables.{PublisherTables, SubscriberTables}
use Rattle.merge_model.specs.Subscriber.Taking.{take_reply}
use Rattle.merge_model.specs.World.{Judges, Saying, World, letter_at, subscriber_at, with_publisher, with_subscriber}
use Rattle.merge_model.specs.declared.letter.Letter.{Letter}
use Rattle.merge_model.specs.declared.letter.Message.{Message}
use Rattle.merge_model.specs.declared.letter.Message.TheVariants.{Asks, Replies}
use Rattle.merge_model.specs.declared.outcome.Outcome.{Outcome}
use Rattle.merge_model.specs.declared.outcome.Outcome.TheVariants.{NoLetter, Refuses}
use Rattle.merge_model.proofs.Lists.Finding.{all-more}
use Rattle.merge_honest.specs.Filled.{OfUpload}

module _ (Has : Upload → Type 0) where
  abbrev pub AllUploads : World → Type 0
  AllUploads w = AllByRecursion (λ (letter : Letter). OfUpload Has letter.message) w.pool

  module _ (publication : Publication) (says : Saying) (judges : Judges) (w : World) (h : AllUploads w) where
    -- the step of a subscriber that there is
    found-uploads : (site : SiteId) (found : Option SubscriberTables) (act : SubscriberTables → World × Outcome) → subscriber_at w site ≡ found → ((s : SubscriberTables) → subscriber_at w site ≡ Some s → AllUploads (act s).0)
        → (let done : World × Outcome = elim found [ None ↦ (w, Refuses (UnknownSite site)) | Some s ↦ act s ] in AllUploads done.0)
    found-uploads site None act is each = h
    found-uploads site (Some s) act is each = each s is

    there-uploads : (site : SiteId) (act : SubscriberTables → World × Outcome) → ((s : SubscriberTables) → subscriber_at w site ≡ Some s → AllUploads (act s).0) → AllUploads (at_subscriber site w act).0
    there-uploads site act each = found-uploads site (subscriber_at w site) act refl each

    unless-uploads : {A : Type 0} (done : Result A Refusal) (act : A → World × Outcome) → ((a : A) → AllUploads (act a).0) → AllUploads (unless_refused w done act).0
    unless-uploads (Err refusal) act each = h
    unless-uploads (Ok a) act each = each a

    if-uploads : (b : Bool) (x y : World × Outcome) → AllUploads x.0 → AllUploads y.0 → AllUploads (if b then x else y).0
    if-uploads true x y one other = one
    if-uploads false x y one other = other

    -- a letter more
    more-uploads : (site : SiteId) (message : Message) → OfUpload Has message → AllByRecursion (λ (letter : Letter). OfUpload Has letter.message) (post site message w).0.pool
    more-uploads site message new = all-more (λ (letter : Letter). OfUpload Has letter.message) w.pool (record { site = site; message = message }) h new

    posted-uploads : {A : Type 0} (site : SiteId) (message : A → Request) (made : Option (SubscriberTables × A)) → ((a : SubscriberTables × A) → made ≡ Some a → OfUpload Has (Asks (message a.1))) → AllUploads (post_if_made site message w made).0
    posted-uploads site message None each = h
    posted-uploads site message (Some a) each = more-uploads site (Asks (message a.1)) (each a refl)

    sent-uploads : {A : Type 0} (site : SiteId) (message : A → Request) (done : Result (Option (SubscriberTables × A)) Refusal) → ((a : SubscriberTables × A) → done ≡ Ok (Some a) → OfUpload Has (Asks (message a.1))) → AllUploads (unless_refused w done (post_if_made site message w)).0
    sent-uploads site message (Err refusal) each = h
    sent-uploads site message (Ok made) each = posted-uploads site message made (λ a is. each a (is-ok made a is))
      where
        is-ok : {B : Type 0} (made : Option B) (a : B) → made ≡ Some a → (let done : Result (Option B) Refusal = Ok made in done) ≡ Ok (Some a)
        is-ok made a is = cc

    module _ (makes : (site : SiteId) (s : SubscriberTables) → subscriber_at w site ≡ Some s → (made : SubscriberTables × Upload) → make_upload (judges.subscriber s.site s) w.moment s ≡ Ok (Some made) → Has made.1) where
      send-uploads : (site : SiteId) (sending : Sending) (s : SubscriberTables) → subscriber_at w site ≡ Some s → AllUploads (send_from judges sending w s).0
      send-uploads site SendJoin s at = sent-uploads s.site (λ (m : Join). request.Join m) (make_join s) (λ a is. tt)
      send-uploads site SendUpload s at = sent-uploads s.site (λ (m : Upload). request.Upload m) (make_upload (judges.subscriber s.site s) w.moment s) (λ a is. makes site s at a is)
      send-uploads site SendRanges s at = sent-uploads s.site (λ (m : RangeAsk). request.Ranges m) (make_ranges s) (λ a is. tt)
      send-uploads site SendDownload s at = unless-uploads (make_ask s) (λ (made : SubscriberTables × Download). post s.site (Asks (request.Download made.1)) (with_subscriber made.0 w)) (λ a. more-uploads s.site (Asks (request.Download a.1)) tt)

      request-uploads : (judge : PublisherJudge) (site : SiteId) (m : Request) → AllUploads (deliver_request publication says judge site m w).0
      request-uploads judge site (request.Join m) = unless-uploads (join publication w.moment m w.publisher) (λ (made : PublisherTables × Joined). post site (Replies (reply.Joined made.1)) (with_publisher made.0 w)) (λ a. more-uploads site (Replies (reply.Joined a.1)) tt)
      request-uploads judge site (request.Upload m) = unless-uploads (upload publication judge w.moment m (kept_decisions says w.tallies (upload_questions publication judge w.moment m w.publisher)) w.publisher) _ (λ a. more-uploads site (Replies (reply.Uploaded a.1)) tt)
      request-uploads judge site (request.Ranges m) = unless-uploads (ranges publication judge w.moment m w.publisher) (λ (made : PublisherTables × Ranged). post site (Replies (reply.Ranged made.1)) (with_publisher made.0 w)) (λ a. more-uploads site (Replies (reply.Ranged a.1)) tt)
      request-uploads judge site (request.Download m) = unless-uploads (download publication judge w.moment m w.publisher) (λ (made : PublisherTables × Downloaded). post site (Replies (reply.Downloaded made.1)) (with_publisher made.0 w)) (λ a. more-uploads site (Replies (reply.Downloaded a.1)) tt)

      message-uploads : (number : ℕ) (site : SiteId) (message : Message) → AllUploads (deliver_letter publication says judges number w (record { site = site; message = message })).0
      message-uploads number site (Asks m) = request-uploads (judges.publisher number) site m
      message-uploads number site (Replies m) = there-uploads site (deliver_reply publication judges m w) (λ s at. unless-uploads (take_reply publication (judges.subscriber s.site s) w.moment m s) _ (λ a. h))

      letter-uploads : (number : ℕ) (found : Option Letter) → (let done : World × Outcome = elim found [ None ↦ (w, NoLetter) | Some letter ↦ deliver_letter publication says judges number w letter ] in AllUploads done.0)
      letter-uploads number None = h
      letter-uploads number (Some letter) = message-uploads number letter.site letter.message

      pub upload-step : (action : Action) → AllUploads (step_by publication says judges w action).0
      upload-step (Pass seconds) = h
      upload-step (Make site change) = if-uploads (site.0 == 0) (make_at_publisher publication judges change w) (at_subscriber site w (make_at_subscriber publication change w))
          (unless-uploads (local publication (judges.publisher 0) w.moment change w.publisher) _ (λ a. h))
          (there-uploads site (make_at_subscriber publication change w) (λ s at. unless-uploads (subscriber_local publication w.moment change s) _ (λ a. h)))
      upload-step (CloseAt site) = if-uploads (site.0 == 0) (close_publisher w) (at_subscriber site w (close_subscriber w))
          (unless-uploads (close_generation w.moment w.publisher) _ (λ a. h))
          (there-uploads site (close_subscriber w) (λ s at. unless-uploads (close_subscriber_generation w.moment s) _ (λ a. h)))
      upload-step (Send site sending) = there-uploads site (send_from judges sending w) (λ s at. send-uploads site sending s at)
      upload-step (Deliver number) = letter-uploads number (letter_at w number)
      upload-step (MakeAnew site) = there-uploads site (make_anew judges w) (λ s at. unless-uploads (reinitialise (judges.subscriber s.site s) w.moment s) _ (λ a. h))
      upload-step Forget = h
      upload-step Look = h
