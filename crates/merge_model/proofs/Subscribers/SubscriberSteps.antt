-- What the calls of a subscriber keep, every step of the world keeps of all subscribers.
use Rattle.std.specs.Prelude.{◌==◌, ℕ, List, Bool, true, false, Option, Some, None, Result, Ok, Err, if◌then◌else◌, IfOk, [], ◌∷◌, cond, map, ◌+◌}
use Rattle.std.specs.List.{AllByRecursion}
use Rattle.std.specs.Map.{lookup}
use Rattle.std.specs.BTreeMap.{is_at, insert_entry}
use Rattle.std.specs.Ordering.{nat_cmp, match_ordering}
use Rattle.std.specs.declared.cmp.Ordering.{Ordering}
use Rattle.std.specs.declared.cmp.Ordering.TheVariants.{Less, Equal, Greater}
use Rattle.merge_types.specs.declared.identifiers.SiteId.{SiteId}
use Rattle.merge_types.specs.declared.identifiers.Moment.{Moment}
use Rattle.merge_types.specs.declared.identifiers.RowId.{RowId}
use Rattle.merge_types.specs.declared.changes.Change.{Change}
use Rattle.merge_batch.specs.declared.refusal.Refusal.{Refusal}
use Rattle.merge_batch.specs.declared.refusal.Refusal.TheVariants.{UnknownSite}
use Rattle.merge_batch.specs.declared.request.Join.{Join}
use Rattle.merge_batch.specs.declared.request.Upload.{Upload}
use Rattle.merge_batch.specs.declared.request.RangeAsk.{RangeAsk}
use Rattle.merge_batch.specs.declared.request.Download.{Download}
use Rattle.merge_batch.specs.declared.request.Request.{Request}
use Rattle.merge_batch.specs.declared.request.Request.TheVariants as request
use Rattle.merge_batch.specs.declared.reply.Reply.{Reply}
use Rattle.merge_batch.specs.declared.reply.Reply.TheVariants as reply
use Rattle.merge_batch.specs.declared.reply.Joined.{Joined}
use Rattle.merge_batch.specs.declared.reply.Uploaded.{Uploaded}
use Rattle.merge_batch.specs.declared.reply.Ranged.{Ranged}
use Rattle.merge_batch.specs.declared.reply.Downloaded.{Downloaded}
use Rattle.merge_schema.specs.declared.publication.Publication.{Publication}
use Rattle.merge_types.specs.declared.row_key.RowKey.{RowKey as Key}
use Rattle.merge_model.specs.Tables.{PublisherTables, SubscriberTables}
use Rattle.merge_model.specs.Judge.{PublisherJudge, SubscriberJudge}
use Rattle.merge_model.specs.Publisher.{close_generation}
use Rattle.merge_model.specs.Publisher.PublisherLocal.{local}
use Rattle.merge_model.specs.Publisher.PublisherJoin.{join}
use Rattle.merge_model.specs.Publisher.PublisherUpload.{upload}
use Rattle.merge_model.specs.Publisher.PublisherRanges.{ranges}
use Rattle.merge_model.specs.Publisher.PublisherDownload.{download}
use Rattle.merge_model.specs.Subscriber.{subscriber_local, close_subscriber_generation, subscriber_closed, subscriber_at_moment, subscriber_counters}
use Rattle.merge_batch.specs.declared.request.Outstanding.{Outstanding}
use Rattle.merge_batch.specs.declared.request.Outstanding.TheVariants as ask
use Rattle.merge_ident.specs.Holders.{Holder}
use Rattle.merge_model.specs.Tables.Refusals.{unless, counter_end}
use Rattle.merge_model.specs.Subscriber.Sending.{with_message, join_of, join_made, upload_made, upload_sent, upload_end, unsent_rows, ranges_made, want_of, sending_refusal, make_ask}
use Rattle.merge_model.specs.Subscriber.Taking.{take_reply}
use Rattle.merge_model.specs.declared.outcome.Taken.{Taken}
use Rattle.merge_model.specs.Subscriber.Reinit.{reinitialise}
use Rattle.merge_model.specs.World.{World, Judges, Saying, letter_at, subscriber_at, with_publisher, with_subscriber}
use Rattle.merge_model.specs.declared.letter.Message.{Message}
use Rattle.merge_model.specs.declared.letter.Message.TheVariants.{Asks, Replies}
use Rattle.merge_model.specs.declared.letter.Letter.{Letter}
use Rattle.merge_model.specs.World.Steps.{Action, Pass, Make, CloseAt, Send, Deliver, MakeAnew, Forget, Look, Sending, SendJoin, SendUpload, SendRanges, SendDownload, post, post_if_made, unless_refused, at_subscriber, make_at, make_at_publisher, make_at_subscriber, close_at, close_publisher, close_subscriber, send_from, post_reply, after_upload, kept_decisions, upload_questions, deliver_request, deliver_reply, deliver_letter, make_anew, step_by}
use Rattle.merge_model.specs.declared.outcome.Outcome.{Outcome}
use Rattle.merge_model.specs.declared.outcome.Outcome.TheVariants.{Refuses, Made, Closes, Took, NoLetter, Discards}

-- A fact of each subscriber is one of all of them.
abbrev pub AllHold : (SubscriberTables → Type 0) → List (ℕ × SubscriberTables) → Type 0
AllHold S subscribers = AllByRecursion (λ (entry : ℕ × SubscriberTables). S entry.1) subscribers

module _ (S : SubscriberTables → Type 0) where
  -- of what is found
  abbrev found-step : Option SubscriberTables → Type 0
  found-step None = Unit {0}
  found-step (Some s) = S s

  found-test : (b : Bool) (s : SubscriberTables) (rest : Option SubscriberTables) → S s → found-step rest → found-step (cond b (Some s) rest)
  found-test true s rest h more = h
  found-test false s rest h more = more

  found-holds : (site : ℕ) (subscribers : List (ℕ × SubscriberTables)) → AllHold S subscribers → found-step (lookup (is_at (nat_cmp site)) subscribers)
  found-holds site [] all = tt
  found-holds site (entry ∷ rest) all = found-test (is_at (nat_cmp site) entry.0) entry.1 (lookup (is_at (nat_cmp site)) rest) all.0 (found-holds site rest all.1)

  -- and of what is put
  put-test : (order : Ordering) (site : ℕ) (s : SubscriberTables) (entry : ℕ × SubscriberTables) (rest more : List (ℕ × SubscriberTables)) → S s → S entry.1 → AllHold S rest → AllHold S more
      → AllHold S (match_ordering order ((site, s) ∷ entry ∷ rest) ((entry.0, s) ∷ rest) (entry ∷ more))
  put-test Less site s entry rest more new first others all = (new, (first, others))
  put-test Equal site s entry rest more new first others all = (new, others)
  put-test Greater site s entry rest more new first others all = (first, all)

  put-holds : (site : ℕ) (s : SubscriberTables) (subscribers : List (ℕ × SubscriberTables)) → S s → AllHold S subscribers → AllHold S (insert_entry nat_cmp subscribers site s)
  put-holds site s [] new all = (new, tt)
  put-holds site s (entry ∷ rest) new all = put-test (nat_cmp site entry.0) site s entry rest (insert_entry nat_cmp rest site s) new all.0 all.1 (put-holds site s rest new all.1)

module _ (publication : Publication) (S : SubscriberTables → Type 0)
    (of_local : (now : Moment) (change : Change) (s : SubscriberTables) → S s → IfOk (subscriber_local publication now change s) (λ done. S done.0))
    (of_close : (now : Moment) (s : SubscriberTables) → S s → IfOk (close_subscriber_generation now s) (λ done. S done.0))
    (of_message : (sent : Outstanding) (s : SubscriberTables) → S s → S (with_message sent s))
    (of_closing : (now : Moment) (s : SubscriberTables) → S s → S (subscriber_closed (subscriber_at_moment now s)))
    (of_reply : (judge : SubscriberJudge) (now : Moment) (m : Reply) (s : SubscriberTables) → S s → IfOk (take_reply publication judge now m s) (λ done. S done.0))
    (of_anew : (judge : SubscriberJudge) (now : Moment) (s : SubscriberTables) → S s → IfOk (reinitialise judge now s) (λ done. S done.0)) where
  abbrev Holds : World → Type 0
  Holds w = AllHold S w.subscribers

  if-holds : (b : Bool) (x y : World × Outcome) → Holds x.0 → Holds y.0 → Holds (if b then x else y).0
  if-holds true x y first second = first
  if-holds false x y first second = second

  -- a step of a subscriber that there is
  there-holds : (w : World) (site : SiteId) (found : Option SubscriberTables) (act : SubscriberTables → World × Outcome) → Holds w → found-step S found → ((s : SubscriberTables) → S s → Holds (act s).0)
      → (let done : World × Outcome = elim found [ None ↦ (w, Refuses (UnknownSite site)) | Some s ↦ act s ] in Holds done.0)
  there-holds w site None act h found each = h
  there-holds w site (Some s) act h found each = each s found

  at_subscriber-holds : (site : SiteId) (w : World) (act : SubscriberTables → World × Outcome) → Holds w → ((s : SubscriberTables) → S s → Holds (act s).0) → Holds (at_subscriber site w act).0
  at_subscriber-holds site w act h each = there-holds w site (subscriber_at w site) act h (found-holds S site.0 w.subscribers h) each

  with-holds : (s : SubscriberTables) (w : World) → S s → Holds w → Holds (with_subscriber s w)
  with-holds s w new h = put-holds S s.site.0 s w.subscribers new h

  -- a step of the publisher leaves the subscribers
  pub-holds : {A : Type 0} (w : World) (done : Result A Refusal) (act : A → World × Outcome) → Holds w → ((a : A) → Holds (act a).0) → Holds (unless_refused w done act).0
  pub-holds w (Err refusal) act h each = h
  pub-holds w (Ok a) act h each = each a

  sub-holds : {A : Type 0} (w : World) (done : Result (SubscriberTables × A) Refusal) (act : SubscriberTables × A → World × Outcome) → Holds w
      → IfOk done (λ a. S a.0) → ((a : SubscriberTables × A) → S a.0 → Holds (act a).0) → Holds (unless_refused w done act).0
  sub-holds w (Err refusal) act h ok each = h
  sub-holds w (Ok a) act h ok each = each a ok

  make-holds : (judges : Judges) (site : SiteId) (change : Change) (w : World) → Holds w → Holds (make_at publication judges site change w).0
  make-holds judges site change w h =
      if-holds (site.0 == 0) (make_at_publisher publication judges change w) (at_subscriber site w (make_at_subscriber publication change w))
      (pub-holds w (local publication (judges.publisher 0) w.moment change w.publisher) (λ (done : PublisherTables × RowId). (with_publisher done.0 w, Made done.1)) h (λ a. h))
      (at_subscriber-holds site w (make_at_subscriber publication change w) h
      (λ s k. sub-holds w (subscriber_local publication w.moment change s) (λ (done : SubscriberTables × RowId). (with_subscriber done.0 w, Made done.1)) h
      (of_local w.moment change s k) (λ a new. with-holds a.0 w new h)))

  close-holds : (site : SiteId) (w : World) → Holds w → Holds (close_at site w).0
  close-holds site w h =
      if-holds (site.0 == 0) (close_publisher w) (at_subscriber site w (close_subscriber w))
      (pub-holds w (close_generation w.moment w.publisher) (λ (done : PublisherTables × ℕ). (with_publisher done.0 w, Closes done.1)) h (λ a. h))
      (at_subscriber-holds site w (close_subscriber w) h
      (λ s k. sub-holds w (close_subscriber_generation w.moment s) (λ (done : SubscriberTables × ℕ). (with_subscriber done.0 w, Closes done.1)) h
      (of_close w.moment s k) (λ a new. with-holds a.0 w new h)))

  abbrev made-step : {A : Type 0} → Option (SubscriberTables × A) → Type 0
  made-step None = Unit {0}
  made-step (Some made) = S made.0

  posted-holds : {A : Type 0} (site : SiteId) (message : A → Request) (w : World) (made : Option (SubscriberTables × A)) → Holds w → made-step made → Holds (post_if_made site message w made).0
  posted-holds site message w None h new = h
  posted-holds site message w (Some made) h new = with-holds made.0 w new h

  sent-holds : {A : Type 0} (site : SiteId) (message : A → Request) (w : World) (refusal : Option Refusal) (made : Option (SubscriberTables × A)) → Holds w → made-step made
      → Holds (unless_refused w (unless refusal made) (post_if_made site message w)).0
  sent-holds site message w (Some why) made h new = h
  sent-holds site message w None made h new = posted-holds site message w made h new

  join-made : (s : SubscriberTables) → S s → made-step (join_made s)
  join-made s k = elim s.is_joined as (λ (b : Bool). (let made : Option (SubscriberTables × Join) = if b then None else Some (with_message ask.Join s, join_of s) in made-step made)) [
    | true ↦ tt
    | false ↦ of_message ask.Join s k
  ]

  upload-made : (judge : SubscriberJudge) (now : Moment) (s : SubscriberTables) → S s → made-step (upload_made judge now s)
  upload-made judge now s k = elim (unsent_rows judge s) as (λ (rows : List (Key × ℕ)). (let made : Option (SubscriberTables × Upload) = elim rows [
    | [] ↦ None
    | row ∷ rest ↦ Some (upload_sent judge (subscriber_closed (subscriber_at_moment now s)))
  ] in made-step made)) [
    | [] ↦ tt
    | row ∷ rest ↦ (let c : SubscriberTables = subscriber_closed (subscriber_at_moment now s) in of_message (ask.Upload c.received (upload_end judge c)) c (of_closing now s k))
  ]

  ranges-made : (s : SubscriberTables) → S s → made-step (ranges_made s)
  ranges-made s k = elim s.held as (λ (held : List (ℕ × Holder)). (let made : Option (SubscriberTables × RangeAsk) = elim held [
    | [] ↦ None
    | entry ∷ entries ↦ Some (with_message ask.Ranges s, record { site = s.site; seq = s.seq + 1; wants = map want_of s.held })
  ] in made-step made)) [
    | [] ↦ tt
    | entry ∷ entries ↦ of_message ask.Ranges s k
  ]

  asked-ok : (refusal : Option Refusal) (s : SubscriberTables) (m : Download) → S s → (let done : Result (SubscriberTables × Download) Refusal = unless refusal (s, m) in IfOk done (λ a. S a.0))
  asked-ok (Some why) s m k = tt
  asked-ok None s m k = k

  send-holds : (judges : Judges) (sending : Sending) (w : World) (s : SubscriberTables) → Holds w → S s → Holds (send_from judges sending w s).0
  send-holds judges SendJoin w s h k = sent-holds s.site (λ (m : Join). request.Join m) w (counter_end (subscriber_counters s)) (join_made s) h (join-made s k)
  send-holds judges SendUpload w s h k = sent-holds s.site (λ (m : Upload). request.Upload m) w (sending_refusal s) (upload_made (judges.subscriber s.site s) w.moment s) h (upload-made (judges.subscriber s.site s) w.moment s k)
  send-holds judges SendRanges w s h k = sent-holds s.site (λ (m : RangeAsk). request.Ranges m) w (sending_refusal s) (ranges_made s) h (ranges-made s k)
  send-holds judges SendDownload w s h k =
      let asked : Download = record { site = s.site; seq = s.seq + 1; from = s.watermark } in
      sub-holds w (make_ask s) (λ (made : SubscriberTables × Download). post s.site (Asks (request.Download made.1)) (with_subscriber made.0 w)) h
      (asked-ok (sending_refusal s) (with_message (ask.Download s.watermark) s) asked (of_message (ask.Download s.watermark) s k)) (λ a new. with-holds a.0 w new h)

  answered-holds : {A : Type 0} (site : SiteId) (message : A → Reply) (w : World) (done : Result (PublisherTables × A) Refusal) → Holds w → Holds (post_reply site message w done).0
  answered-holds {A = A} site message w done h = pub-holds w done (λ (made : PublisherTables × A). post site (Replies (message made.1)) (with_publisher made.0 w)) h (λ a. h)

  upload-holds : (says : Saying) (judge : PublisherJudge) (site : SiteId) (m : Upload) (w : World) (done : Result (PublisherTables × Uploaded) Refusal) → Holds w → Holds (after_upload publication says judge site m w done).0
  upload-holds says judge site m w (Err refusal) h = h
  upload-holds says judge site m w (Ok made) h = h

  request-holds : (says : Saying) (judge : PublisherJudge) (site : SiteId) (m : Request) (w : World) → Holds w → Holds (deliver_request publication says judge site m w).0
  request-holds says judge site (request.Join m) w h = answered-holds site (λ (made : Joined). reply.Joined made) w (join publication w.moment m w.publisher) h
  request-holds says judge site (request.Upload m) w h =
      upload-holds says judge site m w (upload publication judge w.moment m (kept_decisions says w.tallies (upload_questions publication judge w.moment m w.publisher)) w.publisher) h
  request-holds says judge site (request.Ranges m) w h = answered-holds site (λ (made : Ranged). reply.Ranged made) w (ranges publication judge w.moment m w.publisher) h
  request-holds says judge site (request.Download m) w h = answered-holds site (λ (made : Downloaded). reply.Downloaded made) w (download publication judge w.moment m w.publisher) h

  message-holds : (says : Saying) (judges : Judges) (number : ℕ) (w : World) (site : SiteId) (message : Message) → Holds w → Holds (deliver_letter publication says judges number w (record { site = site; message = message })).0
  message-holds says judges number w site (Asks m) h = request-holds says (judges.publisher number) site m w h
  message-holds says judges number w site (Replies m) h = at_subscriber-holds site w (deliver_reply publication judges m w) h
      (λ s k. sub-holds w (take_reply publication (judges.subscriber s.site s) w.moment m s) (λ (done : SubscriberTables × Taken). (with_subscriber done.0 w, Took done.1)) h
      (of_reply (judges.subscriber s.site s) w.moment m s k) (λ a new. with-holds a.0 w new h))

  letter-holds : (says : Saying) (judges : Judges) (number : ℕ) (w : World) (found : Option Letter) → Holds w
      → (let done : World × Outcome = elim found [ None ↦ (w, NoLetter) | Some letter ↦ deliver_letter publication says judges number w letter ] in Holds done.0)
  letter-holds says judges number w None h = h
  letter-holds says judges number w (Some letter) h = message-holds says judges number w letter.site letter.message h

  pub sub-step-holds : (says : Saying) (judges : Judges) (w : World) (action : Action) → Holds w → Holds (step_by publication says judges w action).0
  sub-step-holds says judges w (Pass seconds) h = h
  sub-step-holds says judges w (Make site change) h = make-holds judges site change w h
  sub-step-holds says judges w (CloseAt site) h = close-holds site w h
  sub-step-holds says judges w (Send site sending) h = at_subscriber-holds site w (send_from judges sending w) h (λ s k. send-holds judges sending w s h k)
  sub-step-holds says judges w (Deliver number) h = letter-holds says judges number w (letter_at w number) h
  sub-step-holds says judges w (MakeAnew site) h = at_subscriber-holds site w (make_anew judges w) h
      (λ s k. sub-holds w (reinitialise (judges.subscriber s.site s) w.moment s) (λ (done : SubscriberTables × ℕ). (with_subscriber done.0 w, Discards done.1)) h
      (of_anew (judges.subscriber s.site s) w.moment s k) (λ a new. with-holds a.0 w new h))
  sub-step-holds says judges w Forget h = h
  sub-step-holds says judges w Look h = h
