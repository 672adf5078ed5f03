-- What each call of a site keeps that is not refused, every step keeps, whatever the sites decide by.
use Rattle.std.specs.BTreeMap.{is_at}
use Rattle.std.specs.List.{AllByRecursion}
use Rattle.std.specs.Ordering.{nat_cmp}
use Rattle.std.specs.Prelude.{Bool, Err, IfOk, IfSome, List, None, Ok, Option, Result, Some, cond, false, if◌then◌else◌, refl, true, ℕ, ◌+◌, ◌<◌, ◌==◌, ◌^◌, ◌≡◌, ◌≤◌}
use Rattle.std.proofs.Common.{arith, subst, sym, ◌∙◌}
use Rattle.merge_types.specs.declared.changes.Change.{Change}
use Rattle.merge_types.specs.declared.identifiers.Moment.{Moment}
use Rattle.merge_types.specs.declared.identifiers.RowId.{RowId}
use Rattle.merge_types.specs.declared.identifiers.SiteId.{SiteId}
use Rattle.merge_units.specs.declared.result.Decision.{Decision}
use Rattle.merge_schema.specs.declared.publication.Publication.{Publication}
use Rattle.merge_batch.specs.declared.refusal.Refusal.{Refusal}
use Rattle.merge_batch.specs.declared.refusal.Refusal.TheVariants.{UnknownSite}
use Rattle.merge_batch.specs.declared.reply.Downloaded.{Downloaded}
use Rattle.merge_batch.specs.declared.reply.Joined.{Joined}
use Rattle.merge_batch.specs.declared.reply.Ranged.{Ranged}
use Rattle.merge_batch.specs.declared.reply.Reply.{Reply}
use Rattle.merge_batch.specs.declared.reply.Reply.TheVariants as reply
use Rattle.merge_batch.specs.declared.reply.Uploaded.{Uploaded}
use Rattle.merge_batch.specs.declared.request.Download.{Download}
use Rattle.merge_batch.specs.declared.request.Join.{Join}
use Rattle.merge_batch.specs.declared.request.RangeAsk.{RangeAsk}
use Rattle.merge_batch.specs.declared.request.Request.{Request}
use Rattle.merge_batch.specs.declared.request.Request.TheVariants as request
use Rattle.merge_batch.specs.declared.request.Upload.{Upload}
use Rattle.merge_model.specs.Judge.{PublisherJudge, SubscriberJudge}
use Rattle.merge_model.specs.Tables.Keys.{at_number, put_number}
use Rattle.merge_model.specs.Publisher.{close_generation}
use Rattle.merge_model.specs.Publisher.PublisherDownload.{download}
use Rattle.merge_model.specs.Publisher.PublisherJoin.{join}
use Rattle.merge_model.specs.Publisher.PublisherLocal.{local}
use Rattle.merge_model.specs.Publisher.PublisherPurge.{purge}
use Rattle.merge_model.specs.Publisher.PublisherRanges.{ranges}
use Rattle.merge_model.specs.Publisher.PublisherUpload.{upload}
use Rattle.merge_model.specs.Subscriber.Reinit.{reinitialise}
use Rattle.merge_model.specs.Subscriber.Sending.{make_ask, make_join, make_ranges, make_upload}
use Rattle.merge_model.specs.World.Steps.{Action, CloseAt, Deliver, Forget, Look, Make, MakeAnew, Pass, Send, SendDownload, SendJoin, SendRanges, SendUpload, Sending, after_upload, at_subscriber, close_at, close_publisher, close_subscriber, deliver_letter, deliver_reply, deliver_request, kept_decisions, make_anew, make_at, make_at_publisher, make_at_subscriber, post, post_if_made, post_reply, send_from, step_by, unless_refused, upload_questions}
use Rattle.merge_model.specs.Subscriber.{close_subscriber_generation, subscriber_local}
use Rattle.merge_model.specs.Tables.{PublisherTables, SubscriberTables}
use Rattle.merge_model.specs.Subscriber.Taking.{take_reply}
use Rattle.merge_model.specs.World.{Judges, Saying, World, letter_at, subscriber_at, with_publisher, with_subscriber}
use Rattle.merge_model.specs.declared.letter.Letter.{Letter}
use Rattle.merge_model.specs.declared.letter.Message.{Message}
use Rattle.merge_model.specs.declared.letter.Message.TheVariants.{Asks, Replies}
use Rattle.merge_model.specs.declared.outcome.Outcome.{Outcome}
use Rattle.merge_model.specs.declared.outcome.Outcome.TheVariants.{Closes, Discards, Made, NoLetter, Refuses, Took}
use Rattle.merge_model.specs.declared.outcome.Taken.{Taken}
use Rattle.merge_model.proofs.Lists.Finding.{all-more, at_put, pool-at, some_same}
use Rattle.merge_typed.specs.Outside.{ChangeIsTyped}
use Rattle.merge_typed.specs.Typed.{MomentFits}

-- what may happen in a step beside the passing of time: a change is typed
abbrev pub ActionIsTyped : Action → Type 0
ActionIsTyped (Pass seconds) = ⊥
ActionIsTyped (Make site change) = ChangeIsTyped change
ActionIsTyped action = Unit {0}

-- who is found after one was put
found-by : {V : Type 0} (S : V → Type 0) (b : Bool) (v x : V) (rest : Option V) → S v → ((y : V) → rest ≡ Some y → S y) → cond b (Some v) rest ≡ Some x → S x
found-by S true v x rest new old at = subst S (some_same v x at) new
found-by S false v x rest new old at = old x at

put-found : {V : Type 0} (S : V → Type 0) (es : List (ℕ × V)) (n q : ℕ) (v x : V) → S v → ((k : ℕ) (y : V) → at_number es k ≡ Some y → S y) → at_number (put_number es n v) q ≡ Some x → S x
put-found S es n q v x new old at = found-by S (is_at (nat_cmp q) n) v x (at_number es q) new (λ y is. old q y is) (sym (at_put n q v es) ∙ at)

-- P and S of the tables, Q and R of the messages are to be kept; A and B are known of tables that change
module _ (publication : Publication) (says : Saying) (A P : PublisherTables → Type 0) (B S : SubscriberTables → Type 0) (Q : Request → Type 0) (R : Reply → Type 0) where
  pub record CallsKeep : Type 0 where
    -- the publisher's, with what they answer
    pub of_local : (judge : PublisherJudge) (now : Moment) (change : Change) (p : PublisherTables) → MomentFits now → ChangeIsTyped change → A p → P p → IfOk (local publication judge now change p) (λ done. P done.0)
    pub of_close : (now : Moment) (p : PublisherTables) → MomentFits now → P p → IfOk (close_generation now p) (λ done. P done.0)
    pub of_purge : (now : Moment) (p : PublisherTables) → MomentFits now → P p → P (purge publication now p).0
    pub of_join : (now : Moment) (m : Join) (p : PublisherTables) → MomentFits now → P p → IfOk (join publication now m p) (λ done. P done.0 × R (reply.Joined done.1))
    pub of_upload : (judge : PublisherJudge) (now : Moment) (m : Upload) (tallies : List ℕ) (p : PublisherTables) → MomentFits now → Q (request.Upload m) → P p
        → IfOk (upload publication judge now m (kept_decisions says tallies (upload_questions publication judge now m p)) p) (λ done. P done.0 × R (reply.Uploaded done.1))
    pub of_ranges : (judge : PublisherJudge) (now : Moment) (m : RangeAsk) (p : PublisherTables) → MomentFits now → P p → IfOk (ranges publication judge now m p) (λ done. P done.0 × R (reply.Ranged done.1))
    pub of_ask : (judge : PublisherJudge) (now : Moment) (m : Download) (p : PublisherTables) → MomentFits now → P p → IfOk (download publication judge now m p) (λ done. P done.0 × R (reply.Downloaded done.1))
    -- a subscriber's, with what they ask
    pub of_subscriber_local : (now : Moment) (change : Change) (s : SubscriberTables) → MomentFits now → ChangeIsTyped change → B s → S s → IfOk (subscriber_local publication now change s) (λ done. S done.0)
    pub of_subscriber_close : (now : Moment) (s : SubscriberTables) → MomentFits now → S s → IfOk (close_subscriber_generation now s) (λ done. S done.0)
    pub of_make_join : (s : SubscriberTables) → S s → IfOk (make_join s) (λ made. IfSome made (λ x. S x.0 × Q (request.Join x.1)))
    pub of_make_upload : (judge : SubscriberJudge) (now : Moment) (s : SubscriberTables) → MomentFits now → S s → IfOk (make_upload judge now s) (λ made. IfSome made (λ x. S x.0 × Q (request.Upload x.1)))
    pub of_make_ranges : (s : SubscriberTables) → S s → IfOk (make_ranges s) (λ made. IfSome made (λ x. S x.0 × Q (request.Ranges x.1)))
    pub of_make_ask : (s : SubscriberTables) → S s → IfOk (make_ask s) (λ done. S done.0 × Q (request.Download done.1))
    pub of_reply : (judge : SubscriberJudge) (now : Moment) (m : Reply) (s : SubscriberTables) → MomentFits now → R m → S s → IfOk (take_reply publication judge now m s) (λ done. S done.0)
    pub of_anew : (judge : SubscriberJudge) (now : Moment) (s : SubscriberTables) → MomentFits now → S s → IfOk (reinitialise judge now s) (λ done. S done.0)

  abbrev pub OfMessage : Message → Type 0
  OfMessage (Asks m) = Q m
  OfMessage (Replies m) = R m

  abbrev pub OfLetter : Letter → Type 0
  OfLetter letter = OfMessage letter.message

  -- a world whose moment is not behind this one
  pub record Fits (latest : ℕ) (w : World) : Type 0 where
    pub publisher : P w.publisher
    pub subscribers : (n : ℕ) (s : SubscriberTables) → at_number w.subscribers n ≡ Some s → S s
    pub letters : AllByRecursion OfLetter w.pool
    pub moment : w.moment.0 ≤ latest

  module _ (latest : ℕ) (low : latest < 2 ^ 64) where
    if-fits : (b : Bool) (x y : World × Outcome) → Fits latest x.0 → Fits latest y.0 → Fits latest (if b then x else y).0
    if-fits true x y one other = one
    if-fits false x y one other = other

    -- Who goes on, and a letter more.

    publisher-goes : (w : World) (q : PublisherTables) → P q → Fits latest w → Fits latest (with_publisher q w)
    publisher-goes w q new f = record { publisher = new; subscribers = f.subscribers; letters = f.letters; moment = f.moment }

    subscriber-goes : (w : World) (t : SubscriberTables) → S t → Fits latest w → Fits latest (with_subscriber t w)
    subscriber-goes w t new f = record { publisher = f.publisher; subscribers = λ n s at. put-found S w.subscribers t.site.0 n t s new f.subscribers at; letters = f.letters; moment = f.moment }

    letter-goes : (w : World) (site : SiteId) (message : Message) → OfMessage message → Fits latest w → Fits latest (post site message w).0
    letter-goes w site message new f = record { publisher = f.publisher; subscribers = f.subscribers; letters = all-more OfLetter w.pool (record { site = site; message = message }) f.letters new; moment = f.moment }

    module _ (w : World) (f : Fits latest w) (own : A w.publisher) (owns : (n : ℕ) (s : SubscriberTables) → at_number w.subscribers n ≡ Some s → B s) where
      now-fits : MomentFits w.moment
      now-fits = let up = f.moment in omega (arith, up, low)

      -- calls, of which a refused one changes nothing
      call-fits : {X : Type 0} (Of : X → Type 0) (done : Result X Refusal) (act : X → World × Outcome) → IfOk done Of → ((a : X) → Of a → Fits latest (act a).0) → Fits latest (unless_refused w done act).0
      call-fits Of (Err refusal) act ok each = f
      call-fits Of (Ok a) act ok each = each a ok

      found-fits : (site : SiteId) (found : Option SubscriberTables) (act : SubscriberTables → World × Outcome) → subscriber_at w site ≡ found → ((s : SubscriberTables) → B s → S s → Fits latest (act s).0)
          → (let done : World × Outcome = elim found [ None ↦ (w, Refuses (UnknownSite site)) | Some s ↦ act s ] in Fits latest done.0)
      found-fits site None act is each = f
      found-fits site (Some s) act is each = each s (owns site.0 s is) (f.subscribers site.0 s is)

      there-fits : (site : SiteId) (act : SubscriberTables → World × Outcome) → ((s : SubscriberTables) → B s → S s → Fits latest (act s).0) → Fits latest (at_subscriber site w act).0
      there-fits site act each = found-fits site (subscriber_at w site) act refl each

      posted-fits : {X : Type 0} (site : SiteId) (message : X → Request) (made : Option (SubscriberTables × X)) → IfSome made (λ x. S x.0 × Q (message x.1)) → Fits latest (post_if_made site message w made).0
      posted-fits site message None new = f
      posted-fits site message (Some made) new = letter-goes (with_subscriber made.0 w) site (Asks (message made.1)) new.1 (subscriber-goes w made.0 new.0 f)

      sent-fits : {X : Type 0} (site : SiteId) (message : X → Request) (done : Result (Option (SubscriberTables × X)) Refusal) → IfOk done (λ made. IfSome made (λ x. S x.0 × Q (message x.1))) → Fits latest (unless_refused w done (post_if_made site message w)).0
      sent-fits site message (Err refusal) new = f
      sent-fits site message (Ok made) new = posted-fits site message made new

      answered-fits : {X : Type 0} (site : SiteId) (message : X → Reply) (done : Result (PublisherTables × X) Refusal) → IfOk done (λ a. P a.0 × R (message a.1)) → Fits latest (post_reply site message w done).0
      answered-fits site message (Err refusal) new = f
      answered-fits site message (Ok made) new = letter-goes (with_publisher made.0 w) site (Replies (message made.1)) new.1 (publisher-goes w made.0 new.0 f)

      upload-fits : (judge : PublisherJudge) (site : SiteId) (m : Upload) (done : Result (PublisherTables × Uploaded) Refusal) → IfOk done (λ a. P a.0 × R (reply.Uploaded a.1)) → Fits latest (after_upload publication says judge site m w done).0
      upload-fits judge site m (Err refusal) new = f
      upload-fits judge site m (Ok made) new = record { publisher = new.0; subscribers = f.subscribers; letters = all-more OfLetter w.pool (record { site = site; message = Replies (reply.Uploaded made.1) }) f.letters new.1; moment = f.moment }

      module _ (keeps : CallsKeep) (judges : Judges) where
        make-fits : (site : SiteId) (change : Change) → ChangeIsTyped change → Fits latest (make_at publication judges site change w).0
        make-fits site change typed = if-fits (site.0 == 0) (make_at_publisher publication judges change w) (at_subscriber site w (make_at_subscriber publication change w))
            (call-fits (λ (done : PublisherTables × RowId). P done.0) (local publication (judges.publisher 0) w.moment change w.publisher) (λ (done : PublisherTables × RowId). (with_publisher done.0 w, Made done.1)) (keeps.of_local (judges.publisher 0) w.moment change w.publisher now-fits typed own f.publisher)
            (λ a is. publisher-goes w a.0 is f))
            (there-fits site (make_at_subscriber publication change w)
            (λ s known is. call-fits (λ (done : SubscriberTables × RowId). S done.0) (subscriber_local publication w.moment change s) (λ (done : SubscriberTables × RowId). (with_subscriber done.0 w, Made done.1)) (keeps.of_subscriber_local w.moment change s now-fits typed known is) (λ a new. subscriber-goes w a.0 new f)))

        close-fits : (site : SiteId) → Fits latest (close_at site w).0
        close-fits site = if-fits (site.0 == 0) (close_publisher w) (at_subscriber site w (close_subscriber w))
            (call-fits (λ (done : PublisherTables × ℕ). P done.0) (close_generation w.moment w.publisher) (λ (done : PublisherTables × ℕ). (with_publisher done.0 w, Closes done.1)) (keeps.of_close w.moment w.publisher now-fits f.publisher) (λ a is. publisher-goes w a.0 is f))
            (there-fits site (close_subscriber w)
            (λ s known is. call-fits (λ (done : SubscriberTables × ℕ). S done.0) (close_subscriber_generation w.moment s) (λ (done : SubscriberTables × ℕ). (with_subscriber done.0 w, Closes done.1)) (keeps.of_subscriber_close w.moment s now-fits is) (λ a new. subscriber-goes w a.0 new f)))

        send-fits : (sending : Sending) (s : SubscriberTables) → S s → Fits latest (send_from judges sending w s).0
        send-fits SendJoin s is = sent-fits s.site (λ (m : Join). request.Join m) (make_join s) (keeps.of_make_join s is)
        send-fits SendUpload s is = sent-fits s.site (λ (m : Upload). request.Upload m) (make_upload (judges.subscriber s.site s) w.moment s) (keeps.of_make_upload (judges.subscriber s.site s) w.moment s now-fits is)
        send-fits SendRanges s is = sent-fits s.site (λ (m : RangeAsk). request.Ranges m) (make_ranges s) (keeps.of_make_ranges s is)
        send-fits SendDownload s is = call-fits (λ (done : SubscriberTables × Download). S done.0 × Q (request.Download done.1)) (make_ask s) (λ (made : SubscriberTables × Download). post s.site (Asks (request.Download made.1)) (with_subscriber made.0 w)) (keeps.of_make_ask s is)
            (λ a new. letter-goes (with_subscriber a.0 w) s.site (Asks (request.Download a.1)) new.1 (subscriber-goes w a.0 new.0 f))

        request-fits : (judge : PublisherJudge) (site : SiteId) (m : Request) → Q m → Fits latest (deliver_request publication says judge site m w).0
        request-fits judge site (request.Join m) is = answered-fits site (λ (made : Joined). reply.Joined made) (join publication w.moment m w.publisher) (keeps.of_join w.moment m w.publisher now-fits f.publisher)
        request-fits judge site (request.Upload m) is = (let decisions : List Decision = kept_decisions says w.tallies (upload_questions publication judge w.moment m w.publisher) in
            upload-fits judge site m (upload publication judge w.moment m decisions w.publisher) (keeps.of_upload judge w.moment m w.tallies w.publisher now-fits is f.publisher))
        request-fits judge site (request.Ranges m) is = answered-fits site (λ (made : Ranged). reply.Ranged made) (ranges publication judge w.moment m w.publisher) (keeps.of_ranges judge w.moment m w.publisher now-fits f.publisher)
        request-fits judge site (request.Download m) is = answered-fits site (λ (made : Downloaded). reply.Downloaded made) (download publication judge w.moment m w.publisher) (keeps.of_ask judge w.moment m w.publisher now-fits f.publisher)

        message-fits : (number : ℕ) (site : SiteId) (message : Message) → OfMessage message → Fits latest (deliver_letter publication says judges number w (record { site = site; message = message })).0
        message-fits number site (Asks m) is = request-fits (judges.publisher number) site m is
        message-fits number site (Replies m) is = there-fits site (deliver_reply publication judges m w)
            (λ s known held. call-fits (λ (done : SubscriberTables × Taken). S done.0) (take_reply publication (judges.subscriber s.site s) w.moment m s) (λ (done : SubscriberTables × Taken). (with_subscriber done.0 w, Took done.1)) (keeps.of_reply (judges.subscriber s.site s) w.moment m s now-fits is held)
            (λ a new. subscriber-goes w a.0 new f))

        letter-fits : (number : ℕ) (found : Option Letter) → letter_at w number ≡ found → (let done : World × Outcome = elim found [ None ↦ (w, NoLetter) | Some letter ↦ deliver_letter publication says judges number w letter ] in Fits latest done.0)
        letter-fits number None is = f
        letter-fits number (Some letter) is = message-fits number letter.site letter.message (pool-at OfLetter w number letter is f.letters)

        anew-fits : (site : SiteId) → Fits latest (at_subscriber site w (make_anew judges w)).0
        anew-fits site = there-fits site (make_anew judges w)
            (λ s known is. call-fits (λ (done : SubscriberTables × ℕ). S done.0) (reinitialise (judges.subscriber s.site s) w.moment s) (λ (done : SubscriberTables × ℕ). (with_subscriber done.0 w, Discards done.1)) (keeps.of_anew (judges.subscriber s.site s) w.moment s now-fits is) (λ a new. subscriber-goes w a.0 new f))

        -- every step but the passing of time
        pub act-fits : (action : Action) → ActionIsTyped action → Fits latest (step_by publication says judges w action).0
        act-fits (Pass seconds) typed = absurd typed
        act-fits (Make site change) typed = make-fits site change typed
        act-fits (CloseAt site) typed = close-fits site
        act-fits (Send site sending) typed = there-fits site (send_from judges sending w) (λ s known is. send-fits sending s is)
        act-fits (Deliver number) typed = letter-fits number (letter_at w number) refl
        act-fits (MakeAnew site) typed = anew-fits site
        act-fits Forget typed = publisher-goes w (purge publication w.moment w.publisher).0 (keeps.of_purge w.moment w.publisher now-fits f.publisher) f
        act-fits Look typed = f

  -- and that one
  pub pass-fits : (latest seconds : ℕ) (w : World) → Fits latest w → Fits (latest + seconds) (record w { moment = record { 0 = w.moment.0 + seconds } })
  pass-fits latest seconds w f = record { publisher = f.publisher; subscribers = f.subscribers; letters = f.letters; moment = (let up = f.moment in omega (arith, up)) }
