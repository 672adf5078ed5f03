-- A step of the model, taken apart: what each way that it can go keeps, the step keeps. Each way comes with what is known
-- where it is gone: that nothing refused it, and what the received numbers say.
-- The room holds what steps note, and their shapes.
pub mod NotesLeave
pub mod Noted
pub mod Shapes
use Rattle.std.specs.Prelude.{◌≡◌, ◌==◌, ◌+◌, ◌++◌, ℕ, zero, suc, List, [], ◌∷◌, Bool, true, false, Option, Some, None, Result, Ok, Err, refl, if◌then◌else◌, map, max, slice_get, length}
use Rattle.std.proofs.Common.{arith, subst, sym, ap, ◌∙◌}
use Rattle.std.proofs.lemmas.Bool.Decides.{nat_tests}
use Rattle.merge_types.specs.declared.changes.Change.{Change}
use Rattle.merge_types.specs.declared.changes.Change.TheVariants.{Insert, Update, Delete}
use Rattle.merge_types.specs.declared.identifiers.Moment.{Moment}
use Rattle.merge_types.specs.declared.identifiers.RowId.{RowId}
use Rattle.merge_types.specs.declared.identifiers.SiteId.{SiteId}
use Rattle.merge_types.specs.declared.values.Value.{Value}
use Rattle.merge_units.specs.declared.result.Decision.{Decision}
use Rattle.merge_ident.specs.Holders.{Holder}
use Rattle.merge_schema.specs.declared.publication.Publication.{Publication}
use Rattle.merge_batch.specs.declared.refusal.Refusal.{Refusal}
use Rattle.merge_batch.specs.declared.refusal.Refusal.TheVariants.{UnknownSite}
use Rattle.merge_batch.specs.declared.request.Download.{Download}
use Rattle.merge_batch.specs.declared.request.Join.{Join}
use Rattle.merge_batch.specs.declared.request.Outstanding.{Outstanding}
use Rattle.merge_batch.specs.declared.request.Outstanding.TheVariants as ask
use Rattle.merge_batch.specs.declared.request.RangeAsk.{RangeAsk}
use Rattle.merge_batch.specs.declared.request.Request.{Request}
use Rattle.merge_batch.specs.declared.request.Request.TheVariants as request
use Rattle.merge_batch.specs.declared.request.Upload.{Upload}
use Rattle.merge_batch.specs.declared.reply.Downloaded.{Downloaded}
use Rattle.merge_batch.specs.declared.reply.Joined.{Joined}
use Rattle.merge_batch.specs.declared.reply.Ranged.{Ranged}
use Rattle.merge_batch.specs.declared.reply.Reply.{Reply}
use Rattle.merge_batch.specs.declared.reply.Reply.TheVariants as reply
use Rattle.merge_batch.specs.declared.reply.Uploaded.{Uploaded}
use Rattle.merge_model.specs.Publisher.Acts.{Act, acts_of}
use Rattle.merge_model.specs.Judge.ByHistory.{by_history, by_made, by_past}
use Rattle.merge_model.specs.World.Faults.{reply_fault}
use Rattle.merge_model.specs.History.{History, pasts_with}
use Rattle.merge_model.specs.Judge.{PublisherJudge, SubscriberJudge}
use Rattle.merge_model.specs.Tables.Keys.{at_number, put_number}
use Rattle.merge_model.specs.History.Model.{Model, model_step, noted_action, noted_if, noted_letter, did_something, with_letter, with_posted}
use Rattle.merge_model.specs.History.Noting
use Rattle.merge_model.specs.Publisher.{at_moment, counters, last_closed, tables_after_close}
use Rattle.merge_model.specs.Publisher.PublisherDownload.{download_refusal, reply_to, tables_after_download}
use Rattle.merge_model.specs.Publisher.PublisherJoin.{join, join_acts, join_refusal, join_taken, tables_after_join}
use Rattle.merge_model.specs.Publisher.PublisherLocal.{Drawn, draw_for_change, local_refusal, made_locally, next_dot}
use Rattle.merge_model.specs.Publisher.PublisherPurge.{purge}
use Rattle.merge_model.specs.Publisher.PublisherRanges.{plans, ranges_refusal, reply_to_ranges, with_grants}
use Rattle.merge_model.specs.Publisher.PublisherUpload.{brings_news, tables_after_upload, taken_in, upload_refusal}
use Rattle.merge_model.specs.Tables.Refusals.{counter_end, unless}
use Rattle.merge_model.specs.Subscriber.Reinit.{result_of_reinit}
use Rattle.merge_model.specs.Subscriber.Sending.{join_made, join_of, ranges_made, sending_refusal, unsent_rows, upload_made, upload_sent, want_of, with_message}
use Rattle.merge_model.specs.World.Steps.{Action, CloseAt, Deliver, Forget, Look, Make, MakeAnew, Pass, Send, SendDownload, SendJoin, SendRanges, SendUpload, Sending, at_subscriber, close_at, close_publisher, close_subscriber, deliver_letter, deliver_reply, deliver_request, kept_decisions, make_anew, make_at, make_at_publisher, make_at_subscriber, post, post_if_made, post_reply, send_from, step_by, unless_refused, upload_questions}
use Rattle.merge_resolve.specs.Questions.{question_of as asked_of}
use Rattle.merge_model.specs.declared.outcome.Outcome.TheVariants.{Closes, Discards, Made, NoLetter, Refuses, Took}
use Rattle.merge_model.specs.declared.outcome.Outcome.{Outcome}
use Rattle.merge_model.specs.Subscriber.{subscriber_at_moment, subscriber_closed, subscriber_counters, subscriber_drawn, subscriber_last_closed, subscriber_local_refusal, subscriber_made_locally, subscriber_next_dot}
use Rattle.merge_types.specs.declared.row_key.RowKey.{RowKey as Key}
use Rattle.merge_model.specs.Tables.{PublisherTables, SubscriberTables}
use Rattle.merge_model.specs.Subscriber.Taking.{met_by, seq_of, tables_after_reply}
use Rattle.merge_model.specs.declared.outcome.Taken.TheVariants.{Acted, Missed}
use Rattle.merge_model.specs.declared.outcome.Taken.{Taken}
use Rattle.merge_model.specs.World.{Saying, World, letter_at, subscriber_at, with_publisher, with_subscriber}
use Rattle.merge_model.specs.declared.letter.Message.TheVariants.{Asks, Replies}
use Rattle.merge_model.specs.declared.letter.Letter.{Letter}
use Rattle.merge_model.specs.declared.letter.Message.{Message}
use Rattle.merge_resolve.specs.Asked.{tallies_after}
use Rattle.merge_laws.specs.Facts.Received.{JoinFits, MessageFits, Received, UploadFits, joined_at}
use Rattle.merge_model.proofs.Lists.Finding.{all-at}
use Rattle.merge_laws.proofs.Received.Steps.{own-at}

abbrev pub here : World → PublisherTables
here w = at_moment w.moment w.publisher

-- a message enters the pool, and the history has the pasts in it
abbrev pub Sends : (World → History → Type 0) → SiteId → Message → World → History → Type 0
Sends P site message w h = P (post site message w).0 (with_letter (record { site = site; message = message }) h)

-- what the history notes of a local change at the publisher, of a join and of an upload that act
abbrev pub own_noted : Publication → PublisherJudge → Change → Drawn → PublisherTables → History → History
own_noted publication judge change d p h = Noting.with_lines (Noting.lines_of_entries (last_closed p + 1) (Noting.drawn_entries publication judge change p d))
    (Noting.with_change publication (next_dot p) (last_closed p + 1) change d.value h)

abbrev pub join_noted : PublisherJudge → Join → PublisherTables → History → History
join_noted judge m p h = Noting.with_lines (map (Noting.gone_line (last_closed p + 1)) (map (Noting.gone_for m.site) (Noting.left_rows judge m.site)))
    (record (Noting.with_done m.site.0 0 m.generation h) { bases = put_number h.bases m.site.0 (last_closed p) })

abbrev pub acts_in : Publication → Saying → PublisherJudge → Upload → World → List Act
acts_in publication says judge m w = acts_of judge m (kept_decisions says w.tallies (upload_questions publication judge w.moment m w.publisher)) (here w)

abbrev pub told_by : PublisherJudge → Upload → Uploaded
told_by judge m = record { seq = m.seq; received = max m.to (judge.received m.site.0) }

-- the world after an upload's answer, with the publisher's tables
abbrev pub uploaded_world : Publication → Saying → PublisherJudge → Upload → PublisherTables → World → World
uploaded_world publication says judge m p w = record w { publisher = p; tallies = tallies_after w.tallies (map asked_of (upload_questions publication judge w.moment m w.publisher)) }

-- the request came from this site
abbrev pub comes : World → ℕ → SiteId → Message → Type 0
comes w number site message = letter_at w number ≡ Some (record { site = site; message = message })

-- the ways that a step can go, of a world and a history of which more is known already
pub record StepsKeep (publication : Publication) (says : Saying) (B P : World → History → Type 0) : Type 0 where
  pub moment : (w : World) (h : History) (now : Moment) → B w h → P w h → P (record w { moment = now }) h
  -- the publisher's own
  pub own_change : (w : World) (h : History) (change : Change) (d : Drawn) → B w h → P w h → local_refusal publication change w.publisher ≡ None → draw_for_change publication w.publisher change ≡ Ok d
      → (let judge : PublisherJudge = by_past h (pasts_with h 0) in P (with_publisher (made_locally publication judge change d (here w)).0 w) (own_noted publication judge change d (here w) h))
  pub own_closing : (w : World) (h : History) → B w h → P w h → P (with_publisher (tables_after_close (here w)) w) h
  pub forgetting : (w : World) (h : History) → B w h → P w h
      → P (with_publisher (purge publication w.moment w.publisher).0 w) (Noting.noted_purge publication (by_past h (pasts_with h 0)) (here w) h)
  -- a subscriber's own
  pub same : (w : World) (h : History) (s : SubscriberTables) → B w h → P w h → subscriber_at w s.site ≡ Some s → P (with_subscriber s w) h
  pub subscriber_change : (w : World) (h : History) (s : SubscriberTables) (change : Change) (d : Value × List (ℕ × Holder)) → B w h → P w h → subscriber_at w s.site ≡ Some s → (s.site.0 ≡ 0 → ⊥)
      → subscriber_local_refusal publication change s ≡ None → subscriber_drawn s change ≡ Ok d
      → P (with_subscriber (subscriber_made_locally publication change d (subscriber_at_moment w.moment s)).0 w) (Noting.with_change publication (subscriber_next_dot s) (subscriber_last_closed s + 1) change d.0 h)
  pub subscriber_closing : (w : World) (h : History) (s : SubscriberTables) → B w h → P w h → subscriber_at w s.site ≡ Some s → P (with_subscriber (subscriber_closed (subscriber_at_moment w.moment s)) w) h
  pub anew : (w : World) (h : History) (s : SubscriberTables) → B w h → P w h → subscriber_at w s.site ≡ Some s
      → (let judge : SubscriberJudge = by_made h s.site in P (with_subscriber (result_of_reinit judge (subscriber_at_moment w.moment s)).0 w) (Noting.noted_anew judge s h))
  -- the messages that it makes
  pub sends_join : (w : World) (h : History) (s : SubscriberTables) → B w h → P w h → subscriber_at w s.site ≡ Some s → s.is_joined ≡ false
      → Sends P s.site (Asks (request.Join (join_of s))) (with_subscriber (with_message ask.Join s) w) h
  pub sends_upload : (w : World) (h : History) (s : SubscriberTables) → B w h → P w h → subscriber_at w s.site ≡ Some s → sending_refusal s ≡ None
      → (let made : SubscriberTables × Upload = upload_sent (by_made h s.site) (subscriber_closed (subscriber_at_moment w.moment s)) in Sends P s.site (Asks (request.Upload made.1)) (with_subscriber made.0 w) h)
  pub sends_ranges : (w : World) (h : History) (s : SubscriberTables) → B w h → P w h → subscriber_at w s.site ≡ Some s → sending_refusal s ≡ None
      → Sends P s.site (Asks (request.Ranges (record { site = s.site; seq = s.seq + 1; wants = map want_of s.held }))) (with_subscriber (with_message ask.Ranges s) w) h
  pub sends_ask : (w : World) (h : History) (s : SubscriberTables) → B w h → P w h → subscriber_at w s.site ≡ Some s → sending_refusal s ≡ None
      → Sends P s.site (Asks (request.Download (record { site = s.site; seq = s.seq + 1; from = s.watermark }))) (with_subscriber (with_message (ask.Download s.watermark) s) w) h
  -- messages that come to the publisher
  pub joins : (w : World) (h : History) (number : ℕ) (m : Join) → B w h → P w h → comes w number m.site (Asks (request.Join m)) → join_refusal publication m w.publisher ≡ None → join_acts m w.publisher ≡ true
      → Sends P m.site (Replies (reply.Joined (record { seq = m.seq }))) (with_publisher (join_taken m (here w)) w) (join_noted (by_past h (pasts_with h number)) m w.publisher h)
  pub joins_again : (w : World) (h : History) (number : ℕ) (m : Join) → B w h → P w h → comes w number m.site (Asks (request.Join m)) → join_acts m w.publisher ≡ false
      → Sends P m.site (Replies (reply.Joined (record { seq = m.seq }))) (with_publisher (here w) w) h
  pub uploads : (w : World) (h : History) (number : ℕ) (m : Upload) → B w h → P w h → comes w number m.site (Asks (request.Upload m))
      → (let judge : PublisherJudge = by_past h (pasts_with h number) in upload_refusal publication judge w.moment m w.publisher ≡ None → brings_news judge m ≡ true
      → Sends P m.site (Replies (reply.Uploaded (told_by judge m))) (uploaded_world publication says judge m (taken_in publication judge m (acts_in publication says judge m w) (here w)) w)
      (Noting.with_acts_noted publication judge m (acts_in publication says judge m w) (pasts_with h number) (here w) h))
  pub uploads_again : (w : World) (h : History) (number : ℕ) (m : Upload) → B w h → P w h → comes w number m.site (Asks (request.Upload m))
      → (let judge : PublisherJudge = by_past h (pasts_with h number) in brings_news judge m ≡ false → Sends P m.site (Replies (reply.Uploaded (told_by judge m))) (uploaded_world publication says judge m (here w) w) h)
  pub answers_ranges : (w : World) (h : History) (site : SiteId) (m : RangeAsk) → B w h → P w h
      → Sends P site (Replies (reply.Ranged (reply_to_ranges m (plans publication m w.publisher)))) (with_publisher (with_grants (plans publication m w.publisher) (here w)) w) h
  pub answers_ask : (w : World) (h : History) (number : ℕ) (site : SiteId) (m : Download) → B w h → P w h → comes w number site (Asks (request.Download m)) → download_refusal publication w.moment m w.publisher ≡ None
      → Sends P site (Replies (reply.Downloaded (reply_to publication (by_past h (pasts_with h number)) m (tables_after_download m (here w))))) (with_publisher (tables_after_download m (here w)) w) h
  -- and replies that come to a subscriber and fit
  pub replies : (w : World) (h : History) (s : SubscriberTables) (number : ℕ) (m : Reply) (sent : Outstanding) → B w h → P w h → subscriber_at w s.site ≡ Some s → comes w number s.site (Replies m)
      → s.outstanding ≡ Some (seq_of m, sent) → reply_fault publication sent m s ≡ None
      → (let judge : SubscriberJudge = by_made h s.site in P (with_subscriber (tables_after_reply judge w.moment m s) w) (Noting.noted_reply judge s.site (pasts_with h number) m h))

-- the letter that was posted last
pub letter-last : (pool : List Letter) (letter : Letter) → slice_get (pool ++ letter ∷ []) (length pool) ≡ Some letter
letter-last [] letter = refl
letter-last (other ∷ pool) letter = grind (arith, letter-last pool letter)

letter-after : (w : World) (n : ℕ) → letter_at w (n + 1) ≡ slice_get w.pool n
letter-after w n = ap (λ (k : ℕ). letter_at w k) (let next : n + 1 ≡ suc n = omega arith in next)

found-letter : (found : Option Letter) (letter : Letter) (h : History) → found ≡ Some letter → (let k : History = elim found [ None ↦ h | Some other ↦ with_letter other h ] in k) ≡ with_letter letter h
found-letter None letter h e = absurd (grind (arith, e))
found-letter (Some other) letter h e = let same : other ≡ letter = cc in ap (λ (x : Letter). with_letter x h) same

pub posted-noted : (site : SiteId) (message : Message) (w : World) (h : History) → with_posted (post site message w).0 (post site message w).1 h ≡ with_letter (record { site = site; message = message }) h
posted-noted site message w h =
    let letter : Letter = record { site = site; message = message } in
    found-letter (letter_at (post site message w).0 (length w.pool + 1)) letter h (letter-after (post site message w).0 (length w.pool) ∙ letter-last w.pool letter)

-- a draw asks for no moment
pub from-later : (publication : Publication) (now : Moment) (p : PublisherTables) (change : Change) → draw_for_change publication (at_moment now p) change ≡ draw_for_change publication p change
from-later publication now p (Insert article values) = refl
from-later publication now p (Update article row values) = refl
from-later publication now p (Delete article row) = refl

pub same-sites : (a b : SiteId) → a.0 ≡ b.0 → a ≡ b
same-sites a b e = ap (λ (n : ℕ). (let site : SiteId = record { 0 = n } in site)) e

not-zero : (n : ℕ) → (n == 0) ≡ false → n ≡ 0 → ⊥
not-zero n e is = absurd (grind (arith, nat_tests, e, is))

module _ (publication : Publication) (says : Saying) (B P : World → History → Type 0) (received : (w : World) (h : History) → B w h → Received w h) (keeps : StepsKeep publication says B P) where
  -- after a step, with what it notes where it did something
  abbrev After : World × Outcome → History → History → Type 0
  After done after before = P done.0 (with_posted done.0 done.1 (noted_if (did_something done.1) after before))

  post-after : (site : SiteId) (message : Message) (w : World) (after before : History) → Sends P site message w after → After (post site message w) after before
  post-after site message w after before holds = subst (λ (k : History). P (post site message w).0 k) (sym (posted-noted site message w after)) holds

  if-after : (b : Bool) (x y : World × Outcome) (first second h : History) → (b ≡ true → After x first h) → (b ≡ false → After y second h) → After (if b then x else y) (if b then first else second) h
  if-after true x y first second h one other = one refl
  if-after false x y first second h one other = other refl

  if-same : (b : Bool) (x y : World × Outcome) (h : History) → After x h h → After y h h → After (if b then x else y) h h
  if-same true x y h one other = one
  if-same false x y h one other = other

  module _ (w : World) (h : History) (b : B w h) (p : P w h) where
    r : Received w h
    r = received w h b

    unless-after : {A : Type 0} (done : Option Refusal) (a : A) (act : A → World × Outcome) (after : History) → (done ≡ None → After (act a) after h) → After (unless_refused w (unless done a) act) after h
    unless-after (Some why) a act after holds = p
    unless-after None a act after holds = holds refl

    -- a subscriber that there is, and what is noted of it
    there-after : (site : SiteId) (found : Option SubscriberTables) (act : SubscriberTables → World × Outcome) (note : SubscriberTables → History) → subscriber_at w site ≡ found → ((s : SubscriberTables) → subscriber_at w site ≡ Some s → After (act s) (note s) h)
        → (let done : World × Outcome = elim found [ None ↦ (w, Refuses (UnknownSite site)) | Some s ↦ act s ] in
        let after : History = elim found [ None ↦ h | Some s ↦ note s ] in After done after h)
    there-after site None act note is each = p
    there-after site (Some s) act note is each = each s is

    there-same : (site : SiteId) (found : Option SubscriberTables) (act : SubscriberTables → World × Outcome) → subscriber_at w site ≡ found → ((s : SubscriberTables) → subscriber_at w site ≡ Some s → After (act s) h h)
        → (let done : World × Outcome = elim found [ None ↦ (w, Refuses (UnknownSite site)) | Some s ↦ act s ] in After done h h)
    there-same site None act is each = p
    there-same site (Some s) act is each = each s is

    site-of : (site : SiteId) (s : SubscriberTables) → subscriber_at w site ≡ Some s → s.site ≡ site
    site-of site s at = same-sites s.site site (r.subscribers site.0 s at).keyed

    -- Local changes.

    own-drawn : (change : Change) (draw : Result Drawn Refusal) → local_refusal publication change w.publisher ≡ None → draw_for_change publication w.publisher change ≡ draw
        → (let judge : PublisherJudge = by_past h (pasts_with h 0) in
        let done : Result (PublisherTables × RowId) Refusal = elim draw [ Err refusal ↦ Err refusal | Ok d ↦ Ok (made_locally publication judge change d (here w)) ] in
        let after : History = elim draw [ Err refusal ↦ h | Ok d ↦ own_noted publication judge change d (here w) h ] in
        After (unless_refused w done (λ (made : PublisherTables × RowId). (with_publisher made.0 w, Made made.1))) after h)
    own-drawn change (Err refusal) fine is = p
    own-drawn change (Ok d) fine is = keeps.own_change w h change d b p fine is

    own-refused : (change : Change) (refusal : Option Refusal) → local_refusal publication change w.publisher ≡ refusal
        → (let judge : PublisherJudge = by_past h (pasts_with h 0) in
        let done : Result (PublisherTables × RowId) Refusal = elim refusal [
          | Some why ↦ Err why
          | None ↦ elim (draw_for_change publication w.publisher change) [ Err why ↦ Err why | Ok d ↦ Ok (made_locally publication judge change d (here w)) ]
        ] in
        let after : History = elim (draw_for_change publication w.publisher change) [ Err why ↦ h | Ok d ↦ own_noted publication judge change d (here w) h ] in
        After (unless_refused w done (λ (made : PublisherTables × RowId). (with_publisher made.0 w, Made made.1))) after h)
    own-refused change (Some why) is = p
    own-refused change None is = own-drawn change (draw_for_change publication w.publisher change) is refl

    own-after : (change : Change) → After (make_at_publisher publication (by_history h) change w) (Noting.noted_at_publisher publication (by_past h (pasts_with h 0)) change (here w) h) h
    own-after change =
        let judge : PublisherJudge = by_past h (pasts_with h 0) in
        subst (λ (draw : Result Drawn Refusal). (let after : History = elim draw [ Err why ↦ h | Ok d ↦ own_noted publication judge change d (here w) h ] in After (make_at_publisher publication (by_history h) change w) after h))
        (sym (from-later publication w.moment w.publisher change)) (own-refused change (local_refusal publication change w.publisher) refl)

    module _ (site : SiteId) (s : SubscriberTables) (at : subscriber_at w site ≡ Some s) where
      own : subscriber_at w s.site ≡ Some s
      own = own-at w h r site s at

      sub-drawn : (change : Change) (draw : Result (Value × List (ℕ × Holder)) Refusal) → (s.site.0 ≡ 0 → ⊥) → subscriber_local_refusal publication change s ≡ None → subscriber_drawn s change ≡ draw
          → (let done : Result (SubscriberTables × RowId) Refusal = elim draw [ Err refusal ↦ Err refusal | Ok d ↦ Ok (subscriber_made_locally publication change d (subscriber_at_moment w.moment s)) ] in
          let after : History = elim draw [ Err refusal ↦ h | Ok d ↦ Noting.with_change publication (subscriber_next_dot s) (subscriber_last_closed s + 1) change d.0 h ] in
          After (unless_refused w done (λ (made : SubscriberTables × RowId). (with_subscriber made.0 w, Made made.1))) after h)
      sub-drawn change (Err refusal) named fine is = p
      sub-drawn change (Ok d) named fine is = keeps.subscriber_change w h s change d b p own named fine is

      sub-refused : (change : Change) (refusal : Option Refusal) → (s.site.0 ≡ 0 → ⊥) → subscriber_local_refusal publication change s ≡ refusal
          → (let done : Result (SubscriberTables × RowId) Refusal = elim refusal [
            | Some why ↦ Err why
            | None ↦ elim (subscriber_drawn s change) [ Err why ↦ Err why | Ok d ↦ Ok (subscriber_made_locally publication change d (subscriber_at_moment w.moment s)) ]
          ] in
          After (unless_refused w done (λ (made : SubscriberTables × RowId). (with_subscriber made.0 w, Made made.1))) (Noting.noted_at_subscriber publication change s h) h)
      sub-refused change (Some why) named is = p
      sub-refused change None named is = sub-drawn change (subscriber_drawn s change) named is refl

    make-after : (site : SiteId) (change : Change) → After (make_at publication (by_history h) site change w) (noted_action publication says (by_history h) w (Make site change) h) h
    make-after site change = if-after (site.0 == 0) (make_at_publisher publication (by_history h) change w) (at_subscriber site w (make_at_subscriber publication change w))
        (Noting.noted_at_publisher publication (by_past h (pasts_with h 0)) change (here w) h) (let after : History = elim (subscriber_at w site) [ None ↦ h | Some s ↦ Noting.noted_at_subscriber publication change s h ] in after) h
        (λ own. own-after change)
        (λ named. there-after site (subscriber_at w site) (make_at_subscriber publication change w) (λ (s : SubscriberTables). Noting.noted_at_subscriber publication change s h) refl
        (λ s at. sub-refused site s at change (subscriber_local_refusal publication change s) (λ is. not-zero site.0 named (sym (r.subscribers site.0 s at).keyed ∙ is)) refl))

    close-after : (site : SiteId) → After (close_at site w) h h
    close-after site = if-same (site.0 == 0) (close_publisher w) (at_subscriber site w (close_subscriber w)) h
        (unless-after (counter_end (counters w.publisher)) (tables_after_close (here w), last_closed (tables_after_close (here w))) (λ (done : PublisherTables × ℕ). (with_publisher done.0 w, Closes done.1)) h (λ fine. keeps.own_closing w h b p))
        (there-same site (subscriber_at w site) (close_subscriber w) refl
        (λ s at. (let t : SubscriberTables = subscriber_closed (subscriber_at_moment w.moment s) in
        unless-after (counter_end (subscriber_counters s)) (t, subscriber_last_closed t) (λ (done : SubscriberTables × ℕ). (with_subscriber done.0 w, Closes done.1)) h (λ fine. keeps.subscriber_closing w h s b p (own site s at)))))

    -- Messages that a subscriber makes.

    module _ (site : SiteId) (s : SubscriberTables) (at : subscriber_at w site ≡ Some s) where
      join-after : (b : Bool) → s.is_joined ≡ b → (let made : Option (SubscriberTables × Join) = if b then None else Some (with_message ask.Join s, join_of s) in After (post_if_made s.site (λ (m : Join). request.Join m) w made) h h)
      join-after true is = p
      join-after false is = post-after s.site (Asks (request.Join (join_of s))) (with_subscriber (with_message ask.Join s) w) h h (keeps.sends_join w h s b p (own site s at) is)

      upload-after : (rows : List (Key × ℕ)) → sending_refusal s ≡ None
          → (let made : Option (SubscriberTables × Upload) = elim rows [ [] ↦ None | row ∷ rest ↦ Some (upload_sent (by_made h s.site) (subscriber_closed (subscriber_at_moment w.moment s))) ] in After (post_if_made s.site (λ (m : Upload). request.Upload m) w made) h h)
      upload-after [] fine = p
      upload-after (row ∷ rest) fine =
          let made : SubscriberTables × Upload = upload_sent (by_made h s.site) (subscriber_closed (subscriber_at_moment w.moment s)) in
          post-after s.site (Asks (request.Upload made.1)) (with_subscriber made.0 w) h h (keeps.sends_upload w h s b p (own site s at) fine)

      ranges-after : (held : List (ℕ × Holder)) → sending_refusal s ≡ None → (let made : Option (SubscriberTables × RangeAsk) = elim held [ [] ↦ None | entry ∷ entries ↦ Some (with_message ask.Ranges s, record { site = s.site; seq = s.seq + 1; wants = map want_of s.held }) ] in After (post_if_made s.site (λ (m : RangeAsk). request.Ranges m) w made) h h)
      ranges-after [] fine = p
      ranges-after (entry ∷ entries) fine = post-after s.site (Asks (request.Ranges (record { site = s.site; seq = s.seq + 1; wants = map want_of s.held }))) (with_subscriber (with_message ask.Ranges s) w) h h (keeps.sends_ranges w h s b p (own site s at) fine)

      send-after : (sending : Sending) → After (send_from (by_history h) sending w s) h h
      send-after SendJoin = unless-after (counter_end (subscriber_counters s)) (join_made s) (post_if_made s.site (λ (m : Join). request.Join m) w) h (λ fine. join-after s.is_joined refl)
      send-after SendUpload = unless-after (sending_refusal s) (upload_made (by_made h s.site) w.moment s) (post_if_made s.site (λ (m : Upload). request.Upload m) w) h (λ fine. upload-after (unsent_rows (by_made h s.site) s) fine)
      send-after SendRanges = unless-after (sending_refusal s) (ranges_made s) (post_if_made s.site (λ (m : RangeAsk). request.Ranges m) w) h (λ fine. ranges-after s.held fine)
      send-after SendDownload =
          let made : SubscriberTables × Download = (with_message (ask.Download s.watermark) s, record { site = s.site; seq = s.seq + 1; from = s.watermark }) in
          unless-after (sending_refusal s) made (λ (done : SubscriberTables × Download). post s.site (Asks (request.Download done.1)) (with_subscriber done.0 w)) h
          (λ fine. post-after s.site (Asks (request.Download made.1)) (with_subscriber made.0 w) h h (keeps.sends_ask w h s b p (own site s at) fine))

      anew-after : After (make_anew (by_history h) w s) (Noting.noted_anew (by_made h s.site) s h) h
      anew-after = unless-after (counter_end (subscriber_counters s)) (result_of_reinit (by_made h s.site) (subscriber_at_moment w.moment s)) (λ (done : SubscriberTables × ℕ). (with_subscriber done.0 w, Discards done.1)) (Noting.noted_anew (by_made h s.site) s h)
          (λ fine. keeps.anew w h s b p (own site s at))

      -- Replies.

      replied-after : (number : ℕ) (m : Reply) (sent : Outstanding) (fault : Option Refusal) → comes w number s.site (Replies m) → s.outstanding ≡ Some (seq_of m, sent) → reply_fault publication sent m s ≡ fault
          → (let done : Result (SubscriberTables × Taken) Refusal = unless fault (tables_after_reply (by_made h s.site) w.moment m s, Acted) in
          After (unless_refused w done (λ (made : SubscriberTables × Taken). (with_subscriber made.0 w, Took made.1))) (Noting.noted_reply (by_made h s.site) s.site (pasts_with h number) m h) h)
      replied-after number m sent (Some why) here out none = p
      replied-after number m sent None here out none = keeps.replies w h s number m sent b p (own site s at) here out none

      numbered-after : (number : ℕ) (m : Reply) (seq : ℕ) (sent : Outstanding) (b : Bool) → comes w number s.site (Replies m) → s.outstanding ≡ Some (seq, sent) → (seq == seq_of m) ≡ b
          → (let done : Result (SubscriberTables × Taken) Refusal = if b then unless (reply_fault publication sent m s) (tables_after_reply (by_made h s.site) w.moment m s, Acted) else Ok (s, Missed (seq_of m) seq) in
          After (unless_refused w done (λ (made : SubscriberTables × Taken). (with_subscriber made.0 w, Took made.1))) (Noting.noted_reply (by_made h s.site) s.site (pasts_with h number) m h) h)
      numbered-after number m seq sent true here out same =
          let is : seq ≡ seq_of m = grind (arith, nat_tests, same) in
          replied-after number m sent (reply_fault publication sent m s) here (out ∙ ap (λ (q : ℕ). (let found : Option (ℕ × Outstanding) = Some (q, sent) in found)) is) refl
      numbered-after number m seq sent false here out same = keeps.same w h s b p (own site s at)

      met-after : (number : ℕ) (m : Reply) (found : Option (ℕ × Outstanding)) → comes w number s.site (Replies m) → s.outstanding ≡ found
          → After (unless_refused w (met_by publication (by_made h s.site) w.moment m s found) (λ (made : SubscriberTables × Taken). (with_subscriber made.0 w, Took made.1))) (Noting.noted_reply (by_made h s.site) s.site (pasts_with h number) m h) h
      met-after number m None here out = keeps.same w h s b p (own site s at)
      met-after number m (Some sent) here out = numbered-after number m sent.0 sent.1 (sent.0 == seq_of m) here out refl

      reply-after : (number : ℕ) (m : Reply) → comes w number s.site (Replies m) → After (deliver_reply publication (by_history h) m w s) (Noting.noted_reply (by_made h s.site) s.site (pasts_with h number) m h) h
      reply-after number (reply.Joined m) here = met-after number (reply.Joined m) s.outstanding here refl
      reply-after number (reply.Uploaded m) here = met-after number (reply.Uploaded m) s.outstanding here refl
      reply-after number (reply.Ranged m) here = met-after number (reply.Ranged m) s.outstanding here refl
      reply-after number (reply.Downloaded m) here = met-after number (reply.Downloaded m) s.outstanding here refl
      reply-after number (reply.Refused code values) here = keeps.same w h s b p (own site s at)

    -- Messages that come to the publisher.

    letter-known : (number : ℕ) (letter : Letter) → letter_at w number ≡ Some letter → MessageFits (joined_at w.publisher letter.site) letter.site (at_number w.subscribers letter.site.0) letter.message
    letter-known zero letter at = absurd (grind (arith, at))
    letter-known (suc k) letter at = all-at (λ (x : Letter). MessageFits (joined_at w.publisher x.site) x.site (at_number w.subscribers x.site.0) x.message) w.pool k letter at r.letters

    join-site : (m : Join) (joined : ℕ) (site : SiteId) (found : Option SubscriberTables) → JoinFits joined site m found → m.site ≡ site
    join-site m joined site None fits = absurd fits
    join-site m joined site (Some s) fits = fits.0

    upload-site : (m : Upload) (site : SiteId) (found : Option SubscriberTables) → UploadFits site m found → m.site ≡ site
    upload-site m site None fits = absurd fits
    upload-site m site (Some s) fits = fits.0

    join-taken : (number : ℕ) (m : Join) (b : Bool) → comes w number m.site (Asks (request.Join m)) → join_refusal publication m w.publisher ≡ None → join_acts m w.publisher ≡ b
        → (let q : PublisherTables = if b then join_taken m (here w) else here w in
        let k : History = if b then join_noted (by_past h (pasts_with h number)) m w.publisher h else h in
        Sends P m.site (Replies (reply.Joined (record { seq = m.seq }))) (with_publisher q w) k)
    join-taken number m true at fine acts = keeps.joins w h number m b p at fine acts
    join-taken number m false at fine acts = keeps.joins_again w h number m b p at acts

    join-come : (number : ℕ) (m : Join) → comes w number m.site (Asks (request.Join m))
        → After (post_reply m.site (λ (made : Joined). reply.Joined made) w (join publication w.moment m w.publisher)) (Noting.noted_join (by_past h (pasts_with h number)) m w.publisher h) h
    join-come number m at = unless-after (join_refusal publication m w.publisher) (tables_after_join m (here w), record { seq = m.seq }) (λ (made : PublisherTables × Joined). post m.site (Replies (reply.Joined made.1)) (with_publisher made.0 w))
        (Noting.noted_join (by_past h (pasts_with h number)) m w.publisher h)
        (λ fine. post-after m.site (Replies (reply.Joined (record { seq = m.seq }))) (with_publisher (tables_after_join m (here w)) w) (Noting.noted_join (by_past h (pasts_with h number)) m w.publisher h) h
        (join-taken number m (join_acts m w.publisher) at fine refl))

    upload-taken : (number : ℕ) (m : Upload) (b : Bool) → comes w number m.site (Asks (request.Upload m))
        → (let judge : PublisherJudge = by_past h (pasts_with h number) in upload_refusal publication judge w.moment m w.publisher ≡ None → brings_news judge m ≡ b
        → (let q : PublisherTables = if b then taken_in publication judge m (acts_in publication says judge m w) (here w) else here w in
        let k : History = if b then Noting.with_acts_noted publication judge m (acts_in publication says judge m w) (pasts_with h number) (here w) h else h in
        Sends P m.site (Replies (reply.Uploaded (told_by judge m))) (uploaded_world publication says judge m q w) k))
    upload-taken number m true at fine news = keeps.uploads w h number m b p at fine news
    upload-taken number m false at fine news = keeps.uploads_again w h number m b p at news

    upload-come : (number : ℕ) (m : Upload) → comes w number m.site (Asks (request.Upload m))
        → (let judge : PublisherJudge = by_past h (pasts_with h number) in
        let decisions : List Decision = kept_decisions says w.tallies (upload_questions publication judge w.moment m w.publisher) in
        After (deliver_request publication says judge m.site (request.Upload m) w) (Noting.noted_upload publication judge m decisions (pasts_with h number) (here w) h) h)
    upload-come number m at =
        let judge : PublisherJudge = by_past h (pasts_with h number) in
        let decisions : List Decision = kept_decisions says w.tallies (upload_questions publication judge w.moment m w.publisher) in
        let q : PublisherTables = tables_after_upload publication judge m decisions (here w) in
        unless-after (upload_refusal publication judge w.moment m w.publisher) (q, told_by judge m)
        (λ (made : PublisherTables × Uploaded). post m.site (Replies (reply.Uploaded made.1)) (uploaded_world publication says judge m made.0 w))
        (Noting.noted_upload publication judge m decisions (pasts_with h number) (here w) h)
        (λ fine. post-after m.site (Replies (reply.Uploaded (told_by judge m))) (uploaded_world publication says judge m q w) (Noting.noted_upload publication judge m decisions (pasts_with h number) (here w) h) h
        (upload-taken number m (brings_news judge m) at fine refl))

    request-come : (number : ℕ) (site : SiteId) (m : Request) → comes w number site (Asks m) → MessageFits (joined_at w.publisher site) site (at_number w.subscribers site.0) (Asks m)
        → (let letter : Letter = record { site = site; message = Asks m } in After (deliver_letter publication says (by_history h) number w letter) (noted_letter publication says (by_history h) number w letter h) h)
    request-come number site (request.Join m) at fits =
        let same : m.site ≡ site = join-site m (joined_at w.publisher site) site (at_number w.subscribers site.0) fits in
        subst (λ (x : SiteId). After (post_reply x (λ (made : Joined). reply.Joined made) w (join publication w.moment m w.publisher)) (Noting.noted_join (by_past h (pasts_with h number)) m w.publisher h) h) same
        (join-come number m (subst (λ (x : SiteId). comes w number x (Asks (request.Join m))) (sym same) at))
    request-come number site (request.Upload m) at fits =
        let judge : PublisherJudge = by_past h (pasts_with h number) in
        let decisions : List Decision = kept_decisions says w.tallies (upload_questions publication judge w.moment m w.publisher) in
        let same : m.site ≡ site = upload-site m site (at_number w.subscribers site.0) fits in
        subst (λ (x : SiteId). After (deliver_request publication says judge x (request.Upload m) w) (Noting.noted_upload publication judge m decisions (pasts_with h number) (here w) h) h) same
        (upload-come number m (subst (λ (x : SiteId). comes w number x (Asks (request.Upload m))) (sym same) at))
    request-come number site (request.Ranges m) at fits =
        let judge : PublisherJudge = by_past h (pasts_with h number) in
        let q : PublisherTables = with_grants (plans publication m w.publisher) (here w) in
        unless-after (ranges_refusal publication judge w.moment m w.publisher) (q, reply_to_ranges m (plans publication m w.publisher)) (λ (made : PublisherTables × Ranged). post site (Replies (reply.Ranged made.1)) (with_publisher made.0 w)) h
        (λ fine. post-after site (Replies (reply.Ranged (reply_to_ranges m (plans publication m w.publisher)))) (with_publisher q w) h h (keeps.answers_ranges w h site m b p))
    request-come number site (request.Download m) at fits =
        let judge : PublisherJudge = by_past h (pasts_with h number) in
        let q : PublisherTables = tables_after_download m (here w) in
        unless-after (download_refusal publication w.moment m w.publisher) (q, reply_to publication judge m q) (λ (made : PublisherTables × Downloaded). post site (Replies (reply.Downloaded made.1)) (with_publisher made.0 w)) h
        (λ fine. post-after site (Replies (reply.Downloaded (reply_to publication judge m q))) (with_publisher q w) h h (keeps.answers_ask w h number site m b p at fine))

    message-come : (number : ℕ) (site : SiteId) (message : Message) → comes w number site message
        → (let letter : Letter = record { site = site; message = message } in After (deliver_letter publication says (by_history h) number w letter) (noted_letter publication says (by_history h) number w letter h) h)
    message-come number site (Asks m) at = request-come number site m at (letter-known number (record { site = site; message = Asks m }) at)
    message-come number site (Replies m) at = there-after site (subscriber_at w site) (deliver_reply publication (by_history h) m w) (λ (s : SubscriberTables). Noting.noted_reply (by_made h site) site (pasts_with h number) m h) refl
        (λ s there. (let same : s.site ≡ site = site-of site s there in
        subst (λ (x : SiteId). After (deliver_reply publication (by_history h) m w s) (Noting.noted_reply (by_made h x) x (pasts_with h number) m h) h) same
        (reply-after site s there number m (subst (λ (x : SiteId). comes w number x (Replies m)) (sym same) at))))

    letter-come : (number : ℕ) (found : Option Letter) → letter_at w number ≡ found
        → (let done : World × Outcome = elim found [ None ↦ (w, NoLetter) | Some letter ↦ deliver_letter publication says (by_history h) number w letter ] in
        let after : History = elim found [ None ↦ h | Some letter ↦ noted_letter publication says (by_history h) number w letter h ] in After done after h)
    letter-come number None is = p
    letter-come number (Some letter) is = message-come number letter.site letter.message is

    action-after : (action : Action) → After (step_by publication says (by_history h) w action) (noted_action publication says (by_history h) w action h) h
    action-after (Pass seconds) = keeps.moment w h (record { 0 = w.moment.0 + seconds }) b p
    action-after (Make site change) = make-after site change
    action-after (CloseAt site) = close-after site
    action-after (Send site sending) = there-same site (subscriber_at w site) (send_from (by_history h) sending w) refl (λ s at. send-after site s at sending)
    action-after (Deliver number) = letter-come number (letter_at w number) refl
    action-after (MakeAnew site) = there-after site (subscriber_at w site) (make_anew (by_history h) w) (λ (s : SubscriberTables). Noting.noted_anew (by_made h site) s h) refl
        (λ s at. subst (λ (x : SiteId). After (make_anew (by_history h) w s) (Noting.noted_anew (by_made h x) s h) h) (site-of site s at) (anew-after site s at))
    action-after Forget = keeps.forgetting w h b p
    action-after Look = p

  -- every step
  pub step-keeps : (m : Model) (action : Action) → B m.world m.history → P m.world m.history → (let n : Model = (model_step publication says m action).0 in P n.world n.history)
  step-keeps m action b p = action-after m.world m.history b p action
