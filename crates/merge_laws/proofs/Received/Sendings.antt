-- A message that a subscriber makes keeps what the numbers say.
use Rattle.std.specs.Prelude.{◌≡◌, ◌≤◌, ◌+◌, ◌-◌, ℕ, zero, suc, List, [], ◌∷◌, Bool, true, false, Option, Some, None, Result, refl, if◌then◌else◌, nat_le, unwrap_or, map, cond, filter, length, min}
use Rattle.std.specs.List.{last_or, range_with_len}
use Rattle.std.proofs.Common.{arith}
use Rattle.std.proofs.lemmas.Bool.Decides.{nat_tests}
use Rattle.merge_types.specs.declared.identifiers.SiteId.{SiteId}
use Rattle.merge_ident.specs.Holders.{Holder}
use Rattle.merge_batch.specs.declared.refusal.Refusal.{Refusal}
use Rattle.merge_batch.specs.declared.request.Join.{Join}
use Rattle.merge_batch.specs.declared.request.Upload.{Upload}
use Rattle.merge_batch.specs.declared.request.RangeAsk.{RangeAsk}
use Rattle.merge_batch.specs.declared.request.Download.{Download}
use Rattle.merge_batch.specs.declared.request.Outstanding.{Outstanding}
use Rattle.merge_batch.specs.declared.request.Outstanding.TheVariants as ask
use Rattle.merge_batch.specs.declared.request.Request.{Request}
use Rattle.merge_batch.specs.declared.request.Request.TheVariants as request
use Rattle.merge_batch.specs.declared.reply.Reply.{Reply}
use Rattle.merge_schema.specs.declared.publication.Publication.{Publication}
use Rattle.merge_types.specs.declared.row_key.RowKey.{RowKey as Key}
use Rattle.merge_model.specs.Tables.{SubscriberTables}
use Rattle.merge_model.specs.Tables.Refusals.{unless, counter_end}
use Rattle.merge_model.specs.Judge.{SubscriberJudge}
use Rattle.merge_model.specs.Judge.ByNumbers.{received_by_number}
use Rattle.merge_model.specs.Publisher.PublisherJoin.{tables_after_join}
use Rattle.merge_types.specs.Limits.{item_limit, generation_limit}
use Rattle.merge_model.specs.Publisher.PublisherDownload.{batch_end}
use Rattle.merge_model.specs.Subscriber.{subscriber_closed, subscriber_at_moment, subscriber_counters, subscriber_last_closed}
use Rattle.merge_model.specs.Subscriber.Sending.{join_made, join_of, upload_made, upload_sent, upload_to, upload_end, unsent_rows, ranges_made, want_of, sending_refusal, with_message}
use Rattle.merge_model.specs.Subscriber.Taking.{take_reply}
use Rattle.merge_model.specs.declared.outcome.Taken.{Taken}
use Rattle.merge_model.specs.Subscriber.Reinit.{reinitialise, result_of_reinit}
use Rattle.merge_model.specs.World.{World, Judges, subscriber_at, with_subscriber}
use Rattle.merge_model.specs.declared.letter.Message.TheVariants.{Asks, Replies}
use Rattle.merge_model.specs.World.Steps.{Sending, SendJoin, SendUpload, SendRanges, SendDownload, post, post_if_made, unless_refused, send_from, deliver_reply, make_anew}
use Rattle.merge_model.specs.declared.outcome.Outcome.TheVariants.{Took, Discards}
use Rattle.merge_model.specs.History.{History}
use Rattle.merge_laws.specs.Facts.Received.{joined_at, MessageFits, SubscriberFits, Received}
use Rattle.merge_laws.proofs.Received.Subscribing.{Goes, closing-goes, message-goes-on, anew-goes}
use Rattle.merge_laws.proofs.Received.Replying.{reply-goes}
use Rattle.merge_laws.proofs.Received.Steps.{fits-own, goes-fine, sub-fine, letter-fine, unless-goes}

last-step : (b : Bool) (last from d : ℕ) (o : Option ℕ) (kept : List ℕ) → from ≤ last → unwrap_or o d ≤ last → ((p : Option ℕ) → unwrap_or p d ≤ last → unwrap_or (last_or p kept) d ≤ last) → unwrap_or (last_or o (cond b (from ∷ kept) kept)) d ≤ last
last-step true last from d o kept low up more = more (Some from) low
last-step false last from d o kept low up more = more o up

last-within : (test : ℕ → Bool) (n from last d : ℕ) (o : Option ℕ) → from + n ≤ last + 1 → unwrap_or o d ≤ last → unwrap_or (last_or o (filter test (range_with_len from n))) d ≤ last
last-within test zero from last d o fits up = up
last-within test (suc n) from last d o fits up =
    last-step (test from) last from d o (filter test (range_with_len (from + 1) n)) (omega (arith, fits)) up (λ p low. last-within test n (from + 1) last d p (omega (arith, fits)) low)

pub batch-bound : (items : ℕ → ℕ) (from last : ℕ) → from ≤ last → batch_end items from last ≤ last
batch-bound items from last up = last-within (λ (to : ℕ). nat_le (items to) item_limit) (min generation_limit (last - from)) (from + 1) last from None (grind (arith, nat_tests, up)) up

-- nor before the begin
least-step : (b : Bool) (least from d : ℕ) (o : Option ℕ) (kept : List ℕ) → least ≤ from → least ≤ unwrap_or o d → ((p : Option ℕ) → least ≤ unwrap_or p d → least ≤ unwrap_or (last_or p kept) d) → least ≤ unwrap_or (last_or o (cond b (from ∷ kept) kept)) d
least-step true least from d o kept low up more = more (Some from) low
least-step false least from d o kept low up more = more o up

least-within : (test : ℕ → Bool) (n from least d : ℕ) (o : Option ℕ) → least ≤ from → least ≤ unwrap_or o d → least ≤ unwrap_or (last_or o (filter test (range_with_len from n))) d
least-within test zero from least d o low up = up
least-within test (suc n) from least d o low up = least-step (test from) least from d o (filter test (range_with_len (from + 1) n)) low up (λ p below. least-within test n (from + 1) least d p (omega (arith, low)) below)

pub batch-begin : (items : ℕ → ℕ) (from last : ℕ) → from ≤ batch_end items from last
batch-begin items from last = least-within (λ (to : ℕ). nat_le (items to) item_limit) (min generation_limit (last - from)) (from + 1) from from None (omega arith) (omega arith)

then-message : (received joined : ℕ) (sent : Outstanding) (s c : SubscriberTables) → Goes received joined s c → Goes received joined s (with_message sent c)
then-message received joined sent s c g = record {
  same_site = g.same_site;
  seq = omega (arith, g.seq);
  closed = g.closed;
  fits = record { keyed = g.fits.keyed; idle = g.fits.idle; own = g.fits.own; last = λ q o e. grind (arith, e); taken = g.fits.taken };
  waits = λ site m fits later. g.waits site m fits later;
}

module _ (w : World) (h : History) (r : Received w h) (site : SiteId) (s : SubscriberTables) (at : subscriber_at w site ≡ Some s) where
  abbrev known : ℕ
  known = received_by_number w.publisher s.site.0

  abbrev waiting : ℕ
  waiting = joined_at w.publisher s.site

  own : SubscriberFits known s.site.0 s
  own = fits-own w h r site s at

  join-made-fine : (b : Bool) → s.is_joined ≡ b → (let made : Option (SubscriberTables × Join) = if b then None else Some (with_message ask.Join s, join_of s) in Received (post_if_made s.site (λ (m : Join). request.Join m) w made).0 h)
  join-made-fine true is = r
  join-made-fine false is = letter-fine w h r site s at (with_message ask.Join s) (Asks (request.Join (join_of s))) (message-goes-on known waiting ask.Join s own) (refl, omega arith, λ later. (is, refl))

  refusal-fine : {A : Type 0} (refusal : Option Refusal) (made : Option (SubscriberTables × A)) (message : A → Request) → Received (post_if_made s.site message w made).0 h → Received (unless_refused w (unless refusal made) (post_if_made s.site message w)).0 h
  refusal-fine (Some why) made message ok = r
  refusal-fine None made message ok = ok

  upload-made-fine : (judge : SubscriberJudge) (rows : List (Key × ℕ)) → (let made : Option (SubscriberTables × Upload) = elim rows [ [] ↦ None | row ∷ rest ↦ Some (upload_sent judge (subscriber_closed (subscriber_at_moment w.moment s))) ] in Received (post_if_made s.site (λ (m : Upload). request.Upload m) w made).0 h)
  upload-made-fine judge [] = r
  upload-made-fine judge (row ∷ rest) =
      let c : SubscriberTables = subscriber_closed (subscriber_at_moment w.moment s) in
      let to : ℕ = upload_end judge c in
      let g : Goes known waiting s c = closing-goes known waiting 0 w.moment s own in
      letter-fine w h r site s at (with_message (ask.Upload c.received to) c) (Asks (request.Upload (upload_to judge c to))) (then-message known waiting (ask.Upload c.received to) s c g)
      (refl, batch-bound (λ (k : ℕ). length (judge.changed_between c.received k)) c.received (subscriber_last_closed c) g.fits.own)

  ranges-made-fine : (held : List (ℕ × Holder)) → (let made : Option (SubscriberTables × RangeAsk) = elim held [ [] ↦ None | entry ∷ entries ↦ Some (with_message ask.Ranges s, record { site = s.site; seq = s.seq + 1; wants = map want_of s.held }) ] in Received (post_if_made s.site (λ (m : RangeAsk). request.Ranges m) w made).0 h)
  ranges-made-fine [] = r
  ranges-made-fine (entry ∷ entries) =
      letter-fine w h r site s at (with_message ask.Ranges s) (Asks (request.Ranges (record { site = s.site; seq = s.seq + 1; wants = map want_of s.held }))) (message-goes-on known waiting ask.Ranges s own) tt

  ask-fine : (refusal : Option Refusal) → (let done : Result (SubscriberTables × Download) Refusal = unless refusal (with_message (ask.Download s.watermark) s, record { site = s.site; seq = s.seq + 1; from = s.watermark }) in
      Received (unless_refused w done (λ (made : SubscriberTables × Download). post s.site (Asks (request.Download made.1)) (with_subscriber made.0 w))).0 h)
  ask-fine (Some why) = r
  ask-fine None = letter-fine w h r site s at (with_message (ask.Download s.watermark) s) (Asks (request.Download (record { site = s.site; seq = s.seq + 1; from = s.watermark }))) (message-goes-on known waiting (ask.Download s.watermark) s own) tt

  pub send-fine : (judges : Judges) (sending : Sending) → Received (send_from judges sending w s).0 h
  send-fine judges SendJoin = refusal-fine (counter_end (subscriber_counters s)) (join_made s) (λ (m : Join). request.Join m) (join-made-fine s.is_joined refl)
  send-fine judges SendUpload = refusal-fine (sending_refusal s) (upload_made (judges.subscriber s.site s) w.moment s) (λ (m : Upload). request.Upload m) (upload-made-fine (judges.subscriber s.site s) (unsent_rows (judges.subscriber s.site s) s))
  send-fine judges SendRanges = refusal-fine (sending_refusal s) (ranges_made s) (λ (m : RangeAsk). request.Ranges m) (ranges-made-fine s.held)
  send-fine judges SendDownload = ask-fine (sending_refusal s)

  -- and so do a reply, and making anew
  pub reply-fine : (publication : Publication) (judges : Judges) (m : Reply) → MessageFits waiting s.site (Some s) (Replies m) → Received (deliver_reply publication judges m w s).0 h
  reply-fine publication judges m fits = sub-fine w h r site s at (take_reply publication (judges.subscriber s.site s) w.moment m s) (λ (done : SubscriberTables × Taken). (with_subscriber done.0 w, Took done.1))
      (reply-goes publication known waiting (judges.subscriber s.site s) w.moment m s fits own) (λ a g. goes-fine w h r site s at a.0 g)

  pub anew-fine : (judges : Judges) → Received (make_anew judges w s).0 h
  anew-fine judges =
      let made : SubscriberTables × ℕ = result_of_reinit (judges.subscriber s.site s) (subscriber_at_moment w.moment s) in
      sub-fine w h r site s at (reinitialise (judges.subscriber s.site s) w.moment s) (λ (done : SubscriberTables × ℕ). (with_subscriber done.0 w, Discards done.1))
      (unless-goes known waiting s (counter_end (subscriber_counters s)) made.0 made.1 (anew-goes known waiting (judges.subscriber s.site s) w.moment s own)) (λ a g. goes-fine w h r site s at a.0 g)
