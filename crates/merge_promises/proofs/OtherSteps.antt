-- A step at which no site changes a row, and none is made anew: what the sites have only rises, and where no upload brings news the publisher's
-- generations stay, as long as the open one is empty.
use Rattle.std.specs.Prelude.{Bool, IfSome, List, None, Ok, Option, Result, Some, [], false, if◌then◌else◌, map, refl, true, ℕ, ◌+◌, ◌==◌, ◌∷◌, ◌≡◌, ◌≤◌}
use Rattle.std.proofs.Common.{ap, arith, subst, sym, ◌∙◌}
use Rattle.std.proofs.lemmas.Bool.Decides.{nat_tests}
use Rattle.merge_types.specs.declared.identifiers.Moment.{Moment}
use Rattle.merge_types.specs.declared.identifiers.SiteId.{SiteId}
use Rattle.merge_types.specs.declared.row_key.RowKey.{RowKey as Key}
use Rattle.merge_units.specs.declared.result.Decision.{Decision}
use Rattle.merge_ident.specs.Holders.{Holder}
use Rattle.merge_ident.specs.declared.grants.GrantPlan.{GrantPlan}
use Rattle.merge_gens.specs.Filling.{filling_after_close as closed_filling}
use Rattle.merge_gens.specs.declared.filling.Filling.{Filling}
use Rattle.merge_schema.specs.declared.publication.Publication.{Publication}
use Rattle.merge_batch.specs.Replies.{broken_by_reply}
use Rattle.merge_batch.specs.declared.refusal.Refusal.{Refusal}
use Rattle.merge_batch.specs.declared.refusal.Refusal.TheVariants.{UnknownSite}
use Rattle.merge_batch.specs.declared.reply.Downloaded.{Downloaded}
use Rattle.merge_batch.specs.declared.reply.Joined.{Joined}
use Rattle.merge_batch.specs.declared.reply.Ranged.{Ranged}
use Rattle.merge_batch.specs.declared.reply.Reply.{Reply}
use Rattle.merge_batch.specs.declared.reply.Reply.TheVariants as reply
use Rattle.merge_batch.specs.declared.reply.Uploaded.{Uploaded}
use Rattle.merge_batch.specs.declared.request.Download.{Download}
use Rattle.merge_batch.specs.declared.request.Join.{Join}
use Rattle.merge_batch.specs.declared.request.Outstanding.{Outstanding}
use Rattle.merge_batch.specs.declared.request.Outstanding.TheVariants as ask
use Rattle.merge_batch.specs.declared.request.RangeAsk.{RangeAsk}
use Rattle.merge_batch.specs.declared.request.Request.{Request}
use Rattle.merge_batch.specs.declared.request.Request.TheVariants as request
use Rattle.merge_batch.specs.declared.request.Upload.{Upload}
use Rattle.merge_model.specs.Failing.{Slip, Slips, acting_with, fails, faulty, is_allowed, slip_if}
use Rattle.merge_model.specs.History.Model.{Model, model, model_step}
use Rattle.merge_model.specs.Judge.ByHistory.{by_history}
use Rattle.merge_model.specs.Judge.{PublisherJudge, SubscriberJudge}
use Rattle.merge_model.specs.Publisher.Acts.{acts_of}
use Rattle.merge_model.specs.Publisher.PublisherDownload.{download_refusal, reply_to, tables_after_download}
use Rattle.merge_model.specs.Publisher.PublisherJoin.{join_acts, join_refusal, join_taken, tables_after_join}
use Rattle.merge_model.specs.Publisher.PublisherPurge.{purge}
use Rattle.merge_model.specs.Publisher.PublisherRanges.{plans, ranges_refusal, reply_to_ranges, with_grants}
use Rattle.merge_model.specs.Publisher.PublisherUpload.{brings_news, tables_after_upload, taken_in, upload_refusal}
use Rattle.merge_model.specs.Publisher.{at_moment, counters, last_closed, tables_after_close}
use Rattle.merge_model.specs.Subscriber.Sending.{join_made, join_of, ranges_made, sending_refusal, unsent_rows, upload_made, upload_sent, want_of, with_message}
use Rattle.merge_model.specs.Subscriber.Taking.{met_by, seq_of, tables_after_reply}
use Rattle.merge_model.specs.Subscriber.{subscriber_at_moment, subscriber_closed, subscriber_counters}
use Rattle.merge_model.specs.Tables.Keys.{at_number}
use Rattle.merge_model.specs.Tables.Refusals.{counter_end, unless}
use Rattle.merge_model.specs.Tables.{PublisherTables, SubscriberTables}
use Rattle.merge_model.specs.World.Faults.{reply_fault}
use Rattle.merge_model.specs.World.Steps.{Action, CloseAt, Deliver, Forget, Look, Make, MakeAnew, Pass, Send, SendDownload, SendJoin, SendRanges, SendUpload, Sending, at_subscriber, close_publisher, close_subscriber, deliver_letter, deliver_reply, deliver_request, kept_decisions, post, post_if_made, send_from, step_by, unless_refused, upload_questions}
use Rattle.merge_model.specs.World.{Judges, Saying, World, letter_at, subscriber_at, with_publisher, with_subscriber}
use Rattle.merge_model.specs.declared.letter.Letter.{Letter}
use Rattle.merge_model.specs.declared.letter.Message.{Message}
use Rattle.merge_model.specs.declared.letter.Message.TheVariants.{Asks, Replies}
use Rattle.merge_model.specs.declared.outcome.Outcome.{Outcome}
use Rattle.merge_model.specs.declared.outcome.Outcome.TheVariants.{Closes, NoLetter, Refuses, Took}
use Rattle.merge_model.specs.declared.outcome.Taken.{Taken}
use Rattle.merge_model.specs.declared.outcome.Taken.TheVariants.{Acted, Missed}
use Rattle.merge_laws.specs.Facts.Watermarks.{HoldsWatermark, StateHolds, state_in}
use Rattle.merge_laws.proofs.Received.Replying.{downloaded-least, uploaded-least}
use Rattle.merge_laws.proofs.Received.Subscribing.{filling-closed}
use Rattle.merge_laws.proofs.Runs.Ground.{Ground}
use Rattle.merge_laws.proofs.Unsent.UnsentKept.{reply-site}
use Rattle.merge_laws.proofs.Walking.{told_by, uploaded_world}
use Rattle.merge_laws.proofs.Sessions.RoundStays.{closed-still}
use Rattle.merge_honest.proofs.PutFound.{put-each}
use Rattle.merge_promises.specs.SpacedRounds.{is_other}

-- of a site: it stays joined, and takes no less for received and for held
pub record Rises (s t : SubscriberTables) : Type 0 where
  pub joined : s.is_joined ≡ true → t.is_joined ≡ true
  pub received : s.received ≤ t.received
  pub watermark : s.watermark ≤ t.watermark

pub rises-itself : (s : SubscriberTables) → Rises s s
rises-itself s = record { joined = λ joins. joins; received = omega arith; watermark = omega arith }

pub rises-then : (s t u : SubscriberTables) → Rises s t → Rises t u → Rises s u
rises-then s t u one other = record {
  joined = λ joins. other.joined (one.joined joins);
  received = (let first = one.received in let second = other.received in omega (arith, first, second));
  watermark = (let first = one.watermark in let second = other.watermark in omega (arith, first, second));
}

-- tables of a site that stand behind come of some that stood before
pub record Before (m : Model) (n : ℕ) (t : SubscriberTables) : Type 0 where
  pub tables : SubscriberTables
  pub found : at_number m.world.subscribers n ≡ Some tables
  pub rises : Rises tables t

-- no upload of the pool brings the publisher something that has not acted
abbrev pub IsSilent : Model → Type 0
IsSilent m = (number : ℕ) (site : SiteId) (u : Upload) → (let letter : Letter = record { site = site; message = Asks (request.Upload u) } in let judges : Judges = by_history m.history in letter_at m.world number ≡ Some letter → brings_news (judges.publisher number) u ≡ false)

-- An open generation that is empty is so still, and none has closed.
abbrev pub IsStill : PublisherTables → PublisherTables → Type 0
IsStill p q = p.gens.filling.filled ≡ 0 → (q.gens.filling.filled ≡ 0) × (last_closed q ≡ last_closed p)

-- A download that fits ends no earlier than it begins.
is-ask : (publication : Publication) (sent : Outstanding) (m : Downloaded) (s : SubscriberTables) → reply_fault publication sent (reply.Downloaded m) s ≡ None → (from : ℕ) × ((sent ≡ ask.Download from) × (from ≤ m.to))
unfolding broken_by_reply
is-ask publication (ask.Download from) m s none = (from, (refl, grind (arith, nat_tests, none)))
is-ask publication ask.Join m s none = absurd (grind (arith, none))
is-ask publication ask.Ranges m s none = absurd (grind (arith, none))
is-ask publication (ask.Upload from to) m s none = absurd (grind (arith, none))

module _ (s : SubscriberTables) (asked_from : (seq from : ℕ) → s.outstanding ≡ Some (seq, ask.Download from) → from ≡ s.watermark) (knows : (seq from to : ℕ) → s.outstanding ≡ Some (seq, ask.Upload from to) → s.received ≤ to) where
  -- what a reply that acts leaves
  taken-rises : (publication : Publication) (judge : SubscriberJudge) (now : Moment) (seq : ℕ) (sent : Outstanding) (m : Reply) → s.outstanding ≡ Some (seq, sent) → reply_fault publication sent m s ≡ None → Rises s (tables_after_reply judge now m s)
  taken-rises publication judge now seq sent (reply.Joined m) out none = record { joined = λ joins. refl; received = omega arith; watermark = omega arith }
  taken-rises publication judge now seq sent (reply.Uploaded m) out none = record { joined = λ joins. joins; received = uploaded-least publication sent m s seq none out knows; watermark = omega arith }
  taken-rises publication judge now seq sent (reply.Ranged m) out none = record { joined = λ joins. joins; received = omega arith; watermark = omega arith }
  taken-rises publication judge now seq sent (reply.Downloaded m) out none =
      let begun = is-ask publication sent m s none in
      let from : begun.0 ≡ s.watermark = asked_from seq begun.0 (out ∙ ap (λ (x : Outstanding). Some (seq, x)) begun.1.0) in
      let up : begun.0 ≤ m.to = begun.1.1 in
      record { joined = λ joins. joins; received = downloaded-least publication sent m s none; watermark = omega (arith, from, up) }
  taken-rises publication judge now seq sent (reply.Refused number values) out none = record { joined = λ joins. joins; received = omega arith; watermark = omega arith }

module _ (publication : Publication) (says : Saying) (m : Model) (g : Ground publication m.world m.history) where
  abbrev w : World
  w = m.world

  abbrev p : PublisherTables
  p = m.world.publisher

  abbrev here : PublisherTables
  here = at_moment m.world.moment m.world.publisher

  abbrev judges : Judges
  judges = by_history m.history

  abbrev pub Ends : World → Type 0
  Ends v = (IsSilent m → IsStill p v.publisher) × ((n : ℕ) (t : SubscriberTables) → at_number v.subscribers n ≡ Some t → Before m n t)

  stays : Ends w
  stays = (λ silent empty. (empty, refl), λ n t at. record { tables = t; found = at; rises = rises-itself t })

  still-ends : (q : PublisherTables) → (IsSilent m → IsStill p q) → Ends (with_publisher q w)
  still-ends q still = (still, stays.1)

  one-ends : (s t : SubscriberTables) → subscriber_at w s.site ≡ Some s → t.site.0 ≡ s.site.0 → Rises s t → Ends (with_subscriber t w)
  one-ends s t at same rises = (stays.0, put-each (λ (n : ℕ) (x : SubscriberTables). Before m n x) w.subscribers s t same (record { tables = s; found = at; rises = rises }) stays.1)

  unless-ends : {A : Type 0} (refusal : Option Refusal) (made : A) (act : A → World × Outcome) → Ends (act made).0 → Ends (unless_refused w (unless refusal made) act).0
  unless-ends (Some why) made act ends = stays
  unless-ends None made act ends = ends

  found-ends : (site : SiteId) (found : Option SubscriberTables) (act : SubscriberTables → World × Outcome) → ((s : SubscriberTables) → found ≡ Some s → Ends (act s).0)
      → (let done : World × Outcome = elim found [ None ↦ (w, Refuses (UnknownSite site)) | Some s ↦ act s ] in Ends done.0)
  found-ends site None act each = stays
  found-ends site (Some s) act each = each s refl

  if-ends : (b : Bool) (x y : World × Outcome) → Ends x.0 → Ends y.0 → Ends (if b then x else y).0
  if-ends true x y one other = one
  if-ends false x y one other = other

  if-still : (b : Bool) (q r : PublisherTables) → IsStill p q → IsStill p r → IsStill p (if b then q else r)
  if-still true q r one other = one
  if-still false q r one other = other

  -- tables of a site are filed under its number
  own-number : (site : SiteId) (s : SubscriberTables) → subscriber_at w site ≡ Some s → subscriber_at w s.site ≡ Some s
  own-number site s at = subst (λ (n : ℕ). at_number w.subscribers n ≡ Some s) (sym (g.received.subscribers site.0 s at).keyed) at

  -- Closings.

  publisher-closes : Ends (close_publisher w).0
  publisher-closes = unless-ends (counter_end (counters p)) (tables_after_close here, last_closed (tables_after_close here)) (λ (done : PublisherTables × ℕ). (with_publisher done.0 w, Closes done.1))
      (still-ends (tables_after_close here) (λ silent empty. (filling-closed p.gens.filling, closed-still p.gens.filling empty)))

  subscriber-closes : (s : SubscriberTables) → subscriber_at w s.site ≡ Some s → Ends (close_subscriber w s).0
  subscriber-closes s at =
      let t : SubscriberTables = subscriber_closed (subscriber_at_moment w.moment s) in
      unless-ends (counter_end (subscriber_counters s)) (t, t.gens.filling.last_closed) (λ (done : SubscriberTables × ℕ). (with_subscriber done.0 w, Closes done.1))
      (one-ends s t at refl (record { joined = λ joins. joins; received = omega arith; watermark = omega arith }))

  -- Messages that are made.

  message-ends : (s : SubscriberTables) (sent : Outstanding) → subscriber_at w s.site ≡ Some s → Ends (with_subscriber (with_message sent s) w)
  message-ends s sent at = one-ends s (with_message sent s) at refl (record { joined = λ joins. joins; received = omega arith; watermark = omega arith })

  send-ends : (sending : Sending) (s : SubscriberTables) → subscriber_at w s.site ≡ Some s → Ends (send_from judges sending w s).0
  send-ends SendJoin s at = unless-ends (counter_end (subscriber_counters s)) (join_made s) (post_if_made s.site (λ (j : Join). request.Join j) w)
      (elim s.is_joined as (λ (b : Bool). (let made : Option (SubscriberTables × Join) = if b then None else Some (with_message ask.Join s, join_of s) in Ends (post_if_made s.site (λ (j : Join). request.Join j) w made).0)) [
        | true ↦ stays
        | false ↦ message-ends s ask.Join at
      ])
  send-ends SendUpload s at =
      let judge : SubscriberJudge = judges.subscriber s.site s in
      let t : SubscriberTables = subscriber_closed (subscriber_at_moment w.moment s) in
      let sent : SubscriberTables × Upload = upload_sent judge t in
      unless-ends (sending_refusal s) (upload_made judge w.moment s) (post_if_made s.site (λ (u : Upload). request.Upload u) w)
      (elim (unsent_rows judge s) as (λ (rows : List (Key × ℕ)). (let made : Option (SubscriberTables × Upload) = elim rows [ [] ↦ None | row ∷ rest ↦ Some sent ] in Ends (post_if_made s.site (λ (u : Upload). request.Upload u) w made).0)) [
        | [] ↦ stays
        | row ∷ rest ↦ one-ends s sent.0 at refl (record { joined = λ joins. joins; received = omega arith; watermark = omega arith })
      ])
  send-ends SendRanges s at =
      let a : RangeAsk = record { site = s.site; seq = s.seq + 1; wants = map want_of s.held } in
      unless-ends (sending_refusal s) (ranges_made s) (post_if_made s.site (λ (r : RangeAsk). request.Ranges r) w)
      (elim s.held as (λ (held : List (ℕ × Holder)). (let made : Option (SubscriberTables × RangeAsk) = elim held [ [] ↦ None | entry ∷ entries ↦ Some (with_message ask.Ranges s, a) ] in Ends (post_if_made s.site (λ (r : RangeAsk). request.Ranges r) w made).0)) [
        | [] ↦ stays
        | entry ∷ entries ↦ message-ends s ask.Ranges at
      ])
  send-ends SendDownload s at =
      let a : Download = record { site = s.site; seq = s.seq + 1; from = s.watermark } in
      unless-ends (sending_refusal s) (with_message (ask.Download s.watermark) s, a) (λ (made : SubscriberTables × Download). post s.site (Asks (request.Download made.1)) (with_subscriber made.0 w)) (message-ends s (ask.Download s.watermark) at)

  -- Messages that come to the publisher.

  news-still : (b : Bool) (q : PublisherTables) → b ≡ false → IsStill p (if b then q else here)
  news-still true q none = absurd (cc none)
  news-still false q none = λ empty. (empty, refl)

  request-ends : (number : ℕ) (site : SiteId) (r : Request) → letter_at w number ≡ Some (record { site = site; message = Asks r }) → Ends (deliver_request publication says (judges.publisher number) site r w).0
  request-ends number site (request.Join j) at =
      let d : Joined = record { seq = j.seq } in
      unless-ends (join_refusal publication j p) (tables_after_join j here, d) (λ (made : PublisherTables × Joined). post site (Replies (reply.Joined made.1)) (with_publisher made.0 w))
      (still-ends (tables_after_join j here) (λ silent. if-still (join_acts j here) (join_taken j here) here (λ empty. (empty, refl)) (λ empty. (empty, refl))))
  request-ends number site (request.Upload u) at =
      let judge : PublisherJudge = judges.publisher number in
      let decisions : List Decision = kept_decisions says w.tallies (upload_questions publication judge w.moment u p) in
      let d : Uploaded = told_by judge u in
      unless-ends (upload_refusal publication judge w.moment u p) (tables_after_upload publication judge u decisions here, d) (λ (made : PublisherTables × Uploaded). post site (Replies (reply.Uploaded made.1)) (uploaded_world publication says judge u made.0 w))
      (λ silent. news-still (brings_news judge u) (taken_in publication judge u (acts_of judge u decisions here) here) (silent number site u at), stays.1)
  request-ends number site (request.Ranges r) at =
      let planned : List GrantPlan = plans publication r p in
      unless-ends (ranges_refusal publication (judges.publisher number) w.moment r p) (with_grants planned here, reply_to_ranges r planned) (λ (made : PublisherTables × Ranged). post site (Replies (reply.Ranged made.1)) (with_publisher made.0 w))
      (still-ends (with_grants planned here) (λ silent empty. (empty, refl)))
  request-ends number site (request.Download r) at =
      let q : PublisherTables = tables_after_download r here in
      unless-ends (download_refusal publication w.moment r p) (q, reply_to publication (judges.publisher number) r q) (λ (made : PublisherTables × Downloaded). post site (Replies (reply.Downloaded made.1)) (with_publisher made.0 w))
      (still-ends q (λ silent empty. (filling-closed p.gens.filling, closed-still p.gens.filling empty)))

  -- Replies that come to a site.

  module _ (s : SubscriberTables) (at : subscriber_at w s.site ≡ Some s) where
    abbrev judge : SubscriberJudge
    judge = judges.subscriber s.site s

    abbrev acts : SubscriberTables × Taken → World × Outcome
    acts done = (with_subscriber done.0 w, Took done.1)

    asks-from : (seq from : ℕ) → s.outstanding ≡ Some (seq, ask.Download from) → from ≡ s.watermark
    asks-from =
        let held : HoldsWatermark (state_in w.publisher.sites s.site.0).joined_at (state_in w.publisher.sites s.site.0).watermark s =
        subst (λ (found : Option SubscriberTables). IfSome found (StateHolds (state_in w.publisher.sites s.site.0))) at (g.watermarks.sites s.site.0) in
        held.asked

    knows : (seq from to : ℕ) → s.outstanding ≡ Some (seq, ask.Upload from to) → s.received ≤ to
    knows = (g.numbered.subscribers s.site.0 s at).sent

    missed-ends : Ends (with_subscriber s w)
    missed-ends = one-ends s s at refl (rises-itself s)

    fault-ends : (r : Reply) (sent : ℕ × Outstanding) → s.outstanding ≡ Some sent → (fault : Option Refusal) → reply_fault publication sent.1 r s ≡ fault → Ends (unless_refused w (unless fault (tables_after_reply judge w.moment r s, Acted)) acts).0
    fault-ends r sent out (Some why) is = stays
    fault-ends r sent out None is = one-ends s (tables_after_reply judge w.moment r s) at (reply-site judge w.moment r s) (taken-rises s asks-from knows publication judge w.moment sent.0 sent.1 r out is)

    fits-ends : (r : Reply) (sent : ℕ × Outstanding) → s.outstanding ≡ Some sent → (b : Bool)
        → (let done : Result (SubscriberTables × Taken) Refusal = if b then unless (reply_fault publication sent.1 r s) (tables_after_reply judge w.moment r s, Acted) else Ok (s, Missed (seq_of r) sent.0) in Ends (unless_refused w done acts).0)
    fits-ends r sent out true = fault-ends r sent out (reply_fault publication sent.1 r s) refl
    fits-ends r sent out false = missed-ends

    met-ends : (r : Reply) (out : Option (ℕ × Outstanding)) → s.outstanding ≡ out → Ends (unless_refused w (met_by publication judge w.moment r s out) acts).0
    met-ends r None is = missed-ends
    met-ends r (Some sent) is = fits-ends r sent is (sent.0 == seq_of r)

    reply-ends : (r : Reply) → Ends (deliver_reply publication judges r w s).0
    reply-ends (reply.Refused number values) = missed-ends
    reply-ends (reply.Joined r) = met-ends (reply.Joined r) s.outstanding refl
    reply-ends (reply.Uploaded r) = met-ends (reply.Uploaded r) s.outstanding refl
    reply-ends (reply.Ranged r) = met-ends (reply.Ranged r) s.outstanding refl
    reply-ends (reply.Downloaded r) = met-ends (reply.Downloaded r) s.outstanding refl

  come-ends : (number : ℕ) (site : SiteId) (message : Message) → (let letter : Letter = record { site = site; message = message } in letter_at w number ≡ Some letter → Ends (deliver_letter publication says judges number w letter).0)
  come-ends number site (Asks r) at = request-ends number site r at
  come-ends number site (Replies r) at = found-ends site (subscriber_at w site) (deliver_reply publication judges r w) (λ s is. reply-ends s (own-number site s is) r)

  letter-ends : (number : ℕ) (found : Option Letter) → letter_at w number ≡ found
      → (let done : World × Outcome = elim found [ None ↦ (w, NoLetter) | Some letter ↦ deliver_letter publication says judges number w letter ] in Ends done.0)
  letter-ends number None at = stays
  letter-ends number (Some letter) at = come-ends number letter.site letter.message at

  -- Every step of these.

  step-ends : (action : Action) → is_other action ≡ true → Ends (step_by publication says judges w action).0
  step-ends (Pass seconds) other = stays
  step-ends (Make site change) other = absurd (cc other)
  step-ends (CloseAt site) other = if-ends (site.0 == 0) (close_publisher w) (at_subscriber site w (close_subscriber w)) publisher-closes
      (found-ends site (subscriber_at w site) (close_subscriber w) (λ s is. subscriber-closes s (own-number site s is)))
  step-ends (Send site sending) other = found-ends site (subscriber_at w site) (send_from judges sending w) (λ s is. send-ends sending s (own-number site s is))
  step-ends (Deliver number) other = letter-ends number (letter_at w number) refl
  step-ends (MakeAnew site) other = absurd (cc other)
  step-ends Forget other = still-ends (purge publication w.moment p).0 (λ silent empty. (empty, refl))
  step-ends Look other = stays

  -- And one of them that may fail.

  slip-ends : (allowed : Bool) (slips : Slips) (slip : Slip) (action : Action) → is_other action ≡ true → Ends (slip_if publication (model publication says) allowed slips slip action m (model_step publication says m action)).0.world.world
  slip-ends true slips slip action other = stays
  slip-ends false slips slip action other = step-ends action other

  acting-ends : (slips : Slips) (action : Action) → is_other action ≡ true → Ends (acting_with publication (model publication says) slips action m (model_step publication says m action)).0.world.world
  acting-ends [] action other = step-ends action other
  acting-ends (None ∷ slips) action other = step-ends action other
  acting-ends (Some slip ∷ slips) action other = slip-ends (is_allowed publication m.world action slip (model_step publication says m action).1) slips slip action other

  pub fails-end : (slips : Slips) (action : Action) → is_other action ≡ true → Ends (fails publication (model publication says) (faulty m slips) action).0.world.world
  fails-end slips (Pass seconds) other = step-ends (Pass seconds) other
  fails-end slips (Make site change) other = absurd (cc other)
  fails-end slips (CloseAt site) other = acting-ends slips (CloseAt site) other
  fails-end slips (Send site sending) other = acting-ends slips (Send site sending) other
  fails-end slips (Deliver number) other = acting-ends slips (Deliver number) other
  fails-end slips (MakeAnew site) other = absurd (cc other)
  fails-end slips Forget other = acting-ends slips Forget other
  fails-end slips Look other = acting-ends slips Look other
