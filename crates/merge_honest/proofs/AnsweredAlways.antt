-- Every list of events keeps that a reply with the number of the outstanding message answers that message.
use Rattle.std.specs.Prelude.{Bool, List, Ok, Option, Some, [], false, map, max, refl, true, ℕ, ◌++◌, ◌+◌, ◌≡◌, ◌≤◌, ◌∷◌}
use Rattle.std.proofs.Common.{ap, arith, subst, sym, ◌∙◌}
use Rattle.std.proofs.lemmas.Bool.Decides.{nat_tests}
use Rattle.merge_types.specs.declared.changes.Change.{Change}
use Rattle.merge_types.specs.declared.identifiers.SiteId.{SiteId}
use Rattle.merge_types.specs.declared.row_key.RowKey.{RowKey as Key}
use Rattle.merge_types.specs.declared.values.Value.{Value}
use Rattle.merge_ident.specs.Holders.{Holder}
use Rattle.merge_schema.specs.Valid.{IsValid}
use Rattle.merge_schema.specs.declared.publication.Publication.{Publication}
use Rattle.merge_batch.specs.Replies.{granted_article}
use Rattle.merge_batch.specs.declared.reply.RangeGrant.{RangeGrant}
use Rattle.merge_batch.specs.declared.reply.Ranged.{Ranged}
use Rattle.merge_batch.specs.declared.reply.Reply.{Reply}
use Rattle.merge_batch.specs.declared.reply.Reply.TheVariants as reply
use Rattle.merge_batch.specs.declared.request.Download.{Download}
use Rattle.merge_batch.specs.declared.request.Outstanding.{Outstanding}
use Rattle.merge_batch.specs.declared.request.Outstanding.TheVariants as ask
use Rattle.merge_batch.specs.declared.request.RangeAsk.{RangeAsk}
use Rattle.merge_batch.specs.declared.request.Request.{Request}
use Rattle.merge_batch.specs.declared.request.Request.TheVariants as request
use Rattle.merge_batch.specs.declared.request.Upload.{Upload}
use Rattle.merge_batch.specs.declared.request.Want.{Want}
use Rattle.merge_model.specs.Judge.ByHistory.{by_made, by_past, received_by_done}
use Rattle.merge_model.specs.Judge.ByNumbers.{received_by_number}
use Rattle.merge_model.specs.Tables.Changes.{key_of, version_after}
use Rattle.merge_model.specs.Failing.{Slips}
use Rattle.merge_model.specs.History.{History, pasts_with}
use Rattle.merge_model.specs.Tables.Keys.{at_number, put_number}
use Rattle.merge_model.specs.History.Model.{Model}
use Rattle.merge_model.specs.Tables.Publications.{rules_of}
use Rattle.merge_model.specs.Publisher.PublisherDownload.{reply_to, tables_after_download}
use Rattle.merge_model.specs.Publisher.PublisherRanges.{plans, reply_to_ranges}
use Rattle.merge_model.specs.Subscriber.Reinit.{result_of_reinit}
use Rattle.merge_model.specs.Failing.Runs.{model_behind}
use Rattle.merge_model.specs.Subscriber.Sending.{join_of, upload_end, upload_sent, want_of, with_message}
use Rattle.merge_model.specs.Subscriber.{subscriber_at_moment, subscriber_closed, subscriber_drawn, subscriber_made_locally, subscriber_next_dot, subscriber_version_at}
use Rattle.merge_model.specs.Tables.{SubscriberTables}
use Rattle.merge_model.specs.Subscriber.Taking.{tables_after_reply}
use Rattle.merge_model.specs.World.{Saying, World, subscriber_at}
use Rattle.merge_model.specs.declared.event.Event.{Event}
use Rattle.merge_model.specs.declared.letter.Letter.{Letter}
use Rattle.merge_model.specs.declared.letter.Message.{Message}
use Rattle.merge_model.specs.declared.letter.Message.TheVariants.{Asks, Replies}
use Rattle.merge_model.proofs.Lists.Finding.{all-more, all-weaker, at_put_same, pool-at}
use Rattle.merge_laws.specs.Facts.Behind.{TellsActed}
use Rattle.merge_laws.specs.Facts.Received.{Received}
use Rattle.merge_laws.proofs.Alike.AlikeFields.{received-alike}
use Rattle.merge_laws.proofs.Runs.Ground.{Ground, grounded-always}
use Rattle.merge_laws.proofs.Walking.{StepsKeep, comes, here, told_by}
use Rattle.merge_laws.proofs.Identities.IdentityTakes.{heard_in}
use Rattle.merge_honest.specs.Answered.{HasRanges, IsHeard, IsNextOf, IsOutstanding, LetterAnswers, LettersAnswer, MessageAnswers, number_in}
use Rattle.merge_honest.specs.HeldRanges.{AsksWell, MessageIsGranted}
use Rattle.merge_honest.proofs.Answered.{answer-by, change-onward, message-goes, next-heard, none-onward, same-onward, sent-number, subscriber-on, taken-onward, takes-all, wants-outstanding}
use Rattle.merge_honest.proofs.HeldRanges.{HeldIn, held-begins, held-step}
use Rattle.merge_honest.proofs.RangeAnswers.{ascend-distinct, plans-tell, plans-values, told-ascend}
use Rattle.merge_honest.proofs.RangedWalk.{Before, RangedKeep, Silent, no-silence, ranged-step}

letter-on : (subscribers : List (ℕ × SubscriberTables)) (pool : List Letter) (site : SiteId) (message : Message) → MessageAnswers (at_number subscribers site.0) message → HasRanges message → LettersAnswer subscribers pool → LettersAnswer subscribers (pool ++ record { site = site; message = message } ∷ [])
letter-on subscribers pool site message new ranges i = all-more (LetterAnswers subscribers) pool (record { site = site; message = message }) i (new, ranges)

-- a message that is made is the outstanding one
message-new : (made : Outstanding) (c : SubscriberTables) (message : Message) → number_in message ≡ c.seq + 1 → IsOutstanding (with_message made c) made message → MessageAnswers (Some (with_message made c)) message
message-new made c message number new = (
  omega (arith, number),
  λ sent is. subst (λ (x : Outstanding). IsOutstanding (with_message made c) x message) (sym (sent-number (c.seq + 1) (number_in message) made sent is).1) new,
)

message-on : (w : World) (s c : SubscriberTables) (made : Outstanding) (message : Message) → LettersAnswer w.subscribers w.pool → subscriber_at w s.site ≡ Some s → c.site ≡ s.site → c.seq ≡ s.seq → number_in message ≡ c.seq + 1 → IsOutstanding (with_message made c) made message → HasRanges message
    → LettersAnswer (put_number w.subscribers c.site.0 (with_message made c)) (w.pool ++ record { site = s.site; message = message } ∷ [])
message-on w s c made message i at site seq number new ranges =
    let t : SubscriberTables = with_message made c in
    let after : List (ℕ × SubscriberTables) = put_number w.subscribers c.site.0 t in
    let put : at_number after s.site.0 ≡ Some t = ap (λ (x : SiteId). at_number after x.0) (sym site) ∙ at_put_same c.site.0 t w.subscribers in
    letter-on after w.pool s.site message (subst (λ (found : Option SubscriberTables). MessageAnswers found message) (sym put) (message-new made c message number new)) ranges
    (subscriber-on w.subscribers w.pool s t at (message-goes made s c (ap (λ (x : SiteId). x.0) site) seq) i)

-- an answer is to a message of the pool
answer-on : (w : World) (number : ℕ) (site : SiteId) (m : Request) (r : Reply) → LettersAnswer w.subscribers w.pool → comes w number site (Asks m) → number_in (Replies r) ≡ number_in (Asks m)
    → ((s : SubscriberTables) (sent : Outstanding) → subscriber_at w site ≡ Some s → s.outstanding ≡ Some (number_in (Asks m), sent) → IsOutstanding s sent (Asks m) → IsOutstanding s sent (Replies r))
    → HasRanges (Replies r) → LettersAnswer w.subscribers (w.pool ++ record { site = site; message = Replies r } ∷ [])
answer-on w number site m r i at same each ranges =
    letter-on w.subscribers w.pool site (Replies r) (answer-by m r (at_number w.subscribers site.0) same each (pool-at (LetterAnswers w.subscribers) w number (record { site = site; message = Asks m }) at i).0) ranges i

module _ (publication : Publication) (says : Saying) where
  abbrev pub AnsweredIn : World → History → Type 0
  AnsweredIn w h = LettersAnswer w.subscribers w.pool

  -- what is known besides
  abbrev Base : World → History → Type 0
  Base w h = Ground publication w h × HeldIn publication says w h

  base-received : (w : World) (h : History) → Base w h → Received w h
  base-received w h b = b.0.received

  -- a subscriber that stays as it was, but for what no message asks
  same-on : (w : World) (s t : SubscriberTables) → LettersAnswer w.subscribers w.pool → subscriber_at w s.site ≡ Some s → t.site.0 ≡ s.site.0 → t.seq ≡ s.seq → t.outstanding ≡ s.outstanding → t.held ≡ s.held → t.received ≡ s.received → LettersAnswer (put_number w.subscribers t.site.0 t) w.pool
  same-on w s t i at site seq out held received = subscriber-on w.subscribers w.pool s t at (same-onward s t site seq out (λ article. ap (λ (x : List (ℕ × Holder)). heard_in x article) held) received) i

  change-on : (w : World) (s : SubscriberTables) (change : Change) (d : Value × List (ℕ × Holder)) → LettersAnswer w.subscribers w.pool → subscriber_at w s.site ≡ Some s → subscriber_drawn s change ≡ Ok d
      → (let t : SubscriberTables = (subscriber_made_locally publication change d (subscriber_at_moment w.moment s)).0 in LettersAnswer (put_number w.subscribers t.site.0 t) w.pool)
  change-on w s change d i at is =
      let key : Key = key_of (subscriber_next_dot s) change in
      subscriber-on w.subscribers w.pool s (subscriber_made_locally publication change d (subscriber_at_moment w.moment s)).0 at (change-onward w.moment s change d key (version_after publication (subscriber_next_dot s) d.0 change (subscriber_version_at s key)) is) i

  -- who asks for a download has joined, and takes no more for received than the publisher tells
  asks-joined : (s : SubscriberTables) (seq : ℕ) (sent : Outstanding) (from : ℕ) (b : Bool) → s.is_joined ≡ b → (s.is_joined ≡ false → sent ≡ ask.Join) → sent ≡ ask.Download from → s.is_joined ≡ true
  asks-joined s seq sent from true is joins asks = is
  asks-joined s seq sent from false is joins asks = absurd (let both : ask.Join ≡ ask.Download from = sym (joins is) ∙ asks in cc)

  tells-received : (w : World) (h : History) (number : ℕ) (site : SiteId) (m : Download) → Base w h → comes w number site (Asks (request.Download m)) → (s : SubscriberTables) (sent : Outstanding) → subscriber_at w site ≡ Some s → s.outstanding ≡ Some (m.seq, sent) → sent ≡ ask.Download m.from
      → s.received ≤ received_by_done h m.site.0
  tells-received w h number site m b at s sent there out is =
      let same : m.site ≡ site = pool-at (λ (letter : Letter). TellsActed (received_by_number w.publisher letter.site.0) letter.site letter.message) w number (record { site = site; message = Asks (request.Download m) }) at b.0.behind.letters in
      let stays = b.0.behind.subscribers site.0 s there in
      let low = stays.behind (asks-joined s m.seq sent m.from s.is_joined refl (λ joining. stays.only_joins m.seq sent joining out) is) in
      let alike = received-alike publication w h b.0 site.0 in
      subst (λ (x : SiteId). s.received ≤ received_by_done h x.0) (sym same) (omega (arith, low, alike))

  ranges-on : (w : World) (h : History) (number : ℕ) (site : SiteId) (m : RangeAsk) → Base w h → LettersAnswer w.subscribers w.pool → comes w number site (Asks (request.Ranges m))
      → LettersAnswer w.subscribers (w.pool ++ record { site = site; message = Replies (reply.Ranged (reply_to_ranges m (plans publication m w.publisher))) } ∷ [])
  ranges-on w h number site m b i at =
      let asks : AsksWell publication w.publisher.grants site.0 m = pool-at (λ (letter : Letter). MessageIsGranted publication w.publisher.grants letter.site.0 letter.message) w number (record { site = site; message = Asks (request.Ranges m) }) at b.1.letters in
      let told : List RangeGrant = (reply_to_ranges m (plans publication m w.publisher)).grants in
      answer-on w number site (request.Ranges m) (reply.Ranged (reply_to_ranges m (plans publication m w.publisher))) i at refl
      (λ s sent there out is. (is.0, plans-tell (IsNextOf s) (rules_of publication) w.publisher.grants m.site m.wants (all-weaker (IsHeard s) (λ (want : Want). IsNextOf s want.article (want.have + 1)) (λ want heard. next-heard s want heard) m.wants is.1)))
      (ascend-distinct (map granted_article told) (told-ascend (rules_of publication) w.publisher.grants m.site m.wants asks.ascend), plans-values (rules_of publication) w.publisher.grants m.site m.wants b.1.book)

  answered-silent : (pool : List Letter) → StepsKeep publication says (Before publication says Base AnsweredIn base-received pool) (Silent publication says Base AnsweredIn base-received pool)
  answered-silent pool = record {
    moment = λ w h now b p none. b.1.0;
    own_change = λ w h change d b p fine is none. b.1.0;
    own_closing = λ w h b p none. b.1.0;
    forgetting = λ w h b p none. b.1.0;
    same = λ w h s b p at none. same-on w s s b.1.0 at refl refl refl refl refl;
    subscriber_change = λ w h s change d b p at named fine is none. change-on w s change d b.1.0 at is;
    subscriber_closing = λ w h s b p at none. same-on w s (subscriber_closed (subscriber_at_moment w.moment s)) b.1.0 at refl refl refl refl refl;
    anew = λ w h s b p at none. (let t : SubscriberTables = (result_of_reinit (by_made h s.site) (subscriber_at_moment w.moment s)).0 in subscriber-on w.subscribers w.pool s t at (none-onward s t refl (omega arith) refl) b.1.0);
    sends_join = λ w h s b p at joining none. message-on w s s ask.Join (Asks (request.Join (join_of s))) b.1.0 at refl refl refl refl tt;
    sends_upload = λ w h s b p at fine none. (let c : SubscriberTables = subscriber_closed (subscriber_at_moment w.moment s) in
        message-on w s c (ask.Upload c.received (upload_end (by_made h s.site) c)) (Asks (request.Upload (upload_sent (by_made h s.site) c).1)) b.1.0 at refl refl refl refl tt);
    sends_ranges = λ w h s b p at fine none. message-on w s s ask.Ranges (Asks (request.Ranges (record { site = s.site; seq = s.seq + 1; wants = map want_of s.held }))) b.1.0 at refl refl refl
        (refl, wants-outstanding s (with_message ask.Ranges s) refl (b.0.1.held s.site.0 s at).ascend) tt;
    sends_ask = λ w h s b p at fine none. message-on w s s (ask.Download s.watermark) (Asks (request.Download (record { site = s.site; seq = s.seq + 1; from = s.watermark }))) b.1.0 at refl refl refl refl tt;
    joins = λ w h number m b p at fine acts none. answer-on w number m.site (request.Join m) (reply.Joined (record { seq = m.seq })) b.1.0 at refl (λ s sent there out is. is) tt;
    joins_again = λ w h number m b p at acts none. answer-on w number m.site (request.Join m) (reply.Joined (record { seq = m.seq })) b.1.0 at refl (λ s sent there out is. is) tt;
    uploads = λ w h number m b p at fine news none. (let judge = by_past h (pasts_with h number) in
        answer-on w number m.site (request.Upload m) (reply.Uploaded (told_by judge m)) b.1.0 at refl (λ s sent there out is. takes-all m.from m.to (max m.to (judge.received m.site.0)) sent is (grind (arith, nat_tests))) tt);
    uploads_again = λ w h number m b p at old none. (let judge = by_past h (pasts_with h number) in
        answer-on w number m.site (request.Upload m) (reply.Uploaded (told_by judge m)) b.1.0 at refl (λ s sent there out is. takes-all m.from m.to (max m.to (judge.received m.site.0)) sent is (grind (arith, nat_tests))) tt);
    answers_ranges = λ w h site m b p none. no-silence publication says Base AnsweredIn base-received pool w site m b.1.1 none;
    answers_ask = λ w h number site m b p at fine none. answer-on w number site (request.Download m) (reply.Downloaded (reply_to publication (by_past h (pasts_with h number)) m (tables_after_download m (here w)))) b.1.0 at refl
        (λ s sent there out is. (is, tells-received w h number site m b.0 at s sent there out is)) tt;
    replies = λ w h s number m sent b p at there out fits none. subscriber-on w.subscribers w.pool s (tables_after_reply (by_made h s.site) w.moment m s) at (taken-onward (by_made h s.site) w.moment m s) b.1.0;
  }

  answered-keeps : RangedKeep publication says Base AnsweredIn base-received
  answered-keeps = record { silent = answered-silent; answers = λ w h number site m b i at. ranges-on w h number site m b i at }

  pub answered-always : (tallies : List ℕ) (slips : Slips) (events : List Event) → (resolvers : ℕ) × IsValid resolvers publication → (let m : Model = model_behind publication says tallies slips events in HeldIn publication says m.world m.history × AnsweredIn m.world m.history)
  answered-always tallies slips events valid =
      (grounded-always publication says tallies slips events valid (λ (w : World) (h : History). HeldIn publication says w h × AnsweredIn w h)
      (λ m action g i. (held-step publication says m action g i.0, ranged-step publication says Base AnsweredIn base-received answered-keeps m action (g, i.0) i.1)) (λ w h others i. i) (held-begins publication says tallies valid, tt)).1
