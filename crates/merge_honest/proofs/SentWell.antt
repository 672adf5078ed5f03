-- Every step keeps that each request in the pool was made well.
use Rattle.std.specs.List.{fold, list_any}
use Rattle.std.specs.Prelude.{Bool, List, None, Option, Some, [], false, is_some, option_map, refl, true, ℕ, ◌++◌, ◌==◌, ◌||◌, ◌≡◌, ◌≤◌, ◌∷◌}
use Rattle.std.proofs.Common.{ap, arith, sym, ◌∙◌}
use Rattle.std.proofs.lemmas.Bool.Decides.{nat_tests}
use Rattle.merge_types.specs.declared.identifiers.Moment.{Moment}
use Rattle.merge_types.specs.declared.identifiers.SiteId.{SiteId}
use Rattle.merge_types.specs.declared.row_key.RowKey.{RowKey as Key}
use Rattle.merge_units.specs.declared.version.Version.{Version}
use Rattle.merge_schema.specs.Places.{is_subscription}
use Rattle.merge_schema.specs.Valid.{IsValid}
use Rattle.merge_schema.specs.declared.publication.Publication.{Publication}
use Rattle.merge_schema.specs.declared.publication.Subscription.{Subscription}
use Rattle.merge_batch.specs.declared.reply.Reply.{Reply}
use Rattle.merge_batch.specs.declared.reply.Reply.TheVariants as reply
use Rattle.merge_batch.specs.declared.request.Join.{Join}
use Rattle.merge_batch.specs.declared.request.Outstanding.TheVariants as ask
use Rattle.merge_batch.specs.declared.request.Request.TheVariants as request
use Rattle.merge_model.specs.Judge.ByHistory.{by_made, by_past}
use Rattle.merge_model.specs.Judge.ByNumbers.{received_by_number}
use Rattle.merge_model.specs.Failing.{Slips, faulty}
use Rattle.merge_model.specs.History.{History, no_history, pasts_with}
use Rattle.merge_model.specs.Judge.{PublisherJudge, SubscriberJudge}
use Rattle.merge_model.specs.Tables.Keys.{at_number, put_number}
use Rattle.merge_model.specs.History.Model.{Model, empty_model, model}
use Rattle.merge_model.specs.Tables.Publications.{by_site}
use Rattle.merge_model.specs.Publisher.{empty_publisher, last_closed, tables_after_close}
use Rattle.merge_model.specs.Publisher.PublisherDownload.{reply_to, tables_after_download}
use Rattle.merge_model.specs.Publisher.PublisherJoin.{join_acts, join_taken}
use Rattle.merge_model.specs.Publisher.PublisherLocal.{made_locally}
use Rattle.merge_model.specs.Publisher.PublisherPurge.{purge}
use Rattle.merge_model.specs.Publisher.PublisherRanges.{plans, reply_to_ranges, with_grants}
use Rattle.merge_model.specs.Publisher.PublisherUpload.{taken_in}
use Rattle.merge_model.specs.Subscriber.Reinit.{result_of_reinit}
use Rattle.merge_model.specs.Failing.Runs.{model_behind}
use Rattle.merge_model.specs.Subscriber.Sending.{join_of, sending_refusal, upload_sent, with_message}
use Rattle.merge_model.specs.Subscriber.{empty_subscriber, is_joining, subscriber_at_moment, subscriber_closed, subscriber_made_locally, with_version_if}
use Rattle.merge_model.specs.Tables.{PublisherTables, SubscriberTables}
use Rattle.merge_model.specs.Subscriber.Taking.{tables_after_reply}
use Rattle.merge_model.specs.World.{Saying, World, empty_world, letter_at, subscriber_at}
use Rattle.merge_model.specs.declared.event.Event.{Event}
use Rattle.merge_model.specs.declared.letter.Letter.{Letter}
use Rattle.merge_model.specs.declared.letter.Message.{Message}
use Rattle.merge_model.specs.declared.letter.Message.TheVariants.{Asks, Replies}
use Rattle.merge_model.proofs.Lists.Finding.{all-more, all-weaker, at_put_other, pool-at, some_same}
use Rattle.merge_model.proofs.Failing.KeptFailing.{runs-keep}
use Rattle.merge_model.proofs.Runs.Refusals.{first-none}
use Rattle.merge_laws.specs.Facts.Received.{Received}
use Rattle.merge_laws.specs.Facts.Settled.{Settled, SiteHolds, made_in, site_view}
use Rattle.merge_laws.proofs.Received.Deliveries.{news-above}
use Rattle.merge_laws.proofs.Runs.Ground.{Ground, ground-step, ground-tallied}
use Rattle.merge_laws.proofs.Received.MessageFacts.{acts-later, join-up, letter-fits}
use Rattle.merge_laws.proofs.Received.Models.{at-map}
use Rattle.merge_laws.proofs.Settled.SettledLaw.{settled-always, settled-step}
use Rattle.merge_laws.proofs.Settled.SettledWorlds.{if-found}
use Rattle.merge_laws.proofs.Received.Steps.{joined-flag}
use Rattle.merge_laws.proofs.Received.Subscribing.{filling-rises, number-decided, same_number}
use Rattle.merge_laws.proofs.Unsent.UnsentKept.{reply-site, version-site}
use Rattle.merge_laws.proofs.Walking.{StepsKeep, step-keeps, acts_in, comes, here, told_by}
use Rattle.merge_honest.specs.Entered.{EntriesFill}
use Rattle.merge_honest.specs.SentWell.{AskIsWell, IsKnown, IsSentBy, IsWell, SentWell}
use Rattle.merge_honest.proofs.EntriesFill.{entries-begin, entries-keep}
use Rattle.merge_honest.proofs.PutFound.{put-each}
use Rattle.merge_honest.proofs.Rises.{Rises, again-remembered, asked-rises, join-remembers, join-rises, same-rises, upload-rises}
use Rattle.merge_honest.proofs.SentReplies.{told-well}
use Rattle.merge_honest.proofs.SentUploads.{sent-well}

-- what is known besides
abbrev pub Base : Publication → World → History → Type 0
Base publication w h = Ground publication w h × Settled publication w h × EntriesFill w h

abbrev pub SentWellIn : Publication → World → History → Type 0
SentWellIn publication w h = SentWell publication w.publisher w.subscribers w.pool

-- The publisher goes on.

ask-rises : (publication : Publication) (p q : PublisherTables) (site told : SiteId) (from : ℕ) → Rises p q → AskIsWell publication p site told from → AskIsWell publication q site told from
ask-rises publication p q site told from up a = record { sender = a.sender; remembered = up.states site.0 a.remembered; begins = (let low = a.begins in let rise = up.closed in omega (arith, low, rise)) }

well-rises : (publication : Publication) (p q : PublisherTables) (site : SiteId) (message : Message) → Rises p q → IsWell publication p site message → IsWell publication q site message
well-rises publication p q site (Asks (request.Join m)) up well = well
well-rises publication p q site (Asks (request.Upload m)) up well = record {
  sender = well.sender;
  remembered = up.states site.0 well.remembered;
  begins = (let low = well.begins in let rise = up.received site.0 in omega (arith, low, rise));
  made = well.made;
}
well-rises publication p q site (Asks (request.Ranges m)) up well = ask-rises publication p q site m.site 0 up well
well-rises publication p q site (Asks (request.Download m)) up well = ask-rises publication p q site m.site m.from up well
well-rises publication p q site (Replies (reply.Joined m)) up well = up.states site.0 well
well-rises publication p q site (Replies (reply.Uploaded m)) up well = tt
well-rises publication p q site (Replies (reply.Ranged m)) up well = tt
well-rises publication p q site (Replies (reply.Downloaded m)) up well = record { last = (let low = well.last in let rise = up.closed in omega (arith, low, rise)); made = well.made }
well-rises publication p q site (Replies (reply.Refused number values)) up well = tt

module _ (publication : Publication) where
  abbrev LetterIsWell : PublisherTables → Letter → Type 0
  LetterIsWell p letter = IsWell publication p letter.site letter.message

  publisher-on : (p q : PublisherTables) (subscribers : List (ℕ × SubscriberTables)) (pool : List Letter) → Rises p q → SentWell publication p subscribers pool → SentWell publication q subscribers pool
  publisher-on p q subscribers pool up i = record {
    known = λ n s at. (let k = i.known n s at in record { subscribes = k.subscribes; remembered = λ joined. up.states n (k.remembered joined) });
    letters = all-weaker (LetterIsWell p) (LetterIsWell q) (λ letter well. well-rises publication p q letter.site letter.message up well) pool i.letters;
  }

  -- A letter more.
  letter-put : (p : PublisherTables) (subscribers : List (ℕ × SubscriberTables)) (pool : List Letter) (site : SiteId) (message : Message) → IsWell publication p site message → SentWell publication p subscribers pool
      → SentWell publication p subscribers (pool ++ record { site = site; message = message } ∷ [])
  letter-put p subscribers pool site message new i = record { known = i.known; letters = all-more (LetterIsWell p) pool (record { site = site; message = message }) i.letters new }

  -- A subscriber goes on.
  subscriber-on : (p : PublisherTables) (subscribers : List (ℕ × SubscriberTables)) (pool : List Letter) (s t : SubscriberTables) → t.site.0 ≡ s.site.0 → IsKnown publication p s.site.0 t → SentWell publication p subscribers pool
      → SentWell publication p (put_number subscribers t.site.0 t) pool
  subscriber-on p subscribers pool s t site new i = record { known = put-each (IsKnown publication p) subscribers s t site new i.known; letters = i.letters }

  -- one that is joined where it was
  stays-known : (p : PublisherTables) (n : ℕ) (s t : SubscriberTables) → t.is_joined ≡ s.is_joined → IsKnown publication p n s → IsKnown publication p n t
  stays-known p n s t same k = record { subscribes = k.subscribes; remembered = λ joined. k.remembered (sym same ∙ joined) }

  version-joined : (key : Key) (found : Option Version) (u : SubscriberTables) → (with_version_if key found u).is_joined ≡ u.is_joined
  version-joined key None u = refl
  version-joined key (Some version) u = refl

  taken-known : (p : PublisherTables) (judge : SubscriberJudge) (now : Moment) (m : Reply) (s : SubscriberTables) → IsWell publication p s.site (Replies m) → IsKnown publication p s.site.0 s → IsKnown publication p s.site.0 (tables_after_reply judge now m s)
  taken-known p judge now (reply.Joined m) s well k = record { subscribes = k.subscribes; remembered = λ joined. well }
  taken-known p judge now (reply.Uploaded m) s well k = stays-known p s.site.0 s (tables_after_reply judge now (reply.Uploaded m) s) refl k
  taken-known p judge now (reply.Ranged m) s well k = stays-known p s.site.0 s (tables_after_reply judge now (reply.Ranged m) s) refl k
  taken-known p judge now (reply.Downloaded m) s well k = stays-known p s.site.0 s (tables_after_reply judge now (reply.Downloaded m) s) refl k
  taken-known p judge now (reply.Refused number values) s well k = stays-known p s.site.0 s (tables_after_reply judge now (reply.Refused number values) s) refl k

  -- who sends a message
  is-sender : (p : PublisherTables) (s : SubscriberTables) → IsKnown publication p s.site.0 s → IsSentBy publication s.site s.site
  is-sender p s k = record { same = refl; subscribes = k.subscribes }

  joined-now : (s : SubscriberTables) → sending_refusal s ≡ None → s.is_joined ≡ true
  joined-now s fine = joined-flag s (first-none (is_joining s) _ fine).0

  module _ (says : Saying) where
    here-known : (w : World) (h : History) (s : SubscriberTables) → SentWellIn publication w h → subscriber_at w s.site ≡ Some s → IsKnown publication w.publisher s.site.0 s
    here-known w h s i at = i.known s.site.0 s at

    letter-well : (w : World) (h : History) (number : ℕ) (letter : Letter) → SentWellIn publication w h → letter_at w number ≡ Some letter → IsWell publication w.publisher letter.site letter.message
    letter-well w h number letter i at = pool-at (LetterIsWell w.publisher) w number letter at i.letters

    marks : (w : World) (h : History) (s : SubscriberTables) → Base publication w h → subscriber_at w s.site ≡ Some s → s.watermark ≤ last_closed w.publisher
    marks w h s b at = (if-found (SiteHolds (site_view publication w.publisher (made_in h.made s.site.0) s.site.0)) (at_number w.subscribers s.site.0) s at (b.1.sites.sites s.site.0)).marks

    -- a subscriber makes a message
    message-put : (w : World) (h : History) (s t : SubscriberTables) (message : Message) → SentWellIn publication w h → subscriber_at w s.site ≡ Some s → t.site.0 ≡ s.site.0 → t.is_joined ≡ s.is_joined → IsWell publication w.publisher s.site message
        → SentWell publication w.publisher (put_number w.subscribers t.site.0 t) (w.pool ++ record { site = s.site; message = message } ∷ [])
    message-put w h s t message i at site joined new =
        letter-put w.publisher (put_number w.subscribers t.site.0 t) w.pool s.site message new
        (subscriber-on w.publisher w.subscribers w.pool s t site (stays-known w.publisher s.site.0 s t joined (here-known w h s i at)) i)

    -- the publisher answers
    answer-put : (w : World) (q : PublisherTables) (site : SiteId) (message : Message) → Rises w.publisher q → IsWell publication q site message → SentWell publication w.publisher w.subscribers w.pool
        → SentWell publication q w.subscribers (w.pool ++ record { site = site; message = message } ∷ [])
    answer-put w q site message up new i = letter-put q w.subscribers w.pool site message new (publisher-on w.publisher q w.subscribers w.pool up i)

    -- the moment alone moves neither
    from-here : (w : World) (q : PublisherTables) → Rises (here w) q → Rises w.publisher q
    from-here w q up = record { received = up.received; closed = up.closed; states = up.states }

    joins-well : (w : World) (h : History) (number : ℕ) (m : Join) → Base publication w h → SentWellIn publication w h → comes w number m.site (Asks (request.Join m)) → join_acts m w.publisher ≡ true
        → SentWell publication (join_taken m (here w)) w.subscribers (w.pool ++ record { site = m.site; message = Replies (reply.Joined (record { seq = m.seq })) } ∷ [])
    joins-well w h number m b i at acts =
        let r : Received w h = b.0.received in
        let fits = letter-fits w h number (record { site = m.site; message = Asks (request.Join m) }) r at in
        let up : received_by_number w.publisher m.site.0 ≤ m.generation = join-up w h m (at_number w.subscribers m.site.0) r refl fits (acts-later m w.publisher acts) in
        answer-put w (join_taken m (here w)) m.site (Replies (reply.Joined (record { seq = m.seq }))) (from-here w (join_taken m (here w)) (join-rises (here w) m up)) (join-remembers (here w) m) i

    pub sent-well-keeps : StepsKeep publication says (Base publication) (SentWellIn publication)
    sent-well-keeps = record {
      moment = λ w h now b i. i;
      own_change = λ w h change d b i fine is. (let q : PublisherTables = (made_locally publication (by_past h (pasts_with h 0)) change d (here w)).0 in publisher-on w.publisher q w.subscribers w.pool (same-rises w.publisher q refl (omega arith)) i);
      own_closing = λ w h b i. publisher-on w.publisher (tables_after_close (here w)) w.subscribers w.pool (same-rises w.publisher (tables_after_close (here w)) refl (filling-rises w.publisher.gens.filling)) i;
      forgetting = λ w h b i. (let q : PublisherTables = (purge publication w.moment w.publisher).0 in publisher-on w.publisher q w.subscribers w.pool (same-rises w.publisher q refl (omega arith)) i);
      same = λ w h s b i at. subscriber-on w.publisher w.subscribers w.pool s s refl (here-known w h s i at) i;
      subscriber_change = λ w h s change d b i at named fine is. (let t : SubscriberTables = (subscriber_made_locally publication change d (subscriber_at_moment w.moment s)).0 in
          subscriber-on w.publisher w.subscribers w.pool s t (version-site _ _ _) (stays-known w.publisher s.site.0 s t (version-joined _ _ _) (here-known w h s i at)) i);
      subscriber_closing = λ w h s b i at. (let t : SubscriberTables = subscriber_closed (subscriber_at_moment w.moment s) in subscriber-on w.publisher w.subscribers w.pool s t refl (stays-known w.publisher s.site.0 s t refl (here-known w h s i at)) i);
      anew = λ w h s b i at. (let t : SubscriberTables = (result_of_reinit (by_made h s.site) (subscriber_at_moment w.moment s)).0 in
          subscriber-on w.publisher w.subscribers w.pool s t refl (record { subscribes = (here-known w h s i at).subscribes; remembered = λ joined. absurd (grind (arith, joined)) }) i);
      sends_join = λ w h s b i at joining. message-put w h s (with_message ask.Join s) (Asks (request.Join (join_of s))) i at refl refl (record { sender = is-sender w.publisher s (here-known w h s i at); numbered = omega arith });
      sends_upload = λ w h s b i at fine. (let c : SubscriberTables = subscriber_closed (subscriber_at_moment w.moment s) in
          let k = here-known w h s i at in
          let joins : s.is_joined ≡ true = joined-now s fine in
          message-put w h s (upload_sent (by_made h s.site) c).0 (Asks (request.Upload (upload_sent (by_made h s.site) c).1)) i at refl refl (record {
            sender = record { same = refl; subscribes = k.subscribes };
            remembered = k.remembered joins;
            begins = (b.0.behind.subscribers s.site.0 s at).behind joins;
            made = sent-well h c;
          }));
      sends_ranges = λ w h s b i at fine. (let k = here-known w h s i at in
          message-put w h s (with_message ask.Ranges s) (Asks (request.Ranges _)) i at refl refl (record { sender = is-sender w.publisher s k; remembered = k.remembered (joined-now s fine); begins = omega arith }));
      sends_ask = λ w h s b i at fine. (let k = here-known w h s i at in
          message-put w h s (with_message (ask.Download s.watermark) s) (Asks (request.Download _)) i at refl refl (record { sender = is-sender w.publisher s k; remembered = k.remembered (joined-now s fine); begins = marks w h s b at }));
      joins = λ w h number m b i at fine acts. joins-well w h number m b i at acts;
      joins_again = λ w h number m b i at acts. answer-put w (here w) m.site (Replies (reply.Joined (record { seq = m.seq }))) (same-rises w.publisher (here w) refl (omega arith)) (again-remembered w.publisher m (letter-well w h number (record { site = m.site; message = Asks (request.Join m) }) i at).numbered acts) i;
      uploads = λ w h number m b i at fine news. (let judge : PublisherJudge = by_past h (pasts_with h number) in
          let q : PublisherTables = taken_in publication judge m (acts_in publication says judge m w) (here w) in
          answer-put w q m.site (Replies (reply.Uploaded (told_by judge m))) (from-here w q (upload-rises publication judge (here w) m (acts_in publication says judge m w) (news-above w h b.0.received (pasts_with h number) m news))) tt i);
      uploads_again = λ w h number m b i at none. answer-put w (here w) m.site (Replies (reply.Uploaded (told_by (by_past h (pasts_with h number)) m))) (same-rises w.publisher (here w) refl (omega arith)) tt i;
      answers_ranges = λ w h site m b i. (let q : PublisherTables = with_grants (plans publication m w.publisher) (here w) in
          answer-put w q site (Replies (reply.Ranged (reply_to_ranges m (plans publication m w.publisher)))) (same-rises w.publisher q refl (omega arith)) tt i);
      answers_ask = λ w h number site m b i at fine. (let q : PublisherTables = tables_after_download m (here w) in
          answer-put w q site (Replies (reply.Downloaded (reply_to publication (by_past h (pasts_with h number)) m q))) (from-here w q (asked-rises (here w) m)) (told-well publication w h (pasts_with h number) m b.0.sorted.rows_ascend b.2 fine) i);
      replies = λ w h s number m sent b i at there out none. (let t : SubscriberTables = tables_after_reply (by_made h s.site) w.moment m s in
          subscriber-on w.publisher w.subscribers w.pool s t (reply-site (by_made h s.site) w.moment m s)
          (taken-known w.publisher (by_made h s.site) w.moment m s (letter-well w h number (record { site = s.site; message = Replies m }) i there) (here-known w h s i at)) i);
    }

-- How it begins: each subscriber subscribes, and none has joined.

put-either : (n : ℕ) (s : Subscription) (entries : List (ℕ × Subscription)) (rest b : Bool) → same_number n s.site.0 b → (is_some (at_number (put_number entries s.site.0 s) n) || rest) ≡ true
    → (is_some (at_number entries n) || ((s.site.0 == n) || rest)) ≡ true
put-either n s entries rest true same h = let is : (s.site.0 == n) ≡ true = grind (arith, nat_tests, same) in grind (arith, is)
put-either n s entries rest false differs h = grind (arith, ap (λ (found : Option Subscription). is_some found) (at_put_other s.site.0 n s entries differs), h)

fold-some : (n : ℕ) (entries : List (ℕ × Subscription)) (subscriptions : List Subscription)
    → is_some (at_number (fold (λ (others : List (ℕ × Subscription)) (s : Subscription). put_number others s.site.0 s) entries subscriptions) n) ≡ true
    → (is_some (at_number entries n) || list_any (λ (s : Subscription). s.site.0 == n) subscriptions) ≡ true
fold-some n entries [] h = grind (arith, h)
fold-some n entries (s ∷ subscriptions) h = put-either n s entries (list_any (λ (x : Subscription). x.site.0 == n) subscriptions) (n == s.site.0) (number-decided n s.site.0) (fold-some n (put_number entries s.site.0 s) subscriptions h)

from-map : (publication : Publication) (n : ℕ) (found : Option Subscription) (s : SubscriberTables) → (is_some found ≡ true → is_subscription publication n ≡ true)
    → option_map (λ (t : Subscription). empty_subscriber publication t.site) found ≡ Some s → IsKnown publication (empty_publisher publication) n s
from-map publication n None s each e = absurd cc
from-map publication n (Some t) s each e =
    let flag : false ≡ s.is_joined = ap (λ (x : SubscriberTables). x.is_joined) (some_same (empty_subscriber publication t.site) s e) in
    record { subscribes = each refl; remembered = λ joined. absurd (let both : false ≡ true = flag ∙ joined in cc) }

sent-well-begins : (publication : Publication) (tallies : List ℕ) → SentWellIn publication (empty_world publication tallies) no_history
sent-well-begins publication tallies = record {
  known = λ n s at. from-map publication n (at_number (by_site publication) n) s (λ there. fold-some n [] publication.subscriptions there) (sym (at-map publication (by_site publication) n) ∙ at);
  letters = tt;
}

abbrev pub Whole : Publication → Model → Type 0
Whole publication m = Base publication m.world m.history × SentWellIn publication m.world m.history

pub sent-well-always : (publication : Publication) (says : Saying) (tallies : List ℕ) (slips : Slips) (events : List Event) → (resolvers : ℕ) × IsValid resolvers publication → Whole publication (model_behind publication says tallies slips events)
sent-well-always publication says tallies slips events valid = runs-keep publication (model publication says) (Whole publication)
    (λ m action k. (
      (
        ground-step publication says m action k.0.0,
        settled-step publication says m action k.0.0 k.0.1,
        step-keeps publication says (Ground publication) EntriesFill (λ w h g. g.received) (entries-keep publication says) m action k.0.0 k.0.2,
      ),
      step-keeps publication says (Base publication) (SentWellIn publication) (λ w h b. b.0.received) (sent-well-keeps publication says) m action k.0 k.1,
    ))
    (λ m others k. ((ground-tallied publication m.world m.history others k.0.0, record { sites = k.0.1.sites; publisher = k.0.1.publisher }, k.0.2), k.1)) events (faulty (empty_model publication tallies) slips)
    (let settled = settled-always publication says tallies [] [] valid in ((settled.0, settled.1, entries-begin publication tallies), sent-well-begins publication tallies))
