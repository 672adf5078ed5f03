-- Every step keeps that subscribers have numbers that a publication can give, and that downloads are for subscribers.
use Rattle.std.specs.Prelude.{◌≡◌, ◌≤◌, ◌==◌, ◌++◌, ℕ, zero, suc, List, [], ◌∷◌, All, Bool, true, false, Option, Some, None, refl, option_map}
use Rattle.std.specs.List.{fold}
use Rattle.std.proofs.Common.{arith, sym, ap, ◌∙◌}
use Rattle.std.proofs.lemmas.List.Elements.{All-head, All-tail}
use Rattle.merge_types.specs.declared.identifiers.SiteId.{SiteId}
use Rattle.merge_schema.specs.Valid.{IsValid, IsValidSubscription}
use Rattle.merge_schema.specs.declared.publication.Publication.{Publication}
use Rattle.merge_schema.specs.declared.publication.Subscription.{Subscription}
use Rattle.merge_batch.specs.declared.request.Outstanding.TheVariants as ask
use Rattle.merge_batch.specs.declared.request.Request.TheVariants as request
use Rattle.merge_model.specs.Judge.ByHistory.{by_made}
use Rattle.merge_model.specs.History.{no_history}
use Rattle.merge_model.specs.Tables.Keys.{at_number, put_number}
use Rattle.merge_model.specs.Tables.Publications.{by_site}
use Rattle.merge_model.specs.Subscriber.Reinit.{result_of_reinit}
use Rattle.merge_model.specs.Subscriber.Sending.{upload_sent, with_message}
use Rattle.merge_model.specs.Subscriber.{empty_subscriber, subscriber_at_moment, subscriber_closed, subscriber_made_locally}
use Rattle.merge_model.specs.Tables.{SubscriberTables}
use Rattle.merge_model.specs.Subscriber.Taking.{tables_after_reply}
use Rattle.merge_model.specs.World.{Saying, World, empty_world, letter_at, subscriber_at}
use Rattle.merge_model.specs.declared.letter.Message.TheVariants.{Asks}
use Rattle.merge_model.specs.declared.letter.Letter.{Letter}
use Rattle.merge_model.specs.declared.letter.Message.{Message}
use Rattle.merge_laws.specs.Facts.LetterNumbers.{AreNamed, DownloadsAreNamed, IsForSubscriber, LettersAreNamed}
use Rattle.merge_model.proofs.Lists.Finding.{all-at, all-more, at_put_other, found-named}
use Rattle.merge_laws.proofs.Runs.Ground.{Ground}
use Rattle.merge_laws.proofs.Received.Models.{at-map}
use Rattle.merge_laws.proofs.Received.Subscribing.{number-decided, same_number}
use Rattle.merge_laws.proofs.Unsent.UnsentKept.{reply-site}
use Rattle.merge_laws.proofs.Unsent.UnsentKept.{version-site}
use Rattle.merge_laws.proofs.Walking.{StepsKeep}

-- a subscriber goes on
named-at : (subscribers : List (ℕ × SubscriberTables)) (site n : ℕ) (s t u : SubscriberTables) (b : Bool) → same_number n site b → at_number subscribers site ≡ Some s → AreNamed subscribers → at_number (put_number subscribers site t) n ≡ Some u → n ≤ 63
named-at subscribers site n s t u true same at named found = let low : site ≤ 63 = named site s at in omega (arith, same, low)
named-at subscribers site n s t u false differs at named found = named n u (sym (at_put_other site n t subscribers differs) ∙ found)

named-put : (w : World) (s t : SubscriberTables) → subscriber_at w s.site ≡ Some s → t.site.0 ≡ s.site.0 → AreNamed w.subscribers → AreNamed (put_number w.subscribers t.site.0 t)
named-put w s t at same named n u found = named-at w.subscribers s.site.0 n s t u (n == s.site.0) (number-decided n s.site.0) at named (ap (λ (site : ℕ). at_number (put_number w.subscribers site t) n) (sym same) ∙ found)

letter-named : (w : World) (number : ℕ) (letter : Letter) → DownloadsAreNamed w.pool → letter_at w number ≡ Some letter → IsForSubscriber letter.site.0 letter.message
letter-named w zero letter named at = absurd (grind (arith, at))
letter-named w (suc k) letter named at = all-at (λ (x : Letter). IsForSubscriber x.site.0 x.message) w.pool k letter at named

posted-named : (pool : List Letter) (site : SiteId) (message : Message) → IsForSubscriber site.0 message → DownloadsAreNamed pool → DownloadsAreNamed (pool ++ record { site = site; message = message } ∷ [])
posted-named pool site message new named = all-more (λ (x : Letter). IsForSubscriber x.site.0 x.message) pool (record { site = site; message = message }) named new

pub named-keeps : (publication : Publication) (says : Saying) → StepsKeep publication says (Ground publication) LettersAreNamed
named-keeps publication says = record {
  moment = λ w h now g p. p;
  own_change = λ w h change d g p fine is. p;
  own_closing = λ w h g p. p;
  forgetting = λ w h g p. p;
  same = λ w h s g p at. (named-put w s s at refl p.0, p.1);
  subscriber_change = λ w h s change d g p at named fine is. (named-put w s (subscriber_made_locally publication change d (subscriber_at_moment w.moment s)).0 at (version-site _ _ _) p.0, p.1);
  subscriber_closing = λ w h s g p at. (named-put w s (subscriber_closed (subscriber_at_moment w.moment s)) at refl p.0, p.1);
  anew = λ w h s g p at. (named-put w s (result_of_reinit (by_made h s.site) (subscriber_at_moment w.moment s)).0 at refl p.0, p.1);
  sends_join = λ w h s g p at joining. (named-put w s (with_message ask.Join s) at refl p.0, posted-named w.pool s.site _ tt p.1);
  sends_upload = λ w h s g p at fine. (named-put w s (upload_sent (by_made h s.site) (subscriber_closed (subscriber_at_moment w.moment s))).0 at refl p.0, posted-named w.pool s.site _ tt p.1);
  sends_ranges = λ w h s g p at fine. (named-put w s (with_message ask.Ranges s) at refl p.0, posted-named w.pool s.site _ tt p.1);
  sends_ask = λ w h s g p at fine. (named-put w s (with_message (ask.Download s.watermark) s) at refl p.0, posted-named w.pool s.site _ (found-named w.subscribers s.site.0 s g.none at) p.1);
  joins = λ w h number m g p at fine acts. (p.0, posted-named w.pool m.site _ tt p.1);
  joins_again = λ w h number m g p at acts. (p.0, posted-named w.pool m.site _ tt p.1);
  uploads = λ w h number m g p at fine news. (p.0, posted-named w.pool m.site _ tt p.1);
  uploads_again = λ w h number m g p at none. (p.0, posted-named w.pool m.site _ tt p.1);
  answers_ranges = λ w h site m g p. (p.0, posted-named w.pool site _ tt p.1);
  answers_ask = λ w h number site m g p at fine. (p.0, posted-named w.pool site _ (letter-named w number (record { site = site; message = Asks (request.Download m) }) p.1 at) p.1);
  replies = λ w h s number m sent g p at there out none. (named-put w s (tables_after_reply (by_made h s.site) w.moment m s) at (reply-site (by_made h s.site) w.moment m s) p.0, p.1);
}

-- How it begins.

put-low : (entries : List (ℕ × Subscription)) (site n : ℕ) (s : Subscription) (b : Bool) → same_number n site b → site ≤ 63 → ((k : ℕ) (t : Subscription) → at_number entries k ≡ Some t → k ≤ 63) → (t : Subscription) → at_number (put_number entries site s) n ≡ Some t → n ≤ 63
put-low entries site n s true same low all t e = omega (arith, same, low)
put-low entries site n s false differs low all t e = all n t (sym (at_put_other site n s entries differs) ∙ e)

all-low : (entries : List (ℕ × Subscription)) (subscriptions : List Subscription) → All (λ (s : Subscription). IsValidSubscription s) subscriptions → ((n : ℕ) (t : Subscription) → at_number entries n ≡ Some t → n ≤ 63)
    → (n : ℕ) (t : Subscription) → at_number (fold (λ (others : List (ℕ × Subscription)) (s : Subscription). put_number others s.site.0 s) entries subscriptions) n ≡ Some t → n ≤ 63
all-low entries [] valid all = all
all-low entries (s ∷ subscriptions) valid all =
    let low : s.site.0 ≤ 63 = (All-head (λ (x : Subscription). IsValidSubscription x) s subscriptions valid).valid_site.1 in
    all-low (put_number entries s.site.0 s) subscriptions (All-tail (λ (x : Subscription). IsValidSubscription x) s subscriptions valid) (λ n. put-low entries s.site.0 n s (n == s.site.0) (number-decided n s.site.0) low all)

from-map : (n : ℕ) (found : Option Subscription) (s : SubscriberTables) (publication : Publication) → ((t : Subscription) → found ≡ Some t → n ≤ 63) → option_map (λ (t : Subscription). empty_subscriber publication t.site) found ≡ Some s → n ≤ 63
from-map n None s publication all e = absurd (grind (arith, e))
from-map n (Some t) s publication all e = all t refl

pub named-begins : (publication : Publication) (tallies : List ℕ) → (resolvers : ℕ) × IsValid resolvers publication → LettersAreNamed (empty_world publication tallies) no_history
named-begins publication tallies valid = (
  λ n s at. from-map n (at_number (by_site publication) n) s publication (λ t. all-low [] publication.subscriptions valid.1.valid_subscriptions (λ k u e. absurd (grind (arith, e))) n t) (sym (at-map publication (by_site publication) n) ∙ at),
  tt,
)
