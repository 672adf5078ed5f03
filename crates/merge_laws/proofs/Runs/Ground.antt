-- What is known of every model that a list of events leads to, where the publication is one that a file can say: the base of further laws.
use Rattle.merge_batch.specs.declared.request.Outstanding.TheVariants as ask
use Rattle.merge_model.proofs.Runs.Actions.{failing-actions-keep}
use Rattle.merge_laws.proofs.Runs.Tallied.{behind-tallied, lineages-tallied, numbered-tallied, received-tallied}
use Rattle.merge_laws.proofs.Received.BehindKept.{behind-always, behind-keeps}
use Rattle.merge_model.proofs.Lists.Finding.{at_put_other}
use Rattle.merge_laws.proofs.Known.KnownCounts.{made-on}
use Rattle.merge_laws.proofs.Known.KnownSteps.{known-always, known-keeps}
use Rattle.merge_laws.proofs.LastLines.LastLineSteps.{LinesBase, last_lines-always, last_lines-keep}
use Rattle.merge_laws.proofs.Lineages.LineagesKept.{lineages-always, lineages-keep}
use Rattle.merge_laws.proofs.Received.Models.{at-map, model-fine}
use Rattle.merge_laws.proofs.Purges.PurgeModels.{in-step-step, in_step-always}
use Rattle.merge_laws.proofs.Numbered.Tellings.{numbered-keeps}
use Rattle.merge_laws.proofs.Unsent.UnsentKept.{Base, reply-site, unsent-always, unsent-keeps}
use Rattle.merge_laws.proofs.Walking.{StepsKeep, step-keeps}
use Rattle.merge_laws.proofs.Watermarks.WatermarkModels.{watermarks-always, watermarks-keep}
use Rattle.merge_laws.specs.Facts.Behind.{Behind}
use Rattle.merge_laws.specs.Facts.Knowledge.{Known, changes_of, changes_of as changes_in}
use Rattle.merge_laws.specs.Laws.LastLines.{LastLines}
use Rattle.merge_laws.specs.Facts.Lineages.{IsOfMade, LineagesAreMade}
use Rattle.merge_laws.specs.Facts.Numbered.{Numbered}
use Rattle.merge_laws.specs.Facts.Purges.{IsInStep}
use Rattle.merge_laws.specs.Facts.Received.{Received}
use Rattle.merge_laws.specs.Invariants.Unsent.{Unsent}
use Rattle.merge_laws.specs.Facts.Watermarks.{HoldsWatermarks}
use Rattle.merge_model.specs.Failing.{Slips, faulty}
use Rattle.merge_model.specs.Failing.Runs.{model_behind, model_behind_actions}
use Rattle.merge_model.proofs.Runs.{publisher_stays_sorted}
use Rattle.merge_model.proofs.Publishers.Sorted.{step-sorted}
use Rattle.merge_model.proofs.Subscribers.{step-sub-sorted}
use Rattle.merge_model.specs.Judge.ByHistory.{by_history, by_made}
use Rattle.merge_model.specs.History.{History, no_history}
use Rattle.merge_model.specs.Tables.Keys.{at_number, put_number}
use Rattle.merge_model.specs.Laws.{AreSorted, SubscriberIsSorted}
use Rattle.merge_model.specs.History.Model.{Model, empty_model, model, model_step}
use Rattle.merge_model.specs.Tables.Publications.{by_site}
use Rattle.merge_model.specs.Subscriber.Reinit.{result_of_reinit}
use Rattle.merge_model.specs.Subscriber.Sending.{upload_sent, with_message}
use Rattle.merge_model.specs.World.Steps.{Action}
use Rattle.merge_model.specs.Subscriber.{empty_subscriber, subscriber_at_moment, subscriber_closed, subscriber_made_locally}
use Rattle.merge_model.specs.Tables.{SubscriberTables}
use Rattle.merge_model.specs.Subscriber.Taking.{tables_after_reply}
use Rattle.merge_model.specs.World.{Saying, World, empty_world, subscriber_at, with_subscriber}
use Rattle.merge_model.specs.declared.event.Event.{Event}
use Rattle.merge_schema.specs.Valid.{IsValid, IsValidSubscription}
use Rattle.merge_schema.specs.declared.publication.Publication.{Publication}
use Rattle.merge_schema.specs.declared.publication.Subscription.{Subscription}
use Rattle.merge_types.specs.declared.identifiers.SiteId.{SiteId}
use Rattle.std.proofs.Common.{arith, sym, ap, ◌∙◌}
use Rattle.std.proofs.lemmas.List.Elements.{All-head, All-tail}
use Rattle.std.specs.List.{AllByRecursion, fold}
use Rattle.std.specs.Prelude.{◌≡◌, ◌≤◌, ℕ, List, [], ◌∷◌, All, Option, Some, None, option_map, refl}
use Rattle.merge_laws.proofs.Runs.OfActions.{of-events}

pub record Ground (publication : Publication) (w : World) (h : History) : Type 0 where
  pub valid : (resolvers : ℕ) × IsValid resolvers publication
  -- no subscriber has the publisher's number
  pub none : at_number w.subscribers 0 ≡ None
  pub received : Received w h
  pub numbered : Numbered w h
  pub rows : AllByRecursion (λ (entry : ℕ × SubscriberTables). SubscriberIsSorted entry.1) w.subscribers
  pub unsent : Unsent w h
  pub known : Known (changes_of w) h
  pub sorted : AreSorted w.publisher
  pub lines : LastLines publication w.publisher.rows w.publisher.mappings h.lines
  pub behind : Behind w
  pub watermarks : HoldsWatermarks w
  pub in_step : IsInStep w.moment.0 w.publisher h.bases
  pub lineages : LineagesAreMade w

-- No subscriber has the publisher's number.

abbrev HasNoZero : World → History → Type 0
HasNoZero w h = at_number w.subscribers 0 ≡ None

no-some : (w : World) (s : SubscriberTables) → at_number w.subscribers 0 ≡ None → subscriber_at w s.site ≡ Some s → s.site.0 ≡ 0 → ⊥
no-some w s none at zero = absurd (grind (arith, ap (λ (n : ℕ). at_number w.subscribers n) zero, none, at))

still-none : (w : World) (s t : SubscriberTables) → at_number w.subscribers 0 ≡ None → subscriber_at w s.site ≡ Some s → t.site.0 ≡ s.site.0 → at_number (with_subscriber t w).subscribers 0 ≡ None
still-none w s t none at same = at_put_other t.site.0 0 t w.subscribers (λ zero. no-some w s none at (sym same ∙ sym zero)) ∙ none

none-keeps : (publication : Publication) (says : Saying) → StepsKeep publication says Received HasNoZero
none-keeps publication says = record {
  moment = λ w h now r p. p;
  own_change = λ w h change d r p fine is. p;
  own_closing = λ w h r p. p;
  forgetting = λ w h r p. p;
  same = λ w h s r p at. still-none w s s p at refl;
  subscriber_change = λ w h s change d r p at named fine is. still-none w s (subscriber_made_locally publication change d (subscriber_at_moment w.moment s)).0 p at (ap (λ (site : SiteId). site.0) (made-on publication w.moment change s d).same_site);
  subscriber_closing = λ w h s r p at. still-none w s (subscriber_closed (subscriber_at_moment w.moment s)) p at refl;
  anew = λ w h s r p at. still-none w s (result_of_reinit (by_made h s.site) (subscriber_at_moment w.moment s)).0 p at refl;
  sends_join = λ w h s r p at joining. still-none w s (with_message ask.Join s) p at refl;
  sends_upload = λ w h s r p at fine. still-none w s (upload_sent (by_made h s.site) (subscriber_closed (subscriber_at_moment w.moment s))).0 p at refl;
  sends_ranges = λ w h s r p at fine. still-none w s (with_message ask.Ranges s) p at refl;
  sends_ask = λ w h s r p at fine. still-none w s (with_message (ask.Download s.watermark) s) p at refl;
  joins = λ w h number m r p at fine acts. p;
  joins_again = λ w h number m r p at acts. p;
  uploads = λ w h number m r p at fine news. p;
  uploads_again = λ w h number m r p at none. p;
  answers_ranges = λ w h site m r p. p;
  answers_ask = λ w h number site m r p at fine. p;
  replies = λ w h s number m sent r p at there out none. still-none w s (tables_after_reply (by_made h s.site) w.moment m s) p at (reply-site (by_made h s.site) w.moment m s);
}

pub ground-step : (publication : Publication) (says : Saying) (m : Model) (action : Action) → Ground publication m.world m.history → (let n : Model = (model_step publication says m action).0 in Ground publication n.world n.history)
ground-step publication says m action g =
    record {
      valid = g.valid;
      none = step-keeps publication says Received HasNoZero (λ w h r. r) (none-keeps publication says) m action g.received g.none;
      received = model-fine publication says m action g.received;
      numbered = step-keeps publication says Received Numbered (λ w h r. r) (numbered-keeps publication says) m action g.received g.numbered;
      rows = step-sub-sorted publication says (by_history m.history) m.world action g.rows;
      unsent = step-keeps publication says Base Unsent (λ w h b. b.0) (unsent-keeps publication says) m action (g.received, (g.numbered, g.rows)) g.unsent;
      known = step-keeps publication says Received (λ (w : World) (h : History). Known (changes_of w) h) (λ w h r. r) (known-keeps publication says) m action g.received g.known;
      sorted = step-sorted publication says (by_history m.history) m.world action g.sorted;
      lines = step-keeps publication says LinesBase (λ (w : World) (h : History). LastLines publication w.publisher.rows w.publisher.mappings h.lines) (λ w h b. b.0) (last_lines-keep publication says) m action (g.received, g.sorted) g.lines;
      behind = step-keeps publication says Received (λ (w : World) (h : History). Behind w) (λ w h r. r) (behind-keeps publication says) m action g.received g.behind;
      watermarks = step-keeps publication says Received (λ (w : World) (h : History). HoldsWatermarks w) (λ w h r. r) (watermarks-keep publication says) m action g.received g.watermarks;
      in_step = in-step-step publication says m action g.received g.in_step;
      lineages = step-keeps publication says Received (λ (w : World) (h : History). LineagesAreMade w) (λ w h r. r) (lineages-keep publication says) m action g.received g.lineages;
    }

-- How it begins: with sites from 1 on.

none-put : (entries : List (ℕ × Subscription)) (subscriptions : List Subscription) → All (λ (s : Subscription). IsValidSubscription s) subscriptions → at_number entries 0 ≡ None
    → at_number (fold (λ (others : List (ℕ × Subscription)) (s : Subscription). put_number others s.site.0 s) entries subscriptions) 0 ≡ None
none-put entries [] valid none = none
none-put entries (s ∷ subscriptions) valid none =
    let low : 1 ≤ s.site.0 = (All-head (λ (x : Subscription). IsValidSubscription x) s subscriptions valid).valid_site.0 in
    none-put (put_number entries s.site.0 s) subscriptions (All-tail (λ (x : Subscription). IsValidSubscription x) s subscriptions valid) (at_put_other s.site.0 0 s entries (λ zero. omega (arith, low, zero)) ∙ none)

none-begins : (publication : Publication) (tallies : List ℕ) → (resolvers : ℕ) × IsValid resolvers publication → HasNoZero (empty_world publication tallies) no_history
none-begins publication tallies valid = at-map publication (by_site publication) 0
    ∙ ap (λ (found : Option Subscription). option_map (λ (s : Subscription). empty_subscriber publication s.site) found) (none-put [] publication.subscriptions valid.1.valid_subscriptions refl)

pub ground-begins : (publication : Publication) (says : Saying) (tallies : List ℕ) → (resolvers : ℕ) × IsValid resolvers publication → Ground publication (empty_world publication tallies) no_history
ground-begins publication says tallies valid =
    let unsent = unsent-always publication says tallies [] [] in record {
      valid = valid;
      none = none-begins publication tallies valid;
      received = unsent.0.0;
      numbered = unsent.0.1.0;
      rows = unsent.0.1.1;
      unsent = unsent.1;
      known = known-always publication says tallies [] [];
      sorted = publisher_stays_sorted publication says tallies [] [];
      lines = last_lines-always publication says tallies [] [];
      behind = (behind-always publication says tallies [] []).1;
      watermarks = watermarks-always publication says tallies [] [];
      in_step = in_step-always publication says tallies [] [];
      lineages = (lineages-always publication says tallies [] []).1;
    }

-- Other tallies keep it.
pub ground-tallied : (publication : Publication) (w : World) (h : History) (tallies : List ℕ) → Ground publication w h → Ground publication (record w { tallies = tallies }) h
ground-tallied publication w h tallies g = record {
  valid = g.valid;
  none = g.none;
  received = received-tallied w tallies h g.received;
  numbered = numbered-tallied w tallies h g.numbered;
  rows = g.rows;
  unsent = g.unsent;
  known = g.known;
  sorted = g.sorted;
  lines = g.lines;
  behind = behind-tallied w tallies g.behind;
  watermarks = g.watermarks;
  in_step = g.in_step;
  lineages = lineages-tallied w tallies (IsOfMade (changes_in w)) g.lineages;
}

-- What a further invariant needs: that each step and other tallies keep it over what is known, and that it holds where nothing has happened.
pub grounded-by-actions : (publication : Publication) (says : Saying) (tallies : List ℕ) (slips : Slips) (actions : List Action) → (resolvers : ℕ) × IsValid resolvers publication → (P : World → History → Type 0)
    → ((m : Model) (action : Action) → Ground publication m.world m.history → P m.world m.history → (let n : Model = (model_step publication says m action).0 in P n.world n.history)) → ((w : World) (h : History) (others : List ℕ) → P w h → P (record w { tallies = others }) h) → P (empty_world publication tallies) no_history
    → (let m : Model = model_behind_actions publication says tallies slips actions in Ground publication m.world m.history × P m.world m.history)
grounded-by-actions publication says tallies slips actions valid P keeps stays begins = failing-actions-keep publication (model publication says) (λ (m : Model). Ground publication m.world m.history × P m.world m.history)
    (λ m action both. (ground-step publication says m action both.0, keeps m action both.0 both.1)) (λ m others both. (ground-tallied publication m.world m.history others both.0, stays m.world m.history others both.1)) actions (faulty (empty_model publication tallies) slips) (ground-begins publication says tallies valid, begins)

pub grounded-always : (publication : Publication) (says : Saying) (tallies : List ℕ) (slips : Slips) (events : List Event) → (resolvers : ℕ) × IsValid resolvers publication → (P : World → History → Type 0)
    → ((m : Model) (action : Action) → Ground publication m.world m.history → P m.world m.history → (let n : Model = (model_step publication says m action).0 in P n.world n.history)) → ((w : World) (h : History) (others : List ℕ) → P w h → P (record w { tallies = others }) h) → P (empty_world publication tallies) no_history
    → (let m : Model = model_behind publication says tallies slips events in Ground publication m.world m.history × P m.world m.history)
grounded-always publication says tallies slips events valid P keeps stays begins =
    of-events publication says tallies slips events (λ (m : Model). Ground publication m.world m.history × P m.world m.history) (λ actions. grounded-by-actions publication says tallies slips actions valid P keeps stays begins)
