-- Every step of the model keeps what the numbers say.
use Rattle.std.specs.Prelude.{◌≡◌, ◌==◌, ℕ, List, Bool, true, false, Option, Some, None, Result, Ok, Err, refl, if◌then◌else◌, IfOk}
use Rattle.std.proofs.Common.{arith, subst, sym, ap, ◌∙◌}
use Rattle.merge_types.specs.declared.identifiers.SiteId.{SiteId}
use Rattle.merge_types.specs.declared.identifiers.Moment.{Moment}
use Rattle.merge_types.specs.declared.identifiers.RowId.{RowId}
use Rattle.merge_types.specs.declared.values.Value.{Value}
use Rattle.merge_types.specs.declared.changes.Change.{Change}
use Rattle.merge_ident.specs.Holders.{Holder}
use Rattle.merge_batch.specs.declared.refusal.Refusal.{Refusal}
use Rattle.merge_batch.specs.declared.refusal.Refusal.TheVariants.{UnknownSite}
use Rattle.merge_schema.specs.declared.publication.Publication.{Publication}
use Rattle.merge_model.specs.Tables.{PublisherTables, SubscriberTables}
use Rattle.merge_model.specs.Tables.Keys.{at_number, put_number}
use Rattle.merge_model.specs.Tables.Refusals.{unless, counter_end}
use Rattle.merge_model.specs.Judge.{PublisherJudge}
use Rattle.merge_model.specs.Judge.ByNumbers.{received_by_number}
use Rattle.merge_model.specs.Publisher.{at_moment, close_generation}
use Rattle.merge_model.specs.Publisher.PublisherLocal.{local, draw_for_change, Drawn, made_locally}
use Rattle.merge_model.specs.Publisher.PublisherJoin.{tables_after_join}
use Rattle.merge_model.specs.Subscriber.{subscriber_local, subscriber_local_refusal, subscriber_drawn, subscriber_made_locally, close_subscriber_generation, subscriber_closed, subscriber_at_moment, subscriber_counters, subscriber_last_closed, is_joining}
use Rattle.merge_model.specs.World.{World, Judges, subscriber_at, with_publisher, with_subscriber}
use Rattle.merge_model.specs.declared.letter.Message.{Message}
use Rattle.merge_model.specs.World.Steps.{post, unless_refused, at_subscriber, make_at, make_at_publisher, make_at_subscriber, close_at, close_publisher, close_subscriber}
use Rattle.merge_model.specs.declared.outcome.Outcome.{Outcome}
use Rattle.merge_model.specs.declared.outcome.Outcome.TheVariants.{Refuses, Made, Closes}
use Rattle.merge_model.specs.History.{History}
use Rattle.merge_model.proofs.Publishers.{local-ok, close-ok}
use Rattle.merge_laws.specs.Facts.Received.{joined_at, MessageFits, SubscriberFits, Received}
use Rattle.merge_model.proofs.Lists.Finding.{at_put_same}
use Rattle.merge_laws.proofs.Received.Subscribing.{Goes, closing-goes, made-goes}
use Rattle.merge_laws.proofs.Received.Publishing.{same-sites}
use Rattle.merge_laws.proofs.Received.Worlds.{posted-fits, subscriber-goes, publisher-same}
use Rattle.merge_model.proofs.Runs.Refusals.{first-none}

module _ (w : World) (h : History) (r : Received w h) where
  -- a step of the publisher that leaves the numbers of the sites
  pub sites-fine : (q : PublisherTables) → q.sites ≡ w.publisher.sites → Received (with_publisher q w) h
  sites-fine q e = publisher-same w h q (same-sites w.publisher q e) r

  pub if-fine : (b : Bool) (x y : World × Outcome) → Received x.0 h → Received y.0 h → Received (if b then x else y).0 h
  if-fine true x y first second = first
  if-fine false x y first second = second

  pub pub-fine : {A : Type 0} (done : Result (PublisherTables × A) Refusal) (act : PublisherTables × A → World × Outcome) → IfOk done (λ a. a.0.sites ≡ w.publisher.sites)
      → ((a : PublisherTables × A) → a.0.sites ≡ w.publisher.sites → Received (act a).0 h) → Received (unless_refused w done act).0 h
  pub-fine (Err refusal) act ok each = r
  pub-fine (Ok a) act ok each = each a ok

  -- a step of a subscriber that there is
  pub there-fine : (site : SiteId) (found : Option SubscriberTables) (act : SubscriberTables → World × Outcome) → subscriber_at w site ≡ found → ((s : SubscriberTables) → subscriber_at w site ≡ Some s → Received (act s).0 h)
      → (let done : World × Outcome = elim found [ None ↦ (w, Refuses (UnknownSite site)) | Some s ↦ act s ] in Received done.0 h)
  there-fine site None act is each = r
  there-fine site (Some s) act is each = each s is

  pub at-fine : (site : SiteId) (act : SubscriberTables → World × Outcome) → ((s : SubscriberTables) → subscriber_at w site ≡ Some s → Received (act s).0 h) → Received (at_subscriber site w act).0 h
  at-fine site act each = there-fine site (subscriber_at w site) act refl each

  -- what is known of it
  module _ (site : SiteId) (s : SubscriberTables) (at : subscriber_at w site ≡ Some s) where
    pub fits-here : SubscriberFits (received_by_number w.publisher site.0) site.0 s
    fits-here = r.subscribers site.0 s at

    pub own-at : at_number w.subscribers s.site.0 ≡ Some s
    own-at = ap (λ (n : ℕ). at_number w.subscribers n) fits-here.keyed ∙ at

    pub fits-own : SubscriberFits (received_by_number w.publisher s.site.0) s.site.0 s
    fits-own = subst (λ (n : ℕ). SubscriberFits (received_by_number w.publisher n) n s) (sym fits-here.keyed) fits-here

    pub goes-fine : (t : SubscriberTables) → Goes (received_by_number w.publisher s.site.0) (joined_at w.publisher s.site) s t → Received (with_subscriber t w) h
    goes-fine t g = subscriber-goes w h s t own-at g r

    pub sub-fine : {A : Type 0} (done : Result (SubscriberTables × A) Refusal) (act : SubscriberTables × A → World × Outcome) → IfOk done (λ a. Goes (received_by_number w.publisher s.site.0) (joined_at w.publisher s.site) s a.0)
        → ((a : SubscriberTables × A) → Goes (received_by_number w.publisher s.site.0) (joined_at w.publisher s.site) s a.0 → Received (act a).0 h) → Received (unless_refused w done act).0 h
    sub-fine (Err refusal) act ok each = r
    sub-fine (Ok a) act ok each = each a ok

-- Local changes.

local-sites : (publication : Publication) (judge : PublisherJudge) (now : Moment) (change : Change) (p : PublisherTables) (draw : Result Drawn Refusal) → IfOk draw (λ d. (made_locally publication judge change d (at_moment now p)).0.sites ≡ p.sites)
local-sites publication judge now change p (Ok d) = refl
local-sites publication judge now change p (Err refusal) = tt

pub joined-flag : (s : SubscriberTables) → is_joining s ≡ None → s.is_joined ≡ true
joined-flag s none = grind (arith, none)

drawn-goes : (publication : Publication) (received joined : ℕ) (now : Moment) (change : Change) (s : SubscriberTables) (draw : Result (Value × List (ℕ × Holder)) Refusal) → s.is_joined ≡ true → SubscriberFits received s.site.0 s
    → (let done : Result (SubscriberTables × RowId) Refusal = elim draw [ Err refusal ↦ Err refusal | Ok d ↦ Ok (subscriber_made_locally publication change d (subscriber_at_moment now s)) ] in IfOk done (λ a. Goes received joined s a.0))
drawn-goes publication received joined now change s (Err refusal) joins f = tt
drawn-goes publication received joined now change s (Ok d) joins f = made-goes publication received joined now change s d joins f

refused-goes : (publication : Publication) (received joined : ℕ) (now : Moment) (change : Change) (s : SubscriberTables) (refusal : Option Refusal) → subscriber_local_refusal publication change s ≡ refusal → SubscriberFits received s.site.0 s
    → (let done : Result (SubscriberTables × RowId) Refusal = elim refusal [
      | Some why ↦ Err why
      | None ↦ elim (subscriber_drawn s change) [ Err why ↦ Err why | Ok d ↦ Ok (subscriber_made_locally publication change d (subscriber_at_moment now s)) ]
    ] in IfOk done (λ a. Goes received joined s a.0))
refused-goes publication received joined now change s (Some why) e f = tt
refused-goes publication received joined now change s None e f = drawn-goes publication received joined now change s (subscriber_drawn s change) (joined-flag s (first-none (is_joining s) _ e).0) f

local-goes : (publication : Publication) (received joined : ℕ) (now : Moment) (change : Change) (s : SubscriberTables) → SubscriberFits received s.site.0 s → IfOk (subscriber_local publication now change s) (λ a. Goes received joined s a.0)
local-goes publication received joined now change s f = refused-goes publication received joined now change s (subscriber_local_refusal publication change s) refl f

pub unless-goes : {A : Type 0} (received joined : ℕ) (s : SubscriberTables) (refusal : Option Refusal) (t : SubscriberTables) (a : A) → Goes received joined s t → (let done : Result (SubscriberTables × A) Refusal = unless refusal (t, a) in IfOk done (λ x. Goes received joined s x.0))
unless-goes received joined s (Some why) t a g = tt
unless-goes received joined s None t a g = g

pub make-fine : (publication : Publication) (judges : Judges) (site : SiteId) (change : Change) (w : World) (h : History) → Received w h → Received (make_at publication judges site change w).0 h
make-fine publication judges site change w h r =
    if-fine w h r (site.0 == 0) (make_at_publisher publication judges change w) (at_subscriber site w (make_at_subscriber publication change w))
    (pub-fine w h r (local publication (judges.publisher 0) w.moment change w.publisher) (λ (done : PublisherTables × RowId). (with_publisher done.0 w, Made done.1))
    (local-ok (λ (q : PublisherTables). q.sites ≡ w.publisher.sites) publication (judges.publisher 0) w.moment change w.publisher (local-sites publication (judges.publisher 0) w.moment change w.publisher (draw_for_change publication w.publisher change)))
    (λ a e. sites-fine w h r a.0 e))
    (at-fine w h r site (make_at_subscriber publication change w)
    (λ s at. sub-fine w h r site s at (subscriber_local publication w.moment change s) (λ (done : SubscriberTables × RowId). (with_subscriber done.0 w, Made done.1))
    (local-goes publication (received_by_number w.publisher s.site.0) (joined_at w.publisher s.site) w.moment change s (fits-own w h r site s at))
    (λ a g. goes-fine w h r site s at a.0 g)))

pub close-fine : (site : SiteId) (w : World) (h : History) → Received w h → Received (close_at site w).0 h
close-fine site w h r =
    if-fine w h r (site.0 == 0) (close_publisher w) (at_subscriber site w (close_subscriber w))
    (pub-fine w h r (close_generation w.moment w.publisher) (λ (done : PublisherTables × ℕ). (with_publisher done.0 w, Closes done.1))
    (close-ok (λ (q : PublisherTables). q.sites ≡ w.publisher.sites) w.moment w.publisher refl) (λ a e. sites-fine w h r a.0 e))
    (at-fine w h r site (close_subscriber w)
    (λ s at. (let t : SubscriberTables = subscriber_closed (subscriber_at_moment w.moment s) in
    sub-fine w h r site s at (close_subscriber_generation w.moment s) (λ (done : SubscriberTables × ℕ). (with_subscriber done.0 w, Closes done.1))
    (unless-goes (received_by_number w.publisher s.site.0) (joined_at w.publisher s.site) s (counter_end (subscriber_counters s)) t (subscriber_last_closed t)
    (closing-goes (received_by_number w.publisher s.site.0) (joined_at w.publisher s.site) 0 w.moment s (fits-own w h r site s at)))
    (λ a g. goes-fine w h r site s at a.0 g))))

-- Messages that are made.

-- a subscriber goes on, and its letter is in the pool
module _ (w : World) (h : History) (r : Received w h) (site : SiteId) (s : SubscriberTables) (at : subscriber_at w site ≡ Some s) where
  pub letter-fine : (t : SubscriberTables) (message : Message) → Goes (received_by_number w.publisher s.site.0) (joined_at w.publisher s.site) s t → MessageFits (joined_at w.publisher s.site) s.site (Some t) message
      → Received (post s.site message (with_subscriber t w)).0 h
  letter-fine t message g fits =
      let v : World = with_subscriber t w in
      let put : at_number v.subscribers s.site.0 ≡ Some t = ap (λ (x : SiteId). at_number (put_number w.subscribers x.0 t) s.site.0) g.same_site ∙ at_put_same s.site.0 t w.subscribers in
      posted-fits v h (record { site = s.site; message = message })
      (subst (λ (o : Option SubscriberTables). MessageFits (joined_at w.publisher s.site) s.site o message) (sym put) fits) (goes-fine w h r site s at t g)
