-- What a delivered request is not refused for: the list of its refusals, one after the other.
use Rattle.std.specs.Prelude.{Bool, List, None, Option, Result, Some, [], false, is_some, nat_le, nat_lt, refl, true, ℕ, ◌≡◌, ◌∷◌}
use Rattle.std.proofs.Common.{ap, arith, subst, sym, ◌∙◌}
use Rattle.merge_types.specs.Limits.{rows_limit}
use Rattle.merge_types.specs.declared.identifiers.Moment.{Moment}
use Rattle.merge_types.specs.declared.identifiers.SiteId.{SiteId}
use Rattle.merge_gens.specs.Retention.{is_expired}
use Rattle.merge_gens.specs.declared.sites.SiteState.{SiteState}
use Rattle.merge_schema.specs.Places.{is_subscription}
use Rattle.merge_schema.specs.declared.publication.Publication.{Publication}
use Rattle.merge_batch.specs.Heads.{site_of}
use Rattle.merge_batch.specs.LocalChanges.{first_refusal, refused_if}
use Rattle.merge_batch.specs.declared.refusal.Refusal.{Refusal}
use Rattle.merge_batch.specs.declared.refusal.Refusal.TheVariants.{CounterEnd, Expired, Gap, NotJoined, Stale, TooManyRows, UnknownSite, WrongWatermark}
use Rattle.merge_batch.specs.declared.reply.Downloaded.{Downloaded}
use Rattle.merge_batch.specs.declared.reply.Joined.{Joined}
use Rattle.merge_batch.specs.declared.reply.Ranged.{Ranged}
use Rattle.merge_batch.specs.declared.reply.Reply.TheVariants as reply
use Rattle.merge_batch.specs.declared.request.Request.{Request}
use Rattle.merge_batch.specs.declared.request.Request.TheVariants as request
use Rattle.merge_batch.specs.declared.request.Upload.{Upload}
use Rattle.merge_model.specs.Publisher.Acts.{Act, acts_of}
use Rattle.merge_model.specs.World.Faults.{join_fault, ranges_fault, upload_fault}
use Rattle.merge_model.specs.Judge.{PublisherJudge}
use Rattle.merge_model.specs.Tables.Keys.{at_number}
use Rattle.merge_model.specs.History.Model.{Model}
use Rattle.merge_model.specs.Publisher.{counters, last_closed, later, site_refusal, state_of, state_refusal, unknown_site}
use Rattle.merge_model.specs.Publisher.PublisherUpload.{too_many_new}
use Rattle.merge_model.specs.Tables.Refusals.{counter_end, unless}
use Rattle.merge_model.specs.World.Steps.{deliver_letter, deliver_request, post_reply, unless_refused}
use Rattle.merge_model.specs.Tables.{PublisherTables}
use Rattle.merge_model.specs.World.{Saying, World, letter_at}
use Rattle.merge_model.specs.Judge.ByHistory.{by_history}
use Rattle.merge_model.specs.declared.letter.Letter.{Letter}
use Rattle.merge_model.specs.declared.outcome.Outcome.{Outcome}
use Rattle.merge_model.specs.declared.outcome.Outcome.TheVariants.{NoLetter, Posted, Refuses}
use Rattle.merge_model.proofs.Lists.Finding.{some_same}
use Rattle.merge_laws.specs.Laws.ActsOnce.{step_of_delivery}
use Rattle.merge_laws.specs.Laws.Effects.{history_judge}
use Rattle.merge_honest.specs.Delivered.{IsRequest, NoneIsRefusedFor, refusal_of}

-- a refusal, where there is one, does not pass the test
abbrev pub Never : (Refusal → Bool) → Option Refusal → Type 0
Never test found = (why : Refusal) → found ≡ Some why → test why ≡ false

pub none-never : (test : Refusal → Bool) → Never test None
none-never test why e = absurd cc

pub some-never : (test : Refusal → Bool) (refusal : Refusal) → test refusal ≡ false → Never test (Some refusal)
some-never test refusal is why e = subst (λ (other : Refusal). test other ≡ false) (some_same refusal why e) is

pub first-never : (test : Refusal → Bool) (refusal : Option Refusal) (rest : List (Option Refusal)) → Never test refusal → (refusal ≡ None → Never test (first_refusal rest)) → Never test (first_refusal (refusal ∷ rest))
first-never test (Some why) rest here more = here
first-never test None rest here more = more refl

pub if-never : (test : Refusal → Bool) (b : Bool) (refusal : Refusal) → (b ≡ true → test refusal ≡ false) → Never test (refused_if b refusal)
if-never test true refusal is = some-never test refusal (is refl)
if-never test false refusal is = none-never test

abbrev pub is_join : Request → Bool
is_join (request.Join m) = true
is_join r = false

-- what a request may be refused for, whatever the test says of all else
pub record Allows (test : Refusal → Bool) : Type 0 where
  pub expired : (last now : Moment) → test (Expired last now) ≡ false
  pub stale : (seq joined : ℕ) → test (Stale seq joined) ≡ false
  pub rows : (count : ℕ) → test (TooManyRows count) ≡ false
  pub ends : (value : ℕ) → test (CounterEnd value) ≡ false

module _ (test : Refusal → Bool) (allows : Allows test) (publication : Publication) where
  -- what is said of a site that is not known, and of one that has not joined
  abbrev IfUnknown : SiteId → Type 0
  IfUnknown site = is_subscription publication site.0 ≡ false → test (UnknownSite site) ≡ false

  abbrev IfForgotten : SiteId → PublisherTables → Type 0
  IfForgotten site p = is_some (at_number p.sites site.0) ≡ false → test NotJoined ≡ false

  unknown-never : (site : SiteId) → IfUnknown site → Never test (unknown_site publication site)
  unknown-never site each = if-never test _ (UnknownSite site) (λ is. each (grind (arith, is)))

  state-never : (seq : ℕ) (now : Moment) (found : Option SiteState) → (is_some found ≡ false → test NotJoined ≡ false) → Never test (state_refusal publication seq now found)
  state-never seq now None each = some-never test NotJoined (each refl)
  state-never seq now (Some state) each =
      let last : Moment = record { 0 = state.last_sync } in
      first-never test (refused_if (is_expired last now publication.retention_days) (Expired last now)) _ (if-never test (is_expired last now publication.retention_days) (Expired last now) (λ is. allows.expired last now))
      (λ none. first-never test (refused_if (nat_le seq state.joined_at) (Stale seq state.joined_at)) [] (if-never test (nat_le seq state.joined_at) (Stale seq state.joined_at) (λ is. allows.stale seq state.joined_at)) (λ none. none-never test))

  site-never : (site : SiteId) (seq : ℕ) (now : Moment) (p : PublisherTables) → IfUnknown site → IfForgotten site p → Never test (site_refusal publication site seq now p)
  site-never site seq now p unknown forgotten = first-never test (unknown_site publication site) _ (unknown-never site unknown)
      (λ none. first-never test (state_refusal publication seq (later now p.latest) (at_number p.sites site.0)) [] (state-never seq (later now p.latest) (at_number p.sites site.0) forgotten) (λ none. none-never test))

  end-never : (p : PublisherTables) → Never test (first_refusal (counter_end (counters p) ∷ []))
  end-never p = first-never test (counter_end (counters p)) [] (if-never test _ (CounterEnd _) (λ is. allows.ends _)) (λ none. none-never test)

  many-never : (acts : List Act) (p : PublisherTables) → Never test (too_many_new acts p)
  many-never acts p = if-never test _ (TooManyRows _) (λ is. allows.rows _)

  -- a site need not have joined for a join
  abbrev pub OfSite : PublisherTables → Request → Type 0
  OfSite p r = IfUnknown (site_of r) × (is_join r ≡ false → IfForgotten (site_of r) p)

  -- what each kind of request has of its own
  abbrev pub OfRequest : PublisherJudge → Moment → PublisherTables → Request → Type 0
  OfRequest judge now p (request.Join m) = Never test (join_fault m)
  OfRequest judge now p (request.Upload m) = site_refusal publication m.site m.seq now p ≡ None
      → Never test (refused_if (judge.is_gap m.site.0 m.from) (Gap m.from (judge.received m.site.0))) × Never test (upload_fault publication judge m p)
  OfRequest judge now p (request.Ranges m) = site_refusal publication m.site m.seq now p ≡ None → Never test (ranges_fault publication judge m p)
  OfRequest judge now p (request.Download m) = Never test (refused_if (nat_lt (last_closed p) m.from) (WrongWatermark m.from (last_closed p)))

  pub request-never : (judge : PublisherJudge) (now : Moment) (p : PublisherTables) (r : Request) → OfSite p r → OfRequest judge now p r → Never test (refusal_of publication judge now r p)
  request-never judge now p (request.Join m) site own = first-never test (unknown_site publication m.site) _ (unknown-never m.site site.0)
      (λ none. first-never test (refused_if (nat_lt m.seq (state_of p m.site).joined_at) (Stale m.seq (state_of p m.site).joined_at)) _ (if-never test _ (Stale m.seq (state_of p m.site).joined_at) (λ is. allows.stale _ _))
      (λ none. first-never test (join_fault m) _ own (λ none. end-never p)))
  request-never judge now p (request.Upload m) site own = first-never test (site_refusal publication m.site m.seq now p) _ (site-never m.site m.seq now p site.0 (site.1 refl))
      (λ fine. first-never test (refused_if (judge.is_gap m.site.0 m.from) (Gap m.from (judge.received m.site.0))) _ (own fine).0
      (λ none. first-never test (upload_fault publication judge m p) _ (own fine).1
      (λ none. first-never test (too_many_new (acts_of judge m [] p) p) _ (many-never (acts_of judge m [] p) p) (λ none. end-never p))))
  request-never judge now p (request.Ranges m) site own = first-never test (site_refusal publication m.site m.seq now p) _ (site-never m.site m.seq now p site.0 (site.1 refl))
      (λ fine. first-never test (ranges_fault publication judge m p) _ (own fine) (λ none. end-never p))
  request-never judge now p (request.Download m) site own = first-never test (site_refusal publication m.site m.seq now p) _ (site-never m.site m.seq now p site.0 (site.1 refl))
      (λ fine. first-never test (refused_if (nat_lt (last_closed p) m.from) (WrongWatermark m.from (last_closed p))) _ own (λ none. end-never p))

-- A step that is refused tells why.

unless-why : {A : Type 0} (w : World) (refusal : Option Refusal) (a : A) (act : A → World × Outcome) (why : Refusal) → ((act a).1 ≡ Refuses why → ⊥) → (unless_refused w (unless refusal a) act).1 ≡ Refuses why → refusal ≡ Some why
unless-why w (Some other) a act why posts e = let same : other ≡ why = cc in ap (λ (r : Refusal). (let found : Option Refusal = Some r in found)) same
unless-why w None a act why posts e = absurd (posts e)

no-post : (n : ℕ) (why : Refusal) → (let outcome : Outcome = Posted n in outcome) ≡ Refuses why → ⊥
no-post n why e = absurd cc

request-why : (publication : Publication) (says : Saying) (judge : PublisherJudge) (site : SiteId) (r : Request) (w : World) (why : Refusal)
    → (deliver_request publication says judge site r w).1 ≡ Refuses why → refusal_of publication judge w.moment r w.publisher ≡ Some why
request-why publication says judge site (request.Join m) w why e = unless-why w _ _ _ why (λ is. no-post _ why is) e
request-why publication says judge site (request.Upload m) w why e = unless-why w _ _ _ why (λ is. no-post _ why is) e
request-why publication says judge site (request.Ranges m) w why e = unless-why w _ _ _ why (λ is. no-post _ why is) e
request-why publication says judge site (request.Download m) w why e = unless-why w _ _ _ why (λ is. no-post _ why is) e

pub delivered-why : (publication : Publication) (says : Saying) (m : Model) (number : ℕ) (site : SiteId) (r : Request) (why : Refusal) → IsRequest m number site r
    → (step_of_delivery publication says m number).1 ≡ Refuses why → refusal_of publication (history_judge m number) m.world.moment r m.world.publisher ≡ Some why
delivered-why publication says m number site r why at e =
    let w : World = m.world in
    let is : (step_of_delivery publication says m number).1 ≡ (deliver_request publication says (history_judge m number) site r w).1 =
    ap (λ (found : Option Letter). (let done : World × Outcome = elim found [ None ↦ (w, NoLetter) | Some letter ↦ deliver_letter publication says (by_history m.history) number w letter ] in done.1)) at in
    request-why publication says (history_judge m number) site r w why (sym is ∙ e)

-- so a test that no request's refusal passes, no delivery's does
pub none-refused : (test : Refusal → Bool) → Allows test → (publication : Publication) (says : Saying) (m : Model)
    → ((number : ℕ) (site : SiteId) (r : Request) → IsRequest m number site r
    → Never test (refusal_of publication (history_judge m number) m.world.moment r m.world.publisher))
    → NoneIsRefusedFor test publication says m
none-refused test allows publication says m each number site r why at e = each number site r at why (delivered-why publication says m number site r why at e)
