-- No request of the pool is refused for its sender, for a gap or for a watermark.
use Rattle.std.specs.Prelude.{Bool, List, None, Option, Some, false, is_some, nat_lt, refl, true, ℕ, ◌≡◌, ◌≤◌}
use Rattle.std.proofs.Common.{ap, arith, subst, sym, ◌∙◌}
use Rattle.std.proofs.lemmas.Bool.Decides.{nat_tests}
use Rattle.merge_types.specs.declared.identifiers.SiteId.{SiteId}
use Rattle.merge_schema.specs.Places.{is_subscription}
use Rattle.merge_schema.specs.Valid.{IsValid}
use Rattle.merge_schema.specs.declared.publication.Publication.{Publication}
use Rattle.merge_batch.specs.Heads.{site_of}
use Rattle.merge_batch.specs.declared.refusal.Refusal.{Refusal}
use Rattle.merge_batch.specs.declared.refusal.Refusal.TheVariants.{BadBatch, Gap, WrongWatermark}
use Rattle.merge_batch.specs.declared.request.Download.{Download}
use Rattle.merge_batch.specs.declared.request.Request.{Request}
use Rattle.merge_batch.specs.declared.request.Request.TheVariants as request
use Rattle.merge_batch.specs.declared.request.Upload.{Upload}
use Rattle.merge_batch.specs.declared.rules.BrokenRule.{BrokenRule}
use Rattle.merge_model.specs.Failing.{Slips}
use Rattle.merge_model.specs.World.Faults.{fault_of, join_fault, ranges_fault, upload_fault}
use Rattle.merge_model.specs.Judge.ByNumbers.{received_by_number}
use Rattle.merge_model.specs.Judge.{PublisherJudge}
use Rattle.merge_model.specs.Tables.Keys.{at_number}
use Rattle.merge_model.specs.History.Model.{Model}
use Rattle.merge_model.specs.Publisher.{last_closed, site_refusal}
use Rattle.merge_model.specs.Failing.Runs.{model_behind}
use Rattle.merge_model.specs.Tables.{PublisherTables}
use Rattle.merge_model.specs.World.{Saying}
use Rattle.merge_model.specs.declared.event.Event.{Event}
use Rattle.merge_model.specs.declared.letter.Letter.{Letter}
use Rattle.merge_model.specs.declared.letter.Message.TheVariants.{Asks}
use Rattle.merge_model.proofs.Lists.Finding.{pool-at}
use Rattle.merge_laws.specs.Laws.Effects.{history_judge}
use Rattle.merge_laws.specs.Laws.{OfEveryValidRun}
use Rattle.merge_laws.proofs.Received.Models.{gap-is}
use Rattle.merge_honest.specs.Delivered.{IsRequest, NoneIsRefusedFor, is_gap, is_not_joined, is_unknown_site, is_wrong_watermark, refusal_of}
use Rattle.merge_honest.specs.SentWell.{AskIsWell, IsRemembered, IsSentBy, IsWell, UploadIsWell}
use Rattle.merge_honest.proofs.Refusing.{Allows, Never, OfRequest, OfSite, if-never, is_join, none-never, none-refused, request-never, some-never}
use Rattle.merge_honest.proofs.SentWell.{Whole, sent-well-always}

-- A rule of messages is another refusal.
pub fault-other : (test : Refusal → Bool) → ((item rule : ℕ) → test (BadBatch item rule) ≡ false) → (found : Option BrokenRule) → Never test (fault_of found)
fault-other test each None = none-never test
fault-other test each (Some broken) = some-never test (BadBatch broken.item broken.rule) (each broken.item broken.rule)

-- what is known of a request that comes
pub request-well : (publication : Publication) (m : Model) (number : ℕ) (site : SiteId) (r : Request) → Whole publication m → IsRequest m number site r → IsWell publication m.world.publisher site (Asks r)
request-well publication m number site r k at = pool-at (λ (letter : Letter). IsWell publication m.world.publisher letter.site letter.message) m.world number (record { site = site; message = Asks r }) at k.1.letters

pub sender-of : (publication : Publication) (p : PublisherTables) (site : SiteId) (r : Request) → IsWell publication p site (Asks r) → IsSentBy publication site (site_of r)
sender-of publication p site (request.Join m) well = well.sender
sender-of publication p site (request.Upload m) well = well.sender
sender-of publication p site (request.Ranges m) well = well.sender
sender-of publication p site (request.Download m) well = well.sender

remembered-of : (publication : Publication) (p : PublisherTables) (site : SiteId) (r : Request) → is_join r ≡ false → IsWell publication p site (Asks r) → IsRemembered p site.0
remembered-of publication p site (request.Join m) other well = absurd cc
remembered-of publication p site (request.Upload m) other well = well.remembered
remembered-of publication p site (request.Ranges m) other well = well.remembered
remembered-of publication p site (request.Download m) other well = well.remembered

not-both : (b : Bool) → b ≡ true → b ≡ false → ⊥
not-both b is other = absurd (let both : true ≡ false = sym is ∙ other in cc)

pub subscribed : (publication : Publication) (p : PublisherTables) (site : SiteId) (r : Request) → IsWell publication p site (Asks r) → is_subscription publication (site_of r).0 ≡ true
subscribed publication p site r well = let s = sender-of publication p site r well in ap (λ (x : SiteId). is_subscription publication x.0) s.same ∙ s.subscribes

pub known-state : (publication : Publication) (p : PublisherTables) (site : SiteId) (r : Request) → is_join r ≡ false → IsWell publication p site (Asks r) → is_some (at_number p.sites (site_of r).0) ≡ true
known-state publication p site r other well = ap (λ (x : SiteId). is_some (at_number p.sites x.0)) (sender-of publication p site r well).same ∙ remembered-of publication p site r other well

module _ (publication : Publication) (m : Model) (k : Whole publication m) (number : ℕ) (site : SiteId) where
  abbrev p : PublisherTables
  p = m.world.publisher

  abbrev judge : PublisherJudge
  judge = history_judge m number

  -- an upload begins where its site was taken
  no-gap-here : (u : Upload) → IsRequest m number site (request.Upload u) → judge.is_gap u.site.0 u.from ≡ true → ⊥
  no-gap-here u at gap =
      let well : UploadIsWell publication p site u = request-well publication m number site (request.Upload u) k at in
      let is = gap-is m.history p u.site.0 u.from k.0.0.received.done in
      let low : u.from ≤ received_by_number p u.site.0 = subst (λ (x : SiteId). u.from ≤ received_by_number p x.0) (sym well.sender.same) well.begins in
      absurd (grind (arith, nat_tests, is, gap, low))

  -- and an ask at a closed generation
  no-mark-here : (d : Download) → IsRequest m number site (request.Download d) → nat_lt (last_closed p) d.from ≡ true → ⊥
  no-mark-here d at wrong =
      let well : AskIsWell publication p site d.site d.from = request-well publication m number site (request.Download d) k at in
      let low = well.begins in
      absurd (grind (arith, nat_tests, wrong, low))

  -- what the rules of messages say of a request that its site's state does not refuse
  abbrev pub RulesOf : (Refusal → Bool) → Request → Type 0
  RulesOf test (request.Join j) = Never test (join_fault j)
  RulesOf test (request.Upload u) = site_refusal publication u.site u.seq m.world.moment p ≡ None → Never test (upload_fault publication judge u p)
  RulesOf test (request.Ranges a) = site_refusal publication a.site a.seq m.world.moment p ≡ None → Never test (ranges_fault publication judge a p)
  RulesOf test (request.Download d) = Unit {0}

  module _ (test : Refusal → Bool) (allows : Allows test) where
    own-of : (r : Request) → IsRequest m number site r → RulesOf test r → OfRequest test allows publication judge m.world.moment p r
    own-of (request.Join j) at rules = rules
    own-of (request.Upload u) at rules = λ fine. (if-never test (judge.is_gap u.site.0 u.from) (Gap u.from (judge.received u.site.0)) (λ gap. absurd (no-gap-here u at gap)), rules fine)
    own-of (request.Ranges a) at rules = rules
    own-of (request.Download d) at rules = if-never test (nat_lt (last_closed p) d.from) (WrongWatermark d.from (last_closed p)) (λ wrong. absurd (no-mark-here d at wrong))

    site-of : (r : Request) → IsRequest m number site r → OfSite test allows publication p r
    site-of r at = (
      (λ unknown. absurd (not-both (is_subscription publication (site_of r).0) (subscribed publication p site r (request-well publication m number site r k at)) unknown)),
      (λ other forgotten. absurd (not-both (is_some (at_number p.sites (site_of r).0)) (known-state publication p site r other (request-well publication m number site r k at)) forgotten)),
    )

    -- so it is refused for nothing but what a test allows, and the rules of messages
    pub request-passes : (r : Request) → IsRequest m number site r → RulesOf test r → Never test (refusal_of publication judge m.world.moment r p)
    request-passes r at rules = request-never test allows publication judge m.world.moment p r (site-of r at) (own-of r at rules)

    all-rules : ((item rule : ℕ) → test (BadBatch item rule) ≡ false) → (r : Request) → RulesOf test r
    all-rules other (request.Join j) = fault-other test other _
    all-rules other (request.Upload u) = λ fine. fault-other test other _
    all-rules other (request.Ranges a) = λ fine. fault-other test other _
    all-rules other (request.Download d) = tt

-- No delivery is refused for what is neither allowed nor a rule of messages.
pub passes-always : (test : Refusal → Bool) → Allows test → ((item rule : ℕ) → test (BadBatch item rule) ≡ false) → OfEveryValidRun (NoneIsRefusedFor test)
passes-always test allows other resolvers publication valid says tallies slips events =
    let m : Model = model_behind publication says tallies slips events in
    let k : Whole publication m = sent-well-always publication says tallies slips events (resolvers, valid) in
    none-refused test allows publication says m (λ number site r at. request-passes publication m k number site test allows r at (all-rules publication m k number site test allows other r))

pub no-gaps : OfEveryValidRun (NoneIsRefusedFor is_gap)
no-gaps = passes-always is_gap (record { expired = λ last now. refl; stale = λ seq joined. refl; rows = λ count. refl; ends = λ value. refl }) (λ item rule. refl)

pub no-wrong-watermarks : OfEveryValidRun (NoneIsRefusedFor is_wrong_watermark)
no-wrong-watermarks = passes-always is_wrong_watermark (record { expired = λ last now. refl; stale = λ seq joined. refl; rows = λ count. refl; ends = λ value. refl }) (λ item rule. refl)

pub no-unknown-sites : OfEveryValidRun (NoneIsRefusedFor is_unknown_site)
no-unknown-sites = passes-always is_unknown_site (record { expired = λ last now. refl; stale = λ seq joined. refl; rows = λ count. refl; ends = λ value. refl }) (λ item rule. refl)

pub none-not-joined : OfEveryValidRun (NoneIsRefusedFor is_not_joined)
none-not-joined = passes-always is_not_joined (record { expired = λ last now. refl; stale = λ seq joined. refl; rows = λ count. refl; ends = λ value. refl }) (λ item rule. refl)
