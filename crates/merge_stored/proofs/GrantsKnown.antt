-- Each grant is of an article with an identity column, and to the publisher or to a site that subscribes.
use Rattle.std.specs.List.{AllByRecursion}
use Rattle.std.specs.Prelude.{Bool, Err, IfOk, List, None, Ok, Option, Result, Some, [], cond, false, find, if◌then◌else◌, is_some, map, nat_le, pos, refl, true, ℕ, ℤ, ◌+◌, ◌==◌, ◌≡◌, ◌∷◌}
use Rattle.std.specs.Ordering.{nat_cmp}
use Rattle.std.specs.declared.cmp.Ordering.{Ordering}
use Rattle.std.specs.declared.cmp.Ordering.TheVariants.{Equal, Greater, Less}
use Rattle.std.proofs.Common.{ap, arith, subst}
use Rattle.std.proofs.lemmas.Bool.Decides.{nat_tests}
use Rattle.merge_types.specs.declared.changes.Change.{Change}
use Rattle.merge_types.specs.declared.changes.Change.TheVariants.{Delete, Insert, Update}
use Rattle.merge_types.specs.declared.identifiers.Moment.{Moment}
use Rattle.merge_types.specs.declared.identifiers.RowId.{RowId}
use Rattle.merge_units.specs.declared.result.Decision.{Decision}
use Rattle.merge_ident.specs.Answers.{Answer, answer_by, answer_of, grants_after, grants_with, grants_with_all, kept_answer, next_begin, next_end, plan_of, plans_of, rule_of, ruled_answer}
use Rattle.merge_ident.specs.Grants.{granted_to, greatest_end, is_numbered, natural, with_grant}
use Rattle.merge_ident.specs.Holders.{Holder, after_receive, answer_to_take}
use Rattle.merge_ident.specs.declared.grants.Ask.{Ask}
use Rattle.merge_ident.specs.declared.grants.Grant.{Grant}
use Rattle.merge_ident.specs.declared.grants.GrantAnswer.TheVariants.{Granted, Kept, NotDue}
use Rattle.merge_ident.specs.declared.grants.IdentityFault.TheVariants.{NoRange, TooMany}
use Rattle.merge_ident.specs.declared.grants.Range.{Range}
use Rattle.merge_ident.specs.declared.grants.Rule.{Rule}
use Rattle.merge_ident.specs.declared.ranges.IdentityUsedUp.{IdentityUsedUp as IdentityEnd}
use Rattle.merge_schema.specs.Valid.{IsValid}
use Rattle.merge_schema.specs.declared.publication.Identity.{Identity}
use Rattle.merge_schema.specs.declared.publication.Publication.{Publication}
use Rattle.merge_batch.specs.Lineages.{is_site}
use Rattle.merge_batch.specs.declared.refusal.Refusal.{Refusal}
use Rattle.merge_batch.specs.declared.request.Join.{Join}
use Rattle.merge_batch.specs.declared.request.RangeAsk.{RangeAsk}
use Rattle.merge_batch.specs.declared.request.Want.{Want}
use Rattle.merge_batch.specs.declared.request.Upload.{Upload}
use Rattle.merge_keeper.specs.Start.{identity_at}
use Rattle.merge_model.specs.Publisher.Acts.{acts_of}
use Rattle.merge_model.specs.Judge.ByHistory.{by_history}
use Rattle.merge_model.specs.Failing.{Slips}
use Rattle.merge_model.specs.History.{History}
use Rattle.merge_model.specs.Judge.{PublisherJudge}
use Rattle.merge_model.specs.Tables.Keys.{at_number}
use Rattle.merge_model.specs.Tables.Publications as places
use Rattle.merge_model.specs.Tables.Publications.{identities, rules_of}
use Rattle.merge_model.specs.Publisher.{at_moment, counters, site_refusal, tables_after_close, unknown_site}
use Rattle.merge_model.specs.Publisher.PublisherDownload.{download_refusal, tables_after_download}
use Rattle.merge_model.specs.Publisher.PublisherJoin.{join_acts, join_refusal, join_taken, tables_after_join}
use Rattle.merge_model.specs.Publisher.PublisherLocal.{Drawn, after_answer, draw_for_change, drawn_from, local_refusal, made_locally, no_draw, own_ask, taken_from}
use Rattle.merge_model.specs.Publisher.PublisherRanges.{ask_by, plans, ranges_refusal, with_grants}
use Rattle.merge_model.specs.Publisher.PublisherUpload.{brings_news, tables_after_upload, taken_in, upload_refusal}
use Rattle.merge_model.specs.Tables.Refusals.{counter_end, unless}
use Rattle.merge_model.specs.Failing.Runs.{model_behind}
use Rattle.merge_model.specs.Tables.{PublisherTables}
use Rattle.merge_model.specs.World.{Saying, World}
use Rattle.merge_model.specs.declared.event.Event.{Event}
use Rattle.merge_model.proofs.Runs.Refusals.{first-none}
use Rattle.merge_laws.proofs.Runs.Ground.{grounded-always}
use Rattle.merge_stored.proofs.HeldKeys.{identities-at}
use Rattle.merge_stored.proofs.PublisherCalls.{PublisherCallsKeep, publisher-step}
use Rattle.merge_stored.proofs.PublisherConflicts.{site-known}

abbrev pub GrantIsKnown : Publication → Grant → Type 0
GrantIsKnown publication grant = (is_some (identity_at publication grant.article) ≡ true) × (is_site publication grant.site.0 ≡ true)

module _ (publication : Publication) where
  abbrev pub AllKnown : List Grant → Type 0
  AllKnown grants = AllByRecursion (GrantIsKnown publication) grants

  -- A rule is of an article with an identity column.

  rule-found : (b : Bool) (rule : Rule) (rest : Option Rule) (article : ℕ) → (rule.article == article) ≡ b → is_some (identity_at publication rule.article) ≡ true → (is_some rest ≡ true → is_some (identity_at publication article) ≡ true)
      → (let found : Option Rule = cond b (Some rule) rest in is_some found) ≡ true → is_some (identity_at publication article) ≡ true
  rule-found true rule rest article is here more there = subst (λ (k : ℕ). is_some (identity_at publication k) ≡ true) (let same : rule.article ≡ article = grind (arith, nat_tests, is) in same) here
  rule-found false rule rest article is here more there = more there

  ruled : (entries : List (ℕ × Identity)) (article : ℕ) → AllByRecursion (λ (place : ℕ × Identity). identity_at publication place.0 ≡ Some place.1) entries → is_some (rule_of (map places.rule_of entries) article) ≡ true → is_some (identity_at publication article) ≡ true
  ruled [] article all there = absurd cc
  ruled (entry ∷ entries) article all there =
      rule-found (entry.0 == article) (places.rule_of entry) (rule_of (map places.rule_of entries) article) article refl (ap (λ (found : Option Identity). is_some found) all.0) (ruled entries article all.1) there

  has-rule : (article : ℕ) → is_some (rule_of (rules_of publication) article) ≡ true → is_some (identity_at publication article) ≡ true
  has-rule article there = ruled (identities publication) article (identities-at publication) there

  -- A range is granted where the article has a rule.

  abbrev IsGrantedBy : ℕ → Answer → Type 0
  IsGrantedBy article (Ok (Granted number range)) = is_some (identity_at publication article) ≡ true
  IsGrantedBy article answer = Unit {0}

  if-granted : (article : ℕ) (b : Bool) (number : ℕ) (range : Range) (other : Answer) → is_some (identity_at publication article) ≡ true → IsGrantedBy article other → IsGrantedBy article (if b then Ok (Granted number range) else other)
  if-granted article true number range other there rest = there
  if-granted article false number range other there rest = rest

  ruled-grants : (article site number greatest : ℕ) (found : Option Rule) → rule_of (rules_of publication) article ≡ found → IsGrantedBy article (ruled_answer found site number greatest)
  ruled-grants article site number greatest None is = tt
  ruled-grants article site number greatest (Some rule) is =
      if-granted article (nat_le (next_end rule site greatest) (natural rule.greatest)) number (record { begin = pos (next_begin rule greatest); end = pos (next_end rule site greatest) }) (Err (NoRange (next_begin rule greatest) rule.greatest))
      (has-rule article (ap (λ (found : Option Rule). is_some found) is)) tt

  kept-grants : (article : ℕ) (found : Option Grant) → IsGrantedBy article (kept_answer found)
  kept-grants article None = tt
  kept-grants article (Some grant) = tt

  by-grants : (article : ℕ) (o : Ordering) (due : Bool) (kept too_many next : Answer) → IsGrantedBy article kept → IsGrantedBy article too_many → IsGrantedBy article next → IsGrantedBy article (answer_by o due kept too_many next)
  by-grants article Less due kept too_many next one two three = one
  by-grants article Greater due kept too_many next one two three = two
  by-grants article Equal false kept too_many next one two three = tt
  by-grants article Equal true kept too_many next one two three = three

  answer-grants : (grants : List Grant) (ask : Ask) → IsGrantedBy ask.article (answer_of (rules_of publication) grants ask)
  answer-grants grants ask = by-grants ask.article (nat_cmp ask.have (granted_to ask.article ask.site.0 grants)) ask.due
      (kept_answer (find (is_numbered ask.article ask.site.0 (ask.have + 1)) grants)) (Err (TooMany (granted_to ask.article ask.site.0 grants))) (ruled_answer (rule_of (rules_of publication) ask.article) ask.site.0 (ask.have + 1) (greatest_end ask.article grants))
      (kept-grants ask.article (find (is_numbered ask.article ask.site.0 (ask.have + 1)) grants)) tt (ruled-grants ask.article ask.site.0 (ask.have + 1) (greatest_end ask.article grants) (rule_of (rules_of publication) ask.article) refl)

  -- One more grant.

  with-by : (b : Bool) (grant new : Grant) (grants rest : List Grant) → GrantIsKnown publication new → AllKnown (grant ∷ grants) → AllKnown rest → AllKnown (if b then grant ∷ rest else new ∷ grant ∷ grants)
  with-by true grant new grants rest here all more = (all.0, more)
  with-by false grant new grants rest here all more = (here, all)

  with-known : (grants : List Grant) (new : Grant) → GrantIsKnown publication new → AllKnown grants → AllKnown (with_grant grants new)
  with-known [] new here all = (here, tt)
  with-known (grant ∷ grants) new here all = with-by (nat_le grant.article new.article) grant new grants (with_grant grants new) here all (with-known grants new here all.1)

  after-known : (grants : List Grant) (ask : Ask) (answer : Answer) → is_site publication ask.site.0 ≡ true → IsGrantedBy ask.article answer → AllKnown grants → AllKnown (grants_after grants ask answer)
  after-known grants ask (Ok (Granted number range)) site there all = with-known grants (record { article = ask.article; site = ask.site; number = number; range = range }) (there, site) all
  after-known grants ask (Ok (Kept number range)) site there all = all
  after-known grants ask (Ok NotDue) site there all = all
  after-known grants ask (Err fault) site there all = all

  plans-known : (grants : List Grant) (asks : List Ask) → AllByRecursion (λ (ask : Ask). is_site publication ask.site.0 ≡ true) asks → AllKnown grants → AllKnown (grants_with_all grants (plans_of (rules_of publication) grants asks))
  plans-known grants [] sites all = all
  plans-known grants (ask ∷ asks) sites all = plans-known (grants_with grants (plan_of (rules_of publication) grants ask)) asks sites.1 (after-known grants ask (answer_of (rules_of publication) grants ask) sites.0 (answer-grants grants ask) all)

  asks-of : (m : RangeAsk) (site : is_site publication m.site.0 ≡ true) → AllByRecursion (λ (ask : Ask). is_site publication ask.site.0 ≡ true) (map (ask_by m.site) m.wants)
  asks-of m site = each m.wants
    where
      each : (wants : List Want) → AllByRecursion (λ (ask : Ask). is_site publication ask.site.0 ≡ true) (map (ask_by m.site) wants)
      each [] = tt
      each (want ∷ wants) = (site, each wants)

  -- The walk.

  abbrev pub P : PublisherTables → Type 0
  P p = AllKnown p.grants

  from-known : (p : PublisherTables) (grants : List Grant) (article : ℕ) (holder : Holder) (result : Result ℤ IdentityEnd) → AllKnown grants → IfOk (taken_from p grants article holder result) (λ d. AllKnown d.grants)
  from-known p grants article holder (Ok value) all = all
  from-known p grants article holder (Err used_up) all = tt

  answered-known : (p : PublisherTables) (article : ℕ) (holder : Holder) (answer : Answer) → IsGrantedBy article answer → P p → IfOk (after_answer p article holder answer) (λ d. AllKnown d.grants)
  answered-known p article holder (Ok (Granted number range)) there all =
      from-known p (grants_after p.grants (own_ask p article) (Ok (Granted number range))) article (after_receive holder range) (answer_to_take (after_receive holder range)) (after-known p.grants (own_ask p article) (Ok (Granted number range)) refl there all)
  answered-known p article holder (Ok (Kept number range)) there all = from-known p p.grants article holder (answer_to_take holder) all
  answered-known p article holder (Ok NotDue) there all = from-known p p.grants article holder (answer_to_take holder) all
  answered-known p article holder (Err fault) there all = from-known p p.grants article holder (answer_to_take holder) all

  drawn-known : (p : PublisherTables) (article : ℕ) (holder : Holder) (result : Result ℤ IdentityEnd) → P p → IfOk (drawn_from publication p article holder result) (λ d. AllKnown d.grants)
  drawn-known p article holder (Ok value) all = from-known p p.grants article holder (Ok value) all
  drawn-known p article holder (Err used_up) all = answered-known p article holder (answer_of (rules_of publication) p.grants (own_ask p article)) (answer-grants p.grants (own_ask p article)) all

  found-known : (p : PublisherTables) (article : ℕ) (found : Option Holder) → P p
      → (let draw : Result Drawn Refusal = elim found [ None ↦ Ok (no_draw p) | Some holder ↦ drawn_from publication p article holder (answer_to_take holder) ] in IfOk draw (λ d. AllKnown d.grants))
  found-known p article None all = all
  found-known p article (Some holder) all = drawn-known p article holder (answer_to_take holder) all

  draw-known : (p : PublisherTables) (change : Change) → P p → IfOk (draw_for_change publication p change) (λ d. AllKnown d.grants)
  draw-known p (Insert article settings) all = found-known p article (at_number p.held article) all
  draw-known p (Update article row settings) all = all
  draw-known p (Delete article row) all = all

  unless-p : {A : Type 0} (refusal : Option Refusal) (q : PublisherTables) (a : A) → (refusal ≡ None → P q) → (let done : Result (PublisherTables × A) Refusal = unless refusal (q, a) in IfOk done (λ x. P x.0))
  unless-p (Some why) q a is = tt
  unless-p None q a is = is refl

  drawn-on : (judge : PublisherJudge) (now : Moment) (change : Change) (p : PublisherTables) (draw : Result Drawn Refusal) → IfOk draw (λ d. AllKnown d.grants)
      → (let done : Result (PublisherTables × RowId) Refusal = elim draw [ Err refusal ↦ Err refusal | Ok d ↦ Ok (made_locally publication judge change d (at_moment now p)) ] in IfOk done (λ x. P x.0))
  drawn-on judge now change p (Err refusal) all = tt
  drawn-on judge now change p (Ok d) all = all

  local-on : (judge : PublisherJudge) (now : Moment) (change : Change) (p : PublisherTables) (found : Option Refusal) → P p
      → (let done : Result (PublisherTables × RowId) Refusal = elim found [ Some refusal ↦ Err refusal | None ↦ elim (draw_for_change publication p change) [ Err refusal ↦ Err refusal | Ok d ↦ Ok (made_locally publication judge change d (at_moment now p)) ] ] in IfOk done (λ x. P x.0))
  local-on judge now change p (Some refusal) all = tt
  local-on judge now change p None all = drawn-on judge now change p (draw_for_change publication p change) (draw-known p change all)

  upload-on : (judge : PublisherJudge) (m : Upload) (decisions : List Decision) (p : PublisherTables) (b : Bool) → P p → P (if b then taken_in publication judge m (acts_of judge m decisions p) p else p)
  upload-on judge m decisions p true all = all
  upload-on judge m decisions p false all = all

  join-on : (m : Join) (p : PublisherTables) (b : Bool) → P p → P (if b then join_taken m p else p)
  join-on m p true all = all
  join-on m p false all = all

  ranges-on : (judge : PublisherJudge) (now : Moment) (m : RangeAsk) (p : PublisherTables) → P p → ranges_refusal publication judge now m p ≡ None → P (with_grants (plans publication m p) (at_moment now p))
  ranges-on judge now m p all fine =
      let passed = first-none (site_refusal publication m.site m.seq now p) _ fine in
      let known = first-none (unknown_site publication m.site) _ passed.0 in
      plans-known p.grants (map (ask_by m.site) m.wants) (asks-of m (site-known publication m.site known.0)) all

  pub grants-keep : PublisherCallsKeep publication P
  grants-keep = record {
    of_local = λ judge now change p all. local-on judge now change p (local_refusal publication change p) all;
    of_close = λ now p all. unless-p (counter_end (counters p)) (tables_after_close (at_moment now p)) _ (λ fine. all);
    of_join = λ now m p all. unless-p (join_refusal publication m p) (tables_after_join m (at_moment now p)) _ (λ fine. join-on m (at_moment now p) (join_acts m (at_moment now p)) all);
    of_upload = λ judge now m decisions p all. unless-p (upload_refusal publication judge now m p) (tables_after_upload publication judge m decisions (at_moment now p)) _ (λ fine. upload-on judge m decisions (at_moment now p) (brings_news judge m) all);
    of_ranges = λ judge now m p all. unless-p (ranges_refusal publication judge now m p) (with_grants (plans publication m p) (at_moment now p)) _ (λ fine. ranges-on judge now m p all fine);
    of_ask = λ judge now m p all. unless-p (download_refusal publication now m p) (tables_after_download m (at_moment now p)) _ (λ fine. all);
    of_purge = λ now p all. all;
  }

  pub grants-known : (says : Saying) (tallies : List ℕ) (slips : Slips) (events : List Event) → (resolvers : ℕ) × IsValid resolvers publication → P (model_behind publication says tallies slips events).world.publisher
  grants-known says tallies slips events valid =
      (grounded-always publication says tallies slips events valid (λ (w : World) (h : History). P w.publisher) (λ m action g all. publisher-step publication P m.world all grants-keep says (by_history m.history) action)
      (λ w h others all. all) tt).1
