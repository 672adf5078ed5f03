-- What the publisher received is what it granted to itself, and it holds none or the last, after every list of events.
use Rattle.std.specs.List.{AllByRecursion}
use Rattle.std.specs.Prelude.{Bool, Err, IfOk, List, None, Ok, Option, Result, Some, [], cond, false, find, if◌then◌else◌, map, refl, true, ℕ, ℤ, ◌+◌, ◌==◌, ◌≡◌, ◌∷◌}
use Rattle.std.specs.Ordering.{nat_cmp}
use Rattle.std.proofs.Common.{ap, arith, subst}
use Rattle.std.proofs.lemmas.Bool.Decides.{nat_tests}
use Rattle.merge_types.specs.declared.changes.Change.{Change}
use Rattle.merge_types.specs.declared.changes.Change.TheVariants.{Delete, Insert, Update}
use Rattle.merge_types.specs.declared.identifiers.Moment.{Moment}
use Rattle.merge_types.specs.declared.identifiers.RowId.{RowId}
use Rattle.merge_units.specs.declared.result.Decision.{Decision}
use Rattle.merge_ident.specs.Answers.{Answer, answer_of, grants_after, grants_with, grants_with_all, plan_of, plans_of}
use Rattle.merge_ident.specs.Grants.{granted_to, is_numbered, with_grant}
use Rattle.merge_ident.specs.Holders.{Holder, after_receive, answer_to_take}
use Rattle.merge_ident.specs.declared.grants.Ask.{Ask}
use Rattle.merge_ident.specs.declared.grants.Grant.{Grant}
use Rattle.merge_ident.specs.declared.grants.GrantAnswer.TheVariants.{Granted, Kept, NotDue}
use Rattle.merge_ident.specs.declared.grants.Rule.{Rule}
use Rattle.merge_ident.specs.declared.ranges.IdentityUsedUp.{IdentityUsedUp as IdentityEnd}
use Rattle.merge_schema.specs.Valid.{IsValid}
use Rattle.merge_schema.specs.declared.publication.Identity.{Identity}
use Rattle.merge_schema.specs.declared.publication.Publication.{Publication}
use Rattle.merge_batch.specs.declared.refusal.Refusal.{Refusal}
use Rattle.merge_batch.specs.declared.request.Join.{Join}
use Rattle.merge_batch.specs.declared.request.RangeAsk.{RangeAsk}
use Rattle.merge_batch.specs.declared.request.Want.{Want}
use Rattle.merge_batch.specs.declared.request.Upload.{Upload}
use Rattle.merge_model.specs.Publisher.Acts.{acts_of}
use Rattle.merge_model.specs.Judge.ByHistory.{by_history}
use Rattle.merge_model.specs.History.{History}
use Rattle.merge_model.specs.Judge.{PublisherJudge}
use Rattle.merge_model.specs.Tables.Keys.{at_number}
use Rattle.merge_model.specs.Tables.Publications.{identities, rules_of}
use Rattle.merge_model.specs.Publisher.{at_moment, counters, site_refusal, tables_after_close, unknown_site}
use Rattle.merge_model.specs.Publisher.PublisherDownload.{download_refusal, tables_after_download}
use Rattle.merge_model.specs.Publisher.PublisherJoin.{join_acts, join_refusal, join_taken, tables_after_join}
use Rattle.merge_model.specs.Publisher.PublisherLocal.{Drawn, after_answer, draw_for_change, drawn_from, local_refusal, made_locally, no_draw, own_ask, taken_from}
use Rattle.merge_model.specs.Publisher.PublisherRanges.{ask_by, plans, ranges_refusal, with_grants}
use Rattle.merge_model.specs.Publisher.PublisherUpload.{brings_news, tables_after_upload, taken_in, upload_refusal}
use Rattle.merge_model.specs.Tables.Refusals.{counter_end, unless}
use Rattle.merge_model.specs.Tables.{PublisherTables}
use Rattle.merge_model.specs.World.{World}
use Rattle.merge_model.proofs.Runs.Refusals.{first-none}
use Rattle.merge_laws.proofs.Runs.Ground.{grounded-always}
use Rattle.merge_stored.proofs.PublisherCalls.{PublisherCallsKeep, publisher-step}
use Rattle.std.specs.Option.{option_map, option_or}
use Rattle.std.specs.Prelude.{All, count_by, not, ◌||◌, ◌≤◌}
use Rattle.std.specs.List.{list_any}
use Rattle.std.specs.BTreeMap.{is_at}
use Rattle.std.proofs.Common.{sym, ◌∙◌}
use Rattle.std.proofs.lemmas.List.Elements.{All-head, All-tail}
use Rattle.merge_ident.specs.Answers.{new_grant}
use Rattle.merge_ident.specs.Books.{IsBook, IsNext, IsNextIfAny}
use Rattle.merge_ident.specs.Grants.{AreNumbered, is_of}
use Rattle.merge_ident.specs.Holders.{Received, after_take, answer_by_held, has_values, held_after_receive, held_after_take, new_holder, used_once_more}
use Rattle.merge_ident.proofs.Added.{count_by-with_grant, find-none_counted, find-with_grants, find-with_other}
use Rattle.merge_ident.proofs.Plans.{answer_follows, book-with_plan}
use Rattle.merge_ident.proofs.Stored.{no_grants}
use Rattle.merge_schema.specs.Places.{is_subscription}
use Rattle.merge_schema.specs.Valid.{IsValidSubscription}
use Rattle.merge_schema.specs.declared.publication.Subscription.{Subscription}
use Rattle.merge_batch.specs.declared.refusal.Refusal.TheVariants.{UnknownSite}
use Rattle.merge_model.specs.Tables.Keys.{put_number}
use Rattle.merge_model.specs.Publisher.{holder_for, new_holders}
use Rattle.merge_model.proofs.Lists.Finding.{at_put_other, at_put_same, some_same}
use Rattle.merge_laws.specs.Laws.{OfEveryValidRun}
use Rattle.merge_laws.proofs.Received.Arrivals.{not-refused}
use Rattle.merge_laws.proofs.Runs.ValidRules.{valid-rules}
use Rattle.merge_honest.proofs.RangeAnswers.{plans-book}
use Rattle.merge_stored.specs.Own.{HoldsLast, OwnAreHeld, OwnIsHeld}

abbrev counted : Bool → ℕ
counted b = cond b 1 0

-- A grant to another site, or of another article, leaves what the publisher has.

last-on : (grants more : List Grant) (article number : ℕ) (held : List Received) → find (is_numbered article 0 number) more ≡ find (is_numbered article 0 number) grants → HoldsLast grants article number held → HoldsLast more article number held
last-on grants more article number [] same last = tt
last-on grants more article number (first ∷ []) same last = ap (λ (found : Option Grant). option_map (λ (grant : Grant). grant.range) found) same ∙ last
last-on grants more article number (first ∷ next ∷ rest) same last = absurd last

own-on : (grants : List Grant) (new : Grant) (article : ℕ) (holder : Holder) → is_of article 0 new ≡ false → OwnIsHeld grants article holder → OwnIsHeld (with_grant grants new) article holder
own-on grants new article holder other own =
    let more : granted_to article 0 (with_grant grants new) ≡ counted (is_of article 0 new) + granted_to article 0 grants = count_by-with_grant (is_of article 0) new grants in
    let plain : counted (is_of article 0 new) ≡ 0 = ap counted other in
    let have = own.have in
    let numbered : is_numbered article 0 holder.have new ≡ false = grind (arith, other) in
    record {
      have = omega (arith, more, plain, have);
      last = last-on grants (with_grant grants new) article holder.have holder.held (find-with_other (is_numbered article 0 holder.have) new grants numbered) own.last;
    }

abbrev pub Held : List Grant → List (ℕ × Holder) → Type 0
Held grants held = (article : ℕ) (holder : Holder) → at_number held article ≡ Some holder → OwnIsHeld grants article holder

after-held : (grants : List Grant) (ask : Ask) (answer : Answer) (held : List (ℕ × Holder)) → (ask.site.0 == 0) ≡ false → Held grants held → Held (grants_after grants ask answer) held
after-held grants ask (Ok (Granted number range)) held other own = λ article holder at.
    own-on grants (record { article = ask.article; site = ask.site; number = number; range = range }) article holder (grind (arith, other)) (own article holder at)
after-held grants ask (Ok (Kept number range)) held other own = own
after-held grants ask (Ok NotDue) held other own = own
after-held grants ask (Err fault) held other own = own

plans-held : (rules : List Rule) (grants : List Grant) (asks : List Ask) (held : List (ℕ × Holder)) → AllByRecursion (λ (ask : Ask). (ask.site.0 == 0) ≡ false) asks → Held grants held → Held (grants_with_all grants (plans_of rules grants asks)) held
plans-held rules grants [] held others own = own
plans-held rules grants (ask ∷ asks) held others own =
    plans-held rules (grants_with grants (plan_of rules grants ask)) asks held others.1 (after-held grants ask (answer_of rules grants ask) held others.0 own)

-- A value that is taken leaves the range, or drops it.

take-by : (b : Bool) (grants : List Grant) (article number : ℕ) (first : Received) → HoldsLast grants article number (first ∷ []) → HoldsLast grants article number (cond b (used_once_more first ∷ []) [])
take-by true grants article number first last = last
take-by false grants article number first last = tt

take-last : (grants : List Grant) (article number : ℕ) (held : List Received) → HoldsLast grants article number held → HoldsLast grants article number (held_after_take held)
take-last grants article number [] last = tt
take-last grants article number (first ∷ []) last = take-by (has_values (used_once_more first)) grants article number first last
take-last grants article number (first ∷ next ∷ rest) last = absurd last

take-own : (grants : List Grant) (article : ℕ) (holder : Holder) → OwnIsHeld grants article holder → OwnIsHeld grants article (after_take holder)
take-own grants article holder own = record { have = own.have; last = take-last grants article holder.have holder.held own.last }

abbrev Others : List Grant → List (ℕ × Holder) → ℕ → Type 0
Others grants held article = (q : ℕ) (holder : Holder) → (q == article) ≡ false → at_number held q ≡ Some holder → OwnIsHeld grants q holder

put-by : (b : Bool) (grants : List Grant) (held : List (ℕ × Holder)) (article q : ℕ) (new holder : Holder) → (q == article) ≡ b → OwnIsHeld grants article new → Others grants held article → at_number (put_number held article new) q ≡ Some holder → OwnIsHeld grants q holder
put-by true grants held article q new holder is here others at =
    let same : q ≡ article = grind (arith, nat_tests, is) in
    let found : at_number (put_number held article new) article ≡ Some holder = subst (λ (k : ℕ). at_number (put_number held article new) k ≡ Some holder) same at in
    subst (λ (k : ℕ). OwnIsHeld grants k holder) (sym same) (subst (λ (x : Holder). OwnIsHeld grants article x) (some_same new holder (sym (at_put_same article new held) ∙ found)) here)
put-by false grants held article q new holder is here others at =
    others q holder is (sym (at_put_other article q new held (λ same. grind (arith, nat_tests, is, same))) ∙ at)

put-held : (grants : List Grant) (held : List (ℕ × Holder)) (article : ℕ) (new : Holder) → OwnIsHeld grants article new → Others grants held article → Held grants (put_number held article new)
put-held grants held article new here others = λ q holder at. put-by (q == article) grants held article q new holder refl here others at

-- A range that the publisher grants itself is the last, and the only one that it holds.

none-held : (last_end : ℤ) (held : List Received) (used_up : IdentityEnd) → answer_by_held last_end held ≡ Err used_up → held ≡ []
none-held last_end [] used_up is = refl
none-held last_end (first ∷ rest) used_up is = absurd cc

granted-own : (grants : List Grant) (new : Grant) (holder : Holder) → AreNumbered grants → IsNext grants new → new.site.0 ≡ 0 → holder.held ≡ [] → OwnIsHeld grants new.article holder → OwnIsHeld (with_grant grants new) new.article (after_receive holder new.range)
granted-own grants new holder numbered next mine none own =
    let article : ℕ = new.article in
    let number : ℕ = holder.have + 1 in
    let have = own.have in
    let next_is : new.number ≡ granted_to article 0 grants + 1 = subst (λ (k : ℕ). new.number ≡ granted_to article k grants + 1) mine next.number in
    let is : is_of article 0 new ≡ true = grind (arith, nat_tests, mine) in
    let here : is_numbered article 0 number new ≡ true = grind (arith, nat_tests, is, next_is, have) in
    let more : granted_to article 0 (with_grant grants new) ≡ counted (is_of article 0 new) + granted_to article 0 grants = count_by-with_grant (is_of article 0) new grants in
    let one : counted (is_of article 0 new) ≡ 1 = ap counted is in
    let fresh : count_by (is_numbered article 0 number) grants ≡ 0 = grind (arith, nat_tests, numbered article 0 number, have) in
    let after : count_by (is_numbered article 0 number) (with_grant grants new) ≡ counted (is_numbered article 0 number new) + count_by (is_numbered article 0 number) grants = count_by-with_grant (is_numbered article 0 number) new grants in
    let single : counted (is_numbered article 0 number new) ≡ 1 = ap counted here in
    let alone : count_by (is_numbered article 0 number) (with_grant grants new) ≤ 1 = omega (arith, after, single, fresh) in
    let found : find (is_numbered article 0 number) (with_grant grants new) ≡ Some new =
    find-with_grants (is_numbered article 0 number) grants (new ∷ []) alone
    ∙ ap (λ (o : Option Grant). option_or o (find (is_numbered article 0 number) (new ∷ []))) (find-none_counted (is_numbered article 0 number) grants fresh)
    ∙ ap (λ (b : Bool). (let o : Option Grant = cond b (Some new) None in o)) here in
    record {
      have = omega (arith, more, one, have);
      last = subst (λ (held : List Received). HoldsLast (with_grant grants new) article number (held_after_receive held new.range)) (sym none) (ap (λ (o : Option Grant). option_map (λ (grant : Grant). grant.range) o) found);
    }

-- A site that subscribes is another one.

first-or : (site other : ℕ) (b rest : Bool) → (other == site) ≡ b → (b || rest) ≡ true → 1 ≤ other → (rest ≡ true → 1 ≤ site) → 1 ≤ site
first-or site other true rest is some high more = (let same : other ≡ site = grind (arith, nat_tests, is) in omega (arith, same, high))
first-or site other false rest is some high more = more some

subscribed-high : (subscriptions : List Subscription) (site : ℕ) → All (λ (s : Subscription). IsValidSubscription s) subscriptions → list_any (λ (s : Subscription). s.site.0 == site) subscriptions ≡ true → 1 ≤ site
subscribed-high [] site valid some = absurd cc
subscribed-high (s ∷ subscriptions) site valid some =
    first-or site s.site.0 (s.site.0 == site) (list_any (λ (x : Subscription). x.site.0 == site) subscriptions) refl some (All-head (λ (x : Subscription). IsValidSubscription x) s subscriptions valid).valid_site.0
    (λ later. subscribed-high subscriptions site (All-tail (λ (x : Subscription). IsValidSubscription x) s subscriptions valid) later)

-- Nothing is held in the beginning.

abbrev IsNew : Holder → Type 0
IsNew holder = (holder.have ≡ 0) × (holder.held ≡ [])

new-by : (b : Bool) (first holder : Holder) (rest : Option Holder) → IsNew first → (rest ≡ Some holder → IsNew holder) → (let found : Option Holder = cond b (Some first) rest in found) ≡ Some holder → IsNew holder
new-by true first holder rest here more at = subst IsNew (some_same first holder at) here
new-by false first holder rest here more at = more at

found-new : (places : List (ℕ × Identity)) (article : ℕ) (holder : Holder) → at_number (map holder_for places) article ≡ Some holder → IsNew holder
found-new [] article holder at = absurd cc
found-new (place ∷ places) article holder at = new-by (is_at (nat_cmp article) place.0) (new_holder place.1.threshold) holder (at_number (map holder_for places) article) (refl, refl) (found-new places article holder) at

new-held : (publication : Publication) → Held [] (new_holders publication)
new-held publication = λ article holder at. (let new = found-new (identities publication) article holder at in record {
  have = new.0;
  last = subst (λ (held : List Received). HoldsLast [] article holder.have held) (sym new.1) tt;
})

module _ (publication : Publication) where
  abbrev pub Own : List Grant → List (ℕ × Holder) → Type 0
  Own grants held = IsBook (rules_of publication) grants × Held grants held

  abbrev pub P : PublisherTables → Type 0
  P p = Own p.grants p.held

  from-own : (p : PublisherTables) (grants : List Grant) (article : ℕ) (new : Holder) (result : Result ℤ IdentityEnd) → IsBook (rules_of publication) grants → OwnIsHeld grants article new → Others grants p.held article
      → IfOk (taken_from p grants article new result) (λ d. Own d.grants d.held)
  from-own p grants article new (Ok value) book here others = (book, put-held grants p.held article (after_take new) (take-own grants article new here) others)
  from-own p grants article new (Err used_up) book here others = tt

  answered-own : (p : PublisherTables) (article : ℕ) (holder : Holder) (answer : Answer) → holder.held ≡ [] → at_number p.held article ≡ Some holder → answer_of (rules_of publication) p.grants (own_ask p article) ≡ answer → P p
      → IfOk (after_answer p article holder answer) (λ d. Own d.grants d.held)
  answered-own p article holder (Ok (Granted number range)) none at is own =
      let ask : Ask = own_ask p article in
      let new : Grant = record { article = article; site = record { 0 = 0 }; number = number; range = range } in
      let book : IsBook (rules_of publication) (with_grant p.grants new) = subst (λ (answer : Answer). IsBook (rules_of publication) (grants_after p.grants ask answer)) is (book-with_plan (rules_of publication) p.grants ask own.0) in
      let next : IsNext p.grants new = subst (λ (answer : Answer). IsNextIfAny p.grants (new_grant ask answer)) is (answer_follows (rules_of publication) p.grants ask own.0) in
      from-own p (with_grant p.grants new) article (after_receive holder range) (answer_to_take (after_receive holder range)) book
      (granted-own p.grants new holder own.0.grants_fit.numbered next refl none (own.1 article holder at))
      (λ q other differs there. own-on p.grants new q other (grind (arith, nat_tests, differs)) (own.1 q other there))
  answered-own p article holder (Ok (Kept number range)) none at is own = from-own p p.grants article holder (answer_to_take holder) own.0 (own.1 article holder at) (λ q other differs there. own.1 q other there)
  answered-own p article holder (Ok NotDue) none at is own = from-own p p.grants article holder (answer_to_take holder) own.0 (own.1 article holder at) (λ q other differs there. own.1 q other there)
  answered-own p article holder (Err fault) none at is own = from-own p p.grants article holder (answer_to_take holder) own.0 (own.1 article holder at) (λ q other differs there. own.1 q other there)

  drawn-own : (p : PublisherTables) (article : ℕ) (holder : Holder) (result : Result ℤ IdentityEnd) → answer_to_take holder ≡ result → at_number p.held article ≡ Some holder → P p
      → IfOk (drawn_from publication p article holder result) (λ d. Own d.grants d.held)
  drawn-own p article holder (Ok value) is at own = from-own p p.grants article holder (Ok value) own.0 (own.1 article holder at) (λ q other differs there. own.1 q other there)
  drawn-own p article holder (Err used_up) is at own =
      answered-own p article holder (answer_of (rules_of publication) p.grants (own_ask p article)) (none-held holder.last_end holder.held used_up is) at refl own

  found-own : (p : PublisherTables) (article : ℕ) (found : Option Holder) → at_number p.held article ≡ found → P p
      → (let draw : Result Drawn Refusal = elim found [ None ↦ Ok (no_draw p) | Some holder ↦ drawn_from publication p article holder (answer_to_take holder) ] in IfOk draw (λ d. Own d.grants d.held))
  found-own p article None at own = own
  found-own p article (Some holder) at own = drawn-own p article holder (answer_to_take holder) refl at own

  draw-own : (p : PublisherTables) (change : Change) → P p → IfOk (draw_for_change publication p change) (λ d. Own d.grants d.held)
  draw-own p (Insert article settings) own = found-own p article (at_number p.held article) refl own
  draw-own p (Update article row settings) own = own
  draw-own p (Delete article row) own = own

  unless-p : {A : Type 0} (refusal : Option Refusal) (q : PublisherTables) (a : A) → (refusal ≡ None → P q) → (let done : Result (PublisherTables × A) Refusal = unless refusal (q, a) in IfOk done (λ x. P x.0))
  unless-p (Some why) q a is = tt
  unless-p None q a is = is refl

  drawn-on : (judge : PublisherJudge) (now : Moment) (change : Change) (p : PublisherTables) (draw : Result Drawn Refusal) → IfOk draw (λ d. Own d.grants d.held)
      → (let done : Result (PublisherTables × RowId) Refusal = elim draw [ Err refusal ↦ Err refusal | Ok d ↦ Ok (made_locally publication judge change d (at_moment now p)) ] in IfOk done (λ x. P x.0))
  drawn-on judge now change p (Err refusal) own = tt
  drawn-on judge now change p (Ok d) own = own

  local-on : (judge : PublisherJudge) (now : Moment) (change : Change) (p : PublisherTables) (found : Option Refusal) → P p
      → (let done : Result (PublisherTables × RowId) Refusal = elim found [ Some refusal ↦ Err refusal | None ↦ elim (draw_for_change publication p change) [ Err refusal ↦ Err refusal | Ok d ↦ Ok (made_locally publication judge change d (at_moment now p)) ] ] in IfOk done (λ x. P x.0))
  local-on judge now change p (Some refusal) own = tt
  local-on judge now change p None own = drawn-on judge now change p (draw_for_change publication p change) (draw-own p change own)

  upload-on : (judge : PublisherJudge) (m : Upload) (decisions : List Decision) (p : PublisherTables) (b : Bool) → P p → P (if b then taken_in publication judge m (acts_of judge m decisions p) p else p)
  upload-on judge m decisions p true own = own
  upload-on judge m decisions p false own = own

  join-on : (m : Join) (p : PublisherTables) (b : Bool) → P p → P (if b then join_taken m p else p)
  join-on m p true own = own
  join-on m p false own = own

  asks-others : (m : RangeAsk) (wants : List Want) → (m.site.0 == 0) ≡ false → AllByRecursion (λ (ask : Ask). (ask.site.0 == 0) ≡ false) (map (ask_by m.site) wants)
  asks-others m [] other = tt
  asks-others m (want ∷ wants) other = (other, asks-others m wants other)

  module _ (resolvers : ℕ) (valid : IsValid resolvers publication) where
    ranges-on : (judge : PublisherJudge) (now : Moment) (m : RangeAsk) (p : PublisherTables) → P p → ranges_refusal publication judge now m p ≡ None → P (with_grants (plans publication m p) (at_moment now p))
    ranges-on judge now m p own fine =
        let passed = first-none (site_refusal publication m.site m.seq now p) _ fine in
        let known = first-none (unknown_site publication m.site) _ passed.0 in
        let subscribes : is_subscription publication m.site.0 ≡ true = grind (arith, not-refused (not (is_subscription publication m.site.0)) (UnknownSite m.site) known.0) in
        let high : 1 ≤ m.site.0 = subscribed-high publication.subscriptions m.site.0 valid.valid_subscriptions subscribes in
        let asks : List Ask = map (ask_by m.site) m.wants in
        (plans-book (rules_of publication) p.grants asks own.0, plans-held (rules_of publication) p.grants asks p.held (asks-others m m.wants (grind (arith, nat_tests, high))) own.1)

    pub own-keep : PublisherCallsKeep publication P
    own-keep = record {
      of_local = λ judge now change p own. local-on judge now change p (local_refusal publication change p) own;
      of_close = λ now p own. unless-p (counter_end (counters p)) (tables_after_close (at_moment now p)) _ (λ fine. own);
      of_join = λ now m p own. unless-p (join_refusal publication m p) (tables_after_join m (at_moment now p)) _ (λ fine. join-on m (at_moment now p) (join_acts m (at_moment now p)) own);
      of_upload = λ judge now m decisions p own. unless-p (upload_refusal publication judge now m p) (tables_after_upload publication judge m decisions (at_moment now p)) _ (λ fine. upload-on judge m decisions (at_moment now p) (brings_news judge m) own);
      of_ranges = λ judge now m p own. unless-p (ranges_refusal publication judge now m p) (with_grants (plans publication m p) (at_moment now p)) _ (λ fine. ranges-on judge now m p own fine);
      of_ask = λ judge now m p own. unless-p (download_refusal publication now m p) (tables_after_download m (at_moment now p)) _ (λ fine. own);
      of_purge = λ now p own. own;
    }

pub own-held : OfEveryValidRun OwnAreHeld
own-held resolvers publication valid says tallies slips events =
    (grounded-always publication says tallies slips events (resolvers, valid) (λ (w : World) (h : History). P publication w.publisher)
    (λ m action g own. publisher-step publication (P publication) m.world own (own-keep publication resolvers valid) says (by_history m.history) action)
    (λ w h others own. own)
    (record { rules_fit = valid-rules resolvers publication valid; grants_fit = no_grants; in_order = tt }, new-held publication)).1.1
