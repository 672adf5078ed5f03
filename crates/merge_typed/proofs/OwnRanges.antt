-- The publisher's grants and what it holds of its own fit: its calls keep it, and the identity values that it takes fit too.
use Rattle.std.specs.BTreeMap.{is_at}
use Rattle.std.specs.Int.{w64}
use Rattle.std.specs.List.{AllByRecursion}
use Rattle.std.specs.Map.{lookup}
use Rattle.std.specs.Ordering.{nat_cmp}
use Rattle.std.specs.Prelude.{Bool, Err, FitsSigned, IfOk, List, None, Ok, Option, Result, Some, [], cond, false, if◌then◌else◌, map, max, refl, true, ℕ, ℤ, ◌&&◌, ◌+◌, ◌==◌, ◌≡◌, ◌≤◌, ◌∷◌}
use Rattle.std.specs.declared.cmp.Ordering.TheVariants.{Equal}
use Rattle.std.proofs.Common.{arith, subst}
use Rattle.std.proofs.lemmas.Bool.Decides.{nat_tests}
use Rattle.merge_types.specs.declared.changes.Change.{Change}
use Rattle.merge_types.specs.declared.changes.Change.TheVariants.{Delete, Insert, Update}
use Rattle.merge_types.specs.declared.identifiers.Moment.{Moment}
use Rattle.merge_units.specs.declared.result.Decision.{Decision}
use Rattle.merge_ident.specs.Answers.{Answer, answer_of, grants_after, new_grant}
use Rattle.merge_ident.specs.Books.{IsNextIfAny}
use Rattle.merge_ident.specs.Grants.{granted_to, is_of, with_grant}
use Rattle.merge_ident.specs.Holders.{HasValues, Holder, after_receive, after_take, answer_to_take}
use Rattle.merge_ident.specs.declared.grants.Ask.{Ask}
use Rattle.merge_ident.specs.declared.grants.Grant.{Grant}
use Rattle.merge_ident.specs.declared.grants.GrantAnswer.TheVariants.{Granted, Kept, NotDue}
use Rattle.merge_ident.specs.declared.grants.GrantPlan.{GrantPlan}
use Rattle.merge_ident.specs.declared.ranges.IdentityUsedUp.{IdentityUsedUp as IdentityEnd}
use Rattle.merge_ident.specs.declared.grants.Range.{Range}
use Rattle.merge_ident.specs.declared.grants.Rule.{Rule}
use Rattle.merge_ident.proofs.Added.{count_by-with_grant}
use Rattle.merge_ident.proofs.Plans.{answer_follows}
use Rattle.merge_schema.specs.declared.publication.Publication.{Publication}
use Rattle.merge_batch.specs.declared.refusal.Refusal.{Refusal}
use Rattle.merge_batch.specs.declared.reply.Downloaded.{Downloaded}
use Rattle.merge_batch.specs.declared.reply.Joined.{Joined}
use Rattle.merge_batch.specs.declared.reply.Ranged.{Ranged}
use Rattle.merge_batch.specs.declared.reply.Uploaded.{Uploaded}
use Rattle.merge_batch.specs.declared.request.Download.{Download}
use Rattle.merge_batch.specs.declared.request.Join.{Join}
use Rattle.merge_batch.specs.declared.request.RangeAsk.{RangeAsk}
use Rattle.merge_batch.specs.declared.request.Upload.{Upload}
use Rattle.merge_record.specs.Versions.{IsValue}
use Rattle.merge_model.specs.Publisher.Acts.{acts_of}
use Rattle.merge_model.specs.Judge.{PublisherJudge}
use Rattle.merge_model.specs.Tables.Keys.{at_number, put_number}
use Rattle.merge_model.specs.Tables.Publications.{rules_of}
use Rattle.merge_model.specs.Publisher.{at_moment, close_generation, counters, last_closed, tables_after_close}
use Rattle.merge_model.specs.Publisher.PublisherDownload.{download, download_refusal, reply_to, tables_after_download}
use Rattle.merge_model.specs.Publisher.PublisherJoin.{join, join_acts, join_refusal, join_taken, tables_after_join}
use Rattle.merge_model.specs.Publisher.PublisherLocal.{Drawn, after_answer, draw_for_change, drawn_from, local, no_draw, own_ask, taken_from}
use Rattle.merge_model.specs.Publisher.PublisherPurge.{purge}
use Rattle.merge_model.specs.Publisher.PublisherRanges.{ask_by, granted_by, plans, ranges, ranges_refusal, reply_to_ranges, with_grants}
use Rattle.merge_model.specs.Publisher.PublisherUpload.{brings_news, tables_after_upload, taken_in, upload, upload_refusal}
use Rattle.merge_model.specs.Tables.Refusals.{counter_end}
use Rattle.merge_model.specs.Tables.{PublisherTables}
use Rattle.merge_model.proofs.Entries.EntryLists.{all-put}
use Rattle.merge_model.proofs.Lists.Finding.{all-weaker}
use Rattle.merge_model.proofs.Lists.{OfSome, all-filter_map}
use Rattle.merge_typed.specs.Messages.{ToldIsTyped}
use Rattle.merge_typed.specs.Outside.{RuleIsTyped}
use Rattle.merge_typed.proofs.Calls.{local-ok, ok-of, unless-ok}
use Rattle.merge_typed.proofs.Grants.{AnswerIsTyped, BookFits, GoesOn, Rises, all-go_on, goes-on}
use Rattle.merge_typed.proofs.Holders.{HolderFits, receive-fits, take-fits, value-fits}

-- of each article no more were received than the publisher granted to itself
pub record IsOwn (grants : List Grant) (article : ℕ) (holder : Holder) : Type 0 where
  pub fits : HolderFits holder
  pub few : holder.have ≤ granted_to article 0 grants

abbrev pub OwnFits : List Grant → ℕ × Holder → Type 0
OwnFits grants entry = IsOwn grants entry.0 entry.1

pub record RangesFit (rules : List Rule) (grants : List Grant) (holders : List (ℕ × Holder)) : Type 0 where
  pub book : BookFits rules grants
  pub held : AllByRecursion (OwnFits grants) holders

more-own : (grants more : List Grant) (held : List (ℕ × Holder)) → Rises grants more → AllByRecursion (OwnFits grants) held → AllByRecursion (OwnFits more) held
more-own grants more held rises all = all-weaker (OwnFits grants) (OwnFits more) (λ entry own. record { fits = own.fits; few = (let one = own.few in let up = rises entry.0 0 in omega (arith, one, up)) }) held all

-- what is held of an article
same-by : (article q : ℕ) → is_at (nat_cmp article) q ≡ true → q ≡ article
same-by article q is = grind (arith, nat_tests, is)

found-by : (grants : List Grant) (b : Bool) (article q : ℕ) (holder : Holder) (rest : Option Holder) → (b ≡ true → q ≡ article) → IsOwn grants q holder → OfSome (IsOwn grants article) rest → OfSome (IsOwn grants article) (cond b (Some holder) rest)
found-by grants true article q holder rest same own more = subst (λ (k : ℕ). IsOwn grants k holder) (same refl) own
found-by grants false article q holder rest same own more = more

own-found : (grants : List Grant) (held : List (ℕ × Holder)) (article : ℕ) → AllByRecursion (OwnFits grants) held → OfSome (IsOwn grants article) (at_number held article)
own-found grants [] article all = tt
own-found grants (entry ∷ held) article all = found-by grants (is_at (nat_cmp article) entry.0) article entry.0 entry.1 (lookup (is_at (nat_cmp article)) held) (same-by article entry.0) all.0 (own-found grants held article all.1)

equal-same : (a b : ℕ) → nat_cmp a b ≡ Equal → a ≡ b
equal-same a b is = grind (arith, nat_tests, is)

own-put : (grants : List Grant) (held : List (ℕ × Holder)) (article : ℕ) (holder : Holder) → IsOwn grants article holder → AllByRecursion (OwnFits grants) held → AllByRecursion (OwnFits grants) (put_number held article holder)
own-put grants held article holder own all = all-put (OwnFits grants) nat_cmp article holder (λ q is. subst (λ (k : ℕ). IsOwn grants k holder) (equal-same article q is) own) own held all

-- a range that is granted has values, and the next number, so that one more of these grants is the site's
pub record GrantsNext (grants : List Grant) (ask : Ask) (given : ℕ) (range : Range) : Type 0 where
  pub some : HasValues range
  pub number : given ≡ granted_to ask.article ask.site.0 grants + 1
  pub counted : granted_to ask.article ask.site.0 (with_grant grants (record { article = ask.article; site = ask.site; number = given; range = range })) ≡ granted_to ask.article ask.site.0 grants + 1

abbrev GrantsOne : List Grant → Ask → Answer → Type 0
GrantsOne grants ask (Ok (Granted number range)) = GrantsNext grants ask number range
GrantsOne grants ask answer = Unit {0}

own-itself : (article site : ℕ) → ((article == article) && (site == site)) ≡ true
own-itself article site = grind (arith, nat_tests)

one-counted : (b : Bool) (new old : ℕ) → b ≡ true → new ≡ cond b 1 0 + old → new ≡ old + 1
one-counted true new old is count = omega (arith, count)
one-counted false new old is count = absurd cc

one-granted : (grants : List Grant) (ask : Ask) (answer : Answer) → IsNextIfAny grants (new_grant ask answer) → GrantsOne grants ask answer
one-granted grants ask (Ok (Granted number range)) next =
    let g : Grant = record { article = ask.article; site = ask.site; number = number; range = range } in record {
      some = next.values.some;
      number = next.number;
      counted = one-counted (is_of ask.article ask.site.0 g) (granted_to ask.article ask.site.0 (with_grant grants g)) (granted_to ask.article ask.site.0 grants) (own-itself ask.article ask.site.0) (count_by-with_grant (is_of ask.article ask.site.0) g grants);
    }
one-granted grants ask (Ok (Kept number range)) next = tt
one-granted grants ask (Ok NotDue) next = tt
one-granted grants ask (Err fault) next = tt

module _ (publication : Publication) (typed : AllByRecursion RuleIsTyped (rules_of publication)) where
  abbrev pub OwnRanges : PublisherTables → Type 0
  OwnRanges p = RangesFit (rules_of publication) p.grants p.held

  pub record Drew (d : Drawn) : Type 0 where
    pub value : IsValue d.value
    pub ranges : RangesFit (rules_of publication) d.grants d.held

  from-fits : (p : PublisherTables) (grants : List Grant) (article : ℕ) (holder : Holder) (result : Result ℤ IdentityEnd) → IfOk result (λ value. FitsSigned w64 value) → IsOwn grants article holder → RangesFit (rules_of publication) grants p.held
      → IfOk (taken_from p grants article holder result) Drew
  from-fits p grants article holder (Ok value) fits own r = record { value = fits; ranges = record { book = r.book; held = own-put grants p.held article (after_take holder) (record { fits = take-fits holder own.fits; few = own.few }) r.held } }
  from-fits p grants article holder (Err used_up) fits own r = tt

  -- a range more, which the publisher grants to itself
  answer-fits : (p : PublisherTables) (article : ℕ) (holder : Holder) (answer : Answer) → GrantsOne p.grants (own_ask p article) answer → GoesOn (rules_of publication) p.grants (grants_after p.grants (own_ask p article) answer) answer → IsOwn p.grants article holder → OwnRanges p
      → IfOk (after_answer p article holder answer) Drew
  answer-fits p article holder (Ok (Granted number range)) next on own r =
      let more : List Grant = grants_after p.grants (own_ask p article) (Ok (Granted number range)) in
      let few = own.few in
      let counted : granted_to article 0 more ≡ granted_to article 0 p.grants + 1 = next.counted in
      let numbered : number ≡ granted_to article 0 p.grants + 1 = next.number in
      let low = on.told.1 in
      let received : IsOwn more article (after_receive holder range) = record {
        fits = receive-fits holder range on.told.0 next.some (omega (arith, few, numbered, low)) own.fits;
        few = omega (arith, few, counted);
      } in
      from-fits p more article (after_receive holder range) (answer_to_take (after_receive holder range)) (value-fits (after_receive holder range) received.fits) received (record { book = on.fits; held = more-own p.grants more p.held on.rises r.held })
  answer-fits p article holder (Ok (Kept number range)) next on own r = from-fits p p.grants article holder (answer_to_take holder) (value-fits holder own.fits) own r
  answer-fits p article holder (Ok NotDue) next on own r = from-fits p p.grants article holder (answer_to_take holder) (value-fits holder own.fits) own r
  answer-fits p article holder (Err fault) next on own r = from-fits p p.grants article holder (answer_to_take holder) (value-fits holder own.fits) own r

  drawn-fits : (p : PublisherTables) (article : ℕ) (holder : Holder) (result : Result ℤ IdentityEnd) → IfOk result (λ value. FitsSigned w64 value) → IsOwn p.grants article holder → OwnRanges p → IfOk (drawn_from publication p article holder result) Drew
  drawn-fits p article holder (Ok value) fits own r = from-fits p p.grants article holder (Ok value) fits own r
  drawn-fits p article holder (Err used_up) fits own r =
      answer-fits p article holder (answer_of (rules_of publication) p.grants (own_ask p article)) (one-granted p.grants (own_ask p article) (answer_of (rules_of publication) p.grants (own_ask p article)) (answer_follows (rules_of publication) p.grants (own_ask p article) r.book.book))
      (goes-on (rules_of publication) p.grants (own_ask p article) typed r.book) own r

  found-fits : (p : PublisherTables) (article : ℕ) (found : Option Holder) → OfSome (IsOwn p.grants article) found → OwnRanges p
      → (let draw : Result Drawn Refusal = elim found [ None ↦ Ok (no_draw p) | Some holder ↦ drawn_from publication p article holder (answer_to_take holder) ] in IfOk draw Drew)
  found-fits p article None own r = record { value = tt; ranges = r }
  found-fits p article (Some holder) own r = drawn-fits p article holder (answer_to_take holder) (value-fits holder own.fits) own r

  pub draws : (p : PublisherTables) (change : Change) → OwnRanges p → IfOk (draw_for_change publication p change) Drew
  draws p (Insert article settings) r = found-fits p article (at_number p.held article) (own-found p.grants p.held article r.held) r
  draws p (Update article row settings) r = record { value = tt; ranges = r }
  draws p (Delete article row) r = record { value = tt; ranges = r }

  -- what is told of grants
  told-by : (article : ℕ) (answer : Answer) → AnswerIsTyped answer → OfSome ToldIsTyped (granted_by article answer)
  told-by article (Ok (Granted number range)) is = is
  told-by article (Ok (Kept number range)) is = is
  told-by article (Ok NotDue) is = tt
  told-by article (Err fault) is = tt

  abbrev RangedIsTyped : Ranged → Type 0
  RangedIsTyped m = AllByRecursion ToldIsTyped m.grants

  ranged-typed : (m : RangeAsk) (planned : List GrantPlan) → AllByRecursion (λ (plan : GrantPlan). AnswerIsTyped plan.answer) planned → RangedIsTyped (reply_to_ranges m planned)
  ranged-typed m planned all = all-filter_map (λ (plan : GrantPlan). AnswerIsTyped plan.answer) ToldIsTyped (λ (plan : GrantPlan). granted_by plan.ask.article plan.answer) (λ plan is. told-by plan.ask.article plan.answer is) planned all

  module _ (now : Moment) (p : PublisherTables) (r : OwnRanges p) where
    pub ranges-local : (judge : PublisherJudge) (change : Change) → IfOk (local publication judge now change p) (λ done. OwnRanges done.0)
    ranges-local judge change = local-ok publication judge now change p OwnRanges (λ fine d is. (ok-of Drew (draw_for_change publication p change) d (draws p change r) is).ranges)

    pub ranges-closed : IfOk (close_generation now p) (λ done. OwnRanges done.0)
    ranges-closed = unless-ok (λ (done : PublisherTables × ℕ). OwnRanges done.0) (counter_end (counters p)) (tables_after_close (at_moment now p), last_closed (tables_after_close (at_moment now p))) (λ fine. r)

    pub ranges-purged : OwnRanges (purge publication now p).0
    ranges-purged = r

    joined-by : (m : Join) (q : PublisherTables) (b : Bool) → OwnRanges q → OwnRanges (if b then join_taken m q else q)
    joined-by m q true is = is
    joined-by m q false is = is

    pub ranges-joined : (m : Join) → IfOk (join publication now m p) (λ done. OwnRanges done.0 × Unit {0})
    ranges-joined m = unless-ok (λ (done : PublisherTables × Joined). OwnRanges done.0 × Unit {0}) (join_refusal publication m p) (tables_after_join m (at_moment now p), record { seq = m.seq }) (λ fine. (joined-by m (at_moment now p) (join_acts m (at_moment now p)) r, tt))

    uploaded-by : (judge : PublisherJudge) (m : Upload) (decisions : List Decision) (q : PublisherTables) (b : Bool) → OwnRanges q → OwnRanges (if b then taken_in publication judge m (acts_of judge m decisions q) q else q)
    uploaded-by judge m decisions q true is = is
    uploaded-by judge m decisions q false is = is

    pub ranges-uploaded : (judge : PublisherJudge) (m : Upload) (decisions : List Decision) → IfOk (upload publication judge now m decisions p) (λ done. OwnRanges done.0 × Unit {0})
    ranges-uploaded judge m decisions =
        unless-ok (λ (done : PublisherTables × Uploaded). OwnRanges done.0 × Unit {0}) (upload_refusal publication judge now m p) (tables_after_upload publication judge m decisions (at_moment now p), record { seq = m.seq; received = max m.to (judge.received m.site.0) })
        (λ fine. (uploaded-by judge m decisions (at_moment now p) (brings_news judge m) r, tt))

    pub ranges-ranged : (judge : PublisherJudge) (m : RangeAsk) → IfOk (ranges publication judge now m p) (λ done. OwnRanges done.0 × RangedIsTyped done.1)
    ranges-ranged judge m =
        let on = all-go_on (rules_of publication) p.grants (map (ask_by m.site) m.wants) typed r.book in
        unless-ok (λ (done : PublisherTables × Ranged). OwnRanges done.0 × RangedIsTyped done.1) (ranges_refusal publication judge now m p) (with_grants (plans publication m p) (at_moment now p), reply_to_ranges m (plans publication m p))
        (λ fine. (record { book = on.fits; held = more-own p.grants _ p.held on.rises r.held }, ranged-typed m (plans publication m p) on.told))

    pub ranges-asked : (judge : PublisherJudge) (m : Download) → IfOk (download publication judge now m p) (λ done. OwnRanges done.0 × Unit {0})
    ranges-asked judge m =
        let after : PublisherTables = tables_after_download m (at_moment now p) in
        unless-ok (λ (done : PublisherTables × Downloaded). OwnRanges done.0 × Unit {0}) (download_refusal publication now m p) (after, reply_to publication judge m after) (λ fine. (r, tt))
