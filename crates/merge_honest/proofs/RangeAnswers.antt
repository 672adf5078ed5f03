-- What an answer about ranges tells: of each article the range behind those that the site heard of, which is granted then.
use Rattle.std.specs.List.{AllByRecursion, list_any}
use Rattle.std.specs.List.Sorted.{IsStrictlySortedBy}
use Rattle.std.specs.Ordering.{nat_cmp}
use Rattle.std.specs.Prelude.{Bool, Err, List, None, Ok, Option, Some, [], cond, count_by, false, filter_map, find, if◌then◌else◌, map, nat_le, pos, refl, true, ℕ, ◌+◌, ◌==◌, ◌≡◌, ◌≤ℤ◌, ◌≤◌, ◌∷◌}
use Rattle.std.specs.declared.cmp.Ordering.{Ordering}
use Rattle.std.specs.declared.cmp.Ordering.TheVariants.{Equal, Greater, Less}
use Rattle.std.proofs.Common.{arith, subst, sym}
use Rattle.std.proofs.lemmas.Bool.Decides.{nat_tests}
use Rattle.std.proofs.lemmas.List.Elements.{recursion_from_All}
use Rattle.merge_table.proofs.Room.{AreAbove}
use Rattle.merge_types.specs.declared.identifiers.SiteId.{SiteId}
use Rattle.merge_ident.specs.Answers.{Answer, answer_by, answer_of, grants_after, grants_with, grants_with_all, kept_answer, next_begin, next_end, new_grant, plan_of, plans_of, rule_of, ruled_answer, with_new}
use Rattle.merge_ident.specs.Books.{IsBook, IsNextIfAny}
use Rattle.merge_ident.specs.Grants.{IsGranted, granted_to, greatest_end, is_numbered, is_of, natural}
use Rattle.merge_ident.specs.declared.grants.Ask.{Ask}
use Rattle.merge_ident.specs.declared.grants.Grant.{Grant}
use Rattle.merge_ident.specs.declared.grants.GrantAnswer.TheVariants.{Granted, Kept, NotDue}
use Rattle.merge_ident.specs.declared.grants.GrantPlan.{GrantPlan}
use Rattle.merge_ident.specs.declared.grants.IdentityFault.{IdentityFault}
use Rattle.merge_ident.specs.declared.grants.IdentityFault.TheVariants.{NoRange, TooMany}
use Rattle.merge_ident.specs.declared.grants.Range.{Range}
use Rattle.merge_ident.specs.declared.grants.Rule.{Rule}
use Rattle.merge_ident.proofs.Added.{count_by-with_grant}
use Rattle.merge_ident.proofs.Plans.{answer_follows, book-with_plan}
use Rattle.merge_batch.specs.Asks.{wanted_article}
use Rattle.merge_batch.specs.Replies.{granted_article}
use Rattle.merge_batch.specs.Search.{are_distinct}
use Rattle.merge_batch.specs.declared.reply.RangeGrant.{RangeGrant}
use Rattle.merge_batch.specs.declared.request.Want.{Want}
use Rattle.merge_model.specs.Publisher.PublisherRanges.{ask_by, grant_of, granted_by}
use Rattle.merge_model.proofs.Lists.Finding.{some_same}
use Rattle.merge_laws.proofs.Identities.IdentityGrants.{ruled-kept}
use Rattle.merge_owed.proofs.RangeSteps.{kept-granted}

-- The counts of grants only rise.

abbrev pub Grows : List Grant → List Grant → Type 0
Grows grants more = (test : Grant → Bool) → count_by test grants ≤ count_by test more

pub new-grows : (grants : List Grant) (new : Option Grant) → Grows grants (with_new grants new)
new-grows grants None test = omega arith
new-grows grants (Some grant) test = omega (arith, count_by-with_grant test grant grants)

pub all-grow : (rules : List Rule) (grants : List Grant) (asks : List Ask) → Grows grants (grants_with_all grants (plans_of rules grants asks))
all-grow rules grants [] test = omega arith
all-grow rules grants (ask ∷ asks) test =
    let next : List Grant = grants_with grants (plan_of rules grants ask) in
    omega (arith, new-grows grants (new_grant ask (answer_of rules grants ask)) test, all-grow rules next asks test)

-- The range that an answer keeps or grants.

found-step : (b : Bool) (test : Grant → Bool) (first grant : Grant) (rest : Option Grant) → test first ≡ b → (rest ≡ Some grant → test grant ≡ true) → cond b (Some first) rest ≡ Some grant → test grant ≡ true
found-step true test first grant rest is later e = subst (λ (g : Grant). test g ≡ true) (some_same first grant e) is
found-step false test first grant rest is later e = later e

found-fits : (test : Grant → Bool) (grants : List Grant) (grant : Grant) → find test grants ≡ Some grant → test grant ≡ true
found-fits test [] grant e = absurd cc
found-fits test (first ∷ grants) grant e = found-step (test first) test first grant (find test grants) refl (found-fits test grants grant) e

first-all : (P : Grant → Type 0) (b : Bool) (first grant : Grant) (rest : Option Grant) → P first → (rest ≡ Some grant → P grant) → cond b (Some first) rest ≡ Some grant → P grant
first-all P true first grant rest here later e = subst P (some_same first grant e) here
first-all P false first grant rest here later e = later e

found-all : (P : Grant → Type 0) (test : Grant → Bool) (grants : List Grant) (grant : Grant) → AllByRecursion P grants → find test grants ≡ Some grant → P grant
found-all P test [] grant all e = absurd cc
found-all P test (first ∷ grants) grant all e = first-all P (test first) first grant (find test grants) all.0 (found-all P test grants grant all.1) e

kept-number : (site article sought number : ℕ) (range : Range) (grants : List Grant) (found : Option Grant) → find (is_numbered article site sought) grants ≡ found → kept_answer found ≡ Ok (Kept number range) → number ≡ sought
kept-number site article sought number range grants None is e = absurd cc
kept-number site article sought number range grants (Some grant) is e =
    let same : grant.number ≡ number = cc in
    let fits : is_numbered article site sought grant ≡ true = found-fits (is_numbered article site sought) grants grant is in
    grind (arith, nat_tests, fits, same)

next-number : (b : Bool) (k number : ℕ) (made range : Range) (fault : IdentityFault) → (let answer : Answer = if b then Ok (Granted k made) else Err fault in answer) ≡ Ok (Granted number range) → number ≡ k
next-number true k number made range fault e = cc
next-number false k number made range fault e = absurd cc

ruled-number : (rule : Option Rule) (site k greatest number : ℕ) (range : Range) → ruled_answer rule site k greatest ≡ Ok (Granted number range) → number ≡ k
ruled-number None site k greatest number range e = absurd cc
ruled-number (Some rule) site k greatest number range e =
    next-number (nat_le (next_end rule site greatest) (natural rule.greatest)) k number (record { begin = pos (next_begin rule greatest); end = pos (next_end rule site greatest) }) range (NoRange (next_begin rule greatest) rule.greatest) e

-- what the table says of a range that is granted, and of one that is kept
granted-by : (order : Ordering) (due : Bool) (kept next : Answer) (many number : ℕ) (range : Range) → (kept ≡ Ok (Granted number range) → ⊥) → answer_by order due kept (Err (TooMany many)) next ≡ Ok (Granted number range) → (order ≡ Equal) × (next ≡ Ok (Granted number range))
granted-by Less due kept next many number range never e = absurd (never e)
granted-by Greater due kept next many number range never e = absurd cc
granted-by Equal false kept next many number range never e = absurd cc
granted-by Equal true kept next many number range never e = (refl, e)

kept-by : (order : Ordering) (due : Bool) (kept next : Answer) (many number : ℕ) (range : Range) → (next ≡ Ok (Kept number range) → ⊥) → answer_by order due kept (Err (TooMany many)) next ≡ Ok (Kept number range) → (order ≡ Less) × (kept ≡ Ok (Kept number range))
kept-by Less due kept next many number range never e = (refl, e)
kept-by Greater due kept next many number range never e = absurd cc
kept-by Equal false kept next many number range never e = absurd cc
kept-by Equal true kept next many number range never e = absurd (never e)

-- what is told of an ask, over the grants that are then
pub record TellsNext (grants : List Grant) (ask : Ask) (told : RangeGrant) : Type 0 where
  pub article : told.article ≡ ask.article
  pub number : told.number ≡ ask.have + 1
  pub granted : told.number ≤ granted_to ask.article ask.site.0 grants

module _ (rules : List Rule) (grants : List Grant) (ask : Ask) where
  abbrev before : ℕ
  before = granted_to ask.article ask.site.0 grants

  granted-tells : (number : ℕ) (range : Range) → answer_of rules grants ask ≡ Ok (Granted number range) → TellsNext (grants_after grants ask (Ok (Granted number range))) ask (grant_of ask.article number range)
  granted-tells number range is =
      let new : Grant = record { article = ask.article; site = ask.site; number = number; range = range } in
      let both = granted-by (nat_cmp ask.have before) ask.due (kept_answer (find (is_numbered ask.article ask.site.0 (ask.have + 1)) grants)) (ruled_answer (rule_of rules ask.article) ask.site.0 (ask.have + 1) (greatest_end ask.article grants)) before number range (kept-granted (find (is_numbered ask.article ask.site.0 (ask.have + 1)) grants) number range) is in
      let have : ask.have ≡ before = (let order = both.0 in grind (arith, nat_tests, order)) in
      let next : number ≡ ask.have + 1 = ruled-number (rule_of rules ask.article) ask.site.0 (ask.have + 1) (greatest_end ask.article grants) number range both.1 in
      let more = count_by-with_grant (is_of ask.article ask.site.0) new grants in
      let own : is_of ask.article ask.site.0 new ≡ true = grind (arith, nat_tests) in
      record {
        article = refl;
        number = next;
        granted = grind (arith, nat_tests, have, next, more, own);
      }

  kept-tells : (number : ℕ) (range : Range) → answer_of rules grants ask ≡ Ok (Kept number range) → TellsNext grants ask (grant_of ask.article number range)
  kept-tells number range is =
      let both = kept-by (nat_cmp ask.have before) ask.due (kept_answer (find (is_numbered ask.article ask.site.0 (ask.have + 1)) grants)) (ruled_answer (rule_of rules ask.article) ask.site.0 (ask.have + 1) (greatest_end ask.article grants)) before number range (ruled-kept (rule_of rules ask.article) ask.site.0 (ask.have + 1) (greatest_end ask.article grants) number range) is in
      let less : ask.have + 1 ≤ before = (let order = both.0 in grind (arith, nat_tests, order)) in
      let next : number ≡ ask.have + 1 = kept-number ask.site.0 ask.article (ask.have + 1) number range grants (find (is_numbered ask.article ask.site.0 (ask.have + 1)) grants) refl both.1 in
      record { article = refl; number = next; granted = omega (arith, less, next) }

  answer-tells : (answer : Answer) → answer_of rules grants ask ≡ answer → (told : RangeGrant) → granted_by ask.article answer ≡ Some told → TellsNext (grants_after grants ask answer) ask told
  answer-tells (Ok (Granted number range)) is told tells =
      subst (λ (t : RangeGrant). TellsNext (grants_after grants ask (Ok (Granted number range))) ask t) (some_same (grant_of ask.article number range) told tells) (granted-tells number range is)
  answer-tells (Ok (Kept number range)) is told tells = subst (λ (t : RangeGrant). TellsNext grants ask t) (some_same (grant_of ask.article number range) told tells) (kept-tells number range is)
  answer-tells (Ok NotDue) is told tells = absurd cc
  answer-tells (Err fault) is told tells = absurd (grind (arith, tells))

  -- a range that is told has values, where all that were granted have
  kept-value : (found : Option Grant) (number : ℕ) (range : Range) → AllByRecursion IsGranted grants → find (is_numbered ask.article ask.site.0 (ask.have + 1)) grants ≡ found → kept_answer found ≡ Ok (Kept number range) → range.begin ≤ℤ range.end
  kept-value None number range all at is = absurd cc
  kept-value (Some grant) number range all at is =
      let same : grant.range ≡ range = cc in
      subst (λ (r : Range). r.begin ≤ℤ r.end) same (found-all IsGranted (is_numbered ask.article ask.site.0 (ask.have + 1)) grants grant all at).some

  answer-value : (answer : Answer) → IsBook rules grants → answer_of rules grants ask ≡ answer → (told : RangeGrant) → granted_by ask.article answer ≡ Some told → told.begin ≤ℤ told.end
  answer-value (Ok (Granted number range)) book is told tells =
      let next : IsNextIfAny grants (new_grant ask (Ok (Granted number range))) = subst (λ (answer : Answer). IsNextIfAny grants (new_grant ask answer)) is (answer_follows rules grants ask book) in
      subst (λ (t : RangeGrant). t.begin ≤ℤ t.end) (some_same (grant_of ask.article number range) told tells) next.values.some
  answer-value (Ok (Kept number range)) book is told tells =
      let both = kept-by (nat_cmp ask.have before) ask.due (kept_answer (find (is_numbered ask.article ask.site.0 (ask.have + 1)) grants)) (ruled_answer (rule_of rules ask.article) ask.site.0 (ask.have + 1) (greatest_end ask.article grants)) before number range (ruled-kept (rule_of rules ask.article) ask.site.0 (ask.have + 1) (greatest_end ask.article grants) number range) is in
      subst (λ (t : RangeGrant). t.begin ≤ℤ t.end) (some_same (grant_of ask.article number range) told tells)
      (kept-value (find (is_numbered ask.article ask.site.0 (ask.have + 1)) grants) number range (recursion_from_All IsGranted grants book.grants_fit.ranges) refl both.1)
  answer-value (Ok NotDue) book is told tells = absurd cc
  answer-value (Err fault) book is told tells = absurd (grind (arith, tells))

-- What the plans of a site's asks tell.

abbrev pub telling : GrantPlan → Option RangeGrant
telling plan = granted_by plan.ask.article plan.answer

told-step : (P : RangeGrant → Type 0) (plan : GrantPlan) (plans : List GrantPlan) (told : Option RangeGrant) → telling plan ≡ told → ((t : RangeGrant) → told ≡ Some t → P t) → AllByRecursion P (filter_map telling plans) → AllByRecursion P (filter_map telling (plan ∷ plans))
told-step P plan plans None e is rest = rw e rest
told-step P plan plans (Some t) e is rest = rw e (is t refl, rest)

-- what holds of each article that is asked for, with the number behind what the site heard of, holds of each that is told
pub plans-tell : (Q : ℕ → ℕ → Type 0) (rules : List Rule) (grants : List Grant) (site : SiteId) (wants : List Want) → AllByRecursion (λ (want : Want). Q want.article (want.have + 1)) wants
    → AllByRecursion (λ (told : RangeGrant). Q told.article told.number) (filter_map telling (plans_of rules grants (map (ask_by site) wants)))
plans-tell Q rules grants site [] all = tt
plans-tell Q rules grants site (want ∷ wants) all =
    let ask : Ask = ask_by site want in
    let plan : GrantPlan = plan_of rules grants ask in
    let next : List Grant = grants_with grants plan in
    told-step (λ (told : RangeGrant). Q told.article told.number) plan (plans_of rules next (map (ask_by site) wants)) (telling plan) refl
    (λ told tells. (let t : TellsNext next ask told = answer-tells rules grants ask (answer_of rules grants ask) refl told tells in
    subst (λ (k : ℕ). Q told.article k) (sym t.number) (subst (λ (a : ℕ). Q a (want.have + 1)) (sym t.article) all.0)))
    (plans-tell Q rules next site wants all.1)

pub plans-granted : (rules : List Rule) (grants : List Grant) (site : SiteId) (wants : List Want)
    → (let planned : List GrantPlan = plans_of rules grants (map (ask_by site) wants) in AllByRecursion (λ (told : RangeGrant). told.number ≤ granted_to told.article site.0 (grants_with_all grants planned)) (filter_map telling planned))
plans-granted rules grants site [] = tt
plans-granted rules grants site (want ∷ wants) =
    let ask : Ask = ask_by site want in
    let plan : GrantPlan = plan_of rules grants ask in
    let next : List Grant = grants_with grants plan in
    let planned : List GrantPlan = plans_of rules next (map (ask_by site) wants) in
    told-step (λ (told : RangeGrant). told.number ≤ granted_to told.article site.0 (grants_with_all next planned)) plan planned (telling plan) refl
    (λ told tells. (let t : TellsNext next ask told = answer-tells rules grants ask (answer_of rules grants ask) refl told tells in
    let granted = t.granted in
    let grow = all-grow rules next (map (ask_by site) wants) (is_of want.article site.0) in
    subst (λ (a : ℕ). told.number ≤ granted_to a site.0 (grants_with_all next planned)) (sym t.article) (omega (arith, granted, grow))))
    (plans-granted rules next site wants)

pub plans-values : (rules : List Rule) (grants : List Grant) (site : SiteId) (wants : List Want) → IsBook rules grants → AllByRecursion (λ (told : RangeGrant). told.begin ≤ℤ told.end) (filter_map telling (plans_of rules grants (map (ask_by site) wants)))
plans-values rules grants site [] book = tt
plans-values rules grants site (want ∷ wants) book =
    let ask : Ask = ask_by site want in
    let plan : GrantPlan = plan_of rules grants ask in
    let next : List Grant = grants_with grants plan in
    told-step (λ (told : RangeGrant). told.begin ≤ℤ told.end) plan (plans_of rules next (map (ask_by site) wants)) (telling plan) refl
    (λ told tells. answer-value rules grants ask (answer_of rules grants ask) book refl told tells)
    (plans-values rules next site wants (book-with_plan rules grants ask book))

-- the grants that they leave are those of a book
pub plans-book : (rules : List Rule) (grants : List Grant) (asks : List Ask) → IsBook rules grants → IsBook rules (grants_with_all grants (plans_of rules grants asks))
plans-book rules grants [] book = book
plans-book rules grants (ask ∷ asks) book = plans-book rules (grants_with grants (plan_of rules grants ask)) asks (book-with_plan rules grants ask book)

-- Where the articles that are asked for ascend, so do those that are told.

told-above : (article : ℕ) (rules : List Rule) (grants : List Grant) (site : SiteId) (wants : List Want) → AreAbove nat_cmp article (map wanted_article wants) → AreAbove nat_cmp article (map granted_article (filter_map telling (plans_of rules grants (map (ask_by site) wants))))
told-above article rules grants site [] above = tt
told-above article rules grants site (want ∷ wants) above =
    let ask : Ask = ask_by site want in
    let plan : GrantPlan = plan_of rules grants ask in
    let next : List Grant = grants_with grants plan in
    above-step article plan (plans_of rules next (map (ask_by site) wants)) (telling plan) refl
    (λ told tells. subst (λ (a : ℕ). nat_cmp article a ≡ Less) (sym (answer-tells rules grants ask (answer_of rules grants ask) refl told tells).article) above.0)
    (told-above article rules next site wants above.1)
  where
    above-step : (article : ℕ) (plan : GrantPlan) (plans : List GrantPlan) (told : Option RangeGrant) → telling plan ≡ told → ((t : RangeGrant) → told ≡ Some t → nat_cmp article t.article ≡ Less) → AreAbove nat_cmp article (map granted_article (filter_map telling plans))
        → AreAbove nat_cmp article (map granted_article (filter_map telling (plan ∷ plans)))
    above-step article plan plans None e is rest = rw e rest
    above-step article plan plans (Some t) e is rest = rw e (is t refl, rest)

ascend-step : (plan : GrantPlan) (plans : List GrantPlan) (told : Option RangeGrant) → telling plan ≡ told → ((t : RangeGrant) → told ≡ Some t → AreAbove nat_cmp t.article (map granted_article (filter_map telling plans))) → IsStrictlySortedBy nat_cmp (map granted_article (filter_map telling plans))
    → IsStrictlySortedBy nat_cmp (map granted_article (filter_map telling (plan ∷ plans)))
unfolding IsStrictlySortedBy
ascend-step plan plans None e above rest = rw e rest
ascend-step plan plans (Some t) e above rest = rw e (above t refl, rest)

pub told-ascend : (rules : List Rule) (grants : List Grant) (site : SiteId) (wants : List Want) → IsStrictlySortedBy nat_cmp (map wanted_article wants) → IsStrictlySortedBy nat_cmp (map granted_article (filter_map telling (plans_of rules grants (map (ask_by site) wants))))
unfolding IsStrictlySortedBy
told-ascend rules grants site [] sorted = tt
told-ascend rules grants site (want ∷ wants) sorted =
    let ask : Ask = ask_by site want in
    let plan : GrantPlan = plan_of rules grants ask in
    let next : List Grant = grants_with grants plan in
    let planned : List GrantPlan = plans_of rules next (map (ask_by site) wants) in
    ascend-step plan planned (telling plan) refl
    (λ told tells. subst (λ (a : ℕ). AreAbove nat_cmp a (map granted_article (filter_map telling planned))) (sym (answer-tells rules grants ask (answer_of rules grants ask) refl told tells).article) (told-above want.article rules next site wants sorted.0))
    (told-ascend rules next site wants sorted.1)

-- articles in order are distinct
above-none : (n : ℕ) (ns : List ℕ) → AreAbove nat_cmp n ns → list_any (λ (m : ℕ). m == n) ns ≡ false
above-none n [] above = refl
above-none n (m ∷ ns) above =
    let less = above.0 in
    let rest = above-none n ns above.1 in
    grind (arith, nat_tests, less, rest)

pub ascend-distinct : (ns : List ℕ) → IsStrictlySortedBy nat_cmp ns → are_distinct ns ≡ true
unfolding IsStrictlySortedBy
ascend-distinct [] sorted = refl
ascend-distinct (n ∷ ns) sorted =
    let none = above-none n ns sorted.0 in
    let rest = ascend-distinct ns sorted.1 in
    grind (arith, none, rest)
