-- Grants, as more are made: what was told stays told, and an answer tells what was granted.
use Rattle.std.specs.Prelude.{◌≡◌, ◌≤◌, ◌+◌, ℕ, ℤ, pos, List, [], ◌∷◌, Bool, true, false, Option, Some, None, Ok, Err, refl, count_by, cond, nat_le, find, filter_map, map, if◌then◌else◌}
use Rattle.std.specs.List.{AllByRecursion}
use Rattle.std.specs.Ordering.{nat_cmp}
use Rattle.std.specs.declared.cmp.Ordering.{Ordering}
use Rattle.std.specs.declared.cmp.Ordering.TheVariants.{Less, Equal, Greater}
use Rattle.std.proofs.Common.{arith, subst, sym}
use Rattle.std.proofs.lemmas.Bool.Decides.{nat_tests}
use Rattle.merge_types.specs.declared.identifiers.SiteId.{SiteId}
use Rattle.merge_ident.specs.declared.grants.Ask.{Ask}
use Rattle.merge_ident.specs.declared.grants.Grant.{Grant}
use Rattle.merge_ident.specs.declared.grants.GrantAnswer.TheVariants.{Granted, Kept, NotDue}
use Rattle.merge_ident.specs.declared.grants.IdentityFault.{IdentityFault}
use Rattle.merge_ident.specs.declared.grants.IdentityFault.TheVariants.{NoRange, TooMany}
use Rattle.merge_ident.specs.declared.grants.GrantPlan.{GrantPlan}
use Rattle.merge_ident.specs.declared.grants.Range.{Range}
use Rattle.merge_ident.specs.declared.grants.Rule.{Rule}
use Rattle.merge_ident.specs.Answers.{Answer, answer_by, answer_of, grants_after, grants_with, grants_with_all, kept_answer, new_grant, next_begin, next_end, plan_of, plans_of, rule_of, ruled_answer, with_new}
use Rattle.merge_ident.specs.Grants.{granted_to, greatest_end, is_in, is_numbered, natural, with_grant}
use Rattle.merge_ident.proofs.Added.{count_by-with_grant}
use Rattle.merge_batch.specs.declared.reply.RangeGrant.{RangeGrant}
use Rattle.merge_batch.specs.declared.request.Want.{Want}
use Rattle.merge_model.specs.Publisher.PublisherRanges.{ask_by, grant_of, granted_by}
use Rattle.merge_laws.specs.Facts.Identities.{gives_numbered, IsTold}
use Rattle.merge_model.proofs.Lists.Finding.{all-weaker, some_same}
use Rattle.merge_laws.proofs.Identities.IdentityCalls.{counts-cons}

-- the counts of grants only rise
abbrev pub Grows : List Grant → List Grant → Type 0
Grows grants more = (test : Grant → Bool) → count_by test grants ≤ count_by test more

pub with_new-grows : (grants : List Grant) (new : Option Grant) → Grows grants (with_new grants new)
with_new-grows grants None test = omega arith
with_new-grows grants (Some grant) test = omega (arith, count_by-with_grant test grant grants)

pub all-grow : (rules : List Rule) (grants : List Grant) (asks : List Ask) → Grows grants (grants_with_all grants (plans_of rules grants asks))
all-grow rules grants [] test = omega arith
all-grow rules grants (ask ∷ asks) test =
    let next : List Grant = grants_with grants (plan_of rules grants ask) in
    omega (arith, with_new-grows grants (new_grant ask (answer_of rules grants ask)) test, all-grow rules next asks test)

told-grows : (grants more : List Grant) (site : ℕ) → Grows grants more → (told : RangeGrant) → IsTold grants site told → IsTold more site told
told-grows grants more site grow told is value within = omega (arith, is value within, grow (gives_numbered site told.article told.number value))

pub all-told : (grants more : List Grant) (site : ℕ) → Grows grants more → (told : List RangeGrant) → AllByRecursion (IsTold grants site) told → AllByRecursion (IsTold more site) told
all-told grants more site grow told all = all-weaker (IsTold grants site) (IsTold more site) (told-grows grants more site grow) told all

-- An answer tells of a grant that there is.

new-told : (grants : List Grant) (article : ℕ) (site : SiteId) (number : ℕ) (range : Range) (value : ℤ) → is_in value range ≡ true
    → 1 ≤ count_by (gives_numbered site.0 article number value) (with_grant grants (record { article = article; site = site; number = number; range = range }))
new-told grants article site number range value within =
    let new : Grant = record { article = article; site = site; number = number; range = range } in
    let gives : gives_numbered site.0 article number value new ≡ true = grind (arith, nat_tests, within) in
    let more = count_by-with_grant (gives_numbered site.0 article number value) new grants in
    grind (arith, nat_tests, more, gives)

-- a grant that is found counts
gives-found : (site article number : ℕ) (value : ℤ) (grant : Grant) → is_numbered article site number grant ≡ true → is_in value grant.range ≡ true → gives_numbered site article grant.number value grant ≡ true
gives-found site article number value grant is within = grind (arith, nat_tests, is, within)

found-step : (b : Bool) (site article number : ℕ) (value : ℤ) (first grant : Grant) (grants : List Grant) (later : Option Grant) → is_numbered article site number first ≡ b → cond b (Some first) later ≡ Some grant
    → (later ≡ Some grant → 1 ≤ count_by (gives_numbered site article grant.number value) grants) → is_in value grant.range ≡ true → 1 ≤ count_by (gives_numbered site article grant.number value) (first ∷ grants)
found-step true site article number value first grant grants later is at rest within =
    let same : first ≡ grant = cc in
    let gives : gives_numbered site article grant.number value first ≡ true = subst (λ (g : Grant). gives_numbered site article g.number value first ≡ true) same (gives-found site article number value first is (subst (λ (g : Grant). is_in value g.range ≡ true) (sym same) within)) in
    grind (arith, counts-cons (gives_numbered site article grant.number value) first grants, gives)
found-step false site article number value first grant grants later is at rest within =
    omega (arith, rest at, counts-cons (gives_numbered site article grant.number value) first grants)

found-told : (site article number : ℕ) (value : ℤ) (grant : Grant) (grants : List Grant) → find (is_numbered article site number) grants ≡ Some grant → is_in value grant.range ≡ true → 1 ≤ count_by (gives_numbered site article grant.number value) grants
found-told site article number value grant [] at within = absurd cc
found-told site article number value grant (first ∷ grants) at within =
    found-step (is_numbered article site number first) site article number value first grant grants (find (is_numbered article site number) grants) refl at (λ later. found-told site article number value grant grants later within) within

-- a range that an answer keeps was granted
abbrev KeptTold : List Grant → ℕ → ℕ → ℕ → Range → Type 0
KeptTold grants site article number range = (value : ℤ) → is_in value range ≡ true → 1 ≤ count_by (gives_numbered site article number value) grants

kept-found : (grants : List Grant) (site article sought number : ℕ) (range : Range) (found : Option Grant) → find (is_numbered article site sought) grants ≡ found → kept_answer found ≡ Ok (Kept number range) → KeptTold grants site article number range
kept-found grants site article sought number range None at is = absurd cc
kept-found grants site article sought number range (Some grant) at is =
    let answer : Answer → Type 0 = λ (a : Answer). (let told : Answer → Type 0 = λ (x : Answer). elim x [ Ok (Kept k r) ↦ KeptTold grants site article k r | Ok (Granted k r) ↦ Unit {0} | Ok NotDue ↦ Unit {0} | Err fault ↦ Unit {0} ] in told a) in
    subst answer is (λ value within. found-told site article sought value grant grants at within)

next-kept : (b : Bool) (k begin end number : ℕ) (fault : IdentityFault) (made range : Range) → (let answer : Answer = if b then Ok (Granted k made) else Err fault in answer) ≡ Ok (Kept number range) → ⊥
next-kept true k begin end number fault made range is = cc
next-kept false k begin end number fault made range is = cc

pub ruled-kept : (rule : Option Rule) (site k greatest number : ℕ) (range : Range) → ruled_answer rule site k greatest ≡ Ok (Kept number range) → ⊥
ruled-kept None site k greatest number range is = cc
ruled-kept (Some rule) site k greatest number range is =
    next-kept (nat_le (next_end rule site greatest) (natural rule.greatest)) k (next_begin rule greatest) (next_end rule site greatest) number (NoRange (next_begin rule greatest) rule.greatest)
    (record { begin = pos (next_begin rule greatest); end = pos (next_end rule site greatest) }) range is

kept-by : (grants : List Grant) (site article sought number : ℕ) (range : Range) (order : Ordering) (due : Bool) (too_many next : Answer) → (too_many ≡ Ok (Kept number range) → ⊥) → (next ≡ Ok (Kept number range) → ⊥)
    → answer_by order due (kept_answer (find (is_numbered article site sought) grants)) too_many next ≡ Ok (Kept number range) → KeptTold grants site article number range
kept-by grants site article sought number range Less due too_many next none never is = kept-found grants site article sought number range (find (is_numbered article site sought) grants) refl is
kept-by grants site article sought number range Greater due too_many next none never is = absurd (none is)
kept-by grants site article sought number range Equal false too_many next none never is = absurd cc
kept-by grants site article sought number range Equal true too_many next none never is = absurd (never is)

many-kept : (granted number : ℕ) (range : Range) → (let answer : Answer = Err (TooMany granted) in answer) ≡ Ok (Kept number range) → ⊥
many-kept granted number range is = cc

kept-told : (rules : List Rule) (grants : List Grant) (ask : Ask) (number : ℕ) (range : Range) → answer_of rules grants ask ≡ Ok (Kept number range) → KeptTold grants ask.site.0 ask.article number range
kept-told rules grants ask number range is =
    kept-by grants ask.site.0 ask.article (ask.have + 1) number range (nat_cmp ask.have (granted_to ask.article ask.site.0 grants)) ask.due (Err (TooMany (granted_to ask.article ask.site.0 grants)))
    (ruled_answer (rule_of rules ask.article) ask.site.0 (ask.have + 1) (greatest_end ask.article grants))
    (many-kept (granted_to ask.article ask.site.0 grants) number range)
    (ruled-kept (rule_of rules ask.article) ask.site.0 (ask.have + 1) (greatest_end ask.article grants) number range) is

answer-told : (rules : List Rule) (grants : List Grant) (ask : Ask) (answer : Answer) → answer_of rules grants ask ≡ answer → (told : RangeGrant) → granted_by ask.article answer ≡ Some told → IsTold (grants_after grants ask answer) ask.site.0 told
answer-told rules grants ask (Ok (Granted number range)) is told tells =
    subst (λ (t : RangeGrant). IsTold (grants_after grants ask (Ok (Granted number range))) ask.site.0 t) (some_same (grant_of ask.article number range) told tells)
    (λ value within. new-told grants ask.article ask.site number range value within)
answer-told rules grants ask (Ok (Kept number range)) is told tells =
    subst (λ (t : RangeGrant). IsTold grants ask.site.0 t) (some_same (grant_of ask.article number range) told tells) (kept-told rules grants ask number range is)
answer-told rules grants ask (Ok NotDue) is told tells = absurd cc
answer-told rules grants ask (Err fault) is told tells = absurd (grind (arith, tells))

-- what the plans of a site's asks tell

abbrev telling : GrantPlan → Option RangeGrant
telling plan = granted_by plan.ask.article plan.answer

told-step : (grants : List Grant) (site : ℕ) (plan : GrantPlan) (plans : List GrantPlan) (told : Option RangeGrant) → telling plan ≡ told → ((t : RangeGrant) → told ≡ Some t → IsTold grants site t)
    → AllByRecursion (IsTold grants site) (filter_map telling plans) → AllByRecursion (IsTold grants site) (filter_map telling (plan ∷ plans))
told-step grants site plan plans None e is rest = rw e rest
told-step grants site plan plans (Some t) e is rest = rw e (is t refl, rest)

pub plans-told : (rules : List Rule) (grants : List Grant) (site : SiteId) (wants : List Want)
    → (let planned : List GrantPlan = plans_of rules grants (map (ask_by site) wants) in AllByRecursion (IsTold (grants_with_all grants planned) site.0) (filter_map telling planned))
plans-told rules grants site [] = tt
plans-told rules grants site (want ∷ wants) =
    let ask : Ask = ask_by site want in
    let plan : GrantPlan = plan_of rules grants ask in
    let next : List Grant = grants_with grants plan in
    let planned : List GrantPlan = plans_of rules next (map (ask_by site) wants) in
    told-step (grants_with_all next planned) site.0 plan planned (telling plan) refl
    (λ told tells. told-grows next (grants_with_all next planned) site.0 (all-grow rules next (map (ask_by site) wants)) told (answer-told rules grants ask (answer_of rules grants ask) refl told tells))
    (plans-told rules next site wants)
