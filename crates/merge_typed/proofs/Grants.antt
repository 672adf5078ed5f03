-- The publisher's grants fit: none ends behind the greatest value, and an article has no more grants than values up to its greatest end.
use Rattle.std.specs.Int.{w64}
use Rattle.std.specs.List.{AllByRecursion}
use Rattle.std.specs.Ordering.{nat_cmp}
use Rattle.std.specs.Prelude.{Bool, Err, FitsSigned, List, None, Ok, Option, Some, [], cond, false, find, if◌then◌else◌, max, nat_le, pos, refl, true, ℕ, ◌&&◌, ◌+◌, ◌<◌, ◌==◌, ◌^◌, ◌≡◌, ◌≤◌, ◌∷◌}
use Rattle.std.specs.declared.cmp.Ordering.{Ordering}
use Rattle.std.specs.declared.cmp.Ordering.TheVariants.{Equal, Greater, Less}
use Rattle.std.proofs.Common.{arith, subst}
use Rattle.std.proofs.lemmas.Bool.Decides.{nat_tests}
use Rattle.jiff_core.proofs.SignedLemmas.{signed_arith}
use Rattle.merge_ident.specs.Answers.{Answer, answer_by, answer_of, grants_after, grants_with, grants_with_all, kept_answer, new_grant, next_begin, next_end, plan_of, plans_of, rule_of, ruled_answer}
use Rattle.merge_ident.specs.Books.{IsBook, IsNext, IsNextIfAny}
use Rattle.merge_ident.specs.Grants.{granted_to, greatest_end, is_numbered, is_of, natural, with_grant}
use Rattle.merge_ident.specs.declared.grants.Ask.{Ask}
use Rattle.merge_ident.specs.declared.grants.Grant.{Grant}
use Rattle.merge_ident.specs.declared.grants.GrantAnswer.TheVariants.{Granted, Kept, NotDue}
use Rattle.merge_ident.specs.declared.grants.GrantPlan.{GrantPlan}
use Rattle.merge_ident.specs.declared.grants.IdentityFault.TheVariants.{NoRange, TooMany}
use Rattle.merge_ident.specs.declared.grants.IdentityFault.{IdentityFault}
use Rattle.merge_ident.specs.declared.grants.Range.{Range}
use Rattle.merge_ident.specs.declared.grants.Rule.{Rule}
use Rattle.merge_ident.proofs.Added.{count_by-with_grant, greatest_end-with_grant}
use Rattle.merge_ident.proofs.Order.{all-with_grant, book-with_next}
use Rattle.merge_ident.proofs.Plans.{answer_follows}
use Rattle.merge_record.specs.Tables.{IsRange}
use Rattle.merge_model.proofs.Lists.{OfSome}
use Rattle.merge_typed.specs.Outside.{RuleIsTyped}
use Rattle.merge_typed.specs.Typed.{GrantIsTyped}
use Rattle.merge_typed.proofs.Entries.{all-find}
use Rattle.merge_typed.proofs.Holders.{natural-low, natural-rises, up-fits, within}

-- Where a range that is granted ends.

abbrev pub AnswerEnds : Answer → Type 0
AnswerEnds (Ok (Granted number range)) = FitsSigned w64 range.end
AnswerEnds (Ok (Kept number range)) = IsRange range × (number < 2 ^ 64)
AnswerEnds answer = Unit {0}

if-ends : (b : Bool) (number : ℕ) (range : Range) (fault : IdentityFault) → (b ≡ true → FitsSigned w64 range.end) → AnswerEnds (if b then Ok (Granted number range) else Err fault)
if-ends true number range fault ends = ends refl
if-ends false number range fault ends = tt

ruled-ends : (site number greatest : ℕ) (found : Option Rule) → OfSome RuleIsTyped found → AnswerEnds (ruled_answer found site number greatest)
ruled-ends site number greatest None typed = tt
ruled-ends site number greatest (Some rule) typed =
    if-ends (nat_le (next_end rule site greatest) (natural rule.greatest)) number (record { begin = pos (next_begin rule greatest); end = pos (next_end rule site greatest) }) (NoRange (next_begin rule greatest) rule.greatest)
    (λ within. up-fits rule.greatest (next_end rule site greatest) typed (nat-below (next_end rule site greatest) (natural rule.greatest) within))
  where
    nat-below : (a b : ℕ) → nat_le a b ≡ true → a ≤ b
    nat-below a b is = grind (arith, nat_tests, is)

kept-ends : (found : Option Grant) → OfSome GrantIsTyped found → AnswerEnds (kept_answer found)
kept-ends None typed = tt
kept-ends (Some grant) typed = typed

by-ends : (o : Ordering) (due : Bool) (kept too_many next : Answer) → AnswerEnds kept → AnswerEnds too_many → AnswerEnds next → AnswerEnds (answer_by o due kept too_many next)
by-ends Less due kept too_many next one two three = one
by-ends Greater due kept too_many next one two three = two
by-ends Equal false kept too_many next one two three = tt
by-ends Equal true kept too_many next one two three = three

pub answer-ends : (rules : List Rule) (grants : List Grant) (ask : Ask) → AllByRecursion RuleIsTyped rules → AllByRecursion GrantIsTyped grants → AnswerEnds (answer_of rules grants ask)
answer-ends rules grants ask rules_typed typed = by-ends (nat_cmp ask.have (granted_to ask.article ask.site.0 grants)) ask.due
    (kept_answer (find (is_numbered ask.article ask.site.0 (ask.have + 1)) grants)) (Err (TooMany (granted_to ask.article ask.site.0 grants))) (ruled_answer (rule_of rules ask.article) ask.site.0 (ask.have + 1) (greatest_end ask.article grants))
    (kept-ends (find (is_numbered ask.article ask.site.0 (ask.have + 1)) grants) (all-find GrantIsTyped (is_numbered ask.article ask.site.0 (ask.have + 1)) grants typed)) tt
    (ruled-ends ask.site.0 (ask.have + 1) (greatest_end ask.article grants) (rule_of rules ask.article) (all-find RuleIsTyped (λ (rule : Rule). rule.article == ask.article) rules rules_typed))

-- The book.

pub record BookFits (rules : List Rule) (grants : List Grant) : Type 0 where
  pub book : IsBook rules grants
  pub typed : AllByRecursion GrantIsTyped grants
  pub room : (article site : ℕ) → granted_to article site grants ≤ greatest_end article grants

-- one more grant
new-typed : (grants : List Grant) (g : Grant) → ((article site : ℕ) → granted_to article site grants ≤ greatest_end article grants) → IsNext grants g → FitsSigned w64 g.range.end → GrantIsTyped g
new-typed grants g room next ends =
    let one : FitsSigned w64 (pos 1) = omega (arith, signed_arith) in
    let few = room g.article g.site.0 in
    let behind = next.behind in
    let number = next.number in
    let rises = natural-rises g.range.begin g.range.end next.values.some in
    let low = natural-low g.range.end ends in
    ((within (pos 1) g.range.end g.range.begin one ends next.values.from_one next.values.some, ends), omega (arith, few, behind, number, rises, low))

room-step : (b c : Bool) (new old next most end : ℕ) → new ≡ cond (b && c) 1 0 + old → next ≡ (if b then max end most else most) → old ≤ most → (b ≡ true → most + 1 ≤ end) → new ≤ next
room-step true true new old next most end count up few behind = (let more = behind refl in grind (arith, nat_tests, count, up, few, more))
room-step true false new old next most end count up few behind = grind (arith, nat_tests, count, up, few)
room-step false c new old next most end count up few behind = omega (arith, count, up, few)

with-room : (grants : List Grant) (g : Grant) → ((article site : ℕ) → granted_to article site grants ≤ greatest_end article grants) → IsNext grants g → (article site : ℕ) → granted_to article site (with_grant grants g) ≤ greatest_end article (with_grant grants g)
with-room grants g room next article site = room-step (g.article == article) (g.site.0 == site) (granted_to article site (with_grant grants g)) (granted_to article site grants) (greatest_end article (with_grant grants g)) (greatest_end article grants) (natural g.range.end)
    (count_by-with_grant (is_of article site) g grants) (greatest_end-with_grant article g grants) (room article site)
    (λ is. (let same : g.article ≡ article = grind (arith, nat_tests, is) in
    let behind = next.behind in
    let rises = natural-rises g.range.begin g.range.end next.values.some in
    subst (λ (k : ℕ). greatest_end k grants + 1 ≤ natural g.range.end) same (omega (arith, behind, rises))))

with-next : (rules : List Rule) (grants : List Grant) (g : Grant) → BookFits rules grants → IsNext grants g → FitsSigned w64 g.range.end → BookFits rules (with_grant grants g)
with-next rules grants g f next ends = record {
  book = book-with_next rules grants g f.book next;
  typed = all-with_grant GrantIsTyped g (new-typed grants g f.room next ends) grants f.typed;
  room = with-room grants g f.room next;
}

-- the grants are more, and what is told of them is typed
abbrev pub AnswerIsTyped : Answer → Type 0
AnswerIsTyped (Ok (Granted number range)) = IsRange range × (number < 2 ^ 64)
AnswerIsTyped (Ok (Kept number range)) = IsRange range × (number < 2 ^ 64)
AnswerIsTyped answer = Unit {0}

abbrev pub Rises : List Grant → List Grant → Type 0
Rises grants more = (article site : ℕ) → granted_to article site grants ≤ granted_to article site more

pub record GoesOn (rules : List Rule) (grants more : List Grant) (answer : Answer) : Type 0 where
  pub fits : BookFits rules more
  pub rises : Rises grants more
  pub told : AnswerIsTyped answer

with-rises : (grants : List Grant) (g : Grant) → Rises grants (with_grant grants g)
with-rises grants g article site = let count = count_by-with_grant (is_of article site) g grants in omega (arith, count)

answer-goes_on : (rules : List Rule) (grants : List Grant) (ask : Ask) (answer : Answer) → BookFits rules grants → IsNextIfAny grants (new_grant ask answer) → AnswerEnds answer → GoesOn rules grants (grants_after grants ask answer) answer
answer-goes_on rules grants ask (Ok (Granted number range)) f next ends =
    let g : Grant = record { article = ask.article; site = ask.site; number = number; range = range } in
    record { fits = with-next rules grants g f next ends; rises = with-rises grants g; told = new-typed grants g f.room next ends }
answer-goes_on rules grants ask (Ok (Kept number range)) f next ends = record { fits = f; rises = λ article site. omega arith; told = ends }
answer-goes_on rules grants ask (Ok NotDue) f next ends = record { fits = f; rises = λ article site. omega arith; told = tt }
answer-goes_on rules grants ask (Err fault) f next ends = record { fits = f; rises = λ article site. omega arith; told = tt }

pub goes-on : (rules : List Rule) (grants : List Grant) (ask : Ask) → AllByRecursion RuleIsTyped rules → BookFits rules grants → GoesOn rules grants (grants_with grants (plan_of rules grants ask)) (answer_of rules grants ask)
goes-on rules grants ask typed f = answer-goes_on rules grants ask (answer_of rules grants ask) f (answer_follows rules grants ask f.book) (answer-ends rules grants ask typed f.typed)

-- Several asks, one after the other.
pub record AllGoOn (rules : List Rule) (grants more : List Grant) (plans : List GrantPlan) : Type 0 where
  pub fits : BookFits rules more
  pub rises : Rises grants more
  pub told : AllByRecursion (λ (plan : GrantPlan). AnswerIsTyped plan.answer) plans

pub all-go_on : (rules : List Rule) (grants : List Grant) (asks : List Ask) → AllByRecursion RuleIsTyped rules → BookFits rules grants → AllGoOn rules grants (grants_with_all grants (plans_of rules grants asks)) (plans_of rules grants asks)
all-go_on rules grants [] typed f = record { fits = f; rises = λ article site. omega arith; told = tt }
all-go_on rules grants (ask ∷ asks) typed f =
    let first = goes-on rules grants ask typed f in
    let rest = all-go_on rules (grants_with grants (plan_of rules grants ask)) asks typed first.fits in
    record {
      fits = rest.fits;
      rises = λ article site. (let one = first.rises article site in let more = rest.rises article site in omega (arith, one, more));
      told = (first.told, rest.told);
    }
