-- What is planned can be made.
use Rattle.std.proofs.Common.{◌≡◌, ℕ, ◌+◌, ◌<◌, ◌≤◌, ◌≤ℤ◌, ◌==◌, pos, Bool, true, false, List, [], ◌∷◌, ◌++◌, All, Option, Some, None, Ok, Err, IfSome, if◌then◌else◌, nat_le, cond, ℤ, negsuc, length, get_or, drop, subst, refl, sym, arith, add-one, drop-cons, append_assoc, append-nil, length-append}
use Rattle.std.proofs.lemmas.Grind.{common_steps}
use Rattle.std.specs.Option.{option_to_list}
use Rattle.std.specs.declared.cmp.Ordering.{Ordering}
use Rattle.std.specs.declared.cmp.Ordering.TheVariants.{Less, Equal, Greater}
use Rattle.std.proofs.lemmas.Cmp.{ranked}
use Rattle.std.proofs.lemmas.Int.{ints}
use Rattle.std.proofs.lemmas.Bool.Decides.{nat_tests}
use Rattle.std.proofs.lemmas.List.Elements.{recursion_from_All, All-nil, All-push}
use Rattle.std.specs.List.{AllByRecursion}
use Rattle.merge_ident.specs.declared.grants.Grant.{Grant}
use Rattle.merge_ident.specs.declared.grants.Rule.{Rule}
use Rattle.merge_ident.specs.declared.grants.Ask.{Ask}
use Rattle.merge_ident.specs.declared.grants.GrantPlan.{GrantPlan}
use Rattle.merge_ident.specs.declared.grants.IdentityFault.{IdentityFault}
use Rattle.merge_ident.specs.declared.grants.IdentityFault.TheVariants.{NoRange}
use Rattle.merge_ident.specs.declared.grants.GrantAnswer.TheVariants.{Granted}
use Rattle.merge_ident.specs.Grants.{natural, granted_to, greatest_end, with_grant, with_grants, IsGranted}
use Rattle.merge_ident.specs.Answers.{rule_of, size_for, next_begin, next_end, ruled_answer, kept_answer, answer_by, answer_of, new_grant, with_new, plan_of, plans_of, grants_with, grants_with_all}
use Rattle.merge_ident.specs.Books.{IsRule, IsBook, IsNext, IsNextIfAny, new_count, room_for, room_for_all, AllFollow}
use Rattle.merge_ident.proofs.Order.{book-with_next}

rule-by_test : (b : Bool) (rule : Rule) (o : Option Rule) → IsRule rule → IfSome o IsRule → IfSome (cond b (Some rule) o) IsRule
rule-by_test true rule o here rest = here
rule-by_test false rule o here rest = rest

-- the rule that is found is one of the rules
rule_fits : (rules : List Rule) (article : ℕ) → AllByRecursion IsRule rules → IfSome (rule_of rules article) IsRule
rule_fits [] article fit = tt
rule_fits (rule ∷ rules) article fit = rule-by_test (rule.article == article) rule (rule_of rules article) fit.0 (rule_fits rules article fit.1)

seed_from_one : (rule : Rule) → IsRule rule → 1 ≤ natural rule.seed
seed_from_one rule fits = from_one rule.seed fits.seed
  where
    from_one : (z : ℤ) → pos 1 ≤ℤ z → 1 ≤ natural z
    from_one (pos n) some = omega (arith, ints)
    from_one (negsuc n) some = absurd (omega (arith, ints))

begins_behind : (rule : Rule) (greatest : ℕ) → IsRule rule → greatest + 1 ≤ next_begin rule greatest
begins_behind rule greatest fits = grind (arith, nat_tests, seed_from_one rule fits)

size_is_some : (rule : Rule) (site : ℕ) → IsRule rule → 1 ≤ size_for rule site
size_is_some rule site fits = grind (arith, nat_tests, fits.range, fits.pub_range)

next-by_test : (b : Bool) (rule : Rule) (ask : Ask) (grants : List Grant) (fault : IdentityFault) → IsRule rule → ask.have ≡ granted_to ask.article ask.site.0 grants
    → IsNextIfAny grants (new_grant ask (if b then Ok (Granted (ask.have + 1) (record { begin = pos (next_begin rule (greatest_end ask.article grants)); end = pos (next_end rule ask.site.0 (greatest_end ask.article grants)) })) else Err fault))
next-by_test true rule ask grants fault fits has =
    let behind = begins_behind rule (greatest_end ask.article grants) fits in
    let some = size_is_some rule ask.site.0 fits in
    record {
      values = record { from_one = omega (arith, ints); some = omega (arith, ints) };
      behind = behind;
      number = omega arith;
    }
next-by_test false rule ask grants fault fits has = tt

table_follows : (o : Ordering) (due : Bool) (rule : Option Rule) (found : Option Grant) (fault : IdentityFault) (ask : Ask) (grants : List Grant) → (o ≡ Equal → ask.have ≡ granted_to ask.article ask.site.0 grants)
    → IfSome rule IsRule → IsNextIfAny grants (new_grant ask (answer_by o due (kept_answer found) (Err fault) (ruled_answer rule ask.site.0 (ask.have + 1) (greatest_end ask.article grants))))
table_follows Less due rule None fault ask grants has fits = tt
table_follows Less due rule (Some g) fault ask grants has fits = tt
table_follows Greater due rule found fault ask grants has fits = tt
table_follows Equal false rule found fault ask grants has fits = tt
table_follows Equal true None found fault ask grants has fits = tt
table_follows Equal true (Some rule) found fault ask grants has fits =
    next-by_test (nat_le (next_end rule ask.site.0 (greatest_end ask.article grants)) (natural rule.greatest)) rule ask grants (NoRange (next_begin rule (greatest_end ask.article grants)) rule.greatest) fits (has refl)

-- what an ask is granted is the next grant of its article and site
pub answer_follows : (rules : List Rule) (grants : List Grant) (ask : Ask) → IsBook rules grants → IsNextIfAny grants (new_grant ask (answer_of rules grants ask))
answer_follows rules grants ask book =
    table_follows _ ask.due (rule_of rules ask.article) _ _ ask grants
    (λ equal. ranked ask.have (granted_to ask.article ask.site.0 grants) Equal (sym equal))
    (rule_fits rules ask.article (recursion_from_All IsRule rules book.rules_fit))

book-with_any : (rules : List Rule) (grants : List Grant) (o : Option Grant) → IsBook rules grants → IsNextIfAny grants o → IsBook rules (with_new grants o)
book-with_any rules grants None book next = book
book-with_any rules grants (Some g) book next = book-with_next rules grants g book next

pub book-with_plan : (rules : List Rule) (grants : List Grant) (ask : Ask) → IsBook rules grants → IsBook rules (grants_with grants (plan_of rules grants ask))
book-with_plan rules grants ask book = book-with_any rules grants (new_grant ask (answer_of rules grants ask)) book (answer_follows rules grants ask book)

-- the plans of several asks follow, one after the other
pub plans_follow : (rules : List Rule) (grants : List Grant) (asks : List Ask) → IsBook rules grants → AllFollow grants (plans_of rules grants asks)
plans_follow rules grants [] book = tt
plans_follow rules grants (ask ∷ asks) book =
    (answer_follows rules grants ask book, plans_follow rules (grants_with grants (plan_of rules grants ask)) asks (book-with_plan rules grants ask book))

new_count_le : (o : Option Grant) → new_count o ≤ 1
new_count_le None = omega arith
new_count_le (Some g) = omega arith

pub room_for_le : (planned : GrantPlan) → room_for planned ≤ 1
room_for_le planned = new_count_le (new_grant planned.ask planned.answer)

pub next_if_some : (grants : List Grant) (o : Option Grant) (g : Grant) → o ≡ Some g → IsNextIfAny grants o → IsNext grants g
next_if_some grants None g is next = cc
next_if_some grants (Some h) g is next =
    let P : Grant → Type 0 = IsNext grants in
    let same : h ≡ g = cc in subst P same next

pub grants_with_all-push : (grants : List Grant) (plans : List GrantPlan) (p : GrantPlan) → grants_with_all grants (plans ++ p ∷ []) ≡ grants_with (grants_with_all grants plans) p
grants_with_all-push grants [] p = refl
grants_with_all-push grants (q ∷ plans) p = grants_with_all-push (grants_with grants q) plans p

room_for_all-push : (plans : List GrantPlan) (p : GrantPlan) → room_for_all (plans ++ p ∷ []) ≡ room_for_all plans + room_for p
room_for_all-push [] p = omega arith
room_for_all-push (q ∷ plans) p = omega (arith, room_for_all-push plans p)

with_grants-push_any : (grants news : List Grant) (o : Option Grant) → with_grants grants (news ++ option_to_list o) ≡ with_new (with_grants grants news) o
with_grants-push_any grants [] None = refl
with_grants-push_any grants [] (Some g) = refl
with_grants-push_any grants (x ∷ news) o = with_grants-push_any (with_grant grants x) news o

length-push_any : (news : List Grant) (o : Option Grant) → length (news ++ option_to_list o) ≡ length news + new_count o
length-push_any news None = simp length-append (omega arith)
length-push_any news (Some g) = simp length-append (omega arith)

ranges-push_any : (grants news : List Grant) (o : Option Grant) → All IsGranted news → IsNextIfAny grants o → All IsGranted (news ++ option_to_list o)
ranges-push_any grants news None all next = rw append-nil all
ranges-push_any grants news (Some g) all next = All-push IsGranted news g all next.values

-- the plans of the first asks, and the grants that they make
pub record ArePlanned (rules : List Rule) (grants : List Grant) (asks : List Ask) (plans : List GrantPlan) (news : List Grant) (at : ℕ) : Type 0 where
  pub plans_are : plans ++ plans_of rules (with_grants grants news) (drop at asks) ≡ plans_of rules grants asks
  pub book : IsBook rules (with_grants grants news)
  pub ranges : All IsGranted news
  pub count : room_for_all plans ≡ length news

pub planned_none : (rules : List Rule) (grants : List Grant) (asks : List Ask) → IsBook rules grants → ArePlanned rules grants asks [] [] 0
planned_none rules grants asks book = record { plans_are = refl; book = book; ranges = All-nil IsGranted; count = refl }

next_ask : (asks : List Ask) (at : ℕ) (d : Ask) → at < length asks → drop at asks ≡ get_or asks at d ∷ drop (at + 1) asks
next_ask asks at d in_asks = rw add-one (drop-cons asks at d in_asks)

pub planned_all : (rules : List Rule) (grants : List Grant) (asks : List Ask) (plans : List GrantPlan) (news : List Grant) (at : ℕ) → length asks ≤ at → ArePlanned rules grants asks plans news at → plans ≡ plans_of rules grants asks
planned_all rules grants asks plans news at all so_far = grind (arith, common_steps, so_far.plans_are)

pub planned_more : (rules : List Rule) (grants : List Grant) (asks : List Ask) (plans : List GrantPlan) (news : List Grant) (at : ℕ) (d : Ask) → at < length asks → ArePlanned rules grants asks plans news at
    → let p = plan_of rules (with_grants grants news) (get_or asks at d) in ArePlanned rules grants asks (plans ++ p ∷ []) (news ++ option_to_list (new_grant p.ask p.answer)) (at + 1)
planned_more rules grants asks plans news at d in_asks so_far =
    let ask = get_or asks at d in
    let p = plan_of rules (with_grants grants news) ask in
    let follows = answer_follows rules (with_grants grants news) ask so_far.book in
    record {
      plans_are = rw (append_assoc plans (p ∷ []) _, with_grants-push_any grants news (new_grant ask p.answer)) (rw (next_ask asks at d in_asks) at so_far.plans_are);
      book = rw (with_grants-push_any grants news (new_grant ask p.answer)) (book-with_plan rules (with_grants grants news) ask so_far.book);
      ranges = ranges-push_any (with_grants grants news) news (new_grant ask p.answer) so_far.ranges follows;
      count = omega (arith, room_for_all-push plans p, length-push_any news (new_grant ask p.answer), so_far.count);
    }
