-- The ranges that a site is granted are by the rules of its articles, and leave those of the publisher.
use Rattle.std.specs.Prelude.{◌≡◌, ◌&&◌, ◌==◌, ◌+◌, ◌∷◌, ◌≤◌, ℕ, zero, suc, All, Bool, true, false, IsSome, List, Ok, Err, [], Option, Some, None, filter_map, map, option_map, refl, cond, is_some, slice_get}
use Rattle.std.specs.List.{AllByRecursion, cons_option, enumerate_from, list_all, list_any}
use Rattle.std.specs.Option.{option_map_or}
use Rattle.std.proofs.Common.{arith, sym, ap, ◌∙◌, subst}
use Rattle.std.proofs.lemmas.Bool.Decides.{nat_tests}
use Rattle.std.proofs.lemmas.List.Elements.{All-from_recursion, recursion_from_All}
use Rattle.merge_types.specs.declared.identifiers.SiteId.{SiteId}
use Rattle.merge_ident.specs.Answers.{Answer, grants_with, grants_with_all, new_grant, plan_of, plans_of, rule_of, with_new}
use Rattle.merge_ident.specs.Grants.{granted_to, is_of}
use Rattle.merge_ident.specs.declared.grants.Ask.{Ask}
use Rattle.merge_ident.specs.declared.grants.Grant.{Grant}
use Rattle.merge_ident.specs.declared.grants.GrantAnswer.TheVariants.{Granted, Kept, NotDue}
use Rattle.merge_ident.specs.declared.grants.GrantPlan.{GrantPlan}
use Rattle.merge_ident.specs.declared.grants.Rule.{Rule}
use Rattle.merge_ident.proofs.Added.{count_by-with_grant}
use Rattle.merge_schema.specs.Places.{is_subscription}
use Rattle.merge_schema.specs.Valid.{IsValid, IsValidSubscription}
use Rattle.merge_schema.specs.declared.publication.Article.{Article}
use Rattle.merge_schema.specs.declared.publication.Identity.{Identity}
use Rattle.merge_schema.specs.declared.publication.Publication.{Publication}
use Rattle.merge_schema.specs.declared.publication.Subscription.{Subscription}
use Rattle.merge_batch.specs.Asks.{has_identity}
use Rattle.merge_batch.specs.declared.request.RangeAsk.{RangeAsk}
use Rattle.merge_batch.specs.declared.request.Want.{Want}
use Rattle.merge_model.specs.Tables.Publications.{identities, identity_of, rules_of}
use Rattle.merge_model.specs.Tables.Publications as publications
use Rattle.merge_model.specs.Publisher.PublisherRanges.{ask_by, plans, with_grants}
use Rattle.merge_model.specs.Tables.{PublisherTables}
use Rattle.merge_model.proofs.Lists.Finding.{all-weaker}
use Rattle.merge_steps.specs.Keeps.{KeepsRules}
use Rattle.merge_pub.specs.Ranging.{AreRuled}

-- Each article with an identity column has a rule.

rule-behind : (rule : Rule) (rules : List Rule) (article : ℕ) → IsSome (rule_of rules article) → IsSome (rule_of (rule ∷ rules) article)
rule-behind rule rules article there = elim (rule.article == article) as (λ (b : Bool). IsSome (let found : Option Rule = cond b (Some rule) (rule_of rules article) in found)) [ true ↦ refl | false ↦ there ]

rule-first : (rule : Rule) (rules : List Rule) (article : ℕ) → rule.article ≡ article → IsSome (rule_of (rule ∷ rules) article)
rule-first rule rules article is =
    let here : (rule.article == article) ≡ true = grind (arith, nat_tests, is) in
    subst (λ (b : Bool). IsSome (let found : Option Rule = cond b (Some rule) (rule_of rules article) in found)) (sym here) refl

abbrev rules_from : ℕ → List Article → List Rule
rules_from n articles = map publications.rule_of (filter_map identity_of (enumerate_from n articles))

behind-any : (n : ℕ) (identity : Option Identity) (rest : List Rule) (article : ℕ) → IsSome (rule_of rest article)
    → (rests : List (ℕ × Identity)) → map publications.rule_of rests ≡ rest → IsSome (rule_of (map publications.rule_of (cons_option (option_map (λ (i : Identity). (n, i)) identity) rests)) article)
behind-any n None rest article there rests is = subst (λ (rules : List Rule). IsSome (rule_of rules article)) (sym is) there
behind-any n (Some identity) rest article there rests is =
    rule-behind (publications.rule_of (n, identity)) (map publications.rule_of rests) article (subst (λ (rules : List Rule). IsSome (rule_of rules article)) (sym is) there)

first-any : (n : ℕ) (identity : Option Identity) (rests : List (ℕ × Identity)) → is_some identity ≡ true → IsSome (rule_of (map publications.rule_of (cons_option (option_map (λ (i : Identity). (n, i)) identity) rests)) n)
first-any n None rests none = absurd cc
first-any n (Some identity) rests some = rule-first (publications.rule_of (n, identity)) (map publications.rule_of rests) n refl

ruled-from : (articles : List Article) (n place : ℕ) → option_map_or (λ (article : Article). is_some article.identity) (slice_get articles place) false ≡ true → IsSome (rule_of (rules_from n articles) (n + place))
ruled-from [] n place has = absurd cc
ruled-from (article ∷ articles) n zero has =
    let same : n + zero ≡ n = omega arith in
    subst (λ (at : ℕ). IsSome (rule_of (rules_from n (article ∷ articles)) at)) (sym same) (first-any n article.identity (filter_map identity_of (enumerate_from (n + 1) articles)) has)
ruled-from (article ∷ articles) n (suc place) has =
    let same : n + suc place ≡ (n + 1) + place = omega arith in
    subst (λ (at : ℕ). IsSome (rule_of (rules_from n (article ∷ articles)) at)) (sym same)
    (behind-any n article.identity (rules_from (n + 1) articles) ((n + 1) + place) (ruled-from articles (n + 1) place has) (filter_map identity_of (enumerate_from (n + 1) articles)) refl)

pub has-rule : (publication : Publication) (place : ℕ) → has_identity publication place ≡ true → IsSome (rule_of (rules_of publication) place)
has-rule publication place has =
    let same : 0 + place ≡ place = omega arith in
    subst (λ (at : ℕ). IsSome (rule_of (rules_of publication) at)) same (ruled-from publication.articles 0 place has)

and-left : (a b : Bool) → (a && b) ≡ true → a ≡ true
and-left true b is = refl
and-left false b is = is

and-right : (a b : Bool) → (a && b) ≡ true → b ≡ true
and-right true b is = is
and-right false b is = absurd cc

asks-ruled : (publication : Publication) (site : SiteId) (wants : List Want) → list_all (λ (want : Want). has_identity publication want.article) wants ≡ true
    → AllByRecursion (λ (ask : Ask). IsSome (rule_of (rules_of publication) ask.article)) (map (ask_by site) wants)
asks-ruled publication site [] all = tt
asks-ruled publication site (want ∷ wants) all = (
  has-rule publication want.article (and-left (has_identity publication want.article) (list_all (λ (w : Want). has_identity publication w.article) wants) all),
  asks-ruled publication site wants (and-right (has_identity publication want.article) (list_all (λ (w : Want). has_identity publication w.article) wants) all),
)

pub all-ruled : (publication : Publication) (m : RangeAsk) (rules : List Rule) → rules ≡ rules_of publication → AreRuled publication m → All (λ (ask : Ask). IsSome (rule_of rules ask.article)) (map (ask_by m.site) m.wants)
all-ruled publication m rules is ruled =
    subst (λ (rs : List Rule). All (λ (ask : Ask). IsSome (rule_of rs ask.article)) (map (ask_by m.site) m.wants)) (sym is)
    (All-from_recursion (λ (ask : Ask). IsSome (rule_of (rules_of publication) ask.article)) (map (ask_by m.site) m.wants) (asks-ruled publication m.site m.wants ruled))

-- The grants of another site.

other-grant : (article number : ℕ) (ask : Ask) (grant : Grant) → grant.site.0 ≡ ask.site.0 → (ask.site.0 ≡ 0 → ⊥) → is_of article 0 grant ≡ false
other-grant article number ask grant same other = grind (arith, nat_tests, same, other)

abbrev IsOf : Ask → Option Grant → Type 0
IsOf ask None = Unit {0}
IsOf ask (Some grant) = grant.site.0 ≡ ask.site.0

new-is : (ask : Ask) (answer : Answer) → IsOf ask (new_grant ask answer)
new-is ask (Ok (Granted number range)) = refl
new-is ask (Ok (Kept number range)) = tt
new-is ask (Ok NotDue) = tt
new-is ask (Err fault) = tt

other-new : (article : ℕ) (ask : Ask) (grants : List Grant) (found : Option Grant) → IsOf ask found → (ask.site.0 ≡ 0 → ⊥) → granted_to article 0 (with_new grants found) ≡ granted_to article 0 grants
other-new article ask grants None is other = refl
other-new article ask grants (Some grant) is other =
    count_by-with_grant (is_of article 0) grant grants
    ∙ ap (λ (b : Bool). cond b 1 0 + granted_to article 0 grants) (other-grant article 0 ask grant is other)
    ∙ (let none : 0 + granted_to article 0 grants ≡ granted_to article 0 grants = omega arith in none)

other-plans : (rules : List Rule) (site : SiteId) (article : ℕ) → (site.0 ≡ 0 → ⊥) → (wants : List Want) (grants : List Grant)
    → granted_to article 0 (grants_with_all grants (plans_of rules grants (map (ask_by site) wants))) ≡ granted_to article 0 grants
other-plans rules site article other [] grants = refl
other-plans rules site article other (want ∷ wants) grants =
    let planned : GrantPlan = plan_of rules grants (ask_by site want) in
    other-plans rules site article other wants (grants_with grants planned)
    ∙ other-new article (ask_by site want) grants (new_grant (ask_by site want) planned.answer) (new-is (ask_by site want) planned.answer) other

-- what a publisher keeps it keeps as another site is granted ranges
pub grants-keep : (publication : Publication) (m : RangeAsk) (p : PublisherTables) → (m.site.0 ≡ 0 → ⊥) → KeepsRules publication p → KeepsRules publication (with_grants (plans publication m p) p)
grants-keep publication m p other keeps = record {
  rows = keeps.rows;
  rising = keeps.rising;
  conflicts = keeps.conflicts;
  held = keeps.held;
  heard = λ article holder found. keeps.heard article holder found ∙ sym (other-plans (rules_of publication) m.site article other m.wants p.grants);
}

-- a site that subscribes is not the publisher
subscribed : (subscriptions : List Subscription) (site : ℕ) → AllByRecursion (λ (s : Subscription). 1 ≤ s.site.0) subscriptions → list_any (λ (s : Subscription). s.site.0 == site) subscriptions ≡ true → site ≡ 0 → ⊥
subscribed [] site all is zero_is = absurd cc
subscribed (s ∷ subscriptions) site all is zero_is =
    let here : (s.site.0 == site) ≡ false = (let low = all.0 in grind (arith, nat_tests, low, zero_is)) in
    subscribed subscriptions site all.1 (grind (arith, here, is)) zero_is

pub subscriber-other : (publication : Publication) (resolvers : ℕ) (site : ℕ) → IsValid resolvers publication → is_subscription publication site ≡ true → site ≡ 0 → ⊥
subscriber-other publication resolvers site valid is =
    subscribed publication.subscriptions site
    (all-weaker IsValidSubscription (λ (s : Subscription). 1 ≤ s.site.0) (λ s fits. fits.valid_site.0) publication.subscriptions (recursion_from_All IsValidSubscription publication.subscriptions valid.valid_subscriptions)) is
