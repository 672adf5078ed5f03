-- A grant that gives a range gives its begin, and no value is given twice: so a range that was granted to someone, and of which each
-- value was granted to a site, was granted to this site.
use Rattle.std.specs.Cmp.{signed_Decides}
use Rattle.std.specs.List.{AllByRecursion}
use Rattle.std.specs.Ordering.{int_eq}
use Rattle.std.specs.Prelude.{Bool, List, [], cond, count_by, false, refl, true, ◌&&◌, ◌+◌, ◌==◌, ◌≡◌, ◌≤ℤ◌, ◌≤◌, ◌∷◌, ℕ, ℤ}
use Rattle.std.proofs.Common.{ap, arith, subst, sym, ◌∙◌}
use Rattle.std.proofs.lemmas.Bool.Decides.{nat_tests}
use Rattle.std.proofs.lemmas.Int.{ints}
use Rattle.merge_ident.specs.Grants.{AreDisjoint, IsGranted, gives, is_in}
use Rattle.merge_ident.specs.declared.grants.Grant.{Grant}
use Rattle.merge_ident.specs.declared.grants.Range.{Range}
use Rattle.merge_ident.proofs.Stored.{and-first, and-second, both_true}
use Rattle.merge_model.proofs.Lists.Tests.{number-itself, numbers-same}
use Rattle.merge_laws.specs.Facts.Identities.{gives_to}
use Rattle.merge_laws.proofs.Identities.IdentityCalls.{counts-cons}
use Rattle.merge_laws.proofs.Received.Subscribing.{number-decided, same_number}
use Rattle.merge_promises.specs.GrantedRanges.{gives_range, same_range}

-- a range of an article that was granted, to whomever
abbrev pub IsWhole : List Grant → ℕ → Range → Type 0
IsWhole grants article range = (site : ℕ) × (1 ≤ count_by (gives_range site article range) grants)

-- Of one grant.

record IsRangeOf (site article : ℕ) (range : Range) (grant : Grant) : Type 0 where
  pub site_is : grant.site.0 ≡ site
  pub article_is : grant.article ≡ article
  pub begins : grant.range.begin ≡ range.begin
  pub ends : grant.range.end ≡ range.end

range-is : (site article : ℕ) (range : Range) (grant : Grant) → gives_range site article range grant ≡ true → IsRangeOf site article range grant
range-is site article range grant is =
    let rest : ((grant.article == article) && same_range grant.range range) ≡ true = and-second (grant.site.0 == site) ((grant.article == article) && same_range grant.range range) is in
    let both : same_range grant.range range ≡ true = and-second (grant.article == article) (same_range grant.range range) rest in
    record {
      site_is = numbers-same grant.site.0 site (and-first (grant.site.0 == site) ((grant.article == article) && same_range grant.range range) is);
      article_is = numbers-same grant.article article (and-first (grant.article == article) (same_range grant.range range) rest);
      begins = (signed_Decides grant.range.begin range.begin).0 (and-first (int_eq grant.range.begin range.begin) (int_eq grant.range.end range.end) both);
      ends = (signed_Decides grant.range.end range.end).0 (and-second (int_eq grant.range.begin range.begin) (int_eq grant.range.end range.end) both);
    }

equal-test : (a b : ℕ) → a ≡ b → (a == b) ≡ true
equal-test a b same = subst (λ (n : ℕ). (a == n) ≡ true) same (number-itself a)

pub range-itself : (grant : Grant) (site article : ℕ) → grant.site.0 ≡ site → grant.article ≡ article → gives_range site article grant.range grant ≡ true
range-itself grant site article site_is article_is =
    both_true (grant.site.0 == site) ((grant.article == article) && same_range grant.range grant.range) (equal-test grant.site.0 site site_is)
    (both_true (grant.article == article) (same_range grant.range grant.range) (equal-test grant.article article article_is)
    (both_true (int_eq grant.range.begin grant.range.begin) (int_eq grant.range.end grant.range.end) ((signed_Decides grant.range.begin grant.range.begin).1 refl) ((signed_Decides grant.range.end grant.range.end).1 refl)))

-- a range that has values has its begin
begin-in : (range : Range) → range.begin ≤ℤ range.end → is_in range.begin range ≡ true
begin-in range some = grind (arith, ints, nat_tests, some)

gives-begin : (site article : ℕ) (range : Range) (grant : Grant) → range.begin ≤ℤ range.end → IsRangeOf site article range grant → gives article range.begin grant ≡ true
gives-begin site article range grant some is =
    both_true (grant.article == article) (is_in range.begin grant.range) (equal-test grant.article article is.article_is)
    (subst (λ (e : ℤ). is_in range.begin (record { begin = grant.range.begin; end = e }) ≡ true) (sym is.ends)
    (subst (λ (b : ℤ). is_in range.begin (record { begin = b; end = range.end }) ≡ true) (sym is.begins) (begin-in range some)))

pub one-counts : (g : Bool) → g ≡ true → 1 ≤ cond g 1 0
one-counts true is = omega arith
one-counts false is = absurd cc

pub and-counts : (a g : Bool) → 0 + cond (a && g) 1 0 ≤ cond g 1 0
and-counts true g = omega arith
and-counts false g = omega arith

one-gives : (b : Bool) (site article : ℕ) (range : Range) (grant : Grant) → range.begin ≤ℤ range.end → gives_range site article range grant ≡ b → cond b 1 0 ≤ cond (gives article range.begin grant) 1 0
one-gives true site article range grant some is = one-counts (gives article range.begin grant) (gives-begin site article range grant some (range-is site article range grant is))
one-gives false site article range grant some is = omega arith

one-apart : (b : Bool) (site other article : ℕ) (range : Range) (grant : Grant) → range.begin ≤ℤ range.end → (site ≡ other → ⊥) → gives_range other article range grant ≡ b
    → cond b 1 0 + cond (gives_to site article range.begin grant) 1 0 ≤ cond (gives article range.begin grant) 1 0
one-apart true site other article range grant some differs is =
    let facts : IsRangeOf other article range grant = range-is other article range grant is in
    let elsewhere : (grant.site.0 == site) ≡ false = (let apart : grant.site.0 ≡ site → ⊥ = λ same. differs (sym same ∙ facts.site_is) in grind (arith, nat_tests, apart)) in
    let none : gives_to site article range.begin grant ≡ false = ap (λ (b : Bool). b && gives article range.begin grant) elsewhere in
    let given : 1 ≤ cond (gives article range.begin grant) 1 0 = one-counts (gives article range.begin grant) (gives-begin other article range grant some facts) in
    subst (λ (c : Bool). 1 + cond c 1 0 ≤ cond (gives article range.begin grant) 1 0) (sym none) (omega (arith, given))
one-apart false site other article range grant some differs is = and-counts (grant.site.0 == site) (gives article range.begin grant)

-- Of all grants.

range-gives : (site article : ℕ) (range : Range) → range.begin ≤ℤ range.end → (grants : List Grant) → count_by (gives_range site article range) grants ≤ count_by (gives article range.begin) grants
range-gives site article range some [] = omega arith
range-gives site article range some (grant ∷ grants) =
    omega (arith, range-gives site article range some grants, one-gives (gives_range site article range grant) site article range grant some refl, counts-cons (gives_range site article range) grant grants, counts-cons (gives article range.begin) grant grants)

ranges-apart : (site other article : ℕ) (range : Range) → range.begin ≤ℤ range.end → (site ≡ other → ⊥) → (grants : List Grant)
    → count_by (gives_range other article range) grants + count_by (gives_to site article range.begin) grants ≤ count_by (gives article range.begin) grants
ranges-apart site other article range some differs [] = omega arith
ranges-apart site other article range some differs (grant ∷ grants) =
    omega (
      arith,
      ranges-apart site other article range some differs grants,
      one-apart (gives_range other article range grant) site other article range grant some differs refl,
      counts-cons (gives_range other article range) grant grants,
      counts-cons (gives_to site article range.begin) grant grants,
      counts-cons (gives article range.begin) grant grants,
    )

-- a range that was granted has values
some-at : (b : Bool) (site article : ℕ) (range : Range) (grant : Grant) (rest : ℕ) → gives_range site article range grant ≡ b → IsGranted grant → 1 ≤ cond b 1 0 + rest → (1 ≤ rest → range.begin ≤ℤ range.end) → range.begin ≤ℤ range.end
some-at true site article range grant rest is granted up later =
    let facts : IsRangeOf site article range grant = range-is site article range grant is in
    subst (λ (e : ℤ). range.begin ≤ℤ e) facts.ends (subst (λ (b : ℤ). b ≤ℤ grant.range.end) facts.begins granted.some)
some-at false site article range grant rest is granted up later = later (omega (arith, up))

range-some : (site article : ℕ) (range : Range) (grants : List Grant) → AllByRecursion IsGranted grants → 1 ≤ count_by (gives_range site article range) grants → range.begin ≤ℤ range.end
range-some site article range [] all up = absurd (omega (arith, up))
range-some site article range (grant ∷ grants) all up =
    some-at (gives_range site article range grant) site article range grant (count_by (gives_range site article range) grants) refl all.0 (omega (arith, up, counts-cons (gives_range site article range) grant grants))
    (λ rest. range-some site article range grants all.1 rest)

granted-by : (b : Bool) (grants : List Grant) → AreDisjoint grants → (site other article : ℕ) (range : Range) → same_number site other b → range.begin ≤ℤ range.end → 1 ≤ count_by (gives_range other article range) grants
    → 1 ≤ count_by (gives_to site article range.begin) grants → 1 ≤ count_by (gives_range site article range) grants
granted-by true grants disjoint site other article range same some up given = subst (λ (n : ℕ). 1 ≤ count_by (gives_range n article range) grants) (sym same) up
granted-by false grants disjoint site other article range differs some up given = absurd (omega (arith, ranges-apart site other article range some differs grants, disjoint article range.begin, up, given))

pub granted-whole : (grants : List Grant) → AreDisjoint grants → AllByRecursion IsGranted grants → (site article : ℕ) (range : Range) → IsWhole grants article range
    → (is_in range.begin range ≡ true → 1 ≤ count_by (gives_to site article range.begin) grants) → count_by (gives_range site article range) grants ≡ 1
granted-whole grants disjoint all site article range whole given =
    let some : range.begin ≤ℤ range.end = range-some whole.0 article range grants all whole.1 in
    let up : 1 ≤ count_by (gives_range site article range) grants = granted-by (site == whole.0) grants disjoint site whole.0 article range (number-decided site whole.0) some whole.1 (given (begin-in range some)) in
    omega (arith, up, range-gives site article range some grants, disjoint article range.begin)
