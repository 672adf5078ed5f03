-- The greatest number of a site in a list of changes, and in the lineage that tells of them.
use Rattle.std.specs.Prelude.{◌≡◌, ◌≤◌, ◌==◌, ◌&&◌, ◌||◌, ◌++◌, ℕ, List, [], ◌∷◌, Bool, true, false, Option, Some, None, refl, if◌then◌else◌, max, unwrap_or}
use Rattle.std.specs.List.{fold}
use Rattle.std.proofs.Common.{arith, subst}
use Rattle.std.proofs.lemmas.Bool.Decides.{nat_tests}
use Rattle.merge_types.specs.declared.identifiers.Dot.{Dot}
use Rattle.merge_lineage.specs.Lineage.{knows, number_at, number_of}
use Rattle.merge_model.specs.History.{has}
use Rattle.merge_laws.specs.Invariants.Seen.{greatest_in}
use Rattle.merge_laws.specs.Facts.Standing.{Tells}
use Rattle.merge_laws.proofs.Pasts.DotTests.{dot-first}
use Rattle.merge_laws.proofs.Numbered.Through.{from-step}

abbrev higher : ℕ → ℕ → Dot → ℕ
higher site most dot = if dot.site.0 == site then max most dot.number else most

greatest-from : (site most : ℕ) (dots : List Dot) → fold (higher site) most dots ≡ max most (greatest_in dots site)
greatest-from site most [] = grind (arith, nat_tests)
greatest-from site most (dot ∷ dots) = from-step (dot.site.0 == site) most dot.number (greatest_in dots site) (fold (higher site) (higher site most dot) dots) (greatest_in (dot ∷ dots) site)
    (greatest-from site (higher site most dot) dots) (greatest-from site (higher site 0 dot) dots)

greatest-more : (site : ℕ) (dot : Dot) (dots : List Dot) → greatest_in (dot ∷ dots) site ≡ max (higher site 0 dot) (greatest_in dots site)
greatest-more site dot dots = greatest-from site (higher site 0 dot) dots

pub greatest-both : (site : ℕ) (xs ys : List Dot) → greatest_in (xs ++ ys) site ≡ max (greatest_in xs site) (greatest_in ys site)
greatest-both site [] ys = grind (arith, nat_tests)
greatest-both site (x ∷ xs) ys =
    let rest = greatest-both site xs ys in
    let first = greatest-more site x xs in
    let all = greatest-more site x (xs ++ ys) in
    grind (arith, nat_tests, rest, first, all)

-- It is at least each number of the site, and no greater than what bounds them all.

either-least : (same there : Bool) (number most rest all : ℕ) → (same || there) ≡ true → all ≡ max most rest → (same ≡ true → number ≤ most) → (there ≡ true → number ≤ rest) → number ≤ all
either-least true there number most rest all is e one other = let low : number ≤ most = one refl in grind (arith, nat_tests, e, low)
either-least false there number most rest all is e one other = let low : number ≤ rest = other is in grind (arith, nat_tests, e, low)

has-greatest : (dots : List Dot) (dot : Dot) → has dots dot ≡ true → dot.number ≤ greatest_in dots dot.site.0
has-greatest [] dot is = absurd (grind (arith, is))
has-greatest (first ∷ dots) dot is = either-least ((first.site.0 == dot.site.0) && (first.number == dot.number)) (has dots dot) dot.number (higher dot.site.0 0 first) (greatest_in dots dot.site.0) (greatest_in (first ∷ dots) dot.site.0) is
    (greatest-more dot.site.0 first dots) (λ same. grind (arith, nat_tests, same)) (λ there. has-greatest dots dot there)

first-bound : (own : Bool) (number rest all bound : ℕ) → all ≡ max (if own then max 0 number else 0) rest → (own ≡ true → number ≤ bound) → rest ≤ bound → all ≤ bound
first-bound true number rest all bound e low more = let first : number ≤ bound = low refl in grind (arith, nat_tests, e, first, more)
first-bound false number rest all bound e low more = grind (arith, nat_tests, e, more)

has-rest : (first dot : Dot) (dots : List Dot) → has dots dot ≡ true → has (first ∷ dots) dot ≡ true
has-rest first dot dots is = grind (arith, is)

greatest-bound : (site bound : ℕ) (dots : List Dot) → ((dot : Dot) → has dots dot ≡ true → dot.site.0 ≡ site → dot.number ≤ bound) → greatest_in dots site ≤ bound
greatest-bound site bound [] each = omega arith
greatest-bound site bound (dot ∷ dots) each = first-bound (dot.site.0 == site) dot.number (greatest_in dots site) (greatest_in (dot ∷ dots) site) bound (greatest-more site dot dots)
    (λ own. each dot (dot-first dot dots) (grind (arith, nat_tests, own))) (greatest-bound site bound dots (λ d there same. each d (has-rest dot d dots there) same))

number-low : (lineage known : List Dot) (site : ℕ) (found : Option ℕ) → number_at lineage site ≡ found → Tells lineage known → unwrap_or found 0 ≤ greatest_in known site
number-low lineage known site None at t = omega arith
number-low lineage known site (Some number) at t = has-greatest known (record { site = record { 0 = site }; number = number }) (t.reached (record { site = record { 0 = site }; number = number }) at)

known-low : (lineage : List Dot) (dot : Dot) → knows lineage dot ≡ true → dot.number ≤ number_of lineage dot.site.0
known-low lineage dot is = grind (arith, nat_tests, is)

-- a lineage that tells of what is known has the greatest number of each site
pub told-greatest : (lineage known : List Dot) (site : ℕ) → Tells lineage known → greatest_in known site ≡ number_of lineage site
told-greatest lineage known site t =
    let up : greatest_in known site ≤ number_of lineage site = greatest-bound site (number_of lineage site) known (λ dot there same. subst (λ (n : ℕ). dot.number ≤ number_of lineage n) same (known-low lineage dot (t.below dot there))) in
    let low : number_of lineage site ≤ greatest_in known site = number-low lineage known site (number_at lineage site) refl t in
    omega (arith, up, low)

pub known-number : (lineage known : List Dot) (dot : Dot) → Tells lineage known → has known dot ≡ true → dot.number ≤ number_of lineage dot.site.0
known-number lineage known dot t there = known-low lineage dot (t.below dot there)
