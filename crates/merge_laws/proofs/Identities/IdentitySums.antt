-- From what each site took to what all sites took.
use Rattle.std.specs.Prelude.{◌≡◌, ◌≤◌, ◌==◌, ◌+◌, ℕ, ℤ, List, [], ◌∷◌, Bool, true, false, refl, count_by, cond}
use Rattle.std.proofs.Common.{arith, ap, ◌∙◌}
use Rattle.std.proofs.lemmas.Bool.Decides.{nat_tests}
use Rattle.merge_ident.specs.declared.grants.Grant.{Grant}
use Rattle.merge_ident.specs.Grants.{gives}
use Rattle.merge_model.specs.History.{MadeChange}
use Rattle.merge_model.specs.Laws.Promises.{takes}
use Rattle.merge_laws.specs.Facts.Identities.{takes_at, gives_to, gives_heard}
use Rattle.merge_laws.proofs.Received.Subscribing.{same_number, number-decided}
use Rattle.merge_laws.proofs.Identities.IdentityCalls.{counts-cons}

module _ (article : ℕ) (value : ℤ) where
  -- what a site has heard of is granted to it, and what is granted to a site is granted
  pub heard-granted : (site have : ℕ) (grants : List Grant) → count_by (gives_heard site article have value) grants ≤ count_by (gives_to site article value) grants
  heard-granted site have [] = omega arith
  heard-granted site have (grant ∷ grants) =
      grind (arith, nat_tests, heard-granted site have grants, counts-cons (gives_heard site article have value) grant grants, counts-cons (gives_to site article value) grant grants)

  granted-all : (site : ℕ) (grants : List Grant) → count_by (gives_to site article value) grants ≤ count_by (gives article value) grants
  granted-all site [] = omega arith
  granted-all site (grant ∷ grants) = grind (arith, nat_tests, granted-all site grants, counts-cons (gives_to site article value) grant grants, counts-cons (gives article value) grant grants)

  -- grants to two sites are two grants
  granted-both : (site other : ℕ) (grants : List Grant) → (site ≡ other → ⊥) → count_by (gives_to site article value) grants + count_by (gives_to other article value) grants ≤ count_by (gives article value) grants
  granted-both site other [] differs = omega arith
  granted-both site other (grant ∷ grants) differs =
      grind (arith, nat_tests, granted-both site other grants differs, counts-cons (gives_to site article value) grant grants, counts-cons (gives_to other article value) grant grants, counts-cons (gives article value) grant grants, differs)

  -- what one site took and no other, all took
  taken-first : (site : ℕ) (change : MadeChange) (made : List MadeChange) (b : Bool) → same_number change.dot.site.0 site b → ((change.dot.site.0 ≡ site → ⊥) → count_by (takes_at change.dot.site.0 article value) (change ∷ made) ≡ 0)
      → count_by (takes article value) made ≡ count_by (takes_at site article value) made → count_by (takes article value) (change ∷ made) ≡ count_by (takes_at site article value) (change ∷ made)
  taken-first site change made true same none rest = grind (arith, nat_tests, same, rest, counts-cons (takes article value) change made, counts-cons (takes_at site article value) change made)
  taken-first site change made false differs none rest =
      grind (arith, nat_tests, differs, none differs, rest, counts-cons (takes article value) change made, counts-cons (takes_at site article value) change made, counts-cons (takes_at change.dot.site.0 article value) change made)

  taken-alone : (site : ℕ) (made : List MadeChange) → ((other : ℕ) → (other ≡ site → ⊥) → count_by (takes_at other article value) made ≡ 0) → count_by (takes article value) made ≡ count_by (takes_at site article value) made
  taken-alone site [] none = refl
  taken-alone site (change ∷ made) none =
      taken-first site change made (change.dot.site.0 == site) (number-decided change.dot.site.0 site) (λ differs. none change.dot.site.0 differs)
      (taken-alone site made (λ other differs. omega (arith, none other differs, counts-cons (takes_at other article value) change made)))

  module _ (grants : List Grant) (once : count_by (gives article value) grants ≤ 1) where
    abbrev TakesOnlyGranted : List MadeChange → Type 0
    TakesOnlyGranted made = (site : ℕ) → count_by (takes_at site article value) made ≤ count_by (gives_to site article value) grants

    -- the site of the first change took it, or none did so far
    taken-at : (site : ℕ) (made : List MadeChange) → TakesOnlyGranted made → 1 ≤ count_by (gives_to site article value) grants → count_by (takes article value) made ≤ 1
    taken-at site made only some =
        let alone : count_by (takes article value) made ≡ count_by (takes_at site article value) made =
        taken-alone site made (λ other differs. omega (arith, only other, granted-both other site grants differs, once, some)) in
        omega (arith, alone, only site, granted-all site grants, once)

    takes-here : (change : MadeChange) (made : List MadeChange) → takes article value change ≡ true → 1 ≤ count_by (takes_at change.dot.site.0 article value) (change ∷ made)
    takes-here change made is = grind (arith, nat_tests, is, counts-cons (takes_at change.dot.site.0 article value) change made)

    taken-step : (change : MadeChange) (made : List MadeChange) (b : Bool) → takes article value change ≡ b → TakesOnlyGranted (change ∷ made) → count_by (takes article value) made ≤ 1 → count_by (takes article value) (change ∷ made) ≤ 1
    taken-step change made true is only rest = taken-at change.dot.site.0 (change ∷ made) only (omega (arith, takes-here change made is, only change.dot.site.0))
    taken-step change made false is only rest =
        let same : count_by (takes article value) (change ∷ made) ≡ count_by (takes article value) made = counts-cons (takes article value) change made ∙ ap (λ (b : Bool). cond b 1 0 + count_by (takes article value) made) is ∙ omega arith in
        omega (arith, same, rest)

    pub taken-once : (made : List MadeChange) → TakesOnlyGranted made → count_by (takes article value) made ≤ 1
    taken-once [] only = omega arith
    taken-once (change ∷ made) only = taken-step change made (takes article value change) refl only
        (taken-once made (λ site. omega (arith, only site, counts-cons (takes_at site article value) change made)))
