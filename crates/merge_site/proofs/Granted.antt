-- The grants of a step: they are new, and come behind those that were there.
use Rattle.std.proofs.Common.{◌≡◌, ◌∙◌, ℕ, ◌+◌, ◌<◌, ◌≤◌, Bool, true, false, ◌&&◌, ◌==◌, cond, List, [], ◌∷◌, refl, sym, ap, subst, arith}
use Rattle.std.specs.Prelude.{count_by, nat_le}
use Rattle.std.specs.declared.option.Option.{Option}
use Rattle.std.specs.declared.option.Option.TheVariants.{None, Some}
use Rattle.std.specs.List.{AllByRecursion}
use Rattle.std.proofs.lemmas.Bool.Decides.{nat_tests}
use Rattle.merge_ident.specs.Answers.{grants_with, grants_with_all, new_grant, with_new}
use Rattle.merge_ident.specs.Books.{AllFollow, IsNext, IsNextIfAny}
use Rattle.merge_ident.specs.Grants.{AreNumbered, granted_to, is_numbered, with_grant, with_grants}
use Rattle.merge_ident.specs.declared.grants.Grant.{Grant}
use Rattle.merge_ident.specs.declared.grants.GrantPlan.{GrantPlan}
use Rattle.merge_ident.proofs.Added.{count_by-cons}
use Rattle.merge_ident.proofs.Order.{numbered-with_next}
use Rattle.merge_record.specs.declared.ranges.GrantKey.{GrantKey}
use Rattle.merge_keeper.specs.Entries.{grant_key_in}
use Rattle.merge_keeper.specs.Stored.{AreNew, HasGrantKey, IsNew}
use Rattle.merge_keeper.proofs.Follow.{with_grant_keys}
use Rattle.merge_site.specs.Grants.{before_rest, granted_by}

-- ---- the grants after plans

abbrev after_new : List Grant → Option Grant → List GrantPlan → Type 0
after_new grants new plans = grants_with_all (with_new grants new) plans ≡ with_grants grants (before_rest new (granted_by plans))

granted_step : (grants : List Grant) (plans : List GrantPlan) → ((gs : List Grant) → grants_with_all gs plans ≡ with_grants gs (granted_by plans)) → (new : Option Grant) → after_new grants new plans
granted_step grants plans ih None = ih grants
granted_step grants plans ih (Some grant) = ih (with_grant grants grant)

pub granted-all : (plans : List GrantPlan) (grants : List Grant) → grants_with_all grants plans ≡ with_grants grants (granted_by plans)
granted-all [] grants = refl
granted-all (plan ∷ plans) grants = granted_step grants plans (granted-all plans) (new_grant plan.ask plan.answer)

-- ---- new grants

none_step : (p : Grant → Bool) (g : Grant) (gs : List Grant) → (count_by p gs ≡ 0 → AllByRecursion (λ x. p x ≡ false) gs) → (b : Bool) → p g ≡ b → count_by p (g ∷ gs) ≡ 0 → AllByRecursion (λ x. p x ≡ false) (g ∷ gs)
none_step p g gs ih true e none =
    let one : cond true 1 0 + count_by p gs ≡ 0 = subst (λ (b : Bool). cond b 1 0 + count_by p gs ≡ 0) e (sym (count_by-cons p g gs) ∙ none) in
    absurd (omega (arith, one))
none_step p g gs ih false e none =
    let rest : cond false 1 0 + count_by p gs ≡ 0 = subst (λ (b : Bool). cond b 1 0 + count_by p gs ≡ 0) e (sym (count_by-cons p g gs) ∙ none) in
    (e, ih (omega (arith, rest)))

none_counted : (p : Grant → Bool) (gs : List Grant) → count_by p gs ≡ 0 → AllByRecursion (λ x. p x ≡ false) gs
none_counted p [] none = tt
none_counted p (g ∷ gs) none = none_step p g gs (none_counted p gs) (p g) refl none

own_key : (new grant : Grant) → grant_key_in new ≡ grant_key_in grant → is_numbered new.article new.site.0 new.number grant ≡ true
own_key new grant same =
    let article : new.article ≡ grant.article = ap (λ (k : GrantKey). k.article) same in
    let site : new.site.0 ≡ grant.site.0 = ap (λ (k : GrantKey). k.site.0) same in
    let number : new.number ≡ grant.number = ap (λ (k : GrantKey). k.number) same in
    rw (article, site, number) (grind (arith, nat_tests))

others : (new : Grant) (grants : List Grant) → AllByRecursion (λ x. is_numbered new.article new.site.0 new.number x ≡ false) grants → IsNew new grants
others new [] h = tt
others new (grant ∷ grants) h = (λ same. let is = own_key new grant same in absurd cc, others new grants h.1)

next_new : (grants : List Grant) (new : Grant) → AreNumbered grants → IsNext grants new → IsNew new grants
next_new grants new numbered next =
    let number : new.number ≡ granted_to new.article new.site.0 grants + 1 = next.number in
    let above : (nat_le 1 new.number && nat_le new.number (granted_to new.article new.site.0 grants)) ≡ false = grind (arith, nat_tests, number) in
    others new grants (none_counted (is_numbered new.article new.site.0 new.number) grants (numbered new.article new.site.0 new.number ∙ ap (λ (b : Bool). cond b 1 0) above))

new_step : (grants : List Grant) (plans : List GrantPlan) → AreNumbered grants → ((gs : List Grant) → AreNumbered gs → AllFollow gs plans → AreNew gs (granted_by plans)) → (new : Option Grant) → IsNextIfAny grants new → AllFollow (with_new grants new) plans
    → AreNew grants (before_rest new (granted_by plans))
new_step grants plans numbered ih None next follow = ih grants numbered follow
new_step grants plans numbered ih (Some grant) next follow = (next_new grants grant numbered next, ih (with_grant grants grant) (numbered-with_next grants grant numbered next) follow)

pub granted-new : (plans : List GrantPlan) (grants : List Grant) → AreNumbered grants → AllFollow grants plans → AreNew grants (granted_by plans)
granted-new [] grants numbered follow = tt
granted-new (plan ∷ plans) grants numbered follow = new_step grants plans numbered (granted-new plans) (new_grant plan.ask plan.answer) follow.0 follow.1

-- ---- keys of grants

pub granted-keys : (news grants : List Grant) → AllByRecursion HasGrantKey news → AllByRecursion HasGrantKey grants → AllByRecursion HasGrantKey (with_grants grants news)
granted-keys [] grants n h = h
granted-keys (g ∷ news) grants n h = granted-keys news (with_grant grants g) n.1 (with_grant_keys g grants n.0 h)
