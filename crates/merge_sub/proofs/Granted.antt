-- Ranges that are granted.
use Rattle.std.specs.List.{AllByRecursion, cons_option, fold, list_all, list_any}
use Rattle.std.specs.Ordering.{nat_cmp}
use Rattle.std.specs.Prelude.{◌≡◌, ◌==◌, ◌&&◌, ◌||◌, ℕ, All, Bool, true, false, not, List, [], ◌∷◌, None, Option, Some, filter_map, is_some, map, option_map, refl}
use Rattle.std.proofs.Common.{ap, arith, subst, sym, ◌∙◌}
use Rattle.std.proofs.lemmas.Bool.Decides.{nat_tests}
use Rattle.std.proofs.lemmas.List.Elements.{All-from_recursion}
use Rattle.merge_table.specs.Edits.{rows_after_all}
use Rattle.merge_table.specs.declared.edit.Edit.{Edit}
use Rattle.merge_table.specs.declared.edit.Edit.TheVariants.{Put}
use Rattle.merge_ident.specs.Holders.{Holder, after_receive}
use Rattle.merge_schema.specs.declared.publication.Publication.{Publication}
use Rattle.merge_batch.specs.Replies.{Heard, grant_fits, granted_article, ranged_fits}
use Rattle.merge_batch.specs.Search.{are_distinct}
use Rattle.merge_batch.specs.declared.reply.RangeGrant.{RangeGrant}
use Rattle.merge_batch.specs.declared.reply.Ranged.{Ranged}
use Rattle.merge_model.specs.World.Faults.{heard_by}
use Rattle.merge_model.specs.Tables.Keys.{at_number, put_number}
use Rattle.merge_model.specs.Subscriber.Taking.{with_grant}
use Rattle.merge_model.proofs.Lists.Finding.{at_put_other}
use Rattle.merge_model.proofs.Lists.Tests.{number-itself, or-first, or-second}
use Rattle.merge_sub.proofs.LocalChanges.{put-ranged}
use Rattle.merge_sub.specs.Held.{AreRanged, Held as Parts, tables_of}
use Rattle.merge_sub.specs.Taking.{granted, heard_in}

abbrev Held : Type 0
Held = List (ℕ × Holder)

first-of : (first rest : Bool) → (first && rest) ≡ true → first ≡ true
first-of true rest all = refl
first-of false rest all = all

rest-of : (first rest : Bool) → (first && rest) ≡ true → rest ≡ true
rest-of true rest all = all
rest-of false rest all = absurd cc

each-passes : {X : Type 0} (test : X → Bool) (xs : List X) → list_all test xs ≡ true → AllByRecursion (λ (x : X). test x ≡ true) xs
each-passes test [] all = tt
each-passes test (x ∷ xs) all = (first-of (test x) (list_all test xs) all, each-passes test xs (rest-of (test x) (list_all test xs) all))

pub grants-fit : (heard : Heard) (ranged : Ranged) → ranged_fits heard ranged ≡ true → All (λ (grant : RangeGrant). grant_fits heard grant ≡ true) ranged.grants
grants-fit heard ranged fits =
    All-from_recursion (λ (grant : RangeGrant). grant_fits heard grant ≡ true) ranged.grants
    (each-passes (grant_fits heard) ranged.grants (first-of (list_all (grant_fits heard) ranged.grants) (are_distinct (map granted_article ranged.grants)) fits))

-- Each article's ranges are those from before, since no article comes twice.

abbrev is_granted : ℕ → List RangeGrant → Bool
is_granted article grants = list_any (λ (m : ℕ). m == article) (map granted_article grants)

abbrev grant_put : Held → RangeGrant → Option Holder → Held
grant_put held grant None = held
grant_put held grant (Some holder) = put_number held grant.article (after_receive holder (record { begin = grant.begin; end = grant.end }))

-- the ranges are those from before where they are granted
abbrev AreThose : Held → Held → List RangeGrant → Type 0
AreThose before held grants = (article : ℕ) → is_granted article grants ≡ true → at_number held article ≡ at_number before article

grant-step : (before held : Held) (grant : RangeGrant) (grants : List RangeGrant) (found : Option Holder) → is_granted grant.article grants ≡ false → AreThose before held grants
    → ((next : Held) → AreThose before next grants → rows_after_all nat_cmp next (filter_map (granted before) grants) ≡ fold with_grant next grants)
    → rows_after_all nat_cmp held (let edit : Option (Edit ℕ Holder) = option_map (λ (holder : Holder). Put grant.article (after_receive holder (record { begin = grant.begin; end = grant.end }))) found in cons_option edit (filter_map (granted before) grants))
    ≡ fold with_grant (grant_put held grant found) grants
grant-step before held grant grants None once those rest = rest held those
grant-step before held grant grants (Some holder) once those rest =
    rest (grant_put held grant (Some holder))
    (λ article there.
    at_put_other grant.article article (after_receive holder (record { begin = grant.begin; end = grant.end })) held
    (λ same. let twice : true ≡ false = sym there ∙ ap (λ (a : ℕ). is_granted a grants) same ∙ once in absurd cc)
    ∙ those article there)

none-of : (b : Bool) → not b ≡ true → b ≡ false
none-of true is = sym is
none-of false is = refl

granted-behind : (article : ℕ) (grant : RangeGrant) (grants : List RangeGrant) → is_granted article grants ≡ true → is_granted article (grant ∷ grants) ≡ true
granted-behind article grant grants there = or-second (grant.article == article) (is_granted article grants) there

pub grants-made : (before held : Held) (grants : List RangeGrant) → are_distinct (map granted_article grants) ≡ true → AreThose before held grants → rows_after_all nat_cmp held (filter_map (granted before) grants) ≡ fold with_grant held grants
grants-made before held [] distinct those = refl
grants-made before held (grant ∷ grants) distinct those =
    let own : at_number held grant.article ≡ at_number before grant.article = those grant.article (or-first (grant.article == grant.article) (is_granted grant.article grants) (number-itself grant.article)) in
    let once : is_granted grant.article grants ≡ false = none-of (is_granted grant.article grants) (first-of (not (is_granted grant.article grants)) (are_distinct (map granted_article grants)) distinct) in
    let apart : are_distinct (map granted_article grants) ≡ true = rest-of (not (is_granted grant.article grants)) (are_distinct (map granted_article grants)) distinct in
    grant-step before held grant grants (at_number before grant.article) once (λ article there. those article (granted-behind article grant grants there)) (λ next these. grants-made before next grants apart these)
    ∙ ap (λ (found : Option Holder). fold with_grant (grant_put held grant found) grants) (sym own)

pub ranged-made : (heard : Heard) (held : Held) (ranged : Ranged) → ranged_fits heard ranged ≡ true → rows_after_all nat_cmp held (filter_map (granted held) ranged.grants) ≡ fold with_grant held ranged.grants
ranged-made heard held ranged fits =
    grants-made held held ranged.grants (rest-of (list_all (grant_fits heard) ranged.grants) (are_distinct (map granted_article ranged.grants)) fits) (λ article there. refl)

-- No article comes to be held, and none goes.

grant-ranged : (publication : Publication) (held : Held) (grant : RangeGrant) (found : Option Holder) → at_number held grant.article ≡ found → AreRanged publication held → AreRanged publication (grant_put held grant found)
grant-ranged publication held grant None is ranged = ranged
grant-ranged publication held grant (Some holder) is ranged = put-ranged publication held ranged grant.article (after_receive holder (record { begin = grant.begin; end = grant.end })) (ap is_some is)

pub grants-ranged : (publication : Publication) (held : Held) (grants : List RangeGrant) → AreRanged publication held → AreRanged publication (fold with_grant held grants)
grants-ranged publication held [] ranged = ranged
grants-ranged publication held (grant ∷ grants) ranged = grants-ranged publication (with_grant held grant) grants (grant-ranged publication held grant (at_number held grant.article) refl ranged)

-- The same for what is held.

pub held-fit : (old now : Parts) → old ≡ now → (ranged : Ranged) → ranged_fits (heard_by (tables_of now)) ranged ≡ true → (grants : List RangeGrant) → grants ≡ ranged.grants
    → All (λ (grant : RangeGrant). grant_fits (heard_in old.held.rows) grant ≡ true) grants
held-fit old now view ranged fits grants are =
    let own : ranged_fits (heard_by (tables_of old)) ranged ≡ true = subst (λ (x : Parts). ranged_fits (heard_by (tables_of x)) ranged ≡ true) (sym view) fits in
    subst (λ (gs : List RangeGrant). All (λ (grant : RangeGrant). grant_fits (heard_in old.held.rows) grant ≡ true) gs) (sym are) (grants-fit (heard_by (tables_of old)) ranged own)
