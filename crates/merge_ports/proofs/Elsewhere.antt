-- A change of one site's store leaves what is told of the others.
use Rattle.std.proofs.Common.{◌≡◌, ◌∙◌, ℕ, ◌==◌, Bool, true, false, cond, List, [], ◌∷◌, refl, sym, ap, arith}
use Rattle.std.specs.declared.option.Option.{Option}
use Rattle.std.specs.declared.option.Option.TheVariants.{Some}
use Rattle.std.specs.Map.{lookup}
use Rattle.std.specs.BTreeMap.{is_at, insert_entry}
use Rattle.std.specs.Ordering.{nat_cmp}
use Rattle.std.specs.Cmp.{unsigned_ties}
use Rattle.std.proofs.lemmas.Bool.{eqb-true}
use Rattle.std.proofs.lemmas.Bool.Decides.{nat_tests}
use Rattle.std.proofs.lemmas.Cmp.{nat_cmp_total}
use Rattle.merge_table.proofs.LookUps.{lookup-insert_entry}
use Rattle.merge_types.specs.declared.identifiers.SiteId.{SiteId}
use Rattle.merge_ports.specs.Entries.{Map}
use Rattle.merge_ports.specs.Opened.{SameElsewhere}
use Rattle.merge_ports.specs.Stores.{has_no_path, told_by, told_in}

abbrev site_of : ℕ → SiteId
site_of n = record { 0 = n }

same_site : (s site : SiteId) → is_at (nat_cmp s.0) site.0 ≡ true → s ≡ site
same_site s site e = ap site_of (eqb-true s.0 site.0 (unsigned_ties s.0 site.0 ∙ e))

by_site : {K : Type 0} (s site : SiteId) (found other : Option K) → (s ≡ site → ⊥) → (b : Bool) → is_at (nat_cmp s.0) site.0 ≡ b → cond b found other ≡ other
by_site s site found other apart true e = absurd (apart (same_site s site e))
by_site s site found other apart false e = refl

pub elsewhere : {K : Type 0} (told : K → Option Map) (rows new : List (ℕ × K)) (site : SiteId) (path : List ℕ) (found : Option K) → path ≡ []
    → ((q : ℕ) → lookup (is_at (nat_cmp q)) new ≡ cond (is_at (nat_cmp q) site.0) found (lookup (is_at (nat_cmp q)) rows)) → SameElsewhere site path (told_in told rows) (told_in told new)
elsewhere told rows new site path found empty after s [] apart =
    ap (told_by told) (after s.0 ∙ by_site s site found (lookup (is_at (nat_cmp s.0)) rows) (λ same. apart (same, sym empty)) (is_at (nat_cmp s.0) site.0) refl)
elsewhere told rows new site path found empty after s (byte ∷ p) apart = refl

same_number : (n : ℕ) → (n == n) ≡ true
same_number n = grind (arith, nat_tests)

-- and the keeper that is put is told at its own site
pub told_here : {K : Type 0} (told : K → Option Map) (rows new : List (ℕ × K)) (site : SiteId) (path : List ℕ) (keeper : K) → path ≡ [] → new ≡ insert_entry nat_cmp rows site.0 keeper → told_in told new site path ≡ told keeper
told_here {K = K} told rows new site path keeper empty put =
    ap (told_in told new site) empty ∙ ap (λ (xs : List (ℕ × K)). told_by told (lookup (is_at (nat_cmp site.0)) xs)) put
    ∙ ap (told_by told) (lookup-insert_entry nat_cmp nat_cmp_total site.0 site.0 keeper rows ∙ ap (λ (b : Bool). cond b (Some keeper) (lookup (is_at (nat_cmp site.0)) rows)) (sym (unsigned_ties site.0 site.0) ∙ same_number site.0))

pub no_path : (path : List ℕ) → has_no_path path ≡ true → path ≡ []
no_path [] e = refl
no_path (byte ∷ path) e = absurd (cc (e))
