-- Lists of grants.
use Rattle.std.specs.Prelude.{◌≡◌, ℕ, ℤ, pos, negsuc, ◌<◌, ◌≤◌, ◌≤ℤ◌, ◌<ℤ◌, Bool, ◌&&◌, ◌==◌, if◌then◌else◌, List, [], ◌∷◌, max, All, Contains, count_by, nat_le, int_le}
use Rattle.std.specs.List.{AllByRecursion, list_any}
use Rattle.merge_ident.specs.declared.grants.Range.{Range}
use Rattle.merge_ident.specs.declared.grants.Grant.{Grant}

-- a number from 0 on
abbrev pub natural : ℤ → ℕ
natural (pos n) = n
natural (negsuc n) = 0

-- whether a value lies in a range
abbrev pub is_in : ℤ → Range → Bool
is_in value range = int_le range.begin value && int_le value range.end

-- whether a grant is of an article and to a site
abbrev pub is_of : ℕ → ℕ → Grant → Bool
is_of article site grant = (grant.article == article) && (grant.site.0 == site)

-- how many grants of an article a site has
abbrev pub granted_to : ℕ → ℕ → List Grant → ℕ
granted_to article site grants = count_by (is_of article site) grants

-- whether a grant is of an article and to a site, and has a number
abbrev pub is_numbered : ℕ → ℕ → ℕ → Grant → Bool
is_numbered article site number grant = is_of article site grant && (grant.number == number)

-- whether a grant gives a value of an article
abbrev pub gives : ℕ → ℤ → Grant → Bool
gives article value grant = (grant.article == article) && is_in value grant.range

-- a value of an article was granted to a site
abbrev pub is_granted : ℕ → ℕ → ℤ → List Grant → Bool
is_granted article site value grants = list_any (λ (grant : Grant). is_of article site grant && is_in value grant.range) grants

-- the values are from 1 on, and are some
pub record IsGranted (grant : Grant) : Type 0 where
  pub from_one : pos 1 ≤ℤ grant.range.begin
  pub some : grant.range.begin ≤ℤ grant.range.end

-- no value of an article is granted twice
abbrev pub AreDisjoint : List Grant → Type 0
AreDisjoint grants = (article : ℕ) (value : ℤ) → count_by (gives article value) grants ≤ 1

-- the grants of an article to a site have the numbers from 1 on, each once
abbrev pub AreNumbered : List Grant → Type 0
AreNumbered grants = (article site number : ℕ) → count_by (is_numbered article site number) grants ≡ (if nat_le 1 number && nat_le number (granted_to article site grants) then 1 else 0)

-- of an article's grants to a site, one that begins later has a greater number
abbrev pub AreRising : List Grant → Type 0
AreRising grants = (x y : Grant) → Contains grants x → Contains grants y → x.article ≡ y.article → x.site.0 ≡ y.site.0 → x.range.begin <ℤ y.range.begin → x.number < y.number

-- what holds of all grants of a book, in whatever order
pub record AreGrants (grants : List Grant) : Type 0 where
  pub ranges : All IsGranted grants
  pub disjoint : AreDisjoint grants
  pub numbered : AreNumbered grants
  pub rising : AreRising grants

-- the second is of a later article, or of the same one and begins behind the first. Where it is to the same site too, it has a greater number
pub record Precedes (first second : Grant) : Type 0 where
  pub by_article : first.article ≤ second.article
  pub behind : first.article ≡ second.article → first.range.end <ℤ second.range.begin
  pub numbered : first.article ≡ second.article → first.site.0 ≡ second.site.0 → first.number < second.number

-- by article and begin: each grant precedes all later ones
abbrev pub AreInOrder : List Grant → Type 0
AreInOrder [] = Unit {0}
AreInOrder (grant ∷ grants) = AllByRecursion (Precedes grant) grants × AreInOrder grants

-- the greatest end of an article's ranges, 0 where it has none
abbrev pub greatest_end : ℕ → List Grant → ℕ
greatest_end article [] = 0
greatest_end article (grant ∷ grants) = if grant.article == article then max (natural grant.range.end) (greatest_end article grants) else greatest_end article grants

-- the grants with one more, behind the others of its article
abbrev pub with_grant : List Grant → Grant → List Grant
with_grant [] new = new ∷ []
with_grant (grant ∷ grants) new = if nat_le grant.article new.article then grant ∷ with_grant grants new else new ∷ grant ∷ grants

-- the grants with several more, one after the other
abbrev pub with_grants : List Grant → List Grant → List Grant
with_grants grants [] = grants
with_grants grants (new ∷ news) = with_grants (with_grant grants new) news
