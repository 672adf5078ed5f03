-- Grants that were seen, by what finds those that another one meets.
use Rattle.std.specs.Prelude.{◌≡◌, ◌≤◌, ◌+◌, ◌==◌, ◌&&◌, ◌||◌, ◌≤ℤ◌, ◌<ℤ◌, ℕ, ℤ, Bool, true, not, int_lt, List, [], ◌∷◌, Option, Some, None}
use Rattle.std.specs.BTreeMap.{is_at}
use Rattle.std.specs.BTreeMap.Range.{entries_between}
use Rattle.std.specs.List.{AllByRecursion, list_all}
use Rattle.std.specs.Map.{lookup}
use Rattle.std.specs.Ordering.{int_cmp, nat_cmp, ordering_then}
use Rattle.std.specs.declared.cmp.Ordering.{Ordering}
use Rattle.std.specs.declared.ops.Bound.TheVariants.{Included, Unbounded}
use Rattle.merge_ident.specs.declared.grants.Grant.{Grant}
use Rattle.merge_ident.specs.declared.grants.Range.{Range}
use Rattle.merge_ident.specs.declared.seen_grants.End.{End}
use Rattle.merge_ident.specs.declared.seen_grants.LastGrant.{LastGrant}
use Rattle.merge_ident.specs.declared.seen_grants.Taker.{Taker}
use Rattle.merge_ident.specs.Grants.{granted_to, is_of}
use Rattle.merge_ident.specs.Stored.{has_values}

-- by article, and then by value or site
abbrev pub end_cmp : End → End → Ordering
end_cmp a b = ordering_then (nat_cmp a.article b.article) (int_cmp a.end b.end)

abbrev pub taker_cmp : Taker → Taker → Ordering
taker_cmp a b = ordering_then (nat_cmp a.article b.article) (nat_cmp a.site b.site)

-- a range of an article, with where it ends
abbrev pub Stretch : Type 0
Stretch = End × Range

abbrev pub stretch_of : Grant → Stretch
stretch_of grant = (record { article = grant.article; end = grant.range.end }, grant.range)

abbrev pub taker_of : Grant → Taker
taker_of grant = record { article = grant.article; site = grant.site.0 }

abbrev pub last_of : Grant → LastGrant
last_of grant = record { number = grant.number; end = grant.range.end }

-- the grant shares no value with the stretch
abbrev pub is_apart : Grant → Stretch → Bool
is_apart grant e = not (e.0.article == grant.article) || int_lt e.0.end grant.range.begin || int_lt grant.range.end e.1.begin

-- the first is of an earlier article, or of the same one and ends before the second begins
pub record StandsBefore (x y : Stretch) : Type 0 where
  pub by_article : x.0.article ≤ y.0.article
  pub ends : x.0.article ≡ y.0.article → x.0.end <ℤ y.1.begin

-- each has values and stands before all later ones
abbrev pub AreApart : List Stretch → Type 0
AreApart [] = Unit {0}
AreApart (e ∷ es) = (e.1.begin ≤ℤ e.0.end) × AllByRecursion (StandsBefore e) es × AreApart es

-- the stretches that end with a grant's first value or behind it, and those of later articles
abbrev pub ending_from : Grant → List Stretch → List Stretch
ending_from grant es = entries_between end_cmp (Included (record { article = grant.article; end = grant.range.begin })) Unbounded es

-- of another article, or behind the grant
abbrev pub is_behind : Grant → Stretch → Bool
is_behind grant e = not (e.0.article == grant.article) || int_lt grant.range.end e.1.begin

abbrev pub first_is_behind : Grant → List Stretch → Bool
first_is_behind grant [] = true
first_is_behind grant (e ∷ es) = is_behind grant e

-- the last grant of an article to a site
abbrev pub last_at : List (Taker × LastGrant) → ℕ → ℕ → Option LastGrant
last_at lasts article site = lookup (is_at (taker_cmp (record { article = article; site = site }))) lasts

abbrev pub number_of : Option LastGrant → ℕ
number_of None = 0
number_of (Some last) = last.number

abbrev pub ends_below : ℤ → Option LastGrant → Bool
ends_below begin None = true
ends_below begin (Some last) = int_lt last.end begin

-- the grant is another site's or another article's, or ends before a value
abbrev pub ends_for : ℕ → ℕ → ℤ → Grant → Bool
ends_for article site begin grant = not (is_of article site grant) || int_lt grant.range.end begin

-- the grant has the next number behind the last one, and begins behind it
abbrev pub is_next : Grant → Option LastGrant → Bool
is_next grant last = (grant.number == number_of last + 1) && ends_below grant.range.begin last

-- What is held of grants: the ranges are theirs and apart, and the last of each site are known.
pub record IsSeen (ranges : List Stretch) (lasts : List (Taker × LastGrant)) (grants : List Grant) : Type 0 where
  pub apart : AreApart ranges
  pub same : (test : Stretch → Bool) → list_all (λ (grant : Grant). test (stretch_of grant)) grants ≡ list_all test ranges
  pub numbered : (article site : ℕ) → granted_to article site grants ≡ number_of (last_at lasts article site)
  pub ended : (article site : ℕ) (begin : ℤ) → list_all (ends_for article site begin) grants ≡ ends_below begin (last_at lasts article site)

-- what tells by these whether a grant can follow
abbrev pub fits : List Stretch → List (Taker × LastGrant) → Grant → Bool
fits ranges lasts grant = has_values grant && is_next grant (last_at lasts grant.article grant.site.0) && first_is_behind grant (ending_from grant ranges)
