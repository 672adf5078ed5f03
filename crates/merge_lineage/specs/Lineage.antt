-- A lineage is the list of its dots, by site: which changes of each site a version has seen.
use Rattle.std.specs.Prelude.{◌≡◌, ℕ, ◌<◌, ◌≤◌, Bool, true, ◌&&◌, nat_le, nat_lt, ◌==◌, if◌then◌else◌, List, [], ◌∷◌, length, AllPairs, slice_index_or, Option, Some, None, unwrap_or, max}
use Rattle.merge_types.specs.declared.Dot.{Dot}
use Rattle.merge_lineage.specs.declared.lineage.Order4.{Order4}
use Rattle.merge_lineage.specs.declared.lineage.Order4.TheVariants as order

-- the sites ascend, so no site comes twice
abbrev pub IsAscending : List Dot → Type 0
IsAscending dots = AllPairs (λ (a b : Dot). a.site.0 < b.site.0) dots

-- the same as a test
abbrev pub ascending_behind : ℕ → List Dot → Bool
ascending_behind site [] = true
ascending_behind site (dot ∷ rest) = nat_lt site dot.site.0 && ascending_behind dot.site.0 rest

abbrev pub ascending : List Dot → Bool
ascending [] = true
ascending (dot ∷ rest) = ascending_behind dot.site.0 rest

-- the number that a site has, where it has one
abbrev pub number_at : List Dot → ℕ → Option ℕ
number_at [] site = None
number_at (dot ∷ rest) site = if dot.site.0 == site then Some dot.number else number_at rest site

-- the site's number, 0 where it has none
abbrev pub number_of : List Dot → ℕ → ℕ
number_of dots site = unwrap_or (number_at dots site) 0

-- whether a change is known: the number of its site is at least its own
abbrev pub knows : List Dot → Dot → Bool
knows dots dot = nat_le dot.number (number_of dots dot.site.0)

-- each site's number in a is at least its number in b
abbrev pub Covers : List Dot → List Dot → Type 0
Covers a b = (site : ℕ) → number_of b site ≤ number_of a site

-- how a stands to b, by which of the two covers the other
abbrev pub HasOrder : Order4 → List Dot → List Dot → Type 0
HasOrder order.Equal a b = Covers a b × Covers b a
HasOrder order.Less a b = (Covers a b → ⊥) × Covers b a
HasOrder order.Greater a b = Covers a b × (Covers b a → ⊥)
HasOrder order.Concurrent a b = (Covers a b → ⊥) × (Covers b a → ⊥)

-- the greater of two numbers, where there are any
abbrev pub greater : Option ℕ → Option ℕ → Option ℕ
greater None n = n
greater (Some m) None = Some m
greater (Some m) (Some n) = Some (max m n)

-- l has for each site the greater number of a and b
abbrev pub Joins : List Dot → List Dot → List Dot → Type 0
Joins a b l = (site : ℕ) → number_at l site ≡ greater (number_at a site) (number_at b site)

-- l has the dot's number at the dot's site, and every other number that dots has
abbrev pub Advances : List Dot → Dot → List Dot → Type 0
Advances dots dot l = (site : ℕ) → number_at l site ≡ (if dot.site.0 == site then Some dot.number else number_at dots site)

-- the lineage that knows one change more
abbrev pub with_dot : Dot → List Dot → List Dot
with_dot dot [] = dot ∷ []
with_dot dot (first ∷ rest) =
    if nat_lt dot.site.0 first.site.0 then dot ∷ first ∷ rest
    else (if dot.site.0 == first.site.0 then record { site = first.site; number = max first.number dot.number } ∷ rest
    else first ∷ with_dot dot rest)

-- the lineage that knows what a or b knows
abbrev pub joined : List Dot → List Dot → List Dot
joined [] b = b
joined (dot ∷ rest) b = with_dot dot (joined rest b)

-- a dot of site 0, for places past the end
abbrev pub no_dot : Dot
no_dot = record { site = record { 0 = 0 }; number = 0 }

-- the site of the dot at place i
abbrev pub site_at : List Dot → ℕ → ℕ
site_at dots i = let dot = slice_index_or dots i no_dot in dot.site.0

-- the site's dot is at place i
pub record IsAt (dots : List Dot) (site i : ℕ) : Type 0 where
  pub in_range : i < length dots
  pub has_site : site_at dots i ≡ site

-- the site's dot would go to place i: smaller sites before it, and greater ones from it on
pub record IsGapFor (dots : List Dot) (site i : ℕ) : Type 0 where
  pub in_range : i ≤ length dots
  pub smaller_before : (j : ℕ) → j < i → site_at dots j < site
  pub greater_after : (j : ℕ) → i ≤ j → j < length dots → site < site_at dots j
