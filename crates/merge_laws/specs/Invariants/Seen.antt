-- The greatest number of a site's change that the publisher has met, by what it accepted and received.
use Rattle.std.specs.Prelude.{◌≡◌, ◌≤◌, ◌==◌, ℕ, List, None, if◌then◌else◌, max, option_map, unwrap_or}
use Rattle.std.specs.List.{fold}
use Rattle.merge_gens.specs.declared.sites.SiteState.{SiteState}
use Rattle.merge_types.specs.declared.identifiers.Dot.{Dot}
use Rattle.merge_model.specs.Tables.Keys.{at_number}

abbrev pub greatest_in : List Dot → ℕ → ℕ
greatest_in dots site = fold (λ (most : ℕ) (dot : Dot). if dot.site.0 == site then max most dot.number else most) 0 dots

abbrev pub field_at : (SiteState → ℕ) → List (ℕ × SiteState) → ℕ → ℕ
field_at field sites site = unwrap_or (option_map field (at_number sites site)) 0

-- of the sites that have joined, and the accepted changes
pub record Seen (sites : List (ℕ × SiteState)) (accepted : List Dot) : Type 0 where
  -- the publisher never joins
  pub own : at_number sites 0 ≡ None
  -- of its own changes it keeps no such number
  pub numbers : (site : ℕ) → 1 ≤ site → field_at (λ (state : SiteState). state.seen) sites site ≡ max (greatest_in accepted site) (field_at (λ (state : SiteState). state.received_number) sites site)
