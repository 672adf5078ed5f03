-- What the publisher holds, as far as the rules of a message ask for it.
use Rattle.std.specs.Prelude.{ℕ, ℤ, List, Option}
use Rattle.std.specs.Option.{option_map_or}
use Rattle.merge_gens.specs.declared.sites.SiteState.{SiteState}
use Rattle.merge_ident.specs.declared.grants.Grant.{Grant}

pub record Known : Type 0 where
  -- how many changes the publisher made
  pub changes : ℕ
  -- what it remembers of a site, none where the site never joined
  pub state : ℕ → Option SiteState
  -- the ranges that it granted
  pub grants : List Grant
  -- the identity value of the live row that it holds with an article and an identifier, none where it holds none
  pub identity : ℕ → ℕ → Option ℤ

-- the last generation of a site that was taken, and its last change number; 0 where the site never joined
abbrev pub received_of : Known → ℕ → ℕ
received_of known site = option_map_or (λ (state : SiteState). state.received) (known.state site) 0

abbrev pub received_number_of : Known → ℕ → ℕ
received_number_of known site = option_map_or (λ (state : SiteState). state.received_number) (known.state site) 0

-- the greatest change number of a site in any accepted lineage; 0 where the site never joined
abbrev pub seen_of : Known → ℕ → ℕ
seen_of known site = option_map_or (λ (state : SiteState). state.seen) (known.state site) 0
