-- What is asked of the lineage of a row.
use Rattle.std.specs.Prelude.{ℕ, ◌==◌, ◌&&◌, ◌||◌, Bool, true, not, nat_lt, List, [], ◌∷◌}
use Rattle.std.specs.List.{list_any, list_all}
use Rattle.merge_types.specs.Limits.{number_limit}
use Rattle.merge_types.specs.declared.Dot.{Dot}
use Rattle.merge_lineage.specs.Lineage.{knows}
use Rattle.merge_units.specs.declared.version.Cell.{Cell}
use Rattle.merge_units.specs.declared.version.Body.{Body}
use Rattle.merge_units.specs.declared.version.Body.TheVariants.{Live, Dead}
use Rattle.merge_units.specs.Version.{has_news}
use Rattle.merge_schema.specs.declared.publication.Publication.{Publication}
use Rattle.merge_schema.specs.Places.{is_subscription}

-- a site is the publisher, or subscribes
abbrev pub is_site : Publication → ℕ → Bool
is_site publication site = site == 0 || is_subscription publication site

-- a number that a change can have
abbrev pub is_change_number : ℕ → Bool
is_change_number number = nat_lt 0 number && nat_lt number number_limit

abbrev pub is_pair : Publication → Dot → Bool
is_pair publication dot = is_site publication dot.site.0 && is_change_number dot.number

-- each site is below all later ones
abbrev pub sites_ascend : List Dot → Bool
sites_ascend [] = true
sites_ascend (dot ∷ dots) = list_all (λ (later : Dot). nat_lt dot.site.0 later.site.0) dots && sites_ascend dots

-- sites ascend, each is the publisher or a subscription, and has a number that a change can have
abbrev pub is_well_formed : Publication → List Dot → Bool
is_well_formed publication lineage = sites_ascend lineage && list_all (is_pair publication) lineage

-- a site has a pair
abbrev pub has_pair_of : ℕ → List Dot → Bool
has_pair_of site lineage = list_any (λ (dot : Dot). dot.site.0 == site) lineage

-- a change that can have set a cell or deleted a row: one of the publisher or of a subscription. A lineage knows the number 0 of every site, so that is no top
abbrev pub is_top : Publication → Dot → Bool
is_top publication dot = is_site publication dot.site.0 && nat_lt 0 dot.number

abbrev pub has_top : Publication → Cell → Bool
has_top publication cell = is_top publication cell.top

abbrev pub has_tops : Publication → Body → Bool
has_tops publication (Live cells) = list_all (has_top publication) cells
has_tops publication (Dead top) = is_top publication top

-- the lineage knows each change that last set a cell or deleted the row
abbrev pub knows_tops : List Dot → Body → Bool
knows_tops lineage body = not (has_news (knows lineage) body)
