-- What an outside tells of stores whose keepers were given back.
use Rattle.std.specs.Prelude.{Contains, List, Option, [], ℕ, ◌<◌, ◌∷◌, ◌≡◌}
use Rattle.merge_types.specs.declared.identifiers.SiteId.{SiteId}
use Rattle.merge_ports.specs.Entries.{Map}
use Rattle.merge_world.specs.Views.{PublisherView, SubscriberView}

-- numbers of sites ascend, from above this one
abbrev pub AscendAbove : ℕ → List ℕ → Type 0
AscendAbove low [] = Unit {0}
AscendAbove low (site ∷ sites) = (low < site) × AscendAbove site sites

-- the store of each site is told as its keeper told it
pub record AreToldBack (told : SiteId → List ℕ → Option Map) (path : List ℕ) (p : PublisherView) (ss : List SubscriberView) : Type 0 where
  pub publisher : told (record { 0 = 0 }) path ≡ p.told
  pub subscribers : (s : SubscriberView) → Contains ss s → told s.tables.site path ≡ s.told
