-- The subscriber that a site is.
use Rattle.std.specs.Prelude.{◌≡◌, ℕ, Bool, ◌==◌, List, Some, find}
use Rattle.std.specs.List.{slice_get}
use Rattle.merge_types.specs.declared.identifiers.SiteId.{SiteId}
use Rattle.merge_schema.specs.declared.publication.Subscription.{Subscription}

abbrev pub is_site : SiteId → Subscription → Bool
is_site site subscription = subscription.site.0 == site.0

-- the place is that of the first subscriber that is the site
pub record IsPlaceOf (subscriptions : List Subscription) (site : SiteId) (place : ℕ) : Type 0 where
  pub subscription : Subscription
  pub stands : slice_get subscriptions place ≡ Some subscription
  pub first : find (is_site site) subscriptions ≡ Some subscription
