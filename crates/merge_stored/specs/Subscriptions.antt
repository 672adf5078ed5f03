-- What the publisher remembers of the sites that joined.
use Rattle.std.specs.List.{AllByRecursion}
use Rattle.std.specs.Prelude.{true, ℕ, ◌<◌, ◌^◌, ◌≡◌}
use Rattle.merge_gens.specs.declared.sites.SiteState.{SiteState}
use Rattle.merge_schema.specs.declared.publication.Publication.{Publication}
use Rattle.merge_record.specs.Tables.{IsSiteState}
use Rattle.merge_keeper.specs.PublisherStart.{site_is_sound}
use Rattle.merge_model.specs.History.Model.{Model}
use Rattle.merge_model.specs.Tables.{PublisherTables}
use Rattle.merge_model.specs.World.{Saying}
use Rattle.merge_typed.specs.Typed.{PublisherIsTyped}

abbrev pub SiteLoads : Publication → PublisherTables → ℕ × SiteState → Type 0
SiteLoads publication p site = (site.0 < 2 ^ 16) × IsSiteState site.1 × (site_is_sound publication p.gens.filling.last_closed site.0 site.1 ≡ true)

abbrev pub SitesLoad : Publication → Saying → Model → Type 0
SitesLoad publication says m = PublisherIsTyped m.world.publisher → AllByRecursion (SiteLoads publication m.world.publisher) m.world.publisher.sites
