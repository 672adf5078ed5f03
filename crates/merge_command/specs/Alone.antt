-- One site, while all others are elsewhere.
use Rattle.std.specs.Prelude.{None, [], ℕ, ◌∷◌}
use Rattle.merge_types.specs.declared.identifiers.Moment.{Moment}
use Rattle.merge_schema.specs.declared.publication.Publication.{Publication}
use Rattle.merge_model.specs.Publisher.{empty_publisher}
use Rattle.merge_model.specs.Tables.{SubscriberTables}
use Rattle.merge_world.specs.Views.{PublisherView, SitesView, sites_view}

-- a publisher that has done nothing
abbrev pub fresh_publisher : Publication → PublisherView
fresh_publisher publication = record { publication = publication; tables = empty_publisher publication; faults = 0; told = None }

-- a subscriber with these tables, beside such a publisher, where so many of its commits failed
abbrev pub subscriber_view_alone : Publication → SubscriberTables → ℕ → Moment → SitesView
subscriber_view_alone publication tables faults moment = sites_view (fresh_publisher publication) (record { publication = publication; tables = tables; faults = faults; told = None } ∷ []) [] moment
