-- The sites of a publication that have done nothing, seen together.
use Rattle.std.specs.Prelude.{[]}
use Rattle.merge_schema.specs.declared.publication.Publication.{Publication}
use Rattle.merge_world.specs.Views.{SitesView, sites_view}
use Rattle.merge_command.specs.Alone.{fresh_publisher}
use Rattle.merge_program.specs.Stores.{fresh_subscribers}

abbrev pub fresh_view : Publication → SitesView
fresh_view publication = sites_view (fresh_publisher publication) (fresh_subscribers publication) [] (record { 0 = 0 })
