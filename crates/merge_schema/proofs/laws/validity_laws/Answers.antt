use Rattle.merge_schema.proofs.ValidParts.{filters_fit, sites_are_distinct}
use Rattle.merge_schema.proofs.laws.validity_laws.Goals as goal

pub returns-clause-filters : goal.returns-clause-filters
returns-clause-filters c = filters_fit

pub returns-clause-sites : goal.returns-clause-sites
returns-clause-sites c = sites_are_distinct
