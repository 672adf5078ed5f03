use Rattle.merge_owed.proofs.MappingLines.{told-always}
use Rattle.merge_owed.proofs.MappingRuns.{kept-or-gone-always}
use Rattle.merge_owed.proofs.mappings.mappings_go_by_what_took_them.Goals as goal

pub returns : goal.returns
returns c = record { kept = kept-or-gone-always; told = told-always }
