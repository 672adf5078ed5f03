use Rattle.merge_owed.proofs.MappingLines.{told-by-actions}
use Rattle.merge_owed.proofs.MappingRuns.{kept-or-went-always}
use Rattle.merge_actions.proofs.owed.actions_take_mappings.Goals as goal

pub returns : goal.returns
returns c = record { kept = kept-or-went-always; told = told-by-actions }
