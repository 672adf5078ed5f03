use Rattle.merge_make.proofs.Parts.{count-script}
use Rattle.merge_make.proofs.script.event_count.Goals as goal

pub returns-clause-count : goal.returns-clause-count
returns-clause-count c = count-script _
