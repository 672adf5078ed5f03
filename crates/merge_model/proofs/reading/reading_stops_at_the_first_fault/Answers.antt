use Rattle.merge_model.proofs.Script.FirstFaults.{finds_first_fault}
use Rattle.merge_model.proofs.reading.reading_stops_at_the_first_fault.Goals as goal

pub returns : goal.returns
returns c = finds_first_fault
