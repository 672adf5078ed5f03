use Rattle.merge_model.proofs.Runs as runs
use Rattle.merge_model.proofs.laws.ranges_never_overlap.Goals as goal

pub returns : goal.returns
returns c = record { machine = runs.ranges_never_overlap; model = runs.model_ranges_never_overlap }
