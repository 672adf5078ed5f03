use Rattle.merge_types.proofs.Unique.{one_value}
use Rattle.merge_types.proofs.values.Value.read.Goals as goal

pub returns-clause-one : goal.returns-clause-one
returns-clause-one c = one_value c.args.text.now
