use Rattle.std.proofs.Common.{◌≡◌}
use Rattle.merge_wire.proofs.FieldLemmas.{none_missing, none_bad}
use Rattle.merge_wire.proofs.fields.body_length.Goals as goal

pub returns-in-Missing-clause-fault : goal.returns-in-Missing-clause-fault
returns-in-Missing-clause-fault c = λ n. none_missing n _ c.in-Missing.ensures

pub returns-in-Bad-clause-fault : goal.returns-in-Bad-clause-fault
returns-in-Bad-clause-fault c = λ n. none_bad n _ c.in-Bad.ensures
