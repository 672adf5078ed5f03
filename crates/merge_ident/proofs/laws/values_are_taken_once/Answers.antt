use Rattle.std.proofs.Common.{arith}
use Rattle.merge_ident.proofs.Taken.{taken_at_most}
use Rattle.merge_ident.proofs.laws.values_are_taken_once.Goals as goal

pub returns-clause-at_most : goal.returns-clause-at_most
returns-clause-at_most c = taken_at_most

pub returns-clause-once : goal.returns-clause-once
returns-clause-once c = λ holder events fit events_fit apart value. omega (arith, taken_at_most holder events fit events_fit value, apart value)

pub returns-clause-received : goal.returns-clause-received
returns-clause-received c = λ holder events fit events_fit value some. omega (arith, taken_at_most holder events fit events_fit value, some)
