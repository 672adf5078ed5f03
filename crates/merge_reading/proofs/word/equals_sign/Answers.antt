use Rattle.std.proofs.Common.{arith, sym, eq-eqb, get_or}
use Rattle.std.proofs.lemmas.List.Sums.{position_or_len_is}
use Rattle.merge_model.specs.Script.Reading.{is_equals_sign}
use Rattle.merge_reading.proofs.word.equals_sign.Goals as goal

pub returns-then-byte-eq61-clause-place : goal.returns-then-byte-eq61-clause-place
returns-then-byte-eq61-clause-place c = sym (position_or_len_is is_equals_sign c.args.word.now c.loop-at.at 0 (omega arith) c.loop-at.invariant (λ h. eq-eqb _ 61 c.if-byte-eq61.true))

pub returns-clause-place : goal.returns-clause-place
returns-clause-place c = sym (position_or_len_is is_equals_sign c.args.word.now _ 0 (omega arith) (λ k h. c.loop-at.invariant k (omega arith)) (λ h. absurd (omega arith)))
