use Rattle.std.proofs.Common.{arith, refl}
use Rattle.std.proofs.lemmas.List.Sums.{position_or_len_is}
use Rattle.merge_script.specs.Lines.{is_line_feed}
use Rattle.merge_script.proofs.lines.line_end.Goals as goal

pub returns-clause-value : goal.returns-clause-value
returns-clause-value c = position_or_len_is is_line_feed c.args.text.now _ 0 (omega arith) (λ k h. c.loop-i.invariant k (omega arith)) (λ h. absurd (omega arith))

pub returns-then-byte-eq10-clause-value : goal.returns-then-byte-eq10-clause-value
returns-then-byte-eq10-clause-value c = position_or_len_is is_line_feed c.args.text.now c.loop-i.i 0 (omega arith) c.loop-i.invariant (λ h. rw c.if-byte-eq10.true refl)
