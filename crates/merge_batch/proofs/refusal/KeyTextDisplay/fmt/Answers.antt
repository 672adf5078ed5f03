use Rattle.std.proofs.Common.{rules, arith, ◌∙◌}
use Rattle.std.proofs.Output.{has_written_append, has_written_of_eq}
use Rattle.merge_batch.proofs.KeyTexts.{pairs-more, pairs-all}
use Rattle.merge_batch.proofs.refusal.KeyTextDisplay.fmt.Goals as goal

pub loop-byte-preserved : goal.loop-byte-preserved
loop-byte-preserved g c = λ p. has_written_of_eq _ _ _ _ _
    (pairs-more c.as_slice-byte-items.result.now c.loop-byte.byte-index (omega (arith, c.type_inv.byte-items c.loop-byte.byte-index)) c.loop-byte-test.true)
    (has_written_append _ _ _ _ _ _ (c.loop-byte.invariant p) (search rules))

pub returns-clause-writes : goal.returns-clause-writes
returns-clause-writes g c = λ p is. has_written_of_eq _ _ _ _ _
    (pairs-all c.args.self.now.0.now c.as_slice-byte-items.result.now c.loop-byte.byte-index c.as_slice-byte-items.ensures c.loop-byte-test.false (λ none. c.if-len-eq0.false (c.len.ensures ∙ none)))
    (c.loop-byte.invariant p)
