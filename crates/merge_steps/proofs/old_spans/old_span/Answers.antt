use Rattle.std.proofs.Common.{subst, sym}
use Rattle.merge_steps.specs.OldSpans.{IsSpan}
use Rattle.merge_steps.proofs.OldSpans.{span-made, span-within}
use Rattle.merge_steps.proofs.old_spans.old_span.Goals as goal

pub returns-clause-span : goal.returns-clause-span
returns-clause-span c = span-made _ _ _ _ _ _ c.closings.ensures.closings c.first.ensures.value c.last_before.ensures c.span_by.ensures

pub returns-clause-within : goal.returns-clause-within
returns-clause-within c =
    subst (IsSpan c.args.gens.now.book.closings c.args.cutoff) (sym (span-made _ _ _ _ _ _ c.closings.ensures.closings c.first.ensures.value c.last_before.ensures c.span_by.ensures))
    (span-within c.args.cutoff c.args.gens.now.book.closings c.closings.ensures.sound.ascending)
