use Rattle.std.proofs.Common.{◌∙◌}
use Rattle.merge_steps.proofs.Steps.{indexing-step}
use Rattle.merge_steps.proofs.entries.indexing.Goals as goal

pub loop-number-preserved : goal.loop-number-preserved
loop-number-preserved c =
    indexing-step _ _ _ _ _ _ _ _ _ _ c.loop-number.invariant c.loop-number-test.true c.requires c.index-versions-number.is c.get.ensures.row (c.into_vec-more.ensures ∙ c.in_ok-index_edits.ensures) c.in_ok-append.ensures.items
