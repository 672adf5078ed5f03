use Rattle.std.proofs.Common.{◌∙◌}
use Rattle.merge_pub.proofs.Restored.{restored-live, rows-once}
use Rattle.merge_pub.proofs.indexes.membership_of.Goals as goal

pub prepare-requires-clause-once : goal.prepare-requires-clause-once
prepare-requires-clause-once g c = rw (c.as_slice.ensures, c.in_ok-changes.ensures) (rows-once c.args.rows.now c.requires.ascending)

pub returns-clause-live : goal.returns-clause-live
returns-clause-live g c = restored-live c.args.rows.now c.requires.ascending _ _ c.in_ok-membership.ensures.live _ (c.as_slice.ensures ∙ c.in_ok-changes.ensures) (c.make.ensures.live ∙ c.in_ok-plan.ensures.plan)
