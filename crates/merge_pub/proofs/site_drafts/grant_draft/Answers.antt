use Rattle.std.proofs.Common.{ap}
use Rattle.merge_steps.specs.declared.changes.Changes.{Changes}
use Rattle.merge_pub.proofs.site_drafts.grant_draft.Goals as goal

pub returns-clause-changes : goal.returns-clause-changes
returns-clause-changes c = ap (λ (changes : Changes). record changes { grants = c.args.grants }) c.still-draft.ensures.changes
