use Rattle.std.proofs.Common.{ap}
use Rattle.merge_steps.specs.declared.changes.Changes.{Changes}
use Rattle.merge_pub.proofs.site_drafts.site_draft.Goals as goal

pub returns-clause-changes : goal.returns-clause-changes
returns-clause-changes c = ap (λ (changes : Changes). record changes { sites = c.args.sites }) c.still-draft.ensures.changes
