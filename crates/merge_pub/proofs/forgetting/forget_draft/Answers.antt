use Rattle.std.proofs.Common.{ap}
use Rattle.merge_steps.specs.declared.changes.Changes.{Changes}
use Rattle.merge_pub.proofs.forgetting.forget_draft.Goals as goal

pub returns-clause-changes : goal.returns-clause-changes
returns-clause-changes c = ap (λ (changes : Changes). record changes { rows = c.args.rows; mappings = c.args.mappings; sites = c.args.sites }) c.still-draft.ensures.changes
