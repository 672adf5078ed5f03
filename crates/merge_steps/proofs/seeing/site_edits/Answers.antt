use Rattle.merge_steps.proofs.SiteEdits.{sites-edited}
use Rattle.merge_steps.proofs.seeing.site_edits.Goals as goal

pub returns-clause-edits : goal.returns-clause-edits
returns-clause-edits c = c.in_ok-edits.ensures.edits

pub returns-clause-after : goal.returns-clause-after
returns-clause-after c = sites-edited c.args.arrival c.args.upload.now c.args.sites.now.rows _ c.state_edits.ensures.ordered c.in_ok-edits.ensures.edits
