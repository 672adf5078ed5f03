use Rattle.std.proofs.Common.{◌≡◌, ◌∙◌, sym}
use Rattle.merge_steps.proofs.acting.come_in.Goals as goal

pub returns-clause-passed : goal.returns-clause-passed
returns-clause-passed c = c.in_ok-come_late.ensures.passed c.args.publication.now

pub returns-clause-fits : goal.returns-clause-fits
returns-clause-fits c = c.in_ok-come_late.ensures.fits c.args.publication.now

pub come_new-requires-clause-made : goal.come_new-requires-clause-made
come_new-requires-clause-made c = rw c.key_of_item.ensures at (sym c.is_made_by.ensures ∙ c.if-is_made_by.true)

pub come_late-requires-clause-made : goal.come_late-requires-clause-made
come_late-requires-clause-made c = rw c.key_of_item.ensures at (sym c.is_made_by.ensures ∙ c.if-is_made_by.false)
