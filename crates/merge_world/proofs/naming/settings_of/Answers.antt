use Rattle.merge_world.proofs.Namings.{all-settings}
use Rattle.merge_world.proofs.naming.settings_of.Goals as goal

pub returns-clause-ascend : goal.returns-clause-ascend
returns-clause-ascend c = all-settings c.loop-column.settings c.loop-column.column-iterator c.args.places.now.rows c.loop-column.invariant c.in-None.ensures.steps.0 c.iter-column-items.ensures.ordered
