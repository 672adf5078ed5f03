use Rattle.merge_sub.proofs.LocalChanges.{version-asked, version-new}
use Rattle.merge_sub.proofs.subscriber.Subscriber.version_for.Goals as goal

pub returns-clause-asked : goal.returns-clause-asked
returns-clause-asked c = rw c.version_held.ensures (version-asked _ _ c.self.view_is c.self.invariant c.args.change.now c.requires.place c.requires.ascend)

pub returns-clause-new : goal.returns-clause-new
returns-clause-new c = rw c.version_held.ensures (version-new _ _ c.self.view_is c.self.invariant c.args.change.now)
