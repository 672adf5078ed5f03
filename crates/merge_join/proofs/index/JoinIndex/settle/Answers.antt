use Rattle.merge_join.proofs.Changed.{keys_after_all}
use Rattle.merge_join.proofs.index.JoinIndex.settle.Goals as goal

pub returns-clause-entries : goal.returns-clause-entries
returns-clause-entries c = rw (c.apply_and_sweep.ensures.rows, ← c.self.view_is) (keys_after_all c.self.inside.entries.rows c.args.changes.items)
