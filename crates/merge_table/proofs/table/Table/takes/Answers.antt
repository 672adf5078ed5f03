use Rattle.std.proofs.Common.{rules, ◌≡◌}
use Rattle.merge_table.specs.Edits.{takes_of}
use Rattle.merge_table.proofs.Takes.{filter_is_takes, takes_ready}
use Rattle.merge_table.proofs.table.Table.takes.Goals as goal

pub returns-clause-ready : goal.returns-clause-ready
returns-clause-ready g c =
    let all : c.loop-key.edits.items ≡ takes_of (g.T.RowTest.passes c.args.test.now) c.args.self.now.rows = search rules in
    rw all (takes_ready g.K.Ord.cmp g.met.K.Ord.total c.args.self.now.slots (g.T.RowTest.passes c.args.test.now) c.args.self.now.rows)

pub returns-clause-left : goal.returns-clause-left
returns-clause-left g c =
    let all : c.loop-key.edits.items ≡ takes_of (g.T.RowTest.passes c.args.test.now) c.args.self.now.rows = search rules in
    rw all (filter_is_takes g.K.Ord.cmp g.met.K.Ord.total (g.T.RowTest.passes c.args.test.now) c.args.self.now.rows c.iter-key-items.ensures.ordered)
