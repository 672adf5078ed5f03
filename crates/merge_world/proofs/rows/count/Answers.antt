use Rattle.std.proofs.Common.{◌+◌, ◌<◌, ◌^◌, arith}
use Rattle.merge_world.proofs.Rowwise.{counted-done, counted-fits}
use Rattle.merge_world.proofs.rows.count.Goals as goal

pub overflow_add-count : goal.overflow_add-count
overflow_add-count g c =
    let less : c.loop-key.count + c.one_of-count.result < 2 ^ 63 = counted-fits c.args.article g.R.Versioned.version_of c.loop-key.count c.one_of-count.result (2 ^ 63) c.in-Some.key.now c.in-Some.row.now
    c.version.result.now c.loop-key.key-iterator c.next.new.self c.args.rows.now.rows c.iter-key-items.result c.loop-key.invariant c.in-Some.ensures.steps c.version.ensures c.one_of-count.ensures
    c.iter-key-items.ensures.rows c.iter-key-items.ensures.fits in
    omega (arith, less)

pub returns : goal.returns
returns g c = counted-done c.args.article g.R.Versioned.version_of c.loop-key.count c.loop-key.key-iterator c.args.rows.now.rows c.loop-key.invariant c.in-None.ensures.steps.0
