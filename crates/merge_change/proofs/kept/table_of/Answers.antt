use Rattle.merge_change.proofs.SortedRows.{put-next}
use Rattle.merge_change.proofs.kept.table_of.Goals as goal

pub loop-key-preserved-in_ok-insert : goal.loop-key-preserved-in_ok-insert
loop-key-preserved-in_ok-insert g c =
    let step = rw c.in-Some.is at c.next.ensures.steps in
    put-next g.K.Ord.cmp g.met.K.Ord.total c.args.rows _ _ _ c.in-Some.key c.in-Some.row c.requires step.0 c.loop-key.invariant _ c.in_ok-insert.ensures.rows

pub loop-key-preserved : goal.loop-key-preserved
loop-key-preserved g c =
    let step = rw c.in-Some.is at c.next.ensures.steps in
    put-next g.K.Ord.cmp g.met.K.Ord.total c.args.rows _ _ _ c.in-Some.key c.in-Some.row c.requires step.0 c.loop-key.invariant _ c.in_ok-insert.ensures.rows
