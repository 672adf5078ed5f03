use Rattle.std.proofs.Common.{append_assoc, arith}
use Rattle.merge_lineage.proofs.Merging.{joined_step, ascending-behind, fewer_left}
use Rattle.merge_lineage.proofs.lineage.add_joined.Goals as goal

-- the first dot goes behind those so far
pub loop-dot-preserved : goal.loop-dot-preserved
loop-dot-preserved c =
    let kept = c.loop-dot.invariant in
    let step = joined_step c.loop-dot.here.now c.loop-dot.there.now c.in-Some.dot kept.here kept.there c.in-Some.ensures in
    let fewer = fewer_left c.loop-dot.here.now c.loop-dot.there.now c.in-Some.dot c.in-Some.ensures in
    record {
      dots = rw (c.push_reserved.ensures.items, c.behind-here.ensures, c.behind-there.ensures, append_assoc) (rw step at kept.dots);
      room = rw (c.behind-here.ensures, c.behind-there.ensures) (omega (arith, fewer, kept.room, c.push_reserved.ensures.len, c.push_reserved.ensures.capacity));
      here = rw c.behind-here.ensures (ascending-behind c.in-Some.dot.site.0 c.loop-dot.here.now kept.here);
      there = rw c.behind-there.ensures (ascending-behind c.in-Some.dot.site.0 c.loop-dot.there.now kept.there);
    }
