use Rattle.std.proofs.Common.{arith, sym}
use Rattle.merge_script.proofs.WordParts.{GoesOn-more, GoesOn-cut, GoesOn-end}
use Rattle.merge_script.proofs.words.part_end.Goals as goal

pub returns-then-is_parting-clause-cut : goal.returns-then-is_parting-clause-cut
returns-then-is_parting-clause-cut c = λ h. GoesOn-cut c.args.text.now c.loop-i.i c.loop-i.place h (sym c.if-is_parting.ensures) c.loop-i.invariant

pub loop-i-preserved : goal.loop-i-preserved
loop-i-preserved c = rw c.place_behind-place.ensures (GoesOn-more c.args.text.now c.loop-i.i c.loop-i.place c.loop-i-test.true (sym c.if-is_parting.ensures) c.loop-i.invariant)

pub returns-clause-whole : goal.returns-clause-whole
returns-clause-whole c = λ e. GoesOn-end c.args.text.now c.loop-i.i c.loop-i.place (omega arith) c.loop-i.invariant
