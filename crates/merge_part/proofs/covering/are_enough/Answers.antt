use Rattle.merge_part.proofs.Covered.{none_in}
use Rattle.merge_part.proofs.covering.are_enough.Goals as goal

pub returns-then-others-eq0 : goal.returns-then-others-eq0
returns-then-others-eq0 c = λ enough place has. absurd (none_in c.args.others.now.sites c.if-others-eq0.true place has)
