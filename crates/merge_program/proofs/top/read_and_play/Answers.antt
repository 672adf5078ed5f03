-- The input that was read is what was left.
use Rattle.std.proofs.Common.{Err, ap, refl}
use Rattle.merge_program.proofs.Ends.{ends-by-slice, ends-unread, in-part-of, nothing-written}
use Rattle.merge_program.proofs.Readings.{counted-by}
use Rattle.merge_program.proofs.top.read_and_play.Goals as goal

pub returns-in-Ok-clause-ends : goal.returns-in-Ok-clause-ends
returns-in-Ok-clause-ends g c = ends-by-slice _ _ _ _ _ _ _ _ _ _ _ c.as_slice.ensures c.in-Ok.ensures.whole _ c.play_input.ensures.ends

pub returns-in-Ok-clause-part : goal.returns-in-Ok-clause-part
returns-in-Ok-clause-part g c = let whole = in-part-of _ _ _ _ _ c.as_slice.ensures c.play_input.ensures.part c.in-Ok.ensures.whole in whole

pub returns-in-Err-clause-ends : goal.returns-in-Err-clause-ends
returns-in-Err-clause-ends g c = ends-unread _ _ _ _ _ _ _ _ _ _ _ c.unread.ensures (λ is. c.in-Err.ensures.long (ap (λ f. Err f) is)) (λ is. c.in-Err.ensures.failed (ap (λ f. Err f) is))

pub returns-in-Err-clause-part : goal.returns-in-Err-clause-part
returns-in-Err-clause-part g c = nothing-written _ _ _ refl

pub returns-in-Ok-clause-counted : goal.returns-in-Ok-clause-counted
returns-in-Ok-clause-counted g c = λ other. c.in-Ok.ensures.kept

pub returns-in-Err-clause-counted : goal.returns-in-Err-clause-counted
returns-in-Err-clause-counted g c = counted-by _ _ c.unread.ensures _ (λ none. c.in-Err.ensures.counted (λ is. none (cc is)))

pub returns-in-Ok-clause-others : goal.returns-in-Ok-clause-others
returns-in-Ok-clause-others g c = c.play_input.ensures.others

pub returns-in-Err-clause-others : goal.returns-in-Err-clause-others
returns-in-Err-clause-others g c = λ s p other. refl
