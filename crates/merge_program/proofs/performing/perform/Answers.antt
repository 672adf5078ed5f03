-- A publisher serves, or the words are those of another command.
use Rattle.std.proofs.Common.{None, Some, inr, refl, subst, sym, ◌∙◌, ◌≡◌, ◌⊎◌}
use Rattle.merge_program.specs.declared.ending.Ending.TheVariants.{NoMemory}
use Rattle.merge_program.specs.declared.order.Order.{Order}
use Rattle.merge_program.proofs.Serves.{elsewhere-of, never-done, no-order, one-order, some-order, tells-of, wanting}
use Rattle.merge_program.proofs.performing.perform.Goals as goal

pub returns-in-Ok-Some-clause-statuses : goal.returns-in-Ok-Some-clause-statuses
returns-in-Ok-Some-clause-statuses g c = λ none. let said = rw c.in-Ok-Some.field-0-is at c.in-Ok-Some.ensures.ok in no-order _ _ said none

pub returns-in-Ok-Some-clause-part : goal.returns-in-Ok-Some-clause-part
returns-in-Ok-Some-clause-part g c = λ none play. let said = rw c.in-Ok-Some.field-0-is at c.in-Ok-Some.ensures.ok in no-order _ _ said none

pub returns-in-Ok-Some-clause-made : goal.returns-in-Ok-Some-clause-made
returns-in-Ok-Some-clause-made g c = λ customers none make. let said = rw c.in-Ok-Some.field-0-is at c.in-Ok-Some.ensures.ok in no-order _ _ said none

pub returns-in-Ok-Some-clause-noted : goal.returns-in-Ok-Some-clause-noted
returns-in-Ok-Some-clause-noted g c = λ none. let said = rw c.in-Ok-Some.field-0-is at c.in-Ok-Some.ensures.ok in no-order _ _ said none

pub returns-in-Ok-Some-clause-served : goal.returns-in-Ok-Some-clause-served
returns-in-Ok-Some-clause-served g c = λ order say.
    let said = rw c.in-Ok-Some.field-0-is at c.in-Ok-Some.ensures.ok in
    tells-of _ _ _ _ _ _ _ c.status.ensures (c.serve-finish.ensures.ends _ _ _) _ _ _ _ c.tell.ensures order (one-order _ _ _ said say)

pub returns-in-Ok-Some-clause-asked : goal.returns-in-Ok-Some-clause-asked
returns-in-Ok-Some-clause-asked g c = λ order say.
    let said = rw c.in-Ok-Some.field-0-is at c.in-Ok-Some.ensures.ok in
    subst (λ (o : Order). (g.T.Doors.asked c.serve-finish.new.doors ≡ Some o.address) ⊎ (c.serve-finish.new.doors ≡ c.args.doors.now)) (one-order _ _ _ said say) c.serve-finish.ensures.asked

pub returns-in-Ok-Some-clause-reached : goal.returns-in-Ok-Some-clause-reached
returns-in-Ok-Some-clause-reached g c = λ order say zero.
    let said = rw c.in-Ok-Some.field-0-is at c.in-Ok-Some.ensures.ok in
    subst (λ (o : Order). g.T.Doors.asked c.serve-finish.new.doors ≡ Some o.address) (one-order _ _ _ said say) (c.serve-finish.ensures.reached (sym c.status.ensures ∙ zero))

pub returns-in-Ok-None-clause-asked : goal.returns-in-Ok-None-clause-asked
returns-in-Ok-None-clause-asked g c = λ order say. let said = rw c.in-Ok-None.field-0-is at c.in-Ok-None.ensures.ok in some-order _ _ said say

pub returns-in-Ok-None-clause-reached : goal.returns-in-Ok-None-clause-reached
returns-in-Ok-None-clause-reached g c = λ order say zero. let said = rw c.in-Ok-None.field-0-is at c.in-Ok-None.ensures.ok in some-order _ _ said say

pub returns-in-Err-clause-asked : goal.returns-in-Err-clause-asked
returns-in-Err-clause-asked g c = λ order say. inr refl

pub returns-in-Err-clause-reached : goal.returns-in-Err-clause-reached
returns-in-Err-clause-reached g c = λ order say zero. never-done NoMemory None 0 0 0 tt (sym c.status-in-Err.ensures ∙ zero)

pub returns-in-Ok-None-clause-served : goal.returns-in-Ok-None-clause-served
returns-in-Ok-None-clause-served g c = λ order say. let said = rw c.in-Ok-None.field-0-is at c.in-Ok-None.ensures.ok in some-order _ _ said say

pub returns-in-Err-clause-statuses : goal.returns-in-Err-clause-statuses
returns-in-Err-clause-statuses g c = λ none. absurd (c.in-Err.ensures.err none)

pub returns-in-Err-clause-part : goal.returns-in-Err-clause-part
returns-in-Err-clause-part g c = λ none play. absurd (c.in-Err.ensures.err none)

pub returns-in-Err-clause-made : goal.returns-in-Err-clause-made
returns-in-Err-clause-made g c = λ customers none make. absurd (c.in-Err.ensures.err none)

pub returns-in-Err-clause-noted : goal.returns-in-Err-clause-noted
returns-in-Err-clause-noted g c = λ none. absurd (c.in-Err.ensures.err none)

pub returns-in-Err-clause-served : goal.returns-in-Err-clause-served
returns-in-Err-clause-served g c = λ order say. wanting order _ _ _ _ _ refl refl refl refl _ c.status-in-Err.ensures _ _ _ _ c.tell-in-Err.ensures

pub returns-in-Ok-Some-clause-unread : goal.returns-in-Ok-Some-clause-unread
returns-in-Ok-Some-clause-unread g c = λ none reads. let said = rw c.in-Ok-Some.field-0-is at c.in-Ok-Some.ensures.ok in no-order _ _ said none

pub returns-in-Ok-Some-clause-closed : goal.returns-in-Ok-Some-clause-closed
returns-in-Ok-Some-clause-closed g c = λ none. let said = rw c.in-Ok-Some.field-0-is at c.in-Ok-Some.ensures.ok in no-order _ _ said none

pub returns-in-Ok-None-clause-unread : goal.returns-in-Ok-None-clause-unread
returns-in-Ok-None-clause-unread g c = λ none. c.run.ensures.unread

pub returns-in-Ok-None-clause-unasked : goal.returns-in-Ok-None-clause-unasked
returns-in-Ok-None-clause-unasked g c = λ order say. let said = rw c.in-Ok-None.field-0-is at c.in-Ok-None.ensures.ok in some-order _ _ said say

pub returns-in-Ok-Some-clause-others : goal.returns-in-Ok-Some-clause-others
returns-in-Ok-Some-clause-others g c = λ none. let said = rw c.in-Ok-Some.field-0-is at c.in-Ok-Some.ensures.ok in no-order _ _ said none

pub returns-in-Ok-Some-clause-elsewhere : goal.returns-in-Ok-Some-clause-elsewhere
returns-in-Ok-Some-clause-elsewhere g c = λ order say.
    let said = rw c.in-Ok-Some.field-0-is at c.in-Ok-Some.ensures.ok in elsewhere-of _ _ _ _ (one-order _ _ _ said say) c.serve-finish.ensures.others

pub returns-in-Ok-None-clause-others : goal.returns-in-Ok-None-clause-others
returns-in-Ok-None-clause-others g c = λ none. c.run.ensures.others

pub returns-in-Ok-None-clause-elsewhere : goal.returns-in-Ok-None-clause-elsewhere
returns-in-Ok-None-clause-elsewhere g c = λ order say. let said = rw c.in-Ok-None.field-0-is at c.in-Ok-None.ensures.ok in some-order _ _ said say

pub returns-in-Err-clause-others : goal.returns-in-Err-clause-others
returns-in-Err-clause-others g c = λ none. absurd (c.in-Err.ensures.err none)

pub returns-in-Err-clause-elsewhere : goal.returns-in-Err-clause-elsewhere
returns-in-Err-clause-elsewhere g c = λ order say s p other. refl
