use Rattle.merge_world.proofs.Happenings.{close-happens, close-refused, so-answered, so-refused}
use Rattle.merge_world.proofs.world.Sites.close_event.Goals as goal

pub returns-in-Ok : goal.returns-in-Ok
returns-in-Ok g c = λ h. so-answered _ _ _ _ _ _ _ c.answer_of.ensures (close-happens c.args.site _ c.in-Ok.ensures.ok _ c.close.result c.close.ensures h)

pub returns-in-Err : goal.returns-in-Err
returns-in-Err g c = λ h. so-refused _ _ h c.args.site c.in-Err.refusal c.in-Err.ensures.err.0 (close-refused c.args.site _ c.in-Err.ensures.err.1 h)
