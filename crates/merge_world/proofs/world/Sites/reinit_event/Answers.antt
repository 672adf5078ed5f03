use Rattle.merge_world.proofs.Happenings.{reinit-happens, reinit-refused, so-answered, so-refused}
use Rattle.merge_world.proofs.world.Sites.reinit_event.Goals as goal

pub returns-in-Ok : goal.returns-in-Ok
returns-in-Ok g c = λ h. so-answered _ _ _ _ _ _ _ c.answer_of.ensures (reinit-happens c.args.site _ c.in-Ok.ensures.ok _ c.make_anew.result c.make_anew.ensures h)

pub returns-in-Err : goal.returns-in-Err
returns-in-Err g c = λ h. so-refused _ _ h c.args.site c.in-Err.refusal c.in-Err.ensures.err.0 (reinit-refused c.args.site _ c.in-Err.ensures.err.1 h)
