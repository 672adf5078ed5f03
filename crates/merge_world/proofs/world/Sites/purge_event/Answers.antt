use Rattle.merge_world.proofs.Happenings.{purge-happens, so-answered}
use Rattle.merge_world.proofs.world.Sites.purge_event.Goals as goal

pub returns : goal.returns
returns g c = λ h. so-answered _ _ _ _ _ _ _ c.answer_of.ensures (purge-happens _ _ c.forget.result c.forget.ensures h)
