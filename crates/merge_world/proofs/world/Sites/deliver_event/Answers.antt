use Rattle.merge_world.proofs.Happenings.{deliver-happens, so-answered}
use Rattle.merge_world.proofs.world.Sites.deliver_event.Goals as goal

pub returns : goal.returns
returns g c = so-answered _ _ _ _ _ _ _ c.answer_of.ensures (deliver-happens c.args.number _ _ _ _ c.deliver.result c.deliver.ensures)
