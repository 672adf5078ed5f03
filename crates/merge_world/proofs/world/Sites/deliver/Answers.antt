use Rattle.merge_world.proofs.Deliveries.{moves-from, wants-room-to-deliver}
use Rattle.merge_world.proofs.world.Sites.deliver.Goals as goal

pub returns-in-Err : goal.returns-in-Err
returns-in-Err g c = wants-room-to-deliver c.args.number _ _ _ c.make_room.ensures.same

pub returns : goal.returns
returns g c = moves-from _ _ _ _ _ _ _ c.make_room.ensures.same c.deliver_with_room.ensures
