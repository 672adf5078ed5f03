use Rattle.std.proofs.Common.{refl}
use Rattle.merge_model.specs.World.Steps.{Send}
use Rattle.merge_world.specs.Messages.{sending_of}
use Rattle.merge_world.proofs.Locals.{wants-room}
use Rattle.merge_world.proofs.world.Sites.send.Goals as goal

pub returns-in-Err : goal.returns-in-Err
returns-in-Err g c = wants-room (Send c.args.site (sending_of c.args.sending)) refl _ _ c.make_room.ensures.same
