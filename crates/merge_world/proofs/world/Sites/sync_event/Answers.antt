use Rattle.merge_world.proofs.Happenings.{so-refused, sync-refused}
use Rattle.merge_world.proofs.world.Sites.sync_event.Goals as goal

pub returns-in-Err : goal.returns-in-Err
returns-in-Err g c = so-refused _ _ _ c.args.site c.in-Err.refusal c.in-Err.ensures.err.0 (sync-refused c.args.site _ c.in-Err.ensures.err.1 _)
