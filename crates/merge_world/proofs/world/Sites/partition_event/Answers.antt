use Rattle.merge_world.proofs.Telling.{partition-refused, partition-told, partition-wants}
use Rattle.merge_world.proofs.world.Sites.partition_event.Goals as goal

pub returns-in-Ok-partition : goal.returns-in-Ok-partition
returns-in-Ok-partition g c = λ h. partition-told _ c.args.site c.in-Ok-partition.rows h c.in-Ok-partition.ensures c.in-Ok.ensures.ok

pub returns-in-Err-partition : goal.returns-in-Err-partition
returns-in-Err-partition g c = λ h. partition-wants _ c.args.site h c.in-Ok.ensures.ok

pub returns-in-Err : goal.returns-in-Err
returns-in-Err g c = λ h. partition-refused _ c.args.site c.in-Err.refusal h c.in-Err.ensures.err.0 c.in-Err.ensures.err.1
