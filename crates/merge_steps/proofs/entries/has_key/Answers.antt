use Rattle.std.proofs.Common.{◌∙◌}
use Rattle.merge_steps.proofs.Whole.{has-is}
use Rattle.merge_steps.proofs.entries.has_key.Goals as goal

pub returns : goal.returns
returns c = c.has_room.ensures.room ∙ has-is c.args.keys.now.slots c.args.key
