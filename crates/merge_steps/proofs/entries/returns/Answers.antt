use Rattle.std.proofs.Common.{◌∙◌}
use Rattle.merge_steps.proofs.KeyTables.{returns-by}
use Rattle.merge_steps.proofs.entries.returns.Goals as goal

pub returns : goal.returns
returns c = c.in_ok-places.ensures ∙ returns-by c.args.mappings.now.rows c.in_ok-keys.keys.slots c.args.changed.now c.in_ok-keys.ensures c.args.moves.now
