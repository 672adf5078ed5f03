use Rattle.merge_typed.proofs.Scripts.{scripts-typed}
use Rattle.merge_typed.proofs.typed.script_events_are_typed.Goals as goal

pub returns : goal.returns
returns c lines few = scripts-typed lines few
