use Rattle.std.proofs.Common.{sym, ap}
use Rattle.std.specs.Prelude.{is_some}
use Rattle.merge_part.proofs.Found.{not_waiting}
use Rattle.merge_part.proofs.siblings.is_free.Goals as goal

pub returns-in-None : goal.returns-in-None
returns-in-None c = λ free. not_waiting c.args.waiting.now.rows c.args.key.now (ap is_some (sym c.in-None.ensures.row))
