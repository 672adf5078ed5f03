use Rattle.std.proofs.Common.{append_assoc}
use Rattle.merge_report.proofs.generations.add_state.Goals as goal

pub returns : goal.returns
returns c = simp append_assoc c.in_ok-writeln.ensures.bytes
