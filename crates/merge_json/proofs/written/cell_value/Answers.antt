use Rattle.std.proofs.Common.{subst}
use Rattle.std.specs.List.{AllByRecursion}
use Rattle.merge_json.specs.Values.{value_at}
use Rattle.merge_json.specs.Written.{ReadsBack, value_data}
use Rattle.merge_json.proofs.Again.{cell_again}
use Rattle.merge_json.proofs.written.cell_value.Goals as goal

pub returns-clause-again : goal.returns-clause-again
returns-clause-again c = cell_again c.args.cell.now c.in_ok-top.ensures.again (subst (AllByRecursion (ReadsBack value_at value_data)) c.as_slice-listed.ensures c.in_ok-values.ensures.again)
