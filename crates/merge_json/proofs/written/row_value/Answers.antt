use Rattle.std.proofs.Common.{rules}
use Rattle.merge_json.proofs.Again.{row_again}
use Rattle.merge_json.proofs.written.row_value.Goals as goal

pub returns-clause-again : goal.returns-clause-again
returns-clause-again c = row_again c.args.row (search rules)
