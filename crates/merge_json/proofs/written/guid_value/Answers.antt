use Rattle.std.proofs.Common.{rules}
use Rattle.merge_json.proofs.Again.{guid_value_again}
use Rattle.merge_json.proofs.written.guid_value.Goals as goal

pub returns-clause-again : goal.returns-clause-again
returns-clause-again c = guid_value_again c.args.number (search rules)
