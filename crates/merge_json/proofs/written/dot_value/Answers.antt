use Rattle.std.proofs.Common.{rules}
use Rattle.merge_json.proofs.Again.{dot_again}
use Rattle.merge_json.proofs.written.dot_value.Goals as goal

pub returns-in-Ok-json-4-clause-again : goal.returns-in-Ok-json-4-clause-again
returns-in-Ok-json-4-clause-again c = dot_again c.args.dot (search rules)
