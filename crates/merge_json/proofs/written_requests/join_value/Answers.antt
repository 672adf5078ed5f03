use Rattle.std.proofs.Common.{rules}
use Rattle.merge_json.proofs.RequestsAgain.{join_again}
use Rattle.merge_json.proofs.written_requests.join_value.Goals as goal

pub returns-in-Ok-json-8-clause-again : goal.returns-in-Ok-json-8-clause-again
returns-in-Ok-json-8-clause-again c = join_again c.args.join.now (search rules)
