use Rattle.std.proofs.Common.{rules}
use Rattle.merge_json.proofs.RequestsAgain.{want_again}
use Rattle.merge_json.proofs.written_requests.want_value.Goals as goal

pub returns-in-Ok-json-6-clause-again : goal.returns-in-Ok-json-6-clause-again
returns-in-Ok-json-6-clause-again c = want_again c.args.want.now (search rules)
