use Rattle.std.proofs.Common.{rules}
use Rattle.merge_json.proofs.RepliesAgain.{grant_again}
use Rattle.merge_json.proofs.written_replies.grant_value.Goals as goal

pub returns-in-Ok-json-8-clause-again : goal.returns-in-Ok-json-8-clause-again
returns-in-Ok-json-8-clause-again c = grant_again c.args.grant.now (search rules) (search rules) (search rules)
