use Rattle.std.proofs.Common.{rules}
use Rattle.merge_json.proofs.RepliesAgain.{ended_again}
use Rattle.merge_json.proofs.written_replies.one_ended_value.Goals as goal

pub returns-in-Ok-json-6-clause-again : goal.returns-in-Ok-json-6-clause-again
returns-in-Ok-json-6-clause-again c = ended_again c.args.ended.now (search rules) (search rules)
