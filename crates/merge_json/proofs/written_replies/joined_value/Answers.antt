use Rattle.merge_json.proofs.RepliesAgain.{joined_again}
use Rattle.merge_json.proofs.written_replies.joined_value.Goals as goal

pub returns-in-Ok-json-2-clause-again : goal.returns-in-Ok-json-2-clause-again
returns-in-Ok-json-2-clause-again c = joined_again c.args.joined.now
