use Rattle.merge_json.proofs.RepliesAgain.{uploaded_again}
use Rattle.merge_json.proofs.written_replies.uploaded_value.Goals as goal

pub returns-in-Ok-json-4-clause-again : goal.returns-in-Ok-json-4-clause-again
returns-in-Ok-json-4-clause-again c = uploaded_again c.args.uploaded.now
