use Rattle.std.proofs.Common.{rules}
use Rattle.merge_json.proofs.RepliesAgain.{refused_again}
use Rattle.merge_json.proofs.written_replies.refused_value.Goals as goal

pub returns-clause-again : goal.returns-clause-again
returns-clause-again c = refused_again c.args.number c.args.fields.now (search rules) c.requires c.in_ok-values.ensures.again
