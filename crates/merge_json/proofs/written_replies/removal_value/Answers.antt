use Rattle.std.proofs.Common.{rules}
use Rattle.merge_json.proofs.RepliesAgain.{removal_told, removal_again}
use Rattle.merge_json.proofs.written_replies.removal_value.Goals as goal

pub returns-clause-told : goal.returns-clause-told
returns-clause-told c = removal_told c.args.item.now c.args.kind _ _ c.requires c.in_ok-row.ensures.told c.in_ok-value.ensures

pub returns-clause-again : goal.returns-clause-again
returns-clause-again c = removal_again c.args.item.now c.args.kind c.requires (search rules) c.in_ok-row.ensures.again
