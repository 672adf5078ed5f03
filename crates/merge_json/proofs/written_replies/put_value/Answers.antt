use Rattle.std.proofs.Common.{rules}
use Rattle.merge_json.proofs.RepliesAgain.{put_told, put_again}
use Rattle.merge_json.proofs.written_replies.put_value.Goals as goal

pub returns-clause-told : goal.returns-clause-told
returns-clause-told c = put_told c.args.item.now c.args.dots.now c.args.cells.now _ _ _ _ c.requires.put c.in_ok-lineage.ensures.told c.in_ok-live.ensures.told c.in_ok-row.ensures.told c.in_ok-value.ensures

pub returns-clause-again : goal.returns-clause-again
returns-clause-again c = put_again c.args.item.now c.args.dots.now c.args.cells.now c.requires.put (search rules) c.in_ok-row.ensures.again c.in_ok-lineage.ensures.again c.in_ok-live.ensures.again
