use Rattle.std.proofs.Common.{rules}
use Rattle.merge_json.proofs.RequestsAgain.{dead_told, dead_again}
use Rattle.merge_json.proofs.written_requests.dead_value.Goals as goal

pub returns-clause-told : goal.returns-clause-told
returns-clause-told c = dead_told c.args.item.now c.args.top _ _ _ _ c.requires c.in_ok-lineage.ensures.told c.in_ok-dead.ensures.told c.in_ok-row.ensures.told c.in_ok-value.ensures

pub returns-clause-again : goal.returns-clause-again
returns-clause-again c = dead_again c.args.item.now c.args.top c.requires (search rules) c.in_ok-row.ensures.again c.in_ok-lineage.ensures.again c.in_ok-dead.ensures.again
