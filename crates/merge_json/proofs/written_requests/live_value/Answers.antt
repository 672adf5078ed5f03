use Rattle.std.proofs.Common.{rules}
use Rattle.merge_json.proofs.RequestsAgain.{live_told, live_again}
use Rattle.merge_json.proofs.written_requests.live_value.Goals as goal

pub returns-clause-told : goal.returns-clause-told
returns-clause-told c = live_told c.args.item.now c.args.cells.now _ _ _ _ c.requires.lives c.in_ok-lineage.ensures.told c.in_ok-live.ensures.told c.in_ok-row.ensures.told c.in_ok-value.ensures

pub returns-clause-again : goal.returns-clause-again
returns-clause-again c = live_again c.args.item.now c.args.cells.now c.requires.lives (search rules) c.in_ok-row.ensures.again c.in_ok-lineage.ensures.again c.in_ok-live.ensures.again
