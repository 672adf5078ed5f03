use Rattle.std.proofs.Common.{rules}
use Rattle.merge_json.proofs.RequestsAgain.{download_again}
use Rattle.merge_json.proofs.written_requests.download_value.Goals as goal

pub returns-in-Ok-json-6-clause-again : goal.returns-in-Ok-json-6-clause-again
returns-in-Ok-json-6-clause-again c = download_again c.args.download.now (search rules)
