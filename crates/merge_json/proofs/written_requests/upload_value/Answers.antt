use Rattle.std.proofs.Common.{rules, subst}
use Rattle.std.specs.List.{AllByRecursion}
use Rattle.merge_json.specs.Written.{ReadsBack}
use Rattle.merge_json.specs.Requests.{upload_item_at}
use Rattle.merge_json.specs.WrittenRequests.{upload_item_data}
use Rattle.merge_json.proofs.RequestsAgain.{upload_again}
use Rattle.merge_json.proofs.written_requests.upload_value.Goals as goal

pub returns-clause-again : goal.returns-clause-again
returns-clause-again c = upload_again c.args.upload.now (search rules) (subst (AllByRecursion (ReadsBack upload_item_at upload_item_data)) c.as_slice-listed.ensures c.in_ok-items.ensures.again)
