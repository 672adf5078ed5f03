use Rattle.std.proofs.Common.{subst}
use Rattle.std.specs.List.{AllByRecursion}
use Rattle.merge_json.specs.Written.{ReadsBack}
use Rattle.merge_json.specs.Replies.{download_item_at}
use Rattle.merge_json.specs.WrittenReplies.{download_item_data}
use Rattle.merge_json.proofs.RepliesAgain.{downloaded_again}
use Rattle.merge_json.proofs.written_replies.downloaded_value.Goals as goal

pub returns-clause-again : goal.returns-clause-again
returns-clause-again c = downloaded_again c.args.downloaded.now (subst (AllByRecursion (ReadsBack download_item_at download_item_data)) c.as_slice-listed.ensures c.in_ok-items.ensures.again)
