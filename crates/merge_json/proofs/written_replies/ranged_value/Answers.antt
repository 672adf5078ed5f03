use Rattle.std.proofs.Common.{subst}
use Rattle.std.specs.List.{AllByRecursion}
use Rattle.merge_json.specs.Written.{ReadsBack}
use Rattle.merge_json.specs.Replies.{grant_at, ended_at}
use Rattle.merge_json.specs.WrittenReplies.{grant_data, ended_data}
use Rattle.merge_json.proofs.RepliesAgain.{ranged_again}
use Rattle.merge_json.proofs.written_replies.ranged_value.Goals as goal

pub returns-clause-again : goal.returns-clause-again
returns-clause-again c = ranged_again c.args.ranged.now (subst (AllByRecursion (ReadsBack ended_at ended_data)) c.as_slice-none_left.ensures c.in_ok-ended.ensures.again) (subst (AllByRecursion (ReadsBack grant_at grant_data)) c.as_slice-granted.ensures c.in_ok-grants.ensures.again)
