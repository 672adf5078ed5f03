use Rattle.std.proofs.Common.{◌≡◌, ℕ, List, Some, subst}
use Rattle.merge_batch.specs.declared.reply.Reply.TheVariants as reply
use Rattle.merge_json.specs.Replies.{refused_at}
use Rattle.merge_json.specs.WrittenReplies.{refused_data}
use Rattle.merge_json.proofs.RepliesAgain.{joined_reply, uploaded_reply, ranged_reply, downloaded_reply, refused_reply}
use Rattle.merge_json.proofs.written_replies.reply_value.Goals as goal

pub returns-in_ok-joined_value-in-Joined-clause-again : goal.returns-in_ok-joined_value-in-Joined-clause-again
returns-in_ok-joined_value-in-Joined-clause-again c = joined_reply c.args.reply.now _ c.in-Joined.is c.in_ok-joined_value-in-Joined.ensures.again

pub returns-in_ok-uploaded_value-in-Uploaded-clause-again : goal.returns-in_ok-uploaded_value-in-Uploaded-clause-again
returns-in_ok-uploaded_value-in-Uploaded-clause-again c = uploaded_reply c.args.reply.now _ c.in-Uploaded.is c.in_ok-uploaded_value-in-Uploaded.ensures.again

pub returns-in_ok-ranged_value-in-Ranged-clause-again : goal.returns-in_ok-ranged_value-in-Ranged-clause-again
returns-in_ok-ranged_value-in-Ranged-clause-again c = ranged_reply c.args.reply.now _ c.in-Ranged.is c.in_ok-ranged_value-in-Ranged.ensures.again

pub returns-in_ok-downloaded_value-in-Downloaded-clause-again : goal.returns-in_ok-downloaded_value-in-Downloaded-clause-again
returns-in_ok-downloaded_value-in-Downloaded-clause-again c = downloaded_reply c.args.reply.now _ c.in-Downloaded.is c.in_ok-downloaded_value-in-Downloaded.ensures.again

pub returns-in_ok-refused_value-in-Refused-clause-again : goal.returns-in_ok-refused_value-in-Refused-clause-again
returns-in_ok-refused_value-in-Refused-clause-again c =
    let again = subst (λ (vs : List ℕ). refused_at (refused_data c.in-Refused.number vs) ≡ Some (reply.Refused c.in-Refused.number vs)) c.as_slice.ensures c.in_ok-refused_value-in-Refused.ensures.again in
    refused_reply c.args.reply.now c.in-Refused.number c.in-Refused.values c.in-Refused.is again
