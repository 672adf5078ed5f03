use Rattle.merge_stored.proofs.AnyReply.Laws.{calls-keep}
use Rattle.merge_stored.proofs.replies.any_reply_keeps_rules.Goals as goal

pub returns : goal.returns
returns c resolvers publication valid s k = calls-keep resolvers publication valid s k
