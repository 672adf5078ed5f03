use Rattle.merge_honest.proofs.ReplyRules.{replies-answer}
use Rattle.merge_honest.proofs.replies.replies_answer_what_was_asked.Goals as goal

pub returns : goal.returns
returns c resolvers publication valid says tallies slips events = replies-answer resolvers publication valid says tallies slips events
