use Rattle.merge_stored.proofs.AnyReply.Laws.{new-keep, started-keep}
use Rattle.merge_stored.proofs.replies.subscribers_begin_with_rules.Goals as goal

pub returns : goal.returns
returns c = record { new = new-keep; started = started-keep }
