-- The draft of a message takes no memory.
use Rattle.std.proofs.Common.{◌≡◌, false, true}
use Rattle.merge_sub.proofs.subscriber.Subscriber.draft_ask.Goals as goal

pub returns-in_err-draft_message-clause-refused : goal.returns-in_err-draft_message-clause-refused
returns-in_err-draft_message-clause-refused c = λ why was. let no : false ≡ true = c.in_err-draft_message.ensures.nothing in absurd cc
