use Rattle.merge_model.proofs.Script.ReadEvents.{AreWordsOf-event_in, AreWordsOf-line_of, event_in-AreWordsOf, line_of-AreWordsOf}
use Rattle.merge_model.proofs.reading.events_are_read_exactly.Goals as goal

pub returns-clause-words : goal.returns-clause-words
returns-clause-words c = λ words event. (event_in-AreWordsOf words event, AreWordsOf-event_in words event)

pub returns-clause-lines : goal.returns-clause-lines
returns-clause-lines c = λ line event. (line_of-AreWordsOf line event, λ is. AreWordsOf-line_of line event is.0 is.1)
