-- What each message in the pool has that bears the number of its site's outstanding message: a request is that message, and a
-- reply answers it.
use Rattle.std.specs.List.{AllByRecursion}
use Rattle.std.specs.Option.{option_map_or}
use Rattle.std.specs.Prelude.{List, None, Option, Some, false, map, true, ℕ, ◌+◌, ◌==◌, ◌≡◌, ◌≤ℤ◌, ◌≤◌}
use Rattle.merge_batch.specs.Replies.{granted_article}
use Rattle.merge_batch.specs.Search.{are_distinct}
use Rattle.merge_batch.specs.declared.reply.RangeGrant.{RangeGrant}
use Rattle.merge_batch.specs.declared.reply.Reply.TheVariants as reply
use Rattle.merge_batch.specs.declared.request.Outstanding.{Outstanding}
use Rattle.merge_batch.specs.declared.request.Outstanding.TheVariants as ask
use Rattle.merge_batch.specs.declared.request.Request.TheVariants as request
use Rattle.merge_batch.specs.declared.request.Want.{Want}
use Rattle.merge_model.specs.World.Faults.{heard_by}
use Rattle.merge_model.specs.Tables.Keys.{at_number}
use Rattle.merge_model.specs.Tables.{SubscriberTables}
use Rattle.merge_model.specs.Subscriber.Taking.{seq_of}
use Rattle.merge_model.specs.declared.letter.Letter.{Letter}
use Rattle.merge_model.specs.declared.letter.Message.{Message}
use Rattle.merge_model.specs.declared.letter.Message.TheVariants.{Asks, Replies}

abbrev pub number_in : Message → ℕ
number_in (Asks (request.Join m)) = m.seq
number_in (Asks (request.Upload m)) = m.seq
number_in (Asks (request.Ranges m)) = m.seq
number_in (Asks (request.Download m)) = m.seq
number_in (Replies m) = seq_of m

-- an ask tells of an article as many ranges as its site heard of, and a reply tells the next one
abbrev pub IsHeard : SubscriberTables → Want → Type 0
IsHeard s want = heard_by s want.article ≡ Some want.have

abbrev pub IsNextOf : SubscriberTables → ℕ → ℕ → Type 0
IsNextOf s article number = option_map_or (λ (have : ℕ). number == have + 1) (heard_by s article) false ≡ true

-- the publisher took what was sent
abbrev pub TakesAll : ℕ → Outstanding → Type 0
TakesAll received (ask.Upload from to) = to ≤ received
TakesAll received sent = ⊥

-- the message that a request is, and that a reply answers
abbrev pub IsOutstanding : SubscriberTables → Outstanding → Message → Type 0
IsOutstanding s sent (Asks (request.Join m)) = sent ≡ ask.Join
IsOutstanding s sent (Asks (request.Upload m)) = sent ≡ ask.Upload m.from m.to
IsOutstanding s sent (Asks (request.Ranges m)) = (sent ≡ ask.Ranges) × AllByRecursion (IsHeard s) m.wants
IsOutstanding s sent (Asks (request.Download m)) = sent ≡ ask.Download m.from
IsOutstanding s sent (Replies (reply.Joined m)) = sent ≡ ask.Join
IsOutstanding s sent (Replies (reply.Uploaded m)) = TakesAll m.received sent
IsOutstanding s sent (Replies (reply.Ranged m)) = (sent ≡ ask.Ranges) × AllByRecursion (λ (told : RangeGrant). IsNextOf s told.article told.number) m.grants
IsOutstanding s sent (Replies (reply.Downloaded m)) = (sent ≡ ask.Download m.from) × (s.received ≤ m.received)
IsOutstanding s sent (Replies (reply.Refused number values)) = ⊥

-- messages are of sites that there are, and none has a number that its site did not give yet
abbrev pub MessageAnswers : Option SubscriberTables → Message → Type 0
MessageAnswers None message = ⊥
MessageAnswers (Some s) message = (number_in message ≤ s.seq) × ((sent : Outstanding) → s.outstanding ≡ Some (number_in message, sent) → IsOutstanding s sent message)

-- ranges that a reply tells of have values, and are of articles that differ
abbrev pub HasValue : RangeGrant → Type 0
HasValue told = told.begin ≤ℤ told.end

abbrev pub HasRanges : Message → Type 0
HasRanges (Replies (reply.Ranged m)) = (are_distinct (map granted_article m.grants) ≡ true) × AllByRecursion HasValue m.grants
HasRanges message = Unit {0}

abbrev pub LetterAnswers : List (ℕ × SubscriberTables) → Letter → Type 0
LetterAnswers subscribers letter = MessageAnswers (at_number subscribers letter.site.0) letter.message × HasRanges letter.message

abbrev pub LettersAnswer : List (ℕ × SubscriberTables) → List Letter → Type 0
LettersAnswer subscribers pool = AllByRecursion (LetterAnswers subscribers) pool
