-- What the seats of a desk were told is what one thread answers.
use Rattle.std.specs.Prelude.{List, length, ℕ, ◌+◌, ◌++◌, ◌∷◌, ◌≡◌}
use Rattle.std.specs.List.{Contains}
use Rattle.merge_types.specs.declared.identifiers.Moment.{Moment}
use Rattle.merge_schema.specs.declared.publication.Publication.{Publication}
use Rattle.merge_batch.specs.declared.reply.Reply.{Reply}
use Rattle.merge_batch.specs.declared.request.Request.{Request}
use Rattle.merge_model.specs.Tables.{PublisherTables}
use Rattle.merge_model.specs.World.{Saying}
use Rattle.merge_desk.specs.Comparing.{AllToldAsKept}
use Rattle.merge_desk.specs.Marks.{mark_on, reply_digest, request_digest}
use Rattle.merge_desk.specs.Replay.{answer_to, replay}
use Rattle.merge_desk.specs.Views.{IsJournal, SeatView}
use Rattle.merge_desk.specs.declared.entry.Entry.{Entry}
use Rattle.merge_desk.specs.declared.mark.Mark.{Mark}

-- The journal has an entry of this seat at this place and moment, whose request has the digest of this one, and what one thread answers to
-- it behind the entries before it has the digest of this reply.
pub record IsOneThreads (publication : Publication) (opening : PublisherTables) (journal : List Entry) (number place : ℕ) (now : Moment) (asked : Request) (answer : Reply) : Type 0 where
  pub early : List Entry
  pub entry : Entry
  pub late : List Entry
  pub whole : journal ≡ early ++ entry ∷ late
  pub own : entry.seat ≡ number
  pub placed : place ≡ length early + 1
  pub moment : entry.moment ≡ now
  pub requested : request_digest entry.request ≡ request_digest asked
  pub replied : reply_digest (answer_to publication (replay publication opening early) entry).1 ≡ reply_digest answer

-- So it is with each request that was answered from a seat, where the desk was closed with it.
abbrev pub RepliesAreOneThreads : Type 0
RepliesAreOneThreads = (publication : Publication) (says : Saying) (opening now : PublisherTables) (journal : List Entry) → IsJournal publication says opening journal now
    → (seats : List SeatView) → AllToldAsKept journal seats → (s : SeatView) → Contains seats s
    → (before after : List Mark) (place : ℕ) (moment : Moment) (asked : Request) (answer : Reply) → s.told ≡ before ++ mark_on place moment asked answer ∷ after
    → IsOneThreads publication opening journal s.number place moment asked answer
