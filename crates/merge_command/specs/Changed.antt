-- What the lines of a script change at one site, and what is written of it.
use Rattle.std.specs.Prelude.{List, Option, length, map, take, ℕ, ◌++◌, ◌≡◌, ◌≤◌, ◌⊎◌}
use Rattle.std.specs.Io.KnownBytes.{Appends}
use Rattle.merge_types.specs.declared.identifiers.SiteId.{SiteId}
use Rattle.merge_link.specs.Moments.{Moments}
use Rattle.merge_ports.specs.Parts.{AppendsFront}
use Rattle.merge_model.specs.Script.Play.{names_of}
use Rattle.merge_model.specs.Script.Text.{text_of, texts_of}
use Rattle.merge_model.specs.declared.answer.Answer.{Answer}
use Rattle.merge_model.specs.declared.event.Event.{Event}
use Rattle.merge_model.specs.declared.event.Line.{Line}
use Rattle.merge_model.specs.declared.event.Line.TheVariants.{Quiet, Event as Does, NoEvent}
use Rattle.merge_world.specs.Views.{SitesView}
use Rattle.merge_command.specs.Clocked.{AllHappenedAt, AreTold, EventIsTaken, IsIdle, TimedEvent, event_of, moment_of}
use Rattle.merge_command.specs.Taken.{taken_of}

-- The events of the lines before the first that is none of the site, or of all, happened one after the other, each at the next
-- moment of the clock, and the text of their answers was written.
pub record Changed (here : SiteId) (lines : List (List ℕ)) (old new : SitesView) (began told : Option Moments) (was now : Option (List ℕ)) : Type 0 where
  pub timed : List TimedEvent
  pub events : map event_of timed ≡ taken_of here lines
  pub answers : List Answer
  pub happened : AllHappenedAt timed old new answers
  pub moments : AreTold (map moment_of timed) began told
  pub bytes : Appends was now (texts_of (names_of old.publication) answers)

-- Some of the first of these events happened, and nothing else did, and a front of the text of their answers was written: all of them
-- but the last one whole.
pub record ChangedInPart (here : SiteId) (lines : List (List ℕ)) (old new : SitesView) (began told : Option Moments) (was now : Option (List ℕ)) : Type 0 where
  pub timed : List TimedEvent
  pub more : List Event
  pub split : taken_of here lines ≡ map event_of timed ++ more
  pub answers : List Answer
  pub happened : AllHappenedAt timed old new answers
  pub moments : AreTold (map moment_of timed) began told
  pub whole : List Answer
  pub rest : List Answer
  pub parts : answers ≡ whole ++ rest
  pub one : length rest ≤ 1
  pub count : ℕ
  pub enough : length (texts_of (names_of old.publication) whole) ≤ count
  pub bytes : Appends was now (take count (texts_of (names_of old.publication) answers))

-- nothing was done, and nothing written
abbrev pub IsSilent : (old new : SitesView) → (began told : Option Moments) → (was now : Option (List ℕ)) → Type 0
IsSilent old new began told was now = IsIdle old new began told × (now ≡ was)

-- what a line says was done, and answered whole
abbrev pub LineAnswered : SiteId → Line → (old new : SitesView) → (began told : Option Moments) → (was now : Option (List ℕ)) → Type 0
LineAnswered here Quiet old new began told was now = IsSilent old new began told was now
LineAnswered here (Does e) old new began told was now = (answer : Answer) × EventIsTaken here e old new began told answer × Appends was now (text_of (names_of old.publication) answer)
LineAnswered here (NoEvent word) old new began told was now = ⊥

-- nothing was done for a line, or what it says was done, and answered in part
abbrev pub LineInPart : SiteId → Line → (old new : SitesView) → (began told : Option Moments) → (was now : Option (List ℕ)) → Type 0
LineInPart here (Does e) old new began told was now = IsSilent old new began told was now ⊎ ((answer : Answer) × EventIsTaken here e old new began told answer × AppendsFront was now (text_of (names_of old.publication) answer))
LineInPart here other old new began told was now = IsSilent old new began told was now
