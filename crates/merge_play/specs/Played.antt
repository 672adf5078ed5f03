-- What is answered to the lines of a script.
use Rattle.std.specs.Prelude.{◌≡◌, ◌≤◌, ◌⊎◌, ◌++◌, ◌∷◌, ℕ, List, Option, length, take, true}
use Rattle.std.specs.Io.KnownBytes.{Appends}
use Rattle.merge_types.specs.declared.identifiers.SiteId.{SiteId}
use Rattle.merge_ports.specs.Parts.{AppendsFront}
use Rattle.merge_batch.specs.declared.refusal.Refusal.{Refusal}
use Rattle.merge_model.specs.Script.Play.{names_of}
use Rattle.merge_model.specs.Script.Reading.{events_of}
use Rattle.merge_model.specs.Script.Text.{text_of, texts_of}
use Rattle.merge_model.specs.World.Events.{is_site}
use Rattle.merge_model.specs.declared.answer.Answer.{Answer}
use Rattle.merge_model.specs.declared.event.Event.{Event}
use Rattle.merge_model.specs.declared.event.Event.TheVariants.{Restart}
use Rattle.merge_model.specs.declared.event.Line.{Line}
use Rattle.merge_model.specs.declared.event.Line.TheVariants.{Quiet, Event as Does, NoEvent}
use Rattle.merge_world.specs.Happenings.{Happened}
use Rattle.merge_world.specs.Playing.{AllHappened}
use Rattle.merge_world.specs.Restarts.{IsLost}
use Rattle.merge_world.specs.Resuming.{EndsRun}
use Rattle.merge_world.specs.Views.{HandedView, SitesView}

-- The events of the lines before the first that is no event, or of all, were answered, and the answers were written.
pub record Played (lines : List (List ℕ)) (old new : SitesView) (before after : HandedView) (was now : Option (List ℕ)) : Type 0 where
  pub answers : List Answer
  pub happened : AllHappened (events_of lines) old new before after answers
  pub bytes : Appends was now (texts_of (names_of old.publication) answers)

-- Nothing was done of these events; or the first of them is the restart of a site, which was lost.
abbrev pub IsLeft : List Event → (old new : SitesView) → Type 0
IsLeft events old new = (new ≡ old) ⊎ ((event : Event) × (more : List Event) × (why : Refusal) × (events ≡ event ∷ more) × EndsRun event old new why)

-- Some of the first of these events happened, and nothing else did but that a restart behind them may have lost its site. A front of the
-- answers was written: all of them but the last one whole.
pub record PlayedInPart (lines : List (List ℕ)) (old new : SitesView) (before after : HandedView) (was now : Option (List ℕ)) : Type 0 where
  pub events : List Event
  pub more : List Event
  pub split : events_of lines ≡ events ++ more
  pub answers : List Answer
  -- the sites behind these events
  pub last : SitesView
  pub happened : AllHappened events old last before after answers
  pub left : IsLeft more last new
  pub few : last.faults ≤ new.faults
  pub whole : List Answer
  pub rest : List Answer
  pub parts : answers ≡ whole ++ rest
  pub one : length rest ≤ 1
  pub count : ℕ
  pub enough : length (texts_of (names_of old.publication) whole) ≤ count
  pub bytes : Appends was now (take count (texts_of (names_of old.publication) answers))

-- All events before the restart of a site were answered, and the answers were written. Behind them the site was lost.
pub record PlayedToRestart (lines : List (List ℕ)) (old : SitesView) (before : HandedView) (why : Refusal) (faults : ℕ) (was now : Option (List ℕ)) : Type 0 where
  pub events : List Event
  pub site : SiteId
  pub more : List Event
  pub split : events_of lines ≡ events ++ Restart site ∷ more
  pub known : is_site old.publication site ≡ true
  pub answers : List Answer
  -- the sites and the resolvers behind these events
  pub last : SitesView
  pub behind : HandedView
  pub happened : AllHappened events old last before behind answers
  pub few : last.faults ≤ faults
  pub lost : IsLost why last.faults faults
  pub bytes : Appends was now (texts_of (names_of old.publication) answers)

-- what a line says was answered whole
abbrev pub LineAnswered : Line → (old new : SitesView) → (before after : HandedView) → (was now : Option (List ℕ)) → Type 0
LineAnswered Quiet old new before after was now = (new ≡ old) × (after ≡ before) × (now ≡ was)
LineAnswered (Does event) old new before after was now = (answer : Answer) × Happened event old new before after answer × Appends was now (text_of (names_of old.publication) answer)
LineAnswered (NoEvent word) old new before after was now = ⊥

-- what a line says was not done; or it lost a site, and nothing was written; or it was answered in part
abbrev pub LineInPart : Line → (old new : SitesView) → (before after : HandedView) → (was now : Option (List ℕ)) → Type 0
LineInPart (Does event) old new before after was now = ((new ≡ old) × (after ≡ before) × (now ≡ was))
    ⊎ (((why : Refusal) × EndsRun event old new why × (after ≡ before) × (now ≡ was))
    ⊎ ((answer : Answer) × Happened event old new before after answer × AppendsFront was now (text_of (names_of old.publication) answer)))
LineInPart other old new before after was now = (new ≡ old) × (after ≡ before) × (now ≡ was)

-- what a line says ended the run, and nothing was written
abbrev pub LineEnds : Line → (old new : SitesView) → Refusal → (was now : Option (List ℕ)) → Type 0
LineEnds (Does event) old new why was now = EndsRun event old new why × (now ≡ was)
LineEnds other old new why was now = ⊥
