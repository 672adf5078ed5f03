-- Events that happen to all sites.
use Rattle.std.specs.Prelude.{Err, Ok, Result, ℕ, ◌+◌, ◌≡◌}
use Rattle.merge_types.specs.declared.changes.Change.{Change}
use Rattle.merge_types.specs.declared.identifiers.SiteId.{SiteId}
use Rattle.merge_schema.specs.declared.publication.Publication.{Publication}
use Rattle.merge_batch.specs.declared.refusal.Refusal.{Refusal}
use Rattle.merge_model.specs.World.Events.{change_answer}
use Rattle.merge_model.specs.Failing.Reach.{Happens}
use Rattle.merge_model.specs.World.Steps.{Make}
use Rattle.merge_model.specs.World.{Saying, World}
use Rattle.merge_model.specs.declared.answer.Answer.{Answer}
use Rattle.merge_model.specs.declared.event.Event.{Event}
use Rattle.merge_model.specs.declared.event.Event.TheVariants as event
use Rattle.merge_model.specs.declared.outcome.Outcome.{Outcome}
use Rattle.merge_world.specs.declared.sending.Sending.{Sending as Told}
use Rattle.merge_world.specs.declared.sending.Sending.TheVariants as told
use Rattle.merge_world.specs.Resuming.{EndsRun}
use Rattle.merge_world.specs.Views.{Does, HandedView, SitesView, world_of}

-- by how much an event moves the moment
abbrev pub seconds_of : Event → ℕ
seconds_of (event.Wait seconds) = seconds
seconds_of e = 0

-- an event happens: it stays shut where it is cited, since what is in it is large
unfoldable pub Comes : Publication → Saying → World → Event → World → Answer → ℕ → ℕ → Type 0
Comes publication says w e v answer before after = Happens publication says w e v answer before after

pub record Happened (e : Event) (old new : SitesView) (before after : HandedView) (answer : Answer) : Type 0 where
  pub comes : Comes old.publication before.says (world_of old before.tallies) e (world_of new after.tallies) answer old.faults new.faults
  pub publication : new.publication ≡ old.publication
  pub sites : new.sites ≡ old.sites
  pub publications : new.publications ≡ old.publications
  pub says : after.says ≡ before.says
  pub moment : new.moment.0 ≡ old.moment.0 + seconds_of e

-- a local change of a site was made or failed, and what is answered
pub record ChangeIsAnswered (site : SiteId) (change : Change) (old new : SitesView) (answer : Answer) : Type 0 where
  pub outcome : Outcome
  pub does : Does (Make site change) old new outcome
  pub answered : answer ≡ change_answer change outcome

-- an event happens, or ends the run, and then no resolver was asked
abbrev pub Proceeds : Event → SitesView → SitesView → HandedView → HandedView → Result Answer Refusal → Type 0
Proceeds e old new before after (Ok answer) = Happened e old new before after answer
Proceeds e old new before after (Err why) = EndsRun e old new why × (after ≡ before)

-- the event that tells a subscriber to make a message
abbrev pub send_event : Told → SiteId → Event
send_event told.Join site = event.SendJoin site
send_event told.Upload site = event.SendUpload site
send_event told.Ranges site = event.SendRanges site
send_event told.Download site = event.SendDownload site
