-- The cause of each status of a run, and what was written and kept by then.
use Rattle.std.specs.Prelude.{Bool, IsTrue, List, None, Option, Some, length, nat_lt, true, ℕ, ◌==◌, ◌||◌, ◌≡◌, ◌≢◌, ◌⊎◌}
use Rattle.merge_types.specs.declared.identifiers.Moment.{Moment}
use Rattle.merge_ports.specs.Faults.{Rose}
use Rattle.merge_schema.specs.declared.fault.SchemaFault.{SchemaFault}
use Rattle.merge_world.specs.Views.{HandedView}
use Rattle.merge_program.specs.declared.command.Command.{Command}
use Rattle.merge_program.specs.declared.command.Command.TheVariants.{Change, Make, Play, Show, Sync}
use Rattle.merge_program.specs.declared.ending.Ending.{Ending}
use Rattle.merge_program.specs.declared.ending.Ending.TheVariants.{BadReply, Damaged, Declined, Done, Expired, NoEvent, NotTaken, Refused, TooLong, UnknownArticle, UnknownSite, Usage}
use Rattle.merge_program.specs.Changing.{ChangeEnds}
use Rattle.merge_program.specs.Endings.{status_of}
use Rattle.merge_program.specs.Headline.{PlayRunEnds}
use Rattle.merge_program.specs.Making.{MakeEnds}
use Rattle.merge_program.specs.Notes.{EndingIsTold}
use Rattle.merge_program.specs.Showing.{ShowEnds}
use Rattle.merge_program.specs.Stores.{at_no_path}
use Rattle.merge_program.specs.Syncing.{SyncEnds}
use Rattle.merge_program.specs.Visits.{IsIdle, Visit, sides_of}

-- why a run of a command ended
abbrev pub CommandEnds : Option Command → Ending → HandedView → Visit → Type 0
CommandEnds None ending handed v = (ending ≡ Usage) × IsIdle v
CommandEnds (Some Play) ending handed v = PlayRunEnds ending v.input handed (sides_of v) (at_no_path v.stored) (at_no_path v.kept) v.writes v.refused v.reads v.failed
CommandEnds (Some (Make customers)) ending handed v = MakeEnds ending customers handed (sides_of v) (at_no_path v.stored) v.writes v.refused
CommandEnds (Some (Change place)) ending handed v = ChangeEnds ending place (length handed.tallies) v
CommandEnds (Some (Show place article)) ending handed v = ShowEnds ending place article (length handed.tallies) v
CommandEnds (Some (Sync place address)) ending handed v = SyncEnds ending place address (length handed.tallies) v

abbrev pub is_status : ℕ → Bool
is_status n = nat_lt n 13 || (n == 14)

-- a status that comes before a site is started, or for a session that was not done
abbrev pub is_silent : ℕ → Bool
is_silent n = (n == 2) || ((n == 4) || ((n == 7) || ((n == 8) || ((n == 9) || ((n == 12) || (n == 14))))))

-- What each status tells of a run. Want of memory, 11, tells no more than what holds of every run.
pub record Tells (status : ℕ) (command : Option Command) (handed : HandedView) (v : Visit) : Type 0 where
  pub done : status ≡ 0 → CommandEnds command Done handed v
  pub usage : status ≡ 1 → (command ≡ None) ⊎ ((line : ℕ) × CommandEnds command (NotTaken line) handed v)
  pub refused : status ≡ 2 → (fault : SchemaFault) × CommandEnds command (Refused fault) handed v
  pub no_event : status ≡ 3 → (line : ℕ) × (word : ℕ) × CommandEnds command (NoEvent line word) handed v
  pub read : status ≡ 4 → Rose v.reads v.failed ⊎ Rose v.old.texts v.new.texts
  pub counted : status ≢ 4 → v.failed ≡ v.reads
  pub write : status ≡ 5 → Rose v.writes v.refused
  pub stores : status ≡ 6 → Rose v.old.stores v.new.stores
  pub links : status ≡ 7 → Rose v.old.links v.new.links
  pub expired : status ≡ 8 → (last_sync : Moment) × (now : Moment) × CommandEnds command (Expired last_sync now) handed v
  pub reply : status ≡ 9 → (place : ℕ) × CommandEnds command (BadReply place) handed v
  pub damaged : status ≡ 10 → (table : ℕ) × (key : List ℕ) × CommandEnds command (Damaged table key) handed v
  pub declined : status ≡ 12 → CommandEnds command UnknownSite handed v ⊎ (CommandEnds command UnknownArticle handed v ⊎ ((number : ℕ) × CommandEnds command (Declined number) handed v))
  pub long : status ≡ 14 → CommandEnds command TooLong handed v
  pub no_command : command ≡ None → status ≡ 1
  pub silent : is_silent status ≡ true → v.written ≡ v.was
  pub known : IsTrue (is_status status)

-- What the notes were told, and that it was why the run ended.
pub record IsNoted (status : ℕ) (command : Option Command) (handed : HandedView) (v : Visit) (old new : Option (List ℕ)) (before after : ℕ) : Type 0 where
  pub ending : Ending
  pub status_is : status ≡ status_of ending
  pub ends : CommandEnds command ending handed v
  pub told : EndingIsTold ending old new before after
