-- How what a reader gives agrees with what the words say.
use Rattle.std.specs.Prelude.{◌≡◌, ℕ, List, Option, Some, None, Result, Ok, Err}
use Rattle.merge_types.specs.declared.identifiers.SiteId.{SiteId}
use Rattle.merge_model.specs.Script.Reading.{Read}
use Rattle.merge_model.specs.declared.event.Event.{Event}
use Rattle.merge_model.specs.declared.event.Event.TheVariants.{SendJoin, SendUpload, SendRanges, SendDownload}
use Rattle.merge_reading.specs.declared.stop.Stop.{Stop}
use Rattle.merge_reading.specs.declared.stop.Stop.TheVariants.{Memory, Wrong}
use Rattle.merge_reading.specs.declared.word.Sending.{Sending}
use Rattle.merge_reading.specs.declared.word.Sending.TheVariants.{Join, Upload, Ranges, Download}

-- what was read is said, and the number of a wrong word too; for want of memory nothing is told
abbrev pub Tells : {A : Type 0} → Result A Stop → Read A → Type 0
Tells (Ok x) said = said ≡ Ok x
Tells (Err Memory) said = Unit {0}
Tells (Err (Wrong number)) said = said ≡ Err number

-- that a site sends something
abbrev pub as_event : Sending → SiteId → Event
as_event Join = SendJoin
as_event Upload = SendUpload
as_event Ranges = SendRanges
as_event Download = SendDownload

-- a message was made out
abbrev pub TellsSending : Result Sending Stop → Read (SiteId → Event) → Type 0
TellsSending (Ok message) said = said ≡ Ok (as_event message)
TellsSending (Err Memory) said = Unit {0}
TellsSending (Err (Wrong number)) said = said ≡ Err number

-- the event of a site was made out
abbrev pub TellsOf : (SiteId → Event) → Result SiteId Stop → Read Event → Type 0
TellsOf event (Ok site) said = said ≡ Ok (event site)
TellsOf event (Err Memory) said = Unit {0}
TellsOf event (Err (Wrong number)) said = said ≡ Err number
