-- The exit status of each ending, and how a run ends by what stops it.
use Rattle.std.specs.Prelude.{ℕ}
use Rattle.merge_batch.specs.declared.refusal.Refusal.{Refusal}
use Rattle.merge_batch.specs.declared.refusal.Refusal.TheVariants as refusal
use Rattle.merge_ports.specs.declared.outside.OpenFault.{OpenFault}
use Rattle.merge_ports.specs.declared.outside.OpenFault.TheVariants as opening
use Rattle.merge_ports.specs.declared.whole.ReadFault.{ReadFault as Unread}
use Rattle.merge_ports.specs.declared.whole.ReadFault.TheVariants as reading
use Rattle.merge_schema.specs.declared.fault.SchemaFault.{SchemaFault}
use Rattle.merge_schema.specs.declared.fault.SchemaFault.TheVariants as schema
use Rattle.merge_program.specs.declared.ending.Ending.{Ending}
use Rattle.merge_program.specs.declared.ending.Ending.TheVariants.{BadReply, Damaged, Declined, Done, Expired, LinkFault, NoEvent, NoMemory, NotTaken, ReadFault, Refused, StoreFault, TooLong, UnknownArticle, UnknownSite, Usage, WriteFault}

abbrev pub status_of : Ending → ℕ
status_of Done = 0
status_of Usage = 1
status_of (Refused fault) = 2
status_of (NotTaken line) = 1
status_of (NoEvent line word) = 3
status_of ReadFault = 4
status_of WriteFault = 5
status_of StoreFault = 6
status_of (Damaged table key) = 10
status_of NoMemory = 11
status_of UnknownSite = 12
status_of UnknownArticle = 12
status_of TooLong = 14
status_of LinkFault = 7
status_of (Expired last_sync now) = 8
status_of (BadReply place) = 9
status_of (Declined number) = 12

abbrev pub ending_of_opening : OpenFault → Ending
ending_of_opening opening.Failed = StoreFault
ending_of_opening opening.NoMemory = NoMemory

abbrev pub unopened_text : OpenFault → Ending
unopened_text opening.Failed = ReadFault
unopened_text opening.NoMemory = NoMemory

abbrev pub ending_of_reading : Unread → Ending
ending_of_reading reading.Failed = ReadFault
ending_of_reading reading.TooLong = TooLong
ending_of_reading reading.NoMemory = NoMemory

abbrev pub refused_for : SchemaFault → Ending
refused_for schema.NoMemory = NoMemory
refused_for fault = Refused fault

-- a site does not start for its number, for its store, or for want of memory
abbrev pub stopped_by : Refusal → Ending
stopped_by (refusal.UnknownSite site) = UnknownSite
stopped_by refusal.StoreFault = StoreFault
stopped_by (refusal.Damaged table key) = Damaged table key
stopped_by other = NoMemory
