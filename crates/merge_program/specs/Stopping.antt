-- How a run ends by how its script was played, its rows were shown, or its session went.
use Rattle.std.specs.Prelude.{Err, Ok, Result}
use Rattle.merge_play.specs.declared.stop.Stop.{Stop}
use Rattle.merge_play.specs.declared.stop.Stop.TheVariants as stop
use Rattle.merge_command.specs.declared.stop.Stop.{Stop as Halt}
use Rattle.merge_command.specs.declared.stop.Stop.TheVariants as halt
use Rattle.merge_command.specs.declared.stop.Unwritten.{Unwritten}
use Rattle.merge_command.specs.declared.stop.Unwritten.TheVariants as unwritten
use Rattle.merge_sync.specs.declared.stop.Stop.{Stop as Break}
use Rattle.merge_sync.specs.declared.stop.Stop.TheVariants as break
use Rattle.merge_program.specs.declared.ending.Ending.{Ending}
use Rattle.merge_program.specs.declared.ending.Ending.TheVariants.{BadReply, Damaged, Declined, Done, Expired, LinkFault, NoEvent, NoMemory, NotTaken, StoreFault, UnknownSite, WriteFault}
use Rattle.merge_program.specs.Endings.{stopped_by}

abbrev pub stopped_at : Stop → Ending
stopped_at (stop.NoEvent line word) = NoEvent line word
stopped_at stop.WriteFault = WriteFault
stopped_at (stop.Ended why) = stopped_by why
stopped_at stop.NoMemory = NoMemory

abbrev pub played_by : Result Unit Stop → Ending
played_by (Ok done) = Done
played_by (Err stopped) = stopped_at stopped

abbrev pub cut_by : Unwritten → Ending
cut_by unwritten.WriteFault = WriteFault
cut_by unwritten.NoMemory = NoMemory

abbrev pub halted_at : Halt → Ending
halted_at (halt.NoEvent line word) = NoEvent line word
halted_at (halt.NotTaken line) = NotTaken line
halted_at (halt.Unwritten why) = cut_by why

abbrev pub changed_by : Result Unit Halt → Ending
changed_by (Ok done) = Done
changed_by (Err halted) = halted_at halted

abbrev pub shown_by : Result Unit Unwritten → Ending
shown_by (Ok done) = Done
shown_by (Err why) = cut_by why

abbrev pub broken_at : Break → Ending
broken_at break.UnknownSite = UnknownSite
broken_at break.StoreFault = StoreFault
broken_at (break.Damaged table key) = Damaged table key
broken_at break.LinkFault = LinkFault
broken_at (break.Expired last_sync now) = Expired last_sync now
broken_at (break.BadReply place) = BadReply place
broken_at (break.Refused number) = Declined number
broken_at break.WriteFault = WriteFault
broken_at break.NoMemory = NoMemory

abbrev pub synced_by : Result Unit Break → Ending
synced_by (Ok done) = Done
synced_by (Err broken) = broken_at broken
