-- What was told, by why the run finished.
use Rattle.std.proofs.Common.{string_bytes}
use Rattle.merge_program.proofs.Serves.{finished, told-note}
use Rattle.merge_program.proofs.finish.Finish.tell.Goals as goal

pub returns-in-Ended : goal.returns-in-Ended
returns-in-Ended g c = finished _ _ _ _ _ _ c.in-Ended.is c.tell.ensures

pub returns-in-DoorFault : goal.returns-in-DoorFault
returns-in-DoorFault g c = finished _ _ _ _ _ _ c.in-DoorFault.is c.write_note.ensures

pub returns-in-Differs : goal.returns-in-Differs
returns-in-Differs g c = finished _ _ _ _ _ _ c.in-Differs.is (told-note (λ text. string_bytes text) _ _ _ _ _ c.differs_note.result c.differs_note.ensures c.write_made.ensures.ok c.write_made.ensures.err)
