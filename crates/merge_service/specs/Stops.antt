-- How a day stops by what stopped a part of it.
use Rattle.merge_batch.specs.declared.refusal.Refusal.{Refusal}
use Rattle.merge_batch.specs.declared.refusal.Refusal.TheVariants as refusal
use Rattle.merge_ports.specs.declared.outside.OpenFault.{OpenFault}
use Rattle.merge_ports.specs.declared.outside.OpenFault.TheVariants as opening
use Rattle.merge_service.specs.declared.stop.Stop.{Stop}
use Rattle.merge_service.specs.declared.stop.Stop.TheVariants.{Damaged, DoorFault, NoMemory, StoreFault}

-- the store is not opened
abbrev pub stop_of_opening : OpenFault → Stop
stop_of_opening opening.Failed = StoreFault
stop_of_opening opening.NoMemory = NoMemory

-- the door is not opened
abbrev pub stop_of_door : OpenFault → Stop
stop_of_door opening.Failed = DoorFault
stop_of_door opening.NoMemory = NoMemory

-- the publisher does not start for its store, or for want of memory
abbrev pub stop_of_start : Refusal → Stop
stop_of_start refusal.StoreFault = StoreFault
stop_of_start (refusal.Damaged table key) = Damaged table key
stop_of_start other = NoMemory
