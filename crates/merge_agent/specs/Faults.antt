-- The faults of a session that come of refusals and of the link.
use Rattle.std.specs.Prelude.{List, [], ◌∷◌, ℕ, ◌==◌, if◌then◌else◌, Result, Ok, Err}
use Rattle.merge_batch.specs.Refusals.{number_of}
use Rattle.merge_batch.specs.declared.refusal.Refusal.{Refusal}
use Rattle.merge_batch.specs.declared.refusal.Refusal.TheVariants as refusal
use Rattle.merge_link.specs.declared.link.LinkFault.{LinkFault}
use Rattle.merge_link.specs.declared.link.LinkFault.TheVariants as link
use Rattle.merge_agent.specs.declared.fault.SessionFault.{SessionFault}
use Rattle.merge_agent.specs.declared.fault.SessionFault.TheVariants as fault

-- of the link
abbrev pub carrying_fault : LinkFault → SessionFault
carrying_fault link.Failed = fault.LinkFault
carrying_fault link.NoMemory = fault.NoMemory

-- of the subscriber's own call. A reply that does not fit is told by its item
abbrev pub fault_of : Refusal → SessionFault
fault_of (refusal.BadBatch item rule) = fault.BadReply item
fault_of refusal.StoreFault = fault.StoreFault
fault_of refusal.NoMemory = fault.NoMemory
fault_of other = fault.Refused (number_of other)

abbrev pub with_fault : {A : Type 0} → Result A Refusal → Result A SessionFault
with_fault (Ok done) = Ok done
with_fault (Err why) = Err (fault_of why)

abbrev pub expired_as : ℕ → List ℕ → SessionFault
expired_as number (last_sync ∷ now ∷ []) = fault.Expired (record { 0 = last_sync }) (record { 0 = now })
expired_as number values = fault.Refused number

-- of a refused reply, by its number and its fields
abbrev pub refused_as : ℕ → List ℕ → SessionFault
refused_as number values = if number == 2 then expired_as number values else fault.Refused number
