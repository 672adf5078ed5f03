-- When a keeper may refuse: with `Failed` only where its count of faults rose in that call.
use Rattle.std.specs.Prelude.{◌≡◌, ℕ, ◌≤◌, Result, IsErrOf, OnOk}
use Rattle.merge_ports.specs.declared.keeper.KeepFault.{KeepFault}
use Rattle.merge_ports.specs.declared.keeper.KeepFault.TheVariants.{Failed, NoMemory}
use Rattle.merge_ports.specs.Faults.{Rose}

-- the count never falls, it rose where the call failed, and it stayed where the call did not
pub record HasKeepCause {T : Type 0} (old new : ℕ) (result : Result T KeepFault) : Type 0 where
  pub later : old ≤ new
  pub failed : IsErrOf result Failed → Rose old new
  pub kept : OnOk result (new ≡ old)
  pub starved : IsErrOf result NoMemory → new ≡ old
