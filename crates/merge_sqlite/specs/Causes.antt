-- What a keeper answers where SQLite refused, and what it counts.
use Rattle.std.specs.Prelude.{ℕ}
use Rattle.merge_ports.specs.Faults.{one_more}
use Rattle.merge_ports.specs.declared.keeper.KeepFault.{KeepFault}
use Rattle.merge_ports.specs.declared.keeper.KeepFault.TheVariants as fault
use Rattle.sqlite.specs.declared.error.Error.{Error}
use Rattle.sqlite.specs.declared.error.Error.TheVariants.{SqliteFailure}
use Rattle.sqlite.specs.declared.error.ErrorCode.TheVariants.{OutOfMemory}
use Rattle.merge_sqlite.specs.declared.keeper.Stop.{Stop}
use Rattle.merge_sqlite.specs.declared.keeper.Stop.TheVariants.{NoMemory, Refused}

-- why SQLite refused
abbrev pub stop_of : Error → Stop
stop_of (SqliteFailure OutOfMemory) = NoMemory
stop_of _ = Refused

abbrev pub fault_of : Stop → KeepFault
fault_of NoMemory = fault.NoMemory
fault_of Refused = fault.Failed

-- want of memory is not counted
abbrev pub count_after : Stop → ℕ → ℕ
count_after NoMemory count = count
count_after Refused count = one_more count
