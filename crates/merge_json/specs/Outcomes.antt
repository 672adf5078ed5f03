-- What a function that reads returns.
use Rattle.std.specs.Prelude.{◌≡◌, ℕ, Option, Some, None, Result, Ok, Err}
use Rattle.merge_json.specs.declared.stop.Stop.{Stop}
use Rattle.merge_json.specs.declared.stop.Stop.TheVariants as stop
use Rattle.merge_json.specs.declared.fault.BodyFault.{BodyFault}
use Rattle.merge_json.specs.declared.fault.BodyFault.TheVariants as fault

abbrev pub Fails : {Y : Type 0} → Stop → Option Y → Type 0
Fails stop.Memory read = Unit {0}
Fails stop.Broken read = read ≡ None

-- what was returned, seen by view, is what the reader gives, unless memory ran out
abbrev pub Gives : {X Y : Type 0} → (X → Y) → Result X Stop → Option Y → Type 0
Gives view (Ok x) read = read ≡ Some (view x)
Gives view (Err e) read = Fails e read

abbrev pub FailsAt : {Y : Type 0} → BodyFault → Result Y ℕ → Type 0
FailsAt fault.NoMemory read = Unit {0}
FailsAt (fault.BadBody place) read = read ≡ Err place

-- the same of a reader that tells the place of what it can't read
abbrev pub GivesAt : {X Y : Type 0} → (X → Y) → Result X BodyFault → Result Y ℕ → Type 0
GivesAt view (Ok x) read = read ≡ Ok (view x)
GivesAt view (Err e) read = FailsAt e read

-- what is no item has no number
abbrev pub fault_of : Stop → BodyFault
fault_of stop.Memory = fault.NoMemory
fault_of stop.Broken = fault.BadBody 0
