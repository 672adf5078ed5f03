-- Why a summary was not written whole.
use Rattle.std.specs.Prelude.{List, Option, ℕ, ◌≡◌}
use Rattle.merge_ports.specs.Faults.{Rose}
use Rattle.merge_ports.specs.Parts.{AppendsFront}
use Rattle.merge_service.specs.declared.stop.Stop.{Stop}
use Rattle.merge_service.specs.declared.stop.Stop.TheVariants.{NoMemory, WriteFault}

-- a front of it was written, and then a write failed; or nothing, since memory was wanting
abbrev pub IsUnwritten : Stop → List ℕ → (was written : Option (List ℕ)) → (writes refused : ℕ) → Type 0
IsUnwritten WriteFault text was written writes refused = AppendsFront was written text × Rose writes refused
IsUnwritten NoMemory text was written writes refused = written ≡ was
IsUnwritten other text was written writes refused = ⊥
