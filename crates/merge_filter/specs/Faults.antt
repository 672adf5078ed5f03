-- The numbers of faults.
use Rattle.std.specs.Prelude.{ℕ, Option, Some, None}
use Rattle.merge_filter.specs.declared.fault.FilterFault.{FilterFault}
use Rattle.merge_filter.specs.declared.fault.FilterFault.TheVariants.{BadToken, BadForm, UnknownColumn, TypeMismatch, TooDeep, NoMemory}

abbrev pub number_of : FilterFault → Option ℕ
number_of (BadToken place) = Some 1
number_of (BadForm place) = Some 2
number_of (UnknownColumn place) = Some 3
number_of (TypeMismatch place) = Some 4
number_of TooDeep = Some 5
number_of NoMemory = None
