-- What is given of the row at a key.
use Rattle.std.specs.Prelude.{Option, Some, None}

-- none where there is no row
abbrev pub given_by : {K V Y : Type 0} → (K × V → Option Y) → K → Option V → Option Y
given_by give key None = None
given_by give key (Some row) = give (key, row)
