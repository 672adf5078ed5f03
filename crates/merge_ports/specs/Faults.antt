-- When a call may answer a fault: only where the object's count of faults rose in that call.
use Rattle.std.specs.List.{list_any}
use Rattle.std.specs.Prelude.{◌≡◌, ℕ, ◌+◌, ◌-◌, ◌^◌, ◌≤◌, ◌==◌, min, Bool, Result, OnErr, OnOk, List}

-- the next count; the greatest number of 64 bits stays
abbrev pub one_more : ℕ → ℕ
one_more count = min (count + 1) (2 ^ 64 - 1)

-- a count rose; at the greatest number of 64 bits it stays, and that counts as risen
abbrev pub Rose : ℕ → ℕ → Type 0
Rose old new = one_more old ≤ new

-- the count never falls, it rose where the call failed, and it stayed where the call did not
pub record HasCause {T E : Type 0} (old new : ℕ) (result : Result T E) : Type 0 where
  pub later : old ≤ new
  pub failed : OnErr result (Rose old new)
  pub kept : OnOk result (new ≡ old)

-- the number of a call is listed
abbrev pub is_listed : List ℕ → ℕ → Bool
is_listed calls call = list_any (λ listed. listed == call) calls
