-- What a link carried, where it tells it, and when a call of it may answer a fault.
use Rattle.std.specs.Prelude.{◌≡◌, ℕ, ◌≤◌, Bool, ◌||◌, List, [], ◌∷◌, ◌++◌, Result, IsErrOf, OnOk, option_map, length, nat_le}
use Rattle.std.specs.declared.option.Option.{Option}
use Rattle.merge_ports.specs.Faults.{Rose, is_listed}
use Rattle.merge_link.specs.declared.link.Exchange.{Exchange}
use Rattle.merge_link.specs.declared.link.LinkFault.{LinkFault}
use Rattle.merge_link.specs.declared.link.LinkFault.TheVariants.{Failed, NoMemory}

-- the responses that were to come before this one
abbrev pub before_response : List ℕ → Option (List (List ℕ)) → Option (List (List ℕ))
before_response response coming = option_map (λ later. response ∷ later) coming

-- the exchanges with one more behind them
abbrev pub with_exchange : List ℕ → List ℕ → Option (List Exchange) → Option (List Exchange)
with_exchange request response exchanges = option_map (λ earlier. earlier ++ record { request = request; response = response } ∷ []) exchanges

-- the count never falls, it rose where the call failed, and it stayed where the call did not
pub record HasLinkCause {T : Type 0} (old new : ℕ) (result : Result T LinkFault) : Type 0 where
  pub later : old ≤ new
  pub failed : IsErrOf result Failed → Rose old new
  pub kept : OnOk result (new ≡ old)
  pub starved : IsErrOf result NoMemory → new ≡ old

-- a call of a link in memory fails: its number is listed, or no response is left
abbrev pub must_fail : List ℕ → ℕ → List (List ℕ) → ℕ → Bool
must_fail failing call responses given = is_listed failing call || nat_le (length responses) given
