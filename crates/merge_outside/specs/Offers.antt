-- What an outside offers to commands beyond stores, and when it may refuse to open a text.
use Rattle.std.specs.Prelude.{◌≡◌, ℕ, ◌+◌, ◌-◌, ◌^◌, min, List, Result, IsErrOf, OnOk}
use Rattle.std.specs.declared.option.Option.{Option}
use Rattle.std.specs.declared.option.Option.TheVariants.{None}
use Rattle.merge_ports.specs.Faults.{Rose}
use Rattle.merge_ports.specs.declared.outside.Counts.{Counts}
use Rattle.merge_ports.specs.declared.outside.OpenFault.{OpenFault}
use Rattle.merge_ports.specs.declared.outside.OpenFault.TheVariants.{Failed, NoMemory}
use Rattle.merge_link.specs.Moments.{Moments}
use Rattle.merge_link.specs.declared.link.Exchange.{Exchange}

-- each part where the outside tells it
pub record Offers : Type 0 where
  -- the bytes of the text at a path
  pub texts : List ℕ → Option (List ℕ)
  -- the responses that are to come over the link that is opened next
  pub responses : Option (List (List ℕ))
  -- the exchanges over the link that was given back last
  pub exchanges : Option (List Exchange)
  -- the moments that are to come from the clock that is opened next
  pub moments : Option Moments
  -- the address of the link that was given back last, if one was
  pub peer : Option (List ℕ)

abbrev pub nothing_told : Offers
nothing_told = record { texts = (λ path. None); responses = None; exchanges = None; moments = None; peer = None }

-- the counts with the faults of a text; the greatest number of 64 bits stays
abbrev pub with_text_faults : ℕ → Counts → Counts
with_text_faults faults counts = record counts { texts = min (counts.texts + faults) (2 ^ 64 - 1) }

-- the counts with the faults of a link
abbrev pub with_link_faults : ℕ → Counts → Counts
with_link_faults faults counts = record counts { links = min (counts.links + faults) (2 ^ 64 - 1) }

-- the count of texts rose where the opening failed, and else stayed; the other counts stay
pub record HasTextCause {T : Type 0} (old new : Counts) (result : Result T OpenFault) : Type 0 where
  pub stores : new.stores ≡ old.stores
  pub links : new.links ≡ old.links
  pub failed : IsErrOf result Failed → Rose old.texts new.texts
  pub kept : OnOk result (new.texts ≡ old.texts)
  pub starved : IsErrOf result NoMemory → new.texts ≡ old.texts
