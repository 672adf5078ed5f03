-- What an outside tells of its stores, and when it may refuse to open one.
use Rattle.std.specs.Prelude.{◌≡◌, ℕ, ◌+◌, ◌-◌, ◌^◌, min, List, Result, IsErrOf, OnOk}
use Rattle.std.specs.declared.option.Option.{Option}
use Rattle.merge_types.specs.declared.identifiers.SiteId.{SiteId}
use Rattle.merge_ports.specs.Entries.{Map}
use Rattle.merge_ports.specs.Faults.{Rose}
use Rattle.merge_ports.specs.declared.outside.Counts.{Counts}
use Rattle.merge_ports.specs.declared.outside.OpenFault.{OpenFault}
use Rattle.merge_ports.specs.declared.outside.OpenFault.TheVariants.{Failed, NoMemory}

-- all stores but one are told as before
abbrev pub SameElsewhere : SiteId → List ℕ → (SiteId → List ℕ → Option Map) → (SiteId → List ℕ → Option Map) → Type 0
SameElsewhere site path old new = (s : SiteId) (p : List ℕ) → ((s ≡ site) × (p ≡ path) → ⊥) → new s p ≡ old s p

-- the counts with the faults of a keeper; the greatest number of 64 bits stays
abbrev pub with_faults : ℕ → Counts → Counts
with_faults faults counts = record counts { stores = min (counts.stores + faults) (2 ^ 64 - 1) }

-- the count of stores rose where the opening failed, and else stayed; the other counts stay
pub record HasStoreCause {T : Type 0} (old new : Counts) (result : Result T OpenFault) : Type 0 where
  pub texts : new.texts ≡ old.texts
  pub links : new.links ≡ old.links
  pub failed : IsErrOf result Failed → Rose old.stores new.stores
  pub kept : OnOk result (new.stores ≡ old.stores)
  pub starved : IsErrOf result NoMemory → new.stores ≡ old.stores
