-- Why a site does not start at its store.
use Rattle.std.specs.Prelude.{Option, ℕ, ◌≡◌}
use Rattle.merge_batch.specs.declared.refusal.Refusal.TheVariants as refusal
use Rattle.merge_keeper.specs.Start.{Loaded}
use Rattle.merge_ports.specs.Entries.{Map}
use Rattle.merge_ports.specs.Faults.{Rose}
use Rattle.merge_site.specs.Loading.{IsDamage}
use Rattle.merge_program.specs.declared.ending.Ending.{Ending}
use Rattle.merge_program.specs.declared.ending.Ending.TheVariants.{Damaged, NoMemory, StoreFault}

-- the store could not be opened or read, which is counted; or a record is the first that has no reading or breaks a rule; or memory was wanting
abbrev pub IsUnopenedFor : {T : Type 0} → (Map → Loaded T) → Ending → (stored : Option Map) → (before after : ℕ) → Type 0
IsUnopenedFor load StoreFault stored before after = Rose before after
IsUnopenedFor load (Damaged table key) stored before after = IsDamage load stored (refusal.Damaged table key)
IsUnopenedFor load NoMemory stored before after = Unit {0}
IsUnopenedFor load other stored before after = ⊥

-- and the store is told as before
pub record IsUnopened {T : Type 0} (load : Map → Loaded T) (ending : Ending) (stored map : Option Map) (before after : ℕ) : Type 0 where
  pub cause : IsUnopenedFor load ending stored before after
  pub same : map ≡ stored
