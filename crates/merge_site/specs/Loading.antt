-- A store is read whole, and what it loads to.
use Rattle.std.specs.Prelude.{Err, IfSome, Option, ℕ, ◌≡◌, ◌⊎◌}
use Rattle.merge_batch.specs.declared.refusal.Refusal.{Refusal}
use Rattle.merge_batch.specs.declared.refusal.Refusal.TheVariants as refusal
use Rattle.merge_keeper.specs.Given.{IsMap}
use Rattle.merge_keeper.specs.Start.{Loaded}
use Rattle.merge_keeper.specs.declared.start.StartFault.{StartFault}
use Rattle.merge_keeper.specs.declared.start.StartFault.TheVariants.{Damaged, NoMemory}
use Rattle.merge_ports.specs.Entries.{Map}
use Rattle.merge_ports.specs.declared.entry.EntryKey.{EntryKey}
use Rattle.merge_site.specs.Calls.{StopsAs}

abbrev pub damage : EntryKey → Refusal
damage key = refusal.Damaged key.table key.key

abbrev pub refusal_of : StartFault → Refusal
refusal_of (Damaged key) = damage key
refusal_of NoMemory = refusal.NoMemory

-- Entries were read, which are those of the keeper where it tells them, and load to this: to tables, or to the key of the entry
-- that is named.
pub record IsRead {T : Type 0} (load : Map → Loaded T) (told : Option Map) (loaded : Loaded T) : Type 0 where
  pub entries : Map
  pub are_map : IsMap entries
  pub are_told : IfSome told (λ (map : Map). entries ≡ map)
  pub load_to : load entries ≡ loaded

-- they do not load, and the entry is the one that is named
abbrev pub IsDamage : {T : Type 0} → (Map → Loaded T) → Option Map → Refusal → Type 0
IsDamage load told why = (key : EntryKey) × (why ≡ damage key) × IsRead load told (Err key)

-- why a store does not load: memory was wanting, or it could not be read, which is counted; or it is damaged, and no fault is
-- counted
abbrev pub LoadsNot : {T : Type 0} → (Map → Loaded T) → Option Map → Refusal → ℕ → ℕ → Type 0
LoadsNot load told why before after = StopsAs why before after ⊎ (after ≡ before) × IsDamage load told why
