-- A publisher that starts at its store, and what it leaves there.
use Rattle.std.specs.Prelude.{Ok, Option, ℕ}
use Rattle.merge_schema.specs.declared.publication.Publication.{Publication}
use Rattle.merge_batch.specs.declared.refusal.Refusal.{Refusal}
use Rattle.merge_batch.specs.declared.refusal.Refusal.TheVariants as refusal
use Rattle.merge_ports.specs.Entries.{Map}
use Rattle.merge_ports.specs.Faults.{Rose}
use Rattle.merge_model.specs.Publisher.{new_holders}
use Rattle.merge_model.specs.Tables.{PublisherTables}
use Rattle.merge_keeper.specs.PublisherStart.{publisher_loaded}
use Rattle.merge_site.specs.Kept.{IsKept}
use Rattle.merge_site.specs.Loading.{IsDamage, IsRead}
use Rattle.merge_site.specs.Publishers.{publisher_stored, records_of}
use Rattle.merge_service.specs.declared.stop.Stop.{Stop}
use Rattle.merge_service.specs.declared.stop.Stop.TheVariants.{Damaged, NoMemory, StoreFault}

-- What is told around a day, each part where it is told: the store before it and behind it, and how many connections the door handed
-- out. And how often stores and doors had failed by then.
pub record Around : Type 0 where
  pub stored : Option Map
  pub kept : Option Map
  pub handed : Option ℕ
  pub stores : ℕ
  pub stores_after : ℕ
  pub doors : ℕ
  pub doors_after : ℕ

-- the publisher started with the tables to which its store loads; this led from them to those of which the store has the records
pub record Held (publication : Publication) (around : Around) (Led : PublisherTables → PublisherTables → Type 0) : Type 0 where
  pub old : PublisherTables
  pub new : PublisherTables
  pub read : IsRead (publisher_loaded publication (new_holders publication)) around.stored (Ok (publisher_stored old))
  pub led : Led old new
  pub kept : IsKept (records_of new) around.kept

-- the first record of the store that has no reading or breaks a rule
abbrev pub IsDamagedAs : Publication → Option Map → Refusal → Type 0
IsDamagedAs publication stored why = IsDamage (publisher_loaded publication (new_holders publication)) stored why

-- why a publisher did not start: its store could not be opened or read, which is counted, or is damaged; or memory was wanting
abbrev pub IsUnstarted : Publication → Stop → (stored : Option Map) → (before after : ℕ) → Type 0
IsUnstarted publication StoreFault stored before after = Rose before after
IsUnstarted publication (Damaged table key) stored before after = IsDamagedAs publication stored (refusal.Damaged table key)
IsUnstarted publication NoMemory stored before after = Unit {0}
IsUnstarted publication other stored before after = ⊥
