-- How a day at a publisher's store ends, and what is written of it.
use Rattle.std.specs.Prelude.{Err, IfSome, List, Ok, Option, Result, length, ℕ, ◌≡◌, ◌≤◌, ◌⊎◌}
use Rattle.std.specs.Io.KnownBytes.{Appends}
use Rattle.merge_schema.specs.declared.publication.Publication.{Publication}
use Rattle.merge_batch.specs.declared.refusal.Refusal.TheVariants as refusal
use Rattle.merge_ports.specs.Faults.{Rose}
use Rattle.merge_ports.specs.Parts.{AppendsFront}
use Rattle.merge_model.specs.Tables.{PublisherTables}
use Rattle.merge_model.specs.World.{Saying}
use Rattle.merge_desk.specs.Summary.{summary_text}
use Rattle.merge_desk.specs.declared.entry.Entry.{Entry}
use Rattle.merge_service.specs.Days.{IsSomeDay, IsToldDay, IsTornDay}
use Rattle.merge_service.specs.Stores.{Around, Held, IsDamagedAs}
use Rattle.merge_service.specs.declared.stop.Stop.{Stop}
use Rattle.merge_service.specs.declared.stop.Stop.TheVariants.{Damaged, Differs, DoorFault, NoMemory, StoreFault, WriteFault}

-- All requests were accepted, where the door tells it, and no more than were asked for were answered. The journal led from the tables of the store to those of which it has the
-- records: one request after the other, each answered at its moment with its decisions, which are those of resolvers that say this, and
-- its mark tells of that answer. The seats of so many workers were told just these marks.
pub record Served (publication : Publication) (says : Saying) (workers requests : ℕ) (around : Around) (journal : List Entry) : Type 0 where
  pub held : Held publication around (λ (old new : PublisherTables). IsToldDay publication says workers journal old new)
  pub all : IfSome around.handed (λ (n : ℕ). n ≡ requests)
  pub few : length journal ≤ requests

-- some journal led from the tables of the store to those of which it has the records
abbrev pub HeldSome : Publication → Saying → Around → Type 0
HeldSome publication says around = Held publication around (λ (old new : PublisherTables). IsSomeDay publication says old new)

-- how a day ended, and what was written
abbrev pub Ends : Publication → Saying → (workers requests : ℕ) → Around → (was written : Option (List ℕ)) → (writes refused : ℕ) → Result Unit Stop → Type 0
Ends publication says workers requests around was written writes refused (Ok told) =
    (journal : List Entry) × Served publication says workers requests around journal × Appends was written (summary_text journal)
Ends publication says workers requests around was written writes refused (Err WriteFault) =
    ((journal : List Entry) × Served publication says workers requests around journal × AppendsFront was written (summary_text journal)) × Rose writes refused
Ends publication says workers requests around was written writes refused (Err DoorFault) =
    (written ≡ was) × Rose around.doors around.doors_after × HeldSome publication says around
Ends publication says workers requests around was written writes refused (Err (Differs d)) =
    (written ≡ was) × Held publication around (λ (old new : PublisherTables). IsTornDay publication says old new workers requests around.handed d)
Ends publication says workers requests around was written writes refused (Err StoreFault) =
    (written ≡ was) × Rose around.stores around.stores_after × (around.kept ≡ around.stored) × (around.doors_after ≡ around.doors)
Ends publication says workers requests around was written writes refused (Err (Damaged table key)) =
    (written ≡ was) × IsDamagedAs publication around.stored (refusal.Damaged table key) × (around.kept ≡ around.stored) × (around.doors_after ≡ around.doors)
Ends publication says workers requests around was written writes refused (Err NoMemory) =
    (written ≡ was) × ((around.kept ≡ around.stored) ⊎ HeldSome publication says around)
