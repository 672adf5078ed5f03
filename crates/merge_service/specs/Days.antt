-- A day at a desk: what its journal has, and what became of the door.
use Rattle.std.specs.Prelude.{Err, IfSome, List, Ok, Option, Result, if◌then◌else◌, length, map, nat_lt, ℕ, ◌<◌, ◌≡◌, ◌≤◌}
use Rattle.std.specs.List.{sum_by}
use Rattle.merge_ports.specs.Faults.{Rose}
use Rattle.merge_schema.specs.declared.publication.Publication.{Publication}
use Rattle.merge_model.specs.Tables.{PublisherTables}
use Rattle.merge_model.specs.World.{Saying}
use Rattle.merge_desk.specs.Comparing.{AllToldAsKept}
use Rattle.merge_desk.specs.Ending.{IsDiffering}
use Rattle.merge_desk.specs.OneThread.{AllToldAsOne}
use Rattle.merge_desk.specs.Views.{AreToldInCalls, IsJournal, SeatView, numbers_from, seat_calls, seat_marks, seat_number}
use Rattle.merge_desk.specs.declared.comparing.Difference.{Difference}
use Rattle.merge_desk.specs.declared.entry.Entry.{Entry}
use Rattle.merge_service.specs.declared.day.Outcome.{Outcome}
use Rattle.merge_service.specs.declared.day.Outcome.TheVariants as outcome
use Rattle.merge_service.specs.declared.stop.Stop.{Stop}
use Rattle.merge_service.specs.declared.stop.Stop.TheVariants.{Differs, DoorFault, NoMemory}

-- A desk was closed with all its seats, one for each worker, numbered from one, and one of them was told something else than the journal has
-- of it that led from these tables to those. A request was answered, and no more than connections were accepted: as many as the door handed
-- out, where it tells it.
pub record IsTornDay (publication : Publication) (says : Saying) (old new : PublisherTables) (workers requests : ℕ) (handed : Option ℕ) (d : Difference) : Type 0 where
  pub journal : List Entry
  pub seats : List SeatView
  pub accepted : ℕ
  pub differing : IsDiffering publication says old journal new seats d
  pub numbered : map seat_number seats ≡ numbers_from 1 workers
  pub some : 1 ≤ length journal
  pub paid : length journal ≤ accepted
  pub few : accepted ≤ requests
  pub each : IfSome handed (λ (n : ℕ). n ≡ accepted)

-- A journal led from these tables to those. There is a seat for each worker, numbered from one, and each was told what one thread tells it,
-- which answers the requests of the journal in their order; in all they were told as many marks as it has entries.
pub record IsToldDay (publication : Publication) (says : Saying) (workers : ℕ) (journal : List Entry) (old new : PublisherTables) : Type 0 where
  pub kept : IsJournal publication says old journal new
  pub seats : List SeatView
  pub numbered : map seat_number seats ≡ numbers_from 1 workers
  pub told : AllToldAsOne publication old journal seats
  pub whole : sum_by seat_marks seats ≡ length journal

-- some journal led from these tables to those
abbrev pub IsSomeDay : Publication → Saying → (old new : PublisherTables) → Type 0
IsSomeDay publication says old new = (journal : List Entry) × IsJournal publication says old journal new

-- how a desk that began with these tables was closed with these seats, behind so many connections: no more requests were answered
abbrev pub IsClosing : Publication → Saying → (old : PublisherTables) → List SeatView → (accepted : ℕ) → (new : PublisherTables) → Outcome → Type 0
IsClosing publication says old seats accepted new outcome.Unstarted = ⊥
IsClosing publication says old seats accepted new (outcome.Differs d) = (journal : List Entry) × IsDiffering publication says old journal new seats d × (length journal ≤ accepted)
IsClosing publication says old seats accepted new (outcome.Closed journal many) =
    IsJournal publication says old journal new × AllToldAsKept journal seats × (length journal ≡ sum_by seat_calls seats) × AreToldInCalls seats
    × (length journal ≤ accepted) × (many ≡ accepted)

-- how a desk ended that served by so many workers: so many connections were accepted, where the door tells it, and less than were asked for
-- only where the door failed; and no more requests were answered
abbrev pub IsOutcome : Publication → Saying → (old new : PublisherTables) → (workers requests : ℕ) → (handed : Option ℕ) → (faults : ℕ) → Outcome → Type 0
IsOutcome publication says old new workers requests handed faults outcome.Unstarted = new ≡ old
IsOutcome publication says old new workers requests handed faults (outcome.Differs d) = IsTornDay publication says old new workers requests handed d
IsOutcome publication says old new workers requests handed faults (outcome.Closed journal accepted) =
    IsToldDay publication says workers journal old new × IfSome handed (λ (n : ℕ). n ≡ accepted) × (accepted ≤ requests) × (accepted < requests → 0 < faults)
    × (length journal ≤ accepted)

-- a day ends for its door where less were accepted than were asked for
abbrev pub result_of_outcome : Outcome → (requests : ℕ) → Result (List Entry) Stop
result_of_outcome outcome.Unstarted requests = Err NoMemory
result_of_outcome (outcome.Closed journal accepted) requests = if nat_lt accepted requests then Err DoorFault else Ok journal
result_of_outcome (outcome.Differs d) requests = Err (Differs d)

-- how a day ended at a door that was opened and given back
abbrev pub IsDay : Publication → Saying → (old new : PublisherTables) → (workers requests : ℕ) → (handed : Option ℕ) → (before after : ℕ) → Result (List Entry) Stop → Type 0
IsDay publication says old new workers requests handed before after (Ok journal) =
    IsToldDay publication says workers journal old new × IfSome handed (λ (n : ℕ). n ≡ requests) × (length journal ≤ requests)
IsDay publication says old new workers requests handed before after (Err DoorFault) = Rose before after × IsSomeDay publication says old new
IsDay publication says old new workers requests handed before after (Err (Differs d)) = IsTornDay publication says old new workers requests handed d
IsDay publication says old new workers requests handed before after (Err NoMemory) = new ≡ old
IsDay publication says old new workers requests handed before after (Err other) = ⊥
