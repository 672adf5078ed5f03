-- What a run writes and leaves whose publisher serves subscribers, and why it finishes.
use Rattle.std.specs.Prelude.{Err, IfSome, List, Ok, Option, Result, [], codes, max, min, ℕ, ◌++◌, ◌∷◌, ◌≡◌, ◌≤◌, ◌⊎◌}
use Rattle.std.specs.Fmt.{decimal}
use Rattle.std.specs.Io.KnownBytes.{Appends}
use Rattle.hex.specs.Hex.{encode_lower}
use Rattle.merge_types.specs.declared.identifiers.SiteId.{SiteId}
use Rattle.merge_schema.specs.declared.publication.Publication.{Publication}
use Rattle.merge_model.specs.World.{Saying}
use Rattle.merge_desk.specs.Summary.{summary_text}
use Rattle.merge_desk.specs.declared.comparing.Difference.{Difference}
use Rattle.merge_desk.specs.declared.entry.Entry.{Entry}
use Rattle.merge_desk.specs.declared.mark.Mark.{Mark}
use Rattle.merge_service.specs.Ends.{Ends, Served}
use Rattle.merge_service.specs.Stores.{Around}
use Rattle.merge_service.specs.declared.stop.Stop.{Stop}
use Rattle.merge_service.specs.declared.stop.Stop.TheVariants as break
use Rattle.merge_program.specs.declared.ending.Ending.{Ending}
use Rattle.merge_program.specs.declared.ending.Ending.TheVariants.{Damaged, Done, NoMemory, ReadFault, Refused, StoreFault, TooLong, WriteFault}
use Rattle.merge_program.specs.declared.finish.Finish.{Finish}
use Rattle.merge_program.specs.declared.finish.Finish.TheVariants.{Differs, DoorFault, Ended}
use Rattle.merge_program.specs.declared.order.Order.{Order}
use Rattle.merge_program.specs.Endings.{status_of}
use Rattle.merge_program.specs.Files.{IsAccepted, IsLong, IsRefusedFile}
use Rattle.merge_program.specs.Notes.{EndingIsTold, IsTold}
use Rattle.merge_program.specs.Sited.{IsUntouched}
use Rattle.merge_program.specs.Visits.{Visit, sides_of}
use Rattle.merge_ports.specs.Faults.{Rose}

abbrev pub publisher_site : SiteId
publisher_site = record { 0 = 0 }

-- how many workers serve: as many as the order says, one at least and no more than 16
abbrev pub workers_for : Order → ℕ
workers_for order = max 1 (min order.workers 16)

-- how many connections the door handed out that was given back, where it is told, and how often doors had failed before a run and behind it
pub record Doorway : Type 0 where
  pub handed : Option ℕ
  pub before : ℕ
  pub after : ℕ

-- how a run finishes by how the publisher served
abbrev pub finish_of : Result Unit Stop → Finish
finish_of (Ok served) = Ended Done
finish_of (Err break.StoreFault) = Ended StoreFault
finish_of (Err (break.Damaged table key)) = Ended (Damaged table key)
finish_of (Err break.DoorFault) = DoorFault
finish_of (Err (break.Differs difference)) = Differs difference
finish_of (Err break.WriteFault) = Ended WriteFault
finish_of (Err break.NoMemory) = Ended NoMemory

abbrev pub finish_status : Finish → ℕ
finish_status (Ended ending) = status_of ending
finish_status DoorFault = 7
finish_status (Differs difference) = 13

-- a mark's place, and the digest of its reply in hexadecimal
abbrev pub mark_text : Mark → List ℕ
mark_text mark = decimal mark.place ++ 58 ∷ encode_lower mark.digest

abbrev pub difference_text : Difference → List ℕ
difference_text d = codes "differs " ++ decimal d.seat ++ 32 ∷ mark_text d.told ++ 32 ∷ mark_text d.kept ++ 10 ∷ []

-- what the notes got; that of a difference is put together, and memory may be wanting for it
abbrev pub FinishIsTold : Finish → (old new : Option (List ℕ)) → (before after : ℕ) → Type 0
FinishIsTold (Ended ending) old new before after = EndingIsTold ending old new before after
FinishIsTold DoorFault old new before after = IsTold (codes "link fault\n") old new before after
FinishIsTold (Differs d) old new before after = IsTold (difference_text d) old new before after ⊎ (new ≡ old)

-- what is told around the service of an order
abbrev pub around_order : Order → Visit → Doorway → Around
around_order order v d = record {
  stored = v.stored publisher_site order.store;
  kept = v.kept publisher_site order.store;
  handed = d.handed;
  stores = v.old.stores;
  stores_after = v.new.stores;
  doors = d.before;
  doors_after = d.after;
}

-- why the file of an order was not read, or has no publication
abbrev pub IsUnordered : Ending → (told : Option (List ℕ)) → (resolvers : ℕ) → (before after : ℕ) → Type 0
IsUnordered ReadFault told resolvers before after = Rose before after
IsUnordered TooLong told resolvers before after = IsLong told
IsUnordered (Refused fault) told resolvers before after = IsRefusedFile told resolvers fault
IsUnordered NoMemory told resolvers before after = Unit {0}
IsUnordered other told resolvers before after = ⊥

-- A run finished before its publisher was started: nothing was written, the store is told as before, and no door was opened that failed.
pub record UnorderedEnds (finish : Finish) (order : Order) (resolvers : ℕ) (v : Visit) (d : Doorway) : Type 0 where
  pub ending : Ending
  pub is : finish ≡ Ended ending
  pub cause : IsUnordered ending (v.offers.texts order.publication) resolvers v.old.texts v.new.texts
  pub untouched : IsUntouched (v.stored publisher_site order.store) (v.kept publisher_site order.store) (sides_of v)
  pub closed : d.after ≡ d.before

-- a run finished as its publisher served, whose publication is that of the file, and whose conflicts are decided by resolvers that say this
pub record OrderedEnds (finish : Finish) (order : Order) (resolvers : ℕ) (says : Saying) (v : Visit) (d : Doorway) : Type 0 where
  pub publication : Publication
  pub read : IfSome (v.offers.texts order.publication) (IsAccepted resolvers publication)
  pub served : Result Unit Stop
  pub is : finish ≡ finish_of served
  pub ends : Ends publication says (workers_for order) order.requests (around_order order v d) v.was v.written v.writes v.refused served

-- why a run of `serve` finished
abbrev pub ServeEnds : Finish → Order → (resolvers : ℕ) → Saying → Visit → Doorway → Type 0
ServeEnds finish order resolvers says v d = UnorderedEnds finish order resolvers v d ⊎ OrderedEnds finish order resolvers says v d

-- All requests were served by so many workers as were ordered, and the summary of their journal was written.
pub record IsServed (order : Order) (resolvers : ℕ) (says : Saying) (v : Visit) (d : Doorway) : Type 0 where
  pub publication : Publication
  pub read : IfSome (v.offers.texts order.publication) (IsAccepted resolvers publication)
  pub journal : List Entry
  pub served : Served publication says (workers_for order) order.requests (around_order order v d) journal
  pub written : Appends v.was v.written (summary_text journal)

-- What the status of a run of `serve` tells, and what the notes were told. A seat differs from the journal only where a connection came.
pub record TellsServed (status : ℕ) (order : Order) (resolvers : ℕ) (says : Saying) (v : Visit) (d : Doorway) (old new : Option (List ℕ)) (before after : ℕ) : Type 0 where
  pub finish : Finish
  pub status_is : status ≡ finish_status finish
  pub ends : ServeEnds finish order resolvers says v d
  pub told : FinishIsTold finish old new before after
  pub done : status ≡ 0 → IsServed order resolvers says v d
  pub came : status ≡ 13 → IfSome d.handed (λ (n : ℕ). 1 ≤ n)
