-- What a load and a commit give, and what they leave.
use Rattle.std.specs.Prelude.{◌≡◌, ℕ, false, List, [], Result, IfErr, IfOk, OnErr, OnOk}
use Rattle.sqlite.specs.Given.{Returns}
use Rattle.sqlite.specs.Held.{Held, state}
use Rattle.sqlite.specs.Listing.{understood}
use Rattle.sqlite.specs.State.{CommitsShowing, HasCleanDisk, KeepsCommit, Survives}
use Rattle.sqlite.specs.Store.{Ghosts}
use Rattle.merge_ports.specs.Entries.{Map}
use Rattle.merge_ports.specs.declared.entry.EntryEdit.{EntryEdit}
use Rattle.merge_ports.specs.declared.keeper.KeepFault.{KeepFault}
use Rattle.merge_sqlite.specs.Reading.{FailsToLoad, Loads}
use Rattle.merge_sqlite.specs.Writing.{Commits, MayLeave, RefusesToCommit}

-- what a load by a statement came to
pub record HasLoaded {S : Type 0} (store : Ghosts S) (statement : List ℕ) (old new : Held S) (result : Result Map KeepFault) : Type 0 where
  -- the rows that the statement shows are entries, and those are what is loaded
  pub read : HasCleanDisk (state store new) → IfOk result (Loads statement (state store old) (state store new))
  pub err : HasCleanDisk (state store new) → IfErr result (FailsToLoad statement (state store old) (state store new))
  -- what was committed stays, with a result and with a fault, unless the statement is a write that returns rows
  pub stays : HasCleanDisk (state store new) → ¬ Returns (understood old.schema statement) → KeepsCommit (state store old) (state store new)
  -- no transaction is left open
  pub idle : old.in_transaction ≡ false → new.in_transaction ≡ false
  -- a crash leaves what it left before, or what such a write made; the limit on steps is as before
  pub crash : Survives (state store old) (state store new) (CommitsShowing statement [] (state store old))

-- what a commit by the statements that put and take an entry came to
pub record HasCommitted {S T : Type 0} (store : Ghosts S) (put take : List ℕ) (edits : List EntryEdit) (old new : Held S) (result : Result T KeepFault) : Type 0 where
  -- a statement was run for each edit, in order, within one transaction, which was committed
  pub done : HasCleanDisk (state store new) → OnOk result (Commits store put take edits old new)
  pub err : HasCleanDisk (state store new) → IfErr result (RefusesToCommit store put take edits old new)
  -- nothing was committed
  pub undone : HasCleanDisk (state store new) → OnErr result (KeepsCommit (state store old) (state store new))
  -- no transaction is left open
  pub idle : old.in_transaction ≡ false → new.in_transaction ≡ false
  -- a crash leaves what it left before, or all edits; the limit on steps is as before
  pub crash : Survives (state store old) (state store new) (MayLeave store put take edits old)
