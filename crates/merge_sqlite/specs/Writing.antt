-- What a commit writes: a statement for each edit, in their order, within one transaction; and why it fails.
use Rattle.std.specs.Prelude.{◌≡◌, ◌⊎◌, ℕ, pos, true, false, List, [], ◌∷◌, ◌++◌, Result, Ok, Err, IsTrue}
use Rattle.std.specs.declared.option.Option.{Option}
use Rattle.std.specs.declared.option.Option.TheVariants.{None, Some}
use Rattle.sqlite.specs.declared.types.Value.TheVariants.{Int, Blob}
use Rattle.sqlite.specs.Order.{Row}
use Rattle.sqlite.specs.Tree.{Trees}
use Rattle.sqlite.specs.Store.{Ghosts}
use Rattle.sqlite.specs.Held.{Held, state}
use Rattle.sqlite.specs.State.{ExecutesInside, Shows}
use Rattle.sqlite.specs.Steps.{FailsToCommit}
use Rattle.sqlite.specs.declared.error.Error.{Error}
use Rattle.merge_ports.specs.declared.entry.EntryEdit.{EntryEdit}
use Rattle.merge_ports.specs.declared.keeper.KeepFault.{KeepFault}
use Rattle.merge_ports.specs.declared.keeper.KeepFault.TheVariants.{Failed}
use Rattle.merge_sqlite.specs.Causes.{fault_of, stop_of}

abbrev pub statement_for : List ℕ → List ℕ → Option (List ℕ) → List ℕ
statement_for put take None = take
statement_for put take (Some value) = put

abbrev pub values_for : ℕ → List ℕ → Option (List ℕ) → Row
values_for table key None = Int (pos table) ∷ Blob key ∷ []
values_for table key (Some value) = Int (pos table) ∷ Blob key ∷ Blob value ∷ []

-- the statement for an edit was run within a transaction: the edit is put where it has a value, and else taken
abbrev pub RunsEdit : {S : Type 0} → Ghosts S → List ℕ → List ℕ → EntryEdit → Held S → Held S → Result ℕ Error → Type 0
RunsEdit store put take edit old new result =
    ExecutesInside 0 (statement_for put take edit.value) (values_for edit.table edit.key edit.value) (state store old) (state store new) result

-- an edit was written
abbrev pub Writes : {S : Type 0} → Ghosts S → List ℕ → List ℕ → EntryEdit → Held S → Held S → Type 0
Writes store put take edit old new = (count : ℕ) × RunsEdit store put take edit old new (Ok count)

-- edits were written, one after the other
abbrev pub WritesAll : {S : Type 0} → Ghosts S → List ℕ → List ℕ → List EntryEdit → Held S → Held S → Type 0
WritesAll store put take [] old new = new ≡ old
WritesAll {S} store put take (edit ∷ edits) old new = (mid : Held S) × Writes store put take edit old mid × WritesAll store put take edits mid new

-- a transaction was begun, and edits were written within it
abbrev pub WritesWithin : {S : Type 0} → Ghosts S → List ℕ → List ℕ → List EntryEdit → Held S → Held S → Type 0
WritesWithin store put take edits old last = WritesAll store put take edits (record old { in_transaction = true }) last

-- so they were, and the transaction was committed
abbrev pub Commits : {S : Type 0} → Ghosts S → List ℕ → List ℕ → List EntryEdit → Held S → Held S → Type 0
Commits {S} store put take edits old new =
    (last : Held S) × WritesWithin store put take edits old last × Shows (state store last) (state store new) (state store last).now (state store last).now false

-- what a commit that was cut off may leave beside what was there: all edits
abbrev pub MayLeave : {S : Type 0} → Ghosts S → List ℕ → List ℕ → List EntryEdit → Held S → Trees → Type 0
MayLeave {S} store put take edits old trees =
    (last : Held S) × WritesWithin store put take edits old last × (trees ≡ (state store last).now.trees)

-- an edit was refused behind those in front of it, which were written
pub record RefusesEdit {S : Type 0} (store : Ghosts S) (put take : List ℕ) (edits : List EntryEdit) (old : Held S) (e : Error) : Type 0 where
  pub front : List EntryEdit
  pub edit : EntryEdit
  pub behind : List EntryEdit
  pub parts : edits ≡ front ++ edit ∷ behind
  pub last : Held S
  pub written : WritesWithin store put take front old last
  pub stopped : Held S
  pub refused : RunsEdit store put take edit last stopped (Err e)

-- why edits were not committed: one was refused, or all were written and the transaction was not committed
abbrev pub FailsToWrite : {S : Type 0} → Ghosts S → List ℕ → List ℕ → List EntryEdit → Held S → Held S → Error → Type 0
FailsToWrite {S} store put take edits old new e =
    RefusesEdit store put take edits old e ⊎ ((last : Held S) × WritesWithin store put take edits old last × FailsToCommit (state store last) (state store new) e)

-- why a commit fails: the connection was within a transaction, or the edits were not committed, and the fault is what the error is called
abbrev pub RefusesToCommit : {S : Type 0} → Ghosts S → List ℕ → List ℕ → List EntryEdit → Held S → Held S → KeepFault → Type 0
RefusesToCommit store put take edits old new fault =
    ((fault ≡ Failed) × IsTrue old.in_transaction) ⊎ ((e : Error) × (fault ≡ fault_of (stop_of e)) × FailsToWrite store put take edits old new e)
