-- What the rows of a store are read as.
use Rattle.std.specs.Prelude.{◌≡◌, ◌⊎◌, ℕ, ◌<◌, ◌^◌, pos, unsigned_abs, List, [], All, fold, ⊤}
use Rattle.sqlite.specs.declared.error.Error.{Error}
use Rattle.sqlite.specs.declared.types.Value.{Value}
use Rattle.sqlite.specs.declared.types.Value.TheVariants.{Int, Blob}
use Rattle.sqlite.specs.Order.{Row, bytes, column}
use Rattle.sqlite.specs.State.{State, FailsToQuery, Shown}
use Rattle.std.specs.BTreeMap.{insert_entry}
use Rattle.merge_ports.specs.Entries.{Map, entry_cmp}
use Rattle.merge_ports.specs.declared.entry.EntryKey.{EntryKey}
use Rattle.merge_ports.specs.declared.keeper.KeepFault.{KeepFault}
use Rattle.merge_ports.specs.declared.keeper.KeepFault.TheVariants.{Failed, NoMemory}
use Rattle.merge_sqlite.specs.Causes.{fault_of, stop_of}

-- a row has the number of a table, which is a byte, then the bytes of a key, and then those of a value
pub record IsEntry (row : Row) : Type 0 where
  pub table : (number : ℕ) × (number < 2 ^ 8) × (column row 0 ≡ Int (pos number))
  pub key : (key : List ℕ) × (column row 1 ≡ Blob key)
  pub value : (value : List ℕ) × (column row 2 ≡ Blob value)

abbrev pub IsNoEntry : Row → Type 0
IsNoEntry row = IsEntry row → ⊥

abbrev table_in : Value → ℕ
table_in (Int number) = unsigned_abs number
table_in _ = 0

abbrev pub key_in : Row → EntryKey
key_in row = record { table = table_in (column row 0); key = bytes (column row 1) }

-- the entries with that of a row
abbrev pub with_row : Map → Row → Map
with_row entries row = insert_entry entry_cmp entries (key_in row) (bytes (column row 2))

-- the entries of rows
abbrev pub entries_in : List Row → Map
entries_in rows = fold with_row [] rows

-- a statement showed rows, which are entries, and these were read
pub record Loads (statement : List ℕ) (old new : State) (entries : Map) : Type 0 where
  pub rows : List Row
  pub shown : Shown statement [] old new rows
  pub each : All IsEntry rows
  pub read : entries ≡ entries_in rows

-- not all rows are entries; where memory was wanting nothing is said of them
abbrev pub HasBadRow : KeepFault → List Row → Type 0
HasBadRow Failed rows = All IsEntry rows → ⊥
HasBadRow NoMemory rows = ⊤

-- why a load fails: the statement failed, and the fault is what its error is called, or it showed rows that were not all read
abbrev pub FailsToLoad : List ℕ → State → State → KeepFault → Type 0
FailsToLoad statement old new fault =
    ((e : Error) × (fault ≡ fault_of (stop_of e)) × FailsToQuery statement [] old new e) ⊎ ((rows : List Row) × Shown statement [] old new rows × HasBadRow fault rows)
