-- Changes of a table, and what they make of a list of rows.
use Rattle.std.specs.Prelude.{◌≡◌, true, List, [], ◌∷◌, Bool, if◌then◌else◌}
use Rattle.std.specs.List.{All}
use Rattle.std.specs.declared.option.Option.{Option}
use Rattle.std.specs.declared.option.Option.TheVariants.{None, Some}
use Rattle.std.specs.declared.cmp.Ordering.{Ordering}
use Rattle.std.specs.Map.{remove_entry}
use Rattle.std.specs.BTreeMap.{is_at, insert_entry}
use Rattle.std.specs.BTreeSet.{insert_key}
use Rattle.merge_table.specs.declared.edit.Edit.{Edit}
use Rattle.merge_table.specs.declared.edit.Edit.TheVariants.{Put, Take}
use Rattle.merge_table.specs.Contents.{has_room}

-- the key whose row changes
abbrev pub key_of : {K V : Type 0} → Edit K V → K
key_of (Put key row) = key
key_of (Take key) = key

-- the row that is there afterwards
abbrev pub row_of : {K V : Type 0} → Edit K V → Option V
row_of (Put key row) = Some row
row_of (Take key) = None

-- the rows after one change
abbrev pub rows_after : {K V : Type 0} → (K → K → Ordering) → List (K × V) → Edit K V → List (K × V)
rows_after cmp rows (Put key row) = insert_entry cmp rows key row
rows_after cmp rows (Take key) = remove_entry (is_at (cmp key)) rows

-- the rows after all changes, in order
abbrev pub rows_after_all : {K V : Type 0} → (K → K → Ordering) → List (K × V) → List (Edit K V) → List (K × V)
rows_after_all cmp rows [] = rows
rows_after_all cmp rows (edit ∷ edits) = rows_after_all cmp (rows_after cmp rows edit) edits

-- the changes that take each row out that a test refuses
abbrev pub takes_of : {K V : Type 0} → (K × V → Bool) → List (K × V) → List (Edit K V)
takes_of keep [] = []
takes_of keep (row ∷ rows) = if keep row then takes_of keep rows else Take row.0 ∷ takes_of keep rows

-- the slots after room is made for one change
abbrev pub slots_for : {K V : Type 0} → (K → K → Ordering) → List K → Edit K V → List K
slots_for cmp slots (Put key row) = insert_key cmp slots key
slots_for cmp slots (Take key) = slots

-- the slots after room is made for all changes
abbrev pub slots_for_all : {K V : Type 0} → (K → K → Ordering) → List K → List (Edit K V) → List K
slots_for_all cmp slots [] = slots
slots_for_all cmp slots (edit ∷ edits) = slots_for_all cmp (slots_for cmp slots edit) edits

-- whether the change needs no memory: it puts no row, or its key has a slot
abbrev pub is_ready : {K V : Type 0} → (K → K → Ordering) → List K → Edit K V → Bool
is_ready cmp slots (Put key row) = has_room cmp slots key
is_ready cmp slots (Take key) = true

-- no change needs memory
unfoldable pub IsReady : {K V : Type 0} → (K → K → Ordering) → List K → List (Edit K V) → Type 0
IsReady cmp slots edits = All (λ edit. is_ready cmp slots edit ≡ true) edits
