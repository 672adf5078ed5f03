-- What an index holds, and what changes make of it.
use Rattle.std.specs.Prelude.{ℕ, Bool, false, List, [], ◌∷◌, filter}
use Rattle.std.specs.List.{list_any}
use Rattle.std.specs.BTreeMap.{is_at}
use Rattle.std.specs.BTreeSet.{insert_key}
use Rattle.std.specs.Set.{remove_key}
use Rattle.merge_types.specs.declared.values.Value.{Value}
use Rattle.merge_table.specs.declared.edit.Edit.{Edit}
use Rattle.merge_table.specs.declared.edit.Edit.TheVariants.{Put, Take}
use Rattle.merge_join.specs.declared.entry.JoinEntry.{JoinEntry}
use Rattle.merge_join.specs.Entries.{entry_cmp, is_of}

-- the entries of an index, in order and each once, and those that the memory is there for
pub record Entries : Type 0 where
  pub set : List JoinEntry
  pub room : List JoinEntry

-- whether the entry is one of these
abbrev pub has : List JoinEntry → JoinEntry → Bool
has set entry = list_any (is_at (entry_cmp entry)) set

-- whether a change puts the entry in
abbrev pub puts : {V : Type 0} → JoinEntry → Edit JoinEntry V → Bool
puts entry (Put other row) = is_at (entry_cmp entry) other
puts entry (Take other) = false

-- those of the value by the join
abbrev pub of_value : List JoinEntry → ℕ → Value → List JoinEntry
of_value set join value = filter (is_of join value) set

-- the entries after one change, and after all of them in order
abbrev pub set_after : {V : Type 0} → List JoinEntry → Edit JoinEntry V → List JoinEntry
set_after set (Put entry row) = insert_key entry_cmp set entry
set_after set (Take entry) = remove_key (is_at (entry_cmp entry)) set

abbrev pub set_after_all : {V : Type 0} → List JoinEntry → List (Edit JoinEntry V) → List JoinEntry
set_after_all set [] = set
set_after_all set (change ∷ changes) = set_after_all (set_after set change) changes
