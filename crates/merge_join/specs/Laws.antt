-- What holds of every index.
use Rattle.std.specs.Prelude.{◌≡◌, ℕ, not, ◌&&◌, ◌||◌, ◌==◌, true, List}
use Rattle.std.specs.List.{list_any}
use Rattle.std.specs.List.Sorted.{IsStrictlySortedBy}
use Rattle.std.specs.BTreeMap.{is_at}
use Rattle.std.specs.BTreeSet.{insert_key}
use Rattle.std.specs.Set.{remove_key}
use Rattle.merge_types.specs.declared.RowId.{RowId}
use Rattle.merge_types.specs.declared.values.Value.{Value}
use Rattle.merge_join.specs.declared.entry.JoinEntry.{JoinEntry}
use Rattle.merge_join.specs.Entries.{entry_cmp}
use Rattle.merge_join.specs.Index.{has, of_value}

-- an entry that is put in is there, and each other is there if it was
abbrev pub InsertsAddOne : Type 0
InsertsAddOne = (set : List JoinEntry) (entry other : JoinEntry) → has (insert_key entry_cmp set entry) other ≡ (is_at (entry_cmp other) entry || has set other)

-- an entry that is taken out is not there, and each other is there if it was
abbrev pub RemovalsTakeOne : Type 0
RemovalsTakeOne =
    (set : List JoinEntry) (entry other : JoinEntry) → IsStrictlySortedBy entry_cmp set
    → has (remove_key (is_at (entry_cmp entry)) set) other ≡ (not (is_at (entry_cmp other) entry) && has set other)

-- entries in order are no more than the set of them
abbrev pub OrderTellsAll : Type 0
OrderTellsAll = (one other : List JoinEntry) → IsStrictlySortedBy entry_cmp one → IsStrictlySortedBy entry_cmp other → ((entry : JoinEntry) → has one entry ≡ has other entry) → one ≡ other

-- a child is found by a value if it has that value
abbrev pub ValuesAreFound : Type 0
ValuesAreFound =
    (set : List JoinEntry) (join : ℕ) (value : Value) (child : RowId)
    → list_any (λ entry. entry.child.0 == child.0) (of_value set join value) ≡ has set (record { value = value; join = join; child = child })
