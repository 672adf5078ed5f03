-- How a row comes to be found by another value.
use Rattle.std.specs.Prelude.{◌≡◌, ◌⊎◌, ℕ, Bool, true, not, ◌&&◌, ◌||◌, ◌==◌, if◌then◌else◌, List, nat_lt, Option}
use Rattle.std.specs.BTreeMap.{is_at}
use Rattle.std.specs.List.Sorted.{IsStrictlySortedBy}
use Rattle.merge_types.specs.declared.identifiers.RowId.{RowId}
use Rattle.merge_types.specs.declared.values.Value.{Value}
use Rattle.merge_types.specs.declared.row_key.RowKey.{RowKey}
use Rattle.merge_schema.specs.Partition.{are_joined}
use Rattle.merge_join.specs.declared.entry.JoinEntry.{JoinEntry}
use Rattle.merge_join.specs.Entries.{entry_cmp}
use Rattle.merge_join.specs.Index.{has, set_after_all}
use Rattle.merge_part.specs.declared.content.Content.{Content}
use Rattle.merge_part.specs.declared.index.DraftIndex.{DraftIndex}
use Rattle.merge_part.specs.declared.link.Link.{Link}
use Rattle.merge_types.specs.RowKeys.{key_cmp}
use Rattle.merge_part.specs.Index.{Entries, AllCome, at_link, as_side}

-- whether an entry is of the row by the link with the number
abbrev pub is_of_row : ℕ → RowId → JoinEntry → Bool
is_of_row number row entry = (number == entry.join) && (row.0 == entry.child.0)

-- the entries after the changes of a draft
abbrev pub after : Entries → DraftIndex → Entries
after set draft = set_after_all set draft.changes.items

-- what comes in the one draft comes in the other
abbrev pub StaysFound : (old new : DraftIndex) → Type 0
StaysFound old new = (entry : JoinEntry) → has old.come.set entry ≡ true → has new.come.set entry ≡ true

-- what comes in the second draft alone is the row's under the number
abbrev pub IsFresh : (old new : DraftIndex) → ℕ → RowId → Type 0
IsFresh old new number row = (entry : JoinEntry) → has new.come.set entry ≡ true → (has old.come.set entry ≡ true) ⊎ (is_of_row number row entry ≡ true)

-- the row's entry by the value is there no longer, whatever was there before
pub record Leaves (old new : DraftIndex) (number : ℕ) (value : Value) (row : RowId) : Type 0 where
  pub come : AllCome old → AllCome new
  pub stay : StaysFound old new
  pub fresh : IsFresh old new number row
  pub entries : (set : Entries) → IsStrictlySortedBy entry_cmp set → (entry : JoinEntry)
      → has (after set new) entry ≡ (not (are_joined entry.value value && is_of_row number row entry) && has (after set old) entry)

-- it is there
pub record Comes (old new : DraftIndex) (number : ℕ) (value : Value) (row : RowId) : Type 0 where
  pub come : AllCome old → AllCome new
  pub stay : StaysFound old new
  pub fresh : IsFresh old new number row
  pub entries : (set : Entries) → IsStrictlySortedBy entry_cmp set → (entry : JoinEntry)
      → has (after set new) entry ≡ ((are_joined entry.value value && is_of_row number row entry) || has (after set old) entry)

-- where the row had the one value alone, it has the other alone, and the entries of other rows and links are as they were
pub record IsReplaced (old new : DraftIndex) (number : ℕ) (before value : Value) (row : RowId) : Type 0 where
  pub come : AllCome old → AllCome new
  pub stay : StaysFound old new
  pub fresh : IsFresh old new number row
  pub entries : (set : Entries) → IsStrictlySortedBy entry_cmp set → (entry : JoinEntry)
      → (is_of_row number row entry ≡ true → has (after set old) entry ≡ are_joined entry.value before)
      → has (after set new) entry ≡ (if is_of_row number row entry then are_joined entry.value value else has (after set old) entry)

-- the entries of the links below a number are those of the one rows, and the others those of the others
abbrev pub between : (article column : Link → ℕ) → List Link → ℕ → (before rows : RowKey → Option Content) → JoinEntry → Bool
between article column links count before rows entry = if nat_lt entry.join count then as_side article column links rows entry else as_side article column links before entry

-- rows are the others and this one
abbrev pub IsChangedTo : RowKey → Option Content → (rows rows' : RowKey → Option Content) → Type 0
IsChangedTo key content rows rows' = (q : RowKey) → rows' q ≡ (if is_at (key_cmp key) q then content else rows q)

-- where the entries were those of the rows, they are those of the rows after one has changed, at the links below a number
pub record IsEntered (article column : Link → ℕ) (links : List Link) (count : ℕ) (old new : DraftIndex) (key : RowKey) (was is : Option Content) : Type 0 where
  pub come : AllCome old → AllCome new
  pub stay : StaysFound old new
  pub fresh : (entry : JoinEntry) → has new.come.set entry ≡ true → (has old.come.set entry ≡ true) ⊎ ((at_link links entry.join (λ link. article link == key.article) ≡ true) × (entry.child ≡ key.row))
  pub entries : (set : Entries) → IsStrictlySortedBy entry_cmp set → (before rows : RowKey → Option Content) → before key ≡ was → IsChangedTo key is before rows
      → ((entry : JoinEntry) → has (after set old) entry ≡ as_side article column links before entry)
      → (entry : JoinEntry) → has (after set new) entry ≡ between article column links count before rows entry
