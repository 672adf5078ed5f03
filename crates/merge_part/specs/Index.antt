-- Where rows are found by a value of theirs.
use Rattle.std.specs.Prelude.{◌≡◌, ◌<◌, ◌++◌, ◌&&◌, ◌==◌, ℕ, zero, suc, Bool, true, false, List, [], ◌∷◌, length, Option, Some, None}
use Rattle.std.specs.List.{list_any}
use Rattle.merge_types.specs.declared.identifiers.RowId.{RowId}
use Rattle.merge_types.specs.declared.values.Value.{Value}
use Rattle.merge_types.specs.declared.values.Value.TheVariants.{Null}
use Rattle.merge_types.specs.declared.row_key.RowKey.{RowKey}
use Rattle.merge_schema.specs.Partition.{are_joined}
use Rattle.merge_join.specs.declared.entry.JoinEntry.{JoinEntry}
use Rattle.merge_join.specs.Index.{has, puts, set_after_all}
use Rattle.merge_part.specs.declared.content.Content.{Content}
use Rattle.merge_part.specs.declared.index.Indexes.{Indexes}
use Rattle.merge_part.specs.declared.index.DraftIndex.{DraftIndex}
use Rattle.merge_part.specs.declared.index.DraftIndexes.{DraftIndexes}
use Rattle.merge_part.specs.declared.link.Link.{Link}
use Rattle.merge_part.specs.Rule.{value_at, content_value, IsAt}

abbrev pub Entries : Type 0
Entries = List JoinEntry

abbrev pub entry_for : ℕ → Value → RowId → JoinEntry
entry_for number value row = record { value = value; join = number; child = row }

-- what stands for the value under the number
abbrev pub first_of : ℕ → Value → JoinEntry
first_of number value = entry_for number value (record { 0 = 0 })

-- the row is found by the value under the number, if it is not Null
unfoldable pub HasEntry : Entries → ℕ → Value → RowId → Type 0
HasEntry entries number value row = (value ≡ Null → ⊥) → has entries (entry_for number value row) ≡ true

-- whether the link with the number is as a test says
abbrev pub at_link : List Link → ℕ → (Link → Bool) → Bool
at_link [] number test = false
at_link (link ∷ links) zero test = test link
at_link (link ∷ links) (suc number) test = at_link links number test

-- whether a row of the article that a link names has the value of the entry, not Null, in the column that it names
abbrev pub as_side : (article column : Link → ℕ) → List Link → (RowKey → Option Content) → JoinEntry → Bool
as_side article column links rows entry = at_link links entry.join (λ link. are_joined entry.value (content_value (rows (record { article = article link; row = entry.child })) (column link)))

-- the same of a child and of a parent
abbrev pub as_child : List Link → (RowKey → Option Content) → JoinEntry → Bool
as_child links rows entry = as_side (λ link. link.child) (λ link. link.column) links rows entry

abbrev pub as_parent : List Link → (RowKey → Option Content) → JoinEntry → Bool
as_parent links rows entry = as_side (λ link. link.parent) (λ link. link.parent_column) links rows entry

-- the entries are exactly those of the rows, by their values as children and as parents
pub record AreExact (links : List Link) (children parents : Entries) (rows : RowKey → Option Content) : Type 0 where
  pub as_children : (entry : JoinEntry) → has children entry ≡ as_child links rows entry
  pub as_parents : (entry : JoinEntry) → has parents entry ≡ as_parent links rows entry

-- the entries after the changes that are drafted
abbrev pub children_after : Indexes → DraftIndexes → Entries
children_after index draft = set_after_all index.children.set draft.children.changes.items

abbrev pub parents_after : Indexes → DraftIndexes → Entries
parents_after index draft = set_after_all index.parents.set draft.parents.changes.items

-- the entries that are there, and those that come
abbrev pub children_found : Indexes → DraftIndexes → Entries
children_found index draft = index.children.set ++ draft.children.come.set

abbrev pub parents_found : Indexes → DraftIndexes → Entries
parents_found index draft = index.parents.set ++ draft.parents.come.set

-- what is put in is found among what comes
abbrev pub AllCome : DraftIndex → Type 0
AllCome draft = (entry : JoinEntry) → list_any (puts entry) draft.changes.items ≡ true → has draft.come.set entry ≡ true

-- the drafted changes make the entries those of the rows, and what they put in comes
pub record AreDrafted (links : List Link) (index : Indexes) (draft : DraftIndexes) (rows : RowKey → Option Content) : Type 0 where
  pub exact : AreExact links (children_after index draft) (parents_after index draft) rows
  pub children_come : AllCome draft.children
  pub parents_come : AllCome draft.parents

-- each row is found as a parent by each link from its article
abbrev pub AreParentsIndexed : List Link → Entries → (RowKey → Option Content) → Type 0
AreParentsIndexed links parents rows =
    (key : RowKey) (content : Content) → rows key ≡ Some content → (number : ℕ) (link : Link) → IsAt links number link → link.parent ≡ key.article
    → HasEntry parents number (value_at content.values link.parent_column) key.row

-- each row is found as a child by each link of its article
abbrev pub AreChildrenIndexed : List Link → Entries → (RowKey → Option Content) → Type 0
AreChildrenIndexed links children rows =
    (key : RowKey) (content : Content) → rows key ≡ Some content → (number : ℕ) (link : Link) → IsAt links number link → link.child ≡ key.article
    → HasEntry children number (value_at content.values link.column) key.row
