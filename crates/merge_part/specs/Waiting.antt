-- Rows that wait to be looked at.
use Rattle.std.specs.Prelude.{◌≡◌, ◌<◌, ◌⊎◌, ℕ, Bool, true, List, Option}
use Rattle.std.specs.List.{list_any}
use Rattle.std.specs.BTreeMap.{is_at}
use Rattle.merge_types.specs.declared.identifiers.RowId.{RowId}
use Rattle.merge_types.specs.declared.values.Value.{Value}
use Rattle.merge_types.specs.declared.values.Value.TheVariants.{Null}
use Rattle.merge_types.specs.declared.row_key.RowKey.{RowKey}
use Rattle.merge_part.specs.declared.content.Content.{Content}
use Rattle.merge_part.specs.declared.link.Link.{Link}
use Rattle.merge_part.specs.declared.sites.Sites.{Sites}
use Rattle.merge_types.specs.RowKeys.{key_cmp}
use Rattle.merge_part.specs.Rule.{parent_value, IsAt}
use Rattle.merge_join.specs.Index.{has}
use Rattle.merge_part.specs.Index.{Entries, HasEntry, first_of}
use Rattle.merge_part.specs.Covering.{IsCovered}

abbrev pub waits : List RowKey → RowKey → Bool
waits waiting key = list_any (is_at (key_cmp key)) waiting

abbrev pub child_of : Link → RowId → RowKey
child_of link row = record { article = link.child; row = row }

-- each child by the link that is found by the value waits
abbrev pub ChildrenWait : Entries → ℕ → Link → Value → List RowKey → Type 0
ChildrenWait children number link value waiting = (row : RowId) → HasEntry children number value row → (value ≡ Null → ⊥) → waits waiting (child_of link row) ≡ true

abbrev pub KeepsWaiting : (old new : List RowKey) → Type 0
KeepsWaiting old new = (key : RowKey) → waits old key ≡ true → waits new key ≡ true

-- the children of each value that was reached wait
abbrev pub AreReached : List Link → Entries → Entries → List RowKey → Type 0
AreReached links children values waiting = (number : ℕ) (value : Value) → has values (first_of number value) ≡ true → (link : Link) → IsAt links number link → ChildrenWait children number link value waiting

-- the children by the link that have the value wait, or need not, since others than a row give them these subscribers
abbrev pub AreSpared : (RowKey → Option Content) → (RowKey → Sites) → RowKey → Sites → Entries → ℕ → Link → Value → List RowKey → Type 0
AreSpared rows marks key sites children number link value waiting = ChildrenWait children number link value waiting ⊎ IsCovered rows marks key sites link value

-- so it is of a row with this content at each link from its article below this number
abbrev pub ReachedByMarks : List Link → ℕ → (RowKey → Option Content) → (RowKey → Sites) → RowKey → Sites → Entries → Option Content → List RowKey → Type 0
ReachedByMarks links count rows marks key sites children content waiting =
    (number : ℕ) (link : Link) → number < count → IsAt links number link → link.parent ≡ key.article → AreSpared rows marks key sites children number link (parent_value link content) waiting

-- the parent value stays, or so it is of the children of the one before and of the one after
abbrev pub ReachedAt : (RowKey → Option Content) → (RowKey → Sites) → RowKey → Sites → Entries → ℕ → Link → (old new : Option Content) → List RowKey → Type 0
ReachedAt rows marks key sites children number link old new waiting =
    (parent_value link old ≡ parent_value link new)
    ⊎ (AreSpared rows marks key sites children number link (parent_value link old) waiting × AreSpared rows marks key sites children number link (parent_value link new) waiting)

-- at each link from the article below this number
abbrev pub ReachedByRow : List Link → ℕ → (RowKey → Option Content) → (RowKey → Sites) → RowKey → Sites → Entries → (old new : Option Content) → List RowKey → Type 0
ReachedByRow links count rows marks key sites children old new waiting =
    (number : ℕ) (link : Link) → number < count → IsAt links number link → link.parent ≡ key.article → ReachedAt rows marks key sites children number link old new waiting
