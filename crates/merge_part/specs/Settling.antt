-- How the marks of waiting rows are worked out anew.
use Rattle.std.specs.Prelude.{◌≡◌, ◌<◌, ◌+◌, ◌⊎◌, ℕ, Bool, true, false, ◌&&◌, ◌==◌, List, length, drop, slice_index, Option, Some}
use Rattle.std.specs.List.{list_any}
use Rattle.std.specs.BTreeMap.{is_at}
use Rattle.merge_types.specs.declared.row_key.RowKey.{RowKey}
use Rattle.merge_part.specs.declared.sites.Sites.{Sites}
use Rattle.merge_part.specs.declared.content.Content.{Content}
use Rattle.merge_part.specs.declared.link.Link.{Link}
use Rattle.merge_types.specs.RowKeys.{key_cmp}
use Rattle.merge_part.specs.Sites.{has_site}
use Rattle.std.specs.Map.{lookup}
use Rattle.merge_types.specs.declared.identifiers.RowId.{RowId}
use Rattle.merge_types.specs.declared.values.Value.{Value}
use Rattle.merge_join.specs.declared.entry.JoinEntry.{JoinEntry}
use Rattle.merge_join.specs.Entries.{entry_cmp}
use Rattle.merge_part.specs.Rule.{IsAt, row_gives, Reason, Meets}
use Rattle.merge_part.specs.Index.{Entries, HasEntry, first_of}
use Rattle.merge_part.specs.Covering.{IsUnion}
use Rattle.merge_part.specs.Waiting.{waits, ReachedByMarks}

-- these marks of a row are what the rule says of it
pub record AreMarksOf (links : List Link) (rows : RowKey → Option Content) (marks : RowKey → Sites) (key : RowKey) (sites : Sites) : Type 0 where
  pub reason : (place : ℕ) → has_site sites place ≡ true → (content : Content) × (rows key ≡ Some content) × Reason links rows marks key content place
  pub reached : (place : ℕ) (content : Content) → rows key ≡ Some content → Reason links rows marks key content place → has_site sites place ≡ true

-- the row's marks become what the rule says of it, and where they change, its children wait that others do not give the same
pub record IsSettled (links : List Link) (children : Entries) (rows : RowKey → Option Content) (marks marks' : RowKey → Sites) (key : RowKey) (waiting : List RowKey) : Type 0 where
  pub others : (k : RowKey) → is_at (key_cmp key) k ≡ false → marks' k ≡ marks k
  pub itself : AreMarksOf links rows marks key (marks' key)
  pub children_wait : (marks' key ≡ marks key) ⊎ ((both : Sites) × IsUnion (marks key) (marks' key) both × ReachedByMarks links (length links) rows marks key both children (rows key) waiting)

-- these are the partitions that a child with the value has a place in by the parents that are found by it
pub record AreGiven (entries : Entries) (rows : RowKey → Option Content) (marks : RowKey → Sites) (number : ℕ) (link : Link) (value : Value) (sites : Sites) : Type 0 where
  pub given : (place : ℕ) → has_site sites place ≡ true → (row : RowId) × (row_gives rows marks value link place row ≡ true)
  pub all : (place : ℕ) (row : RowId) → HasEntry entries number value row → row_gives rows marks value link place row ≡ true → has_site sites place ≡ true

-- what is remembered of values is so at each link from the article
abbrev pub AreKnown : List Link → Entries → (RowKey → Option Content) → (RowKey → Sites) → ℕ → List (JoinEntry × Sites) → Type 0
AreKnown links entries rows marks article memo =
    (number : ℕ) (value : Value) (sites : Sites) → lookup (is_at (entry_cmp (first_of number value))) memo ≡ Some sites → (link : Link) → IsAt links number link → link.child ≡ article → AreGiven entries rows marks number link value sites

-- each row that does not wait meets the rule
abbrev pub AllMeet : List Link → (RowKey → Option Content) → (RowKey → Sites) → (RowKey → Bool) → Type 0
AllMeet links rows marks waits = (k : RowKey) → waits k ≡ false → Meets links rows marks k

abbrev pub is_among : List ℕ → ℕ → Bool
is_among articles article = list_any (λ a. article == a) articles

-- whether the row waits, and is of one of the articles that are yet to come
abbrev pub pends : List ℕ → List RowKey → RowKey → Bool
pends articles waiting key = is_among articles key.article && waits waiting key

-- the children of an article are of articles that are yet to come
abbrev pub ChildrenCome : List Link → ℕ → List ℕ → Type 0
ChildrenCome links article articles = (number : ℕ) (link : Link) → IsAt links number link → link.parent ≡ article → is_among articles link.child ≡ true

-- in this order parents come before their children
abbrev pub ParentsComeFirst : List Link → List ℕ → Type 0
ParentsComeFirst links order = (i : ℕ) → i < length order → ChildrenCome links (slice_index order i) (drop (i + 1) order)

-- no article follows itself
abbrev pub NoneFollowsItself : List Link → Type 0
NoneFollowsItself links = (number : ℕ) (link : Link) → IsAt links number link → link.child ≡ link.parent → ⊥

-- the children of each link are of articles in this order
abbrev pub LinksAreWithin : List Link → List ℕ → Type 0
LinksAreWithin links order = (number : ℕ) (link : Link) → IsAt links number link → is_among order link.child ≡ true
