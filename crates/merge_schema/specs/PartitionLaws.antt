-- What is proved of every partition.
use Rattle.std.specs.Prelude.{◌≡◌, ◌↔◌, ℕ, true, false, List, Contains}
use Rattle.merge_types.specs.declared.identifiers.HostName.{HostName}
use Rattle.merge_types.specs.declared.identifiers.RowId.{RowId}
use Rattle.merge_types.specs.declared.values.Value.{Value}
use Rattle.merge_types.specs.declared.values.Value.TheVariants as values
use Rattle.merge_schema.specs.declared.publication.JoinFilter.{JoinFilter}
use Rattle.merge_schema.specs.declared.publication.Publication.{Publication}
use Rattle.merge_schema.specs.EvaluationOrder.{IsEvaluationOrder}
use Rattle.merge_schema.specs.Partition.{LiveRow, value_at, are_joined, has_parent, belongs, partition_of, is_in}

-- a set of rows has each live row that belongs where the set is inside
abbrev pub MeetsRule : Publication → HostName → List LiveRow → List LiveRow → Type 0
MeetsRule publication host live inside = (row : LiveRow) → Contains live row → belongs publication host inside row ≡ true → Contains inside row

-- each row of a set lives, and belongs where the set is inside
abbrev pub HasReasons : Publication → HostName → List LiveRow → List LiveRow → Type 0
HasReasons publication host live inside = (row : LiveRow) → Contains inside row → Contains live row × (belongs publication host inside row ≡ true)

-- one set has each row of another
abbrev pub LiesWithin : List LiveRow → List LiveRow → Type 0
LiesWithin inside outside = (row : LiveRow) → Contains inside row → Contains outside row

-- the partition meets the rule
abbrev pub PartitionMeetsRule : Type 0
PartitionMeetsRule = (publication : Publication) (order : List ℕ) → IsEvaluationOrder publication order → (host : HostName) (live : List LiveRow) → MeetsRule publication host live (partition_of publication host live)

-- it lies within every set that meets the rule
abbrev pub PartitionIsLeast : Type 0
PartitionIsLeast = (publication : Publication) (host : HostName) (live inside : List LiveRow) → MeetsRule publication host live inside → LiesWithin (partition_of publication host live) inside

-- each of its rows lives and belongs
abbrev pub PartitionHasReasons : Type 0
PartitionHasReasons = (publication : Publication) (host : HostName) (live : List LiveRow) → HasReasons publication host live (partition_of publication host live)

-- every set whose rows live and belong lies within it, so that no other set has reasons and meets the rule
abbrev pub PartitionIsOnly : Type 0
PartitionIsOnly = (publication : Publication) (order : List ℕ) → IsEvaluationOrder publication order
    → (host : HostName) (live inside : List LiveRow) → HasReasons publication host live inside → LiesWithin inside (partition_of publication host live)

-- a row is in where the partition has a row of its article and identifier
abbrev pub IsInByPartition : Type 0
IsInByPartition = (publication : Publication) (host : HostName) (live : List LiveRow) (place : ℕ) (row : RowId)
    → (is_in publication host live place row ≡ true) ↔ ((inside : LiveRow) × Contains (partition_of publication host live) inside × (inside.article ≡ place) × (inside.row ≡ row))

-- a row whose value in the join's column is Null has no parent
abbrev pub NullHasNoParent : Type 0
NullHasNoParent = (inside : List LiveRow) (row : LiveRow) (join : JoinFilter) → value_at row join.column ≡ values.Null → has_parent inside row join ≡ false

-- values join where they are the same and not Null
abbrev pub SameValuesJoin : Type 0
SameValuesJoin = (child parent : Value) → (are_joined child parent ≡ true) ↔ ((child ≡ parent) × (child ≡ values.Null → ⊥))
