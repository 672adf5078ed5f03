-- Changes of different rows.
use Rattle.std.proofs.Common.{◌≡◌, List, ◌∷◌, All}
use Rattle.std.proofs.lemmas.List.Kept.{AllPairs-cons}
use Rattle.merge_part.specs.declared.change.RowChange.{RowChange}
use Rattle.merge_part.specs.Taking.{EachRowOnce, key_of_change}

pub once_with : (change : RowChange) (others : List RowChange) → All (λ other. key_of_change change ≡ key_of_change other → ⊥) others → EachRowOnce others → EachRowOnce (change ∷ others)
once_with change others apart once = AllPairs-cons (λ one other. key_of_change one ≡ key_of_change other → ⊥) change others apart once
