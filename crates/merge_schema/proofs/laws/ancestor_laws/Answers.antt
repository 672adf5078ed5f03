use Rattle.merge_schema.proofs.AncestorPaths.{ancestor_found, ancestor_is}
use Rattle.merge_schema.proofs.laws.ancestor_laws.Goals as goal

pub returns : goal.returns
returns c = λ articles ancestor place. (λ found. ancestor_is articles ancestor place found, λ chain. ancestor_found articles ancestor place chain)
