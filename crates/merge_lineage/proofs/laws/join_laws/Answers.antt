use Rattle.merge_lineage.proofs.Joined.{ascending-joined, joins-joined, join_is_one}
use Rattle.merge_lineage.proofs.Covers.{join_covers_both, join_is_least, join_knows, join_is_associative, join_is_commutative, join_is_idempotent}
use Rattle.merge_lineage.proofs.laws.join_laws.Goals as goal

pub returns : goal.returns
returns c = record {
  joins = λ a b ascending_a ascending_b. (ascending-joined a b ascending_a ascending_b, joins-joined a b ascending_a ascending_b);
  one = join_is_one;
  covers = join_covers_both;
  least = join_is_least;
  knows = join_knows;
  associative = join_is_associative;
  commutative = join_is_commutative;
  idempotent = join_is_idempotent;
}
