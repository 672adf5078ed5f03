use Rattle.std.proofs.Common.{subst}
use Rattle.merge_lineage.specs.Lineage.{IsAscending}
use Rattle.merge_lineage.proofs.Covers.{covers_by_test}
use Rattle.merge_lineage.proofs.lineage.Lineage.covers.Goals as goal

-- the numbers of the other's dots are enough, since its sites ascend
pub returns : goal.returns
returns c = rw (c.knows_all.ensures, c.deref.ensures.value, c.other.view_is) (covers_by_test _ _ (subst IsAscending c.other.view_is c.other.invariant))
