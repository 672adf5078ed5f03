use Rattle.merge_lineage.proofs.Covers.{covers_by_knowing, covers_both_ways}
use Rattle.merge_lineage.proofs.laws.cover_laws.Goals as goal

pub returns-clause-knowing : goal.returns-clause-knowing
returns-clause-knowing c = covers_by_knowing

pub returns-clause-both_ways : goal.returns-clause-both_ways
returns-clause-both_ways c = covers_both_ways
