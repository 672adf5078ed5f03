use Rattle.merge_lineage.proofs.Ascending.{ascending_is_tested}
use Rattle.merge_lineage.proofs.Joined.{numbers_determine}
use Rattle.merge_lineage.proofs.Covers.{advance_knows}
use Rattle.merge_lineage.proofs.laws.knowing_laws.Goals as goal

pub returns-clause-tested : goal.returns-clause-tested
returns-clause-tested c = ascending_is_tested

pub returns-clause-numbers : goal.returns-clause-numbers
returns-clause-numbers c = numbers_determine

pub returns-clause-advance : goal.returns-clause-advance
returns-clause-advance c = advance_knows
