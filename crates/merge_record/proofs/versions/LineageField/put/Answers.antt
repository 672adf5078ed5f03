use Rattle.std.proofs.Common.{List, ◌^◌, subst}
use Rattle.merge_types.specs.declared.identifiers.Dot.{Dot}
use Rattle.merge_lineage.proofs.Ascending.{ascending_is_tested}
use Rattle.merge_record.specs.Codec.{AreCounted}
use Rattle.merge_record.specs.Versions.{IsDot}
use Rattle.merge_record.proofs.versions.LineageField.put.Goals as goal

-- the dots of a lineage ascend
pub returns-clause-fits : goal.returns-clause-fits
returns-clause-fits c = (subst (λ (dots : List Dot). AreCounted (2 ^ 8) IsDot dots) c.dots.ensures.all c.in_ok-put_counted.ensures.fits, (ascending_is_tested c.args.self.now).1 c.dots.ensures.ascending)
