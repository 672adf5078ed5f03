use Rattle.merge_units.proofs.Fits.{fits_bodies}
use Rattle.merge_units.proofs.result.apply.Goals as goal

pub apply-requires-clause-fits : goal.apply-requires-clause-fits
apply-requires-clause-fits c = rw c.in_ok-case.ensures.case (fits_bodies c.args.publisher.now c.args.incoming.now c.args.decision.now c.requires.counts c.requires.decision)
