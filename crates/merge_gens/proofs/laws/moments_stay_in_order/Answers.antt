use Rattle.std.proofs.Common.{nat_lt, nat_le}
use Rattle.merge_gens.specs.declared.closings.Closing.{Closing}
use Rattle.merge_gens.proofs.Moments.{never_falls_moved, never_falls_kept}
use Rattle.merge_gens.proofs.laws.moments_stay_in_order.Goals as goal

pub returns-clause-moved : goal.returns-clause-moved
returns-clause-moved c = never_falls_moved

pub returns-clause-purged : goal.returns-clause-purged
returns-clause-purged c = λ book cutoff fall. never_falls_kept (λ (x : Closing). nat_le cutoff.0 x.moment.0) book.closings fall

pub returns-clause-forgotten : goal.returns-clause-forgotten
returns-clause-forgotten c = λ book up_to fall. never_falls_kept (λ (x : Closing). nat_lt up_to x.generation) book.closings fall
