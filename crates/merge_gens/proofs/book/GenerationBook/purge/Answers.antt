use Rattle.std.proofs.Common.{nat_le}
use Rattle.merge_gens.specs.declared.closings.Closing.{Closing}
use Rattle.merge_gens.proofs.ClosedGenerations.{sound_kept}
use Rattle.merge_gens.proofs.book.GenerationBook.purge.Goals as goal

pub invariant_of-self : goal.invariant_of-self
invariant_of-self c = rw c.keep_from.ensures.items (sound_kept _ (λ (closing : Closing). nat_le c.args.cutoff.0 closing.moment.0) c.self.invariant)
