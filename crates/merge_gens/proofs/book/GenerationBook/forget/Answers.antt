use Rattle.std.proofs.Common.{nat_lt}
use Rattle.merge_gens.specs.declared.closings.Closing.{Closing}
use Rattle.merge_gens.proofs.ClosedGenerations.{sound_kept}
use Rattle.merge_gens.proofs.book.GenerationBook.forget.Goals as goal

pub invariant_of-self : goal.invariant_of-self
invariant_of-self c = rw c.keep_above.ensures.items (sound_kept _ (λ (closing : Closing). nat_lt c.args.up_to closing.generation) c.self.invariant)
