use Rattle.std.proofs.Common.{◌≡◌, true, false}
use Rattle.merge_gens.proofs.index.GenerationIndex.prepare.Goals as goal

pub returns-in_err-prepare-clause-room : goal.returns-in_err-prepare-clause-room
returns-in_err-prepare-clause-room c = rw (← c.self.view_is) (λ ready. let refused : false ≡ true = c.in_err-prepare.ensures.succeeds (rw c.as_slice.ensures ready) in absurd cc)

pub returns-in_err-prepare-clause-kept : goal.returns-in_err-prepare-clause-kept
returns-in_err-prepare-clause-kept c = rw (← c.self.view_is) c.in_err-prepare.ensures.kept

pub returns-clause-kept : goal.returns-clause-kept
returns-clause-kept c = rw (← c.self.view_is) c.in_ok-prepare.ensures.kept
