use Rattle.std.proofs.Common.{rules}
use Rattle.std.proofs.lemmas.List.Sorted.{answers_always}
use Rattle.merge_gens.specs.declared.closings.Closing.{Closing}
use Rattle.merge_gens.proofs.ClosedGenerations.{found_at, found_nowhere}
use Rattle.merge_gens.proofs.closings.moment_at.Goals as goal

pub returns-in-Ok : goal.returns-in-Ok
returns-in-Ok c = found_at _ _ c.requires _ _ c.in-Ok.ensures.bound (c.in-Ok.ensures.position (λ (closing : Closing). closing.generation) (answers_always _ _ _ (λ f a r g called. search rules)))

pub returns-in-Err : goal.returns-in-Err
returns-in-Err c = found_nowhere _ _ c.requires _ (c.in-Err.ensures.position (λ (closing : Closing). closing.generation) (answers_always _ _ _ (λ f a r g called. search rules)))
