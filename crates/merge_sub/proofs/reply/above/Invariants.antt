use Rattle.std.specs.Prelude.{◌≡◌, ◌++◌, ℕ, drop, filter, nat_lt}
use Rattle.merge_sub.proofs.reply.above.Given as goal

abbrev pub invariant-loop-generation : goal.invariant-loop-generation
invariant-loop-generation l = l.above ++ filter (λ (g : ℕ). nat_lt l.received g) (drop l.generation-index l.generations) ≡ filter (λ (g : ℕ). nat_lt l.received g) l.generations
