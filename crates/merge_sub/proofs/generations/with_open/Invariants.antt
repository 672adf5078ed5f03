use Rattle.std.specs.Prelude.{◌≡◌, ◌++◌, ℕ, drop, filter, nat_lt}
use Rattle.merge_sub.proofs.generations.with_open.Given as goal

abbrev pub invariant-loop-generation : goal.invariant-loop-generation
invariant-loop-generation l = l.generations ++ filter (λ (g : ℕ). nat_lt g l.current) (drop l.generation-index l.kept) ≡ filter (λ (g : ℕ). nat_lt g l.current) l.kept
