use Rattle.std.specs.List.{last_or}
use Rattle.std.specs.Prelude.{◌≡◌, ◌&&◌, ℕ, drop, filter, nat_le, nat_lt}
use Rattle.merge_model.specs.Judge.ByNumbers.{last_between}
use Rattle.merge_sub.proofs.upload.last_between.Given as goal

abbrev pub invariant-loop-generation : goal.invariant-loop-generation
invariant-loop-generation l = last_or l.last (filter (λ (generation : ℕ). nat_lt l.from generation && nat_le generation l.to) (drop l.generation-index l.generations)) ≡ last_between l.from l.to l.generations
