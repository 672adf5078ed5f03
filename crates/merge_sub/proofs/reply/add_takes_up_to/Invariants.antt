use Rattle.std.specs.Prelude.{◌≡◌, ◌++◌, ℕ, drop, filter, map, nat_le}
use Rattle.merge_sub.specs.Local.{take_entry}
use Rattle.merge_sub.proofs.reply.add_takes_up_to.Given as goal

abbrev pub invariant-loop-generation : goal.invariant-loop-generation
invariant-loop-generation l = l.changes ++ map (take_entry l.key) (filter (λ (g : ℕ). nat_le g l.received) (drop l.generation-index l.generations)) ≡ l.fn.changes ++ map (take_entry l.key) (filter (λ (g : ℕ). nat_le g l.received) l.generations)
