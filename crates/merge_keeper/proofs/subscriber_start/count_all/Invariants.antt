use Rattle.std.proofs.Common.{◌≡◌, ◌+◌, ◌<◌, ◌==◌, ℕ, count_by, take}
use Rattle.merge_keeper.specs.Counts.{count_at}
use Rattle.merge_keeper.proofs.subscriber_start.count_all.Given as goal

abbrev pub invariant-loop-generation : goal.invariant-loop-generation
invariant-loop-generation l = (g : ℕ) → l.received < g → count_at l.counts g ≡ count_at l.fn.counts g + count_by (λ other. g == other) (take l.generation-index l.generations)
