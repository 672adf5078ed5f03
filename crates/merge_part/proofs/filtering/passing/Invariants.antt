use Rattle.std.proofs.Common.{◌≡◌, ◌+◌, ℕ, ◌&&◌}
use Rattle.std.specs.Prelude.{nat_lt}
use Rattle.merge_part.specs.Sites.{has_site}
use Rattle.merge_part.specs.Filtering.{passes_at}
use Rattle.merge_part.proofs.filtering.passing.Given as goal

abbrev pub invariant-loop-place : goal.invariant-loop-place
invariant-loop-place g l = record {
  sites : (other : ℕ) → has_site l.sites other ≡ (nat_lt other l.place && passes_at l.filter l.subscriptions l.values other);
  cost : l.steps ≡ l.fn.steps + l.place;
}
