use Rattle.std.proofs.Common.{◌≡◌, ℕ}
use Rattle.std.specs.Prelude.{nat_lt}
use Rattle.merge_part.specs.Sites.{has_site}
use Rattle.merge_part.proofs.filtering.all_sites.Given as goal

abbrev pub invariant-loop-place : goal.invariant-loop-place
invariant-loop-place l = (other : ℕ) → has_site l.sites other ≡ nat_lt other l.place
