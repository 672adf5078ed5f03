use Rattle.std.proofs.Common.{ℕ, ap}
use Rattle.std.specs.Prelude.{◌==◌}
use Rattle.std.proofs.lemmas.Nat.Bits.{bit_at-zero}
use Rattle.merge_part.specs.Sites.{has_site}
use Rattle.merge_part.proofs.sites.Sites.none.Goals as goal

pub returns-clause-empty : goal.returns-clause-empty
unfolding has_site
returns-clause-empty c = λ place. ap (λ (n : ℕ). n == 1) (bit_at-zero place)
