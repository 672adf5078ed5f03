use Rattle.std.proofs.Common.{ℕ, ap}
use Rattle.std.specs.Prelude.{◌==◌}
use Rattle.std.proofs.lemmas.Nat.Bits.{shr_and_one}
use Rattle.merge_part.specs.Sites.{has_site}
use Rattle.merge_part.proofs.sites.Sites.contains.Goals as goal

pub returns : goal.returns
unfolding has_site
returns c = ap (λ (n : ℕ). n == 1) (shr_and_one c.args.self.0 c.args.place)
