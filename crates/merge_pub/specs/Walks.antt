-- The end of a batch, by a walk from one generation to the next.
use Rattle.std.specs.Prelude.{ℕ, zero, suc, ◌+◌, cond, nat_le}
use Rattle.merge_types.specs.Limits.{item_limit}

abbrev pub walk : (ℕ → ℕ) → ℕ → ℕ → ℕ
walk f to zero = to
walk f to (suc n) = cond (nat_le (f (to + 1)) item_limit) (walk f (to + 1) n) to
