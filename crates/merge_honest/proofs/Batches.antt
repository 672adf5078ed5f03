-- What a batch has by where it ends.
use Rattle.std.specs.List.{last_or, range_with_len}
use Rattle.std.specs.Prelude.{Bool, List, None, Option, Some, cond, filter, min, nat_le, refl, suc, true, unwrap_or, zero, ℕ, ◌+◌, ◌-◌, ◌<◌, ◌≡◌, ◌≤◌, ◌∷◌, false}
use Rattle.std.proofs.Common.{arith}
use Rattle.std.proofs.lemmas.Bool.Decides.{nat_tests}
use Rattle.merge_types.specs.Limits.{generation_limit, item_limit}
use Rattle.merge_model.specs.Publisher.PublisherDownload.{batch_end}

last-step : (P : ℕ → Type 0) (b : Bool) (from d : ℕ) (o : Option ℕ) (kept : List ℕ) → (b ≡ true → P from) → P (unwrap_or o d) → ((other : Option ℕ) → P (unwrap_or other d) → P (unwrap_or (last_or other kept) d))
    → P (unwrap_or (last_or o (cond b (from ∷ kept) kept)) d)
last-step P true from d o kept here up more = more (Some from) (here refl)
last-step P false from d o kept here up more = more o up

last-holds : (P : ℕ → Type 0) (test : ℕ → Bool) (n from d : ℕ) (o : Option ℕ) → ((k : ℕ) → from ≤ k → k < from + n → test k ≡ true → P k) → P (unwrap_or o d) → P (unwrap_or (last_or o (filter test (range_with_len from n))) d)
last-holds P test zero from d o each up = up
last-holds P test (suc n) from d o each up =
    last-step P (test from) from d o (filter test (range_with_len (from + 1) n)) (λ is. each from (omega arith) (omega arith) is) up
    (λ other low. last-holds P test n (from + 1) d other (λ k first behind is. each k (omega (arith, first)) (omega (arith, behind)) is) low)

-- it ends where it begins, or at a generation behind, within the limits
pub batch-holds : (P : ℕ → Type 0) (items : ℕ → ℕ) (from last : ℕ) → P from → ((k : ℕ) → from < k → k ≤ from + generation_limit → k ≤ last → nat_le (items k) item_limit ≡ true → P k) → P (batch_end items from last)
batch-holds P items from last base each =
    let few : min generation_limit (last - from) ≤ generation_limit = grind (arith, nat_tests) in
    let within : min generation_limit (last - from) ≤ last - from = grind (arith, nat_tests) in
    last-holds P (λ (to : ℕ). nat_le (items to) item_limit) (min generation_limit (last - from)) (from + 1) from None
    (λ k low up is. each k (omega (arith, low)) (omega (arith, up, few)) (omega (arith, low, up, within)) is) base

-- and behind where it begins, where the next generation is within the limits
first-ends : (from d : ℕ) (b : Bool) (kept : List ℕ) → b ≡ true → from < unwrap_or (last_or (Some (from + 1)) kept) d → from < unwrap_or (last_or None (cond b ((from + 1) ∷ kept) kept)) d
first-ends from d true kept is goes = goes
first-ends from d false kept is goes = absurd cc

some-ends : (items : ℕ → ℕ) (from last n : ℕ) → n ≡ min generation_limit (last - from) → from < last → nat_le (items (from + 1)) item_limit ≡ true
    → from < unwrap_or (last_or None (filter (λ (to : ℕ). nat_le (items to) item_limit) (range_with_len (from + 1) n))) from
some-ends items from last zero is more few = absurd (grind (arith, nat_tests, is, more))
some-ends items from last (suc n) is more few =
    let test : ℕ → Bool = λ (to : ℕ). nat_le (items to) item_limit in
    first-ends from from (test (from + 1)) (filter test (range_with_len (from + 1 + 1) n)) few
    (last-holds (λ (k : ℕ). from < k) test n (from + 1 + 1) from (Some (from + 1)) (λ k low up passes. omega (arith, low)) (omega arith))

pub batch-goes : (items : ℕ → ℕ) (from last : ℕ) → from < last → items (from + 1) ≤ item_limit → from < batch_end items from last
batch-goes items from last more few = some-ends items from last (min generation_limit (last - from)) refl more (grind (arith, nat_tests, few))
