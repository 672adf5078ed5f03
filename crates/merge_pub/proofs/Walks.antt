-- The end of a batch, by a walk from one generation to the next.
use Rattle.std.specs.Prelude.{◌≡◌, ◌≤◌, ◌+◌, ◌-◌, ℕ, zero, suc, List, [], ◌∷◌, Bool, true, false, refl, cond, filter, min, nat_le, unwrap_or, Some, None}
use Rattle.std.specs.List.{last_or, range_with_len}
use Rattle.std.proofs.Common.{arith, sym, ap, ◌∙◌}
use Rattle.std.proofs.lemmas.Bool.Decides.{nat_tests}
use Rattle.merge_types.specs.Limits.{generation_limit, item_limit}
use Rattle.merge_model.specs.Publisher.PublisherDownload.{batch_end}
use Rattle.merge_pub.specs.Walks.{walk}

abbrev fits : (ℕ → ℕ) → ℕ → Bool
fits f to = nat_le (f to) item_limit

last-some : (x d : ℕ) (xs : List ℕ) → unwrap_or (last_or (Some x) xs) d ≡ unwrap_or (last_or None xs) x
last-some x d [] = refl
last-some x d (y ∷ xs) = last-some y d xs ∙ sym (last-some y x xs)

none-fits : (f : ℕ → ℕ) → ((a b : ℕ) → a ≤ b → f a ≤ f b) → (s n : ℕ) → fits f s ≡ false → filter (fits f) (range_with_len s n) ≡ []
none-fits f rises s zero over = refl
none-fits f rises s (suc n) over =
    let more : fits f (s + 1) ≡ false = (let up = rises s (s + 1) (omega arith) in grind (arith, nat_tests, over, up)) in
    ap (λ (b : Bool). (let kept : List ℕ = cond b (s ∷ filter (fits f) (range_with_len (s + 1) n)) (filter (fits f) (range_with_len (s + 1) n)) in kept)) over ∙ none-fits f rises (s + 1) n more

walk-step : (f : ℕ → ℕ) (from : ℕ) (rest : List ℕ) (end : ℕ) (b : Bool) → (b ≡ false → rest ≡ []) → unwrap_or (last_or None rest) (from + 1) ≡ end
    → unwrap_or (last_or None (let kept : List ℕ = cond b ((from + 1) ∷ rest) rest in kept)) from ≡ cond b end from
walk-step f from rest end true none same = last-some (from + 1) from rest ∙ same
walk-step f from rest end false none same = ap (λ (xs : List ℕ). unwrap_or (last_or None xs) from) (none refl)

walks : (f : ℕ → ℕ) → ((a b : ℕ) → a ≤ b → f a ≤ f b) → (from n : ℕ) → unwrap_or (last_or None (filter (fits f) (range_with_len (from + 1) n))) from ≡ walk f from n
walks f rises from zero = refl
walks f rises from (suc n) =
    walk-step f from (filter (fits f) (range_with_len (from + 1 + 1) n)) (walk f (from + 1) n) (fits f (from + 1))
    (λ over. none-fits f rises (from + 1 + 1) n (let up = rises (from + 1) (from + 1 + 1) (omega arith) in grind (arith, nat_tests, over, up))) (walks f rises (from + 1) n)

pub batch-walk : (f : ℕ → ℕ) → ((a b : ℕ) → a ≤ b → f a ≤ f b) → (from last : ℕ) → batch_end f from last ≡ walk f from (min generation_limit (last - from))
batch-walk f rises from last = walks f rises from (min generation_limit (last - from))
