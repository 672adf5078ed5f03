-- How many numbers below a bound pass a test.
use Rattle.std.proofs.Common.{◌≡◌, ℕ, zero, suc, ◌<◌, ◌≤◌, Bool, true, false, cond, ◌⊎◌, inl, inr, refl, sym, ap, subst, ◌∙◌, arith}
use Rattle.std.proofs.lemmas.Bool.{false≢true}
use Rattle.merge_schema.specs.ParentsFirst.{count_below}

at_most_one : (b : Bool) (c n : ℕ) → c ≤ n → cond b (suc c) c ≤ suc n
at_most_one true c n h = omega arith
at_most_one false c n h = omega arith

pub count_within : (test : ℕ → Bool) (n : ℕ) → count_below test n ≤ n
count_within test zero = omega arith
count_within test (suc n) = at_most_one (test n) (count_below test n) n (count_within test n)

one_more : (a b : Bool) (c d : ℕ) → (a ≡ true → b ≡ true) → c ≤ d → cond a (suc c) c ≤ cond b (suc d) d
one_more true true c d sub h = omega arith
one_more true false c d sub h = absurd (false≢true (sub refl))
one_more false true c d sub h = omega arith
one_more false false c d sub h = omega arith

pub count_grows : (p q : ℕ → Bool) (n : ℕ) → ((k : ℕ) → p k ≡ true → q k ≡ true) → count_below p n ≤ count_below q n
count_grows p q zero sub = omega arith
count_grows p q (suc n) sub = one_more (p n) (q n) (count_below p n) (count_below q n) (sub n) (count_grows p q n sub)

new_here : (a b : Bool) (c d : ℕ) → a ≡ false → b ≡ true → c ≤ d → cond a (suc c) c < cond b (suc d) d
new_here true b c d x y h = absurd (false≢true (sym x))
new_here false true c d x y h = omega arith
new_here false false c d x y h = absurd (false≢true y)

new_below : (a b : Bool) (c d : ℕ) → (a ≡ true → b ≡ true) → c < d → cond a (suc c) c < cond b (suc d) d
new_below true true c d sub h = omega arith
new_below true false c d sub h = absurd (false≢true (sub refl))
new_below false true c d sub h = omega arith
new_below false false c d sub h = omega arith

same_or_below : (k n : ℕ) → k < suc n → (k ≡ n) ⊎ (k < n)
same_or_below k n h = grind arith

-- a test that passes more, and at a number that the other doesn't
pub count_strict : (p q : ℕ → Bool) (n : ℕ) → ((k : ℕ) → p k ≡ true → q k ≡ true) → (k : ℕ) → k < n → p k ≡ false → q k ≡ true → count_below p n < count_below q n
count_strict p q zero sub k lt fails passes = absurd (omega arith)
count_strict p q (suc n) sub k lt fails passes = elim (same_or_below k n lt) [
  | inl same ↦ new_here (p n) (q n) (count_below p n) (count_below q n) (subst (λ (m : ℕ). p m ≡ false) same fails) (subst (λ (m : ℕ). q m ≡ true) same passes) (count_grows p q n sub)
  | inr below ↦ new_below (p n) (q n) (count_below p n) (count_below q n) (sub n) (count_strict p q n sub k below fails passes)
]

-- a number at which the second test alone passes, or none
pub first_new : (p q : ℕ → Bool) (n : ℕ) → ((k : ℕ) × (k < n) × (p k ≡ false) × (q k ≡ true)) ⊎ ((k : ℕ) → k < n → q k ≡ true → p k ≡ true)
first_new p q zero = inr (λ k lt h. absurd (omega arith))
first_new p q (suc n) = elim (first_new p q n) [
  | inl new ↦ inl (new.0, omega arith, new.2, new.3)
  | inr none ↦ here (p n) (q n) refl refl none
]
  where
    here : (a b : Bool) → p n ≡ a → q n ≡ b → ((k : ℕ) → k < n → q k ≡ true → p k ≡ true) → ((k : ℕ) × (k < suc n) × (p k ≡ false) × (q k ≡ true)) ⊎ ((k : ℕ) → k < suc n → q k ≡ true → p k ≡ true)
    here true b x y none = inr (λ k lt h. elim (same_or_below k n lt) [ inl same ↦ ap p same ∙ x | inr below ↦ none k below h ])
    here false true x y none = inl (n, omega arith, x, y)
    here false false x y none = inr (λ k lt h. elim (same_or_below k n lt) [ inl same ↦ absurd (false≢true (sym y ∙ ap q (sym same) ∙ h)) | inr below ↦ none k below h ])
