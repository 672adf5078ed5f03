-- How entries that are added one after the other fill generations.
use Rattle.std.specs.List.{range_with_len}
use Rattle.std.specs.Prelude.{List, cond, count_by, map, refl, suc, zero, ℕ, ◌%◌, ◌+◌, ◌/◌, ◌<◌, ◌==◌, ◌≡◌, ◌∷◌}
use Rattle.std.proofs.Common.{ap, arith, subst, sym, ◌∙◌}
use Rattle.std.proofs.lemmas.Bool.Decides.{nat_tests}
use Rattle.std.proofs.lemmas.List.Sums.{sum_by-cons}
use Rattle.merge_types.specs.Limits.{entry_limit}
use Rattle.merge_gens.specs.Filling as fill
use Rattle.merge_gens.specs.Filling.{filled_by, generation_of, generations_of}
use Rattle.merge_gens.specs.declared.filling.Filling.{Filling}
use Rattle.merge_honest.specs.Entered.{Fills}
use Rattle.merge_honest.proofs.Filled.{closed-by, entered-by, few-more}

one-more : (counted more : ℕ → ℕ) (filling : Filling) → filling.filled < entry_limit → Fills counted filling → ((generation : ℕ) → more generation ≡ cond (filling.last_closed + 1 == generation) 1 0 + counted generation) → Fills more (filled_by filling 1)
one-more counted more filling low f each = record {
  few = λ generation. few-more counted more filling.last_closed filling.filled generation low f.entered (f.few generation) (each generation);
  entered = entered-by counted more filling.last_closed filling.filled (filling.filled + 1 == entry_limit) refl low f.entered (f.behind (filling.last_closed + 1 + 1) (omega arith)) each;
  behind = λ generation up. (let none = f.behind generation (omega (arith, up)) in let is = each generation in grind (arith, nat_tests, is, none, up));
}

abbrev filling_at : ℕ → ℕ → Filling
filling_at last filled = record { last_closed = last; filled = filled }

next-filling : (filling : Filling) (k : ℕ) → filled_by (filled_by filling k) 1 ≡ filled_by filling (k + 1)
next-filling filling k =
    let last : filling.last_closed + (filling.filled + k) / entry_limit + ((filling.filled + k) % entry_limit + 1) / entry_limit ≡ filling.last_closed + (filling.filled + (k + 1)) / entry_limit = omega arith in
    let filled : ((filling.filled + k) % entry_limit + 1) % entry_limit ≡ (filling.filled + (k + 1)) % entry_limit = omega arith in
    ap (λ (n : ℕ). filling_at n (((filling.filled + k) % entry_limit + 1) % entry_limit)) last ∙ ap (filling_at (filling.last_closed + (filling.filled + (k + 1)) / entry_limit)) filled

-- how many of some generations are one
abbrev pub times_in : List ℕ → ℕ → ℕ
times_in generations generation = count_by (λ (other : ℕ). other == generation) generations

pub times-cons : (first : ℕ) (generations : List ℕ) (generation : ℕ) → times_in (first ∷ generations) generation ≡ cond (first == generation) 1 0 + times_in generations generation
times-cons first generations generation = sum_by-cons (λ (other : ℕ). cond (other == generation) 1 0) first generations

pub same-counts : (counted more : ℕ → ℕ) (filling : Filling) → Fills counted filling → ((generation : ℕ) → more generation ≡ counted generation) → Fills more filling
same-counts counted more filling f each = record {
  few = λ generation. (let up = f.few generation in let is = each generation in omega (arith, up, is));
  entered = each (filling.last_closed + 1) ∙ f.entered;
  behind = λ generation up. each generation ∙ f.behind generation up;
}

fills-from : (filling : Filling) (n k : ℕ) (counted more : ℕ → ℕ) → Fills counted (filled_by filling k) → ((generation : ℕ) → more generation ≡ times_in (map (generation_of filling) (range_with_len k n)) generation + counted generation) → Fills more (filled_by filling (k + n))
fills-from filling zero k counted more f each =
    let same : k + 0 ≡ k = omega arith in
    subst (λ (count : ℕ). Fills more (filled_by filling count)) (sym same) (same-counts counted more (filled_by filling k) f (λ generation. (let is = each generation in omega (arith, is))))
fills-from filling (suc n) k counted more f each =
    let next : ℕ → ℕ = λ (generation : ℕ). cond (generation_of filling k == generation) 1 0 + counted generation in
    let place : generation_of filling k ≡ (filled_by filling k).last_closed + 1 = omega arith in
    let first : (generation : ℕ) → next generation ≡ cond ((filled_by filling k).last_closed + 1 == generation) 1 0 + counted generation = λ generation. ap (λ (n : ℕ). cond (n == generation) 1 0 + counted generation) place in
    let here : Fills next (filled_by filling (k + 1)) = subst (Fills next) (next-filling filling k) (one-more counted next (filled_by filling k) (omega arith) f first) in
    let same : k + 1 + n ≡ k + suc n = omega arith in
    subst (λ (count : ℕ). Fills more (filled_by filling count)) same
    (fills-from filling n (k + 1) next more here (λ generation. (let is = each generation in let first = times-cons (generation_of filling k) (map (generation_of filling) (range_with_len (k + 1) n)) generation in omega (arith, is, first))))

pub none-yet : (filling : Filling) → filling.filled < entry_limit → filled_by filling 0 ≡ filling
none-yet filling low =
    let last : filling.last_closed + (filling.filled + 0) / entry_limit ≡ filling.last_closed = omega (arith, low) in
    let filled : (filling.filled + 0) % entry_limit ≡ filling.filled = omega (arith, low) in
    ap (λ (n : ℕ). filling_at n ((filling.filled + 0) % entry_limit)) last ∙ ap (filling_at filling.last_closed) filled

-- so many entries
pub fills-more : (filling : Filling) (count : ℕ) (counted more : ℕ → ℕ) → filling.filled < entry_limit → Fills counted filling → ((generation : ℕ) → more generation ≡ times_in (generations_of filling count) generation + counted generation) → Fills more (filled_by filling count)
fills-more filling count counted more low f each =
    let same : 0 + count ≡ count = omega arith in
    subst (λ (n : ℕ). Fills more (filled_by filling n)) same
    (fills-from filling count 0 counted more (subst (Fills counted) (sym (none-yet filling low)) f) each)

-- a closing
closing-behind : (filling : Filling) (generation : ℕ) → (fill.filling_after_close filling).last_closed + 1 < generation → filling.last_closed + 1 < generation
closing-behind filling generation up = grind (arith, nat_tests, up)

pub fills-closed : (counted : ℕ → ℕ) (filling : Filling) → Fills counted filling → Fills counted (fill.filling_after_close filling)
fills-closed counted filling f = record {
  few = f.few;
  entered = closed-by counted filling (filling.filled == 0) refl f.entered (f.behind (filling.last_closed + 1 + 1) (omega arith));
  behind = λ generation up. f.behind generation (closing-behind filling generation up);
}
