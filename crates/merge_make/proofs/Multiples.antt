-- The numbers from 1 on, and those among them that a divisor divides.
use Rattle.std.proofs.Common.{Bool, List, Some, [], ap, arith, cond, false, filter, length, map, refl, subst, sym, true, zero, suc, ℕ, ◌%◌, ◌*◌, ◌+◌, ◌++◌, ◌/◌, ◌-◌, ◌<◌, ◌==◌, ◌∙◌, ◌∷◌, ◌≡◌}
use Rattle.std.specs.List.{range_with_len, slice_get}
use Rattle.std.specs.Prelude.{Option, option_map}
use Rattle.std.proofs.Math.Nat.{add-mul-mod_self_left, mod-add-div, mod-eq_of_lt, mod-lt, mul-suc, mul-zero}
use Rattle.std.proofs.lemmas.Bool.Decides.{nat_tests}
use Rattle.std.proofs.lemmas.List.{append-nil, length-map, map_push}
use Rattle.std.proofs.lemmas.List.Elements.{filter-append}
use Rattle.std.proofs.lemmas.List.FromFn.{get_or-range_with_len, length-range_with_len}
use Rattle.std.proofs.lemmas.Option.{slice_get-get_or, slice_get-map}
use Rattle.merge_make.specs.Script.{multiples, numbers}

-- one number more
more-from : (a n j : ℕ) → a + n ≡ j → range_with_len a (suc n) ≡ range_with_len a n ++ j ∷ []
more-from a zero j is = let same : a ≡ j = omega (arith, is) in ap (λ (k : ℕ). k ∷ []) same
more-from a (suc n) j is = ap (λ (l : List ℕ). a ∷ l) (more-from (a + 1) n j (omega (arith, is)))

more : (n : ℕ) → numbers (suc n) ≡ numbers n ++ suc n ∷ []
more n = more-from 1 n (suc n) (omega arith)

remainder : (d q r n : ℕ) → r < d → n ≡ r + d * q → n % d ≡ r
remainder d q r n less is = ap (λ (m : ℕ). m % d) is ∙ add-mul-mod_self_left r d q ∙ mod-eq_of_lt less

-- one number more, that is a multiple or not
multiples-more : (d n : ℕ) → multiples d (suc n) ≡ multiples d n ++ cond (suc n % d == 0) (suc n ∷ []) []
multiples-more d n = ap (λ (l : List ℕ). filter (λ (i : ℕ). i % d == 0) l) (more n) ∙ filter-append (λ (i : ℕ). i % d == 0) (numbers n) (suc n ∷ [])

not-zero : (r : ℕ) → (suc r == 0) ≡ false
not-zero r = grind (arith, nat_tests)

multiples-are : (d n q r : ℕ) → r < d → n ≡ r + d * q → multiples d n ≡ map (λ (k : ℕ). d * k) (numbers q)
multiples-are d zero zero r less is = refl
multiples-are d zero (suc q) r less is = let on = mul-suc d q in absurd (omega (arith, less, is, on))
multiples-are d (suc n) q (suc r) less is =
    let off : suc n % d ≡ suc r = remainder d q (suc r) (suc n) less is in
    let test : (suc n % d == 0) ≡ false = ap (λ (m : ℕ). m == 0) off ∙ not-zero r in
    multiples-more d n ∙ ap (λ (b : Bool). multiples d n ++ cond b (suc n ∷ []) []) test ∙ append-nil (multiples d n) ∙ multiples-are d n q r (omega (arith, less)) (omega (arith, is))
multiples-are d (suc n) zero zero less is = let none = mul-zero d in absurd (omega (arith, is, none))
multiples-are d (suc n) (suc q) zero less is =
    let on : d * suc q ≡ d * q + d = mul-suc d q in
    let before : n ≡ (d - 1) + d * q = omega (arith, less, is, on) in
    let whole : suc n ≡ d * suc q = omega (arith, is) in
    let zeroth : suc n % d ≡ 0 = remainder d (suc q) 0 (suc n) less is in
    let test : (suc n % d == 0) ≡ true = ap (λ (m : ℕ). m == 0) zeroth in
    let rest : multiples d n ≡ map (λ (k : ℕ). d * k) (numbers q) = multiples-are d n q (d - 1) (omega (arith, less)) before in
    multiples-more d n ∙ ap (λ (b : Bool). multiples d n ++ cond b (suc n ∷ []) []) test
    ∙ ap (λ (l : List ℕ). l ++ suc n ∷ []) rest ∙ ap (λ (m : ℕ). map (λ (k : ℕ). d * k) (numbers q) ++ m ∷ []) whole
    ∙ sym (map_push (λ (k : ℕ). d * k) (numbers q) (suc q)) ∙ ap (λ (l : List ℕ). map (λ (k : ℕ). d * k) l) (sym (more q))

pub multiples-by-quotient : (d n : ℕ) → 0 < d → multiples d n ≡ map (λ (k : ℕ). d * k) (numbers (n / d))
multiples-by-quotient d n some = multiples-are d n (n / d) (n % d) (mod-lt n some) (sym (mod-add-div n d))

module _ {X : Type 0} (f : ℕ → X) where
  pub count-numbered : (n : ℕ) → length (map f (numbers n)) ≡ n
  count-numbered n = length-map (numbers n) f ∙ length-range_with_len 1 n

  pub count-multiples : (d n : ℕ) → 0 < d → length (map f (multiples d n)) ≡ n / d
  count-multiples d n some =
      length-map (multiples d n) f ∙ ap (λ (l : List ℕ). length l) (multiples-by-quotient d n some)
      ∙ length-map (numbers (n / d)) (λ (k : ℕ). d * k) ∙ length-range_with_len 1 (n / d)

-- what has a place among the numbers
number-at : (n k : ℕ) → k < n → slice_get (numbers n) k ≡ Some (k + 1)
number-at n k less =
    let at : 1 + k ≡ k + 1 = omega arith in
    slice_get-get_or (numbers n) k 0 (subst (λ (m : ℕ). k < m) (sym (length-range_with_len 1 n)) less) ∙ ap (λ (m : ℕ). Some m) (get_or-range_with_len 1 n k 0 less ∙ at)

module _ {X : Type 0} (f : ℕ → X) where
  pub numbered-at : (n k : ℕ) → k < length (map f (numbers n)) → slice_get (map f (numbers n)) k ≡ Some (f (k + 1))
  numbered-at n k less = slice_get-map f (numbers n) k ∙ ap (λ (o : Option ℕ). option_map f o) (number-at n k (subst (λ (m : ℕ). k < m) (count-numbered f n) less))

  pub multiple-at : (d n k i : ℕ) → 0 < d → k < length (map f (multiples d n)) → i ≡ d * (k + 1) → slice_get (map f (multiples d n)) k ≡ Some (f i)
  multiple-at d n k i some less is =
      let less' : k < n / d = subst (λ (m : ℕ). k < m) (count-multiples f d n some) less in
      slice_get-map f (multiples d n) k
      ∙ ap (λ (l : List ℕ). option_map f (slice_get l k)) (multiples-by-quotient d n some)
      ∙ ap (λ (o : Option ℕ). option_map f o) (slice_get-map (λ (m : ℕ). d * m) (numbers (n / d)) k ∙ ap (λ (o : Option ℕ). option_map (λ (m : ℕ). d * m) o) (number-at (n / d) k less'))
      ∙ ap (λ (m : ℕ). Some (f m)) (sym is)
