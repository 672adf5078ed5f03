-- Generations that are kept with a row: what a filter and a new one leave of them.
use Rattle.std.specs.List.{AllByRecursion}
use Rattle.std.specs.Prelude.{Bool, List, [], cond, false, filter, length, nat_lt, refl, true, ℕ, ◌++◌, ◌+◌, ◌<◌, ◌==◌, ◌≡◌, ◌≤◌, ◌∷◌}
use Rattle.std.proofs.Common.{ap, arith, ◌∙◌}
use Rattle.std.proofs.lemmas.Bool.Decides.{nat_tests}
use Rattle.std.proofs.lemmas.List.{length-append}
use Rattle.std.proofs.lemmas.List.Sums.{sum_by-append, sum_by-cons}
use Rattle.merge_record.specs.Rows.{ascend_behind, numbers_ascend}
use Rattle.merge_model.specs.Subscriber.{with_open}
use Rattle.merge_model.proofs.Lists.{all-kept, all-of}
use Rattle.merge_stored.specs.Entries.{times_kept}

-- what is weighed does not grow where some are left out
pub record IsWeight (weigh : List ℕ → ℕ) : Type 0 where
  pub none : weigh [] ≡ 0
  pub fewer : (keep : ℕ → Bool) (generations : List ℕ) → weigh (filter keep generations) ≤ weigh generations

shorter : (keep : ℕ → Bool) (xs : List ℕ) → length (filter keep xs) ≤ length xs
shorter keep [] = omega arith
shorter keep (x ∷ xs) = elim (keep x) as (λ (b : Bool). length (cond b (x ∷ filter keep xs) (filter keep xs)) ≤ length (x ∷ xs)) [
  | true ↦ (let rest = shorter keep xs in grind (arith, rest))
  | false ↦ (let rest = shorter keep xs in grind (arith, rest))
]

pub length-weighs : IsWeight length
length-weighs = record { none = refl; fewer = shorter }

pub times-cons : (g x : ℕ) (xs : List ℕ) → times_kept g (x ∷ xs) ≡ cond (g == x) 1 0 + times_kept g xs
times-cons g x xs = sum_by-cons (λ (other : ℕ). cond (g == other) 1 0) x xs

times-fewer : (g : ℕ) (keep : ℕ → Bool) (xs : List ℕ) → times_kept g (filter keep xs) ≤ times_kept g xs
times-fewer g keep [] = omega arith
times-fewer g keep (x ∷ xs) = elim (keep x) as (λ (b : Bool). times_kept g (cond b (x ∷ filter keep xs) (filter keep xs)) ≤ times_kept g (x ∷ xs)) [
  | true ↦ (let rest = times-fewer g keep xs in let one = times-cons g x (filter keep xs) in let other = times-cons g x xs in omega (arith, rest, one, other))
  | false ↦ (let rest = times-fewer g keep xs in let other = times-cons g x xs in omega (arith, rest, other))
]

pub times-append : (g : ℕ) (xs ys : List ℕ) → times_kept g (xs ++ ys) ≡ times_kept g xs + times_kept g ys
times-append g xs ys = sum_by-append (λ (other : ℕ). cond (g == other) 1 0) xs ys

pub times-weigh : (g : ℕ) → IsWeight (times_kept g)
times-weigh g = record { none = refl; fewer = times-fewer g }

-- A new generation takes the place of those from it on.

none-from : (g current : ℕ) (xs : List ℕ) → (g == current) ≡ true → times_kept g (filter (λ (x : ℕ). nat_lt x current) xs) ≡ 0
none-from g current [] is = refl
none-from g current (x ∷ xs) is = elim (nat_lt x current) as (λ (b : Bool). nat_lt x current ≡ b → times_kept g (cond b (x ∷ filter (λ (y : ℕ). nat_lt y current) xs) (filter (λ (y : ℕ). nat_lt y current) xs)) ≡ 0) [
  | true ↦ (λ e. (let rest = none-from g current xs is in let one = times-cons g x (filter (λ (y : ℕ). nat_lt y current) xs) in
      let differs : (g == x) ≡ false = grind (arith, nat_tests, e, is) in
      let none : cond (g == x) 1 0 ≡ 0 = ap (λ (b : Bool). (let n : ℕ = cond b 1 0 in n)) differs in
      omega (arith, one, none, rest)))
  | false ↦ (λ e. none-from g current xs is)
] refl

one-more : (g current : ℕ) → times_kept g (current ∷ []) ≡ cond (g == current) 1 0
one-more g current = times-cons g current [] ∙ (let same : cond (g == current) 1 0 + 0 ≡ cond (g == current) 1 0 = omega arith in same)

pub times-open : (g current : ℕ) (xs : List ℕ) → times_kept g (with_open current xs) ≤ times_kept g xs + cond (g == current) 1 0
times-open g current xs =
    let kept : List ℕ = filter (λ (x : ℕ). nat_lt x current) xs in
    let both : times_kept g (kept ++ current ∷ []) ≡ times_kept g kept + times_kept g (current ∷ []) = times-append g kept (current ∷ []) in
    let one = one-more g current in
    let fewer = times-fewer g (λ (x : ℕ). nat_lt x current) xs in
    omega (arith, both, one, fewer)

pub times-here : (current : ℕ) (xs : List ℕ) → times_kept current (with_open current xs) ≡ 1
times-here current xs =
    let kept : List ℕ = filter (λ (x : ℕ). nat_lt x current) xs in
    let itself : (current == current) ≡ true = grind (arith, nat_tests) in
    let both : times_kept current (kept ++ current ∷ []) ≡ times_kept current kept + times_kept current (current ∷ []) = times-append current kept (current ∷ []) in
    let one : times_kept current (current ∷ []) ≡ 1 = one-more current current ∙ ap (λ (b : Bool). (let n : ℕ = cond b 1 0 in n)) itself in
    let none = none-from current current xs itself in
    omega (arith, both, one, none)

pub length-open : (current : ℕ) (xs : List ℕ) → length (with_open current xs) ≤ length xs + 1
length-open current xs =
    let kept : List ℕ = filter (λ (x : ℕ). nat_lt x current) xs in
    let both : length (kept ++ current ∷ []) ≡ length kept + length (current ∷ []) = length-append kept (current ∷ []) in
    let fewer = shorter (λ (x : ℕ). nat_lt x current) xs in
    omega (arith, both, fewer)

-- They ascend.

lower : (low high : ℕ) (xs : List ℕ) → low ≤ high → ascend_behind high xs ≡ true → ascend_behind low xs ≡ true
lower low high [] up is = refl
lower low high (x ∷ xs) up is = grind (arith, nat_tests, up, is)

kept-behind : (keep : ℕ → Bool) (low : ℕ) (xs : List ℕ) → ascend_behind low xs ≡ true → ascend_behind low (filter keep xs) ≡ true
kept-behind keep low [] is = refl
kept-behind keep low (x ∷ xs) is =
    let first : nat_lt low x ≡ true = grind (arith, is) in
    let more : ascend_behind x xs ≡ true = grind (arith, is) in
    let rest = kept-behind keep x xs more in
    elim (keep x) as (λ (b : Bool). ascend_behind low (cond b (x ∷ filter keep xs) (filter keep xs)) ≡ true) [
      | true ↦ grind (arith, first, rest)
      | false ↦ lower low x (filter keep xs) (grind (arith, nat_tests, first)) rest
    ]

behind-ascends : (low : ℕ) (xs : List ℕ) → ascend_behind low xs ≡ true → numbers_ascend xs ≡ true
behind-ascends low [] is = refl
behind-ascends low (x ∷ xs) is = grind (arith, is)

pub kept-ascends : (keep : ℕ → Bool) (xs : List ℕ) → numbers_ascend xs ≡ true → numbers_ascend (filter keep xs) ≡ true
kept-ascends keep [] is = refl
kept-ascends keep (x ∷ xs) is =
    let rest = kept-behind keep x xs is in
    elim (keep x) as (λ (b : Bool). numbers_ascend (cond b (x ∷ filter keep xs) (filter keep xs)) ≡ true) [
      | true ↦ rest
      | false ↦ behind-ascends x (filter keep xs) rest
    ]

more-behind : (low current : ℕ) (xs : List ℕ) → low < current → AllByRecursion (λ (x : ℕ). x < current) xs → ascend_behind low xs ≡ true → ascend_behind low (xs ++ current ∷ []) ≡ true
more-behind low current [] up all is = grind (arith, nat_tests, up)
more-behind low current (x ∷ xs) up all is =
    let first : nat_lt low x ≡ true = grind (arith, is) in
    let rest = more-behind x current xs all.0 all.1 (grind (arith, is)) in
    grind (arith, first, rest)

more-ascends : (current : ℕ) (xs : List ℕ) → AllByRecursion (λ (x : ℕ). x < current) xs → numbers_ascend xs ≡ true → numbers_ascend (xs ++ current ∷ []) ≡ true
more-ascends current [] all is = refl
more-ascends current (x ∷ xs) all is = more-behind x current xs all.0 all.1 is

pub open-ascends : (current : ℕ) (xs : List ℕ) → numbers_ascend xs ≡ true → numbers_ascend (with_open current xs) ≡ true
open-ascends current xs is =
    more-ascends current (filter (λ (x : ℕ). nat_lt x current) xs)
    (all-kept (λ (x : ℕ). x < current) (λ (x : ℕ). nat_lt x current) xs (all-of (λ (x : ℕ). nat_lt x current ≡ true → x < current) (λ x low. grind (arith, nat_tests, low)) xs))
    (kept-ascends (λ (x : ℕ). nat_lt x current) xs is)
