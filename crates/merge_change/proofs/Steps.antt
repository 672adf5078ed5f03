-- One more member of a list whose members have their places.
use Rattle.std.proofs.Common.{◌≡◌, ◌<◌, ◌≤◌, ◌+◌, ◌-◌, ◌^◌, ℕ, zero, suc, List, [], ◌∷◌, ◌++◌, length, get_or, min, take, map, refl, sym, ap, ◌∙◌, add-zero, add-one, zero-add, arith}
use Rattle.std.specs.List.{enumerate_from, sum_by}
use Rattle.std.proofs.lemmas.List.{length-map}
use Rattle.std.proofs.lemmas.List.Sums.{sum_by-append}
use Rattle.std.proofs.lemmas.List.FromFn.{length-enumerate_from}

more_from : {X Y : Type 0} (f : ℕ × X → Y) (n : ℕ) (xs : List X) (i : ℕ) (x : X) → i < length xs → x ≡ get_or xs i x
    → map f (take (suc i) (enumerate_from n xs)) ≡ map f (take i (enumerate_from n xs)) ++ f (n + i, x) ∷ []
more_from f n [] i x lt is = absurd (omega arith)
more_from f n (y ∷ xs) zero x lt is = rw (add-zero, is) refl
more_from f n (y ∷ xs) (suc i) x lt is =
    let place : n + 1 + i ≡ n + suc i = omega arith in
    ap (λ ys. f (n, y) ∷ ys) (more_from f (n + 1) xs i x (omega arith) is ∙ ap (λ m. map f (take i (enumerate_from (n + 1) xs)) ++ f (m, x) ∷ []) place)

pub map_more : {X Y : Type 0} (f : ℕ × X → Y) (xs : List X) (i : ℕ) (x : X) → i < length xs → x ≡ get_or xs i x
    → map f (take (i + 1) (enumerate_from 0 xs)) ≡ map f (take i (enumerate_from 0 xs)) ++ f (i, x) ∷ []
map_more f xs i x lt is = rw add-one (rw zero-add at (more_from f 0 xs i x lt is))

-- the same where the places alone count
places_from : {X Y : Type 0} (f : ℕ → Y) (n : ℕ) (xs : List X) (i : ℕ) → i < length xs
    → map (λ (p : ℕ × X). f p.0) (take (suc i) (enumerate_from n xs)) ≡ map (λ (p : ℕ × X). f p.0) (take i (enumerate_from n xs)) ++ f (n + i) ∷ []
places_from f n [] i lt = absurd (omega arith)
places_from f n (y ∷ xs) zero lt = rw add-zero refl
places_from f n (y ∷ xs) (suc i) lt =
    let place : n + 1 + i ≡ n + suc i = omega arith in
    ap (λ ys. f n ∷ ys) (places_from f (n + 1) xs i (omega arith) ∙ ap (λ m. map (λ (p : ℕ × _). f p.0) (take i (enumerate_from (n + 1) xs)) ++ f m ∷ []) place)

pub places_more : {X Y : Type 0} (f : ℕ → Y) (xs : List X) (i : ℕ) → i < length xs
    → map (λ (p : ℕ × X). f p.0) (take (i + 1) (enumerate_from 0 xs)) ≡ map (λ (p : ℕ × X). f p.0) (take i (enumerate_from 0 xs)) ++ f i ∷ []
places_more f xs i lt = rw add-one (rw zero-add at (places_from f 0 xs i lt))

-- past the end all are there
take_all : {X : Type 0} (xs : List X) (i : ℕ) → length xs ≤ i → take i xs ≡ xs
take_all [] zero le = refl
take_all [] (suc i) le = refl
take_all (x ∷ xs) zero le = absurd (omega arith)
take_all (x ∷ xs) (suc i) le = ap (λ ys. x ∷ ys) (take_all xs i (omega arith))

pub places_all : {X : Type 0} (xs : List X) (i : ℕ) → length xs ≤ i → take i (enumerate_from 0 xs) ≡ enumerate_from 0 xs
places_all xs i le = take_all (enumerate_from 0 xs) i (rw length-enumerate_from le)

-- a total that ends at what a u64 holds
abbrev pub capped : ℕ → ℕ
capped n = min n (2 ^ 64 - 1)

pub total_more : {Y : Type 0} (f : Y → ℕ) (total : ℕ) (before after : List Y) (y : Y) (more : ℕ) → total ≡ capped (sum_by f before) → more ≡ capped (f y) → after ≡ before ++ y ∷ []
    → capped (total + more) ≡ capped (sum_by f after)
total_more f total before after y more is same grown = rw (grown, sum_by-append f before (y ∷ [])) (omega (arith, is, same))

pub total_more_exact : {Y : Type 0} (f : Y → ℕ) (total : ℕ) (before after : List Y) (y : Y) (more : ℕ) → total ≡ capped (sum_by f before) → more ≡ f y → after ≡ before ++ y ∷ []
    → capped (total + more) ≡ capped (sum_by f after)
total_more_exact f total before after y more is same grown = rw (grown, sum_by-append f before (y ∷ [])) (omega (arith, is, same))
