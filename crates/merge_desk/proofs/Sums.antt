-- Sums over seats.
use Rattle.std.proofs.Common.{◌≡◌, ℕ, ◌+◌, ◌<◌, suc, List, [], ◌∷◌, length, map, slice_index_or, take, drop, ◌++◌, refl, ap, ◌∙◌, arith}
use Rattle.std.specs.List.{sum_by}
use Rattle.std.proofs.lemmas.List.Sums.{sum_by-cons}
use Rattle.std.proofs.Math.Seq.{take-append_seam}

pub same_sum : {A : Type 0} (f : A → ℕ) (xs ys : List A) → length ys ≡ length xs → ((i : ℕ) (d : A) → i < length xs → f (slice_index_or ys i d) ≡ f (slice_index_or xs i d)) → sum_by f ys ≡ sum_by f xs
same_sum f [] [] e h = refl
same_sum f [] (y ∷ ys) e h = absurd (omega arith)
same_sum f (x ∷ xs) [] e h = absurd (omega arith)
same_sum f (x ∷ xs) (y ∷ ys) e h =
    let head : f y ≡ f x = h 0 x (omega arith) in
    let tail = same_sum f xs ys (omega (arith, e)) (λ i d less. h (suc i) d (omega arith)) in
    rw (sum_by-cons f y ys, sum_by-cons f x xs, head, tail) refl

sum_behind : {A : Type 0} (f : A → ℕ) (made : List A) (x : A) → sum_by f (made ++ x ∷ []) ≡ sum_by f made + f x
sum_behind f [] x = refl
sum_behind f (y ∷ made) x =
    let rest = sum_behind f made x in
    rw (sum_by-cons f y (made ++ x ∷ []), sum_by-cons f y made) (omega (arith, rest))

-- the same, as a `Vec` stands after its slice was lent
pub same_sum_lent : {A : Type 0} (f : A → ℕ) (n : ℕ) (xs lent new : List A) → length lent ≡ n → lent ≡ xs → length new ≡ length lent → ((i : ℕ) (d : A) → i < length lent → f (slice_index_or new i d) ≡ f (slice_index_or lent i d)) → sum_by f (take n (new ++ drop (length new) xs)) ≡ sum_by f xs
same_sum_lent f n xs lent new size is e h =
    let whole : take n (new ++ drop (length new) xs) ≡ new = rw (← size, ← e) (take-append_seam new (drop (length new) xs)) in
    ap (sum_by f) whole ∙ same_sum f lent new e h ∙ ap (sum_by f) is

-- one more, of weight k
pub sum_next : {A : Type 0} (f : A → ℕ) (k : ℕ) (made new : List A) (x : A) → new ≡ made ++ x ∷ [] → f x ≡ k → sum_by f new ≡ sum_by f made + k
sum_next f k made new x pushed weight = ap (sum_by f) pushed ∙ sum_behind f made x ∙ ap (λ w. sum_by f made + w) weight

-- one is taken from the front, and its weight is added
pub sum_taken : {A : Type 0} (f : A → ℕ) (left rest : List A) (x : A) (before after whole : ℕ) → left ≡ x ∷ rest → before + sum_by f left ≡ whole → after ≡ before + f x → after + sum_by f rest ≡ whole
sum_taken f left rest x before after whole is was more =
    let split : sum_by f left ≡ f x + sum_by f rest = ap (sum_by f) is ∙ sum_by-cons f x rest in
    omega (arith, was, more, split)

-- What each element has is the same.
same_map : {A B : Type 0} (f : A → B) (xs ys : List A) → length ys ≡ length xs → ((i : ℕ) (d : A) → i < length xs → f (slice_index_or ys i d) ≡ f (slice_index_or xs i d)) → map f ys ≡ map f xs
same_map f [] [] e h = refl
same_map f [] (y ∷ ys) e h = absurd (omega arith)
same_map f (x ∷ xs) [] e h = absurd (omega arith)
same_map {A} {B} f (x ∷ xs) (y ∷ ys) e h =
    let head : f y ≡ f x = h 0 x (omega arith) in
    let tail : map f ys ≡ map f xs = same_map f xs ys (omega (arith, e)) (λ i d less. h (suc i) d (omega arith)) in
    ap (λ (b : B). b ∷ map f ys) head ∙ ap (λ (bs : List B). f x ∷ bs) tail

pub same_map_lent : {A B : Type 0} (f : A → B) (n : ℕ) (xs lent new : List A) → length lent ≡ n → lent ≡ xs → length new ≡ length lent → ((i : ℕ) (d : A) → i < length lent → f (slice_index_or new i d) ≡ f (slice_index_or lent i d)) → map f (take n (new ++ drop (length new) xs)) ≡ map f xs
same_map_lent f n xs lent new size is e h =
    let whole : take n (new ++ drop (length new) xs) ≡ new = rw (← size, ← e) (take-append_seam new (drop (length new) xs)) in
    ap (map f) whole ∙ same_map f lent new e h ∙ ap (map f) is
