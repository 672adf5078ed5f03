-- Lists whose members stand so behind those in front of them, and lists that ascend.
use Rattle.std.proofs.Common.{◌≡◌, ◌∙◌, ℕ, ◌==◌, ◌&&◌, Bool, true, false, List, [], ◌∷◌, ◌++◌, map, filter_map, Option, None, refl, sym, ap, arith}
use Rattle.std.specs.List.{cons_option, AllByRecursion}
use Rattle.std.specs.List.Sorted.{IsStrictlySortedBy}
use Rattle.std.specs.declared.cmp.Ordering.{Ordering}
use Rattle.std.specs.declared.cmp.Ordering.TheVariants.{Less}
use Rattle.std.proofs.lemmas.Bool.Decides.{nat_tests}
use Rattle.merge_keeper.specs.Start.{KeepOneByOne}

pub map_twice : {X Y Z : Type 0} (f : Y → Z) (g : X → Y) (xs : List X) → map f (map g xs) ≡ map (λ x. f (g x)) xs
map_twice f g [] = refl
map_twice f g (x ∷ xs) = ap (λ l. f (g x) ∷ l) (map_twice f g xs)

pub map_parts : {R X Y : Type 0} (f : R → Y) (con : X → R) (xs : List X) (rest : List R) → map f (map con xs ++ rest) ≡ map (λ x. f (con x)) xs ++ map f rest
map_parts f con [] rest = refl
map_parts f con (x ∷ xs) rest = ap (λ l. f (con x) ∷ l) (map_parts f con xs rest)

pub none_mapped : {R X Y : Type 0} (f : R → Option Y) (con : X → R) → ((x : X) → f (con x) ≡ None) → (xs : List X) (rest : List R) → filter_map f (map con xs ++ rest) ≡ filter_map f rest
none_mapped f con none [] rest = refl
none_mapped {Y = Y} f con none (x ∷ xs) rest = ap (λ (o : Option Y). cons_option o (filter_map f (map con xs ++ rest))) (none x) ∙ none_mapped f con none xs rest

pub one_by_one : {X : Type 0} (P Q : List X → X → Type 0) → ((front : List X) (x : X) → P front x → Q front x) → (front xs : List X) → KeepOneByOne P front xs → KeepOneByOne Q front xs
one_by_one P Q to front [] h = tt
one_by_one P Q to front (x ∷ xs) h = (to front x h.0, one_by_one P Q to (front ++ x ∷ []) xs h.1)

pub each_so : {X : Type 0} (P : X → Type 0) (Q : List X → X → Type 0) → ((front : List X) (x : X) → Q front x → P x) → (front xs : List X) → KeepOneByOne Q front xs → AllByRecursion P xs
each_so P Q to front [] h = tt
each_so P Q to front (x ∷ xs) h = (to front x h.0, each_so P Q to (front ++ x ∷ []) xs h.1)

pub each_by_one : {X : Type 0} (P : X → Type 0) (front xs : List X) → AllByRecursion P xs → KeepOneByOne (λ f x. P x) front xs
each_by_one P front [] h = tt
each_by_one P front (x ∷ xs) h = (h.0, each_by_one P (front ++ x ∷ []) xs h.1)

pub map_same : {X : Type 0} (xs : List X) → map (λ x. x) xs ≡ xs
map_same [] = refl
map_same (x ∷ xs) = ap (λ l. x ∷ l) (map_same xs)

pub all_so : {X : Type 0} (P Q : X → Type 0) → ((x : X) → P x → Q x) → (xs : List X) → AllByRecursion P xs → AllByRecursion Q xs
all_so P Q to [] h = tt
all_so P Q to (x ∷ xs) h = (to x h.0, all_so P Q to xs h.1)

pub all_mapped : {X Y : Type 0} (P : Y → Type 0) (f : X → Y) (xs : List X) → AllByRecursion (λ x. P (f x)) xs → AllByRecursion P (map f xs)
all_mapped P f [] h = tt
all_mapped P f (x ∷ xs) h = (h.0, all_mapped P f xs h.1)

pub map_as : {X Y : Type 0} (f g : X → Y) (xs : List X) → AllByRecursion (λ x. f x ≡ g x) xs → map f xs ≡ map g xs
map_as f g [] h = refl
map_as {Y = Y} f g (x ∷ xs) h = ap (λ (y : Y). y ∷ map f xs) h.0 ∙ ap (λ (l : List Y). g x ∷ l) (map_as f g xs h.1)

pub both_true : (a b : Bool) → a ≡ true → b ≡ true → (a && b) ≡ true
both_true true b here there = there
both_true false b here there = absurd cc

pub and_first : (a b : Bool) → (a && b) ≡ true → a ≡ true
and_first true b h = refl
and_first false b h = absurd cc

pub and_second : (a b : Bool) → (a && b) ≡ true → b ≡ true
and_second true b h = h
and_second false b h = absurd cc

pub same_number : (n : ℕ) → (n == n) ≡ true
same_number n = grind (arith, nat_tests)

-- ---- lists that ascend

all_split : {K X R : Type 0} (P : K → Type 0) (key : R → K) (con : X → R) (xs : List X) (rest : List R) → AllByRecursion P (map key (map con xs ++ rest)) → AllByRecursion P (map (λ x. key (con x)) xs) × AllByRecursion P (map key rest)
all_split P key con [] rest h = (tt, h)
all_split P key con (x ∷ xs) rest h = let s = all_split P key con xs rest h.1 in ((h.0, s.0), s.1)

-- each part of what ascends does
pub sorted_split : {K X R : Type 0} (c : K → K → Ordering) (key : R → K) (con : X → R) (xs : List X) (rest : List R) → IsStrictlySortedBy c (map key (map con xs ++ rest)) → IsStrictlySortedBy c (map (λ x. key (con x)) xs) × IsStrictlySortedBy c (map key rest)
unfolding IsStrictlySortedBy
sorted_split c key con [] rest h = (tt, h)
sorted_split c key con (x ∷ xs) rest h =
    let here = all_split (λ k. c (key (con x)) k ≡ Less) key con xs rest h.0 in
    let s = sorted_split c key con xs rest h.1 in
    ((here.0, s.0), s.1)

all_less_as : {K L X : Type 0} (c : K → K → Ordering) (d : L → L → Ordering) (f : X → K) (g : X → L) (P : X → Type 0) → ((x y : X) → P x → P y → c (f x) (f y) ≡ d (g x) (g y)) → (x : X) (xs : List X) → P x → AllByRecursion P xs
    → AllByRecursion (λ k. c (f x) k ≡ Less) (map f xs) → AllByRecursion (λ l. d (g x) l ≡ Less) (map g xs)
all_less_as c d f g P same x [] px pxs h = tt
all_less_as c d f g P same x (y ∷ ys) px pxs h = (sym (same x y px pxs.0) ∙ h.0, all_less_as c d f g P same x ys px pxs.1 h.1)

-- what ascends by some keys does by others that stand in the same order
pub sorted_as : {K L X : Type 0} (c : K → K → Ordering) (d : L → L → Ordering) (f : X → K) (g : X → L) (P : X → Type 0) → ((x y : X) → P x → P y → c (f x) (f y) ≡ d (g x) (g y)) → (xs : List X) → AllByRecursion P xs
    → IsStrictlySortedBy c (map f xs) → IsStrictlySortedBy d (map g xs)
unfolding IsStrictlySortedBy
sorted_as c d f g P same [] p h = tt
sorted_as c d f g P same (x ∷ xs) p h = (all_less_as c d f g P same x xs p.0 p.1 h.0, sorted_as c d f g P same xs p.1 h.1)
