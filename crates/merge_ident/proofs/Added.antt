-- What one more grant, and several more, change in what is read from a list of grants.
use Rattle.std.proofs.Common.{◌≡◌, ℕ, ◌+◌, ◌<◌, ◌≤◌, Bool, true, false, cond, List, [], ◌∷◌, if◌then◌else◌, nat_le, max, find, count_by, Option, Some, None, IsSome, refl, ap, sym, ◌∙◌, arith}
use Rattle.std.specs.Option.{option_or}
use Rattle.std.proofs.lemmas.List.Sums.{sum_by-cons}
use Rattle.std.proofs.lemmas.Bool.Decides.{nat_tests}
use Rattle.merge_ident.specs.declared.grants.Grant.{Grant}
use Rattle.merge_ident.specs.Grants.{granted_to, is_numbered, greatest_end, AreNumbered, with_grant, with_grants}

-- a count over a first grant and the others
pub count_by-cons : (p : Grant → Bool) (x : Grant) (xs : List Grant) → count_by p (x ∷ xs) ≡ cond (p x) 1 0 + count_by p xs
count_by-cons p x xs = sum_by-cons (λ y. cond (p y) 1 0) x xs

count-by_test : (b : Bool) (p : Grant → Bool) (g x : Grant) (xs : List Grant) → count_by p (with_grant xs g) ≡ cond (p g) 1 0 + count_by p xs
    → count_by p (if b then x ∷ with_grant xs g else g ∷ x ∷ xs) ≡ cond (p g) 1 0 + count_by p (x ∷ xs)
count-by_test true p g x xs more = omega (arith, count_by-cons p x (with_grant xs g), count_by-cons p x xs, more)
count-by_test false p g x xs more = count_by-cons p g (x ∷ xs)

pub count_by-with_grant : (p : Grant → Bool) (g : Grant) (xs : List Grant) → count_by p (with_grant xs g) ≡ cond (p g) 1 0 + count_by p xs
count_by-with_grant p g [] = count_by-cons p g []
count_by-with_grant p g (x ∷ xs) = count-by_test (nat_le x.article g.article) p g x xs (count_by-with_grant p g xs)

pub count_by-with_grants : (p : Grant → Bool) (xs news : List Grant) → count_by p (with_grants xs news) ≡ count_by p xs + count_by p news
count_by-with_grants p xs [] = omega arith
count_by-with_grants p xs (g ∷ news) = omega (arith, count_by-with_grants p (with_grant xs g) news, count_by-with_grant p g xs, count_by-cons p g news)

greatest-by_test : (b : Bool) (article : ℕ) (g x : Grant) (xs : List Grant) → greatest_end article (with_grant xs g) ≡ greatest_end article (g ∷ xs)
    → greatest_end article (if b then x ∷ with_grant xs g else g ∷ x ∷ xs) ≡ greatest_end article (g ∷ x ∷ xs)
greatest-by_test true article g x xs more = grind (arith, nat_tests, more)
greatest-by_test false article g x xs more = refl

pub greatest_end-with_grant : (article : ℕ) (g : Grant) (xs : List Grant) → greatest_end article (with_grant xs g) ≡ greatest_end article (g ∷ xs)
greatest_end-with_grant article g [] = refl
greatest_end-with_grant article g (x ∷ xs) = greatest-by_test (nat_le x.article g.article) article g x xs (greatest_end-with_grant article g xs)

pub greatest_end-with_grants : (article : ℕ) (xs news : List Grant) → greatest_end article (with_grants xs news) ≡ max (greatest_end article xs) (greatest_end article news)
greatest_end-with_grants article xs [] = omega arith
greatest_end-with_grants article xs (g ∷ news) = grind (arith, nat_tests, greatest_end-with_grants article (with_grant xs g) news, greatest_end-with_grant article g xs)

-- one that is not sought changes no search
find-by_test : (b : Bool) (p : Grant → Bool) (g x : Grant) (xs : List Grant) → p g ≡ false → find p (with_grant xs g) ≡ find p xs
    → find p (if b then x ∷ with_grant xs g else g ∷ x ∷ xs) ≡ find p (x ∷ xs)
find-by_test true p g x xs other more = ap (cond (p x) (Some x)) more
find-by_test false p g x xs other more = rw other refl

pub find-with_other : (p : Grant → Bool) (g : Grant) (xs : List Grant) → p g ≡ false → find p (with_grant xs g) ≡ find p xs
find-with_other p g [] other = rw other refl
find-with_other p g (x ∷ xs) other = find-by_test (nat_le x.article g.article) p g x xs other (find-with_other p g xs other)

-- one that is sought, and stands alone, is found
found-by_test : (b : Bool) (p : Grant → Bool) (g x : Grant) (xs : List Grant) → p g ≡ true → p x ≡ false → find p (with_grant xs g) ≡ Some g
    → find p (if b then x ∷ with_grant xs g else g ∷ x ∷ xs) ≡ Some g
found-by_test true p g x xs sought other more = rw other more
found-by_test false p g x xs sought other more = rw sought refl

not_counted : (b : Bool) (n : ℕ) → cond b 1 0 + n ≡ 0 → b ≡ false
not_counted true n none = absurd (omega arith)
not_counted false n none = refl

find-with_sought : (p : Grant → Bool) (g : Grant) (xs : List Grant) → p g ≡ true → count_by p xs ≡ 0 → find p (with_grant xs g) ≡ Some g
find-with_sought p g [] sought none = rw sought refl
find-with_sought p g (x ∷ xs) sought none =
    let split = count_by-cons p x xs in
    found-by_test (nat_le x.article g.article) p g x xs sought (not_counted (p x) (count_by p xs) (omega arith)) (find-with_sought p g xs sought (omega arith))

-- none passes, and so none is found
pub find-none_counted : (p : Grant → Bool) (xs : List Grant) → count_by p xs ≡ 0 → find p xs ≡ None
find-none_counted p [] none = refl
find-none_counted p (x ∷ xs) none =
    let split = count_by-cons p x xs in
    rw (not_counted (p x) (count_by p xs) (omega arith)) (find-none_counted p xs (omega arith))

some-by_test : (b : Bool) (p : Grant → Bool) (x : Grant) (xs : List Grant) → (1 ≤ count_by p xs → IsSome (find p xs)) → 1 ≤ cond b 1 0 + count_by p xs → IsSome (cond b (Some x) (find p xs))
some-by_test true p x xs more some = refl
some-by_test false p x xs more some = more (omega arith)

-- one passes, and so one is found
pub find-some_counted : (p : Grant → Bool) (xs : List Grant) → 1 ≤ count_by p xs → IsSome (find p xs)
find-some_counted p [] some = absurd (omega arith)
find-some_counted p (x ∷ xs) some =
    let split = count_by-cons p x xs in some-by_test (p x) p x xs (find-some_counted p xs) (omega arith)

or_none : {X : Type 0} (o : Option X) → option_or o None ≡ o
or_none None = refl
or_none (Some x) = refl

found_with_others : (b : Bool) (p : Grant → Bool) (xs : List Grant) (g : Grant) (news : List Grant) → p g ≡ b → count_by p xs + (cond b 1 0 + count_by p news) ≤ 1
    → option_or (find p (with_grant xs g)) (find p news) ≡ option_or (find p xs) (cond b (Some g) (find p news))
found_with_others true p xs g news sought alone = rw (find-with_sought p g xs sought (omega arith), find-none_counted p xs (omega arith)) refl
found_with_others false p xs g news other alone = rw (find-with_other p g xs other) refl

-- at most one passes, and so it is found in the one list or else in the other
pub find-with_grants : (p : Grant → Bool) (xs news : List Grant) → count_by p (with_grants xs news) ≤ 1 → find p (with_grants xs news) ≡ option_or (find p xs) (find p news)
find-with_grants p xs [] alone = sym (or_none (find p xs))
find-with_grants p xs (g ∷ news) alone =
    let all = count_by-with_grants p xs (g ∷ news) in
    let first = count_by-cons p g news in
    find-with_grants p (with_grant xs g) news alone ∙ found_with_others (p g) p xs g news refl (omega arith)

-- a number from 1 to the count is one grant's
pub numbered_once : (grants : List Grant) (article site have : ℕ) → AreNumbered grants → have < granted_to article site grants → count_by (is_numbered article site (have + 1)) grants ≡ 1
numbered_once grants article site have numbered below = grind (arith, nat_tests, numbered article site (have + 1))

-- it is found in the one list or else in the other
pub numbered_in_either : (grants planned : List Grant) (article site have : ℕ) → AreNumbered (with_grants grants planned) → have < granted_to article site (with_grants grants planned)
    → find (is_numbered article site (have + 1)) (with_grants grants planned) ≡ option_or (find (is_numbered article site (have + 1)) grants) (find (is_numbered article site (have + 1)) planned)
numbered_in_either grants planned article site have numbered below =
    let once = numbered_once (with_grants grants planned) article site have numbered below in find-with_grants (is_numbered article site (have + 1)) grants planned (omega arith)

pub numbered_is_some : (grants planned : List Grant) (article site have : ℕ) → AreNumbered (with_grants grants planned) → have < granted_to article site (with_grants grants planned)
    → IsSome (option_or (find (is_numbered article site (have + 1)) grants) (find (is_numbered article site (have + 1)) planned))
numbered_is_some grants planned article site have numbered below =
    let once = numbered_once (with_grants grants planned) article site have numbered below in
    let some = find-some_counted (is_numbered article site (have + 1)) (with_grants grants planned) (omega arith) in
    rw (numbered_in_either grants planned article site have numbered below) at some
