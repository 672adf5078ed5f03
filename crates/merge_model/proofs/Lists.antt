-- What holds of each element of a list, of some element, of what a filter leaves, and of two lists side by side.
-- The room holds tests, and what is found in lists of rows, sites and letters.
pub mod Tests
pub mod Finding
pub mod KeyLookUps
pub mod RowsFound
pub mod KeyLists
pub mod PlaceLookUps
pub mod Places
pub mod SitesInOrder
use Rattle.std.specs.Prelude.{◌≡◌, ◌++◌, ◌||◌, List, [], ◌∷◌, Bool, true, false, Option, Some, None, refl, cond, filter, filter_map, map, option_map}
use Rattle.std.specs.List.{AllByRecursion, AllZip, cons_option, list_any}
use Rattle.std.proofs.Common.{arith, ap, ◌∙◌}
use Rattle.merge_model.proofs.Lists.Finding.{all-weaker}
use Rattle.merge_model.proofs.Lists.Tests.{either, or-onward, or-second}

-- Of each element.

pub all-of : {X : Type 0} (P : X → Type 0) → ((x : X) → P x) → (xs : List X) → AllByRecursion P xs
all-of P each [] = tt
all-of P each (x ∷ xs) = (each x, all-of P each xs)

pub all-both : {X : Type 0} (P Q R : X → Type 0) → ((x : X) → P x → Q x → R x) → (xs : List X) → AllByRecursion P xs → AllByRecursion Q xs → AllByRecursion R xs
all-both P Q R both [] one other = tt
all-both P Q R both (x ∷ xs) one other = (both x one.0 other.0, all-both P Q R both xs one.1 other.1)

pub all-three : {X : Type 0} (P Q R S : X → Type 0) → ((x : X) → P x → Q x → R x → S x) → (xs : List X) → AllByRecursion P xs → AllByRecursion Q xs → AllByRecursion R xs → AllByRecursion S xs
all-three P Q R S each [] one two three = tt
all-three P Q R S each (x ∷ xs) one two three = (each x one.0 two.0 three.0, all-three P Q R S each xs one.1 two.1 three.1)

pub all-append : {X : Type 0} (P : X → Type 0) (xs ys : List X) → AllByRecursion P xs → AllByRecursion P ys → AllByRecursion P (xs ++ ys)
all-append P [] ys first second = second
all-append P (x ∷ xs) ys first second = (first.0, all-append P xs ys first.1 second)

pub all-unit : {X : Type 0} (xs : List X) → AllByRecursion (λ (x : X). Unit {0}) xs
all-unit xs = all-of (λ x. Unit {0}) (λ x. tt) xs

pub all-every : {K X : Type 0} (P : K → X → Type 0) (xs : List X) → ((k : K) → AllByRecursion (P k) xs) → AllByRecursion (λ (x : X). (k : K) → P k x) xs
all-every P [] all = tt
all-every P (x ∷ xs) all = (λ k. (all k).0, all-every P xs (λ k. (all k).1))

-- Of what is made of each element, or of some.

abbrev pub OfSome : {Y : Type 0} → (Y → Type 0) → Option Y → Type 0
OfSome Q None = Unit {0}
OfSome Q (Some y) = Q y

pub some-map : {X Y : Type 0} (P : X → Type 0) (Q : Y → Type 0) (f : X → Y) → ((x : X) → P x → Q (f x)) → (found : Option X) → OfSome P found → OfSome Q (option_map f found)
some-map P Q f each None all = tt
some-map P Q f each (Some x) all = each x all

pub all-map : {X Y : Type 0} (P : X → Type 0) (Q : Y → Type 0) (f : X → Y) → ((x : X) → P x → Q (f x)) → (xs : List X) → AllByRecursion P xs → AllByRecursion Q (map f xs)
all-map P Q f each [] all = tt
all-map P Q f each (x ∷ xs) all = (each x all.0, all-map P Q f each xs all.1)

some-step : {Y : Type 0} (Q : Y → Type 0) (found : Option Y) (rest : List Y) → OfSome Q found → AllByRecursion Q rest → AllByRecursion Q (cons_option found rest)
some-step Q None rest first all = all
some-step Q (Some y) rest first all = (first, all)

pub all-filter_map : {X Y : Type 0} (P : X → Type 0) (Q : Y → Type 0) (f : X → Option Y) → ((x : X) → P x → OfSome Q (f x)) → (xs : List X) → AllByRecursion P xs → AllByRecursion Q (filter_map f xs)
all-filter_map P Q f each [] all = tt
all-filter_map P Q f each (x ∷ xs) all = some-step Q (f x) (filter_map f xs) (each x all.0) (all-filter_map P Q f each xs all.1)

-- Of the elements that a filter leaves, which pass its test.

kept-head : {X : Type 0} (P : X → Type 0) (b : Bool) (x : X) (kept : List X) → (b ≡ true → P x) → AllByRecursion P kept → AllByRecursion P (cond b (x ∷ kept) kept)
kept-head P true x kept here all = (here refl, all)
kept-head P false x kept here all = all

pub all-kept : {X : Type 0} (P : X → Type 0) (keep : X → Bool) (xs : List X) → AllByRecursion (λ (x : X). keep x ≡ true → P x) xs → AllByRecursion P (filter keep xs)
all-kept P keep [] all = tt
all-kept P keep (x ∷ xs) all = kept-head P (keep x) x (filter keep xs) all.0 (all-kept P keep xs all.1)

pub all-filter : {X : Type 0} (P : X → Type 0) (keep : X → Bool) (xs : List X) → AllByRecursion P xs → AllByRecursion P (filter keep xs)
all-filter {X = X} P keep xs all = all-kept P keep xs (all-weaker P (λ (x : X). keep x ≡ true → P x) (λ x here passes. here) xs all)

passing-head : {X : Type 0} (P : X → Type 0) (b : Bool) (x : X) (kept : List X) → AllByRecursion P (cond b (x ∷ kept) kept) → (b ≡ true → P x) × AllByRecursion P kept
passing-head P true x kept all = (λ is. all.0, all.1)
passing-head P false x kept all = (λ is. absurd cc, all)

pub all-passing : {X : Type 0} (P : X → Type 0) (keep : X → Bool) (xs : List X) → AllByRecursion P (filter keep xs) → AllByRecursion (λ (x : X). keep x ≡ true → P x) xs
all-passing P keep [] all = tt
all-passing P keep (x ∷ xs) all = let both = passing-head P (keep x) x (filter keep xs) all in (both.0, all-passing P keep xs both.1)

-- Of some element.

-- each element that passes a test is some element that does
pub each-found : {X : Type 0} (xs : List X) → AllByRecursion (λ (x : X). (test : X → Bool) → test x ≡ true → list_any test xs ≡ true) xs
each-found [] = tt
each-found {X = X} (x ∷ xs) = (
  λ test is. grind (arith, is),
  all-weaker (λ (y : X). (test : X → Bool) → test y ≡ true → list_any test xs ≡ true) (λ (y : X). (test : X → Bool) → test y ≡ true → list_any test (x ∷ xs) ≡ true) (λ y found test is. or-second (test x) (list_any test xs) (found test is)) xs (each-found xs),
)

pub any-same : {X : Type 0} (test other : X → Bool) → ((x : X) → test x ≡ other x) → (xs : List X) → list_any test xs ≡ list_any other xs
any-same test other same [] = refl
any-same test other same (x ∷ xs) = ap (λ (b : Bool). b || list_any test xs) (same x) ∙ ap (λ (b : Bool). other x || b) (any-same test other same xs)

pub any-mono : {X : Type 0} (test more : X → Bool) (xs : List X) → ((x : X) → test x ≡ true → more x ≡ true) → list_any test xs ≡ true → list_any more xs ≡ true
any-mono test more [] grows is = is
any-mono test more (x ∷ xs) grows is = elim (test x) as (λ (b : Bool). test x ≡ b → (more x || list_any more xs) ≡ true) [
  | true ↦ (λ e. (let now = grows x e in grind (arith, now)))
  | false ↦ (λ e. (let rest = any-mono test more xs grows (grind (arith, e, is)) in grind (arith, rest)))
] refl

-- what each element that passes a test leads to
pub any-leads : {X : Type 0} (test : X → Bool) (C : Type 0) (xs : List X) → AllByRecursion (λ (x : X). test x ≡ true → C) xs → list_any test xs ≡ true → C
any-leads test C [] all is = absurd (grind (arith, is))
any-leads test C (x ∷ xs) all is = either C (test x) (list_any test xs) is all.0 (λ more. any-leads test C xs all.1 more)

-- in what a filter leaves
pub any-first : {X : Type 0} (test : X → Bool) (b : Bool) (x : X) (xs : List X) → b ≡ true → test x ≡ true → list_any test (cond b (x ∷ xs) xs) ≡ true
any-first test true x xs e is = grind (arith, is)
any-first test false x xs e is = absurd cc

pub any-behind : {X : Type 0} (test : X → Bool) (b : Bool) (x : X) (xs : List X) → list_any test xs ≡ true → list_any test (cond b (x ∷ xs) xs) ≡ true
any-behind test true x xs is = grind (arith, is)
any-behind test false x xs is = is

pub any-filtered : {X : Type 0} (test keep : X → Bool) (xs : List X) → list_any test (filter keep xs) ≡ true → list_any test xs ≡ true
any-filtered test keep [] is = is
any-filtered {X = X} test keep (x ∷ xs) is = elim (keep x) as (λ (b : Bool). (let kept : List X = cond b (x ∷ filter keep xs) (filter keep xs) in list_any test kept) ≡ true → list_any test (x ∷ xs) ≡ true) [
  | true ↦ (λ e. or-onward (test x) (list_any test (filter keep xs)) (list_any test xs) (any-filtered test keep xs) e)
  | false ↦ (λ e. or-second (test x) (list_any test xs) (any-filtered test keep xs e))
] is

pub any-among : {X : Type 0} (test keep : X → Bool) (C : Type 0) (xs : List X) → AllByRecursion (λ (x : X). test x ≡ true → C) xs → list_any test (filter keep xs) ≡ true → C
any-among test keep C xs all some = any-leads test C xs all (any-filtered test keep xs some)

-- Of two lists side by side.

pub zip-more : {X Y : Type 0} (R : X → Y → Type 0) (xs : List X) (ys : List Y) (x : X) (y : Y) → AllZip R xs ys → R x y → AllZip R (xs ++ x ∷ []) (ys ++ y ∷ [])
zip-more R [] [] x y all new = (new, tt)
zip-more R [] (z ∷ ys) x y all new = absurd all
zip-more R (z ∷ xs) [] x y all new = absurd all
zip-more R (a ∷ xs) (b ∷ ys) x y all new = (all.0, zip-more R xs ys x y all.1 new)

pub zip-weaker : {X Y : Type 0} (R S : X → Y → Type 0) → ((x : X) (y : Y) → R x y → S x y) → (xs : List X) (ys : List Y) → AllZip R xs ys → AllZip S xs ys
zip-weaker R S weaker [] [] all = tt
zip-weaker R S weaker [] (y ∷ ys) all = absurd all
zip-weaker R S weaker (x ∷ xs) [] all = absurd all
zip-weaker R S weaker (x ∷ xs) (y ∷ ys) all = (weaker x y all.0, zip-weaker R S weaker xs ys all.1)

-- and under what is said of the first list alone, or of the second
pub zip-first : {X Y : Type 0} (F : X → Type 0) (R S : X → Y → Type 0) → ((x : X) (y : Y) → F x → R x y → S x y) → (xs : List X) (ys : List Y) → AllByRecursion F xs → AllZip R xs ys → AllZip S xs ys
zip-first F R S each [] [] fits all = tt
zip-first F R S each [] (y ∷ ys) fits all = absurd all
zip-first F R S each (x ∷ xs) [] fits all = absurd all
zip-first F R S each (x ∷ xs) (y ∷ ys) fits all = (each x y fits.0 all.0, zip-first F R S each xs ys fits.1 all.1)

pub zip-second : {X Y : Type 0} (R T : X → Y → Type 0) (S : Y → Type 0) → ((x : X) (y : Y) → S y → R x y → T x y) → (xs : List X) (ys : List Y) → AllByRecursion S ys → AllZip R xs ys → AllZip T xs ys
zip-second R T S each [] [] all zip = tt
zip-second R T S each [] (y ∷ ys) all zip = absurd zip
zip-second R T S each (x ∷ xs) [] all zip = absurd zip
zip-second R T S each (x ∷ xs) (y ∷ ys) all zip = (each x y all.0 zip.0, zip-second R T S each xs ys all.1 zip.1)
