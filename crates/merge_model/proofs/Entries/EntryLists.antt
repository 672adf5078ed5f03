-- Lists of what a step enters: what some or all of their members are, and what is found after entries are put.
use Rattle.std.specs.Prelude.{◌≡◌, ◌≤◌, ◌||◌, ℕ, List, [], ◌∷◌, Bool, true, false, Option, Some, None, IfSome, refl, cond, drop, filter_map, flat_map, length, take}
use Rattle.std.specs.BTreeMap.{insert_entry, is_at}
use Rattle.std.specs.Cmp.{IsTotalOrder}
use Rattle.std.specs.List.{AllByRecursion, cons_option, fold, list_any, zip}
use Rattle.std.specs.Map.{lookup}
use Rattle.std.specs.Ordering.{match_ordering}
use Rattle.std.specs.declared.cmp.Ordering.{Ordering}
use Rattle.std.specs.declared.cmp.Ordering.TheVariants.{Less, Equal, Greater}
use Rattle.std.proofs.Common.{arith, subst, sym, ap, ◌∙◌}
use Rattle.std.proofs.lemmas.List.Elements.{All-drop, All-from_recursion, All-take, recursion_from_All}
use Rattle.std.proofs.lemmas.List.Folds.{list_any-append}
use Rattle.merge_table.proofs.LookUps.{lookup-insert_entry}
use Rattle.merge_model.proofs.Lists.{all-append}

-- What all members are, and what some member is.

pub none-all : {X : Type 0} (test : X → Bool) (P : X → Type 0) (xs : List X) → list_any test xs ≡ false → AllByRecursion (λ (x : X). test x ≡ true → P x) xs
none-all test P [] none = tt
none-all test P (x ∷ xs) none =
    let here : test x ≡ false = grind (arith, none) in
    ((λ is. absurd (grind (arith, here, is))), none-all test P xs (grind (arith, none)))

pub all-flat : {X Y : Type 0} (P : Y → Type 0) (f : X → List Y) → ((x : X) → AllByRecursion P (f x)) → (xs : List X) → AllByRecursion P (flat_map f xs)
all-flat P f each [] = tt
all-flat P f each (x ∷ xs) = all-append P (f x) (flat_map f xs) (each x) (all-flat P f each xs)

all-cons : {Y : Type 0} (P : Y → Type 0) (o : Option Y) (ys : List Y) → IfSome o P → AllByRecursion P ys → AllByRecursion P (cons_option o ys)
all-cons P None ys here rest = rest
all-cons P (Some y) ys here rest = (here, rest)

pub all-given : {X Y : Type 0} (P : Y → Type 0) (h : X → Option Y) (xs : List X) → AllByRecursion (λ (x : X). IfSome (h x) P) xs → AllByRecursion P (filter_map h xs)
all-given P h [] all = tt
all-given P h (x ∷ xs) all = all-cons P (h x) (filter_map h xs) all.0 (all-given P h xs all.1)

pub or-either : (a b c d : Bool) → (a ≡ true → c ≡ true) → (b ≡ true → d ≡ true) → (a || b) ≡ true → (c || d) ≡ true
or-either true b c d first second is = ap (λ (x : Bool). x || d) (first refl)
or-either false b c d first second is = grind (arith, second is)

pub any-flat : {X Y : Type 0} (test : Y → Bool) (f : X → List Y) (is : X → Bool) → ((x : X) → is x ≡ true → list_any test (f x) ≡ true) → (xs : List X) → list_any is xs ≡ true → list_any test (flat_map f xs) ≡ true
any-flat test f is each [] some = absurd (grind (arith, some))
any-flat test f is each (x ∷ xs) some =
    list_any-append test (f x) (flat_map f xs) ∙ or-either (is x) (list_any is xs) (list_any test (f x)) (list_any test (flat_map f xs)) (each x) (any-flat test f is each xs) some

pub none-flat : {X Y : Type 0} (test : Y → Bool) (f : X → List Y) → ((x : X) → list_any test (f x) ≡ false) → (xs : List X) → list_any test (flat_map f xs) ≡ false
none-flat test f each [] = refl
none-flat test f each (x ∷ xs) = list_any-append test (f x) (flat_map f xs) ∙ ap (λ (b : Bool). b || list_any test (flat_map f xs)) (each x) ∙ none-flat test f each xs

abbrev pub passes : {Y : Type 0} → (Y → Bool) → Option Y → Bool
passes test None = false
passes test (Some y) = test y

any-cons : {Y : Type 0} (test : Y → Bool) (o : Option Y) (ys : List Y) → list_any test (cons_option o ys) ≡ (passes test o || list_any test ys)
any-cons test None ys = refl
any-cons test (Some y) ys = refl

pub any-given : {X Y : Type 0} (test : Y → Bool) (h : X → Option Y) (is : X → Bool) (xs : List X) → AllByRecursion (λ (x : X). is x ≡ true → passes test (h x) ≡ true) xs → list_any is xs ≡ true → list_any test (filter_map h xs) ≡ true
any-given test h is [] all some = absurd (grind (arith, some))
any-given test h is (x ∷ xs) all some =
    any-cons test (h x) (filter_map h xs) ∙ or-either (is x) (list_any is xs) (passes test (h x)) (list_any test (filter_map h xs)) all.0 (any-given test h is xs all.1) some

-- What gets a generation.

pub any-numbered : {X : Type 0} (test : X → Bool) (xs : List X) (generations : List ℕ) → length xs ≤ length generations → list_any (λ (e : X × ℕ). test e.0) (zip xs generations) ≡ list_any test xs
any-numbered test [] generations enough = refl
any-numbered test (x ∷ xs) [] enough = absurd (omega (arith, enough))
any-numbered test (x ∷ xs) (generation ∷ generations) enough = ap (λ (b : Bool). test x || b) (any-numbered test xs generations (omega (arith, enough)))

pub all-numbered : {X : Type 0} (P : X → Type 0) (Q : ℕ → Type 0) (xs : List X) (generations : List ℕ) → AllByRecursion P xs → AllByRecursion Q generations → AllByRecursion (λ (e : X × ℕ). P e.0 × Q e.1) (zip xs generations)
all-numbered P Q [] generations first second = tt
all-numbered P Q (x ∷ xs) [] first second = tt
all-numbered P Q (x ∷ xs) (generation ∷ generations) first second = ((first.0, second.0), all-numbered P Q xs generations first.1 second.1)

pub all-taken : {X : Type 0} (P : X → Type 0) (n : ℕ) (xs : List X) → AllByRecursion P xs → AllByRecursion P (take n xs)
all-taken P n xs all = recursion_from_All P (take n xs) (All-take P n xs (All-from_recursion P xs all))

pub all-dropped : {X : Type 0} (P : X → Type 0) (n : ℕ) (xs : List X) → AllByRecursion P xs → AllByRecursion P (drop n xs)
all-dropped P n xs all = recursion_from_All P (drop n xs) (All-drop P n xs (All-from_recursion P xs all))

-- What is found at a key after entries are put, one after the other.

put-head : {V : Type 0} (P : Option V → Type 0) (b : Bool) (v : V) (found : Option V) → (b ≡ true → P (Some v)) → (b ≡ false → P found) → P (cond b (Some v) found)
put-head P true v found first second = first refl
put-head P false v found first second = second refl

pub puts-hold : {K V X : Type 0} (cmp : K → K → Ordering) → IsTotalOrder cmp → (at : X → K) (of : X → V) (P : Option V → Type 0) (q : K) (test : X → Bool) → ((x : X) → is_at (cmp q) (at x) ≡ test x) → (xs : List X) (es : List (K × V))
    → AllByRecursion (λ (x : X). test x ≡ true → P (Some (of x))) xs → (list_any test xs ≡ false → P (lookup (is_at (cmp q)) es))
    → P (lookup (is_at (cmp q)) (fold (λ (others : List (K × V)) (x : X). insert_entry cmp others (at x) (of x)) es xs))
puts-hold cmp o at of P q test is [] es all before = before refl
puts-hold {V = V} cmp o at of P q test is (x ∷ xs) es all before =
    let put = lookup-insert_entry cmp o (at x) q (of x) es ∙ ap (λ (b : Bool). (let found : Option V = cond b (Some (of x)) (lookup (is_at (cmp q)) es) in found)) (is x) in
    puts-hold cmp o at of P q test is xs (insert_entry cmp es (at x) (of x)) all.1
    (λ none. subst P (sym put) (put-head P (test x) (of x) (lookup (is_at (cmp q)) es) all.0 (λ other. before (ap (λ (b : Bool). b || list_any test xs) other ∙ none))))

-- What holds of all entries holds of them with one more, put in its place.

put-test : {K X : Type 0} (P : K × X → Type 0) (found : Ordering) (k : K) (v : X) (e : K × X) (rest more : List (K × X)) → (found ≡ Equal → P (e.0, v)) → P (k, v) → P e → AllByRecursion P rest → AllByRecursion P more
    → AllByRecursion P (match_ordering found ((k, v) ∷ e ∷ rest) ((e.0, v) ∷ rest) (e ∷ more))
put-test P Less k v e rest more same new here all others = (new, (here, all))
put-test P Equal k v e rest more same new here all others = (same refl, all)
put-test P Greater k v e rest more same new here all others = (here, others)

pub all-put : {K X : Type 0} (P : K × X → Type 0) (cmp : K → K → Ordering) (k : K) (v : X) → ((q : K) → cmp k q ≡ Equal → P (q, v)) → P (k, v) → (es : List (K × X)) → AllByRecursion P es → AllByRecursion P (insert_entry cmp es k v)
all-put P cmp k v same new [] all = (new, tt)
all-put P cmp k v same new (e ∷ es) all = put-test P (cmp k e.0) k v e es (insert_entry cmp es k v) (same e.0) new all.0 all.1 (all-put P cmp k v same new es all.1)
