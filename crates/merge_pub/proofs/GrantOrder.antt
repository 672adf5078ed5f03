-- Grants in order are in no other one.
use Rattle.std.specs.Prelude.{◌≡◌, zero, suc, List, [], ◌∷◌, Contains, refl}
use Rattle.std.specs.List.{AllByRecursion}
use Rattle.std.specs.List.Sorted.{IsPermutation}
use Rattle.std.proofs.Common.{ap, arith, subst, sym, ◌∙◌}
use Rattle.std.proofs.lemmas.Int.{ints}
use Rattle.std.proofs.lemmas.List.Elements.{recursion_from_All}
use Rattle.std.proofs.lemmas.List.Sorted.{Contains-permutation, IsPermutation-sym}
use Rattle.merge_ident.specs.Grants.{AreGrants, AreInOrder, IsGranted, Precedes}
use Rattle.merge_ident.specs.declared.grants.Grant.{Grant}

split : {X : Type 0} (y : X) (ys : List X) (z : X) (C : Type 0) → Contains (y ∷ ys) z → (y ≡ z → C) → (Contains ys z → C) → C
split y ys z C (zero, less, is) first later = first is
split y ys z C (suc k, less, is) first later = later (k, omega (arith, less), is)

at-first : {X : Type 0} (x : X) (xs : List X) → Contains (x ∷ xs) x
at-first x xs = (0, omega arith, refl)

behind : {X : Type 0} (x : X) (xs : List X) (z : X) → Contains xs z → Contains (x ∷ xs) z
behind x xs z (k, less, is) = (suc k, omega (arith, less), is)

none-in : {X : Type 0} (z : X) → Contains [] z → ⊥
none-in z (k, less, is) = absurd (omega (arith, less))

contained : {X : Type 0} (P : X → Type 0) (xs : List X) → AllByRecursion P xs → (z : X) → Contains xs z → P z
contained P [] all z there = absurd (none-in z there)
contained P (x ∷ xs) all z there = split x xs z (P z) there (λ same. subst P same all.0) (λ later. contained P xs all.1 z later)

not-both : (x y : Grant) → IsGranted x → IsGranted y → Precedes x y → Precedes y x → ⊥
not-both x y gx gy one other =
    let up = one.by_article in
    let down = other.by_article in
    let same : x.article ≡ y.article = omega (arith, up, down) in
    let first = one.behind same in
    let second = other.behind (sym same) in
    let some_x = gx.some in
    let some_y = gy.some in
    omega (arith, ints, first, second, some_x, some_y)

same-order : (xs ys : List Grant) → ((z : Grant) → Contains xs z → IsGranted z) → AreInOrder xs → AreInOrder ys → ((z : Grant) → Contains xs z → Contains ys z) → ((z : Grant) → Contains ys z → Contains xs z) → xs ≡ ys
same-order [] [] granted one other into back = refl
same-order [] (y ∷ ys) granted one other into back = absurd (none-in y (back y (at-first y ys)))
same-order (x ∷ xs) [] granted one other into back = absurd (none-in x (into x (at-first x xs)))
same-order (x ∷ xs) (y ∷ ys) granted one other into back =
    let gx : IsGranted x = granted x (at-first x xs) in
    let gy : IsGranted y = granted y (back y (at-first y ys)) in
    let head : x ≡ y = split y ys x (x ≡ y) (into x (at-first x xs)) (λ same. sym same)
    (λ later. split x xs y (x ≡ y) (back y (at-first y ys)) (λ same. same) (λ after. absurd (not-both x y gx gy (contained (Precedes x) xs one.0 y after) (contained (Precedes y) ys other.0 x later)))) in
    let never : (z : Grant) → Precedes x z → x ≡ z → ⊥ = λ z before same. (let itself : Precedes x x = subst (λ (g : Grant). Precedes x g) (sym same) before in not-both x x gx gx itself itself) in
    let rest : xs ≡ ys = same-order xs ys (λ z there. granted z (behind x xs z there)) one.1 other.1
    (λ z there. split y ys z (Contains ys z) (into z (behind x xs z there)) (λ same. absurd (never z (contained (Precedes x) xs one.0 z there) (head ∙ same))) (λ later. later))
    (λ z there. split x xs z (Contains xs z) (back z (behind y ys z there)) (λ same. absurd (never z (subst (λ (g : Grant). Precedes g z) (sym head) (contained (Precedes y) ys other.0 z there)) same)) (λ later. later)) in
    ap (λ (g : Grant). g ∷ xs) head ∙ ap (λ (gs : List Grant). y ∷ gs) rest

pub restored-grants : (kept grants : List Grant) → AreGrants kept → AreInOrder kept → IsPermutation kept grants → AreInOrder grants → grants ≡ kept
restored-grants kept grants are in_order permutation ordered =
    sym (same-order kept grants (λ z there. contained IsGranted kept (recursion_from_All IsGranted kept are.ranges) z there) in_order ordered
    (λ z there. Contains-permutation kept grants z permutation there) (λ z there. Contains-permutation grants kept z (IsPermutation-sym kept grants permutation) there))
