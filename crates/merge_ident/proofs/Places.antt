-- The place behind the grants of an article.
use Rattle.std.proofs.Common.{◌≡◌, ℕ, ◌<◌, ◌≤◌, Bool, true, false, List, [], ◌∷◌, length, insert, nat_le, if◌then◌else◌, suc, zero, refl, ap, ◌∙◌, arith}
use Rattle.std.proofs.lemmas.Bool.Decides.{nat_tests}
use Rattle.std.proofs.lemmas.List.Elements.{All-from_recursion}
use Rattle.std.specs.List.Sorted.{IsPartitionedBy, IsPartitionPoint}
use Rattle.merge_ident.specs.declared.grants.Grant.{Grant}
use Rattle.merge_ident.specs.Grants.{with_grant, Precedes, AreInOrder}

-- whether a grant is of an article up to this one
abbrev pub is_up_to : ℕ → Grant → Bool
is_up_to article grant = nat_le grant.article article

-- the articles rise
pub partitioned-in_order : (article : ℕ) (xs : List Grant) → AreInOrder xs → IsPartitionedBy (is_up_to article) xs
partitioned-in_order article [] order i j d le in_xs passes = absurd (omega arith)
partitioned-in_order article (x ∷ xs) order zero zero d le in_xs passes = passes
partitioned-in_order article (x ∷ xs) order zero (suc j) d le in_xs passes =
    let in_rest : j < length xs = omega arith in
    let rises = (All-from_recursion (Precedes x) xs order.0 j d in_rest).by_article in
    grind (arith, nat_tests, rises)
partitioned-in_order article (x ∷ xs) order (suc i) zero d le in_xs passes = absurd (omega arith)
partitioned-in_order article (x ∷ xs) order (suc i) (suc j) d le in_xs passes = partitioned-in_order article xs order.1 i j d (omega arith) (omega arith) passes

insert-by_test : (b : Bool) (x g : Grant) (xs : List Grant) → b ≡ false → g ∷ x ∷ xs ≡ (if b then x ∷ with_grant xs g else g ∷ x ∷ xs)
insert-by_test b x g xs fails = rw fails refl

pass-by_test : (b : Bool) (x g : Grant) (xs : List Grant) → b ≡ true → x ∷ with_grant xs g ≡ (if b then x ∷ with_grant xs g else g ∷ x ∷ xs)
pass-by_test b x g xs passes = rw passes refl

-- there a new grant of the article stands behind the others
pub insert-at_point : (xs : List Grant) (i : ℕ) (g : Grant) → i ≤ length xs → IsPartitionPoint (λ y. is_up_to g.article y ≡ true) (λ y. is_up_to g.article y ≡ false) xs i → insert xs i g ≡ with_grant xs g
insert-at_point [] zero g le point = refl
insert-at_point [] (suc i) g le point = absurd (omega arith)
insert-at_point (x ∷ xs) zero g le point = insert-by_test (nat_le x.article g.article) x g xs (point.1 0 x (omega arith) (omega arith))
insert-at_point (x ∷ xs) (suc i) g le point =
    let rest = insert-at_point xs i g (omega arith) (λ k d low high. point.0 (suc k) d (omega arith) (omega arith), λ k d low high. point.1 (suc k) d (omega arith) (omega arith)) in
    ap (λ l. x ∷ l) rest ∙ pass-by_test (nat_le x.article g.article) x g xs (point.0 0 x (omega arith) (omega arith))
