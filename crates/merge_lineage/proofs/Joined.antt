-- Joins, by the numbers of the sites.
use Rattle.std.proofs.Common.{◌≡◌, ℕ, suc, ◌+◌, false, List, [], ◌∷◌, Some, None, Option, refl, sym, ap, ◌∙◌, arith}
use Rattle.std.proofs.lemmas.Bool.Decides.{nat_tests}
use Rattle.merge_types.specs.declared.Dot.{Dot}
use Rattle.merge_lineage.specs.Lineage.{IsAscending, number_at, knows, greater, Joins, Advances, with_dot, joined}
use Rattle.merge_lineage.proofs.Rising.{RisesFrom, rises_from_ascending, ascending_with_dot}
use Rattle.merge_lineage.proofs.Numbers.{greater-none, number_below, number-with_dot}

-- lists that rise and have the same numbers are the same
same_list : (low : ℕ) (a b : List Dot) → RisesFrom low a → RisesFrom low b → ((site : ℕ) → number_at a site ≡ number_at b site) → a ≡ b
same_list low [] [] rises_a rises_b same = refl
same_list low [] (y ∷ ys) rises_a rises_b same = absurd (grind (arith, nat_tests, same y.site.0))
same_list low (x ∷ xs) [] rises_a rises_b same = absurd (grind (arith, nat_tests, same x.site.0))
same_list low (x ∷ xs) (y ∷ ys) rises_a rises_b same =
    let at_x = same x.site.0 in
    let at_y = same y.site.0 in
    let x_alone = number_below (x.site.0 + 1) xs rises_a.1 in
    let y_alone = number_below (y.site.0 + 1) ys rises_b.1 in
    let sites : x.site.0 ≡ y.site.0 = grind (arith, nat_tests, x_alone y.site.0, y_alone x.site.0) in
    let heads : x ≡ y = grind (arith, nat_tests) in
    let rises : RisesFrom (x.site.0 + 1) ys = rw sites rises_b.1 in
    let tails = same_list (x.site.0 + 1) xs ys rises_a.1 rises (λ site. grind (arith, nat_tests, same site, x_alone site, y_alone site)) in
    cc

pub numbers_determine : (a b : List Dot) → IsAscending a → IsAscending b → ((site : ℕ) → number_at a site ≡ number_at b site) → a ≡ b
numbers_determine a b ascending_a ascending_b same = same_list 0 a b (rises_from_ascending a ascending_a) (rises_from_ascending b ascending_b) same

-- the tail of ascending dots ascends, and lacks the first one's site
pub ascending_tail : (x : Dot) (xs : List Dot) → IsAscending (x ∷ xs) → IsAscending xs
ascending_tail x xs ascending i j d lt in_range = ascending (suc i) (suc j) d (omega arith) (omega arith)

pub tail_lacks : (x : Dot) (xs : List Dot) → IsAscending (x ∷ xs) → number_at xs x.site.0 ≡ None
tail_lacks x xs ascending = number_below (x.site.0 + 1) xs (rises_from_ascending (x ∷ xs) ascending).1 x.site.0 (omega arith)

pub greater-comm : (m n : Option ℕ) → greater m n ≡ greater n m
greater-comm None None = refl
greater-comm None (Some n) = refl
greater-comm (Some m) None = refl
greater-comm (Some m) (Some n) = grind arith

pub greater-assoc : (m n o : Option ℕ) → greater (greater m n) o ≡ greater m (greater n o)
greater-assoc None n o = refl
greater-assoc (Some m) None o = refl
greater-assoc (Some m) (Some n) None = refl
greater-assoc (Some m) (Some n) (Some o) = grind arith

pub greater-same : (m : Option ℕ) → greater m m ≡ m
greater-same None = refl
greater-same (Some m) = grind arith

-- the first dot's number, and those of the rest
number-cons : (x : Dot) (xs : List Dot) → IsAscending (x ∷ xs) → (site : ℕ) → number_at (x ∷ xs) site ≡ greater (number_at (x ∷ []) site) (number_at xs site)
number-cons x xs ascending site = grind (arith, nat_tests, tail_lacks x xs ascending)

pub ascending-joined : (a b : List Dot) → IsAscending a → IsAscending b → IsAscending (joined a b)
ascending-joined [] b ascending_a ascending_b = ascending_b
ascending-joined (x ∷ xs) b ascending_a ascending_b = ascending_with_dot (joined xs b) (ascending-joined xs b (ascending_tail x xs ascending_a) ascending_b) x

pub joins-joined : (a b : List Dot) → IsAscending a → IsAscending b → Joins a b (joined a b)
joins-joined [] b ascending_a ascending_b site = refl
joins-joined (x ∷ xs) b ascending_a ascending_b site =
    let tail = ascending_tail x xs ascending_a in
    let here = number_at (x ∷ []) site in
    number-with_dot (joined xs b) (ascending-joined xs b tail ascending_b) x site
    ∙ ap (λ n. greater n here) (joins-joined xs b tail ascending_b site)
    ∙ greater-comm (greater (number_at xs site) (number_at b site)) here
    ∙ sym (greater-assoc here (number_at xs site) (number_at b site))
    ∙ ap (λ n. greater n (number_at b site)) (sym (number-cons x xs ascending_a site))

pub join_is_one : (a b l : List Dot) → IsAscending a → IsAscending b → IsAscending l → Joins a b l → l ≡ joined a b
join_is_one a b l ascending_a ascending_b ascending_l joins =
    numbers_determine l (joined a b) ascending_l (ascending-joined a b ascending_a ascending_b) (λ site. joins site ∙ sym (joins-joined a b ascending_a ascending_b site))

-- a dot that is not known has the greater number
pub advances_with_dot : (l : List Dot) → IsAscending l → (d : Dot) → knows l d ≡ false → Advances l d (with_dot d l)
advances_with_dot l ascending d unknown site = grind (arith, nat_tests, number-with_dot l ascending d site, greater-none (number_at l site))
