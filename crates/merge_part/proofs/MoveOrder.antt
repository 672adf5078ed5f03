-- The order of moves.
use Rattle.std.proofs.Common.{◌≡◌, ℕ, ◌+◌, get_or, is_lt, Bool, true, ◌&&◌, nat_eq, List, refl, sym, ap, ◌∙◌}
use Rattle.std.specs.Prelude.{◌↔◌}
use Rattle.std.specs.List.{Contains, dedup}
use Rattle.std.specs.List.Sorted.{IsStrictlySortedBy, IsSorted, IsPermutation}
use Rattle.std.specs.Cmp.{IsTotalOrder, IsEquivalence, then_total, on_total, nat_cmp_total, both_tied, unsigned_ties, and_equiv, on_equiv, nat_eq_equiv, Equal-is}
use Rattle.std.specs.Ordering.{eq_by_cmp, nat_cmp, ordering_then}
use Rattle.std.specs.declared.cmp.Ordering.{Ordering}
use Rattle.std.specs.declared.cmp.Ordering.TheVariants.{Less, Equal, Greater}
use Rattle.std.proofs.lemmas.List.Kept.{IsStrictlySortedBy-dedup, Contains-dedup, Contains-from_dedup}
use Rattle.std.proofs.lemmas.List.Sorted.{Contains-permutation, IsPermutation-sym}
use Rattle.std.proofs.lemmas.Map.Lookups.{exact_unsigned}
use Rattle.merge_part.specs.declared.change.Move.{Move}
use Rattle.merge_gens.specs.declared.moves.MoveKind.{MoveKind}
use Rattle.merge_gens.specs.declared.moves.MoveKind.TheVariants.{Entered, Left}
use Rattle.merge_part.specs.Moves.{move_cmp, kind_number}
use Rattle.merge_part.specs.contracts.change.MoveOrd.TheImpl as move_ord
use Rattle.merge_part.specs.contracts.change.MovePartialEq.TheImpl as move_eq

move_total : IsTotalOrder move_cmp
move_total =
    then_total (on_total (λ (m : Move). m.article) nat_cmp_total) (then_total (on_total (λ (m : Move). m.row.0) nat_cmp_total) (then_total (on_total (λ (m : Move). m.site.0) nat_cmp_total) (on_total (λ (m : Move). kind_number m.kind) nat_cmp_total)))

abbrev same_move : Move → Move → Bool
same_move a b = nat_eq a.article b.article && (nat_eq a.row.0 b.row.0 && (nat_eq a.site.0 b.site.0 && nat_eq (kind_number a.kind) (kind_number b.kind)))

same_move_equiv : IsEquivalence same_move
same_move_equiv =
    and_equiv (on_equiv (λ (m : Move). m.article) nat_eq_equiv) (and_equiv (on_equiv (λ (m : Move). m.row.0) nat_eq_equiv) (and_equiv (on_equiv (λ (m : Move). m.site.0) nat_eq_equiv) (on_equiv (λ (m : Move). kind_number m.kind) nat_eq_equiv)))

same_move_ties : (a b : Move) → same_move a b ≡ eq_by_cmp move_cmp a b
same_move_ties a b =
    both_tied _ _ (nat_cmp a.article b.article) _ (unsigned_ties a.article b.article)
    (both_tied _ _ (nat_cmp a.row.0 b.row.0) _ (unsigned_ties a.row.0 b.row.0)
    (both_tied _ _ (nat_cmp a.site.0 b.site.0) (nat_cmp (kind_number a.kind) (kind_number b.kind)) (unsigned_ties a.site.0 b.site.0) (unsigned_ties (kind_number a.kind) (kind_number b.kind))))

kind_exact : (a b : MoveKind) → kind_number a ≡ kind_number b → a ≡ b
kind_exact Entered Entered h = refl
kind_exact Entered Left h = absurd cc
kind_exact Left Entered h = absurd cc
kind_exact Left Left h = refl

then_equal : (p q : Ordering) → ordering_then p q ≡ Equal → (p ≡ Equal) × (q ≡ Equal)
then_equal Less q h = absurd cc
then_equal Equal q h = (refl, h)
then_equal Greater q h = absurd cc

move_exact : (a b : Move) → move_cmp a b ≡ Equal → a ≡ b
move_exact a b tied =
    let first = then_equal (nat_cmp a.article b.article) _ tied in
    let second = then_equal (nat_cmp a.row.0 b.row.0) _ first.1 in
    let third = then_equal (nat_cmp a.site.0 b.site.0) _ second.1 in
    let by_article : ℕ → Move = λ n. record { article = n; row = a.row; site = a.site; kind = a.kind } in
    let by_row : ℕ → Move = λ n. record { article = b.article; row = record { 0 = n }; site = a.site; kind = a.kind } in
    let by_site : ℕ → Move = λ n. record { article = b.article; row = b.row; site = record { 0 = n }; kind = a.kind } in
    let by_kind : MoveKind → Move = λ k. record { article = b.article; row = b.row; site = b.site; kind = k } in
    ap by_article (exact_unsigned a.article b.article first.0)
    ∙ ap by_row (exact_unsigned a.row.0 b.row.0 second.0)
    ∙ ap by_site (exact_unsigned a.site.0 b.site.0 third.0)
    ∙ ap by_kind (kind_exact a.kind b.kind (exact_unsigned (kind_number a.kind) (kind_number b.kind) third.1))

same_move_exact : (a b : Move) → same_move a b ≡ true → a ≡ b
same_move_exact a b same = move_exact a b ((Equal-is (move_cmp a b)).0 (sym (same_move_ties a b) ∙ same))

-- the order and the test of the program are these
cmp_at : (article row site article' row' site' : ℕ) (k l : MoveKind) → move_ord.ghosts.cmp (record { article = article; row = record { 0 = row }; site = record { 0 = site }; kind = k }) (record { article = article'; row = record { 0 = row' }; site = record { 0 = site' }; kind = l })
    ≡ move_cmp (record { article = article; row = record { 0 = row }; site = record { 0 = site }; kind = k }) (record { article = article'; row = record { 0 = row' }; site = record { 0 = site' }; kind = l })
cmp_at article row site article' row' site' Entered Entered = refl
cmp_at article row site article' row' site' Entered Left = refl
cmp_at article row site article' row' site' Left Entered = refl
cmp_at article row site article' row' site' Left Left = refl

pub cmp_is : (a b : Move) → move_ord.ghosts.cmp a b ≡ move_cmp a b
cmp_is a b = cmp_at a.article a.row.0 a.site.0 b.article b.row.0 b.site.0 a.kind b.kind

eq_at : (article row site article' row' site' : ℕ) (k l : MoveKind) → move_eq.ghosts.eq (record { article = article; row = record { 0 = row }; site = record { 0 = site }; kind = k }) (record { article = article'; row = record { 0 = row' }; site = record { 0 = site' }; kind = l })
    ≡ same_move (record { article = article; row = record { 0 = row }; site = record { 0 = site }; kind = k }) (record { article = article'; row = record { 0 = row' }; site = record { 0 = site' }; kind = l })
eq_at article row site article' row' site' Entered Entered = refl
eq_at article row site article' row' site' Entered Left = refl
eq_at article row site article' row' site' Left Entered = refl
eq_at article row site article' row' site' Left Left = refl

pub eq_is : (a b : Move) → move_eq.ghosts.eq a b ≡ same_move a b
eq_is a b = eq_at a.article a.row.0 a.site.0 b.article b.row.0 b.site.0 a.kind b.kind

pub sorted_by_ours : (xs : List Move) → IsSorted move_ord.ghosts.cmp xs → IsSorted move_cmp xs
sorted_by_ours xs sorted = λ k d low high. ap is_lt (sym (cmp_is (get_or xs (k + 1) d) (get_or xs k d))) ∙ sorted k d low high

abbrev program_eq : Move → Move → Bool
program_eq = move_eq.ghosts.eq

program_ties : (a b : Move) → program_eq a b ≡ eq_by_cmp move_cmp a b
program_ties a b = eq_is a b ∙ same_move_ties a b

program_exact : (a b : Move) → program_eq a b ≡ true → a ≡ b
program_exact a b same = same_move_exact a b (sym (eq_is a b) ∙ same)

program_equiv : IsEquivalence program_eq
program_equiv = record {
  refl = λ x. eq_is x x ∙ same_move_equiv.refl x;
  symm = λ x y. eq_is x y ∙ same_move_equiv.symm x y ∙ sym (eq_is y x);
  congr = λ x y z h. eq_is x z ∙ same_move_equiv.congr x y z (sym (eq_is x y) ∙ h) ∙ sym (eq_is y z);
}

-- what a sort and a removal of repeats leave
pub ascending_distinct : (xs : List Move) → IsSorted move_ord.ghosts.cmp xs → IsStrictlySortedBy move_cmp (dedup program_eq xs)
ascending_distinct xs sorted = IsStrictlySortedBy-dedup move_total program_ties xs (sorted_by_ours xs sorted)

pub same_distinct : (xs ys : List Move) → IsPermutation xs ys → (one : Move) → Contains (dedup program_eq ys) one ↔ Contains xs one
same_distinct xs ys moved one = (
  λ h. Contains-permutation ys xs one (IsPermutation-sym xs ys moved) (Contains-from_dedup program_eq ys one h),
  λ h. Contains-dedup program_equiv program_exact ys one (Contains-permutation xs ys one moved h),
)
