-- Grants that are put by article and begin: the members of a list that stands so give this list, put in whatever order.
use Rattle.std.proofs.Common.{◌≡◌, ◌∙◌, ℕ, suc, ◌+◌, ◌==◌, ◌≤ℤ◌, Bool, true, false, cond, not, List, [], ◌∷◌, ◌++◌, take, drop, ◌⊎◌, inl, inr, refl, sym, ap, subst, arith}
use Rattle.std.specs.List.{All, AllByRecursion}
use Rattle.std.proofs.lemmas.Bool.{eqb-true}
use Rattle.std.proofs.lemmas.Bool.Decides.{nat_tests}
use Rattle.std.proofs.lemmas.Int.{ints}
use Rattle.merge_ident.specs.declared.grants.Grant.{Grant}
use Rattle.merge_ident.specs.Grants.{AreInOrder, IsGranted, Precedes}
use Rattle.merge_keeper.specs.Start.{begins_before, insert_by_begin, place_by_begin}

-- ---- one more

abbrev at_place : ℕ → Grant → List Grant → List Grant
at_place k new gs = take k gs ++ new ∷ drop k gs

next_place : (n : ℕ) (new x : Grant) (xs : List Grant) → at_place (1 + n) new (x ∷ xs) ≡ x ∷ at_place n new xs
next_place n new x xs = let more : 1 + n ≡ suc n = omega arith in ap (λ (k : ℕ). at_place k new (x ∷ xs)) more

place_step : (n : ℕ) (new x : Grant) (xs : List Grant) (b : Bool) → at_place (cond (not b) (1 + n) 0) new (x ∷ xs) ≡ cond b (new ∷ x ∷ xs) (x ∷ at_place n new xs)
place_step n new x xs true = refl
place_step n new x xs false = next_place n new x xs

-- before the first one that it begins before
pub put_step : (new x : Grant) (xs : List Grant) (b : Bool) → begins_before new x ≡ b → insert_by_begin (x ∷ xs) new ≡ cond b (new ∷ x ∷ xs) (x ∷ insert_by_begin xs new)
put_step new x xs b e =
    ap (λ (t : Bool). at_place (cond (not t) (1 + place_by_begin xs new) 0) new (x ∷ xs)) e ∙ place_step (place_by_begin xs new) new x xs b

not_after : (a b : Grant) → begins_before a b ≡ true → begins_before b a ≡ false
not_after a b h = grind (arith, ints, nat_tests, h)

pub before_too : (a b x : Grant) → begins_before a b ≡ true → begins_before b x ≡ true → begins_before a x ≡ true
before_too a b x h g = grind (arith, ints, nat_tests, h, g)

-- two of which one begins before the other may be put in either order
module _ (a b : Grant) (h : begins_before a b ≡ true) where
  abbrev Swaps : List Grant → Type 0
  Swaps gs = insert_by_begin (insert_by_begin gs a) b ≡ insert_by_begin (insert_by_begin gs b) a

  swap_step : (x : Grant) (xs : List Grant) → Swaps xs → (p q : Bool) → begins_before a x ≡ p → begins_before b x ≡ q → Swaps (x ∷ xs)
  swap_step x xs ih true true p q =
      ap (λ (l : List Grant). insert_by_begin l b) (put_step a x xs true p)
      ∙ put_step b a (x ∷ xs) false (not_after a b h)
      ∙ ap (λ (l : List Grant). a ∷ l) (put_step b x xs true q)
      ∙ sym (ap (λ (l : List Grant). insert_by_begin l a) (put_step b x xs true q) ∙ put_step a b (x ∷ xs) true h)
  swap_step x xs ih true false p q =
      ap (λ (l : List Grant). insert_by_begin l b) (put_step a x xs true p)
      ∙ put_step b a (x ∷ xs) false (not_after a b h)
      ∙ ap (λ (l : List Grant). a ∷ l) (put_step b x xs false q)
      ∙ sym (ap (λ (l : List Grant). insert_by_begin l a) (put_step b x xs false q) ∙ put_step a x (insert_by_begin xs b) true p)
  swap_step x xs ih false true p q = let no : false ≡ true = sym p ∙ before_too a b x h q in absurd cc
  swap_step x xs ih false false p q =
      ap (λ (l : List Grant). insert_by_begin l b) (put_step a x xs false p)
      ∙ put_step b x (insert_by_begin xs a) false q
      ∙ ap (λ (l : List Grant). x ∷ l) ih
      ∙ sym (ap (λ (l : List Grant). insert_by_begin l a) (put_step b x xs false q) ∙ put_step a x (insert_by_begin xs b) false p)

  swaps : (gs : List Grant) → Swaps gs
  swaps [] = put_step b a [] false (not_after a b h) ∙ sym (put_step a b [] true h)
  swaps (x ∷ xs) = swap_step x xs (swaps xs) (begins_before a x) (begins_before b x) refl refl

-- one of the two begins before the other
abbrev pub AreApart : Grant → Grant → Type 0
AreApart a b = (begins_before a b ≡ true) ⊎ (begins_before b a ≡ true)

either_order : (a b : Grant) → AreApart a b → (gs : List Grant) → insert_by_begin (insert_by_begin gs a) b ≡ insert_by_begin (insert_by_begin gs b) a
either_order a b (inl h) gs = swaps a b h gs
either_order a b (inr h) gs = sym (swaps b a h gs)

-- ---- several more, one after the other

abbrev pub put_all : List Grant → List Grant → List Grant
put_all gs [] = gs
put_all gs (x ∷ xs) = put_all (insert_by_begin gs x) xs

pub first_last : (g : Grant) (xs : List Grant) → AllByRecursion (AreApart g) xs → (gs : List Grant) → put_all (insert_by_begin gs g) xs ≡ insert_by_begin (put_all gs xs) g
first_last g [] h gs = refl
first_last g (x ∷ xs) h gs = ap (λ (l : List Grant). put_all l xs) (either_order g x h.0 gs) ∙ first_last g xs h.1 (insert_by_begin gs x)

-- each begins before all later ones
abbrev pub AllBefore : List Grant → Type 0
AllBefore [] = Unit {0}
AllBefore (g ∷ gs) = AllByRecursion (λ h. begins_before g h ≡ true) gs × AllBefore gs

apart_all : (g : Grant) (gs : List Grant) → AllByRecursion (λ h. begins_before g h ≡ true) gs → AllByRecursion (AreApart g) gs
apart_all g [] h = tt
apart_all g (x ∷ xs) h = (inl h.0, apart_all g xs h.1)

in_front : (g : Grant) (gs : List Grant) → AllByRecursion (λ h. begins_before g h ≡ true) gs → insert_by_begin gs g ≡ g ∷ gs
in_front g [] h = refl
in_front g (x ∷ xs) h = put_step g x xs true h.0

pub ordered_again : (gs : List Grant) → AllBefore gs → put_all [] gs ≡ gs
ordered_again [] h = refl
ordered_again (g ∷ gs) h =
    first_last g gs (apart_all g gs h.0) []
    ∙ ap (λ (l : List Grant). insert_by_begin l g) (ordered_again gs h.1)
    ∙ in_front g gs h.0

-- ---- by article and begin

pub all_listed : (P : Grant → Type 0) (gs : List Grant) → All P gs → AllByRecursion P gs
all_listed P [] h = tt
all_listed P (g ∷ gs) h = (h 0 g (omega arith), all_listed P gs (λ k d lt. h (suc k) d (omega (arith, lt))))

precedes_step : (g h : Grant) → Precedes g h → g.range.begin ≤ℤ g.range.end → (b : Bool) → (g.article == h.article) ≡ b → begins_before g h ≡ true
precedes_step g h p values true e =
    let same : g.article ≡ h.article = eqb-true g.article h.article e in
    let behind = p.behind same in
    grind (arith, ints, nat_tests, same, behind, values)
precedes_step g h p values false e = grind (arith, nat_tests, p.by_article, e)

pub precedes_before : (g h : Grant) → Precedes g h → g.range.begin ≤ℤ g.range.end → begins_before g h ≡ true
precedes_before g h p values = precedes_step g h p values (g.article == h.article) refl

all_precede : (g : Grant) → g.range.begin ≤ℤ g.range.end → (gs : List Grant) → AllByRecursion (Precedes g) gs → AllByRecursion (λ h. begins_before g h ≡ true) gs
all_precede g values [] h = tt
all_precede g values (x ∷ xs) h = (precedes_before g x h.0 values, all_precede g values xs h.1)

pub all_before : (gs : List Grant) → AllByRecursion IsGranted gs → AreInOrder gs → AllBefore gs
all_before [] values h = tt
all_before (g ∷ gs) values h = (all_precede g values.0.some gs h.0, all_before gs values.1 h.1)

-- ---- what stays so with one more

pub all_put : (P : Grant → Type 0) (g : Grant) (gs : List Grant) → P g → AllByRecursion P gs → AllByRecursion P (insert_by_begin gs g)
all_put P g [] here h = (here, tt)
all_put P g (x ∷ xs) here h = by_test (begins_before g x) refl (all_put P g xs here h.1)
  where
    by_test : (b : Bool) → begins_before g x ≡ b → AllByRecursion P (insert_by_begin xs g) → AllByRecursion P (insert_by_begin (x ∷ xs) g)
    by_test true e later = subst (AllByRecursion P) (sym (put_step g x xs true e)) (here, h)
    by_test false e later = subst (AllByRecursion P) (sym (put_step g x xs false e)) (h.0, later)

pub all_put_all : (P : Grant → Type 0) (xs gs : List Grant) → AllByRecursion P xs → AllByRecursion P gs → AllByRecursion P (put_all gs xs)
all_put_all P [] gs h k = k
all_put_all P (x ∷ xs) gs h k = all_put_all P xs (insert_by_begin gs x) h.1 (all_put P x gs h.0 k)
