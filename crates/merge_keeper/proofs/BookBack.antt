-- Grants that are read one after the other, each of which can follow those before it, are those of a book, and stand by article and begin.
use Rattle.std.proofs.Common.{◌≡◌, ◌∙◌, ℕ, ◌+◌, ◌<◌, ◌&&◌, nat_le, ℤ, ◌<ℤ◌, Bool, true, false, cond, List, [], ◌∷◌, ◌++◌, count_by, refl, sym, ap, subst, arith}
use Rattle.std.specs.List.{All, AllByRecursion, Contains}
use Rattle.std.proofs.lemmas.Bool.Decides.{nat_tests}
use Rattle.std.proofs.lemmas.Int.{ints}
use Rattle.std.proofs.lemmas.List.Elements.{All-nil, All-cons, All-contains, Contains-append_left, Contains-append_right}
use Rattle.merge_ident.specs.declared.grants.Grant.{Grant}
use Rattle.merge_ident.specs.Grants.{gives, is_numbered, is_of, AreGrants, AreInOrder, IsGranted, Precedes}
use Rattle.merge_ident.specs.Stored.{can_follow, is_clear}
use Rattle.merge_ident.proofs.Added.{count_by-cons}
use Rattle.merge_ident.proofs.Stored.{count_by-push, follows_from_test, grants-push, no_grants}
use Rattle.merge_keeper.specs.Start.{begins_before, insert_by_begin}
use Rattle.merge_keeper.proofs.Begins.{all_listed, all_put, before_too, precedes_before, put_all, put_step}

-- ---- as members of a list

indexed : (P : Grant → Type 0) (xs : List Grant) → AllByRecursion P xs → All P xs
indexed P [] h = All-nil P
indexed P (x ∷ xs) h = All-cons P x xs h.0 (indexed P xs h.1)

in_tail : (x y : Grant) (xs : List Grant) → Contains xs y → Contains (x ∷ xs) y
in_tail x y xs h = Contains-append_right (x ∷ []) xs y h

grow : (x : Grant) (xs ys : List Grant) → AllByRecursion (Contains xs) ys → AllByRecursion (Contains (x ∷ xs)) ys
grow x xs [] h = tt
grow x xs (y ∷ ys) h = (in_tail x y xs h.0, grow x xs ys h.1)

self_in : (xs : List Grant) → AllByRecursion (Contains xs) xs
self_in [] = tt
self_in (x ∷ xs) = ((0, omega arith, refl), grow x xs xs (self_in xs))

push_front : (g : Grant) (xs ys : List Grant) → AllByRecursion (Contains xs) ys → AllByRecursion (Contains (xs ++ g ∷ [])) ys
push_front g xs [] h = tt
push_front g xs (y ∷ ys) h = (Contains-append_left xs (g ∷ []) y h.0, push_front g xs ys h.1)

pushed_in : (g : Grant) (gs : List Grant) → Contains (gs ++ g ∷ []) g
pushed_in g gs = Contains-append_right gs (g ∷ []) g (0, omega arith, refl)

-- what is there once a grant is put is there once it is pushed
put_in : (g : Grant) (gs : List Grant) (x : Grant) → Contains (insert_by_begin gs g) x → Contains (gs ++ g ∷ []) x
put_in g gs x h =
    All-contains (Contains (gs ++ g ∷ [])) (insert_by_begin gs g) x (indexed _ (insert_by_begin gs g) (all_put (Contains (gs ++ g ∷ [])) g gs (pushed_in g gs) (push_front g gs gs (self_in gs)))) h

count_step : (p : Grant → Bool) (g x : Grant) (xs : List Grant) → count_by p (insert_by_begin xs g) ≡ count_by p xs + cond (p g) 1 0 → (b : Bool) → begins_before g x ≡ b → count_by p (insert_by_begin (x ∷ xs) g) ≡ count_by p (x ∷ xs) + cond (p g) 1 0
count_step p g x xs ih true e = let here = count_by-cons p g (x ∷ xs) in ap (count_by p) (put_step g x xs true e) ∙ omega (arith, here)
count_step p g x xs ih false e =
    let here = count_by-cons p x (insert_by_begin xs g) in
    let before = count_by-cons p x xs in
    ap (count_by p) (put_step g x xs false e) ∙ omega (arith, here, before, ih)

count_put : (p : Grant → Bool) (g : Grant) (gs : List Grant) → count_by p (insert_by_begin gs g) ≡ count_by p gs + cond (p g) 1 0
count_put p g [] = let here = count_by-cons p g [] in omega (arith, here)
count_put p g (x ∷ xs) = count_step p g x xs (count_put p g xs) (begins_before g x) refl

-- a grant is as often there
same_count : (p : Grant → Bool) (g : Grant) (gs : List Grant) → count_by p (insert_by_begin gs g) ≡ count_by p (gs ++ g ∷ [])
same_count p g gs = count_put p g gs ∙ sym (count_by-push p gs g)

-- ---- those of a book

book_put : (g : Grant) (gs : List Grant) → AreGrants (gs ++ g ∷ []) → AllByRecursion IsGranted gs → IsGranted g → AreGrants (insert_by_begin gs g)
book_put g gs h values here = record {
  ranges = indexed IsGranted (insert_by_begin gs g) (all_put IsGranted g gs here values);
  disjoint = λ article value. omega (arith, same_count (gives article value) g gs, h.disjoint article value);
  numbered = λ article site number.
      same_count (is_numbered article site number) g gs ∙ h.numbered article site number
      ∙ ap (λ (n : ℕ). (let m : ℕ = cond (nat_le 1 number && nat_le number n) 1 0 in m)) (sym (same_count (is_of article site) g gs));
  rising = λ x y in_x in_y. h.rising x y (put_in g gs x in_x) (put_in g gs y in_y);
}

-- ---- by article and begin

-- how another grant stands to one that can follow it
record Stands (g y : Grant) : Type 0 where
  clear : is_clear g y ≡ true
  values : IsGranted y
  rises : y.article ≡ g.article → y.site.0 ≡ g.site.0 → y.range.begin <ℤ g.range.begin → y.number < g.number

before_it : (g y : Grant) → IsGranted g → Stands g y → begins_before g y ≡ true → Precedes g y
before_it g y values s h = record {
  by_article = grind (arith, ints, nat_tests, h);
  behind = λ same. grind (arith, ints, nat_tests, same, h, s.clear, s.values.some);
  numbered = λ same site. absurd (grind (arith, ints, nat_tests, same, site, h, s.clear, s.values.some));
}

behind_it : (g y : Grant) → IsGranted g → Stands g y → begins_before g y ≡ false → Precedes y g
behind_it g y values s h =
    let ends : y.article ≡ g.article → y.range.end <ℤ g.range.begin = λ same. grind (arith, ints, nat_tests, same, h, s.clear, values.some) in
    record {
      by_article = grind (arith, ints, nat_tests, h);
      behind = ends;
      numbered = λ same site. s.rises same site (let e = ends same in omega (arith, ints, e, s.values.some));
    }

all_before_it : (g x : Grant) (ys : List Grant) → IsGranted g → IsGranted x → begins_before g x ≡ true → AllByRecursion (Stands g) ys → AllByRecursion (Precedes x) ys → AllByRecursion (Precedes g) ys
all_before_it g x [] values some h s p = tt
all_before_it g x (y ∷ ys) values some h s p =
    (before_it g y values s.0 (before_too g x y h (precedes_before x y p.0 some.some)), all_before_it g x ys values some h s.1 p.1)

order_step : (g x : Grant) (xs : List Grant) → IsGranted g → AllByRecursion (Stands g) (x ∷ xs) → AreInOrder (x ∷ xs) → AreInOrder (insert_by_begin xs g) → (b : Bool) → begins_before g x ≡ b → AreInOrder (insert_by_begin (x ∷ xs) g)
order_step g x xs values s o ih true e =
    subst AreInOrder (sym (put_step g x xs true e)) ((before_it g x values s.0 e, all_before_it g x xs values s.0.values e s.1 o.0), o)
order_step g x xs values s o ih false e =
    subst AreInOrder (sym (put_step g x xs false e)) (all_put (Precedes x) g xs (behind_it g x values s.0 e) o.0, ih)

order_put : (g : Grant) (gs : List Grant) → IsGranted g → AllByRecursion (Stands g) gs → AreInOrder gs → AreInOrder (insert_by_begin gs g)
order_put g [] values s o = (tt, tt)
order_put g (x ∷ xs) values s o = order_step g x xs values s o (order_put g xs values s.1 o.1) (begins_before g x) refl

-- ---- one after the other

pub record AreBook (gs : List Grant) : Type 0 where
  pub granted : AreGrants gs
  pub in_order : AreInOrder gs

all_stand : (g : Grant) (gs ys : List Grant) → AreGrants (gs ++ g ∷ []) → AllByRecursion (λ y. is_clear g y ≡ true) ys → AllByRecursion IsGranted ys → AllByRecursion (Contains gs) ys → AllByRecursion (Stands g) ys
all_stand g gs [] h clear values there = tt
all_stand g gs (y ∷ ys) h clear values there = (
  record { clear = clear.0; values = values.0; rises = λ article site begins. h.rising y g (Contains-append_left gs (g ∷ []) y there.0) (pushed_in g gs) article site begins },
  all_stand g gs ys h clear.1 values.1 there.1,
)

pub one_more_in : (gs : List Grant) (g : Grant) → AreBook gs → can_follow gs g ≡ true → AreBook (insert_by_begin gs g)
one_more_in gs g book passes =
    let follows = follows_from_test gs g passes in
    let pushed = grants-push gs g book.granted follows in
    let values = all_listed IsGranted gs book.granted.ranges in
    record {
      granted = book_put g gs pushed values follows.values;
      in_order = order_put g gs follows.values (all_stand g gs gs pushed (all_listed (λ y. is_clear g y ≡ true) gs follows.clear) values (self_in gs)) book.in_order;
    }

-- each can follow those before it
abbrev pub Chain : List Grant → List Grant → Type 0
Chain gs [] = Unit {0}
Chain gs (x ∷ xs) = (can_follow gs x ≡ true) × Chain (insert_by_begin gs x) xs

pub chain_in : (xs gs : List Grant) → AreBook gs → Chain gs xs → AreBook (put_all gs xs)
chain_in [] gs book h = book
chain_in (x ∷ xs) gs book h = chain_in xs (insert_by_begin gs x) (one_more_in gs x book h.0) h.1

pub no_book : AreBook []
no_book = record { granted = no_grants; in_order = tt }
