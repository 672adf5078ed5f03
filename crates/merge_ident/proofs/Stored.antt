-- Grants of a book with one more behind.
use Rattle.std.proofs.Common.{◌≡◌, ℕ, ◌+◌, ◌<◌, ◌≤◌, Bool, true, false, cond, not, ◌&&◌, ◌||◌, nat_eq, nat_le, if◌then◌else◌, List, [], ◌∷◌, ◌++◌, ℤ, pos, ◌<ℤ◌, ◌≤ℤ◌, int_le, int_lt, length, get_or, count_by, zero, suc, ◌⊎◌, inl, inr, refl, sym, ap, subst, ◌∙◌, arith}
use Rattle.std.specs.List.{All, Contains, list_all}
use Rattle.std.proofs.lemmas.Int.{ints}
use Rattle.std.proofs.lemmas.Bool.Decides.{nat_tests}
use Rattle.std.proofs.lemmas.List.{get_or_default}
use Rattle.std.proofs.lemmas.List.Elements.{All-push, All-tail}
use Rattle.std.proofs.lemmas.List.Sums.{get_or-le-sum_by}
use Rattle.merge_ident.specs.declared.grants.Grant.{Grant}
use Rattle.merge_ident.specs.Grants.{gives, granted_to, is_of, is_numbered, AreDisjoint, AreGrants, AreNumbered, AreRising, IsGranted}
use Rattle.merge_ident.specs.Stored.{can_follow, has_next_number, has_values, is_clear}
use Rattle.merge_ident.proofs.Added.{count_by-cons}
use Rattle.merge_ident.proofs.Order.{Gives, gives_from_test, numbered-by_test, numbers_le}

pub count_by-push : (p : Grant → Bool) (xs : List Grant) (g : Grant) → count_by p (xs ++ g ∷ []) ≡ count_by p xs + cond (p g) 1 0
count_by-push p [] g = omega (arith, count_by-cons p g [])
count_by-push p (x ∷ xs) g = omega (arith, count_by-cons p x (xs ++ g ∷ []), count_by-cons p x xs, count_by-push p xs g)

pub and-first : (a b : Bool) → (a && b) ≡ true → a ≡ true
and-first true b both = refl
and-first false b both = both

pub and-second : (a b : Bool) → (a && b) ≡ true → b ≡ true
and-second true b both = both
and-second false b both = absurd cc

pub both_true : (a b : Bool) → a ≡ true → b ≡ true → (a && b) ≡ true
both_true true b here there = there
both_true false b here there = absurd cc

all_tested : (p : Grant → Bool) (xs : List Grant) → list_all p xs ≡ true → (k : ℕ) (d : Grant) → k < length xs → p (get_or xs k d) ≡ true
all_tested p [] all k d within = absurd (omega (arith, within))
all_tested p (x ∷ xs) all zero d within = and-first (p x) (list_all p xs) all
all_tested p (x ∷ xs) all (suc k) d within = all_tested p xs (and-second (p x) (list_all p xs) all) k d (omega arith)

tested_all : (p : Grant → Bool) (xs : List Grant) → ((k : ℕ) (d : Grant) → k < length xs → p (get_or xs k d) ≡ true) → list_all p xs ≡ true
tested_all p [] all = refl
tested_all p (x ∷ xs) all = both_true (p x) (list_all p xs) (all 0 x (omega arith)) (tested_all p xs (λ k d within. all (suc k) d (omega arith)))

push_cases : {X : Type 0} (xs : List X) (g x : X) → Contains (xs ++ g ∷ []) x → Contains xs x ⊎ (g ≡ x)
push_cases [] g x (zero, less, at) = inr at
push_cases [] g x (suc k, less, at) = absurd (omega (arith, less))
push_cases (y ∷ xs) g x (zero, less, at) = inl (0, omega arith, at)
push_cases (y ∷ xs) g x (suc k, less, at) =
    elim (push_cases xs g x (k, omega (arith, less), at)) [
      | inl here ↦ inl (suc here.0, omega (arith, here.1), here.2)
      | inr last ↦ inr last
    ]

push_early : {X : Type 0} (xs : List X) (g x : X) → Contains xs x → Contains (xs ++ g ∷ []) x
push_early [] g x (k, less, at) = absurd (omega (arith, less))
push_early (y ∷ xs) g x (zero, less, at) = (0, omega arith, at)
push_early (y ∷ xs) g x (suc k, less, at) = let rest = push_early xs g x (k, omega (arith, less), at) in (suc rest.0, omega (arith, rest.1), rest.2)

push_last : {X : Type 0} (xs : List X) (g : X) → Contains (xs ++ g ∷ []) g
push_last [] g = (0, omega arith, refl)
push_last (y ∷ xs) g = let rest = push_last xs g in (suc rest.0, omega (arith, rest.1), rest.2)

-- what `can_follow` tests
pub record Follows (xs : List Grant) (g : Grant) : Type 0 where
  pub values : IsGranted g
  pub number : g.number ≡ granted_to g.article g.site.0 xs + 1
  pub clear : (k : ℕ) (d : Grant) → k < length xs → is_clear g (get_or xs k d) ≡ true

pub follows_from_test : (xs : List Grant) (g : Grant) → can_follow xs g ≡ true → Follows xs g
follows_from_test xs g passes =
    let first = and-first (has_values g && has_next_number xs g) (list_all (is_clear g) xs) passes in
    let values = and-first (has_values g) (has_next_number xs g) first in
    let number = and-second (has_values g) (has_next_number xs g) first in
    record {
      values = record { from_one = grind (arith, ints, nat_tests, values); some = grind (arith, ints, nat_tests, values) };
      number = grind (arith, nat_tests, number);
      clear = all_tested (is_clear g) xs (and-second (has_values g && has_next_number xs g) (list_all (is_clear g) xs) passes);
    }

pub test_from_follows : (xs : List Grant) (g : Grant) → Follows xs g → can_follow xs g ≡ true
test_from_follows xs g follows =
    let values : has_values g ≡ true = grind (arith, ints, nat_tests, follows.values.from_one, follows.values.some) in
    let number : has_next_number xs g ≡ true = grind (arith, nat_tests, follows.number) in
    both_true (has_values g && has_next_number xs g) (list_all (is_clear g) xs) (both_true (has_values g) (has_next_number xs g) values number) (tested_all (is_clear g) xs follows.clear)

-- a clear grant shares no value
not_shared : (g x : Grant) (value : ℤ) → is_clear g x ≡ true → Gives g.article value g → IsGranted g → gives g.article value x ≡ false
not_shared g x value clear given values =
    elim (gives g.article value x) as (λ b. gives g.article value x ≡ b → b ≡ false) [
      | true ↦ λ both.
          let there = gives_from_test g.article value x both in
          absurd (grind (arith, ints, nat_tests, clear, given.from, given.to, there.article_is, there.from, there.to, values.some))
      | false ↦ λ _. refl
    ] refl

none_shared : (g : Grant) (value : ℤ) (xs : List Grant) → ((k : ℕ) (d : Grant) → k < length xs → is_clear g (get_or xs k d) ≡ true) → Gives g.article value g → IsGranted g → count_by (gives g.article value) xs ≡ 0
none_shared g value [] clear given values = refl
none_shared g value (x ∷ xs) clear given values =
    let here : gives g.article value x ≡ false = not_shared g x value (clear 0 x (omega arith)) given values in
    count_by-cons (gives g.article value) x xs ∙ rw (here, none_shared g value xs (λ k d within. clear (suc k) d (omega arith)) given values) refl

disjoint_step : (article : ℕ) (value : ℤ) (xs : List Grant) (g : Grant) → AreDisjoint xs → Follows xs g → (b : Bool) → gives article value g ≡ b → count_by (gives article value) xs + cond b 1 0 ≤ 1
disjoint_step article value xs g disjoint follows true is =
    let given = gives_from_test article value g is in
    let here : Gives g.article value g = subst (λ (a : ℕ). Gives a value g) (sym given.article_is) given in
    let none = none_shared g value xs follows.clear here follows.values in
    let same : count_by (gives article value) xs ≡ 0 = subst (λ (a : ℕ). count_by (gives a value) xs ≡ 0) given.article_is none in
    omega (arith, same)
disjoint_step article value xs g disjoint follows false is = omega (arith, disjoint article value)

clear_of : (xs : List Grant) (g x : Grant) → Follows xs g → Contains xs x → is_clear g x ≡ true
clear_of xs g x follows (k, within, at) = subst (λ (y : Grant). is_clear g y ≡ true) at (follows.clear k x within)

number_of_member : (xs : List Grant) (g x : Grant) → AreNumbered xs → Contains xs x → x.article ≡ g.article → x.site.0 ≡ g.site.0 → x.number ≤ granted_to g.article g.site.0 xs
number_of_member xs g x numbered (k, within, at) article site =
    let of : is_of g.article g.site.0 x ≡ true = grind (arith, nat_tests, article, site) in
    let here : is_of g.article g.site.0 (get_or xs k x) ≡ true = ap (is_of g.article g.site.0) at ∙ of in
    let le = numbers_le g.article g.site.0 xs numbered k x within here in
    omega (arith, le, ap (λ (y : Grant). y.number) at)

rising_step : (xs : List Grant) (g : Grant) → AreGrants xs → Follows xs g → AreRising (xs ++ g ∷ [])
rising_step xs g grants follows x y here there article site below =
    elim (push_cases xs g x here) [
      | inl early ↦ elim (push_cases xs g y there) [
        | inl also ↦ grants.rising x y early also article site below
        | inr last ↦
            let article_is : x.article ≡ g.article = article ∙ ap (λ (z : Grant). z.article) (sym last) in
            let site_is : x.site.0 ≡ g.site.0 = site ∙ ap (λ (z : Grant). z.site.0) (sym last) in
            let le = number_of_member xs g x grants.numbered early article_is site_is in
            omega (arith, le, follows.number, ap (λ (z : Grant). z.number) last)
      ]
      | inr first ↦ elim (push_cases xs g y there) [
        | inl early ↦
            let clear = clear_of xs g y follows early in
            let article_is : y.article ≡ g.article = sym article ∙ ap (λ (z : Grant). z.article) (sym first) in
            let site_is : y.site.0 ≡ g.site.0 = sym site ∙ ap (λ (z : Grant). z.site.0) (sym first) in
            let begin_is : g.range.begin ≡ x.range.begin = ap (λ (z : Grant). z.range.begin) first in
            let values : IsGranted y = subst IsGranted early.2 (grants.ranges early.0 y early.1) in
            absurd (grind (arith, ints, nat_tests, clear, article_is, site_is, begin_is, below, values.some))
        | inr also ↦
            let begin_is : g.range.begin ≡ x.range.begin = ap (λ (z : Grant). z.range.begin) first in
            let begin_too : g.range.begin ≡ y.range.begin = ap (λ (z : Grant). z.range.begin) also in
            absurd (omega (arith, ints, begin_is, begin_too, below))
      ]
    ]

-- grants of a book stay so with one that can follow
pub grants-push : (xs : List Grant) (g : Grant) → AreGrants xs → Follows xs g → AreGrants (xs ++ g ∷ [])
grants-push xs g grants follows = record {
  ranges = All-push IsGranted xs g grants.ranges follows.values;
  disjoint = λ article value. omega (arith, count_by-push (gives article value) xs g, disjoint_step article value xs g grants.disjoint follows (gives article value g) refl);
  numbered = λ article site number.
      let more = count_by-push (is_numbered article site number) xs g in
      let all = count_by-push (is_of article site) xs g in
      rw (more, all, add_swap (count_by (is_numbered article site number) xs) (cond (is_numbered article site number g) 1 0), add_swap (count_by (is_of article site) xs) (cond (is_of article site g) 1 0))
      (numbered-by_test (is_of article site g) article site number xs g refl grants.numbered follows.number);
  rising = rising_step xs g grants follows;
}
  where
    add_swap : (m n : ℕ) → m + n ≡ n + m
    add_swap m n = omega arith

-- grants of a book without the last: what `AreGrants` says of the last one
last_number : (xs : List Grant) (g : Grant) → AreNumbered xs → AreNumbered (xs ++ g ∷ []) → g.number ≡ granted_to g.article g.site.0 xs + 1
last_number xs g before after =
    let c = granted_to g.article g.site.0 xs in
    let of : is_of g.article g.site.0 g ≡ true = grind (arith, nat_tests) in
    let all : granted_to g.article g.site.0 (xs ++ g ∷ []) ≡ c + 1 = rw of at (count_by-push (is_of g.article g.site.0) xs g) in
    let old : count_by (is_numbered g.article g.site.0 (c + 1)) xs ≡ 0 = grind (arith, nat_tests, before g.article g.site.0 (c + 1)) in
    let new : count_by (is_numbered g.article g.site.0 (c + 1)) (xs ++ g ∷ []) ≡ 1 = grind (arith, nat_tests, all, after g.article g.site.0 (c + 1)) in
    let split = count_by-push (is_numbered g.article g.site.0 (c + 1)) xs g in
    grind (arith, nat_tests, of, old, new, split)

overlap : (xs : List Grant) (g : Grant) (value : ℤ) → AreDisjoint (xs ++ g ∷ []) → (k : ℕ) (d : Grant) → k < length xs → gives g.article value (get_or xs k d) ≡ true → gives g.article value g ≡ true → ⊥
overlap xs g value disjoint k d within here there =
    let one : cond (gives g.article value (get_or xs k d)) 1 0 ≤ count_by (gives g.article value) xs = get_or-le-sum_by (λ z. cond (gives g.article value z) 1 0) xs k d within in
    let some : 1 ≤ count_by (gives g.article value) xs = rw here at one in
    let split : count_by (gives g.article value) (xs ++ g ∷ []) ≡ count_by (gives g.article value) xs + 1 = rw there at (count_by-push (gives g.article value) xs g) in
    omega (arith, disjoint g.article value, split, some)

meets : (xs : List Grant) (g x : Grant) → AreDisjoint (xs ++ g ∷ []) → Contains xs x → IsGranted x → IsGranted g → x.article ≡ g.article → g.range.begin ≤ℤ x.range.end → x.range.begin ≤ℤ g.range.end → ⊥
meets xs g x disjoint (k, within, at) some values article ends begins =
    elim (int_le x.range.begin g.range.begin) as (λ t. int_le x.range.begin g.range.begin ≡ t → ⊥) [
      | true ↦ λ first.
          let here : gives g.article g.range.begin x ≡ true = grind (arith, ints, nat_tests, article, ends, first) in
          let there : gives g.article g.range.begin g ≡ true = grind (arith, ints, nat_tests, values.some) in
          overlap xs g g.range.begin disjoint k x within (ap (gives g.article g.range.begin) at ∙ here) there
      | false ↦ λ second.
          let here : gives g.article x.range.begin x ≡ true = grind (arith, ints, nat_tests, article, some.some) in
          let there : gives g.article x.range.begin g ≡ true = grind (arith, ints, nat_tests, begins, second) in
          overlap xs g x.range.begin disjoint k x within (ap (gives g.article x.range.begin) at ∙ here) there
    ] refl

clear_last : (xs : List Grant) (g x : Grant) → AreGrants xs → AreGrants (xs ++ g ∷ []) → IsGranted g → g.number ≡ granted_to g.article g.site.0 xs + 1 → Contains xs x → (b : Bool) → is_clear g x ≡ b → b ≡ true
clear_last xs g x before after values number here true is = refl
clear_last xs g x before after values number here false is =
    let article : x.article ≡ g.article = grind (arith, ints, nat_tests, is) in
    let ends : g.range.begin ≤ℤ x.range.end = grind (arith, ints, nat_tests, is) in
    let some : IsGranted x = subst IsGranted here.2 (before.ranges here.0 x here.1) in
    absurd (elim (int_le x.range.begin g.range.end) as (λ t. int_le x.range.begin g.range.end ≡ t → ⊥) [
      | true ↦ λ begins. meets xs g x after.disjoint here some values article ends (grind (arith, ints, begins))
      | false ↦ λ beyond.
          let site : x.site.0 ≡ g.site.0 = grind (arith, ints, nat_tests, is, beyond) in
          let below : g.range.begin <ℤ x.range.begin = grind (arith, ints, beyond, values.some) in
          let less : g.number < x.number = after.rising g x (push_last xs g) (push_early xs g x here) (sym article) (sym site) below in
          let le = number_of_member xs g x before.numbered here article site in
          omega (arith, less, le, number)
    ] refl)

pub follows_last : (xs : List Grant) (g : Grant) → AreGrants xs → AreGrants (xs ++ g ∷ []) → Follows xs g
follows_last xs g before after =
    let last = push_last xs g in
    let values : IsGranted g = subst IsGranted last.2 (after.ranges last.0 g last.1) in
    let number = last_number xs g before.numbered after.numbered in
    record {
      values = values;
      number = number;
      clear = λ k d within. clear_last xs g (get_or xs k d) before after values number (k, within, get_or_default xs k (get_or xs k d) d within) (is_clear g (get_or xs k d)) refl;
    }

-- no grants are those of a book
pub no_grants : AreGrants []
no_grants = record {
  ranges = λ k d within. absurd (omega (arith, within));
  disjoint = λ article value. omega arith;
  numbered = λ article site number. grind (arith, nat_tests);
  rising = λ x y here there article site below. absurd (omega (arith, here.1));
}
