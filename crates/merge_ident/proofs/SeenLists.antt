-- What was seen of grants tells whether another one can follow.
use Rattle.std.proofs.Common.{◌≡◌, ℕ, ◌+◌, ◌<◌, ◌≤◌, Bool, true, false, cond, not, ◌&&◌, ◌||◌, List, [], ◌∷◌, ◌++◌, ℤ, ◌<ℤ◌, ◌≤ℤ◌, int_lt, Option, Some, None, refl, sym, ap, subst, ◌∙◌, arith}
use Rattle.std.specs.Prelude.{◌==◌}
use Rattle.std.specs.BTreeMap.{insert_entry, is_at}
use Rattle.std.specs.BTreeMap.Range.{entries_between, range_contains}
use Rattle.std.specs.List.{AllByRecursion, list_all}
use Rattle.std.specs.Map.{lookup}
use Rattle.std.specs.Ordering.{match_ordering}
use Rattle.std.specs.declared.cmp.Ordering.{Ordering}
use Rattle.std.specs.declared.cmp.Ordering.TheVariants.{Less, Equal, Greater}
use Rattle.std.specs.declared.ops.Bound.TheVariants.{Included, Unbounded}
use Rattle.std.proofs.lemmas.Int.{ints}
use Rattle.std.proofs.lemmas.Bool.Decides.{nat_tests}
use Rattle.merge_ident.specs.declared.grants.Grant.{Grant}
use Rattle.merge_ident.specs.declared.seen_grants.End.{End}
use Rattle.merge_ident.specs.declared.seen_grants.LastGrant.{LastGrant}
use Rattle.merge_ident.specs.declared.seen_grants.Taker.{Taker}
use Rattle.merge_ident.specs.Grants.{granted_to, is_of}
use Rattle.merge_ident.specs.Stored.{can_follow, has_next_number, has_values, is_clear}
use Rattle.merge_ident.specs.Seen.{AreApart, IsSeen, StandsBefore, Stretch, end_cmp, ending_from, ends_below, ends_for, first_is_behind, fits, is_apart, is_behind, last_at, last_of, number_of, stretch_of, taker_cmp, taker_of}
use Rattle.merge_ident.proofs.Stored.{Follows, and-first, and-second, both_true, count_by-push, follows_from_test}

-- Where the first range from the grant on is behind it, all are apart from it.

abbrev from_of : Grant → End
from_of g = record { article = g.article; end = g.range.begin }

abbrev is_from : Grant → Stretch → Bool
is_from g e = range_contains end_cmp (Included (from_of g)) Unbounded e.0

later-apart : (g : Grant) (e y : Stretch) → is_from g e ≡ true → is_behind g e ≡ true → e.1.begin ≤ℤ e.0.end → StandsBefore e y → (c : Bool) → is_apart g y ≡ c → c ≡ true
later-apart g e y from behind values before true is = refl
later-apart g e y from behind values before false is =
    let article : y.0.article ≡ g.article = grind (arith, ints, nat_tests, is) in
    let not_before : g.range.begin ≤ℤ y.0.end = grind (arith, ints, nat_tests, is) in
    let not_behind : y.1.begin ≤ℤ g.range.end = grind (arith, ints, nat_tests, is) in
    let up_to : e.0.article ≤ g.article = omega (arith, before.by_article, article) in
    let own : e.0.article ≡ g.article = grind (arith, ints, nat_tests, from, up_to) in
    let beyond : g.range.end <ℤ e.1.begin = grind (arith, ints, nat_tests, behind, own) in
    let ends : e.0.end <ℤ y.1.begin = before.ends (own ∙ sym article) in
    absurd (omega (arith, ints, values, beyond, ends, not_behind))

all-apart : (g : Grant) (e : Stretch) → is_from g e ≡ true → is_behind g e ≡ true → e.1.begin ≤ℤ e.0.end → (es : List Stretch) → AllByRecursion (StandsBefore e) es → list_all (is_apart g) es ≡ true
all-apart g e from behind values [] all = refl
all-apart g e from behind values (y ∷ es) all = both_true (is_apart g y) (list_all (is_apart g) es) (later-apart g e y from behind values all.0 (is_apart g y) refl) (all-apart g e from behind values es all.1)

behind-apart : (g : Grant) (e : Stretch) → is_behind g e ≡ true → is_apart g e ≡ true
behind-apart g e is = grind (arith, ints, nat_tests, is)

meets-first : (g : Grant) (e : Stretch) → is_from g e ≡ true → is_behind g e ≡ false → is_apart g e ≡ false
meets-first g e from is = grind (arith, ints, nat_tests, from, is)

early-apart : (g : Grant) (e : Stretch) → is_from g e ≡ false → is_apart g e ≡ true
early-apart g e is = grind (arith, ints, nat_tests, is)

first-step : (g : Grant) (e : Stretch) (es : List Stretch) → e.1.begin ≤ℤ e.0.end → AllByRecursion (StandsBefore e) es → list_all (is_apart g) es ≡ first_is_behind g (ending_from g es)
    → (from : Bool) → is_from g e ≡ from → (behind : Bool) → is_behind g e ≡ behind → (is_apart g e && list_all (is_apart g) es) ≡ first_is_behind g (cond from (e ∷ ending_from g es) (ending_from g es))
first-step g e es values before more true from true behind = both_true (is_apart g e) (list_all (is_apart g) es) (behind-apart g e behind) (all-apart g e from behind values es before) ∙ sym behind
first-step g e es values before more true from false behind = ap (λ (b : Bool). b && list_all (is_apart g) es) (meets-first g e from behind) ∙ sym behind
first-step g e es values before more false from behind is = ap (λ (b : Bool). b && list_all (is_apart g) es) (early-apart g e from) ∙ more

apart-by_first : (g : Grant) (es : List Stretch) → AreApart es → list_all (is_apart g) es ≡ first_is_behind g (ending_from g es)
apart-by_first g [] apart = refl
apart-by_first g (e ∷ es) apart = first-step g e es apart.0 apart.1 (apart-by_first g es apart.2) (is_from g e) refl (is_behind g e) refl

-- what a walk from there finds first
abbrev walk_from : End → List Stretch → List Stretch
walk_from from es = entries_between end_cmp (Included from) Unbounded es

walk-is : (g : Grant) (from : End) (es walked : List Stretch) → from ≡ from_of g → walked ≡ walk_from from es → walked ≡ ending_from g es
walk-is g from es walked same all = all ∙ ap (λ (x : End). walk_from x es) same

pub first-some : (g : Grant) (from : End) (es walked rest : List Stretch) (e : Stretch) (r : Bool) → from ≡ from_of g → walked ≡ walk_from from es → walked ≡ e ∷ rest → r ≡ is_behind g e → r ≡ first_is_behind g (ending_from g es)
first-some g from es walked rest e r same all first is = is ∙ sym (ap (first_is_behind g) (sym (walk-is g from es walked same all) ∙ first))

pub first-none : (g : Grant) (from : End) (es walked : List Stretch) → from ≡ from_of g → walked ≡ walk_from from es → walked ≡ [] → true ≡ first_is_behind g (ending_from g es)
first-none g from es walked same all none = sym (ap (first_is_behind g) (sym (walk-is g from es walked same all) ∙ none))

-- A stretch more.

no-tie : (g : Grant) (e : Stretch) → g.range.begin ≤ℤ g.range.end → e.1.begin ≤ℤ e.0.end → is_apart g e ≡ true → end_cmp (stretch_of g).0 e.0 ≡ Equal → true ≡ false
no-tie g e values own apart tied =
    let article : e.0.article ≡ g.article = grind (arith, ints, nat_tests, tied) in
    let low : e.0.end ≤ℤ g.range.end = grind (arith, ints, nat_tests, tied, article) in
    let high : g.range.end ≤ℤ e.0.end = grind (arith, ints, nat_tests, tied, article) in
    absurd (grind (arith, ints, nat_tests, values, own, apart, article, low, high))

below-first : (g : Grant) (e : Stretch) → g.range.begin ≤ℤ g.range.end → e.1.begin ≤ℤ e.0.end → is_apart g e ≡ true → end_cmp (stretch_of g).0 e.0 ≡ Less → StandsBefore (stretch_of g) e
below-first g e values own apart less = record {
  by_article = grind (arith, ints, nat_tests, less);
  ends = λ same.
      let below : g.range.end <ℤ e.0.end = grind (arith, ints, nat_tests, less, same) in
      grind (arith, ints, nat_tests, values, own, apart, same, below);
}

above-first : (g : Grant) (e : Stretch) → g.range.begin ≤ℤ g.range.end → e.1.begin ≤ℤ e.0.end → is_apart g e ≡ true → end_cmp (stretch_of g).0 e.0 ≡ Greater → StandsBefore e (stretch_of g)
above-first g e values own apart greater = record {
  by_article = grind (arith, ints, nat_tests, greater);
  ends = λ same.
      let below : e.0.end <ℤ g.range.end = grind (arith, ints, nat_tests, greater, same) in
      grind (arith, ints, nat_tests, values, own, apart, same, below);
}

through : (x e y : Stretch) → e.1.begin ≤ℤ e.0.end → StandsBefore x e → StandsBefore e y → StandsBefore x y
through x e y own first second = record {
  by_article = omega (arith, first.by_article, second.by_article);
  ends = λ same.
      let one : x.0.article ≡ e.0.article = omega (arith, first.by_article, second.by_article, same) in
      omega (arith, ints, own, first.ends one, second.ends (sym one ∙ same));
}

all-through : (x e : Stretch) → e.1.begin ≤ℤ e.0.end → StandsBefore x e → (es : List Stretch) → AllByRecursion (StandsBefore e) es → AllByRecursion (StandsBefore x) es
all-through x e own first [] all = tt
all-through x e own first (y ∷ es) all = (through x e y own first all.0, all-through x e own first es all.1)

and-swap : (a b : Bool) → (a && b) ≡ (b && a)
and-swap true true = refl
and-swap true false = refl
and-swap false true = refl
and-swap false false = refl

and-assoc : (a b c : Bool) → (a && (b && c)) ≡ ((a && b) && c)
and-assoc true b c = refl
and-assoc false b c = refl

module _ (g : Grant) (values : g.range.begin ≤ℤ g.range.end) where
  abbrev with_it : List Stretch → List Stretch
  with_it es = insert_entry end_cmp es (stretch_of g).0 g.range

  -- what holds of all and of the new one holds of all with it
  all-step : (P : Stretch → Type 0) (e : Stretch) (es : List Stretch) → P (stretch_of g) → AllByRecursion P (e ∷ es) → AllByRecursion P (with_it es) → e.1.begin ≤ℤ e.0.end → is_apart g e ≡ true
      → (r : Ordering) → end_cmp (stretch_of g).0 e.0 ≡ r → AllByRecursion P (match_ordering r (stretch_of g ∷ e ∷ es) ((e.0, g.range) ∷ es) (e ∷ with_it es))
  all-step P e es new all more own apart Less is = (new, all)
  all-step P e es new all more own apart Equal is = let no : true ≡ false = no-tie g e values own apart is in absurd cc
  all-step P e es new all more own apart Greater is = (all.0, more)

  all-with : (P : Stretch → Type 0) (es : List Stretch) → AreApart es → list_all (is_apart g) es ≡ true → P (stretch_of g) → AllByRecursion P es → AllByRecursion P (with_it es)
  all-with P [] apart free new all = (new, tt)
  all-with P (e ∷ es) apart free new all =
      all-step P e es new all (all-with P es apart.2 (and-second (is_apart g e) (list_all (is_apart g) es) free) new all.1) apart.0 (and-first (is_apart g e) (list_all (is_apart g) es) free) (end_cmp (stretch_of g).0 e.0) refl

  apart-step : (e : Stretch) (es : List Stretch) → AreApart (e ∷ es) → is_apart g e ≡ true → list_all (is_apart g) es ≡ true → AreApart (with_it es)
      → (r : Ordering) → end_cmp (stretch_of g).0 e.0 ≡ r → AreApart (match_ordering r (stretch_of g ∷ e ∷ es) ((e.0, g.range) ∷ es) (e ∷ with_it es))
  apart-step e es apart here free more Less is =
      let first : StandsBefore (stretch_of g) e = below-first g e values apart.0 here is in
      (values, (first, all-through (stretch_of g) e apart.0 first es apart.1), apart)
  apart-step e es apart here free more Equal is = let no : true ≡ false = no-tie g e values apart.0 here is in absurd cc
  apart-step e es apart here free more Greater is = (apart.0, all-with (StandsBefore e) es apart.2 free (above-first g e values apart.0 here is) apart.1, more)

  apart-with : (es : List Stretch) → AreApart es → list_all (is_apart g) es ≡ true → AreApart (with_it es)
  apart-with [] apart free = (values, tt, tt)
  apart-with (e ∷ es) apart free =
      let here : is_apart g e ≡ true = and-first (is_apart g e) (list_all (is_apart g) es) free in
      let rest : list_all (is_apart g) es ≡ true = and-second (is_apart g e) (list_all (is_apart g) es) free in
      apart-step e es apart here rest (apart-with es apart.2 rest) (end_cmp (stretch_of g).0 e.0) refl

  tests-step : (test : Stretch → Bool) (e : Stretch) (es : List Stretch) → e.1.begin ≤ℤ e.0.end → is_apart g e ≡ true → list_all test (with_it es) ≡ (list_all test es && test (stretch_of g))
      → (r : Ordering) → end_cmp (stretch_of g).0 e.0 ≡ r → list_all test (match_ordering r (stretch_of g ∷ e ∷ es) ((e.0, g.range) ∷ es) (e ∷ with_it es)) ≡ ((test e && list_all test es) && test (stretch_of g))
  tests-step test e es own here more Less is = and-swap (test (stretch_of g)) (test e && list_all test es)
  tests-step test e es own here more Equal is = let no : true ≡ false = no-tie g e values own here is in absurd cc
  tests-step test e es own here more Greater is = ap (λ (b : Bool). test e && b) more ∙ and-assoc (test e) (list_all test es) (test (stretch_of g))

  tests-with : (test : Stretch → Bool) (es : List Stretch) → AreApart es → list_all (is_apart g) es ≡ true → list_all test (with_it es) ≡ (list_all test es && test (stretch_of g))
  tests-with test [] apart free = and-swap (test (stretch_of g)) true
  tests-with test (e ∷ es) apart free =
      tests-step test e es apart.0 (and-first (is_apart g e) (list_all (is_apart g) es) free) (tests-with test es apart.2 (and-second (is_apart g e) (list_all (is_apart g) es) free)) (end_cmp (stretch_of g).0 e.0) refl

list_all-push : (test : Grant → Bool) (xs : List Grant) (g : Grant) → list_all test (xs ++ g ∷ []) ≡ (list_all test xs && test g)
list_all-push test [] g = and-swap (test g) true
list_all-push test (x ∷ xs) g = ap (λ (b : Bool). test x && b) (list_all-push test xs g) ∙ and-assoc (test x) (list_all test xs) (test g)

-- A grant is clear of another where the ranges are apart, and the other ends before where both are to one site.

clear-bools : (article before site behind : Bool) → (not article || before || (not site && behind)) ≡ ((not article || before || behind) && (not (article && site) || before))
clear-bools false before site behind = refl
clear-bools true true true behind = refl
clear-bools true true false behind = refl
clear-bools true false true true = refl
clear-bools true false true false = refl
clear-bools true false false true = refl
clear-bools true false false false = refl

and-across : (a b c d : Bool) → ((a && b) && (c && d)) ≡ ((a && c) && (b && d))
and-across true true c d = refl
and-across true false c d = and-swap false c
and-across false b c d = refl

clear-all : (g : Grant) (xs : List Grant) → list_all (is_clear g) xs ≡ (list_all (λ (x : Grant). is_apart g (stretch_of x)) xs && list_all (ends_for g.article g.site.0 g.range.begin) xs)
clear-all g [] = refl
clear-all g (x ∷ xs) =
    let apart : Bool = is_apart g (stretch_of x) in
    let own : Bool = ends_for g.article g.site.0 g.range.begin x in
    ap (λ (b : Bool). b && list_all (is_clear g) xs) (clear-bools (x.article == g.article) (int_lt x.range.end g.range.begin) (x.site.0 == g.site.0) (int_lt g.range.end x.range.begin))
    ∙ ap (λ (b : Bool). (apart && own) && b) (clear-all g xs)
    ∙ and-across apart own (list_all (λ (y : Grant). is_apart g (stretch_of y)) xs) (list_all (ends_for g.article g.site.0 g.range.begin) xs)

-- What was seen tells whether a grant can follow.

fits-bools : (values number ends apart : Bool) → (values && (number && ends) && apart) ≡ (values && number && (apart && ends))
fits-bools true true ends apart = and-swap ends apart
fits-bools true false ends apart = refl
fits-bools false number ends apart = refl

module _ (ranges : List Stretch) (lasts : List (Taker × LastGrant)) (before : List Grant) (seen : IsSeen ranges lasts before) (g : Grant) where
  abbrev last : Option LastGrant
  last = last_at lasts g.article g.site.0

  free-is : list_all (λ (x : Grant). is_apart g (stretch_of x)) before ≡ first_is_behind g (ending_from g ranges)
  free-is = seen.same (is_apart g) ∙ apart-by_first g ranges seen.apart

  pub fits-is : fits ranges lasts g ≡ can_follow before g
  fits-is =
      fits-bools (has_values g) (g.number == number_of last + 1) (ends_below g.range.begin last) (first_is_behind g (ending_from g ranges))
      ∙ ap (λ (n : ℕ). has_values g && (g.number == n + 1) && (first_is_behind g (ending_from g ranges) && ends_below g.range.begin last)) (sym (seen.numbered g.article g.site.0))
      ∙ ap (λ (b : Bool). has_values g && has_next_number before g && (b && ends_below g.range.begin last)) (sym free-is)
      ∙ ap (λ (b : Bool). has_values g && has_next_number before g && (list_all (λ (x : Grant). is_apart g (stretch_of x)) before && b)) (sym (seen.ended g.article g.site.0 g.range.begin))
      ∙ ap (λ (b : Bool). has_values g && has_next_number before g && b) (sym (clear-all g before))

-- Nothing was seen.

none-seen : IsSeen [] [] []
none-seen = record {
  apart = tt;
  same = λ test. refl;
  numbered = λ article site. refl;
  ended = λ article site begin. refl;
}

pub new-seen : (ranges : List Stretch) (lasts : List (Taker × LastGrant)) → ranges ≡ [] → lasts ≡ [] → IsSeen ranges lasts []
new-seen ranges lasts first second = subst (λ (es : List Stretch). IsSeen es lasts []) (sym first) (subst (λ (ls : List (Taker × LastGrant)). IsSeen [] ls []) (sym second) none-seen)

-- A grant more is seen.

taken-is : (article site : ℕ) (g : Grant) → is_at (taker_cmp (taker_of g)) (record { article = article; site = site }) ≡ is_of article site g
taken-is article site g = grind (arith, nat_tests)

of-article : (article site : ℕ) (g : Grant) → is_of article site g ≡ true → g.article ≡ article
of-article article site g is = grind (arith, nat_tests, is)

of-site : (article site : ℕ) (g : Grant) → is_of article site g ≡ true → g.site.0 ≡ site
of-site article site g is = grind (arith, nat_tests, is)

all-before : (g : Grant) (begin : ℤ) (found : Option LastGrant) → ends_below g.range.begin found ≡ true → g.range.begin ≤ℤ g.range.end → (below : Bool) → int_lt g.range.end begin ≡ below → (ends_below begin found && below) ≡ below
all-before g begin found behind values false is = and-swap (ends_below begin found) false
all-before g begin None behind values true is = refl
all-before g begin (Some last) behind values true is =
    let less : int_lt last.end begin ≡ true = grind (arith, ints, nat_tests, behind, values, is) in
    ap (λ (b : Bool). b && true) less

module _ (ranges ranges' : List Stretch) (lasts lasts' : List (Taker × LastGrant)) (before : List Grant) (g : Grant) (seen : IsSeen ranges lasts before) (follows : can_follow before g ≡ true)
    (ends_are : ranges' ≡ insert_entry end_cmp ranges (stretch_of g).0 g.range)
    (lasts_are : (q : Taker) → lookup (is_at (taker_cmp q)) lasts' ≡ cond (is_at (taker_cmp (taker_of g)) q) (Some (last_of g)) (lookup (is_at (taker_cmp q)) lasts)) where
  one : Follows before g
  one = follows_from_test before g follows

  clear : list_all (is_clear g) before ≡ true
  clear = and-second (has_values g && has_next_number before g) (list_all (is_clear g) before) follows

  parts : (list_all (λ (x : Grant). is_apart g (stretch_of x)) before && list_all (ends_for g.article g.site.0 g.range.begin) before) ≡ true
  parts = sym (clear-all g before) ∙ clear

  free : list_all (is_apart g) ranges ≡ true
  free = sym (seen.same (is_apart g)) ∙ and-first (list_all (λ (x : Grant). is_apart g (stretch_of x)) before) (list_all (ends_for g.article g.site.0 g.range.begin) before) parts

  own-behind : list_all (ends_for g.article g.site.0 g.range.begin) before ≡ true
  own-behind = and-second (list_all (λ (x : Grant). is_apart g (stretch_of x)) before) (list_all (ends_for g.article g.site.0 g.range.begin) before) parts

  last-is : (article site : ℕ) → last_at lasts' article site ≡ cond (is_of article site g) (Some (last_of g)) (last_at lasts article site)
  last-is article site = lasts_are (record { article = article; site = site }) ∙ ap (λ (b : Bool). (let found : Option LastGrant = cond b (Some (last_of g)) (last_at lasts article site) in found)) (taken-is article site g)

  number-step : (article site : ℕ) (b : Bool) → is_of article site g ≡ b → granted_to article site before + cond b 1 0 ≡ number_of (let found : Option LastGrant = cond b (Some (last_of g)) (last_at lasts article site) in found)
  number-step article site true is =
      let same : granted_to g.article g.site.0 before ≡ granted_to article site before
      = ap (λ (n : ℕ). granted_to n g.site.0 before) (of-article article site g is) ∙ ap (λ (n : ℕ). granted_to article n before) (of-site article site g is) in
      omega (arith, same, one.number)
  number-step article site false is = omega (arith, seen.numbered article site)

  end-step : (article site : ℕ) (begin : ℤ) (b : Bool) → is_of article site g ≡ b
      → (list_all (ends_for article site begin) before && (not b || int_lt g.range.end begin)) ≡ ends_below begin (let found : Option LastGrant = cond b (Some (last_of g)) (last_at lasts article site) in found)
  end-step article site begin true is =
      let behind : ends_below g.range.begin (last_at lasts article site) ≡ true
      = sym (seen.ended article site g.range.begin)
      ∙ ap (λ (n : ℕ). list_all (ends_for n site g.range.begin) before) (sym (of-article article site g is))
      ∙ ap (λ (n : ℕ). list_all (ends_for g.article n g.range.begin) before) (sym (of-site article site g is))
      ∙ own-behind in
      ap (λ (b : Bool). b && int_lt g.range.end begin) (seen.ended article site begin)
      ∙ all-before g begin (last_at lasts article site) behind one.values.some (int_lt g.range.end begin) refl
  end-step article site begin false is = and-swap (list_all (ends_for article site begin) before) true ∙ seen.ended article site begin

  seen-more : IsSeen ranges' lasts' (before ++ g ∷ [])
  seen-more = record {
    apart = subst AreApart (sym ends_are) (apart-with g one.values.some ranges seen.apart free);
    same = λ test.
        list_all-push (λ (x : Grant). test (stretch_of x)) before g
        ∙ ap (λ (b : Bool). b && test (stretch_of g)) (seen.same test)
        ∙ sym (ap (list_all test) ends_are ∙ tests-with g one.values.some test ranges seen.apart free);
    numbered = λ article site. count_by-push (is_of article site) before g ∙ number-step article site (is_of article site g) refl ∙ sym (ap number_of (last-is article site));
    ended = λ article site begin. list_all-push (ends_for article site begin) before g ∙ end-step article site begin (is_of article site g) refl ∙ sym (ap (ends_below begin) (last-is article site));
  }

-- by what is put into the maps
pub seen-made : (ranges ranges' : List Stretch) (lasts lasts' : List (Taker × LastGrant)) (before : List Grant) (g : Grant) (end : End) (taker : Taker) (made : LastGrant) → IsSeen ranges lasts before → can_follow before g ≡ true
    → end ≡ (stretch_of g).0 → taker ≡ taker_of g → made ≡ last_of g → ranges' ≡ insert_entry end_cmp ranges end g.range
    → ((q : Taker) → lookup (is_at (taker_cmp q)) lasts' ≡ cond (is_at (taker_cmp taker) q) (Some made) (lookup (is_at (taker_cmp q)) lasts)) → IsSeen ranges' lasts' (before ++ g ∷ [])
seen-made ranges ranges' lasts lasts' before g end taker made seen follows end_is taker_is made_is ranges_are lasts_are =
    seen-more ranges ranges' lasts lasts' before g seen follows
    (ranges_are ∙ ap (λ (key : End). insert_entry end_cmp ranges key g.range) end_is)
    (λ q. lasts_are q
    ∙ ap (λ (t : Taker). (let found : Option LastGrant = cond (is_at (taker_cmp t) q) (Some made) (lookup (is_at (taker_cmp q)) lasts) in found)) taker_is
    ∙ ap (λ (l : LastGrant). (let found : Option LastGrant = cond (is_at (taker_cmp (taker_of g)) q) (Some l) (lookup (is_at (taker_cmp q)) lasts) in found)) made_is)
