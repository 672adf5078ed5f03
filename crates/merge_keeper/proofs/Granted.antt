-- The index of grants goes on with one more.
use Rattle.std.proofs.Common.{◌≡◌, ◌∙◌, ℕ, ◌≤ℤ◌, Bool, true, false, cond, ◌&&◌, List, [], ◌∷◌, ◌++◌, sum_by, int_le, refl, sym, ap, subst, arith}
use Rattle.std.specs.BTreeMap.{insert_entry}
use Rattle.std.specs.List.{list_all}
use Rattle.std.specs.Map.{values_of}
use Rattle.std.specs.declared.cmp.Ordering.{Ordering}
use Rattle.std.specs.declared.cmp.Ordering.TheVariants.{Less, Equal, Greater}
use Rattle.std.proofs.lemmas.Bool.Decides.{nat_tests}
use Rattle.std.proofs.lemmas.Int.{ints}
use Rattle.std.proofs.lemmas.List.Sums.{sum_by-cons}
use Rattle.merge_ident.specs.declared.grants.Grant.{Grant}
use Rattle.merge_ident.specs.declared.seen_grants.LastGrant.{LastGrant}
use Rattle.merge_ident.specs.declared.seen_grants.Taker.{Taker}
use Rattle.merge_ident.specs.Grants.{is_of}
use Rattle.merge_ident.specs.Seen.{AreApart, IsSeen, Stretch, ends_for, stretch_of}
use Rattle.merge_ident.specs.Stored.{can_follow, has_next_number, has_values, is_clear}
use Rattle.merge_ident.proofs.Stored.{and-first, and-second, both_true}
use Rattle.merge_keeper.specs.declared.grants.Begin.{Begin}
use Rattle.merge_keeper.specs.Grants.{AreAtBegins, begin_cmp, begin_of}
use Rattle.merge_keeper.specs.Start.{begins_before, insert_by_begin}
use Rattle.merge_keeper.proofs.Begins.{put_step}
use Rattle.merge_keeper.proofs.Counted.{sum_push}
use Rattle.merge_keeper.proofs.Ranges.{insert_greater, insert_less}

-- ---- a list with a grant at its place, and with the grant behind

and-turned : (a b c : Bool) → (c && (a && b)) ≡ (a && (b && c))
and-turned true true true = refl
and-turned true true false = refl
and-turned true false true = refl
and-turned true false false = refl
and-turned false b true = refl
and-turned false b false = refl

module _ (test : Grant → Bool) (g : Grant) where
  all-push : (gs : List Grant) → list_all test (gs ++ g ∷ []) ≡ (list_all test gs && test g)
  all-push [] = by_test (test g)
    where
      by_test : (b : Bool) → (b && true) ≡ b
      by_test true = refl
      by_test false = refl
  all-push (x ∷ xs) = ap (λ (b : Bool). test x && b) (all-push xs) ∙ and-assoc (test x) (list_all test xs) (test g)
    where
      and-assoc : (a b c : Bool) → (a && (b && c)) ≡ ((a && b) && c)
      and-assoc true b c = refl
      and-assoc false b c = refl

  all-put_step : (x : Grant) (xs : List Grant) → list_all test (insert_by_begin xs g) ≡ list_all test (xs ++ g ∷ []) → (b : Bool) → begins_before g x ≡ b
      → list_all test (insert_by_begin (x ∷ xs) g) ≡ list_all test (x ∷ (xs ++ g ∷ []))
  all-put_step x xs ih true e =
      ap (list_all test) (put_step g x xs true e)
      ∙ and-turned (test x) (list_all test xs) (test g)
      ∙ ap (λ (b : Bool). test x && b) (sym (all-push xs))
  all-put_step x xs ih false e = ap (list_all test) (put_step g x xs false e) ∙ ap (λ (b : Bool). test x && b) ih

  all-put : (gs : List Grant) → list_all test (insert_by_begin gs g) ≡ list_all test (gs ++ g ∷ [])
  all-put [] = refl
  all-put (x ∷ xs) = all-put_step x xs (all-put xs) (begins_before g x) refl

module _ (f : Grant → ℕ) (g : Grant) where
  sum-put_step : (x : Grant) (xs : List Grant) → sum_by f (insert_by_begin xs g) ≡ sum_by f (xs ++ g ∷ []) → (b : Bool) → begins_before g x ≡ b
      → sum_by f (insert_by_begin (x ∷ xs) g) ≡ sum_by f (x ∷ (xs ++ g ∷ []))
  sum-put_step x xs ih true e =
      ap (sum_by f) (put_step g x xs true e)
      ∙ omega (arith, sum_by-cons f g (x ∷ xs), sum_by-cons f x xs, sum_by-cons f x (xs ++ g ∷ []), sum_push f xs g)
  sum-put_step x xs ih false e =
      ap (sum_by f) (put_step g x xs false e)
      ∙ omega (arith, sum_by-cons f x (insert_by_begin xs g), sum_by-cons f x (xs ++ g ∷ []), ih)

  sum-put : (gs : List Grant) → sum_by f (insert_by_begin gs g) ≡ sum_by f (gs ++ g ∷ [])
  sum-put [] = refl
  sum-put (x ∷ xs) = sum-put_step x xs (sum-put xs) (begins_before g x) refl

-- what was seen does not depend on where the grant stands
seen-moved : (ranges : List Stretch) (lasts : List (Taker × LastGrant)) (before : List Grant) (g : Grant) → IsSeen ranges lasts (before ++ g ∷ []) → IsSeen ranges lasts (insert_by_begin before g)
seen-moved ranges lasts before g seen = record {
  apart = seen.apart;
  same = λ test. all-put (λ (x : Grant). test (stretch_of x)) g before ∙ seen.same test;
  numbered = λ article site. sum-put (λ (x : Grant). cond (is_of article site x) 1 0) g before ∙ seen.numbered article site;
  ended = λ article site begin. all-put (ends_for article site begin) g before ∙ seen.ended article site begin;
}

-- ---- a grant that can follow begins where no other does

span-test : (e : Stretch) → e.1.begin ≤ℤ e.0.end → int_le e.1.begin e.0.end ≡ true
span-test e values = grind (arith, ints, values)

all-span : (es : List Stretch) → AreApart es → list_all (λ (e : Stretch). int_le e.1.begin e.0.end) es ≡ true
all-span [] apart = refl
all-span (e ∷ es) apart = both_true (int_le e.1.begin e.0.end) (list_all (λ (e : Stretch). int_le e.1.begin e.0.end) es) (span-test e apart.0) (all-span es apart.2)

abbrev has_span : Grant → Bool
has_span h = int_le h.range.begin h.range.end

no-tie : (g h : Grant) → has_values g ≡ true → is_clear g h ≡ true → has_span h ≡ true → begin_cmp (begin_of g) (begin_of h) ≡ Equal → true ≡ false
no-tie g h values clear span tied =
    let article : h.article ≡ g.article = grind (arith, ints, nat_tests, tied) in
    let low : h.range.begin ≤ℤ g.range.begin = grind (arith, ints, nat_tests, tied, article) in
    let high : g.range.begin ≤ℤ h.range.begin = grind (arith, ints, nat_tests, tied, article) in
    absurd (grind (arith, ints, nat_tests, values, clear, span, article, low, high))

begins-first : (g h : Grant) → begin_cmp (begin_of g) (begin_of h) ≡ Less → begins_before g h ≡ true
begins-first g h less = grind (arith, ints, nat_tests, less)

begins-later : (g h : Grant) → begin_cmp (begin_of g) (begin_of h) ≡ Greater → begins_before g h ≡ false
begins-later g h greater = grind (arith, ints, nat_tests, greater)

module _ (g : Grant) (values : has_values g ≡ true) where
  abbrev with_it : List (Begin × Grant) → List (Begin × Grant)
  with_it es = insert_entry begin_cmp es (begin_of g) g

  by-grant : (e : Begin × Grant) (r : Ordering) → e.0 ≡ begin_of e.1 → begin_cmp (begin_of g) e.0 ≡ r → begin_cmp (begin_of g) (begin_of e.1) ≡ r
  by-grant e r at is = ap (begin_cmp (begin_of g)) (sym at) ∙ is

  put-step : (e : Begin × Grant) (es : List (Begin × Grant)) → e.0 ≡ begin_of e.1 → is_clear g e.1 ≡ true → has_span e.1 ≡ true → values_of (with_it es) ≡ insert_by_begin (values_of es) g
      → (r : Ordering) → begin_cmp (begin_of g) e.0 ≡ r → values_of (with_it (e ∷ es)) ≡ insert_by_begin (values_of (e ∷ es)) g
  put-step e es at clear span ih Less is =
      ap values_of (insert_less begin_cmp (begin_of g) g e es is)
      ∙ sym (put_step g e.1 (values_of es) true (begins-first g e.1 (by-grant e Less at is)))
  put-step e es at clear span ih Equal is = let no : true ≡ false = no-tie g e.1 values clear span (by-grant e Equal at is) in absurd cc
  put-step e es at clear span ih Greater is =
      ap values_of (insert_greater begin_cmp (begin_of g) g e es is)
      ∙ ap (λ (l : List Grant). e.1 ∷ l) ih
      ∙ sym (put_step g e.1 (values_of es) false (begins-later g e.1 (by-grant e Greater at is)))

  put-all : (es : List (Begin × Grant)) → AreAtBegins es → list_all (is_clear g) (values_of es) ≡ true → list_all has_span (values_of es) ≡ true → values_of (with_it es) ≡ insert_by_begin (values_of es) g
  put-all [] at clear span = refl
  put-all (e ∷ es) at clear span =
      put-step e es at.0 (and-first (is_clear g e.1) (list_all (is_clear g) (values_of es)) clear) (and-first (has_span e.1) (list_all has_span (values_of es)) span)
      (put-all es at.1 (and-second (is_clear g e.1) (list_all (is_clear g) (values_of es)) clear) (and-second (has_span e.1) (list_all has_span (values_of es)) span))
      (begin_cmp (begin_of g) e.0) refl

  placed-step : (e : Begin × Grant) (es : List (Begin × Grant)) → AreAtBegins (e ∷ es) → is_clear g e.1 ≡ true → has_span e.1 ≡ true → AreAtBegins (with_it es)
      → (r : Ordering) → begin_cmp (begin_of g) e.0 ≡ r → AreAtBegins (with_it (e ∷ es))
  placed-step e es at clear span ih Less is = subst AreAtBegins (sym (insert_less begin_cmp (begin_of g) g e es is)) (refl, at)
  placed-step e es at clear span ih Equal is = let no : true ≡ false = no-tie g e.1 values clear span (by-grant e Equal at.0 is) in absurd cc
  placed-step e es at clear span ih Greater is = subst AreAtBegins (sym (insert_greater begin_cmp (begin_of g) g e es is)) (at.0, ih)

  placed-all : (es : List (Begin × Grant)) → AreAtBegins es → list_all (is_clear g) (values_of es) ≡ true → list_all has_span (values_of es) ≡ true → AreAtBegins (with_it es)
  placed-all [] at clear span = (refl, tt)
  placed-all (e ∷ es) at clear span =
      placed-step e es at (and-first (is_clear g e.1) (list_all (is_clear g) (values_of es)) clear) (and-first (has_span e.1) (list_all has_span (values_of es)) span)
      (placed-all es at.1 (and-second (is_clear g e.1) (list_all (is_clear g) (values_of es)) clear) (and-second (has_span e.1) (list_all has_span (values_of es)) span))
      (begin_cmp (begin_of g) e.0) refl

-- ---- the index with a grant more

module _ (ranges : List Stretch) (lasts : List (Taker × LastGrant)) (es es' : List (Begin × Grant)) (g : Grant) (key : Begin) (seen : IsSeen ranges lasts (values_of es)) (placed : AreAtBegins es)
    (follows : can_follow (values_of es) g ≡ true) (key_is : key ≡ begin_of g) (are : es' ≡ insert_entry begin_cmp es key g) where
  abbrev before : List Grant
  before = values_of es

  valued : has_values g ≡ true
  valued = and-first (has_values g) (has_next_number before g) (and-first (has_values g && has_next_number before g) (list_all (is_clear g) before) follows)

  clear : list_all (is_clear g) before ≡ true
  clear = and-second (has_values g && has_next_number before g) (list_all (is_clear g) before) follows

  span : list_all has_span before ≡ true
  span = seen.same (λ (e : Stretch). int_le e.1.begin e.0.end) ∙ all-span ranges seen.apart

  put : es' ≡ insert_entry begin_cmp es (begin_of g) g
  put = are ∙ ap (λ (k : Begin). insert_entry begin_cmp es k g) key_is

  -- the grants are those with this one at its place
  pub values-made : values_of es' ≡ insert_by_begin (values_of es) g
  values-made = ap values_of put ∙ put-all g valued es placed clear span

  pub placed-made : AreAtBegins es'
  placed-made = subst AreAtBegins (sym put) (placed-all g valued es placed clear span)

  pub index-made : (ranges' : List Stretch) (lasts' : List (Taker × LastGrant)) → IsSeen ranges' lasts' (values_of es ++ g ∷ []) → IsSeen ranges' lasts' (values_of es')
  index-made ranges' lasts' more = subst (IsSeen ranges' lasts') (sym values-made) (seen-moved ranges' lasts' before g more)

-- ---- no grant

pub none-listed : (es : List (Begin × Grant)) → es ≡ [] → values_of es ≡ []
none-listed es none = ap values_of none

pub none-placed : (es : List (Begin × Grant)) → es ≡ [] → AreAtBegins es
none-placed es none = subst AreAtBegins (sym none) tt

pub none-seen : (ranges : List Stretch) (lasts : List (Taker × LastGrant)) (es : List (Begin × Grant)) → es ≡ [] → IsSeen ranges lasts [] → IsSeen ranges lasts (values_of es)
none-seen ranges lasts es none seen = subst (IsSeen ranges lasts) (sym (none-listed es none)) seen
