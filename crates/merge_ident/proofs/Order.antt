-- A next grant keeps the order, and what is in order is disjoint.
use Rattle.std.proofs.Common.{◌≡◌, ℕ, ◌+◌, ◌<◌, ◌≤◌, Bool, true, false, cond, ◌&&◌, ◌==◌, List, [], ◌∷◌, ℤ, pos, negsuc, ◌<ℤ◌, ◌≤ℤ◌, if◌then◌else◌, nat_le, count_by, length, get_or, zero, suc, ◌⊎◌, inl, inr, subst, sym, refl, ap, ◌∙◌, arith}
use Rattle.std.specs.List.{All, Contains}
use Rattle.std.proofs.lemmas.List.Sums.{get_or-le-sum_by}
use Rattle.std.proofs.lemmas.List.Elements.{recursion_from_All, All-from_recursion, All-tail}
use Rattle.std.specs.List.{AllByRecursion}
use Rattle.std.proofs.lemmas.Int.{ints}
use Rattle.std.proofs.lemmas.Bool.Decides.{nat_tests}
use Rattle.merge_ident.specs.declared.grants.Grant.{Grant}
use Rattle.merge_ident.specs.declared.grants.Rule.{Rule}
use Rattle.merge_ident.specs.Grants.{natural, is_of, granted_to, is_numbered, gives, greatest_end, with_grant, IsGranted, AreDisjoint, AreNumbered, AreRising, Precedes, AreInOrder}
use Rattle.merge_ident.specs.Books.{IsBook, IsNext}
use Rattle.merge_ident.proofs.Added.{count_by-cons, count_by-with_grant}

-- a value from 1 on is that natural number
natural_is : (z : ℤ) → pos 1 ≤ℤ z → z ≡ pos (natural z)
natural_is (pos n) some = refl
natural_is (negsuc n) some = absurd (omega (arith, ints))

natural_lt : (z : ℤ) (n : ℕ) → natural z + 1 ≤ n → z <ℤ pos n
natural_lt (pos e) n le = omega (arith, ints)
natural_lt (negsuc e) n le = omega (arith, ints)

-- the article's ranges end below n
abbrev pub EndsBelow : ℕ → ℕ → Grant → Type 0
EndsBelow article n x = x.article ≡ article → x.range.end <ℤ pos n

-- so do all below what is above the greatest end
all_below : (grants : List Grant) (article n : ℕ) → greatest_end article grants + 1 ≤ n → AllByRecursion (EndsBelow article n) grants
all_below [] article n le = tt
all_below (g ∷ grants) article n le =
    (λ same. natural_lt g.range.end n (grind (arith, nat_tests)), all_below grants article n (grind (arith, nat_tests)))

module _ (P : Grant → Type 0) (g : Grant) (here : P g) where
  all-by_test : (b : Bool) (x : Grant) (xs : List Grant) → P x → AllByRecursion P xs → AllByRecursion P (with_grant xs g) → AllByRecursion P (if b then x ∷ with_grant xs g else g ∷ x ∷ xs)
  all-by_test true x xs first all more = (first, more)
  all-by_test false x xs first all more = (here, (first, all))

  -- what holds of all, and of one more
  pub all-with_grant : (xs : List Grant) → AllByRecursion P xs → AllByRecursion P (with_grant xs g)
  all-with_grant [] all = (here, tt)
  all-with_grant (x ∷ xs) all = all-by_test (nat_le x.article g.article) x xs all.0 all.1 (all-with_grant xs all.1)

-- a grant is behind another one of its article, and has a greater number where both are to one site
record IsBehind (g x : Grant) : Type 0 where
  ends : x.article ≡ g.article → x.range.end <ℤ g.range.begin
  numbered : x.article ≡ g.article → x.site.0 ≡ g.site.0 → x.number < g.number

-- what follows a grant of a later article is of a later article
after_later : (g x : Grant) (xs : List Grant) → g.article < x.article → AllByRecursion (Precedes x) xs → AllByRecursion (Precedes g) xs
after_later g x [] later all = tt
after_later g x (y ∷ ys) later all =
    let later_y : g.article < y.article = omega (arith, all.0.by_article) in
    (record { by_article = omega arith; behind = λ same. absurd (omega arith); numbered = λ same site. absurd (omega arith) }, after_later g x ys later all.1)

order-by_test : (b : Bool) (g x : Grant) (xs : List Grant) → (b ≡ true → x.article ≤ g.article) → (b ≡ false → g.article < x.article)
    → IsBehind g x → AreInOrder (x ∷ xs) → AreInOrder (with_grant xs g) → AreInOrder (if b then x ∷ with_grant xs g else g ∷ x ∷ xs)
order-by_test true g x xs before after behind order more = (all-with_grant (Precedes x) g (record { by_article = before refl; behind = behind.ends; numbered = behind.numbered }) xs order.0, more)
order-by_test false g x xs before after behind order more =
    let later : g.article < x.article = after refl in
    ((record { by_article = omega arith; behind = λ same. absurd (omega arith); numbered = λ same site. absurd (omega arith) }, after_later g x xs later order.0), order)

-- a grant behind those of its article keeps the order
order-with_grant : (g : Grant) (xs : List Grant) → AllByRecursion (IsBehind g) xs → AreInOrder xs → AreInOrder (with_grant xs g)
order-with_grant g [] behind order = (tt, tt)
order-with_grant g (x ∷ xs) behind order =
    order-by_test (nat_le x.article g.article) g x xs (λ h. grind (arith, nat_tests)) (λ h. grind (arith, nat_tests)) behind.0 order (order-with_grant g xs behind.1 order.1)

-- numbers of an article's grants to a site are at most their count
pub numbers_le : (article site : ℕ) (grants : List Grant) → AreNumbered grants → (k : ℕ) (d : Grant) → k < length grants → is_of article site (get_or grants k d) ≡ true → (get_or grants k d).number ≤ granted_to article site grants
numbers_le article site grants numbered k d within of =
    let number = (get_or grants k d).number in
    let here : is_numbered article site number (get_or grants k d) ≡ true = grind (arith, nat_tests, of) in
    let one : cond (is_numbered article site number (get_or grants k d)) 1 0 ≤ count_by (is_numbered article site number) grants = get_or-le-sum_by (λ z. cond (is_numbered article site number z) 1 0) grants k d within in
    let some : 1 ≤ count_by (is_numbered article site number) grants = rw here at one in
    grind (arith, nat_tests, numbered article site number, some)

of_same : (x g : Grant) → x.article ≡ g.article → x.site.0 ≡ g.site.0 → is_of g.article g.site.0 x ≡ true
of_same x g article site = grind (arith, nat_tests, article, site)

all_behind : (grants : List Grant) (g : Grant) → AreNumbered grants → IsNext grants g → AllByRecursion (IsBehind g) grants
all_behind grants g numbered next =
    recursion_from_All (IsBehind g) grants (λ k d within. record {
      ends = λ same.
          let below : AllByRecursion (EndsBelow g.article (natural g.range.begin)) grants = all_below grants g.article (natural g.range.begin) next.behind in
          rw (natural_is g.range.begin next.values.from_one) (All-from_recursion (EndsBelow g.article (natural g.range.begin)) grants below k d within same);
      numbered = λ same site. omega (arith, next.number, numbers_le g.article g.site.0 grants numbered k d within (of_same (get_or grants k d) g same site));
    })

pub order-with_next : (grants : List Grant) (g : Grant) → AreNumbered grants → AreInOrder grants → IsNext grants g → AreInOrder (with_grant grants g)
order-with_next grants g numbered order next = order-with_grant g grants (all_behind grants g numbered next) order

-- what it means that a grant gives a value
pub record Gives (article : ℕ) (value : ℤ) (g : Grant) : Type 0 where
  pub article_is : g.article ≡ article
  pub from : g.range.begin ≤ℤ value
  pub to : value ≤ℤ g.range.end

pub gives_from_test : (article : ℕ) (value : ℤ) (g : Grant) → gives article value g ≡ true → Gives article value g
gives_from_test article value g given = record {
  article_is = grind (arith, nat_tests);
  from = grind (arith, ints, nat_tests);
  to = grind (arith, ints, nat_tests);
}

not_both : (b : Bool) (article : ℕ) (value : ℤ) (g x : Grant) → Gives article value g → Precedes g x → gives article value x ≡ b → b ≡ false
not_both true article value g x here behind there =
    let given = gives_from_test article value x there in
    let after : g.range.end <ℤ x.range.begin = behind.behind (grind arith) in
    absurd (omega (arith, ints, here.from, here.to, given.from, given.to, after))
not_both false article value g x here behind there = refl

-- a value of the first is in none of those behind it
none_behind : (article : ℕ) (value : ℤ) (g : Grant) (xs : List Grant) → Gives article value g → AllByRecursion (Precedes g) xs → count_by (gives article value) xs ≡ 0
none_behind article value g [] here behind = refl
none_behind article value g (x ∷ xs) here behind =
    count_by-cons (gives article value) x xs ∙ rw (not_both (gives article value x) article value g x here behind.0 refl, none_behind article value g xs here behind.1) refl

once-by_test : (b : Bool) (article : ℕ) (value : ℤ) (g : Grant) (xs : List Grant) → gives article value g ≡ b → AllByRecursion (Precedes g) xs → count_by (gives article value) xs ≤ 1
    → cond b 1 0 + count_by (gives article value) xs ≤ 1
once-by_test true article value g xs here behind rest = omega (arith, none_behind article value g xs (gives_from_test article value g here) behind)
once-by_test false article value g xs here behind rest = omega arith

-- grants in order are disjoint
pub disjoint-in_order : (grants : List Grant) → AreInOrder grants → AreDisjoint grants
disjoint-in_order [] order article value = omega arith
disjoint-in_order (g ∷ grants) order article value =
    omega (arith, count_by-cons (gives article value) g grants, once-by_test (gives article value g) article value g grants refl order.0 (disjoint-in_order grants order.1 article value))

rising_cases : {X : Type 0} (a : X) (xs : List X) (x : X) → Contains (a ∷ xs) x → (a ≡ x) ⊎ Contains xs x
rising_cases a xs x (zero, less, at) = inl at
rising_cases a xs x (suc k, less, at) = inr (k, omega arith, at)

-- whoever follows the first begins later, and has a greater number at the same site
follows_first : (a : Grant) (xs : List Grant) (x : Grant) → AllByRecursion (Precedes a) xs → Contains xs x → Precedes a x
follows_first a xs x all (k, within, at) = subst (Precedes a) at (All-from_recursion (Precedes a) xs all k x within)

-- grants in order have numbers that rise with their begins
pub rising-in_order : (grants : List Grant) → AreInOrder grants → All IsGranted grants → AreRising grants
rising-in_order [] order ranges x y (k, less, at) there same site below = absurd (omega (arith, less))
rising-in_order (a ∷ xs) order ranges x y here there same site below =
    elim (rising_cases a xs x here) [
      | inl first ↦ elim (rising_cases a xs y there) [
        | inl also ↦ let one : x.range.begin ≡ y.range.begin = cc in absurd (omega (arith, ints, below, one))
        | inr later ↦ let precedes : Precedes x y = subst (λ z. Precedes z y) first (follows_first a xs y order.0 later) in precedes.numbered same site
      ]
      | inr later ↦ elim (rising_cases a xs y there) [
        | inl also ↦
            let precedes : Precedes y x = subst (λ z. Precedes z x) also (follows_first a xs x order.0 later) in
            let values : IsGranted y = subst IsGranted also (ranges 0 a (omega arith)) in
            let ends : y.range.end <ℤ x.range.begin = precedes.behind (sym same) in
            absurd (omega (arith, ints, values.some, ends, below))
        | inr both ↦ rising-in_order xs order.1 (All-tail IsGranted a xs ranges) x y later both same site below
      ]
    ]

-- the number of a next grant is one that its site did not have
pub numbered-by_test : (b : Bool) (article site number : ℕ) (grants : List Grant) (g : Grant) → is_of article site g ≡ b → AreNumbered grants → g.number ≡ granted_to g.article g.site.0 grants + 1
    → cond (b && (g.number == number)) 1 0 + count_by (is_numbered article site number) grants ≡ (if nat_le 1 number && nat_le number (cond b 1 0 + granted_to article site grants) then 1 else 0)
numbered-by_test true article site number grants g of numbered number_is =
    let old = numbered article site number in
    let same : granted_to g.article g.site.0 grants ≡ granted_to article site grants = grind (arith, nat_tests) in
    let is : g.number ≡ granted_to article site grants + 1 = number_is ∙ ap (λ n. n + 1) same in
    grind (arith, nat_tests, old, is)
numbered-by_test false article site number grants g of numbered number_is = grind (arith, nat_tests, numbered article site number)

pub numbered-with_next : (grants : List Grant) (g : Grant) → AreNumbered grants → IsNext grants g → AreNumbered (with_grant grants g)
numbered-with_next grants g numbered next article site number =
    rw (count_by-with_grant (is_numbered article site number) g grants, count_by-with_grant (is_of article site) g grants) (numbered-by_test (is_of article site g) article site number grants g refl numbered next.number)

-- the book with a next grant is a book
pub book-with_next : (rules : List Rule) (grants : List Grant) (g : Grant) → IsBook rules grants → IsNext grants g → IsBook rules (with_grant grants g)
book-with_next rules grants g book next =
    let order = order-with_next grants g book.grants_fit.numbered book.in_order next in
    let ranges = All-from_recursion IsGranted _ (all-with_grant IsGranted g next.values grants (recursion_from_All IsGranted grants book.grants_fit.ranges)) in
    record {
      rules_fit = book.rules_fit;
      grants_fit = record {
        ranges = ranges;
        disjoint = disjoint-in_order _ order;
        numbered = numbered-with_next grants g book.grants_fit.numbered next;
        rising = rising-in_order _ order ranges;
      };
      in_order = order;
    }
