-- The last grant that passes a test, in grants that are in order.
use Rattle.std.proofs.Common.{◌≡◌, ◌≢◌, ℕ, ◌+◌, ◌-◌, ◌<◌, ◌≤◌, Bool, true, false, cond, ◌&&◌, ◌||◌, nat_eq, nat_le, nat_lt, List, [], ◌∷◌, ℤ, pos, negsuc, ◌<ℤ◌, ◌≤ℤ◌, int_le, length, get_or, count_by, max, Option, Some, None, zero, suc, refl, sym, ap, ◌∙◌, subst, arith}
use Rattle.std.specs.List.{All, AllByRecursion, Contains, list_any}
use Rattle.std.specs.List.Sorted.{IsPartitionedBy, IsPartitionPoint}
use Rattle.std.specs.Option.{option_or}
use Rattle.std.proofs.lemmas.Int.{ints}
use Rattle.std.proofs.lemmas.Bool.Decides.{nat_tests}
use Rattle.std.proofs.lemmas.List.{get_or_default}
use Rattle.std.proofs.lemmas.List.Elements.{All-from_recursion, All-tail}
use Rattle.merge_ident.specs.declared.grants.Grant.{Grant}
use Rattle.merge_ident.specs.Grants.{natural, is_in, is_of, is_numbered, is_granted, granted_to, greatest_end, IsGranted, AreNumbered, Precedes, AreInOrder}
use Rattle.merge_ident.specs.Lasts.{last_where, is_of_article, is_to, starts_by}
use Rattle.merge_ident.proofs.Added.{count_by-cons}
use Rattle.merge_ident.proofs.Order.{numbers_le}

-- each grant precedes each later one
pub precedes_later : (xs : List Grant) → AreInOrder xs → (i j : ℕ) (d : Grant) → i < j → j < length xs → Precedes (get_or xs i d) (get_or xs j d)
precedes_later [] order i j d less within = absurd (omega (arith, within))
precedes_later (x ∷ xs) order zero zero d less within = absurd (omega (arith, less))
precedes_later (x ∷ xs) order zero (suc j) d less within = All-from_recursion (Precedes x) xs order.0 j d (omega arith)
precedes_later (x ∷ xs) order (suc i) zero d less within = absurd (omega (arith, less))
precedes_later (x ∷ xs) order (suc i) (suc j) d less within = precedes_later xs order.1 i j d (omega arith) (omega arith)

-- where none passes there is no last one
pub last_none : (p : Grant → Bool) (xs : List Grant) → ((k : ℕ) (d : Grant) → k < length xs → p (get_or xs k d) ≡ false) → last_where p xs ≡ None
last_none p [] none = refl
last_none p (x ∷ xs) none = rw (last_none p xs (λ k d within. none (suc k) d (omega arith)), none 0 x (omega arith)) refl

-- the last one is the one behind which none passes
pub last_at : (p : Grant → Bool) (xs : List Grant) (i : ℕ) (d : Grant) → i < length xs → p (get_or xs i d) ≡ true → ((k : ℕ) (e : Grant) → i < k → k < length xs → p (get_or xs k e) ≡ false) → last_where p xs ≡ Some (get_or xs i d)
last_at p [] i d within passes none = absurd (omega (arith, within))
last_at p (x ∷ xs) zero d within passes none = rw (last_none p xs (λ k e in_xs. none (suc k) e (omega arith) (omega arith)), passes) refl
last_at p (x ∷ xs) (suc i) d within passes none = rw (last_at p xs i d (omega arith) passes (λ k e less in_xs. none (suc k) e (omega arith) (omega arith))) refl

-- the last one is in the list and passes, and behind it none does
pub record IsLast (p : Grant → Bool) (xs : List Grant) (g : Grant) : Type 0 where
  pub at : ℕ
  pub within : at < length xs
  pub is : (d : Grant) → get_or xs at d ≡ g
  pub passes : p g ≡ true
  pub none : (k : ℕ) (d : Grant) → at < k → k < length xs → p (get_or xs k d) ≡ false

none_step : (p : Grant → Bool) (x : Grant) (xs : List Grant) → ((k : ℕ) (d : Grant) → k < length xs → p (get_or xs k d) ≡ false) → (k : ℕ) (d : Grant) → 0 < k → k < length (x ∷ xs) → p (get_or (x ∷ xs) k d) ≡ false
none_step p x xs none zero d above within = absurd (omega (arith, above))
none_step p x xs none (suc k) d above within = none k d (omega arith)

all_step : (p : Grant → Bool) (x : Grant) (xs : List Grant) → p x ≡ false → ((k : ℕ) (d : Grant) → k < length xs → p (get_or xs k d) ≡ false) → (k : ℕ) (d : Grant) → k < length (x ∷ xs) → p (get_or (x ∷ xs) k d) ≡ false
all_step p x xs here none zero d within = here
all_step p x xs here none (suc k) d within = none k d (omega arith)

later_step : (p : Grant → Bool) (x : Grant) (xs : List Grant) (at : ℕ) → ((k : ℕ) (d : Grant) → at < k → k < length xs → p (get_or xs k d) ≡ false) → (k : ℕ) (d : Grant) → suc at < k → k < length (x ∷ xs) → p (get_or (x ∷ xs) k d) ≡ false
later_step p x xs at none zero d above within = absurd (omega (arith, above))
later_step p x xs at none (suc k) d above within = none k d (omega arith) (omega arith)

-- what the answer means
abbrev pub MeansLast : (Grant → Bool) → List Grant → Option Grant → Type 0
MeansLast p xs None = (k : ℕ) (d : Grant) → k < length xs → p (get_or xs k d) ≡ false
MeansLast p xs (Some g) = IsLast p xs g

means_step : (p : Grant → Bool) (x : Grant) (xs : List Grant) (o : Option Grant) → MeansLast p xs o → (b : Bool) → p x ≡ b → MeansLast p (x ∷ xs) (option_or o (cond b (Some x) None))
means_step p x xs (Some g) last b is = record {
  at = suc last.at;
  within = omega (arith, last.within);
  is = last.is;
  passes = last.passes;
  none = later_step p x xs last.at last.none;
}
means_step p x xs None none true is = record {
  at = 0;
  within = omega arith;
  is = λ d. refl;
  passes = is;
  none = none_step p x xs none;
}
means_step p x xs None none false is = all_step p x xs is none

pub last_means : (p : Grant → Bool) (xs : List Grant) → MeansLast p xs (last_where p xs)
last_means p [] = λ k d within. absurd (omega (arith, within))
last_means p (x ∷ xs) = means_step p x xs (last_where p xs) (last_means p xs) (p x) refl

count_none : (p : Grant → Bool) (xs : List Grant) → ((k : ℕ) (d : Grant) → k < length xs → p (get_or xs k d) ≡ false) → count_by p xs ≡ 0
count_none p [] none = refl
count_none p (x ∷ xs) none =
    let here : p x ≡ false = none 0 x (omega arith) in
    count_by-cons p x xs ∙ rw (here, count_none p xs (λ k d within. none (suc k) d (omega arith))) refl

-- the greatest end of an article is that of its last grant
abbrev pub end_of : Option Grant → ℕ
end_of None = 0
end_of (Some g) = natural g.range.end

natural_le : (z w : ℤ) → z ≤ℤ w → natural z ≤ natural w
natural_le (pos n) (pos m) le = omega (arith, ints)
natural_le (pos n) (negsuc m) le = absurd (omega (arith, ints))
natural_le (negsuc n) (pos m) le = omega (arith, ints)
natural_le (negsuc n) (negsuc m) le = omega (arith, ints)

ends_later : (article : ℕ) (x : Grant) (xs : List Grant) (g : Grant) → AllByRecursion (Precedes x) xs → All IsGranted xs → x.article ≡ article → IsLast (is_of_article article) xs g → natural x.range.end ≤ natural g.range.end
ends_later article x xs g precede ranges same last =
    let precedes : Precedes x g = subst (Precedes x) (last.is g) (All-from_recursion (Precedes x) xs precede last.at g last.within) in
    let values : IsGranted g = subst IsGranted (last.is g) (ranges last.at g last.within) in
    let article_is : g.article ≡ article = grind (arith, nat_tests, last.passes) in
    let behind : x.range.end <ℤ g.range.begin = precedes.behind (same ∙ sym article_is) in
    natural_le x.range.end g.range.end (omega (arith, ints, behind, values.some))

greatest_step : (article : ℕ) (x : Grant) (xs : List Grant) (o : Option Grant) → MeansLast (is_of_article article) xs o → end_of o ≡ greatest_end article xs → AllByRecursion (Precedes x) xs → All IsGranted xs
    → (b : Bool) → is_of_article article x ≡ b → end_of (option_or o (cond b (Some x) None)) ≡ cond b (max (natural x.range.end) (greatest_end article xs)) (greatest_end article xs)
greatest_step article x xs (Some g) last rest precede ranges true is =
    let same : x.article ≡ article = grind (arith, nat_tests, is) in
    let later = ends_later article x xs g precede ranges same last in
    omega (arith, later, rest)
greatest_step article x xs (Some g) last rest precede ranges false is = rest
greatest_step article x xs None none rest precede ranges true is = omega (arith, rest)
greatest_step article x xs None none rest precede ranges false is = rest

pub greatest_last : (article : ℕ) (xs : List Grant) → AreInOrder xs → All IsGranted xs → end_of (last_where (is_of_article article) xs) ≡ greatest_end article xs
greatest_last article [] order ranges = refl
greatest_last article (x ∷ xs) order ranges =
    let tail = All-tail IsGranted x xs ranges in
    greatest_step article x xs (last_where (is_of_article article) xs) (last_means (is_of_article article) xs) (greatest_last article xs order.1 tail) order.0 tail (is_of_article article x) refl

-- how many grants a site has of an article is the number of its last one
abbrev pub number_of : Option Grant → ℕ
number_of None = 0
number_of (Some g) = g.number

module _ (article site : ℕ) (xs : List Grant) (order : AreInOrder xs) (numbered : AreNumbered xs) (g : Grant) (last : IsLast (is_to article site) xs g) where
  by_place : (k : ℕ) (d : Grant) → k < length xs → is_of article site (get_or xs k d) ≡ true → (before behind : Bool) → nat_lt k last.at ≡ before → nat_lt last.at k ≡ behind → (get_or xs k d).number ≤ g.number
  by_place k d within of true behind is_before is_behind =
      let less : k < last.at = grind (arith, nat_tests, is_before) in
      let precedes : Precedes (get_or xs k d) g = subst (Precedes (get_or xs k d)) (last.is d) (precedes_later xs order k last.at d less last.within) in
      let article_is : (get_or xs k d).article ≡ g.article = grind (arith, nat_tests, of, last.passes) in
      let site_is : (get_or xs k d).site.0 ≡ g.site.0 = grind (arith, nat_tests, of, last.passes) in
      let below : (get_or xs k d).number < g.number = precedes.numbered article_is site_is in
      omega (arith, below)
  by_place k d within of false true is_before is_behind =
      let more : last.at < k = grind (arith, nat_tests, is_behind) in
      let no : is_of article site (get_or xs k d) ≡ false = last.none k d more within in
      let never : true ≡ false = sym of ∙ no in
      absurd cc
  by_place k d within of false false is_before is_behind =
      let same : k ≡ last.at = grind (arith, nat_tests, is_before, is_behind) in
      let is : get_or xs k d ≡ g = ap (λ n. get_or xs n d) same ∙ last.is d in
      omega (arith, ap (λ (x : Grant). x.number) is)

  not_numbered : (n k : ℕ) (d : Grant) → g.number < n → k < length xs → (b : Bool) → is_of article site (get_or xs k d) ≡ b → is_numbered article site n (get_or xs k d) ≡ false
  not_numbered n k d above within true of =
      let le = by_place k d within of (nat_lt k last.at) (nat_lt last.at k) refl refl in
      grind (arith, nat_tests, of, le)
  not_numbered n k d above within false of = rw of refl

  not_above : (b : Bool) → nat_lt g.number (granted_to article site xs) ≡ b → granted_to article site xs ≤ g.number
  not_above true is =
      let above : g.number < granted_to article site xs = grind (arith, nat_tests, is) in
      let none : count_by (is_numbered article site (granted_to article site xs)) xs ≡ 0 =
      count_none (is_numbered article site (granted_to article site xs)) xs (λ k d within. not_numbered (granted_to article site xs) k d above within (is_of article site (get_or xs k d)) refl) in
      absurd (grind (arith, nat_tests, numbered article site (granted_to article site xs), none, above))
  not_above false is = grind (arith, nat_tests, is)

  last_is_count : g.number ≡ granted_to article site xs
  last_is_count =
      let of : is_of article site (get_or xs last.at g) ≡ true = ap (is_of article site) (last.is g) ∙ last.passes in
      let upper = numbers_le article site xs numbered last.at g last.within of in
      let number_is : (get_or xs last.at g).number ≡ g.number = ap (λ (x : Grant). x.number) (last.is g) in
      let lower = not_above (nat_lt g.number (granted_to article site xs)) refl in
      omega (arith, upper, number_is, lower)

granted_step : (article site : ℕ) (xs : List Grant) → AreInOrder xs → AreNumbered xs → (o : Option Grant) → MeansLast (is_to article site) xs o → number_of o ≡ granted_to article site xs
granted_step article site xs order numbered (Some g) last = last_is_count article site xs order numbered g last
granted_step article site xs order numbered None none = sym (count_none (is_of article site) xs none)

pub granted_last : (article site : ℕ) (xs : List Grant) → AreInOrder xs → AreNumbered xs → number_of (last_where (is_to article site) xs) ≡ granted_to article site xs
granted_last article site xs order numbered = granted_step article site xs order numbered (last_where (is_to article site) xs) (last_means (is_to article site) xs)

-- a test that one member alone can pass, and one that none passes
pub any_none : (p : Grant → Bool) (xs : List Grant) → ((k : ℕ) (d : Grant) → k < length xs → p (get_or xs k d) ≡ false) → list_any p xs ≡ false
any_none p [] none = refl
any_none p (x ∷ xs) none = rw (none 0 x (omega arith)) (any_none p xs (λ k d within. none (suc k) d (omega arith)))

or_none : (b : Bool) → (b || false) ≡ b
or_none true = refl
or_none false = refl

pub any_at : (p : Grant → Bool) (xs : List Grant) (i : ℕ) (d : Grant) → i < length xs → ((k : ℕ) (e : Grant) → k < length xs → k ≢ i → p (get_or xs k e) ≡ false) → list_any p xs ≡ p (get_or xs i d)
any_at p [] i d within none = absurd (omega (arith, within))
any_at p (x ∷ xs) zero d within none = ap (λ b. p x || b) (any_none p xs (λ k e in_xs. none (suc k) e (omega arith) (omega arith))) ∙ or_none (p x)
any_at p (x ∷ xs) (suc i) d within none = rw (none 0 x (omega arith) (omega arith)) (any_at p xs i d (omega arith) (λ k e in_xs other. none (suc k) e (omega arith) (omega (arith, other))))

-- ranges that begin no later than a value stand before those that begin later
starts_before : (article : ℕ) (value : ℤ) (x y : Grant) → Precedes x y → IsGranted x → starts_by article value y ≡ true → starts_by article value x ≡ true
starts_before article value x y precedes values passes =
    elim (nat_lt x.article article) as (λ b. nat_lt x.article article ≡ b → (b || (nat_eq x.article article && int_le x.range.begin value)) ≡ true) [
      | true ↦ λ _. refl
      | false ↦ λ is.
          let same : x.article ≡ y.article = grind (arith, nat_tests, is, precedes.by_article, passes) in
          let behind : x.range.end <ℤ y.range.begin = precedes.behind same in
          grind (arith, ints, nat_tests, is, passes, precedes.by_article, behind, values.some)
    ] refl

pub partitioned-by_start : (article : ℕ) (value : ℤ) (xs : List Grant) → AreInOrder xs → All IsGranted xs → IsPartitionedBy (starts_by article value) xs
partitioned-by_start article value xs order ranges i j d le within passes =
    elim (nat_lt i j) as (λ b. nat_lt i j ≡ b → starts_by article value (get_or xs i d) ≡ true) [
      | true ↦ λ is.
          let less : i < j = grind (arith, nat_tests, is) in
          starts_before article value (get_or xs i d) (get_or xs j d) (precedes_later xs order i j d less within) (ranges i d (omega arith)) passes
      | false ↦ λ is.
          let same : j ≡ i = grind (arith, nat_tests, is, le) in
          ap (λ n. starts_by article value (get_or xs n d)) (sym same) ∙ passes
    ] refl

abbrev pub gives_to : ℕ → ℕ → ℤ → Grant → Bool
gives_to article site value grant = is_of article site grant && is_in value grant.range

behind_fails : (article site : ℕ) (value : ℤ) (x : Grant) → starts_by article value x ≡ false → gives_to article site value x ≡ false
behind_fails article site value x fails = grind (arith, ints, nat_tests, fails)

before_fails : (article site : ℕ) (value : ℤ) (x l : Grant) → Precedes x l → starts_by article value l ≡ true → gives_to article site value x ≡ false
before_fails article site value x l precedes passes =
    elim (nat_eq x.article article) as (λ b. nat_eq x.article article ≡ b → ((b && nat_eq x.site.0 site) && is_in value x.range) ≡ false) [
      | true ↦ λ is.
          let same : x.article ≡ l.article = grind (arith, nat_tests, is, precedes.by_article, passes) in
          let behind : x.range.end <ℤ l.range.begin = precedes.behind same in
          grind (arith, ints, nat_tests, is, passes, precedes.by_article, behind)
      | false ↦ λ _. refl
    ] refl

module _ (article site : ℕ) (value : ℤ) (xs : List Grant) (order : AreInOrder xs) (at : ℕ) (point : IsPartitionPoint (λ (y : Grant). starts_by article value y ≡ true) (λ (y : Grant). starts_by article value y ≡ false) xs at) where
  -- a value lies in no range where all begin later
  pub granted_none : at ≡ 0 → is_granted article site value xs ≡ false
  granted_none first = any_none (gives_to article site value) xs (λ k d within. behind_fails article site value (get_or xs k d) (point.1 k d (omega (arith, first)) within))

  -- else only in the last one that begins no later
  others_fail : (i : ℕ) → at ≡ i + 1 → at ≤ length xs → (k : ℕ) (e : Grant) → k < length xs → k ≢ i → gives_to article site value (get_or xs k e) ≡ false
  others_fail i is le k e within other =
      elim (nat_lt k i) as (λ b. nat_lt k i ≡ b → gives_to article site value (get_or xs k e) ≡ false) [
        | true ↦ λ before.
            let less : k < i = grind (arith, nat_tests, before) in
            before_fails article site value (get_or xs k e) (get_or xs i e) (precedes_later xs order k i e less (omega (arith, is, le))) (point.0 i e (omega (arith, is, le)) (omega (arith, is)))
        | false ↦ λ behind.
            let not_less : i ≤ k = grind (arith, nat_tests, behind) in
            behind_fails article site value (get_or xs k e) (point.1 k e (omega (arith, is, not_less, other)) within)
      ] refl

  pub granted_at : (i : ℕ) (d : Grant) → at ≡ i + 1 → at ≤ length xs → gives_to article site value (get_or xs i d) ≡ is_granted article site value xs
  granted_at i d is le = sym (any_at (gives_to article site value) xs i d (omega (arith, is, le)) (others_fail i is le))

-- the grant behind which articles are later
module _ (article : ℕ) (xs : List Grant) (order : AreInOrder xs) (at : ℕ) (bound : at ≤ length xs) (point : IsPartitionPoint (λ (y : Grant). nat_le y.article article ≡ true) (λ (y : Grant). nat_le y.article article ≡ false) xs at) where
  beyond : (k : ℕ) (d : Grant) → at ≤ k → k < length xs → is_of_article article (get_or xs k d) ≡ false
  beyond k d from within = let fails : nat_le (get_or xs k d).article article ≡ false = point.1 k d from within in grind (arith, nat_tests, fails)

  up_to : (k : ℕ) (d : Grant) → k < at → (get_or xs k d).article ≤ article
  up_to k d below = let passes : nat_le (get_or xs k d).article article ≡ true = point.0 k d (omega (arith, below, bound)) below in grind (arith, nat_tests, passes)

  pub last_of_empty : at ≡ 0 → None ≡ last_where (is_of_article article) xs
  last_of_empty first = sym (last_none (is_of_article article) xs (λ k d within. beyond k d (omega (arith, first)) within))

  others : (d : Grant) → (at ≡ 0 → ⊥) → ((get_or xs (at - 1) d).article ≡ article → ⊥) → (k : ℕ) (e : Grant) → k < length xs → is_of_article article (get_or xs k e) ≡ false
  others d some other k e within =
      elim (nat_lt k at) as (λ b. nat_lt k at ≡ b → is_of_article article (get_or xs k e) ≡ false) [
        | true ↦ λ before.
            let below : k < at = grind (arith, nat_tests, before) in
            let last : (get_or xs (at - 1) d).article ≤ article = up_to (at - 1) d (omega (arith, some, below)) in
            let le : (get_or xs k d).article ≤ (get_or xs (at - 1) d).article = article_rises k d below in
            let same : get_or xs k e ≡ get_or xs k d = get_or_default xs k e d within in
            let less : (get_or xs k d).article < article = omega (arith, last, le, other) in
            ap (is_of_article article) same ∙ fails_below (get_or xs k d) less
        | false ↦ λ behind. beyond k e (grind (arith, nat_tests, behind)) within
      ] refl
    where
      fails_below : (y : Grant) → y.article < article → is_of_article article y ≡ false
      fails_below y less = grind (arith, nat_tests, less)

      article_rises : (k : ℕ) (d : Grant) → k < at → (get_or xs k d).article ≤ (get_or xs (at - 1) d).article
      article_rises k d below =
          elim (nat_lt k (at - 1)) as (λ b. nat_lt k (at - 1) ≡ b → (get_or xs k d).article ≤ (get_or xs (at - 1) d).article) [
            | true ↦ λ before.
                let less : k < at - 1 = grind (arith, nat_tests, before) in
                (precedes_later xs order k (at - 1) d less (omega (arith, below, bound))).by_article
            | false ↦ λ last.
                let same : k ≡ at - 1 = grind (arith, nat_tests, last, below) in
                omega (arith, ap (λ n. (get_or xs n d).article) same)
          ] refl

  pub last_of_other : (d : Grant) → (at ≡ 0 → ⊥) → ((get_or xs (at - 1) d).article ≡ article → ⊥) → None ≡ last_where (is_of_article article) xs
  last_of_other d some other = sym (last_none (is_of_article article) xs (others d some other))

  pub last_of_same : (d : Grant) → (at ≡ 0 → ⊥) → (get_or xs (at - 1) d).article ≡ article → Some (get_or xs (at - 1) d) ≡ last_where (is_of_article article) xs
  last_of_same d some same =
      let passes : is_of_article article (get_or xs (at - 1) d) ≡ true = grind (arith, nat_tests, same) in
      sym (last_at (is_of_article article) xs (at - 1) d (omega (arith, some, bound)) passes (λ k e above within. beyond k e (omega (arith, above, some)) within))

-- the walk back over an article's grants
module _ (article site : ℕ) (xs : List Grant) (order : AreInOrder xs) (at : ℕ) (bound : at ≤ length xs) (none : (k : ℕ) (d : Grant) → at ≤ k → k < length xs → is_to article site (get_or xs k d) ≡ false) where
  pub to_found : (d : Grant) → 0 < at → (get_or xs (at - 1) d).article ≡ article → (get_or xs (at - 1) d).site.0 ≡ site → Some (get_or xs (at - 1) d) ≡ last_where (is_to article site) xs
  to_found d some same here =
      let passes : is_to article site (get_or xs (at - 1) d) ≡ true = grind (arith, nat_tests, same, here) in
      sym (last_at (is_to article site) xs (at - 1) d (omega (arith, some, bound)) passes (λ k e above within. none k e (omega (arith, above, some)) within))

  pub to_none : at ≤ 0 → None ≡ last_where (is_to article site) xs
  to_none first = sym (last_none (is_to article site) xs (λ k d within. none k d (omega (arith, first)) within))

  before_other : (d : Grant) → (y : Grant) → y.article ≤ (get_or xs (at - 1) d).article → (get_or xs (at - 1) d).article ≤ article → ((get_or xs (at - 1) d).article ≡ article → ⊥) → is_to article site y ≡ false
  before_other d y le last other =
      let less : y.article < article = omega (arith, le, last, other) in
      let no : nat_eq y.article article ≡ false = grind (arith, nat_tests, less) in
      rw no refl

  pub to_other : (d : Grant) → 0 < at → (get_or xs (at - 1) d).article ≤ article → ((get_or xs (at - 1) d).article ≡ article → ⊥) → None ≡ last_where (is_to article site) xs
  to_other d some last other = sym (last_none (is_to article site) xs (λ k e within.
      elim (nat_lt k at) as (λ b. nat_lt k at ≡ b → is_to article site (get_or xs k e) ≡ false) [
        | true ↦ λ before.
            let below : k < at = grind (arith, nat_tests, before) in
            ap (is_to article site) (get_or_default xs k e d within) ∙ before_other d (get_or xs k d) (rises k d below) last other
        | false ↦ λ behind. none k e (grind (arith, nat_tests, behind)) within
      ] refl))
    where
      rises : (k : ℕ) (d : Grant) → k < at → (get_or xs k d).article ≤ (get_or xs (at - 1) d).article
      rises k d below =
          elim (nat_lt k (at - 1)) as (λ b. nat_lt k (at - 1) ≡ b → (get_or xs k d).article ≤ (get_or xs (at - 1) d).article) [
            | true ↦ λ before.
                let less : k < at - 1 = grind (arith, nat_tests, before) in
                (precedes_later xs order k (at - 1) d less (omega (arith, below, bound))).by_article
            | false ↦ λ last'.
                let same : k ≡ at - 1 = grind (arith, nat_tests, last', below) in
                omega (arith, ap (λ n. (get_or xs n d).article) same)
          ] refl

-- what is found is granted
pub last_granted : (p : Grant → Bool) (xs : List Grant) (g : Grant) → Some g ≡ last_where p xs → All IsGranted xs → IsGranted g
last_granted p xs g is ranges =
    let m : MeansLast p xs (Some g) = subst (MeansLast p xs) (sym is) (last_means p xs) in
    subst IsGranted (m.is g) (ranges m.at g m.within)

pub le_from_test : (a b : ℕ) → nat_le a b ≡ true → a ≤ b
le_from_test a b passes = grind (arith, nat_tests, passes)
