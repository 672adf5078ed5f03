-- Articles put by how many ancestors they have.
use Rattle.std.proofs.Common.{◌≡◌, ℕ, zero, suc, ◌≤◌, ◌+◌, Bool, true, false, cond, not, nat_le, nat_lt, List, [], ◌∷◌, ◌++◌, length, map, count_by, slice_index_or, Some, None, unwrap_or, refl, sym, ap, ◌∙◌, arith}
use Rattle.std.specs.List.{insert, position, position_or_len, range_with_len}
use Rattle.std.proofs.lemmas.Bool.Decides.{nat_tests}
use Rattle.std.proofs.lemmas.List.FromFn.{map-range_with_len_more, sum_by-map-range_with_len_more}
use Rattle.std.proofs.lemmas.List.Sums.{prefix_len-le-length}
use Rattle.merge_schema.specs.declared.order.Ranked.{Ranked}
use Rattle.merge_schema.specs.declared.publication.Article.{Article}
use Rattle.merge_schema.specs.Ancestors.{descendants_within}
use Rattle.merge_schema.specs.ParentsFirst.{count_below, ancestors_of, put_by, ordered_below}
use Rattle.merge_schema.specs.Ranks.{ancestors_in, place_in, ranked_at}

module _ {X : Type 0} (test : X → Bool) (xs : List X) where
  -- the place at which a test first passes, or the end
  place_or_end : unwrap_or (position test xs) (length xs) ≡ position_or_len test xs
  place_or_end = by (nat_lt (position_or_len test xs) (length xs)) refl
    where
      by : (b : Bool) → nat_lt (position_or_len test xs) (length xs) ≡ b → unwrap_or (cond b (Some (position_or_len test xs)) None) (length xs) ≡ position_or_len test xs
      by true inside = refl
      by false inside =
          let most = prefix_len-le-length (λ x. not (test x)) xs in
          grind (arith, nat_tests)

  pub place_within : unwrap_or (position test xs) (length xs) ≤ length xs
  place_within = rw place_or_end (prefix_len-le-length (λ x. not (test x)) xs)

module _ {X : Type 0} (number : X → ℕ) (x : X) where
  put_at : (xs : List X) → insert xs (position_or_len (λ y. nat_le (number x) (number y)) xs) x ≡ put_by number x xs
  put_at [] = refl
  put_at (y ∷ ys) =
      let one : 1 + position_or_len (λ y. nat_le (number x) (number y)) ys ≡ suc (position_or_len (λ y. nat_le (number x) (number y)) ys) = omega arith in
      ap (λ n. insert (y ∷ ys) (cond (not (nat_le (number x) (number y))) n 0) x) one ∙ by (nat_le (number x) (number y)) (put_at ys)
    where
      by : (b : Bool) → insert ys (position_or_len (λ y. nat_le (number x) (number y)) ys) x ≡ put_by number x ys
          → insert (y ∷ ys) (cond (not b) (suc (position_or_len (λ y. nat_le (number x) (number y)) ys)) 0) x ≡ cond b (x ∷ y ∷ ys) (y ∷ put_by number x ys)
      by true put = refl
      by false put = ap (λ (zs : List X). y ∷ zs) put

  put_before : (xs : List X) → insert xs (unwrap_or (position (λ y. nat_le (number x) (number y)) xs) (length xs)) x ≡ put_by number x xs
  put_before xs = ap (λ i. insert xs i x) (place_or_end (λ y. nat_le (number x) (number y)) xs) ∙ put_at xs

pub put_into : (next : Ranked) (order : List Ranked) → insert order (unwrap_or (position (λ (other : Ranked). nat_le next.ancestors other.ancestors) order) (length order)) next ≡ put_by ancestors_in next order
put_into next order = put_before ancestors_in next order

module _ {X Y : Type 0} (f : X → Y) (number : Y → ℕ) (x : X) where
  map_put : (xs : List X) → map f (put_by (λ z. number (f z)) x xs) ≡ put_by number (f x) (map f xs)
  map_put [] = refl
  map_put (y ∷ ys) = by (nat_le (number (f x)) (number (f y))) (map_put ys)
    where
      by : (b : Bool) → map f (put_by (λ z. number (f z)) x ys) ≡ put_by number (f x) (map f ys)
          → map f (cond b (x ∷ y ∷ ys) (y ∷ put_by (λ z. number (f z)) x ys)) ≡ cond b (f x ∷ f y ∷ map f ys) (f y ∷ put_by number (f x) (map f ys))
      by true put = refl
      by false put = ap (λ (zs : List Y). f y ∷ zs) put

pub put_ranked : (articles : List Article) (place : ℕ) (places : List ℕ)
    → put_by ancestors_in (ranked_at articles place) (map (ranked_at articles) places) ≡ map (ranked_at articles) (put_by (ancestors_of articles) place places)
put_ranked articles place places = sym (map_put (ranked_at articles) ancestors_in place places)

pub places_ranked : (articles : List Article) (places : List ℕ) → map place_in (map (ranked_at articles) places) ≡ places
places_ranked articles [] = refl
places_ranked articles (place ∷ places) = ap (λ others. place ∷ others) (places_ranked articles places)

module _ {X : Type 0} (test : X → Bool) (f : ℕ → X) where
  one_or_none : (b : Bool) (c d : ℕ) → c ≡ d → c + cond b 1 0 ≡ cond b (suc d) d
  one_or_none true c d same = omega arith
  one_or_none false c d same = omega arith

  counted_below : (n : ℕ) → count_by test (map f (range_with_len 0 n)) ≡ count_below (λ i. test (f i)) n
  counted_below zero = refl
  counted_below (suc n) =
      let next : suc n ≡ n + 1 = omega arith in
      let more = sum_by-map-range_with_len_more (λ (x : X). cond (test x) 1 0) f 0 n n (omega arith) in
      ap (λ m. count_by test (map f (range_with_len 0 m))) next ∙ more ∙ one_or_none (test (f n)) (count_by test (map f (range_with_len 0 n))) (count_below (λ i. test (f i)) n) (counted_below n)

pub ancestors_counted : (articles : List Article) (place : ℕ)
    → count_by (λ (marks : List Bool). slice_index_or marks place false) (map (descendants_within (length articles) articles) (range_with_len 0 (length articles))) ≡ ancestors_of articles place
ancestors_counted articles place = counted_below (λ (marks : List Bool). slice_index_or marks place false) (descendants_within (length articles) articles) (length articles)

-- the descendants of one article more
pub one_more_marked : (f : ℕ → List Bool) (marked new : List (List Bool)) (place : ℕ) (marks : List Bool)
    → marked ≡ map f (range_with_len 0 place) → marks ≡ f place → new ≡ marked ++ marks ∷ [] → new ≡ map f (range_with_len 0 (place + 1))
one_more_marked f marked new place marks so_far same pushed =
    let here : 0 + place ≡ place = omega arith in
    pushed ∙ (ap (λ (l : List (List Bool)). l ++ marks ∷ []) so_far ∙ (ap (λ (m : List Bool). map f (range_with_len 0 place) ++ m ∷ []) same ∙ sym (map-range_with_len_more f 0 place place here)))

abbrev pub ranked_by : ℕ → ℕ → Ranked
ranked_by place count = record { place = place; ancestors = count }

-- one article more, ranked by the lists that have it
pub one_more_ranked : (articles : List Article) (place count : ℕ) (marked listed : List (List Bool)) (order new : List Ranked)
    → marked ≡ map (descendants_within (length articles) articles) (range_with_len 0 (length articles)) → listed ≡ marked
    → count ≡ count_by (λ (marks : List Bool). slice_index_or marks place false) listed
    → order ≡ map (ranked_at articles) (ordered_below (ancestors_of articles) place)
    → new ≡ put_by ancestors_in (ranked_by place count) order
    → new ≡ map (ranked_at articles) (ordered_below (ancestors_of articles) (place + 1))
one_more_ranked articles place count marked listed order new each same counted so_far put =
    let all : count ≡ ancestors_of articles place = counted ∙ (ap (λ (l : List (List Bool)). count_by (λ (marks : List Bool). slice_index_or marks place false) l) (same ∙ each) ∙ ancestors_counted articles place) in
    let next : suc place ≡ place + 1 = omega arith in
    put ∙ (ap (λ (n : ℕ). put_by ancestors_in (ranked_by place n) order) all ∙ (ap (λ (l : List Ranked). put_by ancestors_in (ranked_at articles place) l) so_far
    ∙ (put_ranked articles place (ordered_below (ancestors_of articles) place) ∙ ap (λ (n : ℕ). map (ranked_at articles) (ordered_below (ancestors_of articles) n)) next)))
