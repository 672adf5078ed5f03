-- Partitions are by article and row, where the live rows are.
use Rattle.std.specs.Prelude.{◌≡◌, ◌≤◌, ◌+◌, ◌++◌, ◌==◌, ℕ, zero, suc, List, [], ◌∷◌, Bool, true, false, refl, cond, filter, length}
use Rattle.std.specs.List.{AllByRecursion, flat_map, range_with_len}
use Rattle.std.specs.List.Sorted.{IsStrictlySortedBy}
use Rattle.std.specs.declared.cmp.Ordering.{Ordering}
use Rattle.std.specs.declared.cmp.Ordering.TheVariants.{Less}
use Rattle.std.proofs.Common.{arith}
use Rattle.std.proofs.lemmas.Bool.Decides.{nat_tests}
use Rattle.std.proofs.lemmas.List.Elements.{All-append, All-from_recursion, recursion_from_All}
use Rattle.std.proofs.lemmas.List.Kept.{IsStrictlySortedBy-filter}
use Rattle.merge_types.specs.RowKeys.{key_cmp}
use Rattle.merge_types.specs.declared.identifiers.HostName.{HostName}
use Rattle.merge_types.specs.declared.row_key.RowKey.{RowKey}
use Rattle.merge_schema.specs.declared.publication.JoinFilter.{JoinFilter}
use Rattle.merge_schema.specs.declared.publication.Publication.{Publication}
use Rattle.merge_schema.specs.Partition.{LiveRow, belongs, joins_at, partition_of, rows_inside, rows_of, rows_within}

abbrev pub key_of : LiveRow → RowKey
key_of row = record { article = row.article; row = row.row }

abbrev pub live_cmp : LiveRow → LiveRow → Ordering
live_cmp a b = key_cmp (key_of a) (key_of b)

abbrev pub IsAbove : RowKey → LiveRow → Type 0
IsAbove key row = key_cmp key (key_of row) ≡ Less

abbrev pub Ascend : List LiveRow → Type 0
Ascend rows = IsStrictlySortedBy live_cmp rows

pub none_ascend : Ascend []
unfolding IsStrictlySortedBy
none_ascend = tt

-- Lists of one article each, by article, ascend together.

abbrev IsOf : ℕ → LiveRow → Type 0
IsOf place row = row.article ≡ place

abbrev IsFrom : ℕ → LiveRow → Type 0
IsFrom least row = least ≤ row.article

append_all : (P : LiveRow → Type 0) (xs ys : List LiveRow) → AllByRecursion P xs → AllByRecursion P ys → AllByRecursion P (xs ++ ys)
append_all P xs ys first second = recursion_from_All P (xs ++ ys) (All-append P xs ys (All-from_recursion P xs first) (All-from_recursion P ys second))

less_article : (a b : RowKey) → a.article + 1 ≤ b.article → key_cmp a b ≡ Less
less_article a b less = grind (arith, nat_tests, less)

of_from : (least place : ℕ) → least ≤ place → (xs : List LiveRow) → AllByRecursion (IsOf place) xs → AllByRecursion (IsFrom least) xs
of_from least place within [] all = tt
of_from least place within (x ∷ xs) all = (omega (arith, within, all.0), of_from least place within xs all.1)

above_from : (x : LiveRow) (place : ℕ) → x.article ≡ place → (ys : List LiveRow) → AllByRecursion (IsFrom (place + 1)) ys → AllByRecursion (IsAbove (key_of x)) ys
above_from x place is [] all = tt
above_from x place is (y ∷ ys) all = (less_article (key_of x) (key_of y) (omega (arith, is, all.0)), above_from x place is ys all.1)

front_ascends : (place : ℕ) (xs ys : List LiveRow) → Ascend xs → AllByRecursion (IsOf place) xs → Ascend ys → AllByRecursion (IsFrom (place + 1)) ys → Ascend (xs ++ ys)
unfolding IsStrictlySortedBy
front_ascends place [] ys sorted own behind from = behind
front_ascends place (x ∷ xs) ys sorted own behind from =
    (append_all (IsAbove (key_of x)) xs ys sorted.0 (above_from x place own.0 ys from), front_ascends place xs ys sorted.1 own.1 behind from)

module _ (f : ℕ → List LiveRow) (ascend : (place : ℕ) → Ascend (f place)) (own : (place : ℕ) → AllByRecursion (IsOf place) (f place)) where
  all_from : (least from n : ℕ) → least ≤ from → AllByRecursion (IsFrom least) (flat_map f (range_with_len from n))
  all_from least from zero within = tt
  all_from least from (suc n) within = append_all (IsFrom least) (f from) (flat_map f (range_with_len (from + 1) n)) (of_from least from within (f from) (own from)) (all_from least (from + 1) n (omega (arith, within)))

  all_ascend : (from n : ℕ) → Ascend (flat_map f (range_with_len from n))
  all_ascend from zero = none_ascend
  all_ascend from (suc n) = front_ascends from (f from) (flat_map f (range_with_len (from + 1) n)) (ascend from) (own from) (all_ascend (from + 1) n) (all_from (from + 1) (from + 1) n (omega arith))

-- The rows of an article that are inside.

kept_head : (place : ℕ) (x : LiveRow) (kept : List LiveRow) (b : Bool) → (b ≡ true → x.article ≡ place) → AllByRecursion (IsOf place) kept → AllByRecursion (IsOf place) (cond b (x ∷ kept) kept)
kept_head place x kept true is all = (is refl, all)
kept_head place x kept false is all = all

kept_of : (place : ℕ) (test : LiveRow → Bool) (xs : List LiveRow) → AllByRecursion (IsOf place) xs → AllByRecursion (IsOf place) (filter test xs)
kept_of place test [] all = tt
kept_of place test (x ∷ xs) all = kept_head place x (filter test xs) (test x) (λ _. all.0) (kept_of place test xs all.1)

own_rows : (place : ℕ) (live : List LiveRow) → AllByRecursion (IsOf place) (rows_of place live)
own_rows place [] = tt
own_rows place (x ∷ live) = kept_head place x (rows_of place live) (x.article == place) (λ is. grind (arith, nat_tests, is)) (own_rows place live)

module _ (publication : Publication) (host : HostName) (live : List LiveRow) where
  abbrev belonging : ℕ → ℕ → LiveRow → Bool
  belonging n place = belongs publication host (flat_map (λ (join : JoinFilter). rows_within n publication host live join.parent) (joins_at publication place))

  within_of : (n place : ℕ) → AllByRecursion (IsOf place) (rows_within n publication host live place)
  within_of zero place = tt
  within_of (suc n) place = kept_of place (belonging n place) (rows_of place live) (own_rows place live)

  within_ascend : Ascend live → (n place : ℕ) → Ascend (rows_within n publication host live place)
  within_ascend sorted zero place = none_ascend
  within_ascend sorted (suc n) place = IsStrictlySortedBy-filter live_cmp (belonging n place) (rows_of place live) (IsStrictlySortedBy-filter live_cmp (λ (row : LiveRow). row.article == place) live sorted)

  pub partition_ascends : Ascend live → Ascend (partition_of publication host live)
  partition_ascends sorted = all_ascend (rows_inside publication host live) (within_ascend sorted (length publication.articles)) (within_of (length publication.articles)) 0 (length publication.articles)
