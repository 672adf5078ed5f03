-- Lists of closed generations.
use Rattle.std.proofs.Common.{◌≡◌, ℕ, ◌+◌, ◌-◌, ◌<◌, ◌≤◌, nat_lt, nat_le, nat_eq, Bool, List, [], ◌∷◌, ◌++◌, map, length, get_or, zero, suc, Some, None, not, arith, refl, sym, ap, ◌∙◌, subst, Ok, Err, append-nil, append_assoc, add-zero, add-one}
use Rattle.std.specs.List.{filter, find, count_by, All, AllPairs, range_with_len}
use Rattle.std.specs.List.Sorted.{IsBinarySearchResult, IsNonDecreasingBy}
use Rattle.std.specs.Option.{option_map}
use Rattle.std.specs.Ordering.{nat_cmp, ordering_index}
use Rattle.std.proofs.lemmas.Cmp.{ranked}
use Rattle.std.proofs.lemmas.List.Elements.{All-push, All-filter}
use Rattle.std.proofs.lemmas.List.Quantifiers.{all_pairs_push}
use Rattle.std.proofs.lemmas.List.Kept.{AllPairs-filter}
use Rattle.std.proofs.lemmas.List.FromFn.{map-range_with_len_more}
use Rattle.std.proofs.lemmas.List.Sums.{length-filter}
use Rattle.std.proofs.lemmas.List.Filters.{length-filter_both}
use Rattle.std.proofs.lemmas.Bool.Decides.{nat_tests}
use Rattle.merge_types.specs.declared.Moment.{Moment}
use Rattle.merge_gens.specs.declared.filling.Filling.{Filling}
use Rattle.merge_gens.specs.declared.closings.Closing.{Closing}
use Rattle.merge_types.specs.Limits.{entry_limit}
use Rattle.merge_gens.specs.Book.{Book, IsSound, closing_at, closings_between, moved_to, moment_of}

-- what is dropped and what is kept make up the list
pub count_kept : (kept dropped : Closing → Bool) → ((c : Closing) → dropped c ≡ not (kept c)) → (xs : List Closing) → length (filter kept xs) + count_by dropped xs ≡ length xs
count_kept kept dropped other xs = rw (← length-filter dropped xs) (length-filter_both _ _ other xs)

-- in an ascending list the one that stands at a place is found
pub find_at_place : (generation : ℕ) (xs : List Closing) (i : ℕ) (d : Closing) → i < length xs → AllPairs (λ (a b : Closing). a.generation < b.generation) xs
    → (get_or xs i d).generation ≡ generation → find (λ (c : Closing). nat_eq c.generation generation) xs ≡ Some (get_or xs i d)
find_at_place generation [] i d below ascending at = absurd (omega arith)
find_at_place generation (x ∷ xs) zero d below ascending at = grind (arith, nat_tests)
find_at_place generation (x ∷ xs) (suc i) d below ascending at =
    let before : x.generation < (get_or xs i d).generation = ascending 0 (suc i) d (omega arith) below in
    let rest = find_at_place generation xs i d (omega arith) (λ a b e less within. ascending (suc a) (suc b) e (omega arith) (omega arith)) at in
    grind (arith, nat_tests, rest)

-- where no member has the number, none is found
pub find_nowhere : (generation : ℕ) (xs : List Closing) → ((k : ℕ) (d : Closing) → k < length xs → (get_or xs k d).generation ≡ generation → ⊥) → find (λ (c : Closing). nat_eq c.generation generation) xs ≡ None
find_nowhere generation [] none = refl
find_nowhere generation (x ∷ xs) none =
    let rest = find_nowhere generation xs (λ k d within same. none (suc k) d (omega arith) same) in
    let head : x.generation ≡ generation → ⊥ = none 0 x (omega arith) in
    grind (arith, nat_tests, rest, head)

module _ (generation : ℕ) (xs : List Closing) (ascending : AllPairs (λ (a b : Closing). a.generation < b.generation) xs) where
  -- the comparisons with the number rise along the list, as a search by halves asks
  comparisons_rise : IsNonDecreasingBy (λ (c : Closing). ordering_index (nat_cmp c.generation generation)) xs
  comparisons_rise i j d onward within =
      let rise : (get_or xs i d).generation ≤ (get_or xs j d).generation = grind (arith, ascending i j d, λ (same : i ≡ j). ap (λ k. (get_or xs k d).generation) same) in
      grind (arith, nat_tests)

  -- a search by halves ends at what is found there, and at nothing where nothing is
  pub found_at : (i : ℕ) (d : Closing) → i < length xs → IsBinarySearchResult (λ (c : Closing). nat_cmp c.generation generation) xs (Ok i) → Some (get_or xs i d).moment.0 ≡ moment_of xs generation
  found_at i d within equal = ap (option_map (λ (c : Closing). c.moment.0)) (sym (find_at_place generation xs i d within ascending (ranked _ generation _ (sym (equal d)))))

  pub found_nowhere : (i : ℕ) → IsBinarySearchResult (λ (c : Closing). nat_cmp c.generation generation) xs (Err i) → None ≡ moment_of xs generation
  found_nowhere i parted = ap (option_map (λ (c : Closing). c.moment.0)) (sym (find_nowhere generation xs (λ k d within same.
      let before : k < i → (get_or xs k d).generation < generation = λ less. ranked _ generation _ (sym ((parted comparisons_rise).0 k d (omega arith) less)) in
      let after : i ≤ k → generation < (get_or xs k d).generation = λ le. ranked _ generation _ (sym ((parted comparisons_rise).1 k d le within)) in
      grind (arith, before, after, same))))

-- generations in ascending order, none above a bound
record Ascending (bound : ℕ) (xs : List Closing) : Type 0 where
  pub order : AllPairs (λ (a b : Closing). a.generation < b.generation) xs
  pub within : All (λ (c : Closing). c.generation ≤ bound) xs

-- the next generation behind them
ascending_push : (bound next : ℕ) (moment : Moment) (xs : List Closing) → next ≡ bound + 1 → Ascending bound xs → Ascending next (xs ++ closing_at moment next ∷ [])
ascending_push bound next moment xs is ascending = record {
  order = all_pairs_push (λ (a b : Closing). a.generation < b.generation) xs (closing_at moment next) ascending.order (λ k d less. let at = ascending.within k d less in omega (arith, at));
  within = All-push (λ (c : Closing). c.generation ≤ next) xs (closing_at moment next) (λ k d less. let at = ascending.within k d less in omega (arith, at)) (omega arith);
}

-- so many generations behind them
ascending_more : (from : ℕ) (moment : Moment) (xs : List Closing) → Ascending from xs → (n : ℕ) → Ascending (from + n) (xs ++ map (closing_at moment) (range_with_len (from + 1) n))
ascending_more from moment xs ascending zero = rw (append-nil, add-zero) ascending
ascending_more from moment xs ascending (suc n) =
    let longer : map (closing_at moment) (range_with_len (from + 1) (suc n)) ≡ map (closing_at moment) (range_with_len (from + 1) n) ++ closing_at moment (from + suc n) ∷ [] =
    ap (λ m. map (closing_at moment) (range_with_len (from + 1) m)) (sym (add-one n)) ∙ map-range_with_len_more (closing_at moment) (from + 1) n (from + suc n) (omega arith) in
    rw (longer, ← append_assoc xs (map (closing_at moment) (range_with_len (from + 1) n)) (closing_at moment (from + suc n) ∷ []))
    (ascending_push (from + n) (from + suc n) moment _ (omega arith) (ascending_more from moment xs ascending n))

-- a book that moves on stays sound
pub sound_moved : (book : Book) (filling : Filling) (moment : Moment) → IsSound book → filling.filled < entry_limit → book.filling.last_closed ≤ filling.last_closed → IsSound (moved_to book filling moment)
sound_moved book filling moment sound unfilled onward =
    let more = ascending_more book.filling.last_closed moment book.closings (record { order = sound.ascending; within = sound.closed }) (filling.last_closed - book.filling.last_closed) in
    let reached : book.filling.last_closed + (filling.last_closed - book.filling.last_closed) ≡ filling.last_closed = omega arith in
    record {
      unfilled = unfilled;
      ascending = more.order;
      closed = subst (λ bound. All (λ (c : Closing). c.generation ≤ bound) (moved_to book filling moment).closings) reached more.within;
    }

-- a book that forgets some generations stays sound
pub sound_kept : (book : Book) (p : Closing → Bool) → IsSound book → IsSound (record { filling = book.filling; closings = filter p book.closings })
sound_kept book p sound = record {
  unfilled = sound.unfilled;
  ascending = AllPairs-filter (λ (a b : Closing). a.generation < b.generation) p book.closings sound.ascending;
  closed = All-filter p (λ (c : Closing). c.generation ≤ book.filling.last_closed) book.closings sound.closed;
}

-- one more generation behind those that were added
pub closings_more : (from closed : ℕ) (moment : Moment) (xs ys : List Closing) → from ≤ closed → xs ≡ ys ++ closings_between from closed moment → xs ++ closing_at moment (closed + 1) ∷ [] ≡ ys ++ closings_between from (closed + 1) moment
closings_more from closed moment xs ys onward is =
    let count : closed + 1 - from ≡ closed - from + 1 = omega arith in
    rw (is, count, map-range_with_len_more (closing_at moment) (from + 1) (closed - from) (closed + 1) (omega arith)) (append_assoc ys (closings_between from closed moment) (closing_at moment (closed + 1) ∷ []))
