-- Lists of closed generations that run on: what more closings, and a reply, leave of them.
use Rattle.std.specs.List.{AllByRecursion, range_with_len}
use Rattle.std.specs.Option.{option_map_or}
use Rattle.std.specs.Prelude.{Bool, List, Option, Some, [], cond, false, filter, find, length, map, nat_lt, option_map, refl, slice_get, suc, true, zero, ℕ, ◌++◌, ◌+◌, ◌-◌, ◌<◌, ◌==◌, ◌≡◌, ◌≤◌, ◌∷◌}
use Rattle.std.proofs.Common.{ap, arith, subst, sym, ◌∙◌}
use Rattle.std.proofs.lemmas.Bool.Decides.{nat_tests}
use Rattle.std.proofs.lemmas.List.{length-append}
use Rattle.merge_types.specs.declared.identifiers.Moment.{Moment}
use Rattle.merge_gens.specs.Book.{closing_at, closings_between, moment_of}
use Rattle.merge_gens.specs.declared.closings.Closing.{Closing}
use Rattle.merge_keeper.specs.SubscriberRules.{Run}
use Rattle.merge_keeper.specs.SubscriberStart.{last_number}
use Rattle.merge_model.proofs.Lists.Finding.{some_same}
use Rattle.merge_model.proofs.Lists.{all-append}

-- Generations from 1 on.

abbrev pub IsFromOne : Closing → Type 0
IsFromOne closing = 1 ≤ closing.generation

between-from : (moment : Moment) (from count : ℕ) → 1 ≤ from → AllByRecursion IsFromOne (map (closing_at moment) (range_with_len from count))
between-from moment from zero one = tt
between-from moment from (suc count) one = (one, between-from moment (from + 1) count (omega arith))

pub moved-from : (from to : ℕ) (moment : Moment) (closings : List Closing) → AllByRecursion IsFromOne closings → AllByRecursion IsFromOne (closings ++ closings_between from to moment)
moved-from from to moment closings all = all-append IsFromOne closings (closings_between from to moment) all (between-from moment (from + 1) (to - from) (omega arith))

-- More closings.

run-between : (moment : Moment) (last next count : ℕ) → next + count ≡ last + 1 → Run last next (map (closing_at moment) (range_with_len next count))
run-between moment last next zero is = omega (arith, is)
run-between moment last next (suc count) is = (refl, (let low : next ≤ last = omega (arith, is) in grind (arith, nat_tests, low)), run-between moment last (next + 1) count (omega (arith, is)))

pub run-moved : (last later next : ℕ) (moment : Moment) (closings : List Closing) → last ≤ later → Run last next closings → Run later next (closings ++ closings_between last later moment)
run-moved last later next moment [] up is = subst (λ (n : ℕ). Run later n (closings_between last later moment)) (sym is) (run-between moment later (last + 1) (later - last) (omega (arith, up)))
run-moved last later next moment (closing ∷ closings) up is = (is.0, (let low = is.1 in grind (arith, nat_tests, low, up)), run-moved last later (next + 1) moment closings up is.2)

-- What is received is forgotten.

run-kept : (last next received : ℕ) (closings : List Closing) → received < next → Run last next closings → Run last next (filter (λ (c : Closing). nat_lt received c.generation) closings)
run-kept last next received [] low is = is
run-kept last next received (closing ∷ closings) low is =
    let rest = run-kept last (next + 1) received closings (omega (arith, low)) is.2 in
    let here : nat_lt received closing.generation ≡ true = (let same = is.0 in grind (arith, nat_tests, same, low)) in
    kept-by (nat_lt received closing.generation) here rest
  where
    kept-by : (b : Bool) → b ≡ true → Run last (next + 1) (filter (λ (c : Closing). nat_lt received c.generation) closings)
        → Run last next (cond b (closing ∷ filter (λ (c : Closing). nat_lt received c.generation) closings) (filter (λ (c : Closing). nat_lt received c.generation) closings))
    kept-by true same rest = (is.0, is.1, rest)
    kept-by false same rest = absurd cc

forgotten-by : (last next received : ℕ) (closing : Closing) (closings : List Closing) (b : Bool) → nat_lt received closing.generation ≡ b → next ≤ received + 1 → received ≤ last → Run last next (closing ∷ closings)
    → (next + 1 ≤ received + 1 → Run last (received + 1) (filter (λ (c : Closing). nat_lt received c.generation) closings))
    → Run last (received + 1) (cond b (closing ∷ filter (λ (c : Closing). nat_lt received c.generation) closings) (filter (λ (c : Closing). nat_lt received c.generation) closings))
forgotten-by last next received closing closings true above low up is later =
    let same = is.0 in
    let here : next ≡ received + 1 = grind (arith, nat_tests, above, same, low) in
    (same ∙ here, (let within = is.1 in grind (arith, nat_tests, within, here)), subst (λ (n : ℕ). Run last (n + 1) (filter (λ (c : Closing). nat_lt received c.generation) closings)) here (run-kept last (next + 1) received closings (omega (arith, here)) is.2))
forgotten-by last next received closing closings false below low up is later = later (let same = is.0 in grind (arith, nat_tests, below, same))

pub run-forgotten : (last next received : ℕ) (closings : List Closing) → next ≤ received + 1 → received ≤ last → Run last next closings → Run last (received + 1) (filter (λ (c : Closing). nat_lt received c.generation) closings)
run-forgotten last next received [] low up is = omega (arith, low, up, is)
run-forgotten last next received (closing ∷ closings) low up is = forgotten-by last next received closing closings (nat_lt received closing.generation) refl low up is (λ more. run-forgotten last (next + 1) received closings more up is.2)

-- What is kept of each.

found-head : (b : Bool) (closing : Closing) (rest : Option Closing) (n : ℕ) → b ≡ true → (let found : Option Closing = cond b (Some closing) rest in option_map (λ (c : Closing). c.moment.0) found) ≡ Some n → closing.moment.0 ≡ n
found-head true closing rest n is found = some_same closing.moment.0 n found
found-head false closing rest n is found = absurd cc

found-rest : (b : Bool) (closing : Closing) (rest : Option Closing) (n : ℕ) → b ≡ false → (let found : Option Closing = cond b (Some closing) rest in option_map (λ (c : Closing). c.moment.0) found) ≡ Some n → option_map (λ (c : Closing). c.moment.0) rest ≡ Some n
found-rest true closing rest n is found = absurd cc
found-rest false closing rest n is found = found

pub run-keeps : (last next : ℕ) (keep : ℕ → ℕ) (closings : List Closing) → Run last next closings → ((generation : ℕ) → next ≤ generation → generation ≤ last → moment_of closings generation ≡ Some (keep generation)) → AllByRecursion (λ (c : Closing). c.moment.0 ≡ keep c.generation) closings
run-keeps last next keep [] is found = tt
run-keeps last next keep (closing ∷ closings) is found =
    let same : closing.generation ≡ next = is.0 in
    let within : next ≤ last = (let low = is.1 in grind (arith, nat_tests, low)) in
    let here : closing.moment.0 ≡ keep next = found-head (closing.generation == next) closing (find (λ (c : Closing). c.generation == next) closings) (keep next) (grind (arith, nat_tests, same)) (found next (omega arith) within) in (
      here ∙ ap keep (sym same),
      run-keeps last (next + 1) keep closings is.2 (λ generation low up. found-rest (closing.generation == generation) closing (find (λ (c : Closing). c.generation == generation) closings) (keep generation)
          (grind (arith, nat_tests, same, low)) (found generation (omega (arith, low)) up)),
    )

-- the number of the last one
last-slice : (front : List Closing) (closing : Closing) → slice_get (front ++ closing ∷ []) (length front) ≡ Some closing
last-slice [] closing = refl
last-slice (first ∷ front) closing = last-slice front closing

pub last-of-more : (front : List Closing) (closing : Closing) → last_number (front ++ closing ∷ []) ≡ closing.moment.0
last-of-more front closing =
    let long : length (front ++ closing ∷ []) ≡ length front + 1 = length-append front (closing ∷ []) in
    let at : length (front ++ closing ∷ []) - 1 ≡ length front = omega (arith, long) in
    ap (λ (k : ℕ). option_map_or (λ (c : Closing). c.moment.0) (slice_get (front ++ closing ∷ []) k) 0) at ∙ ap (λ (found : Option Closing). option_map_or (λ (c : Closing). c.moment.0) found 0) (last-slice front closing)
