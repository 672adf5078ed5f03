-- What tables need to stand, from what a store is tested for.
use Rattle.std.specs.Prelude.{◌≡◌, ◌+◌, ◌<◌, ◌≤◌, ◌&&◌, ◌||◌, ℕ, AllPairs, Bool, true, false, List, [], ◌∷◌, nat_le}
use Rattle.std.specs.List.{AllByRecursion, list_all}
use Rattle.std.proofs.Common.{arith, refl, subst, sym}
use Rattle.std.proofs.lemmas.Bool.Decides.{nat_tests}
use Rattle.std.proofs.lemmas.List.Elements.{All-from_recursion}
use Rattle.std.proofs.lemmas.List.Kept.{AllPairs-cons}
use Rattle.merge_types.specs.Limits.{entry_limit}
use Rattle.merge_gens.specs.Book as gens
use Rattle.merge_gens.specs.declared.closings.Closing.{Closing}
use Rattle.merge_gens.specs.declared.filling.Filling.{Filling}
use Rattle.merge_conflict.specs.Rising.{RiseAbove}
use Rattle.merge_conflict.specs.declared.row.ConflictRow.{ConflictRow}
use Rattle.merge_sub.specs.Held.{HaveOpened}

-- Generations that were taken by the publisher, or are at most the open one.

opened-by : (received closed generation : ℕ) (space : Bool) → received ≤ closed → (nat_le generation received || (nat_le generation (closed + 1) && space)) ≡ true → generation ≤ closed + 1
opened-by received closed generation space within is = grind (arith, nat_tests, within, is)

and-first : (a b : Bool) → (a && b) ≡ true → a ≡ true
and-first true b is = refl
and-first false b is = is

and-second : (a b : Bool) → (a && b) ≡ true → b ≡ true
and-second true b is = is
and-second false b is = absurd cc

pub generations-opened : (received closed : ℕ) → received ≤ closed → (space : ℕ → Bool) (generations : List ℕ)
    → list_all (λ (generation : ℕ). nat_le generation received || (nat_le generation (closed + 1) && space generation)) generations ≡ true → HaveOpened closed generations
generations-opened received closed within space [] is = tt
generations-opened received closed within space (generation ∷ generations) is =
    let test : Bool = nat_le generation received || (nat_le generation (closed + 1) && space generation) in
    let rest : Bool = list_all (λ (other : ℕ). nat_le other received || (nat_le other (closed + 1) && space other)) generations in
    (opened-by received closed generation (space generation) within (and-first test rest is), generations-opened received closed within space generations (and-second test rest is))

-- Closed generations that run on from one to the last.

abbrev pub RunOn : ℕ → ℕ → List Closing → Type 0
RunOn last next [] = Unit {0}
RunOn last next (closing ∷ closings) = (closing.generation ≡ next) × (next ≤ last) × RunOn last (next + 1) closings

run-above : (last next low : ℕ) → low < next → (closings : List Closing) → RunOn last next closings → AllByRecursion (λ (closing : Closing). low < closing.generation) closings
run-above last next low less [] run = tt
run-above last next low less (closing ∷ closings) run = let at = run.0 in (omega (arith, less, at), run-above last (next + 1) low (omega (arith, less)) closings run.2)

run-closed : (last next : ℕ) (closings : List Closing) → RunOn last next closings → AllByRecursion (λ (closing : Closing). closing.generation ≤ last) closings
run-closed last next [] run = tt
run-closed last next (closing ∷ closings) run = let at = run.0 in let below = run.1 in (omega (arith, at, below), run-closed last (next + 1) closings run.2)

run-ascends : (last next : ℕ) (closings : List Closing) → RunOn last next closings → AllPairs (λ (a b : Closing). a.generation < b.generation) closings
run-ascends last next [] run = λ i j d less within. absurd (omega (arith, less, within))
run-ascends last next (closing ∷ closings) run =
    let at = run.0 in
    AllPairs-cons (λ (a b : Closing). a.generation < b.generation) closing closings
    (All-from_recursion (λ (other : Closing). closing.generation < other.generation) closings (run-above last (next + 1) closing.generation (omega (arith, at)) closings run.2))
    (run-ascends last (next + 1) closings run.2)

pub run-sound : (filling : Filling) (next : ℕ) (closings : List Closing) → filling.filled < entry_limit → RunOn filling.last_closed next closings → gens.IsSound (record { filling = filling; closings = closings })
run-sound filling next closings unfilled run = record {
  unfilled = unfilled;
  ascending = run-ascends filling.last_closed next closings run;
  closed = All-from_recursion (λ (closing : Closing). closing.generation ≤ filling.last_closed) closings (run-closed filling.last_closed next closings run);
}

-- Conflicts that are numbered on behind one, up to their count.

abbrev pub NumberedOn : ℕ → ℕ → List ConflictRow → Type 0
NumberedOn count last [] = last ≡ count
NumberedOn count last (row ∷ rows) = (row.number ≡ last + 1) × NumberedOn count (last + 1) rows

pub numbers-rise : (count last : ℕ) (rows : List ConflictRow) → NumberedOn count last rows → RiseAbove last rows
numbers-rise count last [] on = tt
numbers-rise count last (row ∷ rows) on = let at = on.0 in (omega (arith, at), subst (λ (n : ℕ). RiseAbove n rows) (sym at) (numbers-rise count (last + 1) rows on.1))

last-below : (count last : ℕ) (rows : List ConflictRow) → NumberedOn count last rows → last ≤ count
last-below count last [] on = omega (arith, on)
last-below count last (row ∷ rows) on = let rest = last-below count (last + 1) rows on.1 in omega (arith, rest)

pub numbers-below : (count last : ℕ) (rows : List ConflictRow) → NumberedOn count last rows → AllByRecursion (λ (row : ConflictRow). row.number ≤ count) rows
numbers-below count last [] on = tt
numbers-below count last (row ∷ rows) on = let at = on.0 in let rest = last-below count (last + 1) rows on.1 in (omega (arith, at, rest), numbers-below count (last + 1) rows on.1)
