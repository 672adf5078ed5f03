-- What is kept of a generation once the open one has closed.
use Rattle.std.specs.List.{AllByRecursion, range_with_len}
use Rattle.std.specs.Prelude.{◌≡◌, ◌==◌, ◌+◌, ◌-◌, ◌<◌, ◌≤◌, ◌++◌, ℕ, Bool, true, false, List, [], ◌∷◌, None, Option, Some, find, if◌then◌else◌, map, option_map, refl}
use Rattle.std.proofs.Common.{ap, arith, sym, ◌∙◌}
use Rattle.std.proofs.lemmas.Bool.Decides.{nat_tests}
use Rattle.std.proofs.lemmas.List.{append-nil}
use Rattle.std.proofs.lemmas.List.Elements.{recursion_from_All}
use Rattle.merge_types.specs.declared.identifiers.Moment.{Moment}
use Rattle.merge_gens.specs.Book.{Book, IsSound, closed_now, closing_at, closings_between, moment_of}
use Rattle.merge_gens.specs.Filling.{filling_after_close}
use Rattle.merge_gens.specs.declared.closings.Closing.{Closing}
use Rattle.merge_gens.specs.declared.filling.Filling.{Filling}

abbrev is_generation : ℕ → Closing → Bool
is_generation to closing = closing.generation == to

find-behind : (to : ℕ) (xs ys : List Closing) → AllByRecursion (λ (c : Closing). is_generation to c ≡ false) xs → find (is_generation to) (xs ++ ys) ≡ find (is_generation to) ys
find-behind to [] ys none = refl
find-behind to (x ∷ xs) ys none = rw none.0 (find-behind to xs ys none.1)

lower-none : (last to : ℕ) → last < to → (xs : List Closing) → AllByRecursion (λ (c : Closing). c.generation ≤ last) xs → AllByRecursion (λ (c : Closing). is_generation to c ≡ false) xs
lower-none last to less [] all = tt
lower-none last to less (x ∷ xs) all = let low = all.0 in (grind (arith, nat_tests, less, low), lower-none last to less xs all.1)

front-step : (x : Closing) (here : Bool) (xs ys : Option Closing) → xs ≡ ys → (let found : Option Closing = if here then Some x else xs in found) ≡ (let found : Option Closing = if here then Some x else ys in found)
front-step x true xs ys same = refl
front-step x false xs ys same = same

find-front : (to : ℕ) (c : Closing) → is_generation to c ≡ false → (xs : List Closing) → find (is_generation to) (xs ++ c ∷ []) ≡ find (is_generation to) xs
find-front to c other [] = ap (λ (b : Bool). (let found : Option Closing = if b then Some c else None in found)) other
find-front to c other (x ∷ xs) = front-step x (is_generation to x) (find (is_generation to) (xs ++ c ∷ [])) (find (is_generation to) xs) (find-front to c other xs)

-- what closes is the open generation, where it has an entry
abbrev closed_with : Bool → Filling → Filling
closed_with empty filling = if empty then filling else record { last_closed = filling.last_closed + 1; filled = 0 }

between-one : (last : ℕ) (moment : Moment) → closings_between last (last + 1) moment ≡ closing_at moment (last + 1) ∷ []
between-one last moment = ap (λ (n : ℕ). map (closing_at moment) (range_with_len (last + 1) n)) (let one : (last + 1) - last ≡ 1 = omega arith in one)

between-none : (last : ℕ) (moment : Moment) → closings_between last last moment ≡ []
between-none last moment = ap (λ (n : ℕ). map (closing_at moment) (range_with_len (last + 1) n)) (let none : last - last ≡ 0 = omega arith in none)

pub through_closed : (book : Book) (changes to : ℕ) → IsSound book → to ≡ book.filling.last_closed + 1 → 0 < book.filling.filled → moment_of (closed_now book (record { 0 = changes })).closings to ≡ Some changes
through_closed book changes to sound is some =
    let moment : Moment = record { 0 = changes } in
    let filled : (book.filling.filled == 0) ≡ false = grind (arith, nat_tests, some) in
    let closings : closings_between book.filling.last_closed (filling_after_close book.filling).last_closed moment ≡ closing_at moment (book.filling.last_closed + 1) ∷ [] =
    ap (λ (b : Bool). closings_between book.filling.last_closed (closed_with b book.filling).last_closed moment) filled ∙ between-one book.filling.last_closed moment in
    let here : is_generation to (closing_at moment (book.filling.last_closed + 1)) ≡ true = grind (arith, nat_tests, is) in
    ap (λ (more : List Closing). option_map (λ (c : Closing). c.moment.0) (find (is_generation to) (book.closings ++ more))) closings
    ∙ ap (option_map (λ (c : Closing). c.moment.0)) (find-behind to book.closings (closing_at moment (book.filling.last_closed + 1) ∷ []) (lower-none book.filling.last_closed to (omega (arith, is)) book.closings (recursion_from_All _ _ sound.closed)))
    ∙ rw here refl

some-filled : (filled : ℕ) → (filled == 0) ≡ false → 0 < filled
some-filled filled is = grind (arith, nat_tests, is)

same-number : (to last : ℕ) → (last == to) ≡ true → to ≡ last
same-number to last at = grind (arith, nat_tests, at)

another : (to last : ℕ) → (to ≡ last → ⊥) → (here : Bool) → (last == to) ≡ here → (last == to) ≡ false
another to last other true at = absurd (other (same-number to last at))
another to last other false at = at

open-kept : (book : Book) (moment : Moment) (to : ℕ) (empty : Bool) → (book.filling.filled == 0) ≡ empty → ((to ≡ book.filling.last_closed + 1) → (0 < book.filling.filled) → ⊥) → moment_of (closed_now book moment).closings to ≡ moment_of book.closings to
open-kept book moment to true is other =
    ap (λ (b : Bool). moment_of (book.closings ++ closings_between book.filling.last_closed (closed_with b book.filling).last_closed moment) to) is
    ∙ ap (λ (more : List Closing). moment_of (book.closings ++ more) to) (between-none book.filling.last_closed moment)
    ∙ ap (λ (closings : List Closing). moment_of closings to) (append-nil book.closings)
open-kept book moment to false is other =
    let differs : (book.filling.last_closed + 1 == to) ≡ false = another to (book.filling.last_closed + 1) (λ same. other same (some-filled book.filling.filled is)) (book.filling.last_closed + 1 == to) refl in
    ap (λ (b : Bool). moment_of (book.closings ++ closings_between book.filling.last_closed (closed_with b book.filling).last_closed moment) to) is
    ∙ ap (λ (more : List Closing). moment_of (book.closings ++ more) to) (between-one book.filling.last_closed moment)
    ∙ ap (option_map (λ (c : Closing). c.moment.0)) (find-front to (closing_at moment (book.filling.last_closed + 1)) differs book.closings)

pub through_open : (book : Book) (changes to : ℕ) → ((to ≡ book.filling.last_closed + 1) → (0 < book.filling.filled) → ⊥) → moment_of (closed_now book (record { 0 = changes })).closings to ≡ moment_of book.closings to
through_open book changes to other = open-kept book (record { 0 = changes }) to (book.filling.filled == 0) refl other
