-- The last change up to a generation, as changes come in, and what a book keeps of closed generations.
use Rattle.std.specs.Prelude.{◌≡◌, ◌≤◌, ◌<◌, ◌==◌, ◌+◌, ◌-◌, ◌++◌, ◌&&◌, ◌||◌, ℕ, zero, suc, List, [], ◌∷◌, Bool, true, false, not, Option, Some, None, refl, if◌then◌else◌, find, filter, map, max, nat_le, nat_lt, cond, option_map}
use Rattle.std.specs.List.{AllByRecursion, fold, list_any, range_with_len}
use Rattle.std.specs.Option.{option_or}
use Rattle.std.proofs.Common.{arith, sym, ap, ◌∙◌}
use Rattle.std.proofs.lemmas.Bool.Decides.{nat_tests}
use Rattle.std.proofs.lemmas.List.Folds.{find-append}
use Rattle.merge_types.specs.declared.identifiers.Moment.{Moment}
use Rattle.merge_gens.specs.declared.closings.Closing.{Closing}
use Rattle.merge_gens.specs.declared.filling.Filling.{Filling}
use Rattle.merge_gens.specs.Book.{Book, closing_at, moment_of, moved_to}
use Rattle.merge_model.specs.Judge.ByHistory.{is_unmet_by_done, received_number_by_done}
use Rattle.merge_model.specs.Judge.ByNumbers.{received_by_number}
use Rattle.merge_model.specs.History.{History, MadeChange, is_done, made_at}
use Rattle.merge_model.specs.Tables.{PublisherTables}
use Rattle.merge_laws.specs.Facts.Received.{DoneIsReceived}
use Rattle.merge_laws.specs.Facts.Numbered.{InOrder, is_up_to, last_of, last_through}
use Rattle.merge_model.proofs.Lists.Finding.{all-weaker}
use Rattle.merge_model.proofs.Lists.{any-same}

-- The greatest number of the changes that pass a test.

abbrev greatest : (MadeChange → Bool) → ℕ → MadeChange → ℕ
greatest test most change = if test change then max most change.dot.number else most

pub from-step : (up : Bool) (most number rest x y : ℕ) → x ≡ max (if up then max most number else most) rest → y ≡ max (if up then max 0 number else 0) rest → x ≡ max most y
from-step true most number rest x y a b = grind (arith, nat_tests, a, b)
from-step false most number rest x y a b = grind (arith, nat_tests, a, b)

last-from : (to most : ℕ) (changes : List MadeChange) → fold (greatest (is_up_to to)) most changes ≡ max most (last_of to changes)
last-from to most [] = grind (arith, nat_tests)
last-from to most (c ∷ changes) = from-step (is_up_to to c) most c.dot.number (last_of to changes) (fold (greatest (is_up_to to)) (greatest (is_up_to to) most c) changes) (last_of to (c ∷ changes))
    (last-from to (greatest (is_up_to to) most c) changes) (last-from to (greatest (is_up_to to) 0 c) changes)

-- a change that comes in
made-step : (up : Bool) (number rest x : ℕ) → x ≡ max (if up then max 0 number else 0) rest → x ≡ max (if up then number else 0) rest
made-step true number rest x e = grind (arith, nat_tests, e)
made-step false number rest x e = e

pub last-made : (to : ℕ) (c : MadeChange) (changes : List MadeChange) → last_of to (c ∷ changes) ≡ max (if is_up_to to c then c.dot.number else 0) (last_of to changes)
last-made to c changes = made-step (is_up_to to c) c.dot.number (last_of to changes) (last_of to (c ∷ changes)) (last-from to (greatest (is_up_to to) 0 c) changes)

-- each change up to a generation has a number up to the last one, which is the least such bound
pub each-within : (to : ℕ) (made : List MadeChange) → AllByRecursion (λ (c : MadeChange). is_up_to to c ≡ true → c.dot.number ≤ last_of to made) made
each-within to [] = tt
each-within to (c ∷ made) =
    let last = last-made to c made in (
      λ up. grind (arith, nat_tests, last, up),
      all-weaker (λ (x : MadeChange). is_up_to to x ≡ true → x.dot.number ≤ last_of to made) (λ (x : MadeChange). is_up_to to x ≡ true → x.dot.number ≤ last_of to (c ∷ made))
          (λ x low up. (let less : x.dot.number ≤ last_of to made = low up in grind (arith, nat_tests, last, less))) made (each-within to made),
    )

last-bound-step : (up : Bool) (number rest all bound : ℕ) → all ≡ max (if up then number else 0) rest → (up ≡ true → number ≤ bound) → rest ≤ bound → all ≤ bound
last-bound-step true number rest all bound e first more = let low : number ≤ bound = first refl in grind (arith, nat_tests, e, low, more)
last-bound-step false number rest all bound e first more = grind (arith, nat_tests, e, more)

pub last-bound : (to bound : ℕ) (made : List MadeChange) → AllByRecursion (λ (c : MadeChange). is_up_to to c ≡ true → c.dot.number ≤ bound) made → last_of to made ≤ bound
last-bound to bound [] all = omega arith
last-bound to bound (c ∷ made) all = last-bound-step (is_up_to to c) c.dot.number (last_of to made) (last_of to (c ∷ made)) bound (last-made to c made) all.0 (last-bound to bound made all.1)

pub last-rises : (to later : ℕ) (made : List MadeChange) → to ≤ later → last_of to made ≤ last_of later made
last-rises to later made up = last-bound to (last_of later made) made
    (all-weaker (λ (c : MadeChange). is_up_to later c ≡ true → c.dot.number ≤ last_of later made) (λ (c : MadeChange). is_up_to to c ≡ true → c.dot.number ≤ last_of later made)
    (λ c low here. low (grind (arith, nat_tests, here, up))) made (each-within later made))

pub last-older : (to : ℕ) (c : MadeChange) (changes : List MadeChange) → to < c.generation → last_of to (c ∷ changes) ≡ last_of to changes
last-older to c changes later = grind (arith, nat_tests, last-made to c changes, later)

pub last-newest : (to : ℕ) (c : MadeChange) (changes : List MadeChange) → 1 ≤ c.generation → c.generation ≤ to → last_of to changes ≤ c.dot.number → last_of to (c ∷ changes) ≡ c.dot.number
last-newest to c changes from up most = grind (arith, nat_tests, last-made to c changes, from, up, most)

-- changes in order
pub order-later : (number generation later : ℕ) (changes : List MadeChange) → generation ≤ later → InOrder number generation changes → InOrder number later changes
order-later number generation later [] up o = o
order-later number generation later (c ∷ changes) up o = (o.0, (o.1.0, (omega (arith, o.1.1.0, up), o.1.1.1)))

pub order-within : (to number generation : ℕ) (changes : List MadeChange) → InOrder number generation changes → last_of to changes ≤ number
order-within to number generation [] o = omega arith
order-within to number generation (c ∷ changes) o =
    let rest : last_of to changes ≤ number - 1 = order-within to (number - 1) c.generation changes o.1.1.1.1 in
    let is : c.dot.number ≡ number = o.0 in
    grind (arith, nat_tests, last-made to c changes, rest, is)

-- where all generations are within, it is the last change
order-all : (to number generation : ℕ) (changes : List MadeChange) → generation ≤ to → InOrder number generation changes → last_of to changes ≡ number
order-all to number generation [] up o = sym o
order-all to number generation (c ∷ changes) up o =
    let rest : last_of to changes ≤ number - 1 = order-within to (number - 1) c.generation changes o.1.1.1.1 in
    let is : c.dot.number ≡ number = o.0 in
    let above : c.generation ≤ generation = o.1.1.0 in
    last-newest to c changes o.1.1.1.0 (omega (arith, above, up)) (omega (arith, rest, is)) ∙ is

-- so a change stands in these generations just where its number is no greater than the last one's
abbrev pub is_there : ℕ → ℕ → MadeChange → Bool
is_there to number change = (change.dot.number == number) && is_up_to to change

there-within : (to asked number generation last : ℕ) (c : MadeChange) (changes : List MadeChange) (up : Bool) (there : Bool) → nat_le c.generation to ≡ up → 1 ≤ asked → c.dot.number ≡ number → 1 ≤ number → 1 ≤ c.generation → there ≡ nat_le asked last
    → last ≤ number - 1 → (up ≡ true → last ≡ number - 1) → (is_there to asked c || there) ≡ nat_le asked (max (if is_up_to to c then c.dot.number else 0) last)
there-within to asked number generation last c changes true there e from is some first h most all = grind (arith, nat_tests, e, from, is, some, first, h, all)
there-within to asked number generation last c changes false there e from is some first h most all = grind (arith, nat_tests, e, from, is, some, first, h, most)

pub order-there : (to asked number generation : ℕ) (changes : List MadeChange) → 1 ≤ asked → InOrder number generation changes → list_any (is_there to asked) changes ≡ nat_le asked (last_of to changes)
order-there to asked number generation [] from o = grind (arith, nat_tests, from)
order-there to asked number generation (c ∷ changes) from o =
    there-within to asked number generation (last_of to changes) c changes (nat_le c.generation to) (list_any (is_there to asked) changes) refl from o.0 o.1.0 o.1.1.1.0
    (order-there to asked (number - 1) c.generation changes from o.1.1.1.1) (order-within to (number - 1) c.generation changes o.1.1.1.1)
    (λ up. order-all to (number - 1) c.generation changes (grind (arith, nat_tests, up)) o.1.1.1.1)
    ∙ ap (λ (last : ℕ). nat_le asked last) (sym (last-made to c changes))

pub none-there : (asked : ℕ) (changes : List MadeChange) → list_any (is_there 0 asked) changes ≡ false
none-there asked [] = refl
none-there asked (c ∷ changes) = grind (arith, nat_tests, none-there asked changes)

-- before the first generation there is none
pub last-none : (changes : List MadeChange) → last_of 0 changes ≡ 0
last-none [] = refl
last-none (c ∷ changes) = grind (arith, nat_tests, last-made 0 c changes, last-none changes)

-- where the received generations are those that have acted, it is the last change that acted
last-where : (test other : MadeChange → Bool) (most : ℕ) (changes : List MadeChange) → ((c : MadeChange) → test c ≡ other c) → fold (greatest test) most changes ≡ fold (greatest other) most changes
last-where test other most [] same = refl
last-where test other most (c ∷ changes) same = ap (λ (b : Bool). fold (greatest test) (if b then max most c.dot.number else most) changes) (same c) ∙ last-where test other (greatest other most c) changes same

done-up-to : (h : History) (p : PublisherTables) (n generation : ℕ) → DoneIsReceived h p → is_done h n 0 ≡ false → is_done h n generation ≡ (nat_le 1 generation && nat_le generation (received_by_number p n))
done-up-to h p n zero done first = grind (arith, nat_tests, first)
done-up-to h p n (suc k) done first = grind (arith, nat_tests, done n (suc k))

pub unmet-is : (h : History) (p : PublisherTables) (n asked : ℕ) → DoneIsReceived h p → is_done h n 0 ≡ false → is_unmet_by_done h n asked ≡ not (list_any (is_there (received_by_number p n) asked) (made_at h n))
unmet-is h p n asked done first = ap (λ (b : Bool). not b) (any-same (λ (c : MadeChange). (c.dot.number == asked) && is_done h n c.generation) (is_there (received_by_number p n) asked) (λ c. ap (λ (b : Bool). (c.dot.number == asked) && b) (done-up-to h p n c.generation done first)) (made_at h n))

pub last-is-done : (h : History) (p : PublisherTables) (n : ℕ) → DoneIsReceived h p → is_done h n 0 ≡ false → received_number_by_done h n ≡ last_through h n (received_by_number p n)
last-is-done h p n done first = last-where (λ (c : MadeChange). is_done h n c.generation) (is_up_to (received_by_number p n)) 0 (made_at h n) (λ c. done-up-to h p n c.generation done first)

-- What is kept of closed generations.

abbrev is_of : ℕ → Closing → Bool
is_of generation closing = closing.generation == generation

abbrev moment_in : Option Closing → Option ℕ
moment_in found = option_map (λ (closing : Closing). closing.moment.0) found

or-first : (found rest : Option Closing) (v : ℕ) → moment_in found ≡ Some v → moment_in (option_or found rest) ≡ Some v
or-first None rest v e = absurd (grind (arith, e))
or-first (Some closing) rest v e = e

or-second : (found rest : Option Closing) → moment_in found ≡ None → moment_in (option_or found rest) ≡ moment_in rest
or-second None rest e = refl
or-second (Some closing) rest e = absurd (grind (arith, e))

kept-left : (xs ys : List Closing) (generation v : ℕ) → moment_of xs generation ≡ Some v → moment_of (xs ++ ys) generation ≡ Some v
kept-left xs ys generation v e = ap (λ (found : Option Closing). moment_in found) (find-append (is_of generation) xs ys) ∙ or-first (find (is_of generation) xs) (find (is_of generation) ys) v e

kept-right : (xs ys : List Closing) (generation : ℕ) → moment_of xs generation ≡ None → moment_of (xs ++ ys) generation ≡ moment_of ys generation
kept-right xs ys generation e = ap (λ (found : Option Closing). moment_in found) (find-append (is_of generation) xs ys) ∙ or-second (find (is_of generation) xs) (find (is_of generation) ys) e

-- of generations that close together
abbrev if_within : Bool → Moment → Option ℕ
if_within b moment = if b then Some moment.0 else None

between-step : (b : Bool) (moment : Moment) (from n generation : ℕ) (rest : Option Closing) → (from == generation) ≡ b → moment_in rest ≡ if_within (nat_le (from + 1) generation && nat_lt generation (from + 1 + n)) moment
    → moment_in (let found : Option Closing = cond b (Some (closing_at moment from)) rest in found) ≡ if_within (nat_le from generation && nat_lt generation (from + suc n)) moment
between-step true moment from n generation rest e h = ap (λ (b : Bool). if_within b moment) (let all : true ≡ (nat_le from generation && nat_lt generation (from + suc n)) = grind (arith, nat_tests, e) in all)
between-step false moment from n generation rest e h = h ∙ ap (λ (b : Bool). if_within b moment) (let same : (nat_le (from + 1) generation && nat_lt generation (from + 1 + n)) ≡ (nat_le from generation && nat_lt generation (from + suc n)) = grind (arith, nat_tests, e) in same)

none-within : (moment : Moment) (from generation : ℕ) → None ≡ if_within (nat_le from generation && nat_lt generation (from + 0)) moment
none-within moment from generation = ap (λ (b : Bool). if_within b moment) (let none : false ≡ (nat_le from generation && nat_lt generation (from + 0)) = grind (arith, nat_tests) in none)

between-kept : (moment : Moment) (from n generation : ℕ) → moment_of (map (closing_at moment) (range_with_len from n)) generation ≡ if_within (nat_le from generation && nat_lt generation (from + n)) moment
between-kept moment from zero generation = none-within moment from generation
between-kept moment from (suc n) generation = between-step (from == generation) moment from n generation (find (is_of generation) (map (closing_at moment) (range_with_len (from + 1) n))) refl (between-kept moment (from + 1) n generation)

-- of a book that moves on
pub moved-old : (book : Book) (filling : Filling) (moment : Moment) (generation v : ℕ) → moment_of book.closings generation ≡ Some v → moment_of (moved_to book filling moment).closings generation ≡ Some v
moved-old book filling moment generation v e = kept-left book.closings (map (closing_at moment) (range_with_len (book.filling.last_closed + 1) (filling.last_closed - book.filling.last_closed))) generation v e

moved-at : (book : Book) (filling : Filling) (moment : Moment) (generation : ℕ) (b : Bool) → moment_of book.closings generation ≡ None
    → (nat_le (book.filling.last_closed + 1) generation && nat_lt generation (book.filling.last_closed + 1 + (filling.last_closed - book.filling.last_closed))) ≡ b → moment_of (moved_to book filling moment).closings generation ≡ if_within b moment
moved-at book filling moment generation b none is =
    kept-right book.closings (map (closing_at moment) (range_with_len (book.filling.last_closed + 1) (filling.last_closed - book.filling.last_closed))) generation none
    ∙ between-kept moment (book.filling.last_closed + 1) (filling.last_closed - book.filling.last_closed) generation ∙ ap (λ (b : Bool). if_within b moment) is

pub moved-new : (book : Book) (filling : Filling) (moment : Moment) (generation : ℕ) → moment_of book.closings generation ≡ None → book.filling.last_closed < generation → generation ≤ filling.last_closed
    → moment_of (moved_to book filling moment).closings generation ≡ Some moment.0
moved-new book filling moment generation none low up = moved-at book filling moment generation true none (grind (arith, nat_tests, low, up))

pub moved-none : (book : Book) (filling : Filling) (moment : Moment) (generation : ℕ) → moment_of book.closings generation ≡ None → book.filling.last_closed ≤ filling.last_closed → filling.last_closed < generation
    → moment_of (moved_to book filling moment).closings generation ≡ None
moved-none book filling moment generation none rises above = moved-at book filling moment generation false none (grind (arith, nat_tests, rises, above))

-- of one that forgets what is received
found-step : (b same : Bool) (generation : ℕ) (closing : Closing) (kept : List Closing) (rest : Option Closing) → (closing.generation == generation) ≡ same → (same ≡ true → b ≡ true) → find (is_of generation) kept ≡ rest
    → find (is_of generation) (let all : List Closing = cond b (closing ∷ kept) kept in all) ≡ (let found : Option Closing = cond same (Some closing) rest in found)
found-step true same generation closing kept rest is keeps h = ap (λ (b : Bool). (let found : Option Closing = cond b (Some closing) (find (is_of generation) kept) in found)) is ∙ ap (λ (o : Option Closing). (let found : Option Closing = cond same (Some closing) o in found)) h
found-step false true generation closing kept rest is keeps h = absurd (grind (arith, keeps refl))
found-step false false generation closing kept rest is keeps h = h

found-above : (received generation : ℕ) (closings : List Closing) → received < generation → find (is_of generation) (filter (λ (closing : Closing). nat_lt received closing.generation) closings) ≡ find (is_of generation) closings
found-above received generation [] up = refl
found-above received generation (closing ∷ closings) up = found-step (nat_lt received closing.generation) (closing.generation == generation) generation closing (filter (λ (c : Closing). nat_lt received c.generation) closings) (find (is_of generation) closings) refl
    (λ same. grind (arith, nat_tests, same, up)) (found-above received generation closings up)

pub kept-above : (received generation : ℕ) (closings : List Closing) → received < generation → moment_of (filter (λ (closing : Closing). nat_lt received closing.generation) closings) generation ≡ moment_of closings generation
kept-above received generation closings up = ap (λ (found : Option Closing). moment_in found) (found-above received generation closings up)
