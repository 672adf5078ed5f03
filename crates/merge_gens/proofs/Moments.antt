-- Lists of closed generations in which something rises from one to the next, and what a purge leaves of them.
use Rattle.std.proofs.Common.{◌≡◌, ◌≢◌, ℕ, ◌+◌, ◌-◌, ◌<◌, ◌≤◌, nat_lt, nat_le, Bool, true, false, cond, if◌then◌else◌, List, [], ◌∷◌, ◌++◌, map, length, get_or, zero, suc, Some, None, Option, arith, refl, sym, ap, ◌∙◌, subst, append-nil, append_assoc}
use Rattle.std.specs.Prelude.{IsTrue, ◌↔◌}
use Rattle.std.specs.List.{filter, All, AllPairs, AllAdjacentBelow, IsAllAdjacentAnswer}
use Rattle.std.specs.Option.{option_or}
use Rattle.std.proofs.lemmas.List.Elements.{All-tail, All-push}
use Rattle.std.proofs.lemmas.List.Kept.{AllPairs-filter}
use Rattle.std.proofs.lemmas.List.Quantifiers.{all_pairs_push}
use Rattle.std.proofs.lemmas.Bool.Decides.{nat_tests}
use Rattle.merge_types.specs.declared.Moment.{Moment}
use Rattle.merge_gens.specs.declared.filling.Filling.{Filling}
use Rattle.merge_gens.specs.declared.closings.Closing.{Closing}
use Rattle.merge_gens.specs.Book.{Book, IsSound, NeverFall, book_after_forgetting, book_after_purge, closed_before, closing_at, closings_between, forgotten_if_any, last_before, moved_to}

module _ (R : Closing → Closing → Type 0) (trans : (x y z : Closing) → R x y → R y z → R x z) (xs : List Closing) where
  far : AllAdjacentBelow R xs (length xs) → (k i j : ℕ) (d : Closing) → j ≡ i + 1 + k → j < length xs → R (get_or xs i d) (get_or xs j d)
  far each zero i j d is within =
      let next : i + 1 ≡ j = omega arith in
      subst (λ m. R (get_or xs i d) (get_or xs m d)) next (each i d (omega arith))
  far each (suc k) i j d is within =
      let next : i + 1 + k + 1 ≡ j = omega arith in
      trans (get_or xs i d) (get_or xs (i + 1 + k) d) (get_or xs j d) (far each k i (i + 1 + k) d refl (omega arith))
      (subst (λ m. R (get_or xs (i + 1 + k) d) (get_or xs m d)) next (each (i + 1 + k) d (omega arith)))

  -- a relation that goes on holds of all pairs where it holds of neighbours
  pairs_adjacent : AllAdjacentBelow R xs (length xs) → AllPairs R xs
  pairs_adjacent each i j d less within = far each (j - (i + 1)) i j d (omega arith) within

  -- and so a test of neighbours answers for all pairs
  pub pairs_tested : (test : Closing → Closing → Bool) → ((x y : Closing) → test x y ≡ true → R x y) → ((x y : Closing) → test x y ≡ false → R x y → ⊥)
      → (b : Bool) → IsAllAdjacentAnswer (λ x y r. r ≡ test x y) xs b → IsTrue b ↔ AllPairs R xs
  pairs_tested test passes fails true each = (λ _. pairs_adjacent (λ k d less. passes _ _ (sym (each k d less))), λ _. refl)
  pairs_tested test passes fails false some = (
    λ no. let never : false ≡ true = no in absurd cc,
    λ all.
        let d : Closing = closing_at (record { 0 = 0 }) 0 in
        absurd (fails _ _ (sym (some.2 d)) (all some.0 (some.0 + 1) d (omega arith) some.1)),
  )

-- the walk to the last that closed before
pub last_next : (cutoff : Moment) (c : Closing) (rest : List Closing) (last : Option ℕ) (b : Bool) → closed_before cutoff c ≡ b
    → option_or (last_before cutoff rest) (if b then Some c.generation else last) ≡ option_or (last_before cutoff (c ∷ rest)) last
last_next cutoff c rest last true is = rw is (by_rest (last_before cutoff rest))
  where
    by_rest : (o : Option ℕ) → option_or o (Some c.generation) ≡ option_or (option_or o (Some c.generation)) last
    by_rest None = refl
    by_rest (Some g) = refl
last_next cutoff c rest last false is = rw is (by_rest (last_before cutoff rest))
  where
    by_rest : (o : Option ℕ) → option_or o last ≡ option_or (option_or o None) last
    by_rest None = refl
    by_rest (Some g) = refl

abbrev GenerationsRise : List Closing → Type 0
GenerationsRise xs = AllPairs (λ (a b : Closing). a.generation < b.generation) xs

pairs_tail : (R : Closing → Closing → Type 0) (x : Closing) (xs : List Closing) → AllPairs R (x ∷ xs) → AllPairs R xs
pairs_tail R x xs all i j d less within = all (suc i) (suc j) d (omega arith) (omega arith)

-- a filter that keeps all, or that keeps what another one does
filter_all : (p : Closing → Bool) (xs : List Closing) → All (λ (c : Closing). p c ≡ true) xs → filter p xs ≡ xs
filter_all p [] all = refl
filter_all p (x ∷ xs) all =
    let here : p x ≡ true = all 0 x (omega arith) in
    rw here (ap (λ l. x ∷ l) (filter_all p xs (All-tail (λ (c : Closing). p c ≡ true) x xs all)))

-- a closing in the list with this generation, which closed before
abbrev IsMember : Moment → List Closing → ℕ → Type 0
IsMember cutoff xs g = (k : ℕ) × (k < length xs) × ((d : Closing) → ((get_or xs k d).generation ≡ g) × ((get_or xs k d).moment.0 < cutoff.0))

member_step : (cutoff : Moment) (x : Closing) (xs : List Closing) (o : Option ℕ) → ((g : ℕ) → o ≡ Some g → IsMember cutoff xs g)
    → (b : Bool) → closed_before cutoff x ≡ b → (g : ℕ) → option_or o (cond b (Some x.generation) None) ≡ Some g → IsMember cutoff (x ∷ xs) g
member_step cutoff x xs (Some h) rest b before g is = let m = rest g is in (suc m.0, omega (arith, m.1), λ d. m.2 d)
member_step cutoff x xs None rest true before g is =
    let same : x.generation ≡ g = cc in
    (0, omega arith, λ d. (same, grind (arith, nat_tests, before)))
member_step cutoff x xs None rest false before g is = absurd cc

-- the last that closed before is one of the list
last_member : (cutoff : Moment) (xs : List Closing) (g : ℕ) → last_before cutoff xs ≡ Some g → IsMember cutoff xs g
last_member cutoff [] g is = absurd cc
last_member cutoff (x ∷ xs) g is = member_step cutoff x xs (last_before cutoff xs) (last_member cutoff xs) (closed_before cutoff x) refl g is

abbrev kept_behind : Option ℕ → List Closing → List Closing
kept_behind None xs = xs
kept_behind (Some g) xs = filter (λ (c : Closing). nat_lt g c.generation) xs

purge_step : (cutoff : Moment) (x : Closing) (xs : List Closing) (o : Option ℕ) → last_before cutoff xs ≡ o → GenerationsRise (x ∷ xs) → NeverFall (x ∷ xs)
    → kept_behind o xs ≡ filter (λ (c : Closing). nat_le cutoff.0 c.moment.0) xs
    → (b : Bool) → closed_before cutoff x ≡ b
    → kept_behind (option_or o (cond b (Some x.generation) None)) (x ∷ xs) ≡ filter (λ (c : Closing). nat_le cutoff.0 c.moment.0) (x ∷ xs)
purge_step cutoff x xs (Some g) is rise fall rest b before =
    let m = last_member cutoff xs g is in
    let at = m.2 x in
    let below : x.generation < (get_or xs m.0 x).generation = rise 0 (suc m.0) x (omega arith) (omega (arith, m.1)) in
    let earlier : x.moment.0 ≤ (get_or xs m.0 x).moment.0 = fall 0 (suc m.0) x (omega arith) (omega (arith, m.1)) in
    let here : nat_lt g x.generation ≡ false = grind (arith, nat_tests, at.0) in
    let there : nat_le cutoff.0 x.moment.0 ≡ false = grind (arith, nat_tests, at.1) in
    rw (here, there) rest
purge_step cutoff x xs None is rise fall rest true before =
    let here : nat_lt x.generation x.generation ≡ false = grind (arith, nat_tests) in
    let there : nat_le cutoff.0 x.moment.0 ≡ false = grind (arith, nat_tests, before) in
    let all : All (λ (c : Closing). nat_lt x.generation c.generation ≡ true) xs = λ k d within. let above : x.generation < (get_or xs k d).generation = rise 0 (suc k) d (omega arith) (omega arith) in grind (arith, nat_tests, above) in
    rw (here, there) (filter_all (λ (c : Closing). nat_lt x.generation c.generation) xs all ∙ rest)
purge_step cutoff x xs None is rise fall rest false before =
    let there : nat_le cutoff.0 x.moment.0 ≡ true = grind (arith, nat_tests, before) in
    rw there (ap (λ l. x ∷ l) rest)

purge_list : (cutoff : Moment) (xs : List Closing) → GenerationsRise xs → NeverFall xs → kept_behind (last_before cutoff xs) xs ≡ filter (λ (c : Closing). nat_le cutoff.0 c.moment.0) xs
purge_list cutoff [] rise fall = refl
purge_list cutoff (x ∷ xs) rise fall =
    purge_step cutoff x xs (last_before cutoff xs) refl rise fall
    (purge_list cutoff xs (pairs_tail (λ (a b : Closing). a.generation < b.generation) x xs rise) (pairs_tail (λ (a b : Closing). a.moment.0 ≤ b.moment.0) x xs fall)) (closed_before cutoff x) refl

forget_step : (book : Book) (o : Option ℕ) → record { filling = book.filling; closings = kept_behind o book.closings } ≡ forgotten_if_any book o
forget_step book None = refl
forget_step book (Some g) = refl

-- where moments do not fall, a purge forgets up to the last that closed before its cutoff
pub purge_forgets : (book : Book) (cutoff : Moment) → IsSound book → NeverFall book.closings → book_after_purge book cutoff ≡ forgotten_if_any book (last_before cutoff book.closings)
purge_forgets book cutoff sound fall =
    let B : List Closing → Book = λ (l : List Closing). record { filling = book.filling; closings = l } in
    ap B (sym (purge_list cutoff book.closings sound.ascending fall)) ∙ forget_step book (last_before cutoff book.closings)

all_at : (moment : Moment) (ns : List ℕ) → All (λ (c : Closing). c.moment.0 ≡ moment.0) (map (closing_at moment) ns)
all_at moment [] k d within = absurd (omega arith)
all_at moment (n ∷ ns) zero d within = refl
all_at moment (n ∷ ns) (suc k) d within = all_at moment ns k d (omega arith)

behind_step : (moment : Moment) (xs ys : List Closing) → NeverFall xs → All (λ (c : Closing). c.moment.0 ≤ moment.0) xs → All (λ (c : Closing). c.moment.0 ≡ moment.0) ys → NeverFall (xs ++ ys)
behind_step moment xs [] fall within at = rw append-nil fall
behind_step moment xs (y ∷ ys) fall within at =
    let here : y.moment.0 ≡ moment.0 = at 0 y (omega arith) in
    rw (← append_assoc xs (y ∷ []) ys)
    (behind_step moment (xs ++ y ∷ []) ys
    (all_pairs_push (λ (a b : Closing). a.moment.0 ≤ b.moment.0) xs y fall (λ k d less. omega (arith, within k d less, here)))
    (All-push (λ (c : Closing). c.moment.0 ≤ moment.0) xs y within (omega (arith, here)))
    (All-tail (λ (c : Closing). c.moment.0 ≡ moment.0) y ys at))

-- moments that do not fall still do not, as generations close at a moment that is not below them
pub never_falls_moved : (book : Book) (filling : Filling) (moment : Moment) → NeverFall book.closings → All (λ (c : Closing). c.moment.0 ≤ moment.0) book.closings → NeverFall (moved_to book filling moment).closings
never_falls_moved book filling moment fall within = behind_step moment book.closings (closings_between book.filling.last_closed filling.last_closed moment) fall within (all_at moment _)

pub never_falls_kept : (p : Closing → Bool) (xs : List Closing) → NeverFall xs → NeverFall (filter p xs)
never_falls_kept p xs fall = AllPairs-filter (λ (a b : Closing). a.moment.0 ≤ b.moment.0) p xs fall
