-- One object is asked.
use Rattle.std.proofs.Common.{◌≡◌, ℕ, zero, suc, ◌+◌, ◌-◌, ◌<◌, ◌^◌, min, List, [], ◌∷◌, ◌++◌, length, get_or, set, map, Some, slice_index, refl, ap, sym, ◌∙◌, arith}
use Rattle.std.proofs.lemmas.List.{map-set}
use Rattle.merge_resolve.specs.Asked.{says_at, tallies_after, tallies_after_question}

module _ {X Q D : Type 0} (says : X → ℕ → Q → D) where
  -- an object that says the same in its place
  pub says_at-set : (xs : List X) (at : ℕ) (y : X) → at < length xs → ((n : ℕ) (q : Q) → says y n q ≡ says (get_or xs at y) n q)
      → (k n : ℕ) (q : Q) → says_at says (set xs at y) k n q ≡ says_at says xs k n q
  says_at-set [] at y in_range same k n q = refl
  says_at-set (x ∷ xs) zero y in_range same zero n q = ap Some (same n q)
  says_at-set (x ∷ xs) zero y in_range same (suc k) n q = refl
  says_at-set (x ∷ xs) (suc at) y in_range same zero n q = refl
  says_at-set (x ∷ xs) (suc at) y in_range same (suc k) n q = says_at-set xs at y (omega arith) same k n q

module _ {X : Type 0} (tally : X → ℕ) where
  tally_index : (xs : List X) (at : ℕ) (y : X) → at < length xs → slice_index (map tally xs) at ≡ tally (get_or xs at y)
  tally_index [] at y in_range = absurd (omega arith)
  tally_index (x ∷ xs) zero y in_range = refl
  tally_index (x ∷ xs) (suc at) y in_range = tally_index xs at y (omega arith)

  -- its tally is one more
  pub tallies-set : (xs : List X) (at : ℕ) (y : X) → at < length xs → tally y ≡ min (tally (get_or xs at y) + 1) (2 ^ 64 - 1) → map tally (set xs at y) ≡ tallies_after_question (map tally xs) at
  tallies-set xs at y in_range more = map-set tally xs at y ∙ ap (set (map tally xs) at) (more ∙ ap (λ n. min (n + 1) (2 ^ 64 - 1)) (sym (tally_index xs at y in_range)))

module _ {X Q D : Type 0} (says : X → ℕ → Q → D) (tally : X → ℕ) where
  -- what the object at a place says
  pub says_at-read : (xs : List X) (at : ℕ) (y : X) (q : Q) → at < length xs → Some (says (get_or xs at y) (tally (get_or xs at y)) q) ≡ says_at says xs at (slice_index (map tally xs) at) q
  says_at-read [] at y q in_range = absurd (omega arith)
  says_at-read (x ∷ xs) zero y q in_range = refl
  says_at-read (x ∷ xs) (suc at) y q in_range = says_at-read xs at y q (omega arith)

  -- the same, of the object that was read there
  pub says_at-asked : (xs : List X) (at : ℕ) (y x : X) (q : Q) → at < length xs → x ≡ get_or xs at y → (d : D) → d ≡ says x (tally x) q → Some d ≡ says_at says xs at (slice_index (map tally xs) at) q
  says_at-asked xs at y x q in_range read d is = rw (is, read) (says_at-read xs at y q in_range)

-- more questions after others
pub tallies_after-append : {Q : Type 0} (tallies : List ℕ) (xs ys : List (ℕ × Q)) → tallies_after tallies (xs ++ ys) ≡ tallies_after (tallies_after tallies xs) ys
tallies_after-append tallies [] ys = refl
tallies_after-append tallies (x ∷ xs) ys = tallies_after-append (tallies_after_question tallies x.0) xs ys
