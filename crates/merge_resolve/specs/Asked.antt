-- What objects answer that are asked in turn. They are of any type X: `says` is what one says when it was asked so often before.
use Rattle.std.specs.Prelude.{ℕ, ◌+◌, ◌-◌, ◌^◌, List, [], ◌∷◌, min, Option, slice_get, slice_set, slice_index}
use Rattle.std.specs.Option.{option_map}

-- the tallies after the object at a place is asked once more
abbrev pub tallies_after_question : List ℕ → ℕ → List ℕ
tallies_after_question tallies place = slice_set tallies place (min (slice_index tallies place + 1) (2 ^ 64 - 1))

-- what the object at a place says, if one stands there
abbrev pub says_at : {X Q D : Type 0} → (X → ℕ → Q → D) → List X → ℕ → ℕ → Q → Option D
says_at says objects place n question = option_map (λ x. says x n question) (slice_get objects place)

-- the decisions on questions to places, in turn, from these tallies on
abbrev pub decisions_of : {Q D : Type 0} → (ℕ → ℕ → Q → Option D) → List ℕ → List (ℕ × Q) → List (Option D)
decisions_of says tallies [] = []
decisions_of says tallies (q ∷ qs) = says q.0 (slice_index tallies q.0) q.1 ∷ decisions_of says (tallies_after_question tallies q.0) qs

-- the tallies after the questions
abbrev pub tallies_after : {Q : Type 0} → List ℕ → List (ℕ × Q) → List ℕ
tallies_after tallies [] = tallies
tallies_after tallies (q ∷ qs) = tallies_after (tallies_after_question tallies q.0) qs
