-- What asking does to the tallies.
use Rattle.std.specs.Prelude.{◌≡◌, ℕ, ◌+◌, ◌-◌, ◌^◌, ◌<◌, ◌≤◌, ◌==◌, List, length, min, count_by, slice_index}
use Rattle.merge_resolve.specs.declared.case.ConflictCase.{ConflictCase}
use Rattle.merge_resolve.specs.Asked.{tallies_after}

-- each tally has risen by the number of its resolver's questions, up to the greatest number
abbrev pub CountsItsQuestions : Type 0
CountsItsQuestions = (tallies : List ℕ) (questions : List (ℕ × ConflictCase)) (place : ℕ) → place < length tallies → slice_index tallies place ≤ 2 ^ 64 - 1
    → slice_index (tallies_after tallies questions) place ≡ min (slice_index tallies place + count_by (λ (question : ℕ × ConflictCase). question.0 == place) questions) (2 ^ 64 - 1)
