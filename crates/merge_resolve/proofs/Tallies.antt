-- Tallies count the questions.
use Rattle.std.proofs.Common.{◌≡◌, ℕ, zero, suc, ◌+◌, ◌-◌, ◌<◌, ◌≤◌, ◌^◌, ◌==◌, if◌then◌else◌, min, List, [], ◌∷◌, length, count_by, slice_index, refl, arith}
use Rattle.std.proofs.lemmas.Bool.Decides.{nat_tests}
use Rattle.std.proofs.lemmas.List.{length-set}
use Rattle.std.proofs.lemmas.List.Sums.{sum_by-cons}
use Rattle.merge_resolve.specs.declared.case.ConflictCase.{ConflictCase}
use Rattle.merge_resolve.specs.Asked.{tallies_after, tallies_after_question}
use Rattle.merge_resolve.specs.AskingLaws.{CountsItsQuestions}

-- only the tally at the place is raised
raised_index : (tallies : List ℕ) (at place : ℕ) → place < length tallies
    → slice_index (tallies_after_question tallies at) place ≡ (if at == place then min (slice_index tallies place + 1) (2 ^ 64 - 1) else slice_index tallies place)
raised_index [] at place in_range = absurd (omega arith)
raised_index (t ∷ ts) zero zero in_range = refl
raised_index (t ∷ ts) zero (suc place) in_range = grind (arith, nat_tests)
raised_index (t ∷ ts) (suc at) zero in_range = grind (arith, nat_tests)
raised_index (t ∷ ts) (suc at) (suc place) in_range = grind (arith, nat_tests, raised_index ts at place (omega arith))

pub counts_its_questions : CountsItsQuestions
counts_its_questions tallies [] place in_range low = grind arith
counts_its_questions tallies (q ∷ qs) place in_range low =
    let long : place < length (tallies_after_question tallies q.0) = rw length-set in_range in
    let here = raised_index tallies q.0 place in_range in
    let low_after : slice_index (tallies_after_question tallies q.0) place ≤ 2 ^ 64 - 1 = grind (arith, nat_tests, here, low) in
    let rest : slice_index (tallies_after tallies (q ∷ qs)) place
    ≡ min (slice_index (tallies_after_question tallies q.0) place + count_by (λ (question : ℕ × ConflictCase). question.0 == place) qs) (2 ^ 64 - 1)
    = counts_its_questions (tallies_after_question tallies q.0) qs place long low_after in
    let count : count_by (λ (question : ℕ × ConflictCase). question.0 == place) (q ∷ qs)
    ≡ (if q.0 == place then 1 else 0) + count_by (λ (question : ℕ × ConflictCase). question.0 == place) qs
    = sum_by-cons _ q qs in
    rw (rest, count, here) (grind (arith, nat_tests, low))
