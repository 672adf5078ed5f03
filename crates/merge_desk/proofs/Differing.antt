-- Where seats differ from a journal, a call was made.
use Rattle.std.proofs.Common.{List, [], ℕ, arith, inl, inr, length, subst, sym, ◌+◌, ◌∷◌, ◌≡◌, ◌≤◌}
use Rattle.std.specs.List.{sum_by}
use Rattle.std.proofs.lemmas.List.Sums.{sum_by-cons}
use Rattle.merge_schema.specs.declared.publication.Publication.{Publication}
use Rattle.merge_model.specs.Tables.{PublisherTables}
use Rattle.merge_model.specs.World.{Saying}
use Rattle.merge_desk.specs.Comparing.{FirstDiffer, FirstDiffering}
use Rattle.merge_desk.specs.Ending.{IsDiffering}
use Rattle.merge_desk.specs.Views.{AreToldInCalls, SeatView, seat_calls}
use Rattle.merge_desk.specs.declared.comparing.Difference.{Difference}
use Rattle.merge_desk.specs.declared.entry.Entry.{Entry}
use Rattle.merge_desk.specs.declared.mark.Mark.{Mark}

-- Seats are gathered one after the other.

pub told-begins : (left all : List SeatView) → left ≡ all → AreToldInCalls left → AreToldInCalls all
told-begins left all is few = subst AreToldInCalls is few

pub told-taken : (left rest all : List SeatView) (s : SeatView) → left ≡ s ∷ rest → length s.told ≤ s.calls → (AreToldInCalls left → AreToldInCalls all) → AreToldInCalls rest → AreToldInCalls all
told-taken left rest all s is few was more = was (subst AreToldInCalls (sym is) (few, more))

pub told-gathered : (left all : List SeatView) → length left ≡ 0 → (AreToldInCalls left → AreToldInCalls all) → AreToldInCalls all
told-gathered [] all none was = was tt
told-gathered (s ∷ left) all none was = absurd (omega (arith, none))

-- An empty journal has no mark, so a seat that differs was told one.

told-some : (told : List Mark) (a b : Mark) → FirstDiffer told [] a b → 1 ≤ length told
told-some [] a b p = absurd p
told-some (t ∷ ts) a b p = omega arith

calls-some : (seats : List SeatView) (n : ℕ) (a b : Mark) → AreToldInCalls seats → FirstDiffering [] seats n a b → 1 ≤ sum_by seat_calls seats
calls-some [] n a b few p = absurd p
calls-some (s ∷ seats) n a b few (inl (same, rest)) =
    let split : sum_by seat_calls (s ∷ seats) ≡ s.calls + sum_by seat_calls seats = sum_by-cons seat_calls s seats in
    let others : 1 ≤ sum_by seat_calls seats = calls-some seats n a b few.1 rest in
    omega (arith, split, others)
calls-some (s ∷ seats) n a b few (inr (is, differ)) =
    let split : sum_by seat_calls (s ∷ seats) ≡ s.calls + sum_by seat_calls seats = sum_by-cons seat_calls s seats in
    let some : 1 ≤ length s.told = told-some s.told a b differ in
    let within : length s.told ≤ s.calls = few.0 in
    omega (arith, split, some, within)

pub differing-called : (publication : Publication) (says : Saying) (opening : PublisherTables) (journal : List Entry) (now : PublisherTables) (seats : List SeatView) (d : Difference)
    → IsDiffering publication says opening journal now seats d → 1 ≤ length journal
differing-called publication says opening [] now seats d p =
    let some : 1 ≤ sum_by seat_calls seats = calls-some seats d.seat d.told d.kept p.told p.differ in
    let none : 0 ≡ sum_by seat_calls seats = p.calls in
    absurd (omega (arith, some, none))
differing-called publication says opening (e ∷ es) now seats d p = omega arith
