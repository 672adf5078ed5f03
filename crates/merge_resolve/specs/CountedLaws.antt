-- What a counted decision makes of a row.
use Rattle.std.specs.Prelude.{◌≡◌, ℕ, ◌≤◌, true, length}
use Rattle.merge_types.specs.Limits.{row_limit}
use Rattle.merge_types.specs.declared.identifiers.Dot.{Dot}
use Rattle.merge_units.specs.declared.version.Body.{Body}
use Rattle.merge_units.specs.declared.version.Body.TheVariants.{Live, Dead}
use Rattle.merge_units.specs.declared.result.Decision.{Decision}
use Rattle.merge_units.specs.Length.{stored_length, value_count}
use Rattle.merge_units.specs.Version.{Knowing, cells_of, HaveEqualCounts, FitsTracking}
use Rattle.merge_units.specs.Cases.{case_by, is_conflict}
use Rattle.merge_units.specs.Results.{case_body, FitsDecision}
use Rattle.merge_units.specs.Laws.{HaveSameShape}
use Rattle.merge_resolve.specs.declared.question.Meeting.{Meeting}
use Rattle.merge_resolve.specs.Questions.{Asked, question_asked, decision_for_question}

-- a live body fits the tracking, and has a value for each column
abbrev pub HasColumns : Asked → Body → Type 0
HasColumns asked (Live cells) = FitsTracking asked.tracking cells × (value_count cells ≡ length asked.types)
HasColumns asked (Dead top) = Unit {0}

-- what a decision on a conflict counts as may be applied
abbrev pub CountedFits : Type 0
CountedFits = (here there : Knowing) (meeting : Meeting) (asked : Asked) (p i : Body) (decision : Decision) → HaveEqualCounts p i → HasColumns asked p
    → is_conflict (case_by here there p i) ≡ true
    → FitsDecision (case_by here there p i) p (decision_for_question (question_asked meeting asked p i (case_by here there p i)) decision)

-- and the row that it gives stays within its limit, whatever values were decided
abbrev pub CountedStaysInLimit : Type 0
CountedStaysInLimit = (here there : Knowing) (meeting : Meeting) (asked : Asked) (p i : Body) (decision : Decision) (dot : Dot) → HaveSameShape p i → HasColumns asked p
    → value_count (cells_of p) ≤ 64 → stored_length (cells_of p) ≤ row_limit → stored_length (cells_of i) ≤ row_limit → is_conflict (case_by here there p i) ≡ true
    → stored_length (cells_of (case_body dot (decision_for_question (question_asked meeting asked p i (case_by here there p i)) decision) (case_by here there p i) p i)) ≤ row_limit
