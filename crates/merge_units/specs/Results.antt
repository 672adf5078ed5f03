-- What a row becomes by a decision on two versions of it.
use Rattle.std.specs.Prelude.{◌≡◌, ℕ, ◌+◌, false, List, [], ◌∷◌, length, take, drop}
use Rattle.merge_types.specs.declared.Dot.{Dot}
use Rattle.merge_types.specs.declared.Value.{Value}
use Rattle.merge_lineage.specs.Lineage.{knows, with_dot, joined}
use Rattle.merge_units.specs.declared.version.Cell.{Cell}
use Rattle.merge_units.specs.declared.version.Body.{Body}
use Rattle.merge_units.specs.declared.version.Body.TheVariants.{Live}
use Rattle.merge_units.specs.declared.version.Version.{Version}
use Rattle.merge_units.specs.declared.case.Side.{Side}
use Rattle.merge_units.specs.declared.case.Side.TheVariants as side
use Rattle.merge_units.specs.declared.case.Case.{Case}
use Rattle.merge_units.specs.declared.case.Case.TheVariants as case
use Rattle.merge_units.specs.declared.result.Decision.{Decision}
use Rattle.merge_units.specs.declared.result.Decision.TheVariants.{TakeSubscriber, Custom}
use Rattle.merge_units.specs.Version.{cells_of}
use Rattle.merge_units.specs.Cases.{case_of}

-- the values that a decision brings
abbrev pub decided : Decision → List Value
decided (Custom values) = values
decided _ = []

-- how many decided values a cell takes
abbrev pub taken : Decision → Side → Cell → ℕ
taken (Custom values) side.Both ours = length ours.values
taken _ _ ours = 0

-- how many the cells take
abbrev pub taken_count : Decision → List Side → List Cell → ℕ
taken_count decision [] ours = 0
taken_count decision (s ∷ ss) [] = 0
taken_count decision (s ∷ ss) (p ∷ ps) = taken decision s p + taken_count decision ss ps

-- a cell with decided values
abbrev pub decided_cell : Dot → List Value → Cell
decided_cell dot values = record { top = dot; values = values }

-- the cell that a pair gives, where these values are decided for it
abbrev pub result_cell : Dot → Decision → List Value → Side → Cell → Cell → Cell
result_cell dot decision values side.Incoming ours theirs = theirs
result_cell dot TakeSubscriber values side.Both ours theirs = theirs
result_cell dot (Custom _) values side.Both ours theirs = decided_cell dot values
result_cell dot decision values _ ours theirs = ours

-- the cells of the result. Of the decided values each conflicting cell takes as many as it has
abbrev pub result_cells : Dot → Decision → List Value → List Side → List Cell → List Cell → List Cell
result_cells dot decision values [] ours theirs = []
result_cells dot decision values (s ∷ ss) [] theirs = []
result_cells dot decision values (s ∷ ss) (p ∷ ps) [] = []
result_cells dot decision values (s ∷ ss) (p ∷ ps) (i ∷ is) =
    result_cell dot decision (take (taken decision s p) values) s p i ∷ result_cells dot decision (drop (taken decision s p) values) ss ps is

-- the body that wins as a whole
abbrev pub winner_body : Decision → Body → Body → Body
winner_body TakeSubscriber ours theirs = theirs
winner_body _ ours theirs = ours

-- the body of the result
abbrev pub case_body : Dot → Decision → Case → Body → Body → Body
case_body dot decision case.Take ours theirs = theirs
case_body dot decision (case.Merge sides) ours theirs = Live (result_cells dot decision (decided decision) sides (cells_of ours) (cells_of theirs))
case_body dot decision (case.Conflict sides) ours theirs = Live (result_cells dot decision (decided decision) sides (cells_of ours) (cells_of theirs))
case_body dot decision case.LifeConflict ours theirs = winner_body decision ours theirs
case_body dot decision _ ours theirs = ours

-- the join of both, with the dot of decided values
abbrev pub result_lineage : List Dot → List Dot → Decision → Dot → List Dot
result_lineage here there (Custom values) dot = with_dot dot (joined here there)
result_lineage here there _ dot = joined here there

-- the row's version after a case was decided
abbrev pub result_by : Case → Version → Version → Decision → Dot → Version
result_by case p i decision dot = record {
  lineage = result_lineage p.lineage i.lineage decision dot;
  body = case_body dot decision case p.body i.body;
}

abbrev pub result_of : Version → Version → Decision → Dot → Version
result_of p i decision dot = result_by (case_of p i) p i decision dot

-- values may be decided in a conflict alone, as many as the conflicting cells have
abbrev pub FitsDecision : Case → Body → Decision → Type 0
FitsDecision (case.Conflict sides) (Live ours) (Custom values) = length values ≡ taken_count (Custom values) sides ours
FitsDecision _ _ (Custom values) = ⊥
FitsDecision _ _ _ = Unit {0}

-- neither side knows the dot of decided values
abbrev pub IsNewWhereDecided : List Dot → List Dot → Decision → Dot → Type 0
IsNewWhereDecided here there (Custom values) dot = (knows here dot ≡ false) × (knows there dot ≡ false)
IsNewWhereDecided here there _ dot = Unit {0}

-- the lists of a merge are as long, and the decided values are as many as the cells take
pub record FitsMerge (sides : List Side) (ours theirs : List Cell) (decision : Decision) : Type 0 where
  pub here : length sides ≡ length ours
  pub there : length sides ≡ length theirs
  pub values : length (decided decision) ≡ taken_count decision sides ours

abbrev pub FitsLive : List Side → Body → Body → Decision → Type 0
FitsLive sides (Live ours) (Live theirs) decision = FitsMerge sides ours theirs decision
FitsLive sides _ _ decision = ⊥

-- what a case asks of the bodies and of the decision
abbrev pub FitsBodies : Case → Body → Body → Decision → Type 0
FitsBodies (case.Merge sides) ours theirs decision = FitsLive sides ours theirs decision
FitsBodies (case.Conflict sides) ours theirs decision = FitsLive sides ours theirs decision
FitsBodies _ ours theirs decision = Unit {0}
