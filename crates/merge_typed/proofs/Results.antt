-- What a row becomes by a decision is typed, where both versions and the decided values are.
use Rattle.std.specs.List.{AllByRecursion}
use Rattle.std.specs.Prelude.{List, [], drop, take, ◌∷◌}
use Rattle.merge_types.specs.declared.identifiers.Dot.{Dot}
use Rattle.merge_types.specs.declared.values.Value.{Value}
use Rattle.merge_units.specs.Results.{case_body, decided, result_cell, result_cells, taken, winner_body}
use Rattle.merge_units.specs.Version.{cells_of}
use Rattle.merge_units.specs.declared.case.Case.{Case}
use Rattle.merge_units.specs.declared.case.Case.TheVariants as case
use Rattle.merge_units.specs.declared.case.Side.{Side}
use Rattle.merge_units.specs.declared.case.Side.TheVariants as side
use Rattle.merge_units.specs.declared.result.Decision.{Decision}
use Rattle.merge_units.specs.declared.result.Decision.TheVariants.{Custom, KeepPublisher, TakeSubscriber}
use Rattle.merge_units.specs.declared.version.Body.{Body}
use Rattle.merge_units.specs.declared.version.Cell.{Cell}
use Rattle.merge_record.specs.Versions.{IsValue}
use Rattle.merge_typed.specs.Typed.{BodyIsTyped, CellIsTyped}
use Rattle.merge_typed.proofs.Entries.{all-left, all-taken}
use Rattle.merge_typed.proofs.Values.{cells-typed}

-- a decision whose values a record can have
abbrev pub DecisionFits : Decision → Type 0
DecisionFits (Custom values) = AllByRecursion IsValue values
DecisionFits decision = Unit {0}

decided-are : (decision : Decision) → DecisionFits decision → AllByRecursion IsValue (decided decision)
decided-are KeepPublisher fits = tt
decided-are TakeSubscriber fits = tt
decided-are (Custom values) fits = fits

cell-is : (dot : Dot) (decision : Decision) (values : List Value) (s : Side) (ours theirs : Cell) → AllByRecursion IsValue values → CellIsTyped ours → CellIsTyped theirs → CellIsTyped (result_cell dot decision values s ours theirs)
cell-is dot decision values side.Incoming ours theirs all here there = there
cell-is dot TakeSubscriber values side.Both ours theirs all here there = there
cell-is dot (Custom others) values side.Both ours theirs all here there = all
cell-is dot KeepPublisher values side.Both ours theirs all here there = here
cell-is dot TakeSubscriber values side.Publisher ours theirs all here there = here
cell-is dot (Custom others) values side.Publisher ours theirs all here there = here
cell-is dot KeepPublisher values side.Publisher ours theirs all here there = here
cell-is dot TakeSubscriber values side.Neither ours theirs all here there = here
cell-is dot (Custom others) values side.Neither ours theirs all here there = here
cell-is dot KeepPublisher values side.Neither ours theirs all here there = here

cells-are : (dot : Dot) (decision : Decision) (values : List Value) (sides : List Side) (ours theirs : List Cell) → AllByRecursion IsValue values → AllByRecursion CellIsTyped ours → AllByRecursion CellIsTyped theirs
    → AllByRecursion CellIsTyped (result_cells dot decision values sides ours theirs)
cells-are dot decision values [] ours theirs all here there = tt
cells-are dot decision values (s ∷ sides) [] theirs all here there = tt
cells-are dot decision values (s ∷ sides) (p ∷ ours) [] all here there = tt
cells-are dot decision values (s ∷ sides) (p ∷ ours) (i ∷ theirs) all here there = (
  cell-is dot decision (take (taken decision s p) values) s p i (all-taken IsValue (taken decision s p) values all) here.0 there.0,
  cells-are dot decision (drop (taken decision s p) values) sides ours theirs (all-left IsValue (taken decision s p) values all) here.1 there.1,
)

winner-is : (decision : Decision) (ours theirs : Body) → BodyIsTyped ours → BodyIsTyped theirs → BodyIsTyped (winner_body decision ours theirs)
winner-is KeepPublisher ours theirs here there = here
winner-is TakeSubscriber ours theirs here there = there
winner-is (Custom values) ours theirs here there = here

pub body-is : (dot : Dot) (decision : Decision) (c : Case) (ours theirs : Body) → DecisionFits decision → BodyIsTyped ours → BodyIsTyped theirs → BodyIsTyped (case_body dot decision c ours theirs)
body-is dot decision case.Take ours theirs fits here there = there
body-is dot decision (case.Merge sides) ours theirs fits here there = cells-are dot decision (decided decision) sides (cells_of ours) (cells_of theirs) (decided-are decision fits) (cells-typed ours here) (cells-typed theirs there)
body-is dot decision (case.Conflict sides) ours theirs fits here there = cells-are dot decision (decided decision) sides (cells_of ours) (cells_of theirs) (decided-are decision fits) (cells-typed ours here) (cells-typed theirs there)
body-is dot decision case.LifeConflict ours theirs fits here there = winner-is decision ours theirs here there
body-is dot decision case.Nothing ours theirs fits here there = here
body-is dot decision case.Unite ours theirs fits here there = here
