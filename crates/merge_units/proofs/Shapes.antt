-- The cells of a row keep fitting its tracking.
use Rattle.std.proofs.Common.{◌≡◌, ℕ, ◌+◌, List, [], ◌∷◌, length, map, drop, take, Option, Some, None, refl, ◌∙◌, arith}
use Rattle.std.specs.Prelude.{All}
use Rattle.std.specs.List.{enumerate_from}
use Rattle.std.proofs.lemmas.List.{length-map, length-take-le, length-drop}
use Rattle.std.proofs.lemmas.List.Elements.{All-nil, All-cons, All-head, All-tail}
use Rattle.merge_types.specs.declared.Dot.{Dot}
use Rattle.merge_types.specs.declared.Value.{Value}
use Rattle.merge_types.specs.declared.Setting.{Setting}
use Rattle.merge_types.specs.declared.Tracking.{Tracking}
use Rattle.merge_types.specs.declared.Tracking.TheVariants as tracking
use Rattle.merge_units.specs.declared.version.Cell.{Cell}
use Rattle.merge_units.specs.declared.version.Body.{Body}
use Rattle.merge_units.specs.declared.version.Body.TheVariants.{Live, Dead}
use Rattle.merge_units.specs.declared.case.Side.{Side}
use Rattle.merge_units.specs.declared.case.Side.TheVariants as side
use Rattle.merge_units.specs.declared.case.Case.{Case}
use Rattle.merge_units.specs.declared.case.Case.TheVariants as case
use Rattle.merge_units.specs.declared.result.Decision.{Decision}
use Rattle.merge_units.specs.declared.result.Decision.TheVariants.{KeepPublisher, TakeSubscriber, Custom}
use Rattle.merge_units.specs.Version.{FitsTracking, cells_of}
use Rattle.merge_units.specs.Cases.{case_of}
use Rattle.merge_units.specs.Changes.{set_value, new_cell, new_cells, cell_after, whole_row_after}
use Rattle.merge_units.specs.Results.{decided, taken, taken_count, result_cell, result_cells, case_body, FitsMerge, FitsLive, FitsBodies}
use Rattle.merge_units.specs.Laws.{FitsBody, ResultFits, ChangeFits, InsertFits}
use Rattle.merge_units.proofs.Fits.{fits_bodies}
use Rattle.merge_units.proofs.Merged.{length-result_cells}

abbrev HasOne : Cell → Type 0
HasOne cell = length cell.values ≡ 1

one_here : (dot : Dot) (d : Decision) (values : List Value) (s : Side) (p i : Cell) → length values ≡ taken d s p → HasOne p → HasOne i → HasOne (result_cell dot d values s p i)
one_here dot KeepPublisher values side.Neither p i count ours theirs = ours
one_here dot KeepPublisher values side.Publisher p i count ours theirs = ours
one_here dot KeepPublisher values side.Incoming p i count ours theirs = theirs
one_here dot KeepPublisher values side.Both p i count ours theirs = ours
one_here dot TakeSubscriber values side.Neither p i count ours theirs = ours
one_here dot TakeSubscriber values side.Publisher p i count ours theirs = ours
one_here dot TakeSubscriber values side.Incoming p i count ours theirs = theirs
one_here dot TakeSubscriber values side.Both p i count ours theirs = theirs
one_here dot (Custom vs) values side.Neither p i count ours theirs = ours
one_here dot (Custom vs) values side.Publisher p i count ours theirs = ours
one_here dot (Custom vs) values side.Incoming p i count ours theirs = theirs
one_here dot (Custom vs) values side.Both p i count ours theirs = count ∙ ours

one_each : (dot : Dot) (d : Decision) (values : List Value) (ss : List Side) (ps is : List Cell) → length values ≡ taken_count d ss ps → All HasOne ps → All HasOne is → All HasOne (result_cells dot d values ss ps is)
one_each dot d values [] ps is count ours theirs = All-nil HasOne
one_each dot d values (s ∷ ss) [] is count ours theirs = All-nil HasOne
one_each dot d values (s ∷ ss) (p ∷ ps) [] count ours theirs = All-nil HasOne
one_each dot d values (s ∷ ss) (p ∷ ps) (i ∷ is) count ours theirs = All-cons HasOne _ _
    (one_here dot d (take (taken d s p) values) s p i (length-take-le (taken d s p) values (omega arith)) (All-head HasOne p ps ours) (All-head HasOne i is theirs))
    (one_each dot d (drop (taken d s p) values) ss ps is (omega (arith, length-drop (taken d s p) values)) (All-tail HasOne p ps ours) (All-tail HasOne i is theirs))

merged_fits : (t : Tracking) (dot : Dot) (d : Decision) (ss : List Side) (ps is : List Cell) → FitsMerge ss ps is d → FitsTracking t ps → FitsTracking t is → FitsTracking t (result_cells dot d (decided d) ss ps is)
merged_fits tracking.Row dot d ss ps is fits ours theirs = length-result_cells dot d (decided d) ss ps is fits.here fits.there ∙ ours
merged_fits tracking.ByColumn dot d ss ps is fits ours theirs = one_each dot d (decided d) ss ps is fits.values ours theirs

live_fits : (t : Tracking) (dot : Dot) (d : Decision) (ss : List Side) (p i : Body) → FitsLive ss p i d → FitsBody t p → FitsBody t i → FitsTracking t (result_cells dot d (decided d) ss (cells_of p) (cells_of i))
live_fits t dot d ss (Live ps) (Live is) fits ours theirs = merged_fits t dot d ss ps is fits ours theirs
live_fits t dot d ss (Live ps) (Dead i) fits ours theirs = absurd fits
live_fits t dot d ss (Dead p) i fits ours theirs = absurd fits

body_fits : (t : Tracking) (dot : Dot) (d : Decision) (c : Case) (p i : Body) → FitsBodies c p i d → FitsBody t p → FitsBody t i → FitsBody t (case_body dot d c p i)
body_fits t dot d case.Nothing p i fits ours theirs = ours
body_fits t dot d case.Take p i fits ours theirs = theirs
body_fits t dot d case.Unite p i fits ours theirs = ours
body_fits t dot d (case.Merge ss) p i fits ours theirs = live_fits t dot d ss p i fits ours theirs
body_fits t dot d (case.Conflict ss) p i fits ours theirs = live_fits t dot d ss p i fits ours theirs
body_fits t dot KeepPublisher case.LifeConflict p i fits ours theirs = ours
body_fits t dot TakeSubscriber case.LifeConflict p i fits ours theirs = theirs
body_fits t dot (Custom vs) case.LifeConflict p i fits ours theirs = ours

pub result_fits : ResultFits
result_fits t p i d dot counts fits ours theirs = body_fits t dot d (case_of p i) p.body i.body (fits_bodies p i d counts fits) ours theirs

new_has_one : (dot : Dot) (o : Option Value) (cell : Cell) → HasOne cell → HasOne (new_cell dot o cell)
new_has_one dot None cell one = one
new_has_one dot (Some value) cell one = refl

columns_have_one : (dot : Dot) (edits : List Setting) (n : ℕ) (cells : List Cell) → All HasOne cells → All HasOne (map (cell_after dot edits) (enumerate_from n cells))
columns_have_one dot edits n [] each = All-nil HasOne
columns_have_one dot edits n (x ∷ xs) each = All-cons HasOne _ _
    (new_has_one dot (set_value edits n) x (All-head HasOne x xs each))
    (columns_have_one dot edits (n + 1) xs (All-tail HasOne x xs each))

pub change_fits : ChangeFits
change_fits tracking.Row v dot edits fits = length-map (cells_of v.body) (whole_row_after dot edits) ∙ fits
change_fits tracking.ByColumn v dot edits fits = columns_have_one dot edits 0 (cells_of v.body) fits

columns_of_one : (dot : Dot) (values : List Value) → All HasOne (new_cells tracking.ByColumn dot values)
columns_of_one dot [] = All-nil HasOne
columns_of_one dot (value ∷ values) = All-cons HasOne _ _ refl (columns_of_one dot values)

pub insert_fits : InsertFits
insert_fits tracking.Row dot values = refl
insert_fits tracking.ByColumn dot values = columns_of_one dot values
