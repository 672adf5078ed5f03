-- How long the rows are that merges make.
use Rattle.std.proofs.Common.{◌≡◌, ◌+◌, ◌≤◌, Bool, true, false, List, [], ◌∷◌, length, map, max, sum_by, drop, take, ◌⊎◌, inl, inr, refl, ap, arith}
use Rattle.std.specs.List.{list_any, zip}
use Rattle.std.proofs.lemmas.List.{length-map}
use Rattle.std.proofs.lemmas.List.Sums.{sum_by-cons}
use Rattle.std.proofs.lemmas.Bool.Decides.{nat_tests}
use Rattle.merge_types.specs.Limits.{row_limit, united_limit}
use Rattle.merge_types.specs.declared.Dot.{Dot}
use Rattle.merge_types.specs.declared.Value.{Value}
use Rattle.merge_types.specs.declared.Value.TheVariants as value
use Rattle.merge_lineage.specs.Lineage.{knows}
use Rattle.merge_units.specs.declared.version.Cell.{Cell}
use Rattle.merge_units.specs.declared.version.Body.{Body}
use Rattle.merge_units.specs.declared.version.Body.TheVariants.{Live, Dead}
use Rattle.merge_units.specs.declared.case.Side.{Side}
use Rattle.merge_units.specs.declared.case.Side.TheVariants as side
use Rattle.merge_units.specs.declared.result.Decision.{Decision}
use Rattle.merge_units.specs.declared.result.Decision.TheVariants.{KeepPublisher, TakeSubscriber, Custom}
use Rattle.merge_types.specs.Length.{stored_length as value_length, weight}
use Rattle.merge_units.specs.Length.{stored_length, cell_weight, value_count}
use Rattle.merge_units.specs.Version.{Knowing, has_news, cells_of}
use Rattle.merge_units.specs.Cases.{united_weight, are_long, side_by, side_of, sides_of, is_both, bodies_case, news_case, case_by}
use Rattle.merge_units.specs.Results.{decided, taken, result_cell, result_cells, case_body, winner_body}
use Rattle.merge_units.specs.Laws.{HaveSameShape, PicksSide, RowsStayInLimit}
use Rattle.merge_units.proofs.Merged.{live_body}

-- a Null has one byte more than it weighs, and no value has more
stored_by_weight : (v : Value) → value_length v ≤ weight v + 1
stored_by_weight value.Null = omega arith
stored_by_weight (value.Int n) = omega arith
stored_by_weight (value.Bit b) = omega arith
stored_by_weight (value.Text text) = omega arith
stored_by_weight (value.Day d) = omega arith
stored_by_weight (value.Guid g) = omega arith
stored_by_weight (value.Bytes bytes) = omega arith

cell_by_weight : (values : List Value) → sum_by value_length values ≤ sum_by weight values + length values
cell_by_weight [] = omega arith
cell_by_weight (v ∷ vs) = omega (arith, sum_by-cons value_length v vs, sum_by-cons weight v vs, stored_by_weight v, cell_by_weight vs)

-- where a side wins, a cell is that of one side
picks : (dot : Dot) (d : Decision) (values : List Value) (s : Side) (p i : Cell) → PicksSide d → (result_cell dot d values s p i ≡ p) ⊎ (result_cell dot d values s p i ≡ i)
picks dot (Custom vs) values s p i side = absurd side
picks dot KeepPublisher values side.Neither p i side = inl refl
picks dot KeepPublisher values side.Publisher p i side = inl refl
picks dot KeepPublisher values side.Incoming p i side = inr refl
picks dot KeepPublisher values side.Both p i side = inl refl
picks dot TakeSubscriber values side.Neither p i side = inl refl
picks dot TakeSubscriber values side.Publisher p i side = inl refl
picks dot TakeSubscriber values side.Incoming p i side = inr refl
picks dot TakeSubscriber values side.Both p i side = inr refl

cell_fits : (dot : Dot) (d : Decision) (values : List Value) (s : Side) (p i : Cell) → PicksSide d → length p.values ≡ length i.values
    → sum_by value_length (result_cell dot d values s p i).values ≤ max (cell_weight p) (cell_weight i) + length p.values
cell_fits dot d values s p i side shape =
    let bound : (cell : Cell) → (cell ≡ p) ⊎ (cell ≡ i) → sum_by value_length cell.values ≤ max (cell_weight p) (cell_weight i) + length p.values =
    λ cell which. elim which [
      | inl is_p ↦ rw is_p (omega (arith, cell_by_weight p.values))
      | inr is_i ↦ rw is_i (omega (arith, cell_by_weight i.values, shape))
    ] in
    bound (result_cell dot d values s p i) (picks dot d values s p i side)

row_fits : (dot : Dot) (d : Decision) (values : List Value) (ss : List Side) (ps is : List Cell) → PicksSide d → map (λ (cell : Cell). length cell.values) ps ≡ map (λ (cell : Cell). length cell.values) is
    → stored_length (result_cells dot d values ss ps is) ≤ united_weight (zip ps is) + value_count ps
row_fits dot d values [] ps is side shape = omega arith
row_fits dot d values (s ∷ ss) [] is side shape = omega arith
row_fits dot d values (s ∷ ss) (p ∷ ps) [] side shape = omega arith
row_fits dot d values (s ∷ ss) (p ∷ ps) (i ∷ is) side shape =
    let first : length p.values ≡ length i.values = cc in
    let rest : map (λ (cell : Cell). length cell.values) ps ≡ map (λ (cell : Cell). length cell.values) is = cc in
    let cell = result_cell dot d (take (taken d s p) values) s p i in
    let cells = result_cells dot d (drop (taken d s p) values) ss ps is in
    omega (
      arith,
      sum_by-cons (λ (cell : Cell). sum_by value_length cell.values) cell cells,
      sum_by-cons (λ (pair : Cell × Cell). max (cell_weight pair.0) (cell_weight pair.1)) (p, i) (zip ps is),
      sum_by-cons (λ (cell : Cell). length cell.values) p ps,
      cell_fits dot d (take (taken d s p) values) s p i side first,
      row_fits dot d (drop (taken d s p) values) ss ps is side rest,
    )

-- where every cell conflicts, one side wins as a whole
module _ (dot : Dot) (here there : Knowing) where
  all_kept : (values : List Value) (ps is : List Cell) → length ps ≡ length is → result_cells dot KeepPublisher values (map (side_of true here there) (zip ps is)) ps is ≡ ps
  unfolding side_by
  all_kept values [] is counts = refl
  all_kept values (p ∷ ps) [] counts = absurd (omega arith)
  all_kept values (p ∷ ps) (i ∷ is) counts = ap (λ (cells : List Cell). p ∷ cells) (all_kept values ps is (omega arith))

  all_taken : (values : List Value) (ps is : List Cell) → length ps ≡ length is → result_cells dot TakeSubscriber values (map (side_of true here there) (zip ps is)) ps is ≡ is
  unfolding side_by
  all_taken values [] [] counts = refl
  all_taken values [] (i ∷ is) counts = absurd (omega arith)
  all_taken values (p ∷ ps) [] counts = absurd (omega arith)
  all_taken values (p ∷ ps) (i ∷ is) counts = ap (λ (cells : List Cell). i ∷ cells) (all_taken values ps is (omega arith))

module _ (dot : Dot) (here there : Knowing) (ps is : List Cell) (shape : map (λ (cell : Cell). length cell.values) ps ≡ map (λ (cell : Cell). length cell.values) is)
    (columns : value_count ps ≤ 64) (ours : stored_length ps ≤ row_limit) (theirs : stored_length is ≤ row_limit) where
  equal_counts : length ps ≡ length is
  equal_counts = omega (arith, ap length shape, length-map ps (λ (cell : Cell). length cell.values), length-map is (λ (cell : Cell). length cell.values))

  -- long together one side has the row, and else each cell is within the heavier one
  by_length : (d : Decision) → PicksSide d → (values : List Value) (long : Bool) → are_long ps is ≡ long → stored_length (result_cells dot d values (map (side_of long here there) (zip ps is)) ps is) ≤ row_limit
  by_length (Custom vs) side values long is_long = absurd side
  by_length KeepPublisher side values true is_long = rw (all_kept dot here there values ps is equal_counts) ours
  by_length TakeSubscriber side values true is_long = rw (all_taken dot here there values ps is equal_counts) theirs
  by_length d side values false not_long =
      let light : united_weight (zip ps is) ≤ united_limit = grind (arith, nat_tests) in
      omega (arith, row_fits dot d values (map (side_of false here there) (zip ps is)) ps is side shape)

row_of_side : (d : Decision) → PicksSide d → (p i : Body) → stored_length (cells_of p) ≤ row_limit → stored_length (cells_of i) ≤ row_limit → stored_length (cells_of (winner_body d p i)) ≤ row_limit
row_of_side (Custom vs) side p i ours theirs = absurd side
row_of_side KeepPublisher side p i ours theirs = ours
row_of_side TakeSubscriber side p i ours theirs = theirs

module _ (dot : Dot) (here there : Knowing) (d : Decision) (side : PicksSide d) where
  by_bodies : (p i : Body) → HaveSameShape p i → value_count (cells_of p) ≤ 64 → stored_length (cells_of p) ≤ row_limit → stored_length (cells_of i) ≤ row_limit
      → stored_length (cells_of (case_body dot d (bodies_case here there p i) p i)) ≤ row_limit
  by_bodies (Dead p) (Dead i) shape columns ours theirs = ours
  by_bodies (Dead p) (Live is) shape columns ours theirs = row_of_side d side (Dead p) (Live is) ours theirs
  by_bodies (Live ps) (Dead i) shape columns ours theirs = row_of_side d side (Live ps) (Dead i) ours theirs
  by_bodies (Live ps) (Live is) shape columns ours theirs =
      rw (live_body dot d (list_any is_both (sides_of here there ps is)) (sides_of here there ps is) ps is)
      (by_length dot here there ps is shape columns ours theirs d side (decided d) (are_long ps is) refl)

  by_news : (ours theirs : Bool) (p i : Body) → HaveSameShape p i → value_count (cells_of p) ≤ 64 → stored_length (cells_of p) ≤ row_limit → stored_length (cells_of i) ≤ row_limit
      → stored_length (cells_of (case_body dot d (news_case ours theirs (bodies_case here there p i)) p i)) ≤ row_limit
  by_news true true p i shape columns our_row their_row = by_bodies p i shape columns our_row their_row
  by_news false true p i shape columns our_row their_row = their_row
  by_news true false p i shape columns our_row their_row = our_row
  by_news false false p i shape columns our_row their_row = our_row

  -- by what each version knows
  pub rows_stay_by : (p i : Body) → HaveSameShape p i → value_count (cells_of p) ≤ 64 → stored_length (cells_of p) ≤ row_limit → stored_length (cells_of i) ≤ row_limit
      → stored_length (cells_of (case_body dot d (case_by here there p i) p i)) ≤ row_limit
  rows_stay_by p i shape columns ours theirs = by_news (has_news there p) (has_news here i) p i shape columns ours theirs

pub rows_stay_in_limit : RowsStayInLimit
rows_stay_in_limit p i d dot side shape columns ours theirs = rows_stay_by dot (knows p.lineage) (knows i.lineage) d side p.body i.body shape columns ours theirs
