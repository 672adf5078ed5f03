-- The cells of a merge, one by one.
use Rattle.std.proofs.Common.{◌≡◌, ℕ, zero, suc, ◌<◌, Bool, true, false, List, [], ◌∷◌, ◌++◌, length, get_or, take, drop, if◌then◌else◌, refl, sym, ap, ◌∙◌, subst, arith}
use Rattle.std.specs.List.{list_any, zip}
use Rattle.std.proofs.lemmas.List.{length-take-le, length-drop, take-append-drop, nil_from_length, get_or-map}
use Rattle.std.proofs.lemmas.Slice.Zip.{length-zip, get_or-zip}
use Rattle.merge_types.specs.declared.Dot.{Dot}
use Rattle.merge_types.specs.declared.Value.{Value}
use Rattle.merge_lineage.specs.Lineage.{knows}
use Rattle.merge_units.specs.declared.version.Cell.{Cell}
use Rattle.merge_units.specs.declared.version.Body.{Body}
use Rattle.merge_units.specs.declared.version.Body.TheVariants.{Live, Dead}
use Rattle.merge_units.specs.declared.version.Version.{Version}
use Rattle.merge_units.specs.declared.case.Side.{Side}
use Rattle.merge_units.specs.declared.case.Side.TheVariants as side
use Rattle.merge_units.specs.declared.case.Case.TheVariants as case
use Rattle.merge_units.specs.declared.result.Decision.{Decision}
use Rattle.merge_units.specs.declared.result.Decision.TheVariants.{KeepPublisher, TakeSubscriber, Custom}
use Rattle.merge_units.specs.Version.{Knowing, HaveEqualCounts, cells_of}
use Rattle.merge_units.specs.Cases.{are_long, side_of, sides_of, is_both, case_of}
use Rattle.merge_units.specs.Results.{decided, taken, taken_count, result_cell, result_cells, case_body, result_of, FitsDecision, FitsLive, FitsBodies}
use Rattle.merge_units.specs.Laws.{IsCellBy, AreApart, MergesBySide, CellsBySide, conflicting_values, DecidedValuesStand}
use Rattle.merge_units.proofs.Fits.{fits_bodies, length-sides_of}

cell_by : (dot : Dot) (d : Decision) (values : List Value) (s : Side) (p i : Cell) → length values ≡ taken d s p → IsCellBy dot d s p i (result_cell dot d values s p i)
cell_by dot KeepPublisher values side.Neither p i count = refl
cell_by dot KeepPublisher values side.Publisher p i count = refl
cell_by dot KeepPublisher values side.Incoming p i count = refl
cell_by dot KeepPublisher values side.Both p i count = refl
cell_by dot TakeSubscriber values side.Neither p i count = refl
cell_by dot TakeSubscriber values side.Publisher p i count = refl
cell_by dot TakeSubscriber values side.Incoming p i count = refl
cell_by dot TakeSubscriber values side.Both p i count = refl
cell_by dot (Custom vs) values side.Neither p i count = refl
cell_by dot (Custom vs) values side.Publisher p i count = refl
cell_by dot (Custom vs) values side.Incoming p i count = refl
cell_by dot (Custom vs) values side.Both p i count = (refl, count)

module _ (dot : Dot) (d : Decision) where
  pub length-result_cells : (values : List Value) (ss : List Side) (ps is : List Cell) → length ss ≡ length ps → length ss ≡ length is → length (result_cells dot d values ss ps is) ≡ length ps
  length-result_cells values [] ps is here there = here
  length-result_cells values (s ∷ ss) [] is here there = refl
  length-result_cells values (s ∷ ss) (p ∷ ps) [] here there = absurd (omega arith)
  length-result_cells values (s ∷ ss) (p ∷ ps) (i ∷ is) here there = omega (arith, length-result_cells (drop (taken d s p) values) ss ps is (omega arith) (omega arith))

  cells_by : (values : List Value) (ss : List Side) (ps is : List Cell) → length ss ≡ length ps → length ss ≡ length is → length values ≡ taken_count d ss ps
      → (k : ℕ) (r : Side) (e : Cell) → k < length ss → IsCellBy dot d (get_or ss k r) (get_or ps k e) (get_or is k e) (get_or (result_cells dot d values ss ps is) k e)
  cells_by values [] ps is here there count k r e lt = absurd (omega arith)
  cells_by values (s ∷ ss) [] is here there count k r e lt = absurd (omega arith)
  cells_by values (s ∷ ss) (p ∷ ps) [] here there count k r e lt = absurd (omega arith)
  cells_by values (s ∷ ss) (p ∷ ps) (i ∷ is) here there count zero r e lt = cell_by dot d (take (taken d s p) values) s p i (length-take-le (taken d s p) values (omega arith))
  cells_by values (s ∷ ss) (p ∷ ps) (i ∷ is) here there count (suc k) r e lt =
      cells_by (drop (taken d s p) values) ss ps is (omega arith) (omega arith) (omega (arith, length-drop (taken d s p) values)) k r e (omega arith)

-- the body of the result of two live versions that both have news
pub live_body : (dot : Dot) (d : Decision) (any : Bool) (ss : List Side) (ps is : List Cell)
    → case_body dot d (if any then case.Conflict ss else case.Merge ss) (Live ps) (Live is) ≡ Live (result_cells dot d (decided d) ss ps is)
live_body dot d true ss ps is = refl
live_body dot d false ss ps is = refl

live_values : (any : Bool) (ss : List Side) (ps is : List Cell) (d : Decision) → FitsBodies (if any then case.Conflict ss else case.Merge ss) (Live ps) (Live is) d → length (decided d) ≡ taken_count d ss ps
live_values true ss ps is d fits = fits.values
live_values false ss ps is d fits = fits.values

side_at : (here there : Knowing) (ps is : List Cell) → length ps ≡ length is → (k : ℕ) (e : Cell) → k < length ps
    → get_or (sides_of here there ps is) k side.Neither ≡ side_of (are_long ps is) here there (get_or ps k e, get_or is k e)
side_at here there ps is counts k e lt =
    let pair = get_or-zip ps is k (e, e) lt (omega arith) in
    get_or-map (side_of (are_long ps is) here there) (zip ps is) k (e, e) side.Neither (omega (arith, length-zip ps is)) ∙ ap (side_of (are_long ps is) here there) pair

module _ (p i : Version) (d : Decision) (dot : Dot) (ours theirs : List Cell) (apart : AreApart p i ours theirs) where
  merged_body : (result_of p i d dot).body ≡ Live (result_cells dot d (decided d) (sides_of (knows p.lineage) (knows i.lineage) ours theirs) ours theirs)
  merged_body = rw (apart.news_here, apart.news_there, apart.here, apart.there) (live_body dot d (list_any is_both (sides_of (knows p.lineage) (knows i.lineage) ours theirs)) (sides_of (knows p.lineage) (knows i.lineage) ours theirs) ours theirs)

  merged_values : length ours ≡ length theirs → FitsDecision (case_of p i) p.body d → length (decided d) ≡ taken_count d (sides_of (knows p.lineage) (knows i.lineage) ours theirs) ours
  merged_values counts fits =
      let equal_counts : HaveEqualCounts p.body i.body = rw (apart.here, apart.there) counts in
      live_values (list_any is_both (sides_of (knows p.lineage) (knows i.lineage) ours theirs)) (sides_of (knows p.lineage) (knows i.lineage) ours theirs) ours theirs d
      (rw (apart.news_here, apart.news_there, apart.here, apart.there) at (fits_bodies p i d equal_counts fits))

pub cells_by_side : CellsBySide
cells_by_side p i d dot ours theirs apart counts fits =
    let ss = sides_of (knows p.lineage) (knows i.lineage) ours theirs in
    let here = length-sides_of (knows p.lineage) (knows i.lineage) ours theirs counts in
    let values = merged_values p i d dot ours theirs apart counts fits in
    let by : (k : ℕ) (e : Cell) → k < length ours → IsCellBy dot d (side_of (are_long ours theirs) (knows p.lineage) (knows i.lineage) (get_or ours k e, get_or theirs k e)) (get_or ours k e) (get_or theirs k e) (get_or (result_cells dot d (decided d) ss ours theirs) k e) =
    λ k e lt. subst (λ (s : Side). IsCellBy dot d s (get_or ours k e) (get_or theirs k e) (get_or (result_cells dot d (decided d) ss ours theirs) k e))
    (side_at (knows p.lineage) (knows i.lineage) ours theirs counts k e lt)
    (cells_by dot d (decided d) ss ours theirs here (here ∙ counts) values k side.Neither e (omega (arith, here))) in
    subst (λ (body : Body). MergesBySide p i d dot ours theirs (cells_of body)) (sym (merged_body p i d dot ours theirs apart))
    (record { counts = length-result_cells dot d (decided d) ss ours theirs here (here ∙ counts); cells = by })

-- what the conflicting cells take, end to end, is what was decided
decided_stand : (dot : Dot) (vs values : List Value) (ss : List Side) (ps is : List Cell) → length ss ≡ length ps → length ss ≡ length is → length values ≡ taken_count (Custom vs) ss ps
    → conflicting_values ss (result_cells dot (Custom vs) values ss ps is) ≡ values
decided_stand dot vs values [] ps is here there count = sym (nil_from_length values count)
decided_stand dot vs values (s ∷ ss) [] is here there count = absurd (omega arith)
decided_stand dot vs values (s ∷ ss) (p ∷ ps) [] here there count = absurd (omega arith)
decided_stand dot vs values (side.Neither ∷ ss) (p ∷ ps) (i ∷ is) here there count = decided_stand dot vs values ss ps is (omega arith) (omega arith) (omega arith)
decided_stand dot vs values (side.Publisher ∷ ss) (p ∷ ps) (i ∷ is) here there count = decided_stand dot vs values ss ps is (omega arith) (omega arith) (omega arith)
decided_stand dot vs values (side.Incoming ∷ ss) (p ∷ ps) (i ∷ is) here there count = decided_stand dot vs values ss ps is (omega arith) (omega arith) (omega arith)
decided_stand dot vs values (side.Both ∷ ss) (p ∷ ps) (i ∷ is) here there count =
    let n = length p.values in
    let rest = decided_stand dot vs (drop n values) ss ps is (omega arith) (omega arith) (omega (arith, length-drop n values)) in
    ap (λ (vs : List Value). take n values ++ vs) rest ∙ take-append-drop n values

live_decided : (dot : Dot) (values : List Value) (ss : List Side) (p i : Body) → FitsLive ss p i (Custom values)
    → conflicting_values ss (result_cells dot (Custom values) values ss (cells_of p) (cells_of i)) ≡ values
live_decided dot values ss (Dead p) i fits = absurd fits
live_decided dot values ss (Live ps) (Dead i) fits = absurd fits
live_decided dot values ss (Live ps) (Live is) fits = decided_stand dot values values ss ps is fits.here fits.there fits.values

pub decided_values_stand : DecidedValuesStand
decided_values_stand p i ss values dot counts is_conflict fits =
    rw is_conflict (live_decided dot values ss p.body i.body (rw is_conflict at (fits_bodies p i (Custom values) counts fits)))
