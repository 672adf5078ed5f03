-- Decisions that count fit their rows.
use Rattle.std.proofs.Common.{◌≡◌, ℕ, ◌+◌, ◌≤◌, Bool, true, false, List, [], ◌∷◌, ◌++◌, length, take, drop, sum_by, Option, Some, None, if◌then◌else◌, refl, sym, ap, ◌∙◌, subst, arith}
use Rattle.std.specs.Prelude.{filter_map, All, ◌&&◌, ◌==◌, slice_set}
use Rattle.std.specs.List.{list_any, enumerate_from}
use Rattle.std.proofs.lemmas.Bool.Decides.{nat_tests}
use Rattle.std.proofs.lemmas.List.{length-set, length-take-le, length-drop, take-append-drop, length-map}
use Rattle.std.proofs.lemmas.List.Sums.{sum_by-cons, sum_by-append}
use Rattle.std.proofs.lemmas.List.Elements.{All-head, All-tail}
use Rattle.merge_types.specs.Limits.{row_limit}
use Rattle.merge_types.specs.Length.{row_length, stored_length as value_length}
use Rattle.merge_types.specs.declared.identifiers.Dot.{Dot}
use Rattle.merge_types.specs.declared.changes.Tracking.{Tracking}
use Rattle.merge_types.specs.declared.changes.Tracking.TheVariants as tracking
use Rattle.merge_types.specs.declared.values.ColumnType.{ColumnType}
use Rattle.merge_types.specs.declared.values.Value.{Value}
use Rattle.merge_units.specs.declared.version.Cell.{Cell}
use Rattle.merge_units.specs.declared.version.Body.{Body}
use Rattle.merge_units.specs.declared.version.Body.TheVariants.{Live, Dead}
use Rattle.merge_units.specs.declared.case.Side.{Side}
use Rattle.merge_units.specs.declared.case.Side.TheVariants as side
use Rattle.merge_units.specs.declared.case.Case.{Case}
use Rattle.merge_units.specs.declared.case.Case.TheVariants as case
use Rattle.merge_units.specs.declared.result.Decision.{Decision}
use Rattle.merge_units.specs.declared.result.Decision.TheVariants.{KeepPublisher, TakeSubscriber, Custom}
use Rattle.merge_units.specs.Length.{stored_length, value_count}
use Rattle.merge_units.specs.Version.{Knowing, has_news, cells_of, HaveEqualCounts, FitsTracking}
use Rattle.merge_units.specs.Cases.{is_both, sides_of, bodies_case, news_case, case_by, is_conflict}
use Rattle.merge_units.specs.Results.{taken, taken_count, result_cell, result_cells, case_body, FitsDecision}
use Rattle.merge_units.specs.Laws.{HaveSameShape}
use Rattle.merge_units.proofs.Fits.{length-sides_of}
use Rattle.merge_units.proofs.Limit.{rows_stay_by}
use Rattle.merge_resolve.specs.declared.case.CaseKind.{CaseKind}
use Rattle.merge_resolve.specs.declared.case.ConflictCase.{ConflictCase}
use Rattle.merge_resolve.specs.declared.question.Meeting.{Meeting}
use Rattle.merge_types.specs.Fitting.{fits_column}
use Rattle.merge_resolve.specs.Counted.{is_by_row, fits_place, fit_all, fit_columns, own_placed, with_own, side_length, kept_length, is_short_row, is_within, within_or_kept}
use Rattle.merge_resolve.specs.ValueTypes.{are_typed}
use Rattle.merge_resolve.specs.Columns.{body_value}
use Rattle.merge_resolve.specs.Questions.{Asked, tracking_kind, both_place, case_asked, question_asked, decision_for_question}
use Rattle.merge_resolve.specs.CountedLaws.{HasColumns, CountedFits, CountedStaysInLimit}

-- a list that fits has one value for each
fit_all_length : {A : Type 0} (fits : A → Value → Bool) (xs : List A) (values : List Value) → fit_all fits xs values ≡ true → length xs ≡ length values
fit_all_length fits [] [] fit = refl
fit_all_length fits [] (value ∷ values) fit = absurd cc
fit_all_length fits (x ∷ xs) [] fit = absurd cc
fit_all_length fits (x ∷ xs) (value ∷ values) fit = grind (arith, fit_all_length fits xs values)

own_placed_length : (identity : ℕ) (own : Value) (places : List ℕ) (values : List Value) → length places ≡ length values → length (own_placed identity own places values) ≡ length values
own_placed_length identity own [] values even = even
own_placed_length identity own (place ∷ places) [] even = refl
own_placed_length identity own (place ∷ places) (value ∷ values) even = omega (arith, own_placed_length identity own places values (omega arith))

own_length : (by_row : Bool) (identity : ℕ) (own : Value) (cells : List ℕ) (values : List Value) → (by_row ≡ false → length cells ≡ length values)
    → length (if by_row then slice_set values identity own else own_placed identity own cells values) ≡ length values
own_length true identity own cells values even = length-set values identity own
own_length false identity own cells values even = own_placed_length identity own cells values (even refl)

-- the identity column's own value changes no length
with_own_length : (asked : ConflictCase) (identity : Option ℕ) (own : Option Value) (values : List Value) → (is_by_row asked.kind ≡ false → length asked.cells ≡ length values)
    → length (with_own asked identity own values) ≡ length values
with_own_length asked None own values even = refl
with_own_length asked (Some identity) None values even = refl
with_own_length asked (Some identity) (Some own) values even = own_length (is_by_row asked.kind) identity own asked.cells values even

abbrev HasOne : Cell → Type 0
HasOne cell = length cell.values ≡ 1

-- with column tracking each conflicting cell takes one value
one_each : (vs : List Value) (n : ℕ) (ss : List Side) (ps : List Cell) → length ss ≡ length ps → All HasOne ps → length (filter_map both_place (enumerate_from n ss)) ≡ taken_count (Custom vs) ss ps
one_each vs n [] ps even ones = refl
one_each vs n (s ∷ ss) [] even ones = absurd (omega arith)
one_each vs n (side.Neither ∷ ss) (p ∷ ps) even ones = omega (arith, one_each vs (n + 1) ss ps (omega arith) (All-tail HasOne p ps ones))
one_each vs n (side.Publisher ∷ ss) (p ∷ ps) even ones = omega (arith, one_each vs (n + 1) ss ps (omega arith) (All-tail HasOne p ps ones))
one_each vs n (side.Incoming ∷ ss) (p ∷ ps) even ones = omega (arith, one_each vs (n + 1) ss ps (omega arith) (All-tail HasOne p ps ones))
one_each vs n (side.Both ∷ ss) (p ∷ ps) even ones =
    let first : length p.values ≡ 1 = All-head HasOne p ps ones in
    omega (arith, one_each vs (n + 1) ss ps (omega arith) (All-tail HasOne p ps ones))

-- with row tracking the one cell conflicts, and takes all
all_in_one : (vs : List Value) (ss : List Side) (ps : List Cell) → length ss ≡ length ps → length ps ≡ 1 → list_any is_both ss ≡ true → value_count ps ≡ taken_count (Custom vs) ss ps
all_in_one vs [] ps even one any = absurd cc
all_in_one vs (s ∷ ss) [] even one any = absurd (omega arith)
all_in_one vs (s ∷ ss) (p ∷ q ∷ ps) even one any = absurd (omega arith)
all_in_one vs (s ∷ t ∷ ss) (p ∷ []) even one any = absurd (omega arith)
all_in_one vs (side.Neither ∷ []) (p ∷ []) even one any = absurd cc
all_in_one vs (side.Publisher ∷ []) (p ∷ []) even one any = absurd cc
all_in_one vs (side.Incoming ∷ []) (p ∷ []) even one any = absurd cc
all_in_one vs (side.Both ∷ []) (p ∷ []) even one any = omega arith

-- a list that fits has as many values as the conflicting cells take
taken_by : (t : Tracking) (types : List ColumnType) (ss : List Side) (ps : List Cell) (values kept : List Value) → FitsTracking t ps → value_count ps ≡ length types → length ss ≡ length ps → list_any is_both ss ≡ true
    → fit_columns (tracking_kind t) types (filter_map both_place (enumerate_from 0 ss)) values ≡ true → length kept ≡ length values → length kept ≡ taken_count (Custom kept) ss ps
taken_by tracking.Row types ss ps values kept fits columns even any fit same =
    omega (arith, fit_all_length fits_column types values fit, all_in_one kept ss ps even fits any)
taken_by tracking.ByColumn types ss ps values kept fits columns even any fit same =
    omega (arith, fit_all_length (fits_place types) (filter_map both_place (enumerate_from 0 ss)) values fit, one_each kept 0 ss ps even fits)

even_by : (t : Tracking) (types : List ColumnType) (cells : List ℕ) (values : List Value) → fit_columns (tracking_kind t) types cells values ≡ true → is_by_row (tracking_kind t) ≡ false → length cells ≡ length values
even_by tracking.Row types cells values fit by_row = absurd cc
even_by tracking.ByColumn types cells values fit by_row = fit_all_length (fits_place types) cells values fit

-- the bytes of a row with decided values
decided_length : (dot : Dot) (vs values : List Value) (ss : List Side) (ps is : List Cell) → length ss ≡ length ps → length ss ≡ length is → length values ≡ taken_count (Custom vs) ss ps
    → stored_length (result_cells dot (Custom vs) values ss ps is) ≤ row_length values + kept_length ss ps is
decided_length dot vs values [] ps is here there count = omega arith
decided_length dot vs values (s ∷ ss) [] is here there count = omega arith
decided_length dot vs values (s ∷ ss) (p ∷ ps) [] here there count = omega arith
decided_length dot vs values (side.Neither ∷ ss) (p ∷ ps) (i ∷ is) here there count =
    omega (arith, sum_by-cons (λ (cell : Cell). row_length cell.values) p (result_cells dot (Custom vs) values ss ps is), decided_length dot vs values ss ps is (omega arith) (omega arith) (omega arith))
decided_length dot vs values (side.Publisher ∷ ss) (p ∷ ps) (i ∷ is) here there count =
    omega (arith, sum_by-cons (λ (cell : Cell). row_length cell.values) p (result_cells dot (Custom vs) values ss ps is), decided_length dot vs values ss ps is (omega arith) (omega arith) (omega arith))
decided_length dot vs values (side.Incoming ∷ ss) (p ∷ ps) (i ∷ is) here there count =
    omega (arith, sum_by-cons (λ (cell : Cell). row_length cell.values) i (result_cells dot (Custom vs) values ss ps is), decided_length dot vs values ss ps is (omega arith) (omega arith) (omega arith))
decided_length dot vs values (side.Both ∷ ss) (p ∷ ps) (i ∷ is) here there count =
    let n = length p.values in
    let here_cell : Cell = record { top = dot; values = take n values } in
    let parted : row_length (take n values) + row_length (drop n values) ≡ row_length values = sym (sum_by-append value_length (take n values) (drop n values)) ∙ ap row_length (take-append-drop n values) in
    omega (arith, parted, sum_by-cons (λ (cell : Cell). row_length cell.values) here_cell (result_cells dot (Custom vs) (drop n values) ss ps is), decided_length dot vs (drop n values) ss ps is (omega arith) (omega arith) (omega (arith, length-drop n values)))

-- a list counts as itself, or as keeping the publisher's version
by_tests : (P : Decision → Type 0) (fit within : Bool) (kept : List Value) → P KeepPublisher → (fit ≡ true → within ≡ true → P (Custom kept)) → P (if fit then within_or_kept within kept else KeepPublisher)
by_tests P true true kept keep custom = custom refl refl
by_tests P true false kept keep custom = keep
by_tests P false within kept keep custom = keep

short_row_bytes : (ss : List Side) (ps is : List Cell) (values : List Value) → is_short_row ss ps is values ≡ true → row_length values + kept_length ss ps is ≤ row_limit
short_row_bytes ss ps is values short = grind (arith, nat_tests)

second_true : (a b : Bool) → (a && b) ≡ true → b ≡ true
second_true true b both = both
second_true false b both = absurd cc

is_within_bytes : (ss : List Side) (ps is : List Cell) (values : List Value) → is_within ss ps is values ≡ true → row_length values + kept_length ss ps is ≤ row_limit
is_within_bytes ss ps is values within = short_row_bytes ss ps is values (second_true (are_typed values) (is_short_row ss ps is values) within)

module _ (meeting : Meeting) (asked : Asked) where
  -- two live bodies in conflict, and a list
  module _ (ss : List Side) (ps is : List Cell) (here : length ss ≡ length ps) (any : list_any is_both ss ≡ true) (columns : HasColumns asked (Live ps)) (values : List Value) where
    abbrev the_case : ConflictCase
    the_case = case_asked meeting asked (Live ps) (Live is) (case.Conflict ss)

    abbrev kept_values : List Value
    kept_values = with_own the_case asked.identity (body_value the_case.kind (Live ps) asked.identity) values

    kept_fits : fit_columns (tracking_kind asked.tracking) asked.types (filter_map both_place (enumerate_from 0 ss)) values ≡ true → length kept_values ≡ taken_count (Custom kept_values) ss ps
    kept_fits fit =
        let same : length kept_values ≡ length values = with_own_length the_case asked.identity (body_value the_case.kind (Live ps) asked.identity) values (even_by asked.tracking asked.types (filter_map both_place (enumerate_from 0 ss)) values fit) in
        taken_by asked.tracking asked.types ss ps values kept_values columns.0 columns.1 here any fit same

    list_fits : FitsDecision (case.Conflict ss) (Live ps) (decision_for_question (question_asked meeting asked (Live ps) (Live is) (case.Conflict ss)) (Custom values))
    list_fits = by_tests (FitsDecision (case.Conflict ss) (Live ps)) _ (is_within ss ps is kept_values) kept_values tt (λ fit within. kept_fits fit)

    list_within : (dot : Dot) → length ss ≡ length is → stored_length (cells_of (case_body dot KeepPublisher (case.Conflict ss) (Live ps) (Live is))) ≤ row_limit
        → stored_length (cells_of (case_body dot (decision_for_question (question_asked meeting asked (Live ps) (Live is) (case.Conflict ss)) (Custom values)) (case.Conflict ss) (Live ps) (Live is))) ≤ row_limit
    list_within dot there keep = by_tests (λ (d : Decision). stored_length (cells_of (case_body dot d (case.Conflict ss) (Live ps) (Live is))) ≤ row_limit) _ (is_within ss ps is kept_values) kept_values keep
        (λ fit within. omega (arith, decided_length dot kept_values kept_values ss ps is here there (kept_fits fit), is_within_bytes ss ps is kept_values within))

  live_fits : (any : Bool) (ss : List Side) (ps is : List Cell) (d : Decision) → length ss ≡ length ps → list_any is_both ss ≡ any → HasColumns asked (Live ps)
      → is_conflict (if any then case.Conflict ss else case.Merge ss) ≡ true
      → FitsDecision (if any then case.Conflict ss else case.Merge ss) (Live ps) (decision_for_question (question_asked meeting asked (Live ps) (Live is) (if any then case.Conflict ss else case.Merge ss)) d)
  live_fits true ss ps is KeepPublisher here is_any columns conflict = tt
  live_fits true ss ps is TakeSubscriber here is_any columns conflict = tt
  live_fits true ss ps is (Custom values) here is_any columns conflict = list_fits ss ps is here is_any columns values
  live_fits false ss ps is d here is_any columns conflict = absurd cc

  live_within : (any : Bool) (ss : List Side) (ps is : List Cell) (d : Decision) (dot : Dot) → length ss ≡ length ps → length ss ≡ length is → list_any is_both ss ≡ any → HasColumns asked (Live ps)
      → is_conflict (if any then case.Conflict ss else case.Merge ss) ≡ true
      → stored_length (cells_of (case_body dot KeepPublisher (if any then case.Conflict ss else case.Merge ss) (Live ps) (Live is))) ≤ row_limit
      → stored_length (cells_of (case_body dot TakeSubscriber (if any then case.Conflict ss else case.Merge ss) (Live ps) (Live is))) ≤ row_limit
      → stored_length (cells_of (case_body dot (decision_for_question (question_asked meeting asked (Live ps) (Live is) (if any then case.Conflict ss else case.Merge ss)) d) (if any then case.Conflict ss else case.Merge ss) (Live ps) (Live is))) ≤ row_limit
  live_within true ss ps is KeepPublisher dot here there is_any columns conflict keep take = keep
  live_within true ss ps is TakeSubscriber dot here there is_any columns conflict keep take = take
  live_within true ss ps is (Custom values) dot here there is_any columns conflict keep take = list_within ss ps is here is_any columns values dot there keep
  live_within false ss ps is d dot here there is_any columns conflict keep take = absurd cc

  module _ (here there : Knowing) where
    fits_by : (ours theirs : Bool) (p i : Body) (d : Decision) → HaveEqualCounts p i → HasColumns asked p → is_conflict (news_case ours theirs (bodies_case here there p i)) ≡ true
        → FitsDecision (news_case ours theirs (bodies_case here there p i)) p (decision_for_question (question_asked meeting asked p i (news_case ours theirs (bodies_case here there p i))) d)
    fits_by true true (Live ps) (Live is) d counts columns conflict =
        live_fits (list_any is_both (sides_of here there ps is)) (sides_of here there ps is) ps is d (length-sides_of here there ps is counts) refl columns conflict
    fits_by true true (Live ps) (Dead i) KeepPublisher counts columns conflict = tt
    fits_by true true (Live ps) (Dead i) TakeSubscriber counts columns conflict = tt
    fits_by true true (Live ps) (Dead i) (Custom values) counts columns conflict = tt
    fits_by true true (Dead p) (Live is) KeepPublisher counts columns conflict = tt
    fits_by true true (Dead p) (Live is) TakeSubscriber counts columns conflict = tt
    fits_by true true (Dead p) (Live is) (Custom values) counts columns conflict = tt
    fits_by true true (Dead p) (Dead i) d counts columns conflict = absurd cc
    fits_by false true p i d counts columns conflict = absurd cc
    fits_by true false p i d counts columns conflict = absurd cc
    fits_by false false p i d counts columns conflict = absurd cc

    within_by : (ours theirs : Bool) (p i : Body) (d : Decision) (dot : Dot) → HaveEqualCounts p i → HasColumns asked p → is_conflict (news_case ours theirs (bodies_case here there p i)) ≡ true
        → stored_length (cells_of (case_body dot KeepPublisher (news_case ours theirs (bodies_case here there p i)) p i)) ≤ row_limit
        → stored_length (cells_of (case_body dot TakeSubscriber (news_case ours theirs (bodies_case here there p i)) p i)) ≤ row_limit
        → stored_length (cells_of (case_body dot (decision_for_question (question_asked meeting asked p i (news_case ours theirs (bodies_case here there p i))) d) (news_case ours theirs (bodies_case here there p i)) p i)) ≤ row_limit
    within_by true true (Live ps) (Live is) d dot counts columns conflict keep take =
        live_within (list_any is_both (sides_of here there ps is)) (sides_of here there ps is) ps is d dot (length-sides_of here there ps is counts) (length-sides_of here there ps is counts ∙ counts) refl columns conflict keep take
    within_by true true (Live ps) (Dead i) KeepPublisher dot counts columns conflict keep take = keep
    within_by true true (Live ps) (Dead i) TakeSubscriber dot counts columns conflict keep take = take
    within_by true true (Live ps) (Dead i) (Custom values) dot counts columns conflict keep take = keep
    within_by true true (Dead p) (Live is) KeepPublisher dot counts columns conflict keep take = keep
    within_by true true (Dead p) (Live is) TakeSubscriber dot counts columns conflict keep take = take
    within_by true true (Dead p) (Live is) (Custom values) dot counts columns conflict keep take = keep
    within_by true true (Dead p) (Dead i) d dot counts columns conflict keep take = absurd cc
    within_by false true p i d dot counts columns conflict keep take = absurd cc
    within_by true false p i d dot counts columns conflict keep take = absurd cc
    within_by false false p i d dot counts columns conflict keep take = absurd cc

pub counted_fits : CountedFits
counted_fits here there meeting asked p i d counts columns conflict = fits_by meeting asked here there (has_news there p) (has_news here i) p i d counts columns conflict

counts_by_shape : (p i : Body) → HaveSameShape p i → HaveEqualCounts p i
counts_by_shape (Live ps) (Live is) shape = omega (arith, ap length shape, length-map ps (λ (cell : Cell). length cell.values), length-map is (λ (cell : Cell). length cell.values))
counts_by_shape (Live ps) (Dead i) shape = tt
counts_by_shape (Dead p) (Live is) shape = tt
counts_by_shape (Dead p) (Dead i) shape = tt

pub counted_stays_in_limit : CountedStaysInLimit
counted_stays_in_limit here there meeting asked p i d dot shape has_columns columns ours theirs conflict =
    within_by meeting asked here there (has_news there p) (has_news here i) p i d dot (counts_by_shape p i shape) has_columns conflict
    (rows_stay_by dot here there KeepPublisher tt p i shape columns ours theirs)
    (rows_stay_by dot here there TakeSubscriber tt p i shape columns ours theirs)
