-- What resolvers decide on rows that are typed counts as a decision whose values a record can have, whatever they say.
use Rattle.std.specs.Int.{w32, w64}
use Rattle.std.specs.List.{AllByRecursion}
use Rattle.std.specs.Prelude.{Bool, FitsSigned, List, None, Option, Some, [], false, if◌then◌else◌, nat_lt, negsuc, pos, refl, slice_get, slice_index, slice_set, true, ℕ, ℤ, ◌&&◌, ◌<◌, ◌==◌, ◌^◌, ◌≡◌, ◌≤ℤ◌, ◌≤◌, ◌∷◌}
use Rattle.std.proofs.Common.{arith}
use Rattle.std.proofs.lemmas.Bool.Decides.{nat_tests}
use Rattle.std.proofs.lemmas.Int.{ints}
use Rattle.jiff_core.proofs.SignedLemmas.{signed_arith}
use Rattle.merge_types.specs.Fitting.{fits_column, has_type, is_proper, is_short}
use Rattle.merge_types.specs.declared.values.ColumnType.{ColumnType}
use Rattle.merge_types.specs.declared.values.Value.{Value}
use Rattle.merge_types.specs.declared.values.Value.TheVariants.{Bit, Bytes, Day, Guid, Int, Null, Text}
use Rattle.merge_units.specs.declared.case.Side.{Side}
use Rattle.merge_units.specs.declared.result.Decision.{Decision}
use Rattle.merge_units.specs.declared.result.Decision.TheVariants.{Custom, KeepPublisher, TakeSubscriber}
use Rattle.merge_units.specs.declared.version.Body.{Body}
use Rattle.merge_units.specs.declared.version.Body.TheVariants.{Dead, Live}
use Rattle.merge_units.specs.declared.version.Cell.{Cell}
use Rattle.merge_resolve.specs.Asked.{tallies_after_question}
use Rattle.merge_resolve.specs.Columns.{body_value, cell_value, value_in}
use Rattle.merge_resolve.specs.Counted.{counted_list, fit_all, fit_columns, fits_place, fits_some, is_by_row, is_short_row, is_within, own_placed, with_own, within_or_kept}
use Rattle.merge_resolve.specs.Questions.{decision_for_question}
use Rattle.merge_resolve.specs.ValueTypes.{are_typed, is_i32, is_i64, is_typed}
use Rattle.merge_resolve.specs.declared.asking.Question.{Question}
use Rattle.merge_resolve.specs.declared.case.CaseKind.{CaseKind}
use Rattle.merge_resolve.specs.declared.case.CaseKind.TheVariants as kind
use Rattle.merge_resolve.specs.declared.case.ConflictCase.{ConflictCase}
use Rattle.merge_record.specs.Versions.{IsValue}
use Rattle.merge_model.specs.World.Steps.{kept_decision, kept_decisions}
use Rattle.merge_model.specs.World.{Saying}
use Rattle.merge_model.proofs.Lists.{OfSome}
use Rattle.merge_typed.specs.Outside.{ValueIsTyped}
use Rattle.merge_typed.specs.Typed.{BodyIsTyped, CellIsTyped}
use Rattle.merge_typed.proofs.Entries.{all-get, all-set}
use Rattle.merge_typed.proofs.Holders.{within}
use Rattle.merge_typed.proofs.Results.{DecisionFits}
use Rattle.merge_typed.proofs.Values.{value-is}

-- Values that are of their types.

i64-fits : (z : ℤ) → is_i64 z ≡ true → FitsSigned w64 z
i64-fits z is =
    let low : negsuc 9223372036854775807 ≤ℤ z = grind (arith, ints, nat_tests, is) in
    let high : z ≤ℤ pos 9223372036854775807 = grind (arith, ints, nat_tests, is) in
    within (negsuc 9223372036854775807) (pos 9223372036854775807) z (omega (arith, signed_arith)) (omega (arith, signed_arith)) low high

i32-fits : (z : ℤ) → is_i32 z ≡ true → FitsSigned w32 z
i32-fits (pos n) is = let low : n ≤ 2147483647 = grind (arith, nat_tests, is) in omega (arith, signed_arith, low)
i32-fits (negsuc n) is = let low : n ≤ 2147483647 = grind (arith, nat_tests, is) in omega (arith, signed_arith, low)

below : (n limit : ℕ) → nat_lt n limit ≡ true → n < limit
below n limit is = grind (arith, nat_tests, is)

type-is : (value : Value) → is_typed value ≡ true → ValueIsTyped value
type-is Null is = tt
type-is (Int number) is = i64-fits number is
type-is (Bit bit) is = tt
type-is (Text text) is = is
type-is (Day day) is = i32-fits day is
type-is (Guid guid) is = below guid (2 ^ 128) is
type-is (Bytes bytes) is = tt

-- Values that fit their columns: a record can have them, once they are of their types.

abbrev FitsRecord : Value → Type 0
FitsRecord value = ValueIsTyped value → IsValue value

both-true : (a b : Bool) → (a && b) ≡ true → (a ≡ true) × (b ≡ true)
both-true true true is = (refl, refl)
both-true true false is = absurd cc
both-true false b is = absurd cc

column-is : (ty : ColumnType) (value : Value) → fits_column ty value ≡ true → ValueIsTyped value → IsValue value
column-is ty value fits typed = (let rest = both-true (is_short value) (is_proper value) (both-true (has_type ty value) (is_short value && is_proper value) fits).1 in value-is value typed rest.0 rest.1)

some-is : (found : Option ColumnType) (value : Value) → fits_some found value ≡ true → ValueIsTyped value → IsValue value
some-is None value fits typed = absurd cc
some-is (Some ty) value fits typed = column-is ty value fits typed

all-fit : {A : Type 0} (fits : A → Value → Bool) → ((a : A) (value : Value) → fits a value ≡ true → ValueIsTyped value → IsValue value) → (xs : List A) (values : List Value) → fit_all fits xs values ≡ true → AllByRecursion FitsRecord values
all-fit fits each [] [] fit = tt
all-fit fits each [] (value ∷ values) fit = absurd cc
all-fit fits each (x ∷ xs) [] fit = tt
all-fit fits each (x ∷ xs) (value ∷ values) fit = (let both = both-true (fits x value) (fit_all fits xs values) fit in (each x value both.0, all-fit fits each xs values both.1))

columns-are : (k : CaseKind) (types : List ColumnType) (cells : List ℕ) (values : List Value) → fit_columns k types cells values ≡ true → AllByRecursion FitsRecord values
columns-are k types cells values fit = by (is_by_row k) fit
  where
    by : (b : Bool) → (if b then fit_all fits_column types values else fit_all (fits_place types) cells values) ≡ true → AllByRecursion FitsRecord values
    by true fit = all-fit fits_column column-is types values fit
    by false fit = all-fit (fits_place types) (λ place value fits is. some-is (slice_get types place) value fits is) cells values fit

-- The identity column keeps its value.

cell-value : (found : Option Cell) (place : ℕ) → OfSome CellIsTyped found → OfSome IsValue (cell_value found place)
cell-value None place typed = tt
cell-value (Some cell) place typed = all-get IsValue cell.values place typed

value-in : (k : CaseKind) (cells : List Cell) (column : ℕ) → AllByRecursion CellIsTyped cells → OfSome IsValue (value_in k cells column)
value-in kind.ByRow cells column typed = cell-value (slice_get cells 0) column (all-get CellIsTyped cells 0 typed)
value-in kind.ByColumn cells column typed = cell-value (slice_get cells column) 0 (all-get CellIsTyped cells column typed)
value-in kind.Delete cells column typed = tt

own-value : (k : CaseKind) (body : Body) (column : Option ℕ) → BodyIsTyped body → OfSome IsValue (body_value k body column)
own-value k (Live cells) None typed = tt
own-value k (Live cells) (Some column) typed = value-in k cells column typed
own-value k (Dead top) column typed = tt

own-fits : (found : Option Value) → OfSome IsValue found → OfSome FitsRecord found
own-fits None is = tt
own-fits (Some value) is = λ typed. is

if-all : (b : Bool) (one other : Value) (rest : List Value) → FitsRecord one → FitsRecord other → AllByRecursion FitsRecord rest → AllByRecursion FitsRecord ((if b then one else other) ∷ rest)
if-all true one other rest is more all = (is, all)
if-all false one other rest is more all = (more, all)

placed-are : (identity : ℕ) (own : Value) (places : List ℕ) (values : List Value) → FitsRecord own → AllByRecursion FitsRecord values → AllByRecursion FitsRecord (own_placed identity own places values)
placed-are identity own [] values is all = tt
placed-are identity own (place ∷ places) [] is all = tt
placed-are identity own (place ∷ places) (value ∷ values) is all = if-all (place == identity) own value (own_placed identity own places values) is all.0 (placed-are identity own places values is all.1)

own-by : (b : Bool) (cells : List ℕ) (identity : ℕ) (own : Value) (values : List Value) → FitsRecord own → AllByRecursion FitsRecord values → AllByRecursion FitsRecord (if b then slice_set values identity own else own_placed identity own cells values)
own-by true cells identity own values is all = all-set FitsRecord values identity own is all
own-by false cells identity own values is all = placed-are identity own cells values is all

with-own : (c : ConflictCase) (identity : Option ℕ) (own : Option Value) (values : List Value) → OfSome FitsRecord own → AllByRecursion FitsRecord values → AllByRecursion FitsRecord (with_own c identity own values)
with-own c None own values is all = all
with-own c (Some identity) None values is all = all
with-own c (Some identity) (Some own) values is all = own-by (is_by_row c.kind) c.cells identity own values is all

-- What counts is of its types.

all-records : (values : List Value) → are_typed values ≡ true → AllByRecursion FitsRecord values → AllByRecursion IsValue values
all-records [] typed all = tt
all-records (value ∷ values) typed all = (let both = both-true (is_typed value) (are_typed values) typed in (all.0 (type-is value both.0), all-records values both.1 all.1))

within-fits : (b : Bool) (values : List Value) → (b ≡ true → AllByRecursion IsValue values) → DecisionFits (within_or_kept b values)
within-fits true values all = all refl
within-fits false values all = tt

if-fits : (b : Bool) (one : Decision) → (b ≡ true → DecisionFits one) → DecisionFits (if b then one else KeepPublisher)
if-fits true one is = is refl
if-fits false one is = tt

list-fits : (types : List ColumnType) (identity : Option ℕ) (sides : List Side) (c : ConflictCase) (ours theirs : Body) (values : List Value) → BodyIsTyped c.publisher → DecisionFits (counted_list types identity sides c ours theirs values)
list-fits types identity sides c (Live ours) (Live theirs) values typed =
    let kept : List Value = with_own c identity (body_value c.kind c.publisher identity) values in
    if-fits (fit_columns c.kind types c.cells values) (within_or_kept (is_within sides ours theirs kept) kept)
    (λ fit.
    let own : OfSome FitsRecord (body_value c.kind c.publisher identity) = own-fits (body_value c.kind c.publisher identity) (own-value c.kind c.publisher identity typed) in
    let all : AllByRecursion FitsRecord kept = with-own c identity (body_value c.kind c.publisher identity) values own (columns-are c.kind types c.cells values fit) in
    within-fits (is_within sides ours theirs kept) kept (λ is. all-records kept (both-true (are_typed kept) (is_short_row sides ours theirs kept) is).0 all))
list-fits types identity sides c (Live ours) (Dead top) values typed = tt
list-fits types identity sides c (Dead top) theirs values typed = tt

counts-fit : (question : Question) (decision : Decision) → BodyIsTyped question.case.publisher → DecisionFits (decision_for_question question decision)
counts-fit question KeepPublisher typed = tt
counts-fit question TakeSubscriber typed = tt
counts-fit question (Custom values) typed = list-fits question.types question.identity question.sides question.case question.case.publisher question.case.incoming values typed

answer-fits : (question : Question) (found : Option Decision) → BodyIsTyped question.case.publisher → DecisionFits (kept_decision (question, found))
answer-fits question None typed = tt
answer-fits question (Some decision) typed = counts-fit question decision typed

-- One question after the other.
pub answers-fit : (says : Saying) (tallies : List ℕ) (questions : List Question) → AllByRecursion (λ (question : Question). BodyIsTyped question.case.publisher) questions → AllByRecursion DecisionFits (kept_decisions says tallies questions)
answers-fit says tallies [] all = tt
answers-fit says tallies (question ∷ questions) all = (
  answer-fits question (says question.place (slice_index tallies question.place) question.case) all.0,
  answers-fit says (tallies_after_question tallies question.place) questions all.1,
)
