-- What an upload's items do: the versions that rows get, and those that are lost, are typed.
use Rattle.std.specs.BTreeMap.{is_at}
use Rattle.std.specs.List.{AllByRecursion}
use Rattle.std.specs.Prelude.{Bool, List, None, Option, Some, [], false, if◌then◌else◌, length, true, ℕ, ◌+◌, ◌∷◌}
use Rattle.merge_types.specs.RowKeys.{key_cmp}
use Rattle.merge_types.specs.declared.identifiers.Moment.{Moment}
use Rattle.merge_types.specs.declared.identifiers.SiteId.{SiteId}
use Rattle.merge_types.specs.declared.row_key.RowKey.{RowKey as Key}
use Rattle.merge_units.specs.Cases.{is_conflict}
use Rattle.merge_units.specs.declared.case.Case.{Case}
use Rattle.merge_units.specs.declared.result.Decision.{Decision}
use Rattle.merge_units.specs.declared.result.Decision.TheVariants.{Custom, KeepPublisher, TakeSubscriber}
use Rattle.merge_units.specs.declared.site_row.PublisherRow.{PublisherRow}
use Rattle.merge_units.specs.declared.version.Version.{Version}
use Rattle.merge_conflict.specs.Losers.{losing_rows}
use Rattle.merge_conflict.specs.declared.losers.Conflict.{Conflict}
use Rattle.merge_conflict.specs.declared.row.ConflictRow.{ConflictRow}
use Rattle.merge_resolve.specs.Questions.{question_asked}
use Rattle.merge_resolve.specs.declared.asking.Question.{Question}
use Rattle.merge_schema.specs.declared.publication.Publication.{Publication}
use Rattle.merge_batch.specs.declared.request.Upload.{Upload}
use Rattle.merge_batch.specs.declared.request.UploadItem.{UploadItem}
use Rattle.merge_model.specs.Publisher.Acts.{Act, Fate, Met, New, Unknown, act_of, acting_items, acts_from, asked_at, case_met, conflict_of, decision_for, fate_by, is_new_row, key_of_item, left_by, lost_by, lost_from, made_by, meeting_of, question_of, question_on, questions_of, version_by, version_of_act, versions_of, without_first}
use Rattle.merge_model.specs.Judge.{PublisherJudge}
use Rattle.merge_model.specs.Tables.Keys.{row_at}
use Rattle.merge_model.specs.Tables.{PublisherTables}
use Rattle.merge_model.proofs.Lists.{OfSome, all-append, all-filter_map, all-unit}
use Rattle.merge_typed.specs.Messages.{ItemIsTyped}
use Rattle.merge_typed.specs.Typed.{BodyIsTyped, LostIsTyped, MomentFits}
use Rattle.merge_typed.proofs.Entries.{values-found}
use Rattle.merge_typed.proofs.Results.{DecisionFits, body-is}
use Rattle.merge_typed.proofs.Values.{VersionIsTyped}

abbrev pub RowIsTyped : PublisherRow → Type 0
RowIsTyped row = BodyIsTyped row.version.body

abbrev pub RowsAreTyped : List (Key × PublisherRow) → Type 0
RowsAreTyped rows = AllByRecursion (λ (row : Key × PublisherRow). RowIsTyped row.1) rows

row-found : (rows : List (Key × PublisherRow)) (key : Key) → RowsAreTyped rows → OfSome RowIsTyped (row_at rows key)
row-found rows key typed = values-found RowIsTyped (is_at (key_cmp key)) rows typed

-- The questions that are asked, of rows that are typed.

abbrev QuestionIsTyped : Question → Type 0
QuestionIsTyped question = BodyIsTyped question.case.publisher

some-if : (b : Bool) (question : Question) → QuestionIsTyped question → OfSome QuestionIsTyped (if b then Some question else None)
some-if true question is = is
some-if false question is = tt

module _ (publication : Publication) (judge : PublisherJudge) (site : SiteId) where
  question-is : (moment : Moment) (key : Key) (incoming : Version) (found : Option PublisherRow) → OfSome RowIsTyped found → OfSome QuestionIsTyped (question_on publication judge site moment key incoming found)
  question-is moment key incoming None held = tt
  question-is moment key incoming (Some row) held =
      let c : Case = case_met judge key row.version incoming in
      some-if (is_conflict c) (question_asked (meeting_of publication judge site moment key row.version incoming) (asked_at publication key.article) row.version.body incoming.body c) held

pub questions-are : (publication : Publication) (judge : PublisherJudge) (m : Upload) (p : PublisherTables) → RowsAreTyped p.rows → AllByRecursion QuestionIsTyped (questions_of publication judge m p)
questions-are publication judge m p rows =
    all-filter_map (λ (item : UploadItem). Unit {0}) QuestionIsTyped (question_of publication judge m.site p) (λ item none. question-is publication judge m.site p.latest (key_of_item item) item.version (row_at p.rows (key_of_item item)) (row-found p.rows (key_of_item item) rows))
    (acting_items judge m) (all-unit (acting_items judge m))

-- The acts.

abbrev FateIsTyped : Fate → Type 0
FateIsTyped New = Unit {0}
FateIsTyped Unknown = Unit {0}
FateIsTyped (Met held c decision dot) = VersionIsTyped held × DecisionFits decision

pub record ActIsTyped (act : Act) : Type 0 where
  pub incoming : VersionIsTyped act.incoming
  pub fate : FateIsTyped act.fate

if-decision : (b : Bool) (decision : Decision) → DecisionFits decision → DecisionFits (if b then decision else KeepPublisher)
if-decision true decision is = is
if-decision false decision is = tt

decision-is : (c : Case) (decisions : List Decision) → AllByRecursion DecisionFits decisions → DecisionFits (decision_for c decisions)
decision-is c [] all = tt
decision-is c (decision ∷ decisions) all = if-decision (is_conflict c) decision all.0

first-left : (decisions : List Decision) → AllByRecursion DecisionFits decisions → AllByRecursion DecisionFits (without_first decisions)
first-left [] all = tt
first-left (decision ∷ decisions) all = all.1

if-left : (b : Bool) (decisions : List Decision) → AllByRecursion DecisionFits decisions → AllByRecursion DecisionFits (if b then without_first decisions else decisions)
if-left true decisions all = first-left decisions all
if-left false decisions all = all

left-are : (fate : Fate) (decisions : List Decision) → AllByRecursion DecisionFits decisions → AllByRecursion DecisionFits (left_by fate decisions)
left-are New decisions all = all
left-are Unknown decisions all = all
left-are (Met held c decision dot) decisions all = if-left (is_conflict c) decisions all

if-fate : (b : Bool) → FateIsTyped (if b then New else Unknown)
if-fate true = tt
if-fate false = tt

fate-is : (judge : PublisherJudge) (site : SiteId) (number : ℕ) (decisions : List Decision) (item : UploadItem) (found : Option PublisherRow) → AllByRecursion DecisionFits decisions → OfSome RowIsTyped found → FateIsTyped (fate_by judge site number decisions item found)
fate-is judge site number decisions item None all held = if-fate (is_new_row judge site (key_of_item item))
fate-is judge site number decisions item (Some row) all held = (held, decision-is (case_met judge (key_of_item item) row.version item.version) decisions all)

pub acts-are : (judge : PublisherJudge) (site : SiteId) (p : PublisherTables) (number : ℕ) (decisions : List Decision) (items : List UploadItem) → RowsAreTyped p.rows → AllByRecursion DecisionFits decisions → AllByRecursion ItemIsTyped items
    → AllByRecursion ActIsTyped (acts_from judge site p number decisions items)
acts-are judge site p number decisions [] rows all items = tt
acts-are judge site p number decisions (item ∷ items) rows all typed =
    let act : Act = act_of judge site p number decisions item in (
      record { incoming = typed.0; fate = fate-is judge site number decisions item (row_at p.rows (key_of_item item)) all (row-found p.rows (key_of_item item) rows) },
      acts-are judge site p (number + made_by act.fate) (left_by act.fate decisions) items rows (left-are act.fate decisions all) typed.1,
    )

-- What they leave.

by-fate : (incoming : Version) (fate : Fate) → VersionIsTyped incoming → FateIsTyped fate → OfSome VersionIsTyped (version_by incoming fate)
by-fate incoming New typed is = typed
by-fate incoming Unknown typed is = tt
by-fate incoming (Met held c decision dot) typed is = body-is dot decision c held.body incoming.body is.1 is.0 typed

abbrev pub PutIsTyped : Key × Version → Type 0
PutIsTyped put = VersionIsTyped put.1

put-by : (key : Key) (found : Option Version) → OfSome VersionIsTyped found → (let put : Option (Key × Version) = elim found [ None ↦ None | Some version ↦ Some (key, version) ] in OfSome PutIsTyped put)
put-by key None is = tt
put-by key (Some version) is = is

pub puts-are : (acts : List Act) → AllByRecursion ActIsTyped acts → AllByRecursion PutIsTyped (versions_of acts)
puts-are acts all = all-filter_map ActIsTyped PutIsTyped version_of_act (λ act is. put-by act.key (version_by act.incoming act.fate) (by-fate act.incoming act.fate is.incoming is.fate)) acts all

losing-are : (conflict : Conflict) (ours theirs : Version) (decision : Decision) → MomentFits conflict.moment → VersionIsTyped ours → VersionIsTyped theirs → AllByRecursion LostIsTyped (losing_rows conflict ours theirs decision)
losing-are conflict ours theirs KeepPublisher low here there = ((there, low), tt)
losing-are conflict ours theirs TakeSubscriber low here there = ((here, low), tt)
losing-are conflict ours theirs (Custom values) low here there = ((here, low), ((there, low), tt))

if-lost : (b : Bool) (rows : List ConflictRow) → AllByRecursion LostIsTyped rows → AllByRecursion LostIsTyped (if b then rows else [])
if-lost true rows all = all
if-lost false rows all = tt

lost-of : (publication : Publication) (site : SiteId) (moment : Moment) (number : ℕ) (act : Act) (fate : Fate) → MomentFits moment → VersionIsTyped act.incoming → FateIsTyped fate → AllByRecursion LostIsTyped (lost_by publication site moment number act fate)
lost-of publication site moment number act New low typed is = tt
lost-of publication site moment number act Unknown low typed is = ((typed, low), tt)
lost-of publication site moment number act (Met held c decision dot) low typed is =
    if-lost (is_conflict c) (losing_rows (conflict_of publication site moment number act.key) held act.incoming decision) (losing-are (conflict_of publication site moment number act.key) held act.incoming decision low is.0 typed)

pub lost-are : (publication : Publication) (site : SiteId) (moment : Moment) (number : ℕ) (acts : List Act) → MomentFits moment → AllByRecursion ActIsTyped acts → AllByRecursion LostIsTyped (lost_from publication site moment number acts)
lost-are publication site moment number [] low all = tt
lost-are publication site moment number (act ∷ acts) low all =
    let rows : List ConflictRow = lost_by publication site moment number act act.fate in
    all-append LostIsTyped rows (lost_from publication site moment (number + length rows) acts) (lost-of publication site moment number act act.fate low all.0.incoming all.0.fate) (lost-are publication site moment (number + length rows) acts low all.1)
